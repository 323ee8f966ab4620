-- A row of open steps, made into a route by leaving out its rings.
use Rattle.std.proofs.Common.{◌≡◌, ℕ, zero, suc, ◌+◌, ◌<◌, ◌≤◌, Bool, cond, eqb, ◌≢◌, ◌⊎◌, List, [], ◌∷◌, ◌++◌, map, length, sym, refl, ap, ◌∙◌, subst, ap₂, subst₂, inl, inr, ⊎_elim, arith}
use lib.ListN.{length-map}
use Rattle.std.specs.List.{AllByRecursion}
use Rattle.std.proofs.ByRecursion.{All-map, All-weaker}
use Rattle.std.proofs.lemmas.Bool.{cases_eq, eq-eqb, ne_eqb}
use Rattle.costs.specs.Group.{Group}
use Rattle.plan.proofs.Flow.{total, Net, Joined, Carries, Step, Ahead, Back, from, to, price, price_of, Leads, Apart, stops, NoCheap, CheapRing}
use Rattle.plan.proofs.Sums.{unit_left, total_add, total_none, total_pick}
use Rattle.plan.proofs.Costs.{adds, nats, both, at_least_or}

all_front : {X : Type 0} (P : X → Type 0) (xs ys : List X) → AllByRecursion P (xs ++ ys) → AllByRecursion P xs
all_front P [] ys h = tt
all_front P (x ∷ xs) ys h = (h.0, all_front P xs ys h.1)

all_rest : {X : Type 0} (P : X → Type 0) (xs ys : List X) → AllByRecursion P (xs ++ ys) → AllByRecursion P ys
all_rest P [] ys h = h
all_rest P (x ∷ xs) ys h = all_rest P xs ys h.1

abbrev bit : Bool → ℕ
bit b = cond b 1 0

-- how often v stands in a list
abbrev times_in : ℕ → List ℕ → ℕ
times_in v [] = 0
times_in v (x ∷ xs) = bit (eqb x v) + times_in v xs

absent : (v : ℕ) (xs : List ℕ) → AllByRecursion (λ y. v ≢ y) xs → times_in v xs ≡ 0
absent v [] h = refl
absent v (x ∷ xs) h = ap₂ ◌+◌ (ap bit (ne_eqb x v (λ e. h.0 (sym e)))) (absent v xs h.1)

once : (v : ℕ) (xs : List ℕ) → Apart xs → times_in v xs ≤ 1
once v [] h = omega arith
once v (x ∷ xs) h =
    ⊎_elim
    (λ e. let none : times_in v xs ≡ 0 = absent v xs (rw e at h.0) in
    let here : bit (eqb x v) ≡ 1 = ap bit (eq-eqb x v e) in
    omega arith)
    (λ ne. let ih = once v xs h.1 in
    let here : bit (eqb x v) ≡ 0 = ap bit (ne_eqb x v ne) in
    omega arith)
    (cases_eq x v)

counted : (n : ℕ) (xs : List ℕ) → AllByRecursion (λ x. x < n) xs → total 0 ◌+◌ n (λ v. times_in v xs) ≡ length xs
counted n [] h = total_none nats n (λ v. 0) (λ k l. refl)
counted n (x ∷ xs) h =
    let one : total 0 ◌+◌ n (λ v. bit (eqb x v)) ≡ 1 =
    total_pick nats n x (λ v. bit (eqb x v)) h.0 (λ v l ne. ap bit (ne_eqb x v (λ e. ne (sym e)))) ∙ ap bit (eq-eqb x x refl) in
    let ih = counted n xs h.1 in
    total_add nats n (λ v. bit (eqb x v)) (λ v. times_in v xs) ∙ omega arith

few : (n : ℕ) (t : ℕ → ℕ) → ((v : ℕ) → t v ≤ 1) → total 0 ◌+◌ n t ≤ n
few zero t h = omega arith
few (suc n) t h = let a = few n t h in let b = h n in omega arith

-- numbers below n that are apart are at most n
pub apart_few : (n : ℕ) (xs : List ℕ) → Apart xs → AllByRecursion (λ x. x < n) xs → length xs ≤ n
apart_few n xs apart below = rw (counted n xs below) at (few n (λ v. times_in v xs) (λ v. once v xs apart))

module _ {g : Group} (net : Net g) where
  pub price_append : (p q : List Step) → price_of net (p ++ q) ≡ g.plus (price_of net p) (price_of net q)
  price_append [] q = sym (unit_left (adds g) _)
  price_append (s ∷ p) q = ap (g.plus (price net s)) (price_append p q) ∙ sym (g.assoc _ _ _)

  pub leads_append : (u w v : ℕ) (p q : List Step) → Leads net u p w → Leads net w q v → Leads net u (p ++ q) v
  leads_append u w v [] q a b = subst (λ x. Leads net x q v) (sym a) b
  leads_append u w v (s ∷ p) q a b = (a.0, leads_append (to net s) w v p q a.1 b)

  -- steps from a to v, parted where they meet u
  record Parted (u a v : ℕ) (ss : List Step) : Type 0 where
    front : List Step
    rest : List Step
    is : ss ≡ front ++ rest
    comes : Leads net a front u
    goes : Leads net u rest v
    apart : Apart (stops net u rest)

  part : (u a v : ℕ) (ss : List Step) → Leads net a ss v → Apart (stops net a ss) → AllByRecursion (λ y. u ≢ y) (stops net a ss) ⊎ Parted u a v ss
  part u a v [] leads apart =
      ⊎_elim
      (λ e. inr (record { front = []; rest = []; is = refl; comes = sym e; goes = e ∙ leads; apart = (tt, tt) }))
      (λ ne. inl (ne, tt))
      (cases_eq u a)
  part u a v (s ∷ ss) leads apart =
      ⊎_elim
      (λ e. inr (record { front = []; rest = s ∷ ss; is = refl; comes = sym e; goes = (leads.0 ∙ sym e, leads.1); apart = subst (λ p. Apart (stops net p (s ∷ ss))) (sym e) apart }))
      (λ ne. ⊎_elim
      (λ all. inl (ne, all))
      (λ p. inr (record { front = s ∷ p.front; rest = p.rest; is = ap (λ r. s ∷ r) p.is; comes = (leads.0, p.comes); goes = p.goes; apart = p.apart }))
      (part u (to net s) v ss leads.1 apart.1))
      (cases_eq u a)

  -- a route that costs no more
  pub record Simple (f : List ℕ) (u : ℕ) (ss : List Step) (v : ℕ) : Type 0 where
    pub steps : List Step
    pub leads : Leads net u steps v
    pub opens : AllByRecursion (Carries net f 1) steps
    pub apart : Apart (stops net u steps)
    pub cheaper : g.le (price_of net steps) (price_of net ss)

  all_heads : (P : ℕ → Type 0) (p q : List Step) → AllByRecursion P (map (to net) (p ++ q)) → AllByRecursion P (map (to net) p)
  all_heads P [] q h = tt
  all_heads P (s ∷ p) q h = (h.0, all_heads P p q h.1)

  apart_heads : (p q : List Step) → Apart (map (to net) (p ++ q)) → Apart (map (to net) p)
  apart_heads [] q h = tt
  apart_heads (s ∷ p) q h = (all_heads (λ y. to net s ≢ y) p q h.0, apart_heads p q h.1)

  -- a row is made into a route that costs no more, or has a ring that costs less than zero
  pub simple_or : (f : List ℕ) (u v : ℕ) (ss : List Step) → Leads net u ss v → AllByRecursion (Carries net f 1) ss → CheapRing net f ⊎ Simple f u ss v
  simple_or f u v [] leads opens = inr (record { steps = []; leads = leads; opens = tt; apart = (tt, tt); cheaper = g.refl_le _ })
  simple_or f u v (s ∷ ss) leads opens = ⊎_elim inl from_rest (simple_or f (to net s) v ss leads.1 opens.1)
    where
      from_rest : Simple f (to net s) ss v → CheapRing net f ⊎ Simple f u (s ∷ ss) v
      from_rest r = ⊎_elim
          (λ all. inr (record { steps = s ∷ r.steps; leads = (leads.0, r.leads); opens = (opens.0, r.opens); apart = (all, r.apart); cheaper = kept }))
          met (part u (to net s) v r.steps r.leads r.apart)
        where
          kept : g.le (price_of net (s ∷ r.steps)) (price_of net (s ∷ ss))
          kept = both g _ _ _ _ (g.refl_le _) r.cheaper

          met : Parted u (to net s) v r.steps → CheapRing net f ⊎ Simple f u (s ∷ ss) v
          met p = ⊎_elim (λ l. inr (without l)) (λ b. inl (record {
            place = u;
            first = s;
            rest = p.front;
            row = record { leads = (leads.0, p.comes); opens = (opens.0, all_front _ p.front p.rest opened) };
            apart = apart_heads (s ∷ p.front) p.rest (subst (λ z. Apart (stops net (to net s) z)) p.is r.apart);
            below = b.0;
            other = b.1;
          })) (at_least_or g g.zero (price_of net (s ∷ p.front)))
            where
              opened : AllByRecursion (Carries net f 1) (p.front ++ p.rest)
              opened = subst (AllByRecursion (Carries net f 1)) p.is r.opens

              without : g.le g.zero (price_of net (s ∷ p.front)) → Simple f u (s ∷ ss) v
              without ring =
                  let less : g.le (price_of net p.rest) (price_of net (s ∷ r.steps)) =
                  subst₂ g.le (unit_left (adds g) _) (g.assoc _ _ _ ∙ ap (g.plus (price net s)) (sym (price_append p.front p.rest) ∙ ap (price_of net) (sym p.is))) (g.shift _ _ (price_of net p.rest) ring) in
                  record { steps = p.rest; leads = p.goes; opens = all_rest _ p.front p.rest opened; apart = p.apart; cheaper = g.trans _ _ _ less kept }

  pub simple : (f : List ℕ) → NoCheap net f → (u v : ℕ) (ss : List Step) → Leads net u ss v → AllByRecursion (Carries net f 1) ss → Simple f u ss v
  simple f sound u v ss leads opens = ⊎_elim (λ c. absurd (sound c)) (λ r. r) (simple_or f u v ss leads opens)

  -- an open step joins two places
  pub from_inside : Joined net → (f : List ℕ) (s : Step) → Carries net f 1 s → from net s < net.places
  from_inside joined f (Ahead k) c = joined.tails k c.real
  from_inside joined f (Back k) c = joined.heads k c.real

  pub to_inside : Joined net → (f : List ℕ) (s : Step) → Carries net f 1 s → to net s < net.places
  to_inside joined f (Ahead k) c = joined.heads k c.real
  to_inside joined f (Back k) c = joined.tails k c.real

  -- a route has fewer steps than there are places
  pub simple_short : Joined net → (f : List ℕ) (u : ℕ) (ss : List Step) → u < net.places → AllByRecursion (Carries net f 1) ss → Apart (stops net u ss) → length ss < net.places
  simple_short joined f u ss b opens apart =
      let all : AllByRecursion (λ x. x < net.places) (stops net u ss) = (b, All-map _ (to net) ss (All-weaker _ _ (to_inside joined f) ss opens)) in
      let most = apart_few net.places (stops net u ss) apart all in
      let same = length-map ss (to net) in
      omega arith
