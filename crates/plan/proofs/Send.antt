-- Sending more along a route: limits, what leaves each place, and a potential that is tight along it.
use Rattle.std.proofs.Common.{◌≡◌, ℕ, zero, suc, ◌+◌, ◌-◌, ◌<◌, ◌≤◌, Bool, true, false, cond, eqb, ◌≢◌, List, [], ◌∷◌, map, length, get_or, set, ℤ, pos, ◌+ℤ◌, ◌-ℤ◌, sym, refl, ap, ◌∙◌, subst, ap₂, ⊎_elim, arith, length-set, get_or-set_other, get_or-set_same}
use Rattle.std.specs.List.{AllByRecursion}
use Rattle.std.proofs.lemmas.Int.{ints}
use Rattle.std.proofs.lemmas.Bool.{cases_eq}
use Rattle.costs.specs.Group.{Group}
use Rattle.plan.proofs.Flow.{total, unit_of, Net, Keeps, Carries, Potential, Step, Ahead, Back, which, from, to, price, room, way, count, leaving, out, into, Leads, Apart, stops, send, send_step_lem, Tight}
use Rattle.plan.proofs.Costs.{undo}

pub all_with : {X : Type 0} {P Q : X → Type 0} (R : X → Type 0) → ((x : X) → P x → Q x → R x) → (xs : List X) → AllByRecursion P xs → AllByRecursion Q xs → AllByRecursion R xs
all_with R h [] p q = tt
all_with R h (x ∷ xs) p q = (h x p.0 q.0, all_with R h xs p.1 q.1)

-- a sum of which one term changes
change : (m k : ℕ) (s t : ℕ → ℕ) → k < m → ((j : ℕ) → j ≢ k → s j ≡ t j) → total 0 ◌+◌ m s + t k ≡ total 0 ◌+◌ m t + s k
change zero k s t l h = absurd (omega arith)
change (suc m) k s t l h =
    ⊎_elim
    (λ e. let same : total 0 ◌+◌ m s ≡ total 0 ◌+◌ m t = unchanged m (λ j b. h j (omega arith)) in
    let a = ap s e in
    let b = ap t e in
    omega arith)
    (λ ne. let ih = change m k s t (omega arith) h in
    let last : s m ≡ t m = h m (omega arith) in
    omega arith)
    (cases_eq k m)
  where
    unchanged : (n : ℕ) → ((j : ℕ) → j < n → s j ≡ t j) → total 0 ◌+◌ n s ≡ total 0 ◌+◌ n t
    unchanged zero e = refl
    unchanged (suc n) e = ap₂ ◌+◌ (unchanged n (λ j b. e j (omega arith))) (e n (omega arith))

-- x at the place u, and none at others
abbrev pub spot : ℕ → ℕ → ℕ → ℤ
spot x u w = cond (eqb u w) (pos x) (pos 0)

-- with a the amount on the way before, and o and i what leaves and enters
went_ahead : (bt bh : Bool) (a x o i o' i' : ℕ) →
    o' + cond bt a 0 ≡ o + cond bt (a + x) 0 → i' + cond bh a 0 ≡ i + cond bh (a + x) 0 →
    (pos o' -ℤ pos i') +ℤ cond bh (pos x) (pos 0) ≡ (pos o -ℤ pos i) +ℤ cond bt (pos x) (pos 0)
went_ahead true true a x o i o' i' p q = omega (arith, ints)
went_ahead true false a x o i o' i' p q = omega (arith, ints)
went_ahead false true a x o i o' i' p q = omega (arith, ints)
went_ahead false false a x o i o' i' p q = omega (arith, ints)

went_back : (bt bh : Bool) (a x o i o' i' : ℕ) → x ≤ a →
    o' + cond bt a 0 ≡ o + cond bt (a - x) 0 → i' + cond bh a 0 ≡ i + cond bh (a - x) 0 →
    (pos o' -ℤ pos i') +ℤ cond bt (pos x) (pos 0) ≡ (pos o -ℤ pos i) +ℤ cond bh (pos x) (pos 0)
went_back true true a x o i o' i' l p q = omega (arith, ints)
went_back true false a x o i o' i' l p q = omega (arith, ints)
went_back false true a x o i o' i' l p q = omega (arith, ints)
went_back false false a x o i o' i' l p q = omega (arith, ints)

-- a load with y put on the way k
put_total : (m : ℕ) (end : ℕ → ℕ) (f : List ℕ) (k y w : ℕ) → k < m → length f ≡ m →
    total 0 ◌+◌ m (λ j. cond (eqb (end j) w) (get_or (set f k y) j 0) 0) + cond (eqb (end k) w) (get_or f k 0) 0
    ≡ total 0 ◌+◌ m (λ j. cond (eqb (end j) w) (get_or f j 0) 0) + cond (eqb (end k) w) y 0
put_total m end f k y w l e =
    change m k (λ j. cond (eqb (end j) w) (get_or (set f k y) j 0) 0) (λ j. cond (eqb (end j) w) (get_or f j 0) 0) l
    (λ j ne. ap (λ n. cond (eqb (end j) w) n 0) (get_or-set_other f k j y 0 ne))
    ∙ ap (λ n. total 0 ◌+◌ m (λ j. cond (eqb (end j) w) (get_or f j 0) 0) + cond (eqb (end k) w) n 0) (get_or-set_same f k y 0 (omega arith))

module _ {g : Group} (net : Net g) where
  put_keeps : (f : List ℕ) (k y : ℕ) → Keeps net f → k < count net → y ≤ (way net k).limit → Keeps net (set f k y)
  put_keeps f k y keeps l h = record {
    whole = length-set f k y ∙ keeps.whole;
    within = λ j b. ⊎_elim
        (λ e. let r = get_or-set_same f k y 0 (rw keeps.whole l) in
        let is : get_or (set f k y) j 0 ≡ y = ap (λ i. get_or (set f k y) i 0) e ∙ r in
        let lim = ap (λ i. (way net i).limit) e in
        omega arith)
        (λ ne. let is = get_or-set_other f k j y 0 ne in let old = keeps.within j b in omega arith)
        (cases_eq j k);
  }

  pub step_keeps : (f : List ℕ) (x : ℕ) (s : Step) → Keeps net f → Carries net f x s → Keeps net (send_step_lem x s f)
  step_keeps f x (Ahead k) keeps c =
      let old = keeps.within k c.real in
      put_keeps f k _ keeps c.real (omega (arith, c.enough))
  step_keeps f x (Back k) keeps c =
      let old = keeps.within k c.real in
      put_keeps f k _ keeps c.real (omega arith)

  step_leaving : (f : List ℕ) (x : ℕ) (s : Step) (w : ℕ) → Keeps net f → Carries net f x s →
      leaving net (send_step_lem x s f) w +ℤ spot x (to net s) w ≡ leaving net f w +ℤ spot x (from net s) w
  step_leaving f x (Ahead k) w keeps c =
      went_ahead (eqb (way net k).tail w) (eqb (way net k).head w) (get_or f k 0) x (out net f w) (into net f w) _ _
      (put_total (count net) (λ j. (way net j).tail) f k _ w c.real keeps.whole)
      (put_total (count net) (λ j. (way net j).head) f k _ w c.real keeps.whole)
  step_leaving f x (Back k) w keeps c =
      went_back (eqb (way net k).tail w) (eqb (way net k).head w) (get_or f k 0) x (out net f w) (into net f w) _ _ c.enough
      (put_total (count net) (λ j. (way net j).tail) f k _ w c.real keeps.whole)
      (put_total (count net) (λ j. (way net j).head) f k _ w c.real keeps.whole)

  -- a step along another way has the room that it had
  other_room : (f : List ℕ) (x : ℕ) (s d : Step) → which d ≢ which s → room net (send_step_lem x s f) d ≡ room net f d
  other_room f x (Ahead k) (Ahead j) ne = ap (λ a. (way net j).limit - a) (get_or-set_other f k j _ 0 ne)
  other_room f x (Ahead k) (Back j) ne = get_or-set_other f k j _ 0 ne
  other_room f x (Back k) (Ahead j) ne = ap (λ a. (way net j).limit - a) (get_or-set_other f k j _ 0 ne)
  other_room f x (Back k) (Back j) ne = get_or-set_other f k j _ 0 ne

  -- two steps along one way share the place where the first starts
  pub one_way : (s d : Step) → from net s ≢ from net d → from net s ≢ to net d → which d ≢ which s
  one_way (Ahead k) (Ahead j) p q e = p (ap (λ i. (way net i).tail) (sym e))
  one_way (Ahead k) (Back j) p q e = q (ap (λ i. (way net i).tail) (sym e))
  one_way (Back k) (Ahead j) p q e = q (ap (λ i. (way net i).head) (sym e))
  one_way (Back k) (Back j) p q e = p (ap (λ i. (way net i).head) (sym e))

  -- what holds of each stop holds of both ends of each step
  pub both_ends : (P : ℕ → Type 0) (u v : ℕ) (ss : List Step) → Leads net u ss v → P u → AllByRecursion P (map (to net) ss) → AllByRecursion (λ d. P (from net d) × P (to net d)) ss
  both_ends P u v [] leads p all = tt
  both_ends P u v (s ∷ ss) leads p all = ((subst P (sym leads.0) p, all.0), both_ends P (to net s) v ss leads.1 all.0 all.1)

  pub still_carries : (f : List ℕ) (x y : ℕ) (s d : Step) → which d ≢ which s → Carries net f y d → Carries net (send_step_lem x s f) y d
  still_carries f x y s d ne c = record { real = c.real; enough = rw (other_room f x s d ne) c.enough }

  -- x more, sent along a route from u to v, leaves u, arrives at v, and passes all other places
  pub along : (x u v : ℕ) (ss : List Step) (f : List ℕ) → Keeps net f → Leads net u ss v → Apart (stops net u ss) → AllByRecursion (Carries net f x) ss →
      Keeps net (send x ss f) × ((w : ℕ) → leaving net (send x ss f) w +ℤ spot x v w ≡ leaving net f w +ℤ spot x u w)
  along x u v [] f keeps leads apart carries = (keeps, λ w. ap (λ p. leaving net f w +ℤ spot x p w) (sym leads))
  along x u v (s ∷ ss) f keeps leads apart carries =
      let ends : AllByRecursion (λ d. (u ≢ from net d) × (u ≢ to net d)) ss = both_ends (λ p. u ≢ p) (to net s) v ss leads.1 apart.0.0 apart.0.1 in
      let left : AllByRecursion (Carries net (send_step_lem x s f) x) ss =
      all_with _ (λ d e c. still_carries f x x s d (one_way s d (rw leads.0 e.0) (rw leads.0 e.1)) c) ss ends carries.1 in
      let rest = along x (to net s) v ss (send_step_lem x s f) (step_keeps f x s keeps carries.0) leads.1 apart.1 left in
      (rest.0, λ w. rest.1 w ∙ step_leaving f x s w keeps carries.0 ∙ ap (λ p. leaving net f w +ℤ spot x p w) leads.0)

  -- a tight step leaves its way tight both ways
  tight_both : (π : ℕ → g.Carrier) (s d : Step) → which d ≡ which s → Tight net π s → g.le (π (to net d)) (g.plus (π (from net d)) (price net d))
  tight_both π (Ahead k) (Ahead j) e t = rw e (subst (g.le _) t (g.refl_le _))
  tight_both π (Ahead k) (Back j) e t = rw e (subst (g.le _) (sym (ap (λ z. g.plus z (g.opp (way net k).cost)) t ∙ undo g _ _)) (g.refl_le _))
  tight_both π (Back k) (Ahead j) e t = rw e (subst (g.le _) (sym (ap (λ z. g.plus z (way net k).cost) t ∙ g.assoc _ _ _ ∙ ap (g.plus (π (way net k).head)) (g.comm _ _ ∙ g.inverse _) ∙ unit_of g _)) (g.refl_le _))
  tight_both π (Back k) (Back j) e t = rw e (subst (g.le _) t (g.refl_le _))

-- a potential stays one when more is sent along steps that are tight for it
pub stays : (g : Group) (net : Net g) (f : List ℕ) (π : ℕ → g.Carrier) (x : ℕ) (ss : List Step) → Potential net f π → AllByRecursion (Tight net π) ss → Potential net (send x ss f) π
stays g net f π x [] valid tight = valid
stays g net f π x (s ∷ ss) valid tight =
    stays g net (send_step_lem x s f) π x ss
    (λ d c. ⊎_elim
    (λ e. tight_both net π s d e tight.0)
    (λ ne. valid d (record { real = c.real; enough = rw (other_room net f x s d ne) at c.enough }))
    (cases_eq (which d) (which s)))
    tight.1
