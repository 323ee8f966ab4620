-- Whether some ring costs less than zero is decided.
use Rattle.std.proofs.Common.{◌≡◌, ℕ, zero, suc, ◌<◌, ◌≤◌, ◌≢◌, ◌⊎◌, List, [], ◌∷◌, map, length, sym, refl, subst, inl, inr, ⊎_elim, arith}
use lib.ListN.{length-map}
use Rattle.std.specs.List.{AllByRecursion}
use Rattle.std.proofs.ByRecursion.{All-map, All-weaker}
use Rattle.std.proofs.lemmas.Bool.{cases_eq}
use Rattle.costs.specs.Group.{Group}
use Rattle.plan.proofs.Flow.{Net, Joined, Step, Apart, to, price_of, Leads, Row, stops, NoCheap, CheapRing}
use Rattle.plan.proofs.Costs.{at_least_or}
use Rattle.plan.proofs.Shorter.{Simple, simple_or, apart_few, from_inside, to_inside}
use Rattle.plan.proofs.Least.{Least, ShortRow, best}

-- some number below n has P, or each has Q
pub search_below : (n : ℕ) (P Q : ℕ → Type 0) → ((k : ℕ) → k < n → P k ⊎ Q k) → ((k : ℕ) × (k < n) × P k) ⊎ ((k : ℕ) → k < n → Q k)
search_below zero P Q h = inr (λ k l. absurd (omega arith))
search_below (suc n) P Q h =
    ⊎_elim
    (λ p. let l = p.1 in inl (p.0, omega arith, p.2))
    (λ all. ⊎_elim
    (λ p. inl (n, omega arith, p))
    (λ q. inr (λ k l. ⊎_elim (λ e. subst Q (sym e) q) (λ ne. all k (omega arith)) (cases_eq k n)))
    (h n (omega arith)))
    (search_below n P Q (λ k l. h k (omega arith)))

-- the lowest number below n that has P, or each has Q
pub lowest_below : (n : ℕ) (P Q : ℕ → Type 0) → ((k : ℕ) → k < n → P k ⊎ Q k) → ((k : ℕ) × (k < n) × P k × ((j : ℕ) → j < k → Q j)) ⊎ ((k : ℕ) → k < n → Q k)
lowest_below zero P Q h = inr (λ k l. absurd (omega arith))
lowest_below (suc n) P Q h =
    ⊎_elim
    (λ p. let l = p.1 in inl (p.0, omega arith, p.2, p.3))
    (λ all. ⊎_elim
    (λ p. inl (n, omega arith, p, all))
    (λ q. inr (λ k l. ⊎_elim (λ e. subst Q (sym e) q) (λ ne. all k (omega arith)) (cases_eq k n)))
    (h n (omega arith)))
    (lowest_below n P Q (λ k l. h k (omega arith)))

module _ {g : Group} (net : Net g) (f : List ℕ) where
  -- the place where steps end is met
  ended : (a v : ℕ) (ss : List Step) → Leads net a ss v → AllByRecursion (λ y. v ≢ y) (stops net a ss) → ⊥
  ended a v [] leads h = h.0 (sym leads)
  ended a v (s ∷ ss) leads h = ended (to net s) v ss leads.1 h.1

  -- a route back to where it starts has no step
  still : (u : ℕ) (ss : List Step) → Leads net u ss u → Apart (stops net u ss) → price_of net ss ≡ g.zero
  still u [] leads apart = refl
  still u (s ∷ ss) leads apart = absurd (ended (to net s) u ss leads.1 apart.0)

  below_cheap : (u : ℕ) (ss : List Step) → Row net f u ss u → g.le (price_of net ss) g.zero → price_of net ss ≢ g.zero → CheapRing net f
  below_cheap u ss row below other = ⊎_elim (λ c. c) (λ r. absurd (never r)) (simple_or net f u u ss row.leads row.opens)
    where
      never : Simple net f u ss u → ⊥
      never r = other (g.antisym _ _ below (subst (λ z. g.le z (price_of net ss)) (still u r.steps r.leads r.apart) r.cheaper))

  module _ (joined : Joined net) where
    -- no short ring through u costs less than zero
    Fair : ℕ → Type 0
    Fair u = (ss : List Step) → ShortRow net f net.places u u ss → g.le g.zero (price_of net ss)

    fair_or : (u : ℕ) → CheapRing net f ⊎ Fair u
    unfolding Fair
    fair_or u = by (best net f net.places u u)
      where
        by : Least net (ShortRow net f net.places u u) → CheapRing net f ⊎ ((ss : List Step) → ShortRow net f net.places u u ss → g.le g.zero (price_of net ss))
        by (inl a) = inr (λ ss row. absurd (a ss row))
        by (inr a) = ⊎_elim
            (λ l. inr (λ ss row. g.trans _ _ _ l (a.2 ss row)))
            (λ b. inl (below_cheap u a.0 a.1.1 b.0 b.1))
            (at_least_or g g.zero (price_of net a.0))

    short_ring : (c : CheapRing net f) → length (c.first ∷ c.rest) ≤ net.places
    short_ring c =
        let ss = c.first ∷ c.rest in
        let all : AllByRecursion (λ x. x < net.places) (map (to net) ss) = All-map _ (to net) ss (All-weaker _ _ (to_inside net joined f) ss c.row.opens) in
        let most = apart_few net.places (map (to net) ss) c.apart all in
        let same = length-map ss (to net) in
        omega arith

    pub cheap_or : CheapRing net f ⊎ NoCheap net f
    unfolding Fair
    cheap_or = ⊎_elim (λ p. inl p.2) (λ fair. inr (none fair)) (search_below net.places (λ k. CheapRing net f) Fair (λ k l. fair_or k))
      where
        none : ((k : ℕ) → k < net.places → Fair k) → NoCheap net f
        none fair c =
            let b : c.place < net.places = subst (λ p. p < net.places) c.row.leads.0 (from_inside net joined f c.first c.row.opens.0) in
            c.other (g.antisym _ _ c.below (fair c.place b (c.first ∷ c.rest) (short_ring c, c.row)))
