-- A potential for which a cheapest route is tight; and what a place that is cut off says.
use Rattle.std.proofs.Common.{◌≡◌, ℕ, zero, suc, ◌<◌, Bool, true, false, ◌⊎◌, List, [], ◌∷◌, sym, refl, subst, inl, inr, ⊎_elim, arith}
use Rattle.std.specs.List.{AllByRecursion}
use Rattle.std.proofs.lemmas.Bool.{cases_eq, false≢true}
use Rattle.costs.specs.Group.{Group}
use Rattle.plan.proofs.Flow.{Net, Joined, Carries, Potential, Closed, Step, from, to, price, price_of, Row, Route, Tight}
use Rattle.plan.proofs.Costs.{both}
use Rattle.plan.proofs.Algebra.{var, ◌⊞◌, neg, moved}
use Rattle.plan.proofs.Rings.{tight_steps}
use Rattle.plan.proofs.Shorter.{to_inside}
use Rattle.plan.proofs.Cheapest.{row_more, price_more}

-- some cost is at least each of finitely many
pub bound : (g : Group) (n : ℕ) (t : ℕ → g.Carrier) → (m : g.Carrier) × ((k : ℕ) → k < n → g.le (t k) m)
bound g zero t = (g.zero, λ k l. absurd (omega arith))
bound g (suc n) t =
    let b = bound g n t in
    ⊎_elim
    (λ l. (t n, λ k h. ⊎_elim (λ e. subst (λ j. g.le (t j) (t n)) (sym e) (g.refl_le _)) (λ ne. g.trans _ _ _ (b.1 k (omega arith)) l) (cases_eq k n)))
    (λ l. (b.0, λ k h. ⊎_elim (λ e. subst (λ j. g.le (t j) b.0) (sym e) l) (λ ne. b.1 k (omega arith)) (cases_eq k n)))
    (g.total b.0 (t n))

module _ {g : Group} (net : Net g) (f : List ℕ) (u : ℕ) where
  -- v is reached by no row from u, or by a cheapest route
  abbrev pub Reached : ℕ → Type 0
  Reached v = ((ss : List Step) → Row net f u ss v → ⊥) ⊎ ((ss : List Step) × Route net f 1 u ss v × ((rs : List Step) → Row net f u rs v → g.le (price_of net ss) (price_of net rs)))

  abbrev pub in_reach : {v : ℕ} → Reached v → Bool
  in_reach (inl a) = false
  in_reach (inr a) = true

  here : Row net f u [] u
  here = record { leads = refl; opens = tt }

  as_row : {ss : List Step} {v : ℕ} → Route net f 1 u ss v → Row net f u ss v
  as_row r = record { leads = r.leads; opens = r.carries }

  module _ (π : ℕ → g.Carrier) (joined : Joined net) (valid : Potential net f π) (reached : (v : ℕ) → Reached v) where
    gap : (v : ℕ) → Reached v → g.Carrier
    gap v (inl a) = g.zero
    gap v (inr a) = g.plus (price_of net a.0) (g.opp (π v))

    far : (m : g.Carrier) × ((k : ℕ) → k < net.places → g.le (gap k (reached k)) m)
    far = bound g net.places (λ v. gap v (reached v))

    raised : (v : ℕ) → Reached v → g.Carrier
    raised v (inl a) = g.plus (π v) far.0
    raised v (inr a) = price_of net a.0

    holds : (s : Step) → Carries net f 1 s → (a : Reached (from net s)) (b : Reached (to net s)) → g.le (gap (to net s) b) far.0 → g.le (raised (to net s) b) (g.plus (raised (from net s) a) (price net s))
    unfolding gap raised
    holds s c (inl a) (inl b) h =
        moved g (π (to net s) ∷ π (from net s) ∷ price net s ∷ far.0 ∷ []) (var 0) (var 1 ⊞ var 2) (var 0 ⊞ var 3) ((var 1 ⊞ var 3) ⊞ var 2) refl (valid s c)
    holds s c (inl a) (inr b) h =
        let ts = price_of net b.0 ∷ π (to net s) ∷ π (from net s) ∷ price net s ∷ far.0 ∷ [] in
        moved g ts ((var 0 ⊞ neg (var 1)) ⊞ var 1) (var 4 ⊞ (var 2 ⊞ var 3)) (var 0) ((var 2 ⊞ var 4) ⊞ var 3) refl (both g _ _ _ _ h (valid s c))
    holds s c (inr a) (inl b) h = absurd (b _ (row_more net f u s a.0 c (as_row a.1)))
    holds s c (inr a) (inr b) h = subst (g.le _) (price_more net s a.0) (b.2 _ (row_more net f u s a.0 c (as_row a.1)))

    least_rise : (t : ℕ) (ss : List Step) → Row net f u ss t → ((rs : List Step) → Route net f 1 u rs t → g.le (price_of net ss) (price_of net rs)) →
        (a : Reached u) (b : Reached t) → g.le (g.plus (raised u a) (price_of net ss)) (raised t b)
    unfolding raised
    least_rise t ss row least (inl a) b = absurd (a [] here)
    least_rise t ss row least (inr a) (inl b) = absurd (b ss row)
    least_rise t ss row least (inr a) (inr b) = subst (g.le _) (g.unit _) (both g _ _ _ _ (a.2 [] here) (least b.0 b.1))

    pub augment : (t : ℕ) (ss : List Step) → Row net f u ss t → ((rs : List Step) → Route net f 1 u rs t → g.le (price_of net ss) (price_of net rs)) →
        (π' : ℕ → g.Carrier) × Potential net f π' × AllByRecursion (Tight net π') ss
    augment t ss row least =
        let π' : ℕ → g.Carrier = λ v. raised v (reached v) in
        let valid' : Potential net f π' = λ s c. holds s c (reached (from net s)) (reached (to net s)) (far.1 (to net s) (to_inside net joined f s c)) in
        (π', valid', tight_steps g net f π' u t ss valid' row.leads row.opens (least_rise t ss row least (reached u) (reached t)))

  module _ (reached : (v : ℕ) → Reached v) where
    closed_by : (s : Step) → Carries net f 1 s → (a : Reached (from net s)) (b : Reached (to net s)) → in_reach a ≡ true → in_reach b ≡ true
    closed_by s c (inl a) b e = absurd (false≢true e)
    closed_by s c (inr a) (inl b) e = absurd (b _ (row_more net f u s a.0 c (as_row a.1)))
    closed_by s c (inr a) (inr b) e = refl

    -- no open step leaves the reach of u
    pub reach_closed : Closed net f (λ v. in_reach (reached v))
    reach_closed s c = closed_by s c (reached (from net s)) (reached (to net s))

    starts_in : (a : Reached u) → in_reach a ≡ true
    starts_in (inl a) = absurd (a [] here)
    starts_in (inr a) = refl

    pub reach_start : in_reach (reached u) ≡ true
    reach_start = starts_in (reached u)

  pub reach_route : {v : ℕ} (a : Reached v) → in_reach a ≡ true → (ss : List Step) × Route net f 1 u ss v
  reach_route (inl a) e = absurd (false≢true e)
  reach_route (inr a) e = (a.0, a.1)
