-- The worked network: its prices, a route that takes a way back, and a reach that is booked too much.
use Rattle.std.proofs.Common.{◌≡◌, ℕ, ◌+◌, ◌<◌, ◌≤◌, ◌⊎◌, List, [], ◌∷◌, get_or, ℤ, pos, negsuc, ◌+ℤ◌, ◌-ℤ◌, neg_ℤ, refl, inl, inr, ⊎_elim, arith}
use lib.Signed.{le_z_yes}
use Rattle.std.proofs.lemmas.Int.{ints}
use Rattle.plan.specs.declared.step.Step.{Step}
use Rattle.plan.specs.declared.step.Step.TheVariants.{Ahead, Back}
use Rattle.plan.specs.Edges.{pairs, worked, loads, three_bookings}
use Rattle.plan.specs.Law.{bookings, Possible}
use Rattle.plan.specs.Loads.{leaving, Keeps}
use Rattle.plan.specs.Standing.{Potential}
use Rattle.plan.specs.Steps.{Route, Reach, Least, Price, forth, behind, there, then}
use Rattle.plan.proofs.EachWay.{at_each, potential_by, under_by, stays_by}

-- the prices at the loads 1 1 2 3 1
abbrev prices : List (ℤ × ℤ)
prices = (negsuc 0, negsuc 5) ∷ (negsuc 0, negsuc 6) ∷ (negsuc 0, negsuc 4) ∷ (pos 0, pos 0) ∷ (pos 0, pos 0) ∷ []

abbrev π : ℕ → ℤ × ℤ
π v = get_or prices v (pos 0, pos 0)

low : (v : ℕ) → pairs.group.le (π v) (pos 0, pos 0)
low = at_each (λ z. pairs.group.le z (pos 0, pos 0)) prices (pos 0, pos 0) (
  (le_z_yes tt, λ e. absurd (omega (arith, ints))),
  (
    (le_z_yes tt, λ e. absurd (omega (arith, ints))),
    (
      (le_z_yes tt, λ e. absurd (omega (arith, ints))),
      (
        (le_z_yes tt, λ e. le_z_yes tt),
        ((le_z_yes tt, λ e. le_z_yes tt), tt),
      ),
    ),
  ),
)
    (le_z_yes tt, λ e. le_z_yes tt)

valid : Potential pairs worked (loads 1 1 2 3 1) π
valid = potential_by pairs worked (loads 1 1 2 3 1) π (
  (λ l. (le_z_yes tt, λ e. le_z_yes tt), λ l. (le_z_yes tt, λ e. le_z_yes tt)),
  (
    (λ l. (le_z_yes tt, λ e. le_z_yes tt), λ l. (le_z_yes tt, λ e. le_z_yes tt)),
    (
      (λ l. (le_z_yes tt, λ e. le_z_yes tt), λ l. (le_z_yes tt, λ e. le_z_yes tt)),
      (
        (λ l. absurd (omega arith), λ l. (le_z_yes tt, λ e. absurd (omega (arith, ints)))),
        ((λ l. (le_z_yes tt, λ e. le_z_yes tt), λ l. (le_z_yes tt, λ e. le_z_yes tt)), tt),
      ),
    ),
  ),
)

priced : (v u : ℕ) → u < 5 → (ss : List Step) → Route pairs worked (loads 1 1 2 3 1) 1 u ss v (π v) → Price pairs worked (loads 1 1 2 3 1) v (π v)
priced v u l ss route = record {
  taken = (u, ss, l, route);
  least = λ u' ss' d l' r. under_by pairs worked (loads 1 1 2 3 1) π valid (low u') r;
}

pub worked_prices :
    Price pairs worked (loads 1 1 2 3 1) 0 (neg_ℤ (pos 1), neg_ℤ (pos 6))
    × Price pairs worked (loads 1 1 2 3 1) 1 (neg_ℤ (pos 1), neg_ℤ (pos 7))
    × Price pairs worked (loads 1 1 2 3 1) 2 (neg_ℤ (pos 1), neg_ℤ (pos 5))
    × Price pairs worked (loads 1 1 2 3 1) 3 (pos 0, pos 0)
    × Price pairs worked (loads 1 1 2 3 1) 4 (pos 0, pos 0)
worked_prices = (
  priced 0 3 (omega arith) (Back 1 ∷ []) (record {
    met = 0 ∷ [];
    leads = then 3 0 0 (Back 1) [] [] _ _ _ (behind 1 _ refl (omega arith)) (omega arith) (there 0);
    apart = ((λ e. omega arith, tt), (tt, tt));
  }),
  priced 1 3 (omega arith) (Back 1 ∷ Ahead 0 ∷ Back 2 ∷ []) (record {
    met = 0 ∷ 2 ∷ 1 ∷ [];
    leads =
        then 3 0 1 (Back 1) _ _ _ _ _ (behind 1 _ refl (omega arith)) (omega arith)
        (then 0 2 1 (Ahead 0) _ _ _ _ _ (forth 0 _ refl (omega arith)) (omega arith)
        (then 2 1 1 (Back 2) _ _ _ _ _ (behind 2 _ refl (omega arith)) (omega arith) (there 1)));
    apart = ((λ e. omega arith, (λ e. omega arith, (λ e. omega arith, tt))), ((λ e. omega arith, (λ e. omega arith, tt)), ((λ e. omega arith, tt), (tt, tt))));
  }),
  priced 2 3 (omega arith) (Back 1 ∷ Ahead 0 ∷ []) (record {
    met = 0 ∷ 2 ∷ [];
    leads =
        then 3 0 2 (Back 1) _ _ _ _ _ (behind 1 _ refl (omega arith)) (omega arith)
        (then 0 2 2 (Ahead 0) _ _ _ _ _ (forth 0 _ refl (omega arith)) (omega arith) (there 2));
    apart = ((λ e. omega arith, (λ e. omega arith, tt)), ((λ e. omega arith, tt), (tt, tt)));
  }),
  priced 3 3 (omega arith) [] (record { met = []; leads = there 3; apart = (tt, tt) }),
  priced 4 4 (omega arith) [] (record { met = []; leads = there 4; apart = (tt, tt) }),
)

third : Route pairs worked (loads 2 0 1 3 0) 1 1 (Ahead 2 ∷ Back 0 ∷ Ahead 1 ∷ Ahead 4 ∷ []) 4 (pos 1, pos 7)
third = record {
  met = 2 ∷ 0 ∷ 3 ∷ 4 ∷ [];
  leads =
      then 1 2 4 (Ahead 2) _ _ _ _ _ (forth 2 _ refl (omega arith)) (omega arith)
      (then 2 0 4 (Back 0) _ _ _ _ _ (behind 0 _ refl (omega arith)) (omega arith)
      (then 0 3 4 (Ahead 1) _ _ _ _ _ (forth 1 _ refl (omega arith)) (omega arith)
      (then 3 4 4 (Ahead 4) _ _ _ _ _ (forth 4 _ refl (omega arith)) (omega arith) (there 4))));
  apart = (
    (λ e. omega arith, (λ e. omega arith, (λ e. omega arith, (λ e. omega arith, tt)))),
    ((λ e. omega arith, (λ e. omega arith, (λ e. omega arith, tt))), ((λ e. omega arith, (λ e. omega arith, tt)), ((λ e. omega arith, tt), (tt, tt)))),
  );
}

-- the least costs from 1 at the loads 2 0 1 3 0
abbrev δ : ℕ → ℤ × ℤ
δ v = get_or ((pos 0, pos 1) ∷ (pos 0, pos 0) ∷ (pos 0, pos 2) ∷ (pos 1, pos 7) ∷ (pos 1, pos 7) ∷ []) v (pos 0, pos 0)

δ_valid : Potential pairs worked (loads 2 0 1 3 0) δ
δ_valid = potential_by pairs worked (loads 2 0 1 3 0) δ (
  (λ l. (le_z_yes tt, λ e. le_z_yes tt), λ l. (le_z_yes tt, λ e. le_z_yes tt)),
  (
    (λ l. (le_z_yes tt, λ e. le_z_yes tt), λ l. absurd (omega arith)),
    (
      (λ l. (le_z_yes tt, λ e. le_z_yes tt), λ l. (le_z_yes tt, λ e. le_z_yes tt)),
      (
        (λ l. absurd (omega arith), λ l. (le_z_yes tt, λ e. absurd (omega (arith, ints)))),
        ((λ l. (le_z_yes tt, λ e. le_z_yes tt), λ l. absurd (omega arith)), tt),
      ),
    ),
  ),
)

pub third_route :
    Least pairs worked (loads 2 0 1 3 0) 1 4 (pos 1, pos 7)
    × Route pairs worked (loads 2 0 1 3 0) 1 1 (Ahead 2 ∷ Back 0 ∷ Ahead 1 ∷ Ahead 4 ∷ []) 4 (pos 1, pos 7)
third_route = (record { taken = (_, third); least = λ ss d r. under_by pairs worked (loads 2 0 1 3 0) δ δ_valid (le_z_yes tt, λ e. le_z_yes tt) r }, third)

-- the reach of 1 at the loads 0 2 3 3 2
abbrev In : ℕ → Type 0
In v = (v ≡ 1) ⊎ (v ≡ 2)

pub blocked_reach :
    Reach pairs worked (loads 0 2 3 3 2) 1 1
    × Reach pairs worked (loads 0 2 3 3 2) 1 2
    × ((v : ℕ) → Reach pairs worked (loads 0 2 3 3 2) 1 v → (v ≡ 1) ⊎ (v ≡ 2))
blocked_reach = (
  ([], (pos 0, pos 0), record { met = []; leads = there 1; apart = (tt, tt) }),
  (Ahead 2 ∷ [], _, record { met = 2 ∷ []; leads = then 1 2 2 (Ahead 2) [] [] _ _ _ (forth 2 _ refl (omega arith)) (omega arith) (there 2); apart = ((λ e. omega arith, tt), (tt, tt)) }),
  λ v r. stays_by pairs worked (loads 0 2 3 3 2) In (
    (λ l i. inr refl, λ l. absurd (omega arith)),
    (
      (λ l. ⊎_elim (λ e. absurd (omega arith)) (λ e. absurd (omega arith)), λ l. ⊎_elim (λ e. absurd (omega arith)) (λ e. absurd (omega arith))),
      (
        (λ l i. inr refl, λ l i. inl refl),
        (
          (λ l. absurd (omega arith), λ l i. inr refl),
          ((λ l. absurd (omega arith), λ l. ⊎_elim (λ e. absurd (omega arith)) (λ e. absurd (omega arith))), tt),
        ),
      ),
    ),
  )
      r.2.leads (inl refl),
)

-- what leaves 1 and 2 together is the load of way 3 less that of way 0
pub blocked_bookings :
    (bookings three_bookings 1 +ℤ bookings three_bookings 2 ≡ pos 4)
    × (leaving worked (loads 0 2 3 3 2) 1 +ℤ leaving worked (loads 0 2 3 3 2) 2 ≡ pos 3)
    × (Possible pairs worked three_bookings → ⊥)
blocked_bookings = (refl, refl, λ p. none p.0 p.1 (p.2 1 (omega arith)) (p.2 2 (omega arith)))
  where
    none : (f : List ℕ) → Keeps worked f → leaving worked f 1 ≡ pos 4 → leaving worked f 2 ≡ pos 0 → ⊥
    none [] k a b = absurd k
    none (n₀ ∷ []) k a b = absurd k.1
    none (n₀ ∷ n₁ ∷ []) k a b = absurd k.1.1
    none (n₀ ∷ n₁ ∷ n₂ ∷ []) k a b = absurd k.1.1.1
    none (n₀ ∷ n₁ ∷ n₂ ∷ n₃ ∷ []) k a b = absurd k.1.1.1.1
    none (n₀ ∷ n₁ ∷ n₂ ∷ n₃ ∷ n₄ ∷ ns) k a b =
        let l : n₃ ≤ 3 = k.1.1.1.0 in
        let a' : pos (0 + (0 + (n₂ + 0))) -ℤ pos 0 ≡ pos 4 = a in
        let b' : pos (0 + (0 + (0 + (n₃ + 0)))) -ℤ pos (n₀ + (0 + (n₂ + 0))) ≡ pos 0 = b in
        omega (arith, ints)
