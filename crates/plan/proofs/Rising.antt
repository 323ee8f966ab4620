-- Places whose rank rises along a list are apart.
use Rattle.std.proofs.Common.{ℕ, ◌<◌, ◌≢◌, List, [], ◌∷◌, ap, arith}
use Rattle.std.specs.List.{AllByRecursion}
use Rattle.std.proofs.ByRecursion.{All-weaker}
use Rattle.plan.specs.Steps.{Apart}

module _ (rank : ℕ → ℕ) where
  -- the rank rises from each place to the next, the first of which comes after u
  abbrev pub Rising : ℕ → List ℕ → Type 0
  Rising u [] = Unit {0}
  Rising u (v ∷ vs) = (rank u < rank v) × Rising v vs

  -- all places that follow u have a higher rank
  higher : (a u : ℕ) (vs : List ℕ) → rank a < rank u → Rising u vs → AllByRecursion (λ v. rank a < rank v) vs
  higher a u [] l h = tt
  higher a u (v ∷ vs) l h = let next = h.0 in let up : rank a < rank v = omega arith in (up, higher a v vs up h.1)

  pub rising_apart : (u : ℕ) (vs : List ℕ) → Rising u vs → Apart (u ∷ vs)
  rising_apart u [] h = (tt, tt)
  rising_apart u (v ∷ vs) h = (All-weaker _ _ differ (v ∷ vs) (h.0, higher u v vs h.0 h.1), rising_apart v vs h.1)
    where
      differ : (w : ℕ) → rank u < rank w → u ≢ w
      differ w l e = let same = ap rank e in omega arith
