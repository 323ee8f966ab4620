-- Marks of places: how they spread along steps. Marks m, one for each place, become m'.
use Rattle.std.specs.Prelude.{◌≡◌, ℕ, ◌<◌, ◌≤◌, Bool, false, ◌⊎◌, List, length, Some}
use Rattle.std.specs.List.{slice_get}
use Rattle.costs.specs.Kind.{Kind}
use Rattle.networks.specs.Net.{Net}
use Rattle.plan.specs.declared.step.Step.{Step}
use Rattle.plan.specs.Steps.{Gives, Leads, Reach}

-- v is marked
abbrev pub On : List ℕ → ℕ → Type 0
On m v = slice_get m v ≡ Some 1

-- v is marked if u was, and no other entry is altered; `told` is false only if none is
pub record Extended (u v : ℕ) (m m' : List ℕ) (told : Bool) : Type 0 where
  pub only : (w : ℕ) → (slice_get m' w ≡ slice_get m w) ⊎ ((w ≡ v) × On m u × On m' w)
  pub met : On m u → On m' v
  pub same : told ≡ false → m' ≡ m

module _ {C R : Type 0} (K : Kind C R) (net : Net C) (loads : List ℕ) where
  -- a walk leads to v from a marked place
  pub record Led (m : List ℕ) (v : ℕ) : Type 0 where
    pub place : ℕ
    pub steps : List Step
    pub met : List ℕ
    pub cost : K.group.Carrier
    pub on : On m place
    pub leads : Leads K net loads 1 place steps met v cost

  -- each entry is as it was, or became a mark to which a walk leads from a marked place
  pub record Grown (m m' : List ℕ) : Type 0 where
    pub each : (v : ℕ) → (slice_get m' v ≡ slice_get m v) ⊎ (On m' v × Led m v)

  -- each step of `done` from a marked place leads to one; `told` is false only if nothing is altered
  pub record Spread (done : Step → Type 0) (m m' : List ℕ) (told : Bool) : Type 0 where
    pub grown : Grown m m'
    pub met : (s : Step) (u v : ℕ) (c : K.group.Carrier) (r : ℕ) → Gives K net loads s u v c r → done s → On m u → On m' v
    pub same : told ≡ false → m' ≡ m

  -- each walk of at most n steps from a marked place leads to one
  pub record Spreads (n : ℕ) (m m' : List ℕ) : Type 0 where
    pub grown : Grown m m'
    pub short : (u : ℕ) (ss : List Step) (vs : List ℕ) (v : ℕ) (c : K.group.Carrier) → Leads K net loads 1 u ss vs v c → length ss ≤ n → On m u → On m' v

  -- the entry of each place is 1 if it is in the reach of u, and else 0
  abbrev pub Tells : ℕ → List ℕ → Type 0
  Tells u m = (v : ℕ) → v < net.places → (Reach K net loads u v × (slice_get m v ≡ Some 1)) ⊎ ((Reach K net loads u v → ⊥) × (slice_get m v ≡ Some 0))
