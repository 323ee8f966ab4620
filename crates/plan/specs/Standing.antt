-- What holds of every open plan.
use Rattle.std.specs.Prelude.{◌≡◌, ℕ, zero, suc, ◌<◌, ◌≤◌, true, ◌≢◌, List, length, ℤ, pos, ◌+ℤ◌, neg_ℤ, ◌≤ℤ◌, Some}
use Rattle.std.specs.List.{slice_get}
use Rattle.costs.specs.Kind.{Kind}
use Rattle.networks.specs.Net.{Net, Way}
use Rattle.plan.specs.declared.step.Step.{Step}
use Rattle.plan.specs.Loads.{Keeps}
use Rattle.plan.specs.State.{State, rest}
use Rattle.plan.specs.Steps.{Gives}

-- both ends of every way are places
abbrev pub Inside : {C : Type 0} → Net C → Type 0
Inside {C} net = (k : ℕ) (w : Way C) → slice_get net.ways k ≡ Some w → (w.tail < net.places) × (w.head < net.places)

-- the sum of the rests of the places below n
abbrev pub rests_below : State → ℕ → ℤ
rests_below s zero = pos 0
rests_below s (suc n) = rests_below s n +ℤ rest s n

module _ {C R : Type 0} (K : Kind C R) (net : Net C) where
  -- the way passes the checks of open
  pub record Fair (w : Way C) : Type 0 where
    pub tail : w.tail < net.places
    pub head : w.head < net.places
    pub apart : w.tail ≢ w.head
    pub limit : w.limit ≤ 1000000
    pub weight : K.weighs w.cost ≤ 1000000

  -- the network passes the checks of open
  pub record Passed : Type 0 where
    pub some : 0 < net.places
    pub places : net.places ≤ 1024
    pub ways : length net.ways ≤ 3000
    pub fair : (k : ℕ) (w : Way C) → slice_get net.ways k ≡ Some w → Fair w

  -- over no step does π rise by more than the step costs
  abbrev pub Potential : List ℕ → (ℕ → K.group.Carrier) → Type 0
  Potential f π = (s : Step) (u v : ℕ) (c : K.group.Carrier) (r : ℕ) → Gives K net f s u v c r → K.group.le (π v) (K.group.plus (π u) c)

  pub record Standing (s : State) : Type 0 where
    pub opened : s.open? ≡ true
    pub passed : Passed
    pub keeps : Keeps net s.loads
    pub whole : length s.rests ≡ net.places
    pub potential : (π : ℕ → K.group.Carrier) × Potential s.loads π
    pub level : rests_below s net.places ≡ pos 0
    pub lowest : (v : ℕ) → v < net.places → neg_ℤ (pos 1000000000) ≤ℤ rest s v
    pub highest : (v : ℕ) → v < net.places → rest s v ≤ℤ pos 1000000000
