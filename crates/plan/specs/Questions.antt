-- What a plan answers to each question, and how the caller's table ends.
use Rattle.std.specs.Prelude.{◌≡◌, ℕ, ◌<◌, ◌⊎◌, List, length, drop, Some, None, Ok, Err, Option, Result, nat_lt}
use Rattle.std.specs.List.{slice_get}
use Rattle.costs.specs.Kind.{Kind, values}
use Rattle.networks.specs.Net.{Net}
use Rattle.networks.specs.declared.refusal.Refusal.{Refusal}
use Rattle.networks.specs.declared.refusal.Refusal.TheVariants.{NoPlace, ShortTable, NoWay}
use Rattle.plan.specs.Checks.{or_else, when, outside, closed_fault}
use Rattle.plan.specs.Loads.{costs}
use Rattle.plan.specs.State.{State}
use Rattle.plan.specs.Steps.{Reach, Price}

-- the first refusal, and if there is none, the value
abbrev pub answered : {A : Type 0} → Option Refusal → A → Result A Refusal
answered None a = Ok a
answered (Some r) a = Err r

abbrev pub load_fault : {C : Type 0} → Net C → State → ℕ → Option Refusal
load_fault net s k = or_else (closed_fault s) (when (outside (length net.ways) k) NoWay)

abbrev pub rest_fault : {C : Type 0} → Net C → State → ℕ → Option Refusal
rest_fault net s v = or_else (closed_fault s) (when (outside net.places v) NoPlace)

-- with a table of so many entries
abbrev pub prices_fault : {C : Type 0} → Net C → State → ℕ → Option Refusal
prices_fault net s table = or_else (closed_fault s) (when (nat_lt table net.places) ShortTable)

abbrev pub reach_fault : {C : Type 0} → Net C → State → ℕ → ℕ → Option Refusal
reach_fault net s v table = or_else (rest_fault net s v) (when (nat_lt table net.places) ShortTable)

module _ {C R : Type 0} (K : Kind C R) (net : Net C) where
  -- the total is what the load costs
  abbrev pub Totals : State → Result C Refusal → Type 0
  Totals s (Ok c) = (closed_fault s ≡ None) × (K.value c ≡ costs K net.ways s.loads)
  Totals s (Err r) = closed_fault s ≡ Some r

  -- the entry of each place became its price, and those past the last place stayed
  pub record Priced (f : List ℕ) (table table' : List R) : Type 0 where
    pub each : (v : ℕ) → v < net.places → (r : R) × (slice_get table' v ≡ Some r) × Price K net f v (values K r)
    pub past : drop net.places table' ≡ drop net.places table

  abbrev pub Prices : State → List R → Result (Unit {0}) Refusal → List R → Type 0
  Prices s table (Ok u) table' = (prices_fault net s (length table) ≡ None) × Priced s.loads table table'
  Prices s table (Err r) table' = (prices_fault net s (length table) ≡ Some r) × (table' ≡ table)

  -- the entry of each place became 1 if it is in the reach of u, and else 0, and those past the last place stayed
  pub record Marked (f : List ℕ) (u : ℕ) (table table' : List ℕ) : Type 0 where
    pub each : (v : ℕ) → v < net.places → (Reach K net f u v × (slice_get table' v ≡ Some 1)) ⊎ ((Reach K net f u v → ⊥) × (slice_get table' v ≡ Some 0))
    pub past : drop net.places table' ≡ drop net.places table

  abbrev pub Reaches : State → ℕ → List ℕ → Result (Unit {0}) Refusal → List ℕ → Type 0
  Reaches s u table (Ok x) table' = (reach_fault net s u (length table) ≡ None) × Marked s.loads u table table'
  Reaches s u table (Err r) table' = (reach_fault net s u (length table) ≡ Some r) × (table' ≡ table)
