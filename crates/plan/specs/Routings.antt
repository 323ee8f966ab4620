-- How one route ends and how a settle does, in the words of the rules.
use Rattle.std.specs.Prelude.{◌≡◌, ℕ, ◌≤◌}
use Rattle.costs.specs.Kind.{Kind}
use Rattle.networks.specs.Net.{Net}
use Rattle.plan.specs.declared.calls.Outcome.{Outcome}
use Rattle.plan.specs.declared.calls.Routed.{Routed}
use Rattle.plan.specs.declared.calls.Routed.TheVariants.{Settled, Blocked, Sent}
use Rattle.plan.specs.Rules.{AtRest, Stuck, Sends, Repeats, Ends}
use Rattle.plan.specs.State.{State}

-- how one route ends
abbrev pub Routes : {C R : Type 0} → Kind C R → Net C → State → Routed → State → Type 0
Routes K net s Settled s' = AtRest K net s × (s' ≡ s)
Routes K net s (Blocked u) s' = Stuck K net s u × (s' ≡ s)
Routes K net s (Sent u t x) s' = Sends K net s u t x s'

-- how a settle with a budget ends
pub record Settles {C R : Type 0} (K : Kind C R) (net : Net C) (budget : ℕ) (s : State) (r : Outcome) (s' : State) : Type 0 where
  pub few : r.routes ≤ budget
  pub sent : Repeats K net r.routes s s'
  pub ends : Ends K net budget r.routes s' r.ending
