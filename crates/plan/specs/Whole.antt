-- What comes of making a list of calls of a new plan.
use Rattle.std.specs.Prelude.{◌≡◌, ℕ, List, length, vec_items, vec_len}
use Rattle.costs.specs.Kind.{Kind}
use Rattle.networks.specs.Net.{Net}
use Rattle.plan.specs.declared.calls.Call.{Call}
use Rattle.plan.specs.declared.runs.Run.{Run}
use Rattle.plan.specs.Histories.{events, Lawful}
use Rattle.plan.specs.Plans.{plan_state, Runs}

-- each call got an answer, each answer keeps the law, and the plan is where they lead
pub record RanThrough {C R N : Type 0} (K : Kind C R) (net : Net C) (held : N) (calls : List Call) (work : ℕ) (x : Run N) : Type 0 where
  pub holds : x.plan.net ≡ held
  pub each : vec_len x.answers ≡ length calls
  pub runs : Runs K net (events work calls (vec_items x.answers) (length calls)) x.plan
  pub lawful : Lawful K net (events work calls (vec_items x.answers) (length calls)) (plan_state x.plan)
