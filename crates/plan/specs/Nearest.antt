-- What a search from a source finds for the next route.
use Rattle.std.specs.Prelude.{ℕ, Some, None, Option}
use Rattle.costs.specs.Kind.{Kind}
use Rattle.networks.specs.Net.{Net}
use Rattle.plan.specs.Entries.{Work}
use Rattle.plan.specs.Rules.{Source, Target, Stuck}
use Rattle.plan.specs.Standing.{Standing}
use Rattle.plan.specs.State.{State}
use Rattle.plan.specs.Trails.{Ended}

-- in any state of an open plan: the target and, in the work tables t, the search that reached it; or none, if the source is stuck
abbrev pub Nearest : {C R : Type 0} → Kind C R → Net C → State → ℕ → Work R → Option ℕ → Type 0
Nearest K net s u t None = Standing K net s → Source K net s u → Stuck K net s u
Nearest K net s u t (Some v) = Standing K net s → (y : K.group.Carrier) × Target K net s u v y × Ended K net s.loads u v t y
