-- The routes sent so far.
use Rattle.std.proofs.Common.{◌≡◌, drop}
use Rattle.plan.specs.Rules.{Repeats}
use Rattle.plan.specs.Sendings.{AsLong}
use Rattle.plan.specs.Standing.{Standing}
use Rattle.plan.specs.Tables.{state_of}
use Rattle.plan.proofs.table.Table.settle.Given as goal

abbrev pub invariant-loop-routes : goal.invariant-loop-routes
invariant-loop-routes g l =
    AsLong l.initial.self l.self × (drop (g.N.Network.means l.net).places l.work ≡ drop (g.N.Network.means l.net).places l.initial.work)
    × (Standing g.N.Cost.Cost.kind (g.N.Network.means l.net) (state_of l.initial.self) →
    Repeats g.N.Cost.Cost.kind (g.N.Network.means l.net) l.routes (state_of l.initial.self) (state_of l.self))
