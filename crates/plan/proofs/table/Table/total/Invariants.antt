-- The sum over the ways so far.
use Rattle.std.proofs.Common.{vec_items}
use Rattle.plan.proofs.Summing.{Summed}
use Rattle.plan.proofs.table.Table.total.Given as goal

abbrev pub invariant-loop-k : goal.invariant-loop-k
invariant-loop-k g l = Summed g.N.Cost.Cost.kind (g.N.Network.means l.net) (vec_items l.self.loads) l.k l.total
