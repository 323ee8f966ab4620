-- A sweep takes the steps of one way after another.
use Rattle.std.proofs.Common.{arith}
use Rattle.plan.proofs.Marked.{sweep_more, sweep_all}
use Rattle.plan.proofs.loaded.Loaded.sweep.Goals as goal

pub loop-k-preserved : goal.loop-k-preserved
loop-k-preserved g c =
    sweep_more g.N.Cost.Cost.kind (g.N.Network.means c.args.self.now.net.now) c.args.self.now.loads.now c.loop-k.k
    c.args.marks.now c.loop-k.marks c.mark_along-changed.new.marks c.mark_along-changed-in-loop-k.new.marks
    c.loop-k.changed c.mark_along-changed.result c.mark_along-changed-in-loop-k.result
    c.loop-k.invariant c.mark_along-changed.ensures c.mark_along-changed-in-loop-k.ensures

pub returns : goal.returns
returns g c =
    sweep_all g.N.Cost.Cost.kind (g.N.Network.means c.args.self.now.net.now) c.args.self.now.loads.now c.loop-k.k (omega (arith, c.loop-k-test.false, c.ways-k-end.ensures)) c.loop-k.invariant
