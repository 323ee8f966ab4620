-- Sweeps in a row, up to one that alters nothing.
use Rattle.plan.proofs.Marked.{spreads_more, spreads_early}
use Rattle.plan.proofs.loaded.Loaded.sweeps.Goals as goal

pub returns-then-not-sweep : goal.returns-then-not-sweep
returns-then-not-sweep g c =
    spreads_early g.N.Cost.Cost.kind (g.N.Network.means c.args.self.now.net.now) c.args.self.now.loads.now c.loop.counter _
    c.args.marks.now c.loop.marks c.sweep.new.marks c.loop.invariant c.if-not-sweep.ensures

pub loop-preserved : goal.loop-preserved
loop-preserved g c =
    spreads_more g.N.Cost.Cost.kind (g.N.Network.means c.args.self.now.net.now) c.args.self.now.loads.now c.loop.counter
    c.args.marks.now c.loop.marks c.sweep.new.marks _ c.loop.invariant c.if-not-sweep.ensures
