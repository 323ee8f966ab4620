-- After k ways the marks have spread along their steps.
use Rattle.std.proofs.Common.{◌<◌}
use Rattle.plan.specs.Marks.{Spread}
use Rattle.plan.specs.Sweeps.{way_of}
use Rattle.plan.proofs.loaded.Loaded.sweep.Given as goal

abbrev pub invariant-loop-k : goal.invariant-loop-k
invariant-loop-k g l =
    Spread g.N.Cost.Cost.kind (g.N.Network.means l.self.net.now) l.self.loads.now (λ s. way_of s < l.k) l.initial.marks l.marks l.changed
