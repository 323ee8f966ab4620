-- After k ways their steps were tried, and no others.
use Rattle.std.proofs.Common.{◌*◌}
use Rattle.plan.specs.Entries.{tables}
use Rattle.plan.specs.Sweeps.{Swept, Left, Among}
use Rattle.plan.proofs.loaded.Loaded.scan.Given as goal

abbrev pub invariant-loop-k : goal.invariant-loop-k
invariant-loop-k g l =
    let K = g.N.Cost.Cost.kind in
    let left = Left K (g.N.Network.means l.self.net.now) l.self.loads.now in
    Swept K left (Among K l.k left) (2000000 * l.k) (tables l.initial.rows l.initial.notes) (tables l.rows l.notes) l.changed
