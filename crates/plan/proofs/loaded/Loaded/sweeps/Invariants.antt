-- What holds after each sweep.
use Rattle.plan.specs.Marks.{Spreads}
use Rattle.plan.proofs.loaded.Loaded.sweeps.Given as goal

abbrev pub invariant-loop : goal.invariant-loop
invariant-loop g l =
    Spreads g.N.Cost.Cost.kind (g.N.Network.means l.self.net.now) l.self.loads.now l.counter l.initial.marks l.marks
