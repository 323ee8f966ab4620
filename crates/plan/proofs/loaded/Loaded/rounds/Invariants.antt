-- What holds after each scan.
use Rattle.plan.specs.Entries.{tables}
use Rattle.plan.proofs.Running.{Ran}
use Rattle.plan.proofs.loaded.Loaded.rounds.Given as goal

abbrev pub invariant-loop : goal.invariant-loop
invariant-loop g l =
    Ran g.N.Cost.Cost.kind (g.N.Network.means l.self.net.now) l.self.loads.now l.counter (tables l.initial.rows l.initial.notes) (tables l.rows l.notes)
