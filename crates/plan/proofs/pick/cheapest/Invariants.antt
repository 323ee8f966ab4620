-- The pick among the places so far.
use Rattle.plan.specs.Entries.{tables}
use Rattle.plan.specs.Picks.{Picked}
use Rattle.plan.proofs.pick.cheapest.Given as goal

abbrev pub invariant-loop-v : goal.invariant-loop-v
invariant-loop-v g l = Picked g.C.Cost.kind l.rests (tables l.rows l.notes) l.v l.best
