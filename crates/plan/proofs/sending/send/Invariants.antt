-- What is still to be sent leads to the same loads.
use Rattle.std.proofs.Common.{reverse}
use Rattle.plan.specs.Trails.{Bears}
use Rattle.plan.proofs.Loading.{ToGo}
use Rattle.plan.proofs.sending.send.Given as goal

abbrev pub invariant-loop-step : goal.invariant-loop-step
invariant-loop-step l =
    Bears l.amount (reverse l.path) l.initial.loads → ToGo l.amount (reverse l.path) (reverse l.step-iterator.iter.rest.now) l.loads l.initial.loads
