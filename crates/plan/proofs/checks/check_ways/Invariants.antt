-- The ways so far have no fault.
use Rattle.std.proofs.Common.{◌≡◌, drop}
use Rattle.plan.specs.Checks.{fault_of_ways}
use Rattle.plan.proofs.checks.check_ways.Given as goal

abbrev pub invariant-loop-k : goal.invariant-loop-k
invariant-loop-k g l =
    fault_of_ways g.N.Cost.Cost.kind l.places l.k (drop l.k (g.N.Network.means l.net).ways)
    ≡ fault_of_ways g.N.Cost.Cost.kind l.places 0 (g.N.Network.means l.net).ways
