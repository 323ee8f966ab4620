-- The pair of the n-fold sums is the n-fold sum of the pair.
use Rattle.std.proofs.Common.{arith}
use Rattle.costs.proofs.Parts.{times_pair}
use Rattle.costs.proofs.pair.PairCost.times.Goals as goal

pub returns : goal.returns
returns g c =
    let a = c.in_ok-first.ensures in
    let b = c.in_ok-second.ensures in
    (a.0, omega arith, times_pair g.A.Cost.kind g.B.Cost.kind c.args.n c.args.self _ a.2 b.2)
