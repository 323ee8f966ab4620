-- Pairs rank by the first part, then by the second.
use Rattle.std.proofs.Common.{rules}
use Rattle.costs.proofs.Parts.{ranked}
use Rattle.costs.proofs.pair.PairCost.compare.Goals as goal

pub returns : goal.returns
returns g c = search (rules, ranked)
