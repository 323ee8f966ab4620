-- The product fits, is small enough, and is the n-fold sum.
use Rattle.std.proofs.Common.{arith}
use Rattle.costs.proofs.Numbers.{made_fits, made_is, made_small}
use Rattle.costs.proofs.whole.cost.WholeCost.times.Goals as goal

pub overflow_mul-result : goal.overflow_mul-result
overflow_mul-result c = made_fits c.args.n c.args.self.amount (omega arith) (omega arith)

pub invariant_of-result : goal.invariant_of-result
invariant_of-result c = record { small = made_small c.args.n c.args.self.amount (omega arith) (omega arith) }

pub returns : goal.returns
returns c = (omega arith, omega arith, made_is c.args.n c.args.self.amount (omega arith) (omega arith))
