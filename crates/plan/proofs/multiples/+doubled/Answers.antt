-- Twice the half, and one more if the number is odd, is the n-fold sum.
use Rattle.plan.proofs.Doubling.{fold_even, odd_made, even_over}
use Rattle.plan.proofs.multiples.+doubled.Goals as goal

pub returns-in_err-even : goal.returns-in_err-even
returns-in_err-even g t c =
    let half = c.in_ok-half.ensures in
    even_over g.C.Cost.kind c.args.cost c.args.n c.in_ok-half.half (record { value = half.0; weight = half.1 }) _ c.from_residual-in_err-even.ensures c.in_err-even.ensures

pub returns-then-n-eq0-2 : goal.returns-then-n-eq0-2
returns-then-n-eq0-2 g t c =
    let half = c.in_ok-half.ensures in
    let even = fold_even g.C.Cost.kind c.args.cost c.args.n c.in_ok-half.half c.in_ok-even.even (record { value = half.0; weight = half.1 }) c.in_ok-even.ensures.1 c.if-n-eq0-2.true in
    (even.value, even.weight)

pub returns : goal.returns
returns g t c =
    let half = c.in_ok-half.ensures in
    odd_made g.C.Cost.kind c.args.cost c.args.n c.in_ok-half.half c.in_ok-even.even (record { value = half.0; weight = half.1 }) c.in_ok-even.ensures.1 c.if-n-eq0-2.false _ c.plus-2.ensures
