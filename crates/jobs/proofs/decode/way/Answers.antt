-- The five numbers of a way are those of its body.
use Rattle.std.proofs.Common.{arith, rules}
use Rattle.jobs.proofs.Listed.{listed_all}
use Rattle.jobs.proofs.Signs.{way_spelled}
use Rattle.jobs.proofs.decode.way.Goals as goal

pub returns : goal.returns
returns c =
    way_spelled c.two.result c.two-2.result c.four.result c.signed.result c.signed-2.result
    c.two.ensures c.two-2.ensures c.four.ensures c.signed.ensures.spelled c.signed-2.ensures.spelled
    (listed_all 16 c.args.body (search rules))
    (omega arith, omega arith, omega arith, c.signed.ensures.fits, c.signed-2.ensures.fits)
