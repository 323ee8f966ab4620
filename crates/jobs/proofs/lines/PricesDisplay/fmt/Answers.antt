-- Each turn writes the price of one place more.
use Rattle.std.proofs.Common.{append-nil, pos, refl}
use Rattle.std.proofs.Output.{has_written_append, has_written_of_eq}
use Rattle.jobs.proofs.Printed.{prices_more}
use Rattle.jobs.proofs.lines.PricesDisplay.fmt.Goals as goal

pub loop-redraws-preserved : goal.loop-redraws-preserved
loop-redraws-preserved g c p =
    let so_far = c.loop-redraws.invariant p in
    has_written_of_eq _ _ _ _ _ (simp append-nil at (prices_more c.args.self.now.0.now c.loop-redraws.redraws-index (pos 0, pos 0) c.loop-redraws-test.true))
    (has_written_append _ _ _ _ _ _ so_far (c.in_ok-write.ensures.writes so_far.plain refl))
