-- The prices so far are written.
use Rattle.std.proofs.Common.{take}
use Rattle.std.specs.Fmt.{HasWritten, IsPlainFormatter}
use Rattle.jobs.specs.Lines.{price_words}
use Rattle.jobs.proofs.lines.PricesDisplay.fmt.Given as goal

abbrev pub invariant-loop-redraws : goal.invariant-loop-redraws
invariant-loop-redraws g l =
    IsPlainFormatter l.initial.f → HasWritten g.W.Write.write_str_gives l.initial.f (price_words (take l.redraws-index l.redraws-items)) l.f
