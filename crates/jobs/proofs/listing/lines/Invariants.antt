-- The records so far are counted, and have their lines in the text.
use Rattle.std.proofs.Common.{◌≡◌, ◌-◌, length, string_bytes}
use Rattle.jobs.specs.Listing.{lines_of}
use Rattle.jobs.proofs.Progress.{Come}
use Rattle.jobs.proofs.listing.lines.Given as goal

abbrev pub invariant-loop-text : goal.invariant-loop-text
invariant-loop-text l = Come l.initial.reader l.bytes (λ es. (l.index ≡ length es) × (string_bytes l.text ≡ lines_of 0 0 es)) l.reader

abbrev pub decreases-loop-text : goal.decreases-loop-text
decreases-loop-text l = length l.reader.bytes.now - l.reader.offset
