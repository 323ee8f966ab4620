-- The records so far are counted.
use Rattle.std.proofs.Common.{◌≡◌, ◌-◌, length}
use Rattle.jobs.proofs.Progress.{Come}
use Rattle.jobs.proofs.check.check_file.Given as goal

abbrev pub invariant-loop-records : goal.invariant-loop-records
invariant-loop-records l = Come l.initial.reader l.bytes (λ es. l.records ≡ length es) l.reader

abbrev pub decreases-loop-records : goal.decreases-loop-records
decreases-loop-records l = length l.reader.bytes.now - l.reader.offset
