-- The table begins with the records so far.
use Rattle.std.proofs.Common.{◌≡◌, ◌-◌, length}
use Rattle.jobs.specs.Files.{written}
use Rattle.jobs.specs.Writing.{put_at}
use Rattle.jobs.proofs.Progress.{Come}
use Rattle.jobs.proofs.copy.copy_file.Given as goal

abbrev pub invariant-loop-record : goal.invariant-loop-record
invariant-loop-record l =
    Come l.initial.reader l.bytes (λ es. (l.end ≡ length (written es)) × (l.table ≡ put_at l.initial.table 0 (written es))) l.reader

abbrev pub decreases-loop-record : goal.decreases-loop-record
decreases-loop-record l = length l.reader.bytes.now - l.reader.offset
