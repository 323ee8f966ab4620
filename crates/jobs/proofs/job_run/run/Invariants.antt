-- The records so far were put to the plan, and gave the text.
use Rattle.std.proofs.Common.{◌≡◌, ◌-◌, length, vec_len, string_bytes}
use Rattle.jobs.specs.Sections.{section_net}
use Rattle.jobs.proofs.Putting.{CameSo}
use Rattle.jobs.proofs.Progress.{Come}
use Rattle.jobs.proofs.job_run.run.Given as goal

abbrev pub invariant-loop-text : goal.invariant-loop-text
invariant-loop-text l =
    (l.plan.net ≡ l.initial.plan.net) × (vec_len l.rows ≡ (section_net l.initial.plan.net).places)
    × Come l.initial.reader l.bytes (λ es. CameSo (section_net l.initial.plan.net) es (string_bytes l.text) l.plan) l.reader

abbrev pub decreases-loop-text : goal.decreases-loop-text
decreases-loop-text l = length l.reader.bytes.now - l.reader.offset
