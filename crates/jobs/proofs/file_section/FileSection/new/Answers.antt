-- A section over a good file has the places and the ways that the file's head tells.
use Rattle.std.proofs.Common.{refl, ap, ◌∙◌, arith}
use Rattle.jobs.specs.Bytes.{two_bytes}
use Rattle.jobs.proofs.Sectioned.{ways_whole, section_told}
use Rattle.jobs.proofs.file_section.FileSection.new.Goals as goal

pub invariant_of-result-2 : goal.invariant_of-result-2
invariant_of-result-2 c =
    let h = c.in-Ok.ensures in
    record { whole = ways_whole c.args.bytes.now h.0 h.1 c.from-2.result (omega arith) (ap two_bytes c.from-2.ensures ∙ c.two-2.ensures) }

pub returns : goal.returns
returns c =
    let h = c.in-Ok.ensures in
    record {
      same = refl;
      told = λ es k. section_told c.args.bytes.now es k c.from.result c.from-2.result (omega arith) (omega arith) (ap two_bytes c.from.ensures ∙ c.two.ensures) (ap two_bytes c.from-2.ensures ∙ c.two-2.ensures);
      nothing = λ never. absurd (never (h.0, h.1));
    }
