-- Each turn finds the next record, the end of a good file, or the file's first fault.
use Rattle.std.proofs.Common.{sym, refl, ◌∙◌, arith, rules}
use denote.Enum.Bare.{differs_true, differs_false}
use Rattle.std.proofs.lemmas.Result.{err_from_is_err_and}
use Rattle.jobs.specs.Files.{too_long}
use Rattle.jobs.specs.contracts.section.Section.{the_type}
use Rattle.jobs.proofs.Turns.{ended_early, unknown_here, misplaced_here, cut_here, read_on, fault_at}
use Rattle.jobs.proofs.reader.Reader.next.Goals as goal

pub returns-then-self-gt-LONGEST_FILE : goal.returns-then-self-gt-LONGEST_FILE
returns-then-self-gt-LONGEST_FILE c f es rd = (refl, too_long c.if-self-gt-LONGEST_FILE.true)

pub returns-else-is_complete : goal.returns-else-is_complete
returns-else-is_complete c f es rd =
    (refl, fault_at _ c.fault.ensures (ended_early f es c.args.self.now rd c.if-self-gt-LONGEST_FILE.false (search rules) (sym c.if-is_complete.ensures)))

pub returns-in_err-kind : goal.returns-in_err-kind
returns-in_err-kind c f es rd =
    let p = err_from_is_err_and c.from_residual.result c.from_residual.ensures.1 in
    let e = c.in_err-kind.ensures in
    rw (p.1, p.2) (refl, fault_at _ e.0 (unknown_here f es c.args.self.now rd c.if-self-gt-LONGEST_FILE.false (search rules) e.1))

pub returns-then-ne : goal.returns-then-ne
returns-then-ne c f es rd = (
  refl,
  fault_at _ c.fault-then-ne.ensures
      (misplaced_here f es c.args.self.now rd c.if-self-gt-LONGEST_FILE.false (search rules) c.in_ok-kind.kind c.in_ok-kind.ensures
      (λ e. differs_true the_type c.section.result c.due.result (sym c.if-ne.ensures) (c.section.ensures ∙ e ∙ sym c.due.ensures))),
)

pub returns-then-rest-len : goal.returns-then-rest-len
returns-then-rest-len c f es rd = (
  refl,
  fault_at _ c.fault-then-rest-len.ensures
      (cut_here f es c.args.self.now rd c.if-self-gt-LONGEST_FILE.false (search rules) c.in_ok-kind.kind c.in_ok-kind.ensures
      (sym c.section.ensures ∙ differs_false the_type tt c.section.result c.due.result (sym c.if-ne.ensures) ∙ c.due.ensures) (omega arith)),
)

pub returns : goal.returns
returns c f es rd =
    record {
      place = refl;
      says = record { kind = refl; numbers = c.decode_body-entry.ensures.numbers; fits = c.decode_body-entry.ensures.fits };
      same = refl;
      read =
          read_on f es c.args.self.now rd c.if-self-gt-LONGEST_FILE.false (search rules) c.in_ok-kind.kind c.in_ok-kind.ensures
          c.decode_body-entry.result c.body_len-len.result c.body_len-len.ensures (omega arith) c.decode_body-entry.ensures
          _ refl refl c.next-self.ensures
          (sym c.section.ensures ∙ differs_false the_type tt c.section.result c.due.result (sym c.if-ne.ensures) ∙ c.due.ensures);
    }
