-- Each record that comes gives one line more, and the reader's fault is the file's first.
use Rattle.std.proofs.Common.{◌+◌, ◌≤◌, refl, ◌∙◌, rules}
use Rattle.std.proofs.lemmas.Result.{err_from_is_err_and}
use Rattle.jobs.proofs.Lined.{one_line_more}
use Rattle.jobs.proofs.Progress.{came, nearer, one_more, came_to_fault, counted, count_fits, some_came}
use Rattle.jobs.proofs.listing.lines.Goals as goal

pub returns-in_err-record : goal.returns-in_err-record
returns-in_err-record c =
    let p = err_from_is_err_and c.from_residual.result c.from_residual.ensures.1 in
    rw (p.1, p.2) (came_to_fault _ _ _ _ _ c.loop-text.invariant c.in_err-record.field-0.0 c.in_err-record.ensures c.args.form c.new-reader.ensures.none)

pub overflow_add-index : goal.overflow_add-index
overflow_add-index c =
    let e = c.loop-text.invariant.read c.args.form c.new-reader.ensures.none in
    let x = came _ _ _ _ _ c.loop-text.invariant c.in-Some.record (some_came c.in-Some.record c.in-Some.is c.in_ok-record.ensures) c.args.form c.new-reader.ensures.none in
    let k : c.loop-text.index + 1 ≤ c.next.new.self.offset =
    count_fits c.args.form _ c.next.new.self _ x.read (counted e.0 c.in-Some.record.entry _ e.2.0) in
    search rules

pub loop-text-smaller : goal.loop-text-smaller
loop-text-smaller c =
    nearer _ _ _ _ _ c.loop-text.invariant c.in-Some.record (some_came c.in-Some.record c.in-Some.is c.in_ok-record.ensures) c.args.form c.new-reader.ensures.none

pub loop-text-preserved : goal.loop-text-preserved
loop-text-preserved c =
    let next = some_came c.in-Some.record c.in-Some.is c.in_ok-record.ensures in
    let x = came _ _ _ _ _ c.loop-text.invariant c.in-Some.record next c.args.form c.new-reader.ensures.none in
    one_more _ _ _ _ _ c.loop-text.invariant c.in-Some.record next c.args.form c.new-reader.ensures.none _
    (λ g es d p. (
      counted es c.in-Some.record.entry _ p.0,
      c.in_ok-write.ensures.bytes ∙ one_line_more c.loop-text.index c.in-Some.record.offset es c.in-Some.record.entry _ _ p.0 (x.place ∙ d.place) p.1 refl,
    ))
