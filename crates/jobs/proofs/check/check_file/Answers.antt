-- Each record that comes is counted, and the reader's fault is the file's first.
use Rattle.std.proofs.Common.{◌+◌, ◌≤◌, rules}
use Rattle.std.proofs.lemmas.Result.{err_from_is_err_and}
use Rattle.jobs.proofs.Progress.{came, nearer, one_more, came_to_fault, counted, count_fits, some_came}
use Rattle.jobs.proofs.check.check_file.Goals as goal

pub returns-in_err-next : goal.returns-in_err-next
returns-in_err-next c =
    let p = err_from_is_err_and c.from_residual.result c.from_residual.ensures.1 in
    rw (p.1, p.2) (came_to_fault _ _ _ _ _ c.loop-records.invariant c.in_err-next.field-0.0 c.in_err-next.ensures c.args.form c.new-reader.ensures.none)

pub overflow_add-records : goal.overflow_add-records
overflow_add-records c =
    let e = c.loop-records.invariant.read c.args.form c.new-reader.ensures.none in
    let x = came _ _ _ _ _ c.loop-records.invariant c.in-Some.field-0 (some_came c.in-Some.field-0 c.in-Some.is c.in_ok-next.ensures) c.args.form c.new-reader.ensures.none in
    let k : c.loop-records.records + 1 ≤ c.next.new.self.offset =
    count_fits c.args.form _ c.next.new.self _ x.read (counted e.0 c.in-Some.field-0.entry _ e.2) in
    search rules

pub loop-records-smaller : goal.loop-records-smaller
loop-records-smaller c =
    nearer _ _ _ _ _ c.loop-records.invariant c.in-Some.field-0 (some_came c.in-Some.field-0 c.in-Some.is c.in_ok-next.ensures)
    c.args.form c.new-reader.ensures.none

pub loop-records-preserved : goal.loop-records-preserved
loop-records-preserved c =
    one_more _ _ _ _ _ c.loop-records.invariant c.in-Some.field-0 (some_came c.in-Some.field-0 c.in-Some.is c.in_ok-next.ensures)
    c.args.form c.new-reader.ensures.none _ (λ g es d e. counted es c.in-Some.field-0.entry _ e)
