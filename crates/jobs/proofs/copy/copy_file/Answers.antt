-- Each record that comes is put behind the others, and there is room for it.
use Rattle.std.proofs.Common.{length, sym, ap, ◌∙◌, subst, arith, length-append}
use Rattle.jobs.specs.Entries.{record_of}
use Rattle.jobs.specs.Files.{written}
use Rattle.jobs.specs.Writing.{put_at, Writes}
use Rattle.jobs.proofs.Progress.{came, nearer, one_more, came_to_fault, some_came}
use Rattle.jobs.proofs.Puts.{put_on, fitting}
use Rattle.jobs.proofs.Turns.{written_push}
use Rattle.jobs.proofs.copy.copy_file.Goals as goal

pub returns-in_err-record : goal.returns-in_err-record
returns-in_err-record c =
    let good = c.in_ok-check_file.ensures in
    absurd ((came_to_fault _ _ _ _ _ c.loop-record.invariant c.in_err-record.field-0.0 c.in_err-record.ensures c.args.form c.new-reader.ensures.none).bad (good.0, good.1))

pub loop-record-smaller : goal.loop-record-smaller
loop-record-smaller c =
    nearer _ _ _ _ _ c.loop-record.invariant c.in-Some.record (some_came c.in-Some.record c.in-Some.is c.in_ok-record.ensures)
    c.args.form c.new-reader.ensures.none

pub loop-record-preserved : goal.loop-record-preserved
loop-record-preserved c =
    one_more _ _ _ _ _ c.loop-record.invariant c.in-Some.record (some_came c.in-Some.record c.in-Some.is c.in_ok-record.ensures)
    c.args.form c.new-reader.ensures.none _
    (λ g es d p.
    let e = c.in-Some.record.entry in
    let w = subst (λ r. Writes (record_of e) c.loop-record.table c.loop-record.end r c.write.new.table) c.unwrap-end.ensures c.write.ensures in
    let n = ap length (written_push es e) ∙ length-append (written es) (record_of e) in
    let q = p.0 in
    let v = w.1 in
    (omega arith, w.2 ∙ put_on _ _ (written es) (record_of e) _ p.1 p.0 ∙ ap (put_at c.args.table.now 0) (sym (written_push es e))))

pub unwrap-end-requires : goal.unwrap-end-requires
unwrap-end-requires c =
    let e = c.in-Some.record.entry in
    let r = c.loop-record.invariant.read c.args.form c.new-reader.ensures.none in
    let x = came _ _ _ _ _ c.loop-record.invariant c.in-Some.record (some_came c.in-Some.record c.in-Some.is c.in_ok-record.ensures) c.args.form c.new-reader.ensures.none in
    let n = ap length (written_push r.0 e) ∙ length-append (written r.0) (record_of e) in
    let at = x.read.place in
    let within = c.next.new.self.within in
    let same = ap length (x.same ∙ c.loop-record.invariant.same) in
    let end = r.2.0 in
    let long = c.loop-record.auto.table in
    fitting (record_of e) c.loop-record.table c.write.new.table c.loop-record.end c.write.result c.write.ensures (omega arith)
