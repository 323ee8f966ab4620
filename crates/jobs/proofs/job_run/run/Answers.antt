-- Each record that comes is put to the plan and gives its line, and the reader's fault is the file's first.
use Rattle.std.proofs.Common.{[], ◌++◌, length, string_bytes, sym, refl, ap, ◌∙◌, subst}
use Rattle.std.proofs.lemmas.Result.{err_from_is_err_and}
use Rattle.plan.specs.Plans.{Runs, plan_state}
use Rattle.jobs.specs.JobRuns.{fits, Puts, Said}
use Rattle.jobs.specs.Sections.{section_net}
use Rattle.jobs.proofs.Progress.{came, nearer, one_more, came_to_end, came_to_fault, some_came, none_came}
use Rattle.jobs.proofs.Putting.{CameSo, opens, puts_more}
use Rattle.jobs.proofs.job_run.run.Goals as goal

pub loop-text-init : goal.loop-text-init
loop-text-init c =
    let new = c.in_ok-plan.ensures in
    let kept = c.perform-answer.ensures.net in
    let long = c.in_ok-rows.ensures.len ∙ c.places.ensures in
    let first = opens (section_net c.in_ok-plan.plan.net) c.in_ok-plan.plan c.perform-answer.new.self c.perform-answer.result (length c.as_mut_slice.result.now) (string_bytes c.in_ok-text.text)
    (subst (λ n. Runs fits (section_net n) [] c.in_ok-plan.plan) (sym new.0) new.1) (c.as_mut_slice.ensures.len ∙ long ∙ ap (λ n. (section_net n).places) (sym new.0)) c.perform-answer.ensures.law c.in_ok-text.ensures in (
      refl,
      long ∙ ap (λ n. (section_net n).places) (sym (kept ∙ new.0)),
      record {
        same = c.new-reader.ensures.same;
        read = λ f d. ([], d, subst (λ n. CameSo (section_net n) [] (string_bytes c.in_ok-text.text) c.perform-answer.new.self) (sym kept) first);
      },
    )

pub returns-in_err-record : goal.returns-in_err-record
returns-in_err-record c =
    let p = err_from_is_err_and c.from_residual-in_err-record.result c.from_residual-in_err-record.ensures.1 in
    rw (p.1, p.2) (came_to_fault _ _ _ _ _ c.loop-text.invariant.2 c.in_err-record.field-0.0 c.in_err-record.ensures _ c.new-reader.ensures.none)

pub loop-text-smaller : goal.loop-text-smaller
loop-text-smaller c = nearer _ _ _ _ _ c.loop-text.invariant.2 c.in-Some.record (some_came c.in-Some.record c.in-Some.is c.in_ok-record.ensures) _ c.new-reader.ensures.none

pub loop-text-preserved : goal.loop-text-preserved
loop-text-preserved c =
    let inv = c.loop-text.invariant in
    let held = c.perform-answer.new.self.net in
    let next = some_came c.in-Some.record c.in-Some.is c.in_ok-record.ensures in
    let x = came _ _ _ _ _ inv.2 c.in-Some.record next _ c.new-reader.ensures.none in
    let put = c.in_ok-line.ensures.put (c.as_mut_slice-in-Some.ensures.len ∙ inv.1 ∙ ap (λ n. (section_net n).places) (sym inv.0)) in (
      c.put_record.ensures.net ∙ inv.0,
      inv.1,
      one_more _ _ _ _ _ inv.2 c.in-Some.record next _ c.new-reader.ensures.none _
          (λ g es d p. puts_more (section_net held) c.loop-text.plan c.put_record.new.plan es c.in-Some.record.entry (string_bytes c.loop-text.text) (string_bytes c.in_ok-line.line) (string_bytes c.push_str.new.self) c.in-Some.record.offset p
          (x.place ∙ d.place) (subst (λ n. Puts (section_net n) c.loop-text.plan c.in-Some.record.offset c.in-Some.record.entry (string_bytes c.in_ok-line.line) c.put_record.new.plan) inv.0 put)
          (c.in_ok-push_str.ensures.bytes ∙ ap (λ b. string_bytes c.loop-text.text ++ b) c.as_str.ensures.value)),
    )

pub returns : goal.returns
returns c =
    let e = came_to_end _ _ _ _ _ c.loop-text.invariant.2 (none_came c.in_default.is c.in_ok-record.ensures) _ c.new-reader.ensures.none in (
      e.0,
      e.2.history,
      plan_state c.loop-text.plan,
      e.1,
      subst (λ n. Said n e.0 (string_bytes c.loop-text.text) e.2.history (plan_state c.loop-text.plan))
          (ap section_net (c.perform-answer.ensures.net ∙ c.in_ok-plan.ensures.0) ∙ c.new-section.ensures.told e.0 e.1) e.2.said,
    )
