-- What a record's line tells, by what the record asks.
use Rattle.std.proofs.Common.{length, sym, refl, ◌∙◌, subst}
use Rattle.std.proofs.lemmas.Result.{IfOk-weaker}
use Rattle.jobs.specs.JobRuns.{Puts, total_said, prices_said}
use Rattle.jobs.specs.Sections.{section_net}
use Rattle.jobs.proofs.Putting.{call_puts, total_puts, prices_puts, silent_puts, quiet}
use Rattle.jobs.proofs.job_run.put_record.Goals as goal

pub returns-in-Some-clause-put : goal.returns-in-Some-clause-put
returns-in-Some-clause-put c =
    let net = section_net c.args.plan.now.net in
    IfOk-weaker c.text.result _ _
    (λ t b l. subst (λ x. Puts net c.args.plan.now c.args.offset c.args.entry x c.perform-answer.new.self) (sym b)
    (call_puts net c.args.plan.now c.perform-answer.new.self c.args.offset c.args.entry c.in-Some.call c.perform-answer.result (length c.args.rows.now) (sym c.in-Some.ensures) l c.perform-answer.ensures.law))
    c.text.ensures

pub returns-in-Total-clause-put : goal.returns-in-Total-clause-put
returns-in-Total-clause-put c =
    let net = section_net c.args.plan.now.net in
    IfOk-weaker c.text-in-Total.result _ _
    (λ t b l. subst (λ x. Puts net c.args.plan.now c.args.offset c.args.entry x c.args.plan.now) (sym (b ∙ c.line_of_total.ensures))
    (subst (λ e. Puts net c.args.plan.now c.args.offset e (total_said c.args.offset c.total.result) c.args.plan.now) (sym c.in-Total.is) (total_puts net c.args.plan.now c.args.plan.now c.args.offset c.total.result c.total.ensures refl)))
    c.text-in-Total.ensures

pub returns-in-Prices-clause-put : goal.returns-in-Prices-clause-put
returns-in-Prices-clause-put c =
    let net = section_net c.args.plan.now.net in
    IfOk-weaker c.text-in-Prices.result _ _
    (λ t b l. subst (λ x. Puts net c.args.plan.now c.args.offset c.args.entry x c.prices-told.new.self) (sym (b ∙ c.line_of_prices.ensures))
    (subst (λ e. Puts net c.args.plan.now c.args.offset e (prices_said c.args.offset c.prices-told.result c.prices-told.new.table) c.prices-told.new.self) (sym c.in-Prices.is)
    (prices_puts net c.args.plan.now c.prices-told.new.self c.args.offset c.prices-told.result c.args.rows.now c.prices-told.new.table l (c.prices-told.auto.table ∙ l)
    c.prices-told.ensures.prices c.prices-told.ensures.state c.prices-told.ensures.run)))
    c.text-in-Prices.ensures

pub returns-in_default-entry-clause-put : goal.returns-in_default-entry-clause-put
returns-in_default-entry-clause-put c l =
    let net = section_net c.args.plan.now.net in
    subst (λ x. Puts net c.args.plan.now c.args.offset c.args.entry x c.args.plan.now) (sym c.new.ensures.bytes)
    (silent_puts net c.args.plan.now c.args.plan.now c.args.offset c.args.entry (quiet c.args.entry c.in_default.ensures c.in_default-entry.not-Total c.in_default-entry.not-Prices) refl)
