-- One place is noted, or each.
use Rattle.std.proofs.Common.{◌<◌, ◌≢◌, length, set, replicate, sym, ap, ◌∙◌, subst, arith, below_more, rules}
use Rattle.plan.specs.declared.note.Note.TheVariants.{Unseen, Start}
use Rattle.plan.specs.Entries.{tables}
use Rattle.plan.specs.Starts.{Zeros, IsStart}
use Rattle.plan.proofs.Noting.{nth_set_same, nth_set_other}
use Rattle.plan.proofs.Starting.{at_inside, alone, everywhere}
use Rattle.plan.proofs.start.start.Goals as goal

pub bounds-rows-from : goal.bounds-rows-from
bounds-rows-from g c = at_inside (length c.args.rows.now) c.in-At.from c.args.starts c.in-At.is c.requires.inside

pub offset_bounds-rows-from : goal.offset_bounds-rows-from
offset_bounds-rows-from g c =
    let l : c.in-At.from < length c.args.rows.now = at_inside (length c.args.rows.now) c.in-At.from c.args.starts c.in-At.is c.requires.inside in
    search rules

pub bounds-notes-from : goal.bounds-notes-from
bounds-notes-from g c =
    omega (arith, at_inside (length c.args.rows.now) c.in-At.from c.args.starts c.in-At.is c.requires.inside, c.fill.auto.self, c.requires.level)

pub offset_bounds-notes-from : goal.offset_bounds-notes-from
offset_bounds-notes-from g c =
    let l : c.in-At.from < length c.fill.new.self =
    omega (arith, at_inside (length c.args.rows.now) c.in-At.from c.args.starts c.in-At.is c.requires.inside, c.fill.auto.self, c.requires.level) in
    search rules

pub loop-row-preserved : goal.loop-row-preserved
loop-row-preserved g c =
    below_more _ _
    (λ v l.
    let ne : v ≢ c.loop-row.row-index = omega arith in
    nth_set_other c.loop-row.rows c.loop-row.row-index v c.row-zero.result ne ∙ c.loop-row.invariant v l)
    (nth_set_same c.loop-row.rows c.loop-row.row-index c.row-zero.result (omega (arith, c.loop-row-test.true, c.loop-row.auto.rows)))

pub returns-in-At : goal.returns-in-At
returns-in-At g c =
    let K = g.C.Cost.kind in
    let n = length c.args.rows.now in
    let rows = set c.args.rows.now c.in-At.from c.row-zero.result in
    let l = at_inside n c.in-At.from c.args.starts c.in-At.is c.requires.inside in
    let blank = c.fill.ensures.after (λ y e. e) ∙ ap (λ m. replicate m Unseen) c.requires.level in
    subst (λ s. Zeros K (IsStart n s) (tables rows (set c.fill.new.self c.in-At.from Start))) (sym c.in-At.is)
    (alone K c.zero.result c.row-zero.result c.zero.ensures c.row-zero.ensures n c.args.rows.now c.fill.new.self c.in-At.from blank l l)

pub returns-after-loop-row : goal.returns-after-loop-row
returns-after-loop-row g c =
    let K = g.C.Cost.kind in
    let n = length c.args.rows.now in
    let full = c.fill-in-Everywhere.ensures.after (λ y e. e) ∙ ap (λ m. replicate m Start) c.requires.level in
    subst (λ s. Zeros K (IsStart n s) (tables c.loop-row.rows c.fill-in-Everywhere.new.self)) (sym c.in-Everywhere.is)
    (everywhere K c.zero.result c.row-zero.result c.zero.ensures c.row-zero.ensures n c.loop-row.rows c.fill-in-Everywhere.new.self
    (λ v l. c.loop-row.invariant v (omega (arith, l, c.loop-row-test.false, c.loop-row.auto.rows))) full)
