-- One step is relaxed, or nothing is to be gained by it.
use Rattle.std.proofs.Common.{sym, ap, ◌∙◌, subst, arith}
use Rattle.costs.specs.Kind.{values, weights}
use Rattle.plan.specs.Entries.{Work, Most, Better, tables}
use Rattle.plan.proofs.Noting.{noted_read}
use Rattle.plan.proofs.Relaxing.{read_at, unseen, unlowered, lowered}
use Rattle.plan.proofs.relax.relax.Goals as goal

pub returns-then-not-is_seen : goal.returns-then-not-is_seen
returns-then-not-is_seen g c =
    unseen g.C.Cost.kind (tables c.args.rows.now c.args.notes.now) c.args.step c.args.leg.from c.args.leg.to c.args.leg.cost (sym c.if-not-is_seen.ensures)

-- the sum is refused only if it is too heavy
pub returns-in_default : goal.returns-in_default
returns-in_default g c =
    let K = g.C.Cost.kind in
    let t : Work _ = tables c.args.rows.now c.args.notes.now in
    let heavy = read_at (weights K) t c.args.leg.from c.index-rows-leg.result c.requires.within.0 c.index-rows-leg.is (sym c.if-not-is_seen.ensures) in
    let room = c.requires.room (weights K c.index-rows-leg.result) heavy in
    absurd (omega (arith, ap K.weighs c.read.ensures, c.in_default.ensures, room))

pub returns-then-not-improves : goal.returns-then-not-improves
returns-then-not-improves g c =
    let K = g.C.Cost.kind in
    let t : Work _ = tables c.args.rows.now c.args.notes.now in
    let near = read_at (values K) t c.args.leg.from c.index-rows-leg.result c.requires.within.0 c.index-rows-leg.is (sym c.if-not-is_seen.ensures) in
    let far = noted_read (values K) t c.args.leg.to c.index-rows-leg-2.result c.requires.within.1 c.index-rows-leg-2.is in
    unlowered K t c.args.step c.args.leg.from c.args.leg.to c.args.leg.cost (K.reads c.index-rows-leg.result) c.in-Some.next near
    (c.in-Some.ensures.1 ∙ ap (λ x. K.group.plus (K.value x) (K.value c.args.leg.cost)) c.read.ensures)
    (subst (λ o. Most K.group o (K.value c.in-Some.next)) (sym far) c.if-not-improves.ensures)

pub returns : goal.returns
returns g c =
    let K = g.C.Cost.kind in
    let t : Work _ = tables c.args.rows.now c.args.notes.now in
    let near = read_at (values K) t c.args.leg.from c.index-rows-leg.result c.requires.within.0 c.index-rows-leg.is (sym c.if-not-is_seen.ensures) in
    let heavy = read_at (weights K) t c.args.leg.from c.index-rows-leg.result c.requires.within.0 c.index-rows-leg.is (sym c.if-not-is_seen.ensures) in
    let far = noted_read (values K) t c.args.leg.to c.index-rows-leg-2.result c.requires.within.1 c.index-rows-leg-2.is in
    lowered K t c.args.step c.args.leg.from c.args.leg.to c.args.leg.cost (K.reads c.index-rows-leg.result) c.in-Some.next near
    (c.in-Some.ensures.1 ∙ ap (λ x. K.group.plus (K.value x) (K.value c.args.leg.cost)) c.read.ensures)
    c.row.result (record { rows = c.requires.within.1; notes = omega (arith, c.requires.level, c.requires.within.1) }) heavy
    (ap K.reads c.row.ensures ∙ K.reads_back c.in-Some.next)
    (subst (λ o. Better K.group o (K.value c.in-Some.next)) (sym far) c.if-not-improves.ensures)
