-- One place more is the pick, or it is not.
use Rattle.std.proofs.Common.{◌≡◌, ◌+◌, length, get_or, pos, ◌≤ℤ◌, ◌<ℤ◌, sym, subst, arith, rules}
use Rattle.plan.specs.Entries.{tables}
use Rattle.plan.specs.Picks.{Wants, Cheapest, Picked}
use Rattle.plan.proofs.Picking.{skipped, has_rest, not_seen, some_value, wants_by, wanted_value, first, taken, left}
use Rattle.plan.proofs.pick.cheapest.Goals.{then-cheaper, else-cheaper, then-rest-ge0-via-then-rest-ge0, then-rest-ge0-via-else-rest-ge0+then-not-is_seen}
use Rattle.plan.proofs.pick.cheapest.Goals as goal

pub loop-v-preserved-in_default : goal.loop-v-preserved-in_default
loop-v-preserved-in_default g c =
    let K = g.C.Cost.kind in
    let rests = c.args.rests.now in
    let rows = c.args.rows.now in
    let notes = c.args.notes.now in
    let v = c.loop-v.v in
    let n : get_or rests v (pos 0) <ℤ pos 0 = search rules in
    let x = some_value K rows v (omega (arith, c.loop-v-test.true, c.loop-v.auto.v-end, c.requires.rows)) in
    first K rests rows notes v x.0 (wants_by K rests rows notes v x.0 n (sym c.if-not-is_seen.ensures) x.1)
    (subst (Picked K rests (tables rows notes) v) c.in_default.is c.loop-v.invariant)

pub loop-v-preserved : goal.loop-v-preserved
loop-v-preserved g c =
    let K = g.C.Cost.kind in
    let rests = c.args.rests.now in
    let rows = c.args.rows.now in
    let notes = c.args.notes.now in
    let v = c.loop-v.v in
    let n : get_or rests v (pos 0) <ℤ pos 0 = search rules in
    let x = some_value K rows v (omega (arith, c.loop-v-test.true, c.loop-v.auto.v-end, c.requires.rows)) in
    let here = wants_by K rests rows notes v x.0 n (sym c.if-not-is_seen.ensures) x.1 in
    let P : _ → Type 0 = Picked K rests (tables rows notes) (v + 1) in
    let best : Cheapest K rests (tables rows notes) v c.in-Some.least = subst (Picked K rests (tables rows notes) v) c.in-Some.is c.loop-v.invariant in
    let value = wanted_value K rests rows notes c.in-Some.least best.value best.wants in
    elim c.if-cheaper.branch as (λ _. P c.if-cheaper.best) [
      | then-cheaper w ↦ subst P (sym w.best-is) (taken K rests rows notes v x.0 here c.in-Some.least best (w.if-cheaper.ensures x.0 best.value x.1 value))
      | else-cheaper w ↦ subst P (sym w.best-is) (left K rests rows notes v x.0 here c.in-Some.least best (w.if-cheaper.ensures x.0 best.value x.1 value))
    ]

pub loop-v-preserved-then-rest-ge0 : goal.loop-v-preserved-then-rest-ge0
loop-v-preserved-then-rest-ge0 g c =
    let K = g.C.Cost.kind in
    let rests = c.args.rests.now in
    let rows = c.args.rows.now in
    let notes = c.args.notes.now in
    let v = c.loop-v.v in
    skipped K rests rows notes v c.loop-v.best
    (elim c.then-rest-ge0.branch as (λ _. (x : K.group.Carrier) → Wants K rests (tables rows notes) v x → ⊥) [
      | then-rest-ge0-via-then-rest-ge0 w ↦ (λ x h. let z : pos 0 ≤ℤ get_or rests v (pos 0) = search rules in has_rest K rests rows notes v x z h)
      | then-rest-ge0-via-else-rest-ge0+then-not-is_seen w ↦ (λ x h. not_seen K rests rows notes v x (sym w.if-not-is_seen.ensures) h)
    ])
    c.loop-v.invariant

pub returns : goal.returns
returns g c =
    let t = c.loop-v-test.false in
    let e : c.loop-v.v ≡ length c.args.rests.now = omega arith in
    subst (λ n. Picked g.C.Cost.kind c.args.rests.now (tables c.args.rows.now c.args.notes.now) n c.loop-v.best) e c.loop-v.invariant
