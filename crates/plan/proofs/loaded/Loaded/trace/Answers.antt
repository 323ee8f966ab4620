-- Each turn of the loop adds one step to those that lead to where it began.
use Rattle.std.proofs.Common.{◌+◌, reverse, sym, ap, ◌∙◌, subst, arith}
use Rattle.std.proofs.lemmas.Option.{slice_get_past}
use Rattle.plan.proofs.Trailing.{SoFarBy, note_is, far_start, far_noted, far_seen, far_open, far_turn, far_ends, far_short}
use Rattle.plan.proofs.loaded.Loaded.trace.Goals as goal

pub loop-init : goal.loop-init
loop-init g c =
    let K = g.N.Cost.Cost.kind in
    let net = g.N.Network.means c.args.self.now.net.now in
    let loads = c.args.self.now.loads.now in
    record {
      each = c.clear.ensures.len;
      room = c.clear.ensures.capacity;
      leads = subst (λ path. SoFarBy K net loads c.args.notes.now c.args.to c.args.amount (reverse path) c.args.to c.args.amount) (sym c.clear.ensures.items)
          (λ rows from y e. far_start K net loads c.args.notes.now rows from c.args.to c.args.amount y e);
    }

pub returns-in_err-step-clause-trails : goal.returns-in_err-step-clause-trails
returns-in_err-step-clause-trails g c rows from y e =
    absurd (far_noted g.N.Cost.Cost.kind (g.N.Network.means c.args.self.now.net.now) c.args.self.now.loads.now c.args.notes.now rows from c.args.to c.args.amount y e
    (reverse c.loop.path.items) c.loop.at c.loop.left (c.loop.invariant.leads rows from y e)
    (slice_get_past c.args.notes.now c.loop.at c.in_err-step.ensures.lookup.3))

pub returns-in-Unseen-clause-trails : goal.returns-in-Unseen-clause-trails
returns-in-Unseen-clause-trails g c rows from y e =
    let there = c.in_ok-step.ensures.lookup in
    far_seen g.N.Cost.Cost.kind (g.N.Network.means c.args.self.now.net.now) c.args.self.now.loads.now c.args.notes.now rows from c.args.to c.args.amount y e
    (reverse c.loop.path.items) c.loop.at c.loop.left (c.loop.invariant.leads rows from y e)
    (note_is c.args.notes.now c.loop.at c.in_ok-step.field-0.now _ there.3.0 there.1 c.in-Unseen.is)

pub returns-in-Start-clause-trails : goal.returns-in-Start-clause-trails
returns-in-Start-clause-trails g c rows from y e =
    let there = c.in_ok-step.ensures.lookup in
    far_ends g.N.Cost.Cost.kind (g.N.Network.means c.args.self.now.net.now) c.args.self.now.loads.now c.args.notes.now rows from c.args.to c.args.amount y e
    c.loop.path.items c.loop.at c.loop.left (c.loop.invariant.leads rows from y e)
    (note_is c.args.notes.now c.loop.at c.in_ok-step.field-0.now _ there.3.0 there.1 c.in-Start.is)

pub returns-in_err-span-in-Via-clause-trails : goal.returns-in_err-span-in-Via-clause-trails
returns-in_err-span-in-Via-clause-trails g c rows from y e =
    let there = c.in_ok-step.ensures.lookup in
    absurd (far_open g.N.Cost.Cost.kind (g.N.Network.means c.args.self.now.net.now) c.args.self.now.loads.now c.args.notes.now rows from c.args.to c.args.amount y e
    (reverse c.loop.path.items) c.loop.at c.loop.left (c.loop.invariant.leads rows from y e) c.in-Via.step
    (note_is c.args.notes.now c.loop.at c.in_ok-step.field-0.now _ there.3.0 there.1 c.in-Via.is)
    c.in_err-span-in-Via.ensures)

pub loop-preserved : goal.loop-preserved
loop-preserved g c =
    let there = c.in_ok-step.ensures.lookup in
    record {
      each = c.push_reserved.ensures.len ∙ ap (λ n. n + 1) c.loop.invariant.each;
      room = c.push_reserved.ensures.capacity ∙ c.loop.invariant.room;
      leads = λ rows from y e.
          far_turn g.N.Cost.Cost.kind (g.N.Network.means c.args.self.now.net.now) c.args.self.now.loads.now c.args.notes.now rows from c.args.to c.args.amount y e
          c.loop.path.items c.loop.at c.loop.left (c.loop.invariant.leads rows from y e) _ c.in-Via.step c.push_reserved.ensures.items
          (note_is c.args.notes.now c.loop.at c.in_ok-step.field-0.now _ there.3.0 there.1 c.in-Via.is)
          _ _ c.min-left.result _ _ c.in_ok-span-in-Via.ensures.1 c.min-left.ensures;
    }

pub returns-clause-trails : goal.returns-clause-trails
returns-clause-trails g c rows from y e =
    far_short g.N.Cost.Cost.kind (g.N.Network.means c.args.self.now.net.now) c.args.self.now.loads.now c.args.notes.now rows from c.args.to c.args.amount y e
    c.loop.path.items c.loop.at c.loop.left (c.loop.invariant.leads rows from y e)
    (omega (arith, c.loop-test.false, c.places-end.ensures, c.loop.invariant.each, c.loop.path.ok.0))
