-- The network says where the way of a step ends, and the load what room is left.
use Rattle.std.proofs.Common.{sym, refl, subst}
use Rattle.plan.proofs.Legs.{SpanIf, ahead, back, span_some}
use Rattle.plan.proofs.loaded.Loaded.span.Goals.{in-Ahead, in-Back}
use Rattle.plan.proofs.loaded.Loaded.span.Goals as goal

pub returns : goal.returns
returns g c =
    let K = g.N.Cost.Cost.kind in
    let net = g.N.Network.means c.args.self.now.net.now in
    let loads = c.args.self.now.loads.now in
    let span : SpanIf K net loads c.args.step c.match-step.span =
    elim c.match-step.branch as (λ _. SpanIf K net loads c.args.step c.match-step.span) [
      | in-Ahead w ↦ subst (SpanIf K net loads c.args.step) (sym w.span-is)
          (ahead K net loads c.way-k.result _ c.in_ok-ends.ensures c.args.step c.way-k.ensures _ _ w.in-Ahead.is w.saturating_sub.ensures)
      | in-Back w ↦ subst (SpanIf K net loads c.args.step) (sym w.span-is)
          (back K net loads c.way-k.result _ c.in_ok-ends.ensures c.args.step c.way-k.ensures _ _ w.in-Back.is refl)
    ] in
    span_some K net loads span _ c.then_some.ensures
