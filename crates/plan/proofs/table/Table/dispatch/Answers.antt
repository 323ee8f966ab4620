-- Tracing back, sending, moving the rests and counting, of parts of the table that were lent.
use Rattle.std.proofs.Common.{◌+◌, min, vec_items, ap, ◌∙◌}
use Rattle.std.proofs.lemmas.List.{take_at}
use Rattle.plan.specs.Rules.{most_counted}
use Rattle.plan.proofs.Dispatching.{dispatched_by, none_by}
use Rattle.plan.proofs.table.Table.dispatch.Goals as goal

pub returns-in_default-clause-sent : goal.returns-in_default-clause-sent
returns-in_default-clause-sent g c =
    none_by g.N.Cost.Cost.kind (g.N.Network.means c.args.net.now) c.args.self.now c.args.from c.args.to _ _ c.as_slice.ensures.value c.as_slice-2.ensures.value _
    (λ rows y ended. c.in_default.ensures.trails rows c.args.from y ended)

pub returns-clause-sent : goal.returns-clause-sent
returns-clause-sent g c =
    let table = c.args.self.now in
    let loads = take_at c.send.new.loads _ table.loads.len (c.send.auto.loads ∙ c.as_mut_slice.ensures.len) in
    dispatched_by g.N.Cost.Cost.kind (g.N.Network.means c.args.net.now) table c.args.from c.args.to c.asked-asked.result c.in-Some.amount
    _ _ _ _ _ c.trace.new.path.items _ _ _ c.as_slice.ensures.value c.as_mut_slice.ensures.value (ap vec_items c.move_rests.ensures.same.0 ∙ loads) c.as_slice-2.ensures.value c.as_slice-3.ensures.value
    c.asked-asked.ensures
    (λ rows y ended. c.in-Some.ensures.trails rows c.args.from y ended)
    c.send.ensures.sent c.move_rests.ensures.moved (c.one_more-self.ensures ∙ ap (λ n. min (n + 1) most_counted) c.move_rests.ensures.same.1.0)
