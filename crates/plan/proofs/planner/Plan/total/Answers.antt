-- An open plan tells what its loads cost.
use Rattle.std.proofs.Common.{◌≡◌, MatchOption, vec_items, sym, subst}
use Rattle.plan.specs.Loads.{costs}
use Rattle.plan.specs.Plans.{plan_state}
use Rattle.plan.specs.Questions.{Totals}
use Rattle.plan.specs.Standing.{Standing}
use Rattle.plan.specs.Tables.{state_of}
use Rattle.plan.specs.declared.table.Table.{Table}
use Rattle.plan.proofs.Replying.{total_is}
use Rattle.plan.proofs.planner.Plan.total.Goals as goal

pub returns : goal.returns
returns g c h runs =
    let K = g.N.Cost.Cost.kind in
    let net = g.N.Network.means c.args.self.now.net in
    let held = c.in_ok-open_table.ensures in
    subst (Totals K net (plan_state c.args.self.now)) (sym c.ok_or.ensures.value)
    (total_is K net h c.args.self.now runs held.0 c.total.result
    (subst (λ (t : Table). MatchOption c.total.result (Standing K net (state_of t) → ⊥) (λ x. K.value x ≡ costs K net.ways (vec_items t.loads))) held.1 c.total.ensures))
