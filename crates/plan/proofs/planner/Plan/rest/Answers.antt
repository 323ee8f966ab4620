-- An open plan tells the rest of each place that its network has.
use Rattle.std.proofs.Common.{◌≡◌, ◌<◌, ◌≤◌, get_or, pos, MatchOption, vec_items, vec_len, ◌∙◌, subst}
use Rattle.plan.specs.declared.table.Table.{Table}
use Rattle.plan.proofs.Replying.{rest_is}
use Rattle.plan.proofs.planner.Plan.rest.Goals as goal

pub returns : goal.returns
returns g c h runs =
    let held = c.in_ok-open_table.ensures in
    c.ok_or.ensures.value
    ∙ rest_is g.N.Cost.Cost.kind (g.N.Network.means c.args.self.now.net) h c.args.self.now runs held.0 c.args.place c.rest.result
    (subst (λ (t : Table). MatchOption c.rest.result (vec_len t.rests ≤ c.args.place) (λ z. (c.args.place < vec_len t.rests) × (z ≡ get_or (vec_items t.rests) c.args.place (pos 0)))) held.1 c.rest.ensures)
