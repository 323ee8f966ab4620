-- An open plan tells the load of each way that its network has.
use Rattle.std.proofs.Common.{◌≡◌, ◌<◌, ◌≤◌, get_or, MatchOption, vec_items, vec_len, ◌∙◌, subst}
use Rattle.plan.specs.declared.table.Table.{Table}
use Rattle.plan.proofs.Replying.{load_is}
use Rattle.plan.proofs.planner.Plan.load.Goals as goal

pub returns : goal.returns
returns g c h runs =
    let held = c.in_ok-open_table.ensures in
    c.ok_or.ensures.value
    ∙ load_is g.N.Cost.Cost.kind (g.N.Network.means c.args.self.now.net) h c.args.self.now runs held.0 c.args.way c.load.result
    (subst (λ (t : Table). MatchOption c.load.result (vec_len t.loads ≤ c.args.way) (λ n. (c.args.way < vec_len t.loads) × (n ≡ get_or (vec_items t.loads) c.args.way 0))) held.1 c.load.ensures)
