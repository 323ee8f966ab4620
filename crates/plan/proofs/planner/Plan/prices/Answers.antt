-- The search of an open plan finds its prices.
use Rattle.std.proofs.Common.{arith}
use Rattle.plan.proofs.Asking.{prices_done}
use Rattle.plan.proofs.planner.Plan.prices.Goals as goal

pub returns-clause-prices : goal.returns-clause-prices
returns-clause-prices g c = λ h r.
    let n = c.places.ensures in
    let l = c.if-table-places.false in
    prices_done g.N.Cost.Cost.kind (g.N.Network.means c.args.self.now.net) h c.args.self.now r c.args.table.now c.if-not-usable.ensures.opened (omega arith) c.price_all.result _
    c.price_all.ensures.priced
