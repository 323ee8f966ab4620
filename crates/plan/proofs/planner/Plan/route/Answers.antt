-- A route is refused by its first fault, and else goes by the table.
use Rattle.std.proofs.Common.{arith}
use Rattle.plan.proofs.RouteEnds.{route_closed, route_short, route_done}
use Rattle.plan.proofs.planner.Plan.route.Goals as goal

pub returns-then-not-usable-clause-law : goal.returns-then-not-usable-clause-law
returns-then-not-usable-clause-law g c h r =
    route_closed g.N.Cost.Cost.kind (g.N.Network.means c.args.self.now.net) h c.args.self.now r _ (c.if-not-usable.ensures h r)

pub returns-then-not-usable-clause-run : goal.returns-then-not-usable-clause-run
returns-then-not-usable-clause-run g c h r = (returns-then-not-usable-clause-law g c h r).runs

pub returns-then-work-places-clause-law : goal.returns-then-work-places-clause-law
returns-then-work-places-clause-law g c h r =
    let n = c.places.ensures in
    let l = c.if-work-places.true in
    route_short g.N.Cost.Cost.kind (g.N.Network.means c.args.self.now.net) h c.args.self.now r _ c.if-not-usable.ensures.opened (omega arith)

pub returns-then-work-places-clause-run : goal.returns-then-work-places-clause-run
returns-then-work-places-clause-run g c h r = (returns-then-work-places-clause-law g c h r).runs

pub returns-clause-law : goal.returns-clause-law
returns-clause-law g c h r =
    let n = c.places.ensures in
    let l = c.if-work-places.false in
    route_done g.N.Cost.Cost.kind (g.N.Network.means c.args.self.now.net) h c.args.self.now r _ c.if-not-usable.ensures.opened (omega arith) c.route.result _
    c.if-not-usable.ensures.opened c.route.ensures.long c.route.ensures.routed

pub returns-clause-run : goal.returns-clause-run
returns-clause-run g c h r = (returns-clause-law g c h r).runs
