-- A settle is refused by its first fault, and else goes by the table.
use Rattle.std.proofs.Common.{arith}
use Rattle.plan.proofs.Settled.{settle_closed, settle_bad, settle_short, settle_done}
use Rattle.plan.proofs.planner.Plan.settle.Goals as goal

pub returns-then-not-usable-clause-law : goal.returns-then-not-usable-clause-law
returns-then-not-usable-clause-law g c h r =
    settle_closed g.N.Cost.Cost.kind (g.N.Network.means c.args.self.now.net) h c.args.self.now r _ _ (c.if-not-usable.ensures h r)

pub returns-then-not-usable-clause-run : goal.returns-then-not-usable-clause-run
returns-then-not-usable-clause-run g c h r = (returns-then-not-usable-clause-law g c h r).runs

pub returns-then-budget-eq0-clause-law : goal.returns-then-budget-eq0-clause-law
returns-then-budget-eq0-clause-law g c h r =
    settle_bad g.N.Cost.Cost.kind (g.N.Network.means c.args.self.now.net) h c.args.self.now r _ _ c.if-not-usable.ensures.opened c.then-budget-eq0.either

pub returns-then-budget-eq0-clause-run : goal.returns-then-budget-eq0-clause-run
returns-then-budget-eq0-clause-run g c h r = (returns-then-budget-eq0-clause-law g c h r).runs

pub returns-then-work-places-clause-law : goal.returns-then-work-places-clause-law
returns-then-work-places-clause-law g c h r =
    let n = c.places.ensures in
    let l = c.if-work-places.true in
    settle_short g.N.Cost.Cost.kind (g.N.Network.means c.args.self.now.net) h c.args.self.now r _ _ c.if-not-usable.ensures.opened (omega (arith, c.if-budget-eq0.false)) c.if-budget-gt1000000.false (omega (arith, n, l))

pub returns-then-work-places-clause-run : goal.returns-then-work-places-clause-run
returns-then-work-places-clause-run g c h r = (returns-then-work-places-clause-law g c h r).runs

pub returns-clause-law : goal.returns-clause-law
returns-clause-law g c h r =
    let n = c.places.ensures in
    let l = c.if-work-places.false in
    settle_done g.N.Cost.Cost.kind (g.N.Network.means c.args.self.now.net) h c.args.self.now r _ _ c.if-not-usable.ensures.opened (omega (arith, c.if-budget-eq0.false)) c.if-budget-gt1000000.false (omega (arith, n, l)) c.settle.result _
    c.if-not-usable.ensures.opened c.settle.ensures.long c.settle.ensures.settled

pub returns-clause-run : goal.returns-clause-run
returns-clause-run g c h r = (returns-clause-law g c h r).runs
