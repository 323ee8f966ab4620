-- After no run is a plan open over a network with a fault.
use Rattle.std.proofs.Common.{sym, ◌∙◌}
use Rattle.plan.proofs.RouteEnds.{never_by}
use Rattle.plan.proofs.planner.Plan.usable.Goals as goal

pub returns-then-is_err : goal.returns-then-is_err
returns-then-is_err g c =
    never_by g.N.Cost.Cost.kind (g.N.Network.means c.args.self.now.net) c.args.self.now c.if-not-self.false c.check_net.result
    (sym c.is_err.ensures.value ∙ c.if-is_err.true) c.check_net.ensures
