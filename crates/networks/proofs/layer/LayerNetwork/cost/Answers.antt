-- The cost of a way is that below, changed.
use Rattle.std.proofs.Common.{ap, ◌∙◌}
use Rattle.networks.specs.Layers.{listed}
use Rattle.networks.proofs.Layered.{no_cost, some_cost}
use Rattle.networks.proofs.layer.LayerNetwork.cost.Goals as goal

pub returns-in_err-below : goal.returns-in_err-below
returns-in_err-below g c =
    c.from_residual.ensures
    ∙ no_cost g.X.Change.limits g.X.Change.costs g.X.Change.changes g.met.X.Change.by_limit_and_cost (listed c.args.self.now.list) (g.N.Network.means c.args.self.now.below).ways c.args.k c.in_err-below.ensures

pub returns : goal.returns
returns g c =
    some_cost g.X.Change.limits g.X.Change.costs g.X.Change.changes g.met.X.Change.by_limit_and_cost (listed c.args.self.now.list) (g.N.Network.means c.args.self.now.below).ways c.args.k c.in_ok-below.below _
    c.in_ok-below.ensures (c.cost-2.ensures ∙ ap (λ b. g.X.Change.costs b c.in_ok-below.below) c.lists.ensures)
