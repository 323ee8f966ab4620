-- The rules determine each answer up to the route.
use Rattle.plan.proofs.Determined.{determined}
use Rattle.plan.proofs.laws.determined_stands.Goals as goal

pub returns : goal.returns
returns g c = determined g.N.Cost.Cost.kind (g.N.Network.means c.args.net.now)
