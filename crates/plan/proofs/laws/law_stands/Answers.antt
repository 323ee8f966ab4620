-- The law holds after every list of calls.
use Rattle.plan.proofs.Stands.{law}
use Rattle.plan.proofs.laws.law_stands.Goals as goal

pub returns : goal.returns
returns g c = law g.N.Cost.Cost.kind (g.N.Network.means c.args.net.now)
