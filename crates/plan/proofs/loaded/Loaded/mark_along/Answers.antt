-- A step was taken, or there is none.
use Rattle.std.proofs.Common.{arith}
use Rattle.plan.proofs.Deciding.{passed}
use Rattle.plan.proofs.Legs.{fair_span}
use Rattle.plan.proofs.Marked.{by_step}
use Rattle.plan.proofs.loaded.Loaded.mark_along.Goals as goal

pub extend-requires : goal.extend-requires
extend-requires g c =
    let K = g.N.Cost.Cost.kind in
    let net = g.N.Network.means c.args.self.now.net.now in
    let f = fair_span K net c.args.self.now.loads.now (passed K net c.args.self.now.fair) c.in-Some.ensures.1 in
    let long = c.requires in
    record { within = (omega (arith, f.0), omega (arith, f.1)) }

pub returns : goal.returns
returns g c =
    by_step g.N.Cost.Cost.kind (g.N.Network.means c.args.self.now.net.now) c.args.self.now.loads.now c.in-Some.ensures.1 c.extend.ensures
