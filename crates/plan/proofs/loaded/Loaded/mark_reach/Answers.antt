-- The marks spread from one place over the first entries, and the rest stay.
use Rattle.std.proofs.Common.{◌≡◌, length, set, take, ap, ◌∙◌, arith}
use Rattle.std.proofs.lemmas.List.{length-take-le}
use Rattle.plan.proofs.Deciding.{passed}
use Rattle.plan.proofs.Marked.{tells, marked_by}
use Rattle.plan.proofs.Standing.{inside}
use Rattle.plan.proofs.loaded.Loaded.mark_reach.Goals as goal

pub returns : goal.returns
returns g c =
    let K = g.N.Cost.Cost.kind in
    let net = g.N.Network.means c.args.self.now.net.now in
    let loads = c.args.self.now.loads.now in
    let front = take c.places.result c.args.table.now in
    let long : length front ≡ net.places = length-take-le c.places.result c.args.table.now (omega (arith, c.places.ensures, c.requires.long)) ∙ c.places.ensures in
    let told = tells K net loads (inside K net (passed K net c.args.self.now.fair)) c.args.from (length front) c.requires.within long
    _ c.sweeps.new.marks (ap (λ m. set m c.args.from 1) (c.fill.ensures.after (λ y e. e))) c.sweeps.ensures in
    marked_by K net loads c.args.from c.places.result c.args.table.now c.sweeps.new.marks c.places.ensures c.requires.long
    (omega (arith, c.sweeps.auto.marks, c.fill.ensures.len)) told
