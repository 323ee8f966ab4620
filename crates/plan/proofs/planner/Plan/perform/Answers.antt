-- A booking has no work table: it is as lawful with this one as with any.
use Rattle.std.proofs.Common.{◌≡◌, length, sym, subst₂, rules}
use Rattle.plan.specs.Plans.{Stepped, booking}
use Rattle.plan.proofs.planner.Plan.perform.Goals as goal

pub returns-in-Book-clause-law : goal.returns-in-Book-clause-law
returns-in-Book-clause-law g c = λ h r.
    let work = length c.args.work.now in
    let is : c.map_or_else-in-Book.result ≡ booking c.book.result = search rules in
    subst₂ (λ k a. Stepped g.N.Cost.Cost.kind (g.N.Network.means c.args.self.now.net) h c.args.self.now (record { call = k; work = work; answer = a }) c.book.new.self)
    (sym c.in-Book.is) (sym is) (c.book.ensures.law work h r)
