-- A booking moves two rests or is refused, in an open plan and in a closed one.
use Rattle.plan.proofs.Booked.{book_closed, book_done}
use Rattle.plan.proofs.planner.Plan.book.Goals as goal

pub returns-then-not-self-clause-law : goal.returns-then-not-self-clause-law
returns-then-not-self-clause-law g c work h r =
    book_closed g.N.Cost.Cost.kind (g.N.Network.means c.args.self.now.net) work c.args.from c.args.to c.args.amount h c.args.self.now r c.if-not-self.true

pub returns-then-not-self-clause-run : goal.returns-then-not-self-clause-run
returns-then-not-self-clause-run g c work h r = (returns-then-not-self-clause-law g c work h r).runs

pub returns-clause-law : goal.returns-clause-law
returns-clause-law g c work h r =
    book_done g.N.Cost.Cost.kind (g.N.Network.means c.args.self.now.net) work c.args.from c.args.to c.args.amount h c.args.self.now r c.if-not-self.false
    c.book.result _ c.if-not-self.false c.book.ensures

pub returns-clause-run : goal.returns-clause-run
returns-clause-run g c work h r = (returns-clause-law g c work h r).runs
