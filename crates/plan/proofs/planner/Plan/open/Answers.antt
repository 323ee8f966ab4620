-- An opening is refused by its first fault or for a losing ring, and else leaves all at zero.
use Rattle.std.proofs.Common.{length, refl, sym, ◌∙◌, arith}
use Rattle.std.proofs.lemmas.Result.{err_from_is_err_and}
use Rattle.plan.proofs.Opened.{open_already, open_faulty, open_short, open_loses, open_done}
use Rattle.plan.proofs.planner.Plan.open.Goals as goal

pub returns-then-self-clause-law : goal.returns-then-self-clause-law
returns-then-self-clause-law g c h r =
    open_already g.N.Cost.Cost.kind (g.N.Network.means c.args.self.now.net) (length c.args.work.now) h c.args.self.now r c.if-self.true

pub returns-then-self-clause-run : goal.returns-then-self-clause-run
returns-then-self-clause-run g c h r = (returns-then-self-clause-law g c h r).runs

pub returns-in_err-check_net-clause-law : goal.returns-in_err-check_net-clause-law
returns-in_err-check_net-clause-law g c h r =
    let p = err_from_is_err_and c.from_residual.result c.from_residual.ensures.1 in
    rw (p.1, p.2)
    (open_faulty g.N.Cost.Cost.kind (g.N.Network.means c.args.self.now.net) (length c.args.work.now) h c.args.self.now r c.if-self.false _ (sym c.in_err-check_net.ensures))

pub returns-in_err-check_net-clause-run : goal.returns-in_err-check_net-clause-run
returns-in_err-check_net-clause-run g c h r = (returns-in_err-check_net-clause-law g c h r).runs

pub returns-then-work-places-clause-law : goal.returns-then-work-places-clause-law
returns-then-work-places-clause-law g c h r =
    let n = c.places-places.ensures in
    let l = c.if-work-places.true in
    open_short g.N.Cost.Cost.kind (g.N.Network.means c.args.self.now.net) (length c.args.work.now) h c.args.self.now r c.if-self.false (sym c.in_ok-check_net.ensures) (omega arith)

pub returns-then-work-places-clause-run : goal.returns-then-work-places-clause-run
returns-then-work-places-clause-run g c h r = (returns-then-work-places-clause-law g c h r).runs

pub returns-then-has_losing_ring-clause-law : goal.returns-then-has_losing_ring-clause-law
returns-then-has_losing_ring-clause-law g c h r =
    let n = c.places-places.ensures in
    let l = c.if-work-places.false in
    let f = c.is_for.ensures.0 c.if-not-is_for.false in
    open_loses g.N.Cost.Cost.kind (g.N.Network.means c.args.self.now.net) (length c.args.work.now) h c.args.self.now r c.if-self.false (sym c.in_ok-check_net.ensures) (omega arith)
    c.clear.new.self c.has_losing_ring.new.self c.clear.ensures c.has_losing_ring.ensures.same (f.0 ∙ n) (f.1 ∙ c.ways.ensures)
    _ c.if-self.false refl c.if-has_losing_ring.ensures.decides

pub returns-then-has_losing_ring-clause-run : goal.returns-then-has_losing_ring-clause-run
returns-then-has_losing_ring-clause-run g c h r = (returns-then-has_losing_ring-clause-law g c h r).runs

pub returns-clause-law : goal.returns-clause-law
returns-clause-law g c h r =
    let n = c.places-places.ensures in
    let l = c.if-work-places.false in
    let f = c.is_for.ensures.0 c.if-not-is_for.false in
    open_done g.N.Cost.Cost.kind (g.N.Network.means c.args.self.now.net) (length c.args.work.now) h c.args.self.now r c.if-self.false (sym c.in_ok-check_net.ensures) (omega arith)
    c.clear.new.self c.has_losing_ring.new.self c.clear.ensures c.has_losing_ring.ensures.same (f.0 ∙ n) (f.1 ∙ c.ways.ensures)
    _ refl refl c.if-has_losing_ring.ensures.decides

pub returns-clause-run : goal.returns-clause-run
returns-clause-run g c h r = (returns-clause-law g c h r).runs
