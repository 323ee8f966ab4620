-- The loop stops at the first way that has a fault.
use Rattle.std.proofs.Common.{sym, ap, ◌∙◌}
use Rattle.std.proofs.lemmas.Result.{err_from_is_err_and}
use Rattle.plan.specs.Checks.{fault_of_ways}
use Rattle.plan.proofs.Checked.{faulty_way, fair_way}
use Rattle.plan.proofs.Legs.{way_known}
use Rattle.plan.proofs.checks.check_ways.Goals as goal

pub returns-in_err-check_way : goal.returns-in_err-check_way
returns-in_err-check_way g c =
    let p = err_from_is_err_and c.from_residual.result c.from_residual.ensures.1 in
    rw (p.1, p.2) (sym (
    faulty_way g.N.Cost.Cost.kind c.places-places.result (g.N.Network.means c.args.net.now).ways c.loop-k.k _ c.in_err-check_way.field-0.0
    (way_known _ c.in-Some.ends c.in-Some-cost.cost c.in-Some.ensures c.in-Some-cost.ensures) (sym c.in_err-check_way.ensures) c.loop-k.invariant
    ∙ ap (λ n. fault_of_ways g.N.Cost.Cost.kind n 0 (g.N.Network.means c.args.net.now).ways) c.places-places.ensures))

pub loop-k-preserved : goal.loop-k-preserved
loop-k-preserved g c =
    fair_way g.N.Cost.Cost.kind c.places-places.result (g.N.Network.means c.args.net.now).ways c.loop-k.k _
    (way_known _ c.in-Some.ends c.in-Some-cost.cost c.in-Some.ensures c.in-Some-cost.ensures) (sym c.in_ok-check_way.ensures) c.loop-k.invariant
