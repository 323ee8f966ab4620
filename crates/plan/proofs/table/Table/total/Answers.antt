-- Each way adds its cost as often as its load, and the sum is made in an open plan.
use Rattle.std.proofs.Common.{◌<◌, ◌≤◌, length, vec_items, arith}
use Rattle.plan.specs.Tables.{state_of}
use Rattle.plan.proofs.Checked.{cost_there}
use Rattle.plan.proofs.Summing.{summed_more, summed_all, loaded, part_made, sum_made, unmade}
use Rattle.plan.proofs.table.Table.total.Goals as goal

pub returns-in_err-cost : goal.returns-in_err-cost
returns-in_err-cost g c =
    let net = g.N.Network.means c.args.net.now in
    let on : c.loop-k.k < length net.ways = omega (arith, c.loop-k-test.true, c.ways-k-end.ensures) in
    unmade g.N.Cost.Cost.kind net (state_of c.args.self.now) _ c.from_residual.ensures (λ stands. cost_there net.ways c.loop-k.k on c.in_err-cost.ensures)

pub returns-in_err-load : goal.returns-in_err-load
returns-in_err-load g c =
    let net = g.N.Network.means c.args.net.now in
    let on : c.loop-k.k < length net.ways = omega (arith, c.loop-k-test.true, c.ways-k-end.ensures) in
    let past : length (vec_items c.args.self.now.loads) ≤ c.loop-k.k = omega (arith, c.in_err-load.ensures, c.args.self.now.loads.ok.0) in
    unmade g.N.Cost.Cost.kind net (state_of c.args.self.now) _ c.from_residual-in_err-load.ensures (λ stands. loaded g.N.Cost.Cost.kind net stands c.loop-k.k on past)

pub returns-in_err-part : goal.returns-in_err-part
returns-in_err-part g c =
    let net = g.N.Network.means c.args.net.now in
    let on : c.loop-k.k < length net.ways = omega (arith, c.loop-k-test.true, c.ways-k-end.ensures) in
    unmade g.N.Cost.Cost.kind net (state_of c.args.self.now) _ c.from_residual-in_err-part.ensures
    (λ stands. part_made g.N.Cost.Cost.kind net stands c.loop-k.k on c.in_ok-load.field-0 c.in_ok-cost.cost c.in_ok-cost.ensures
    c.in_ok-load.ensures.1 c.in_err-part.ensures.made)

pub returns-in_err-total : goal.returns-in_err-total
returns-in_err-total g c =
    let net = g.N.Network.means c.args.net.now in
    let on : c.loop-k.k < length net.ways = omega (arith, c.loop-k-test.true, c.ways-k-end.ensures) in
    let part = c.in_ok-part.ensures.made in
    unmade g.N.Cost.Cost.kind net (state_of c.args.self.now) _ c.from_residual-in_err-total.ensures
    (λ stands. sum_made g.N.Cost.Cost.kind net stands c.loop-k.k on c.in_ok-load.field-0 c.in_ok-cost.cost c.in_ok-part.part c.loop-k.total
    part.0 part.1 c.in_ok-part.ensures.light c.loop-k.invariant c.in_err-total.ensures)

pub loop-k-preserved : goal.loop-k-preserved
loop-k-preserved g c =
    let loads = vec_items c.args.self.now.loads in
    let load = c.in_ok-load.ensures in
    let part = c.in_ok-part.ensures.made in
    let there : c.loop-k.k < length loads = omega (arith, load.0, c.args.self.now.loads.ok.0) in
    summed_more g.N.Cost.Cost.kind (g.N.Network.means c.args.net.now) loads c.loop-k.k c.in_ok-load.field-0 c.in_ok-cost.cost c.in_ok-cost.ensures
    there load.1 c.loop-k.total c.in_ok-part.part c.in_ok-total.total c.loop-k.invariant part.0 part.1 part.2 c.in_ok-part.ensures.light c.in_ok-total.ensures.1

pub returns : goal.returns
returns g c =
    let net = g.N.Network.means c.args.net.now in
    let all : length net.ways ≤ c.loop-k.k = omega (arith, c.loop-k-test.false, c.ways-k-end.ensures) in
    summed_all g.N.Cost.Cost.kind net (vec_items c.args.self.now.loads) c.loop-k.k c.loop-k.total all c.loop-k.invariant
