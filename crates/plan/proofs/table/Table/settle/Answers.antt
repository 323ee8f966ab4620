-- Each turn sends one route more, or ends the settle.
use Rattle.std.proofs.Common.{◌≡◌, sym, refl, ◌∙◌, subst, arith}
use Rattle.plan.specs.Picks.{Spent, Lowest}
use Rattle.plan.specs.Rules.{Repeats, none}
use Rattle.plan.specs.Tables.{state_of}
use Rattle.plan.proofs.Repeating.{one_more, ends_settled, ends_blocked, ends_unfinished, longer}
use Rattle.plan.proofs.Routings.{source_by, rest_by}
use Rattle.plan.proofs.Standing.{repeats_stands}
use Rattle.plan.specs.Routings.{Settles}
use Rattle.plan.proofs.table.Table.settle.Goals.{in-Settled, in-Blocked}
use Rattle.plan.proofs.table.Table.settle.Goals as goal

pub loop-routes-init : goal.loop-routes-init
loop-routes-init g c = (record { loads = refl; rests = refl }, refl, λ stands. none (state_of c.args.self.now))

pub loop-routes-preserved : goal.loop-routes-preserved
loop-routes-preserved g c =
    let inv = c.loop-routes.invariant in
    let sent = c.in-Sent.ensures in
    let K = g.N.Cost.Cost.kind in
    let net = g.N.Network.means c.args.net.now in (
      longer c.args.self.now c.loop-routes.self c.route.new.self inv.0 sent.long,
      sent.past ∙ inv.1,
      λ stands. one_more K net c.args.budget c.loop-routes.routes (state_of c.args.self.now) (state_of c.loop-routes.self) (state_of c.route.new.self) (inv.2 stands)
          (sent.routed (repeats_stands K net stands (inv.2 stands))),
    )

pub returns-in-loop-routes-clause-settled : goal.returns-in-loop-routes-clause-settled
returns-in-loop-routes-clause-settled g c stands =
    let K = g.N.Cost.Cost.kind in
    let net = g.N.Network.means c.args.net.now in
    let begun = state_of c.args.self.now in
    let before = state_of c.loop-routes.self in
    let after = state_of c.route.new.self in
    let run = c.loop-routes.invariant.2 stands in
    let stood = repeats_stands K net stands run in
    let S : _ → Type 0 = λ e. Settles K net c.args.budget begun (record { routes = c.loop-routes.routes; ending = e }) after in
    elim c.match-route.branch as (λ _. S c.match-route.ending) [
      | in-Settled w ↦ subst S (sym w.ending-is) (ends_settled K net c.args.budget c.loop-routes.routes begun before after run (omega (arith, c.loop-routes-test.true)) (w.in-Settled.ensures.routed stood))
      | in-Blocked w ↦ subst S (sym w.ending-is) (ends_blocked K net c.args.budget c.loop-routes.routes begun before after run c.loop-routes-test.true (w.in-Blocked.ensures.routed stood))
    ]

pub returns-in-Some-clause-settled : goal.returns-in-Some-clause-settled
returns-in-Some-clause-settled g c stands =
    let K = g.N.Cost.Cost.kind in
    let net = g.N.Network.means c.args.net.now in
    let begun = state_of c.args.self.now in
    let before = state_of c.loop-routes.self in
    let run = c.loop-routes.invariant.2 stands in
    let e : c.loop-routes.routes ≡ c.args.budget = omega (arith, c.loop-routes-test.false, c.loop-routes.auto.routes-end) in
    ends_unfinished K net c.args.budget c.args.budget begun before before (subst (λ n. Repeats K net n begun before) e run) refl
    (source_by K net before (repeats_stands K net stands run).whole (subst (λ rs. Lowest rs c.in-Some.field-0) c.as_slice.ensures.value c.in-Some.ensures))

pub returns-in-None-clause-settled : goal.returns-in-None-clause-settled
returns-in-None-clause-settled g c stands =
    let K = g.N.Cost.Cost.kind in
    let net = g.N.Network.means c.args.net.now in
    let begun = state_of c.args.self.now in
    let before = state_of c.loop-routes.self in
    let run = c.loop-routes.invariant.2 stands in
    let e : c.loop-routes.routes ≡ c.args.budget = omega (arith, c.loop-routes-test.false, c.loop-routes.auto.routes-end) in
    ends_settled K net c.args.budget c.args.budget begun before before (subst (λ n. Repeats K net n begun before) e run) (omega arith)
    (rest_by K net before (repeats_stands K net stands run) (subst Spent c.as_slice.ensures.value c.in-None.ensures), refl)
