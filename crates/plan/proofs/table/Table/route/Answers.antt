-- The lowest source, the nearest target, and what is sent.
use Rattle.std.proofs.Common.{◌<◌, vec_len, refl, ap, ◌∙◌, subst}
use Rattle.plan.specs.Picks.{Spent, Lowest}
use Rattle.plan.specs.Tables.{state_of}
use Rattle.plan.proofs.Routings.{source_by, rest_by, same_state, sent_by}
use Rattle.plan.proofs.table.Table.route.Goals as goal

pub nearest-requires : goal.nearest-requires
nearest-requires g c = record { ready = c.requires; place = subst (λ n. c.in-Some.from < n) (c.as_slice.ensures.len ∙ c.requires.made.rests) c.in-Some.ensures.place }

pub dispatch-amount-requires : goal.dispatch-amount-requires
dispatch-amount-requires g c =
    let same = c.in-Some-nearest.ensures.same in
    record {
      fair = c.requires.fair;
      made = record { loads = ap vec_len same.loads ∙ c.requires.made.loads; rests = ap vec_len same.rests ∙ c.requires.made.rests };
      places = (subst (λ n. c.in-Some.from < n) (c.as_slice.ensures.len ∙ c.requires.made.rests) c.in-Some.ensures.place, c.in-Some-nearest.ensures.place);
    }

pub returns-in_default-clause-routed : goal.returns-in_default-clause-routed
returns-in_default-clause-routed g c stands =
    (rest_by g.N.Cost.Cost.kind (g.N.Network.means c.args.net.now) (state_of c.args.self.now) stands (subst Spent c.as_slice.ensures.value c.in_default.ensures), refl)

pub returns-in_default-nearest-clause-routed : goal.returns-in_default-nearest-clause-routed
returns-in_default-nearest-clause-routed g c stands =
    let near = c.in_default-nearest.ensures in (
      near.nearest stands (source_by g.N.Cost.Cost.kind (g.N.Network.means c.args.net.now) (state_of c.args.self.now) stands.whole (subst (λ rs. Lowest rs c.in-Some.from) c.as_slice.ensures.value c.in-Some.ensures)),
      same_state c.args.self.now c.nearest.new.self near.same,
    )

pub returns-clause-long : goal.returns-clause-long
returns-clause-long g c =
    let same = c.in-Some-nearest.ensures.same in
    let long = c.dispatch-amount.ensures.long in
    record { loads = long.loads ∙ ap vec_len same.loads; rests = long.rests ∙ ap vec_len same.rests }

pub returns-clause-routed : goal.returns-clause-routed
returns-clause-routed g c stands =
    let near = c.in-Some-nearest.ensures in
    sent_by g.N.Cost.Cost.kind (g.N.Network.means c.args.net.now) c.args.self.now c.nearest.new.self near.same c.in-Some.from c.in-Some-nearest.to c.dispatch-amount.result
    c.nearest.new.work (state_of c.dispatch-amount.new.self)
    (source_by g.N.Cost.Cost.kind (g.N.Network.means c.args.net.now) (state_of c.args.self.now) stands.whole (subst (λ rs. Lowest rs c.in-Some.from) c.as_slice.ensures.value c.in-Some.ensures))
    near.nearest c.dispatch-amount.ensures.sent stands
