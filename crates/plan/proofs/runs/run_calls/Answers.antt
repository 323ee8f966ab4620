-- Each call leads from the plan that the earlier ones left, and its answer is put behind theirs.
use Rattle.std.proofs.Common.{◌≡◌, ℕ, List, ◌∷◌, ◌+◌, length, get_or, drop, vec_items, sym, ap, ◌∙◌, subst, subst₂, arith}
use Rattle.plan.specs.State.{Event}
use Rattle.plan.specs.declared.calls.Call.TheVariants.{Open}
use Rattle.plan.specs.Histories.{events}
use Rattle.plan.specs.Plans.{Runs}
use Rattle.plan.proofs.Lawful.{lawful}
use Rattle.plan.proofs.Listed.{one_more}
use Rattle.plan.proofs.runs.run_calls.Goals as goal

pub loop-call-preserved : goal.loop-call-preserved
loop-call-preserved g c =
    let inv = c.loop-call.invariant in
    let kind = g.N.Cost.Cost.kind in
    let work = length c.args.work.now in
    let i = c.loop-call.call-index in
    let answers = c.loop-call.answers.items in
    let long : length answers ≡ i = sym c.loop-call.answers.ok.0 ∙ inv.each in
    let before = events work c.args.calls.now answers i in
    let run = (c.perform.ensures.law before (subst (λ n. Runs kind (g.N.Network.means n) before c.loop-call.plan) (sym inv.net) inv.runs)).runs in record {
      net = c.perform.ensures.net ∙ inv.net;
      each = c.push_reserved.ensures.len ∙ ap (λ n. n + 1) inv.each;
      room = omega (arith, inv.room, c.push_reserved.ensures.capacity);
      past = subst (λ n. drop (g.N.Network.means n).places c.perform.new.work ≡ drop (g.N.Network.means n).places c.loop-call.work) inv.net c.perform.ensures.past ∙ inv.past;
      runs = subst (λ h. Runs kind (g.N.Network.means c.in_ok-plan.plan.net) h c.perform.new.self)
          (sym (ap (λ xs. events work c.args.calls.now xs (i + 1)) c.push_reserved.ensures.items ∙ one_more work c.args.calls.now answers c.perform.result i long))
          (subst₂ (λ n w. Runs kind (g.N.Network.means n) (record { call = get_or c.args.calls.now i Open; work = w; answer = c.perform.result } ∷ before) c.perform.new.self)
          inv.net c.loop-call.auto.work run);
    }

pub returns-clause-ran : goal.returns-clause-ran
returns-clause-ran g c =
    let inv = c.loop-call.invariant in
    let new = c.in_ok-plan.ensures in
    let kind = g.N.Cost.Cost.kind in
    let all : c.loop-call.call-index ≡ length c.args.calls.now = omega (arith, c.loop-call-test.false, c.loop-call.auto.call-index-end) in
    let history : ℕ → List Event = λ n. events (length c.args.work.now) c.args.calls.now (vec_items c.loop-call.answers) n in
    let runs = subst (λ n. Runs kind (g.N.Network.means c.args.net) (history n) c.loop-call.plan) all
    (subst (λ n. Runs kind (g.N.Network.means n) (history c.loop-call.call-index) c.loop-call.plan) new.0 inv.runs) in
    record {
      holds = inv.net ∙ new.0;
      each = inv.each ∙ all;
      runs = runs;
      lawful = lawful kind (g.N.Network.means c.args.net) runs.trace;
    }
