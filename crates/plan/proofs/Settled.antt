-- What each way out of a settle does to the run of a plan.
use Rattle.std.proofs.Common.{◌≡◌, ℕ, ◌<◌, ◌≤◌, true, false, cond, ◌||◌, eqb, ltb, ◌⊎◌, List, Some, None, sym, ap, ◌∙◌, subst, ⊎_elim, arith, le-ltb, lt-ltb}
use Rattle.std.proofs.lemmas.Bool.{eq-eqb, ne_eqb}
use Rattle.costs.specs.Kind.{Kind}
use Rattle.networks.specs.Net.{Net}
use Rattle.networks.specs.declared.refusal.Refusal.{Refusal}
use Rattle.networks.specs.declared.refusal.Refusal.TheVariants.{NotOpen, BadBudget, ShortTable}
use Rattle.plan.specs.declared.calls.Answer.TheVariants.{Ran, Refused}
use Rattle.plan.specs.declared.calls.Call.TheVariants.{Settle}
use Rattle.plan.specs.declared.calls.Outcome.{Outcome}
use Rattle.plan.specs.declared.planner.Plan.{Plan}
use Rattle.plan.specs.Checks.{or_else, when, settle_fault}
use Rattle.plan.specs.Plans.{plan_state, Runs, Stepped}
use Rattle.plan.specs.Routings.{Settles}
use Rattle.plan.specs.Rules.{settle_refused, settle_ran}
use Rattle.plan.specs.Sendings.{AsLong}
use Rattle.plan.specs.Standing.{Standing}
use Rattle.plan.specs.State.{closed, Event}
use Rattle.plan.specs.Tables.{state_of}
use Rattle.plan.proofs.RouteEnds.{is_open, open_stands}
use Rattle.plan.proofs.Lawful.{stepped}

module _ {C R N : Type 0} (K : Kind C R) (net : Net C) (h : List Event) (p : Plan N) (runs : Runs K net h p) (budget work : ℕ) where
  refused : (r : Refusal) → settle_fault net (plan_state p) budget work ≡ Some r → Stepped K net h p (record { call = Settle budget; work = work; answer = Refused r }) p
  refused r e = stepped K net h p p (record { call = Settle budget; work = work; answer = Refused r }) runs
      (settle_refused (plan_state p) budget r e)
      runs.sized

  pub settle_closed : p.opened ≡ false → Stepped K net h p (record { call = Settle budget; work = work; answer = Refused NotOpen }) p
  settle_closed o = refused NotOpen (ap (λ b. settle_fault net (cond b (state_of p.table) closed) budget work) o)

  module _ (o : p.opened ≡ true) where
    open_fault_is : settle_fault net (plan_state p) budget work ≡ or_else (when (eqb budget 0 || ltb 1000000 budget) BadBudget) (when (ltb work net.places) ShortTable)
    open_fault_is = ap (λ b. settle_fault net (cond b (state_of p.table) closed) budget work) o

    bad_budget : (budget ≡ 0) ⊎ ((budget ≡ 0 → ⊥) × (1000000 < budget)) → (eqb budget 0 || ltb 1000000 budget) ≡ true
    bad_budget either = ⊎_elim (λ e. ap (λ b. b || ltb 1000000 budget) (eq-eqb budget 0 e)) (λ m. let a = ne_eqb budget 0 m.0 in let b = lt-ltb 1000000 budget m.1 in simp (a, b)) either

    pub settle_bad : (budget ≡ 0) ⊎ ((budget ≡ 0 → ⊥) × (1000000 < budget)) → Stepped K net h p (record { call = Settle budget; work = work; answer = Refused BadBudget }) p
    settle_bad either = refused BadBudget (open_fault_is ∙ ap (λ b. or_else (when b BadBudget) (when (ltb work net.places) ShortTable)) (bad_budget either))

    module _ (some : 0 < budget) (few : budget ≤ 1000000) where
      good_budget : (eqb budget 0 || ltb 1000000 budget) ≡ false
      good_budget = let a = ne_eqb budget 0 (λ e. omega (arith, e)) in let b = le-ltb 1000000 budget few in simp (a, b)

      pub settle_short : work < net.places → Stepped K net h p (record { call = Settle budget; work = work; answer = Refused ShortTable }) p
      settle_short l =
          refused ShortTable
          (open_fault_is ∙ ap (λ b. or_else (when b BadBudget) (when (ltb work net.places) ShortTable)) good_budget ∙ ap (λ b. when b ShortTable) (lt-ltb work net.places l))

      pub settle_done : net.places ≤ work → (r : Outcome) (q : Plan N) → q.opened ≡ true → AsLong p.table q.table →
          (Standing K net (state_of p.table) → Settles K net budget (state_of p.table) r (state_of q.table)) →
          Stepped K net h p (record { call = Settle budget; work = work; answer = Ran r.routes r.ending }) q
      settle_done enough r q c long settled =
          let no_fault : settle_fault net (plan_state p) budget work ≡ None =
          open_fault_is ∙ ap (λ b. or_else (when b BadBudget) (when (ltb work net.places) ShortTable)) good_budget ∙ ap (λ b. when b ShortTable) (le-ltb work net.places enough) in
          let done : Settles K net budget (plan_state p) r (plan_state q) =
          subst (λ s. Settles K net budget s r (plan_state q)) (sym (is_open K net h p runs o))
          (subst (λ s. Settles K net budget (state_of p.table) r s) (sym (ap (λ b. cond b (state_of q.table) closed) c)) (settled (open_stands K net h p runs o))) in
          stepped K net h p q (record { call = Settle budget; work = work; answer = Ran r.routes r.ending }) runs
          (settle_ran (plan_state p) (plan_state q) budget r.routes r.ending no_fault done.few done.sent done.ends)
          (record { loads = long.loads ∙ runs.sized.loads; rests = long.rests ∙ runs.sized.rests })
