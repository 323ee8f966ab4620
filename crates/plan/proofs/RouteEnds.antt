-- What each way out of a route does to the run of a plan.
use Rattle.std.proofs.Common.{◌≡◌, ℕ, ◌<◌, ◌≤◌, true, false, cond, List, length, Some, None, Ok, Err, Result, MatchResult, is_err, vec_len, sym, ap, ◌∙◌, subst, arith, le-ltb, lt-ltb}
use Rattle.costs.specs.Kind.{Kind}
use Rattle.networks.specs.Net.{Net}
use Rattle.networks.specs.declared.refusal.Refusal.{Refusal}
use Rattle.networks.specs.declared.refusal.Refusal.TheVariants.{NotOpen, ShortTable}
use Rattle.plan.specs.declared.calls.Answer.TheVariants.{Refused}
use Rattle.plan.specs.declared.calls.Call.TheVariants.{Route}
use Rattle.plan.specs.declared.calls.Routed.{Routed}
use Rattle.plan.specs.declared.calls.Routed.TheVariants.{Settled, Blocked, Sent}
use Rattle.plan.specs.declared.planner.Plan.{Plan}
use Rattle.plan.specs.Checks.{when, net_fault, route_fault}
use Rattle.plan.specs.Plans.{plan_state, Runs, NeverOpened, routing, Stepped}
use Rattle.plan.specs.Routings.{Routes}
use Rattle.plan.specs.Rules.{Rule, route_refused, route_settled, route_blocked, route_sent}
use Rattle.plan.specs.Sendings.{AsLong}
use Rattle.plan.specs.Standing.{Standing}
use Rattle.plan.specs.State.{State, closed, Event}
use Rattle.plan.specs.Tables.{state_of}
use Rattle.plan.proofs.Deciding.{passed_none}
use Rattle.plan.proofs.Faults.{some_none}
use Rattle.plan.proofs.Stands.{is_good}
use Rattle.plan.proofs.Lawful.{stepped}

module _ {C R N : Type 0} (K : Kind C R) (net : Net C) (h : List Event) (p : Plan N) (runs : Runs K net h p) where
  pub is_open : p.opened ≡ true → plan_state p ≡ state_of p.table
  is_open o = ap (λ b. cond b (state_of p.table) closed) o

  -- an open plan stands
  pub open_stands : p.opened ≡ true → Standing K net (state_of p.table)
  open_stands o = subst (Standing K net) (is_open o) (is_good K net runs.trace (ap (λ s. s.open?) (is_open o))).stands

  -- so its network has no fault, and its table is for it
  pub open_fair : p.opened ≡ true → net_fault K net ≡ None
  open_fair o = passed_none K net (open_stands o).passed

  pub open_made : p.opened ≡ true → (vec_len p.table.rests ≡ net.places) × (vec_len p.table.loads ≡ length net.ways)
  open_made o =
      let passed = (open_stands o).passed in
      let places = passed.places in
      let ways = passed.ways in
      let loads = runs.sized.loads in
      let rests = runs.sized.rests in
      (omega arith, omega arith)

  module _ (work : ℕ) where
    refused : (r : Refusal) → route_fault net (plan_state p) work ≡ Some r → Stepped K net h p (record { call = Route; work = work; answer = Refused r }) p
    refused r e = stepped K net h p p (record { call = Route; work = work; answer = Refused r }) runs
        (route_refused (plan_state p) r e)
        runs.sized

    pub route_closed : p.opened ≡ false → Stepped K net h p (record { call = Route; work = work; answer = Refused NotOpen }) p
    route_closed o = refused NotOpen (ap (λ b. route_fault net (cond b (state_of p.table) closed) work) o)

    pub route_short : p.opened ≡ true → work < net.places → Stepped K net h p (record { call = Route; work = work; answer = Refused ShortTable }) p
    route_short o l = refused ShortTable (ap (λ b. route_fault net (cond b (state_of p.table) closed) work) o ∙ ap (λ b. when b ShortTable) (lt-ltb work net.places l))

    module _ (o : p.opened ≡ true) (enough : net.places ≤ work) where
      no_fault : route_fault net (plan_state p) work ≡ None
      no_fault = ap (λ b. route_fault net (cond b (state_of p.table) closed) work) o ∙ ap (λ b. when b ShortTable) (le-ltb work net.places enough)

      by_rule : (r : Routed) (s s' : State) → route_fault net s work ≡ None → Routes K net s r s' → Rule K net work s Route (routing (Ok r)) s'
      by_rule Settled s s' e w = subst (Rule K net work s Route (routing (Ok Settled))) (sym w.1) (route_settled s e w.0)
      by_rule (Blocked u) s s' e w = subst (Rule K net work s Route (routing (Ok (Blocked u)))) (sym w.1) (route_blocked s u e w.0)
      by_rule (Sent u v x) s s' e w = route_sent s s' u v x e w

      pub route_done : (r : Routed) (q : Plan N) → q.opened ≡ true → AsLong p.table q.table →
          (Standing K net (state_of p.table) → Routes K net (state_of p.table) r (state_of q.table)) → Stepped K net h p (record { call = Route; work = work; answer = routing (Ok r) }) q
      route_done r q c long routed = stepped K net h p q (record { call = Route; work = work; answer = routing (Ok r) }) runs
          (by_rule r (plan_state p) (plan_state q) no_fault
          (subst (λ s. Routes K net s r (plan_state q)) (sym (is_open o)) (subst (λ s. Routes K net (state_of p.table) r s) (sym (ap (λ b. cond b (state_of q.table) closed) c)) (routed (open_stands o)))))
          (record { loads = long.loads ∙ runs.sized.loads; rests = long.rests ∙ runs.sized.rests })

-- what is asked of a plan again tells whether it is open
module _ {C R N : Type 0} (K : Kind C R) (net : Net C) (p : Plan N) (o : p.opened ≡ true) where
  pub never_by : (r : Result (Unit {0}) Refusal) → is_err r ≡ true → MatchResult r (λ _. net_fault K net ≡ None) (λ e. net_fault K net ≡ Some e) → NeverOpened K net p
  never_by (Ok u) e m h runs = cc
  never_by (Err r) e m h runs = absurd (some_none r (sym m ∙ open_fair K net h p runs o))
