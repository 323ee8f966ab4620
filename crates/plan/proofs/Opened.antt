-- What each way out of an opening does to the run of a plan.
use Rattle.std.proofs.Common.{◌≡◌, ℕ, ◌<◌, ◌≤◌, true, false, cond, ltb, List, length, replicate, pos, Some, None, Ok, Err, vec_items, vec_len, Result, sym, ap, ◌∙◌, subst, le-ltb, lt-ltb}
use Rattle.costs.specs.Kind.{Kind}
use Rattle.networks.specs.Net.{Net}
use Rattle.networks.specs.declared.refusal.Refusal.{Refusal}
use Rattle.networks.specs.declared.refusal.Refusal.TheVariants.{AlreadyOpen, ShortTable, LosingRing}
use Rattle.plan.specs.declared.calls.Answer.TheVariants.{Opened, Refused}
use Rattle.plan.specs.declared.calls.Call.TheVariants.{Open}
use Rattle.plan.specs.declared.planner.Plan.{Plan}
use Rattle.plan.specs.declared.table.Table.{Table}
use Rattle.plan.specs.Checks.{or_else, when, net_fault, open_fault}
use Rattle.plan.specs.Plans.{plan_state, Sized, Runs, Stepped}
use Rattle.plan.specs.Rules.{Rule, open_refused, open_losing, open_accepted}
use Rattle.plan.specs.State.{closed, Event}
use Rattle.plan.specs.Steps.{Losing}
use Rattle.plan.specs.Tables.{state_of, Cleared, Same}
use Rattle.plan.proofs.Deciding.{open_is}
use Rattle.plan.proofs.Lawful.{stepped}

-- which refusal it is; an answer that is none counts as the losing ring
abbrev pub told : {A : Type 0} → Result A Refusal → Refusal
told (Ok a) = LosingRing
told (Err r) = r

module _ {C R N : Type 0} (K : Kind C R) (net : Net C) (work : ℕ) (h : List Event) (p : Plan N) (runs : Runs K net h p) where
  -- a refused opening leaves the plan as it was
  refused : (r : Refusal) → open_fault K net (plan_state p) work ≡ Some r → Stepped K net h p (record { call = Open; work = work; answer = Refused r }) p
  refused r e = stepped K net h p p (record { call = Open; work = work; answer = Refused r }) runs
      (open_refused (plan_state p) r e)
      runs.sized

  pub open_already : p.opened ≡ true → Stepped K net h p (record { call = Open; work = work; answer = Refused AlreadyOpen }) p
  open_already o = refused AlreadyOpen (ap (λ b. open_fault K net (cond b (state_of p.table) closed) work) o)

  module _ (o : p.opened ≡ false) where
    closed_fault_is : open_fault K net (plan_state p) work ≡ or_else (net_fault K net) (when (ltb work net.places) ShortTable)
    closed_fault_is = ap (λ b. open_fault K net (cond b (state_of p.table) closed) work) o ∙ open_is K net work

    pub open_faulty : (r : Refusal) → Some r ≡ net_fault K net → Stepped K net h p (record { call = Open; work = work; answer = Refused r }) p
    open_faulty r e = refused r (closed_fault_is ∙ ap (λ f. or_else f (when (ltb work net.places) ShortTable)) (sym e))

    pub open_short : None ≡ net_fault K net → work < net.places → Stepped K net h p (record { call = Open; work = work; answer = Refused ShortTable }) p
    open_short e l =
        refused ShortTable (closed_fault_is ∙ ap (λ f. or_else f (when (ltb work net.places) ShortTable)) (sym e) ∙ ap (λ b. when b ShortTable) (lt-ltb work net.places l))

    no_fault : None ≡ net_fault K net → net.places ≤ work → open_fault K net closed work ≡ None
    no_fault e l = open_is K net work ∙ ap (λ f. or_else f (when (ltb work net.places) ShortTable)) (sym e) ∙ ap (λ b. when b ShortTable) (le-ltb work net.places l)

    was_closed : plan_state p ≡ closed
    was_closed = ap (λ b. cond b (state_of p.table) closed) o

    module _ (fair : None ≡ net_fault K net) (enough : net.places ≤ work) (t t' : Table) (cleared : Cleared p.table t) (same : Same t t')
        (long : vec_len p.table.rests ≡ net.places) (wide : vec_len p.table.loads ≡ length net.ways) where
      still_sized : Sized net t'
      still_sized = record {
        loads = ap vec_len same.loads ∙ cleared.loads_long ∙ runs.sized.loads;
        rests = ap vec_len same.rests ∙ cleared.rests_long ∙ runs.sized.rests;
      }

      none_loaded : vec_items t.loads ≡ replicate (length net.ways) 0
      none_loaded = cleared.loads ∙ ap (λ n. replicate n 0) wide

      pub open_loses : (q : Plan N) → q.opened ≡ false → q.table ≡ t' → Losing K net (vec_items t.loads) → Stepped K net h p (record { call = Open; work = work; answer = Refused LosingRing }) q
      open_loses q c e l = stepped K net h p q (record { call = Open; work = work; answer = Refused LosingRing }) runs
          (subst (λ s. Rule K net work s Open (Refused LosingRing) (plan_state q)) (sym was_closed)
          (subst (λ s. Rule K net work closed Open (Refused LosingRing) s) (sym (ap (λ b. cond b (state_of q.table) closed) c))
          (open_losing closed (no_fault fair enough) (subst (Losing K net) none_loaded l))))
          (subst (Sized net) (sym e) still_sized)

      fresh_state : state_of t' ≡ record { open? = true; loads = replicate (length net.ways) 0; rests = replicate net.places (pos 0); count = 0 }
      fresh_state =
          let a : vec_items t'.loads ≡ replicate (length net.ways) 0 = ap vec_items same.loads ∙ none_loaded in
          let b : vec_items t'.rests ≡ replicate net.places (pos 0) = ap vec_items same.rests ∙ cleared.rests ∙ ap (λ n. replicate n (pos 0)) long in
          let d : t'.count ≡ 0 = same.count ∙ cleared.count in
          ap (λ x. record { open? = true; loads = x; rests = vec_items t'.rests; count = t'.count }) a
          ∙ ap (λ x. record { open? = true; loads = replicate (length net.ways) 0; rests = x; count = t'.count }) b
          ∙ ap (λ x. record { open? = true; loads = replicate (length net.ways) 0; rests = replicate net.places (pos 0); count = x }) d

      pub open_done : (q : Plan N) → q.opened ≡ true → q.table ≡ t' → (Losing K net (vec_items t.loads) → ⊥) → Stepped K net h p (record { call = Open; work = work; answer = Opened }) q
      open_done q c e sound = stepped K net h p q (record { call = Open; work = work; answer = Opened }) runs
          (subst (λ s. Rule K net work s Open Opened (plan_state q)) (sym was_closed)
          (subst (λ s. Rule K net work closed Open Opened s) (sym (ap (λ b. cond b (state_of q.table) closed) c ∙ ap state_of e ∙ fresh_state))
          (open_accepted closed (no_fault fair enough) (λ l. sound (subst (Losing K net) (sym none_loaded) l)))))
          (subst (Sized net) (sym e) still_sized)
