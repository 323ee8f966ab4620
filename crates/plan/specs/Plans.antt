-- What a plan holds after a run of calls.
use Rattle.std.specs.Prelude.{◌≡◌, ℕ, min, true, false, cond, ◌≢◌, List, ◌∷◌, length, None, Ok, Err, vec_len, Result}
use Rattle.costs.specs.Kind.{Kind}
use Rattle.networks.specs.Net.{Net}
use Rattle.networks.specs.declared.refusal.Refusal.{Refusal}
use Rattle.networks.specs.declared.refusal.Refusal.TheVariants.{LosingRing}
use Rattle.plan.specs.declared.calls.Answer.{Answer}
use Rattle.plan.specs.declared.calls.Answer.TheVariants.{Opened, Booked, Settled, Blocked, Sent, Ran, Refused}
use Rattle.plan.specs.declared.calls.Call.{Call}
use Rattle.plan.specs.declared.calls.Outcome.{Outcome}
use Rattle.plan.specs.declared.calls.Routed.{Routed}
use Rattle.plan.specs.declared.calls.Routed.TheVariants as routed
use Rattle.plan.specs.declared.planner.Plan.{Plan}
use Rattle.plan.specs.declared.table.Table.{Table}
use Rattle.plan.specs.Checks.{net_fault}
use Rattle.plan.specs.Histories.{Kept}
use Rattle.plan.specs.Law.{Trace}
use Rattle.plan.specs.State.{State, closed, Event}
use Rattle.plan.specs.Tables.{state_of, MadeFor}

-- the state of a plan
abbrev pub plan_state : {N : Type 0} → Plan N → State
plan_state p = cond p.opened (state_of p.table) closed

-- the table was made for the network, or for as much of it as a plan may be opened over
pub record Sized {C : Type 0} (net : Net C) (t : Table) : Type 0 where
  pub loads : vec_len t.loads ≡ min (length net.ways) 3000
  pub rests : vec_len t.rests ≡ min net.places 1024

-- the plan is where these calls and their answers, the newest first, lead from a new plan over the network
pub record Runs {C R N : Type 0} (K : Kind C R) (net : Net C) (h : List Event) (p : Plan N) : Type 0 where
  pub trace : Trace K net h (plan_state p)
  pub sized : Sized net p.table

-- one event more leads from a plan to another: by its rule, keeping the law
pub record Stepped {C R N : Type 0} (K : Kind C R) (net : Net C) (h : List Event) (p : Plan N) (e : Event) (p' : Plan N) : Type 0 where
  pub kept : Kept K net h (plan_state p) e (plan_state p')
  pub runs : Runs K net (e ∷ h) p'

-- so does the call with its answer, whatever run led to the plan
abbrev pub CalledLawfully : {C R N : Type 0} → Kind C R → Net C → Plan N → Call → ℕ → Answer → Plan N → Type 0
CalledLawfully K net p c work a p' = (h : List Event) → Runs K net h p → Stepped K net h p (record { call = c; work = work; answer = a }) p'

-- one call more, with its answer, leads from a plan to another
abbrev pub Called : {C R N : Type 0} → Kind C R → Net C → Plan N → Call → ℕ → Answer → Plan N → Type 0
Called K net p c work a p' = (h : List Event) → Runs K net h p → Runs K net (record { call = c; work = work; answer = a } ∷ h) p'

-- whatever run led to the plan, P holds of its state
abbrev pub OfRun : {C R N : Type 0} → Kind C R → Net C → Plan N → (State → Type 0) → Type 0
OfRun K net p P = (h : List Event) → Runs K net h p → P (plan_state p)

-- the plan stands for the runs that it stood for
abbrev pub Asked : {C R N : Type 0} → Kind C R → Net C → Plan N → Plan N → Type 0
Asked K net p p' = (h : List Event) → Runs K net h p → Runs K net h p'

-- what opening, booking, routing and settling answer
abbrev pub opening : Result (Unit {0}) Refusal → Answer
opening (Ok u) = Opened
opening (Err r) = Refused r

abbrev pub booking : Result (Unit {0}) Refusal → Answer
booking (Ok u) = Booked
booking (Err r) = Refused r

abbrev pub routing : Result Routed Refusal → Answer
routing (Ok routed.Settled) = Settled
routing (Ok (routed.Blocked u)) = Blocked u
routing (Ok (routed.Sent u v x)) = Sent u v x
routing (Err r) = Refused r

abbrev pub settling : Result Outcome Refusal → Answer
settling (Ok o) = Ran o.routes o.ending
settling (Err r) = Refused r

-- the plan is open, over a network that passes the checks, with a table made for it
pub record Usable {C R N : Type 0} (K : Kind C R) (net : Net C) (p : Plan N) : Type 0 where
  pub opened : p.opened ≡ true
  pub fair : net_fault K net ≡ None
  pub made : MadeFor net p.table

-- after no run is it open
abbrev pub NeverOpened : {C R N : Type 0} → Kind C R → Net C → Plan N → Type 0
NeverOpened K net p = (h : List Event) → Runs K net h p → p.opened ≡ false

-- P holds, if the call was refused
abbrev pub IfRefused : {A : Type 0} → Result A Refusal → Type 0 → Type 0
IfRefused (Ok a) P = Unit {0}
IfRefused (Err r) P = P

-- P holds, if the call was refused for anything but a losing ring
abbrev pub IfRefusedEarly : {A : Type 0} → Result A Refusal → Type 0 → Type 0
IfRefusedEarly r P = (e : Refusal) → r ≡ Err e → e ≢ LosingRing → P
