-- Every run keeps the law at each of its calls.
use Rattle.std.proofs.Common.{ℕ, List, subst, subst₂}
use Rattle.costs.specs.Kind.{Kind}
use Rattle.networks.specs.Net.{Net}
use Rattle.plan.specs.declared.calls.Answer.TheVariants.{Ran}
use Rattle.plan.specs.declared.calls.Call.TheVariants.{Settle}
use Rattle.plan.specs.declared.calls.Ending.{Ending}
use Rattle.plan.specs.Histories.{SettledFairly, Kept, Lawful, start, then}
use Rattle.plan.specs.Law as law
use Rattle.plan.specs.Law.{Trace}
use Rattle.plan.specs.Plans.{plan_state, Sized, Runs, Stepped}
use Rattle.plan.specs.Rules.{Rule}
use Rattle.plan.specs.declared.planner.Plan.{Plan}
use Rattle.plan.specs.State.{State, Event}
use Rattle.plan.proofs.Stands as stands

module _ {C R : Type 0} (K : Kind C R) (net : Net C) where
  fairly : (h : List Event) (s s' : State) (work budget n : ℕ) (x : Ending) → Trace K net h s → Rule K net work s (Settle budget) (Ran n x) s' → SettledFairly K net h s budget n x s'
  fairly h s s' work budget n x t rule = record {
    few = (stands.law K net).few h s s' work budget n x t rule;
    settled_if = (stands.law K net).settled_if h s s' work budget n x t rule;
    settled_only_if = λ e. (stands.law K net).settled_only_if h s s' work budget n t (subst (λ z. Rule K net work s (Settle budget) (Ran n z) s') e rule);
    else_blocked = (stands.law K net).else_blocked h s s' work budget n x t rule;
  }

  kept : (h : List Event) (s s' : State) (e : Event) → Trace K net h s → Rule K net e.work s e.call e.answer s' → Kept K net h s e s'
  kept h s s' e t rule = record {
    by_rule = rule;
    sound = λ work has. (stands.law K net).sound _ s' work (law.then h s s' e t rule) has;
    blocked_only_if = (stands.law K net).blocked_only_if h s s' e.work e.call e.answer t rule;
    settled_fairly = λ budget n x c a. fairly h s s' e.work budget n x t (subst₂ (λ y z. Rule K net e.work s y z s') c a rule);
  }

  pub lawful : {h : List Event} {s : State} → Trace K net h s → Lawful K net h s
  lawful law.start = start
  lawful (law.then h s s' e t rule) = then h s s' e (lawful t) (kept h s s' e t rule)

-- an event that keeps its rule leads on
pub stepped : {C R N : Type 0} (K : Kind C R) (net : Net C) (h : List Event) (p q : Plan N) (e : Event) → Runs K net h p →
    Rule K net e.work (plan_state p) e.call e.answer (plan_state q) → Sized net q.table → Stepped K net h p e q
stepped K net h p q e runs rule sized = record {
  kept = kept K net h (plan_state p) (plan_state q) e runs.trace rule;
  runs = record { trace = law.then h (plan_state p) (plan_state q) e runs.trace rule; sized = sized };
}
