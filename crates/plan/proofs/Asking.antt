-- What a question leaves of a plan, and what the prices say.
use Rattle.std.proofs.Common.{◌≡◌, ◌≤◌, Bool, true, false, cond, List, length, Ok, vec_items, vec_len, MatchBool, sym, ap, ◌∙◌, subst, le-ltb}
use Rattle.costs.specs.Kind.{Kind}
use Rattle.networks.specs.Net.{Net}
use Rattle.networks.specs.declared.refusal.Refusal.TheVariants.{ShortTable}
use Rattle.plan.specs.declared.planner.Plan.{Plan}
use Rattle.plan.specs.declared.table.Table.{Table}
use Rattle.plan.specs.Checks.{when}
use Rattle.plan.specs.Law.{Trace}
use Rattle.plan.specs.Plans.{plan_state, Runs}
use Rattle.plan.specs.Questions.{Priced, Prices, prices_fault}
use Rattle.plan.specs.State.{closed, Event}
use Rattle.plan.specs.Steps.{Losing}
use Rattle.plan.specs.Tables.{state_of, Same}
use Rattle.plan.proofs.RouteEnds.{is_open, open_stands}
use Rattle.plan.proofs.Routings.{same_state}
use Rattle.plan.proofs.Walks.{stands_sound}

-- a plan whose table is the same is in the same state
module _ {N : Type 0} (p : Plan N) (t : Table) (same : Same p.table t) where
  pub asked_state : plan_state (record { net = p.net; table = t; opened = p.opened }) ≡ plan_state p
  asked_state = ap (λ s. cond p.opened s closed) (same_state p.table t same)

  pub asked : {C R : Type 0} (K : Kind C R) (net : Net C) (h : List Event) → Runs K net h p → Runs K net h (record { net = p.net; table = t; opened = p.opened })
  asked K net h runs = record {
    trace = subst (Trace K net h) (sym asked_state) runs.trace;
    sized = record { loads = ap vec_len same.loads ∙ runs.sized.loads; rests = ap vec_len same.rests ∙ runs.sized.rests };
  }

module _ {C R N : Type 0} (K : Kind C R) (net : Net C) (h : List Event) (p : Plan N) (runs : Runs K net h p) (table : List R) where
  module _ (o : p.opened ≡ true) where
    open_prices : prices_fault net (plan_state p) (length table) ≡ prices_fault net (state_of p.table) (length table)
    open_prices = ap (λ b. prices_fault net (cond b (state_of p.table) closed) (length table)) o

    pub prices_done : net.places ≤ length table → (still : Bool) (table' : List R) →
        MatchBool still ((Losing K net (vec_items p.table.loads) → ⊥) × Priced K net (vec_items p.table.loads) table table') (Losing K net (vec_items p.table.loads)) →
        Prices K net (plan_state p) table (Ok tt) table'
    prices_done l true table' w =
        (open_prices ∙ ap (λ b. when b ShortTable) (le-ltb (length table) net.places l), subst (λ s. Priced K net s.loads table table') (sym (is_open K net h p runs o)) w.1)
    prices_done l false table' w = absurd (stands_sound K net (open_stands K net h p runs o) w)
