-- A list of calls and their answers, and the law at each of them with no premise left.
use Rattle.std.specs.Prelude.{◌≡◌, ℕ, zero, suc, ◌+◌, ◌≤◌, List, [], ◌∷◌, slice_index_or}
use Rattle.std.specs.List.{ContainsAt}
use Rattle.costs.specs.Kind.{Kind}
use Rattle.networks.specs.Net.{Net}
use Rattle.plan.specs.declared.calls.Answer.{Answer}
use Rattle.plan.specs.declared.calls.Answer.TheVariants.{Opened, Ran}
use Rattle.plan.specs.declared.calls.Call.{Call}
use Rattle.plan.specs.declared.calls.Call.TheVariants.{Open, Settle}
use Rattle.plan.specs.declared.calls.Ending.{Ending}
use Rattle.plan.specs.declared.calls.Ending.TheVariants as ending
use Rattle.plan.specs.Law.{Blocks, Possible, Sound, owed}
use Rattle.plan.specs.Rules.{Rule, AtRest}
use Rattle.plan.specs.State.{State, closed, Event}

-- the first n calls, each with a work table of so many entries, and their answers; the newest stands first
abbrev pub events : ℕ → List Call → List Answer → ℕ → List Event
events work calls answers zero = []
events work calls answers (suc n) = record { call = slice_index_or calls n Open; work = work; answer = slice_index_or answers n Opened } ∷ events work calls answers n

module _ {C R : Type 0} (K : Kind C R) (net : Net C) where
  -- a settle, made in state s after the events h, sent n routes, ended so, and left s'
  pub record SettledFairly (h : List Event) (s : State) (budget n : ℕ) (e : Ending) (s' : State) : Type 0 where
    -- it sends no more routes than the sum of the positive rests, which it lowers by as many at least
    pub few : owed s' net.places + n ≤ owed s net.places
    -- with a budget no smaller than that sum it ends settled, every rest then zero, if some load meets the bookings
    pub settled_if : owed s net.places ≤ budget → Possible K net h → (e ≡ ending.Settled) × AtRest K net s'
    -- and only if
    pub settled_only_if : e ≡ ending.Settled → Possible K net h
    -- and else blocked
    pub else_blocked : owed s net.places ≤ budget → (Possible K net h → ⊥) → (u : ℕ) × (e ≡ ending.Blocked u)

  -- a call, made in state s after the events h, left s'
  pub record Kept (h : List Event) (s : State) (e : Event) (s' : State) : Type 0 where
    pub by_rule : Rule K net e.work s e.call e.answer s'
    -- once an open was accepted: the load keeps every limit, is least, and accounts for every booking
    pub sound : (work : ℕ) → ContainsAt (e ∷ h) (record { call = Open; work = work; answer = Opened }) → Sound K net (e ∷ h) s'
    -- blocked is answered only if no load meets the bookings
    pub blocked_only_if : Blocks K net e.answer → Possible K net h → ⊥
    pub settled_fairly : (budget n : ℕ) (x : Ending) → e.call ≡ Settle budget → e.answer ≡ Ran n x → SettledFairly h s budget n x s'

  -- the events lead from a new plan to the state, and each of them keeps the law
  pub data Lawful : List Event → State → Type 0 where
    start : Lawful [] closed
    then : (h : List Event) (s s' : State) (e : Event) → Lawful h s → Kept h s e s' → Lawful (e ∷ h) s'
