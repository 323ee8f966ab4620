-- That the rules can be kept, and how far they determine what a plan answers.
use Rattle.std.specs.Prelude.{◌≡◌, ℕ, ◌+◌, ◌<◌, ◌≤◌, true, List}
use Rattle.costs.specs.Kind.{Kind}
use Rattle.networks.specs.Net.{Net}
use Rattle.networks.specs.declared.refusal.Refusal.{Refusal}
use Rattle.plan.specs.declared.calls.Answer.{Answer}
use Rattle.plan.specs.declared.calls.Answer.TheVariants.{Opened, Booked, Settled, Blocked, Sent, Ran, Refused}
use Rattle.plan.specs.declared.calls.Call.{Call}
use Rattle.plan.specs.declared.calls.Call.TheVariants.{Route, Settle}
use Rattle.plan.specs.declared.calls.Ending.{Ending}
use Rattle.plan.specs.declared.calls.Ending.TheVariants as ending
use Rattle.plan.specs.Law.{Trace, owed}
use Rattle.plan.specs.Rules.{Rule, Ends}
use Rattle.plan.specs.State.{State, Event}
use Rattle.plan.specs.Steps.{Price}

-- an answer without what depends on which of several cheapest routes was taken
abbrev pub shape : Answer → Answer
shape Opened = Opened
shape Booked = Booked
shape Settled = Settled
shape (Blocked u) = Blocked u
shape (Sent u t x) = Sent u t 0
shape (Ran n e) = Ran 0 ending.Unfinished
shape (Refused r) = Refused r

module _ {C R : Type 0} (K : Kind C R) (net : Net C) where
  pub record Determined : Type 0 where
    -- after every run each call has an answer
    pub answers : (h : List Event) (s : State) (work : ℕ) → Trace K net h s → (c : Call) → (a : Answer) × (s' : State) × Rule K net work s c a s'
    -- and any two of its answers differ at most by the route
    pub agrees : (s s₁ s₂ : State) (work : ℕ) (c : Call) (a b : Answer) → Rule K net work s c a s₁ → Rule K net work s c b s₂ → shape a ≡ shape b
    -- each place of an open plan has a price
    pub priced : (h : List Event) (s : State) → Trace K net h s → s.open? ≡ true → (v : ℕ) → v < net.places → (c : K.group.Carrier) × Price K net s.loads v c
    -- a route lowers the sum of the positive rests by what it sends, and sends at least one
    pub falls : (h : List Event) (s s' : State) (work u t x : ℕ) → Trace K net h s → Rule K net work s Route (Sent u t x) s' →
        (1 ≤ x) × (owed s' net.places + x ≡ owed s net.places)
    -- the state in which a settle stops says how it ends
    pub ends : (budget n : ℕ) (s : State) (e e' : Ending) → Ends K net budget n s e → Ends K net budget n s e' → e ≡ e'
    -- settles of one plan are blocked at one place, whichever routes they take
    pub one_block : (h : List Event) (s s₁ s₂ : State) (work₁ work₂ b₁ b₂ n₁ n₂ u₁ u₂ : ℕ) → Trace K net h s →
        Rule K net work₁ s (Settle b₁) (Ran n₁ (ending.Blocked u₁)) s₁ → Rule K net work₂ s (Settle b₂) (Ran n₂ (ending.Blocked u₂)) s₂ → u₁ ≡ u₂
    -- a refused call alters nothing
    pub unaltered : (s s' : State) (work : ℕ) (c : Call) (r : Refusal) → Rule K net work s c (Refused r) s' → s' ≡ s
