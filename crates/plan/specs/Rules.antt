-- The rules: what each call answers, and what the plan holds after it.
use Rattle.std.specs.Prelude.{◌≡◌, ℕ, suc, ◌+◌, ◌-◌, ◌<◌, ◌≤◌, min, true, List, [], ◌∷◌, length, replicate, ℤ, pos, ◌+ℤ◌, ◌-ℤ◌, ◌≤ℤ◌, ◌<ℤ◌, Some, None, slice_index, slice_index_or, slice_set}
use Rattle.costs.specs.Kind.{Kind}
use Rattle.networks.specs.Net.{Net}
use Rattle.networks.specs.declared.refusal.Refusal.{Refusal}
use Rattle.networks.specs.declared.refusal.Refusal.TheVariants.{LosingRing}
use Rattle.plan.specs.declared.calls.Answer.{Answer}
use Rattle.plan.specs.declared.calls.Answer.TheVariants.{Opened, Booked, Settled, Blocked, Sent, Ran, Refused}
use Rattle.plan.specs.declared.calls.Call.{Call}
use Rattle.plan.specs.declared.calls.Call.TheVariants as call
use Rattle.plan.specs.declared.calls.Ending.{Ending}
use Rattle.plan.specs.declared.calls.Ending.TheVariants as ending
use Rattle.plan.specs.declared.step.Step.{Step}
use Rattle.plan.specs.declared.step.Step.TheVariants.{Ahead, Back}
use Rattle.plan.specs.Checks.{open_fault, book_fault, route_fault, settle_fault}
use Rattle.plan.specs.State.{State, rest}
use Rattle.plan.specs.Steps.{Route, Reach, Least, Losing}

-- x more on each step of a route
abbrev pub along : ℕ → List Step → List ℕ → List ℕ
along x [] f = f
along x (Ahead k ∷ ss) f = along x ss (slice_set f k (slice_index f k + x))
along x (Back k ∷ ss) f = along x ss (slice_set f k (slice_index f k - x))

-- x more on the rest of one place, and less on that of another
abbrev pub move : List ℤ → ℕ → ℕ → ℕ → List ℤ
move rests from to x = slice_set (slice_set rests from (slice_index_or rests from (pos 0) +ℤ pos x)) to (slice_index_or rests to (pos 0) -ℤ pos x)

-- the count stays here once there
abbrev pub most_counted : ℕ
most_counted = 4000000000

module _ {C R : Type 0} (K : Kind C R) (net : Net C) where
  abbrev pub AtRest : State → Type 0
  AtRest s = (v : ℕ) → v < net.places → rest s v ≡ pos 0

  -- u is the lowest place with a positive rest
  pub record Source (s : State) (u : ℕ) : Type 0 where
    pub place : u < net.places
    pub positive : pos 0 <ℤ rest s u
    pub lowest : (v : ℕ) → v < u → rest s v ≤ℤ pos 0

  -- t is the place with a negative rest that is cheapest to reach from u, the lowest among equals; c is that cost
  pub record Target (s : State) (u t : ℕ) (c : K.group.Carrier) : Type 0 where
    pub place : t < net.places
    pub negative : rest s t <ℤ pos 0
    pub cost : Least K net s.loads u t c
    pub cheapest : (v : ℕ) (d : K.group.Carrier) → v < net.places → rest s v <ℤ pos 0 → Least K net s.loads u v d → K.group.le c d
    pub lowest : (v : ℕ) → v < t → rest s v <ℤ pos 0 → Least K net s.loads u v c → ⊥

  -- x is sent from u to t along one cheapest route; x is the smallest of the rest of u, minus the rest of t, and the room of each step
  pub record Sends (s : State) (u t x : ℕ) (s' : State) : Type 0 where
    pub cost : K.group.Carrier
    pub steps : List Step
    pub source : Source s u
    pub target : Target s u t cost
    pub route : Route K net s.loads x u steps t cost
    pub supplied : pos x ≤ℤ rest s u
    pub wanted : pos x ≤ℤ (pos 0 -ℤ rest s t)
    pub most : (y : ℕ) → pos y ≤ℤ rest s u → pos y ≤ℤ (pos 0 -ℤ rest s t) → Route K net s.loads y u steps t cost → y ≤ x
    pub after : s' ≡ record { open? = s.open?; loads = along x steps s.loads; rests = move s.rests t u x; count = min (s.count + 1) most_counted }

  -- no place in the reach of the source u has a negative rest
  pub record Stuck (s : State) (u : ℕ) : Type 0 where
    pub source : Source s u
    pub none : (v : ℕ) → v < net.places → rest s v <ℤ pos 0 → Reach K net s.loads u v → ⊥

  -- n routes, one after the other, each of which sends
  pub data Repeats : ℕ → State → State → Type 0 where
    none : (s : State) → Repeats 0 s s
    more : (n u t x : ℕ) (s s' s'' : State) → Sends s u t x s' → Repeats n s' s'' → Repeats (suc n) s s''

  -- how a settle with a budget ends, once n routes were sent
  abbrev pub Ends : ℕ → ℕ → State → Ending → Type 0
  Ends budget n s ending.Settled = AtRest s
  Ends budget n s (ending.Blocked u) = (n < budget) × Stuck s u
  Ends budget n s ending.Unfinished = (n ≡ budget) × (AtRest s → ⊥)

  -- the rule of each call, with a work table of so many entries
  pub data Rule (work : ℕ) : State → Call → Answer → State → Type 0 where
    open_refused : (s : State) (r : Refusal) → open_fault K net s work ≡ Some r → Rule work s call.Open (Refused r) s
    open_losing : (s : State) → open_fault K net s work ≡ None → Losing K net (replicate (length net.ways) 0) →
        Rule work s call.Open (Refused LosingRing) s
    open_accepted : (s : State) → open_fault K net s work ≡ None → (Losing K net (replicate (length net.ways) 0) → ⊥) →
        Rule work s call.Open Opened (record { open? = true; loads = replicate (length net.ways) 0; rests = replicate net.places (pos 0); count = 0 })
    book_refused : (s : State) (from to amount : ℕ) (r : Refusal) → book_fault net s from to amount ≡ Some r → Rule work s (call.Book from to amount) (Refused r) s
    book_accepted : (s : State) (from to amount : ℕ) → book_fault net s from to amount ≡ None →
        Rule work s (call.Book from to amount) Booked (record { open? = s.open?; loads = s.loads; rests = move s.rests from to amount; count = s.count })
    route_refused : (s : State) (r : Refusal) → route_fault net s work ≡ Some r → Rule work s call.Route (Refused r) s
    route_settled : (s : State) → route_fault net s work ≡ None → AtRest s → Rule work s call.Route Settled s
    route_blocked : (s : State) (u : ℕ) → route_fault net s work ≡ None → Stuck s u → Rule work s call.Route (Blocked u) s
    route_sent : (s s' : State) (u t x : ℕ) → route_fault net s work ≡ None → Sends s u t x s' → Rule work s call.Route (Sent u t x) s'
    settle_refused : (s : State) (budget : ℕ) (r : Refusal) → settle_fault net s budget work ≡ Some r → Rule work s (call.Settle budget) (Refused r) s
    settle_ran : (s s' : State) (budget n : ℕ) (e : Ending) → settle_fault net s budget work ≡ None → n ≤ budget → Repeats n s s' → Ends budget n s' e →
        Rule work s (call.Settle budget) (Ran n e) s'
