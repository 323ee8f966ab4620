-- The law over runs: what holds after every list of calls.
use Rattle.std.specs.Prelude.{◌≡◌, ℕ, zero, suc, ◌+◌, ◌<◌, ◌≤◌, cond, List, [], ◌∷◌, ℤ, pos, ◌+ℤ◌, ◌-ℤ◌, ◌==◌, int_lt, unsigned_abs}
use Rattle.std.specs.List.{ContainsAt}
use Rattle.costs.specs.Kind.{Kind}
use Rattle.networks.specs.Net.{Net}
use Rattle.plan.specs.declared.calls.Answer.{Answer}
use Rattle.plan.specs.declared.calls.Answer.TheVariants.{Opened, Booked, Settled, Blocked, Sent, Ran, Refused}
use Rattle.plan.specs.declared.calls.Call.{Call}
use Rattle.plan.specs.declared.calls.Call.TheVariants.{Open, Book, Route, Settle}
use Rattle.plan.specs.declared.calls.Ending.{Ending}
use Rattle.plan.specs.declared.calls.Ending.TheVariants as ending
use Rattle.plan.specs.Loads.{Keeps, costs, leaving}
use Rattle.plan.specs.Rules.{Rule, AtRest}
use Rattle.plan.specs.State.{State, closed, rest, Event}

-- what an event books at v: from v less to v, where it was accepted
abbrev pub booked_by : Call → Answer → ℕ → ℤ
booked_by (Book from to amount) Booked v = cond (from == v) (pos amount) (pos 0) -ℤ cond (to == v) (pos amount) (pos 0)
booked_by (Book from to amount) Opened v = pos 0
booked_by (Book from to amount) Settled v = pos 0
booked_by (Book from to amount) (Blocked s) v = pos 0
booked_by (Book from to amount) (Sent s t x) v = pos 0
booked_by (Book from to amount) (Ran n e) v = pos 0
booked_by (Book from to amount) (Refused r) v = pos 0
booked_by Open a v = pos 0
booked_by Route a v = pos 0
booked_by (Settle budget) a v = pos 0

-- the accepted bookings of v; the newest event stands first
abbrev pub bookings : List Event → ℕ → ℤ
bookings [] v = pos 0
bookings (e ∷ h) v = booked_by e.call e.answer v +ℤ bookings h v

abbrev pub positive : ℤ → ℕ
positive z = cond (int_lt (pos 0) z) (unsigned_abs z) 0

-- the sum of the positive rests of the places below n
abbrev pub owed : State → ℕ → ℕ
owed s zero = 0
owed s (suc n) = owed s n + positive (rest s n)

module _ {C R : Type 0} (K : Kind C R) (net : Net C) where
  -- the events, of which the newest stands first, lead from a new plan to the state, each by its rule
  pub data Trace : List Event → State → Type 0 where
    start : Trace [] closed
    then : (h : List Event) (s s' : State) (e : Event) → Trace h s → Rule K net e.work s e.call e.answer s' → Trace (e ∷ h) s'

  -- the load meets the accepted bookings
  abbrev pub Meets : List Event → List ℕ → Type 0
  Meets h f = (v : ℕ) → v < net.places → leaving net f v ≡ bookings h v

  -- some load keeps every limit and meets the accepted bookings
  abbrev pub Possible : List Event → Type 0
  Possible h = (f : List ℕ) × Keeps net f × Meets h f

  -- the load keeps every limit, none that lets the same leave each place costs less, and every booking is accounted for
  pub record Sound (h : List Event) (s : State) : Type 0 where
    pub keeps : Keeps net s.loads
    pub least : (f : List ℕ) → Keeps net f → ((v : ℕ) → v < net.places → leaving net f v ≡ leaving net s.loads v) →
        K.group.le (costs K net.ways s.loads) (costs K net.ways f)
    pub accounted : (v : ℕ) → v < net.places → leaving net s.loads v +ℤ rest s v ≡ bookings h v

  -- the answer says that the plan is blocked
  abbrev pub Blocks : Answer → Type 0
  Blocks Opened = ⊥
  Blocks Booked = ⊥
  Blocks Settled = ⊥
  Blocks (Blocked u) = Unit {0}
  Blocks (Sent u t x) = ⊥
  Blocks (Ran n ending.Settled) = ⊥
  Blocks (Ran n (ending.Blocked u)) = Unit {0}
  Blocks (Ran n ending.Unfinished) = ⊥
  Blocks (Refused r) = ⊥

  pub record Law : Type 0 where
    -- after every run in which an open was accepted
    pub sound : (h : List Event) (s : State) (work : ℕ) → Trace h s → ContainsAt h (record { call = Open; work = work; answer = Opened }) → Sound h s
    -- blocked is answered only if no load meets the bookings
    pub blocked_only_if : (h : List Event) (s s' : State) (work : ℕ) (c : Call) (a : Answer) → Trace h s → Rule K net work s c a s' → Blocks a → Possible h → ⊥
    -- a settle whose budget is no smaller than the sum of the positive rests answers settled, every rest then zero, if some load meets the bookings
    pub settled_if : (h : List Event) (s s' : State) (work budget n : ℕ) (e : Ending) → Trace h s → Rule K net work s (Settle budget) (Ran n e) s' →
        owed s net.places ≤ budget → Possible h → (e ≡ ending.Settled) × AtRest K net s'
    -- and only if
    pub settled_only_if : (h : List Event) (s s' : State) (work budget n : ℕ) → Trace h s → Rule K net work s (Settle budget) (Ran n ending.Settled) s' → Possible h
    -- and else blocked
    pub else_blocked : (h : List Event) (s s' : State) (work budget n : ℕ) (e : Ending) → Trace h s → Rule K net work s (Settle budget) (Ran n e) s' →
        owed s net.places ≤ budget → (Possible h → ⊥) → (u : ℕ) × (e ≡ ending.Blocked u)
    -- a settle lowers the sum of the positive rests by the number of routes that it sends, at least
    pub few : (h : List Event) (s s' : State) (work budget n : ℕ) (e : Ending) → Trace h s → Rule K net work s (Settle budget) (Ran n e) s' →
        owed s' net.places + n ≤ owed s net.places
