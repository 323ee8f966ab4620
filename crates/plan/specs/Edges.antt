-- The edge cases of the rules, worked out.
use Rattle.std.specs.Prelude.{◌≡◌, ℕ, ◌≤◌, true, ◌⊎◌, List, [], ◌∷◌, length, ℤ, pos, ◌+ℤ◌, neg_ℤ, None, Option}
use Rattle.costs.specs.Group.{Below}
use Rattle.costs.specs.Kind.{Kind, Sums}
use Rattle.costs.specs.Whole.{whole_kind}
use Rattle.costs.specs.Pair.{pair_kind}
use Rattle.costs.specs.declared.whole.Whole.{Whole}
use Rattle.costs.specs.declared.pair.Pair.{Pair}
use Rattle.networks.specs.Net.{Net, Way}
use Rattle.networks.specs.declared.refusal.Refusal.TheVariants.{LosingRing}
use Rattle.plan.specs.declared.calls.Answer.{Answer}
use Rattle.plan.specs.declared.calls.Answer.TheVariants.{Opened, Booked, Refused}
use Rattle.plan.specs.declared.calls.Call.{Call}
use Rattle.plan.specs.declared.calls.Call.TheVariants.{Open, Book}
use Rattle.plan.specs.declared.step.Step.TheVariants.{Ahead, Back}
use Rattle.plan.specs.Law.{bookings, Possible}
use Rattle.plan.specs.Loads.{leaving}
use Rattle.plan.specs.Rules.{Rule, AtRest}
use Rattle.plan.specs.State.{State, Event, closed}
use Rattle.plan.specs.Steps.{Route, Reach, Least, Price, Losing}

-- a call in state s is answered a by the rules, and nothing else
pub record Answers {C R : Type 0} (K : Kind C R) (net : Net C) (work : ℕ) (s : State) (c : Call) (a : Answer) : Type 0 where
  pub after : State
  pub by_rule : Rule K net work s c a after
  pub only : (b : Answer) (s' : State) → Rule K net work s c b s' → b ≡ a

-- an amount booked from 0 to 1 and then from 1 to 0 is accepted both times, and leaves the plan as it was, with every rest zero
abbrev pub BothWaysCancel : {C R : Type 0} → Kind C R → Net C → Type 0
BothWaysCancel K net =
    2 ≤ net.places → (work amount : ℕ) (s : State) → s.open? ≡ true → length s.rests ≡ net.places → AtRest K net s → 1 ≤ amount → amount ≤ 1000000 →
    (s' : State) × Rule K net work s (Book 0 1 amount) Booked s' × Rule K net work s' (Book 1 0 amount) Booked s

-- a whole number as a cost
abbrev pub whole : ℤ → Whole
whole z = whole_kind.reads z

-- two ways: 0 to 1 at cost 3, and back at the cost given
abbrev pub there_and_back : ℤ → ℕ → ℕ → Net Whole
there_and_back cost limit limit' = record {
  places = 2;
  ways =
      record { tail = 0; head = 1; limit = limit; cost = whole (pos 3) }
      ∷ record { tail = 1; head = 0; limit = limit'; cost = whole cost }
      ∷ [];
}

-- costs in pairs of whole numbers
abbrev pub pairs : Kind (Pair Whole Whole) (ℤ × ℤ)
pairs = pair_kind whole_kind whole_kind

abbrev pub way : ℕ → ℕ → ℕ → ℤ → ℤ → Way (Pair Whole Whole)
way tail head limit first second = record { tail = tail; head = head; limit = limit; cost = record { first = whole first; second = whole second } }

-- two places that may use two others, and one where these end
abbrev pub worked : Net (Pair Whole Whole)
worked = record {
  places = 5;
  ways =
      way 0 2 4 (pos 0) (pos 1)
      ∷ way 0 3 4 (pos 1) (pos 6)
      ∷ way 1 2 4 (pos 0) (pos 2)
      ∷ way 2 4 3 (pos 0) (pos 0)
      ∷ way 3 4 2 (pos 0) (pos 0)
      ∷ [];
}

-- loads of its five ways
abbrev pub loads : ℕ → ℕ → ℕ → ℕ → ℕ → List ℕ
loads a b c d e = a ∷ b ∷ c ∷ d ∷ e ∷ []

-- an accepted booking
abbrev pub booked : ℕ → ℕ → ℕ → Event
booked from to amount = record { call = Book from to amount; work = 5; answer = Booked }

-- three of them; the newest stands first
abbrev pub three_bookings : List Event
three_bookings = booked 1 4 2 ∷ booked 1 4 2 ∷ booked 0 4 2 ∷ []

pub record Edges : Type 0 where
  -- a ring that costs 3 - 3 does not lose: the plan opens
  pub level_ring_opens :
      (Losing whole_kind (there_and_back (neg_ℤ (pos 3)) 1 1) (0 ∷ 0 ∷ []) → ⊥)
      × Answers whole_kind (there_and_back (neg_ℤ (pos 3)) 1 1) 2 closed Open Opened
  -- one that costs 3 - 4 does, and is refused
  pub losing_ring_refused :
      Losing whole_kind (there_and_back (neg_ℤ (pos 4)) 1 1) (0 ∷ 0 ∷ [])
      × Answers whole_kind (there_and_back (neg_ℤ (pos 4)) 1 1) 2 closed Open (Refused LosingRing)
  -- unless one of its ways is shut, whichever: then it is no ring
  pub shut_ring_opens :
      Answers whole_kind (there_and_back (neg_ℤ (pos 4)) 0 1) 2 closed Open Opened
      × Answers whole_kind (there_and_back (neg_ℤ (pos 4)) 1 0) 2 closed Open Opened
  -- a pair counts by its first part, and only then by its second
  pub pair_order : Below pairs.group (pos 0, pos 9) (pos 1, pos 0)
  -- two opposite numbers whose weights together exceed the greatest have no sum, though it would be zero
  pub sum_too_heavy :
      (x y : Whole) → x.amount ≡ pos 3000000000000000000 → y.amount ≡ neg_ℤ (pos 3000000000000000000) →
      Sums whole_kind x y None × ((r : Option Whole) → Sums whole_kind x y r → r ≡ None)
  -- the price of each place at the loads 1 1 2 3 1
  pub worked_prices :
      Price pairs worked (loads 1 1 2 3 1) 0 (neg_ℤ (pos 1), neg_ℤ (pos 6))
      × Price pairs worked (loads 1 1 2 3 1) 1 (neg_ℤ (pos 1), neg_ℤ (pos 7))
      × Price pairs worked (loads 1 1 2 3 1) 2 (neg_ℤ (pos 1), neg_ℤ (pos 5))
      × Price pairs worked (loads 1 1 2 3 1) 3 (pos 0, pos 0)
      × Price pairs worked (loads 1 1 2 3 1) 4 (pos 0, pos 0)
  -- the cheapest route from 1 to 4 at the loads 2 0 1 3 0 takes way 0 back
  pub third_route :
      Least pairs worked (loads 2 0 1 3 0) 1 4 (pos 1, pos 7)
      × Route pairs worked (loads 2 0 1 3 0) 1 1 (Ahead 2 ∷ Back 0 ∷ Ahead 1 ∷ Ahead 4 ∷ []) 4 (pos 1, pos 7)
  -- at the loads 0 2 3 3 2 the reach of 1 is 1 and 2
  pub blocked_reach :
      Reach pairs worked (loads 0 2 3 3 2) 1 1
      × Reach pairs worked (loads 0 2 3 3 2) 1 2
      × ((v : ℕ) → Reach pairs worked (loads 0 2 3 3 2) 1 v → (v ≡ 1) ⊎ (v ≡ 2))
  -- where 4 is booked and 3 leave; and no load at all meets the bookings
  pub blocked_bookings :
      (bookings three_bookings 1 +ℤ bookings three_bookings 2 ≡ pos 4)
      × (leaving worked (loads 0 2 3 3 2) 1 +ℤ leaving worked (loads 0 2 3 3 2) 2 ≡ pos 3)
      × (Possible pairs worked three_bookings → ⊥)
  -- bookings both ways cancel, in every network and at both kinds of cost
  pub alike_both_ways : ((net : Net Whole) → BothWaysCancel whole_kind net) × ((net : Net (Pair Whole Whole)) → BothWaysCancel pairs net)
