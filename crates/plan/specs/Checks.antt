-- Which refusal comes first, of those that look at numbers alone; none if no such refusal applies.
use Rattle.std.specs.Prelude.{ℕ, suc, Bool, true, false, cond, ◌||◌, List, [], ◌∷◌, length, ℤ, pos, ◌+ℤ◌, ◌-ℤ◌, neg_ℤ, Some, None, Option, ◌==◌, int_lt, nat_lt}
use Rattle.costs.specs.Kind.{Kind}
use Rattle.networks.specs.Net.{Net, Way}
use Rattle.networks.specs.declared.refusal.Refusal.{Refusal}
use Rattle.networks.specs.declared.refusal.Refusal.TheVariants.{BadPlaces, ManyWays, NoEnd, SameEnds, LargeLimit, HeavyCost, NoPlace, SamePlace, BadAmount, BadBudget, ShortTable, NotOpen, AlreadyOpen, RestBound}
use Rattle.plan.specs.State.{State, rest}

-- the first of the two that is there
abbrev pub or_else : Option Refusal → Option Refusal → Option Refusal
or_else None r = r
or_else (Some q) r = Some q

abbrev pub when : Bool → Refusal → Option Refusal
when b r = cond b (Some r) None

abbrev pub outside : ℕ → ℕ → Bool
outside n v = cond (nat_lt v n) false true

-- what is wrong with way k of a network of n places
abbrev pub fault_of_way : {C R : Type 0} (K : Kind C R) → ℕ → ℕ → Way C → Option Refusal
fault_of_way K n k w =
    or_else (when (outside n w.tail || outside n w.head) (NoEnd k))
    (or_else (when (w.tail == w.head) (SameEnds k))
    (or_else (when (nat_lt 1000000 w.limit) (LargeLimit k))
    (when (nat_lt 1000000 (K.weighs w.cost)) (HeavyCost k))))

-- the ways in order, the first of which is numbered k
abbrev pub fault_of_ways : {C R : Type 0} (K : Kind C R) → ℕ → ℕ → List (Way C) → Option Refusal
fault_of_ways K n k [] = None
fault_of_ways K n k (w ∷ ws) = or_else (fault_of_way K n k w) (fault_of_ways K n (suc k) ws)

-- what is wrong with a network, whoever opens a plan over it
abbrev pub net_fault : {C R : Type 0} (K : Kind C R) → Net C → Option Refusal
net_fault K net =
    or_else (when (net.places == 0 || nat_lt 1024 net.places) BadPlaces)
    (or_else (when (nat_lt 3000 (length net.ways)) ManyWays) (fault_of_ways K net.places 0 net.ways))

abbrev pub open_fault : {C R : Type 0} (K : Kind C R) → Net C → State → ℕ → Option Refusal
open_fault K net s work =
    or_else (when s.open? AlreadyOpen)
    (or_else (when (net.places == 0 || nat_lt 1024 net.places) BadPlaces)
    (or_else (when (nat_lt 3000 (length net.ways)) ManyWays)
    (or_else (fault_of_ways K net.places 0 net.ways)
    (when (nat_lt work net.places) ShortTable))))

abbrev pub closed_fault : State → Option Refusal
closed_fault s = cond s.open? None (Some NotOpen)

abbrev pub beyond : ℤ → Bool
beyond z = int_lt z (neg_ℤ (pos 1000000000)) || int_lt (pos 1000000000) z

abbrev pub book_fault : {C : Type 0} → Net C → State → ℕ → ℕ → ℕ → Option Refusal
book_fault net s from to amount =
    or_else (closed_fault s)
    (or_else (when (outside net.places from || outside net.places to) NoPlace)
    (or_else (when (from == to) SamePlace)
    (or_else (when (amount == 0 || nat_lt 1000000 amount) BadAmount)
    (when (beyond (rest s from +ℤ pos amount) || beyond (rest s to -ℤ pos amount)) RestBound))))

abbrev pub route_fault : {C : Type 0} → Net C → State → ℕ → Option Refusal
route_fault net s work = or_else (closed_fault s) (when (nat_lt work net.places) ShortTable)

abbrev pub settle_fault : {C : Type 0} → Net C → State → ℕ → ℕ → Option Refusal
settle_fault net s budget work =
    or_else (closed_fault s)
    (or_else (when (budget == 0 || nat_lt 1000000 budget) BadBudget)
    (when (nat_lt work net.places) ShortTable))
