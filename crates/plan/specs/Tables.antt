-- What a plan's table holds, and what its own calls do to it.
use Rattle.std.specs.Prelude.{◌≡◌, ℕ, true, ◌||◌, ◌≤◌, List, length, replicate, ℤ, pos, ◌+ℤ◌, ◌-ℤ◌, Some, None, Ok, Err, vec_items, vec_len, Option, Result, ◌==◌, nat_lt, slice_index_or}
use Rattle.costs.specs.Kind.{Kind}
use Rattle.networks.specs.Net.{Net}
use Rattle.networks.specs.declared.refusal.Refusal.{Refusal}
use Rattle.networks.specs.declared.refusal.Refusal.TheVariants.{NoPlace, SamePlace, BadAmount, RestBound}
use Rattle.plan.specs.declared.table.Table.{Table}
use Rattle.plan.specs.Checks.{or_else, when, outside, beyond, net_fault}
use Rattle.plan.specs.Rules.{move}
use Rattle.plan.specs.State.{State}

-- the state of an open plan with this table
abbrev pub state_of : Table → State
state_of t = record { open? = true; loads = vec_items t.loads; rests = vec_items t.rests; count = t.count }

-- what is wrong with a booking, of the rests alone
abbrev pub booking_fault : List ℤ → ℕ → ℕ → ℕ → Option Refusal
booking_fault rests from to amount =
    or_else (when (outside (length rests) from || outside (length rests) to) NoPlace)
    (or_else (when (from == to) SamePlace)
    (or_else (when (amount == 0 || nat_lt 1000000 amount) BadAmount)
    (when (beyond (slice_index_or rests from (pos 0) +ℤ pos amount) || beyond (slice_index_or rests to (pos 0) -ℤ pos amount)) RestBound)))

-- a booking: the first fault, and nothing is altered; or the rests move
abbrev pub Books : Table → ℕ → ℕ → ℕ → Result (Unit {0}) Refusal → Table → Type 0
Books t from to amount (Ok u) t' =
    (booking_fault (vec_items t.rests) from to amount ≡ None) × (vec_items t'.rests ≡ move (vec_items t.rests) from to amount)
    × (vec_items t'.loads ≡ vec_items t.loads) × (t'.count ≡ t.count)
Books t from to amount (Err e) t' = (booking_fault (vec_items t.rests) from to amount ≡ Some e) × (t' ≡ t)

-- all loads, rests and the count are zero, and the tables as long as they were
pub record Cleared (t t' : Table) : Type 0 where
  pub loads : vec_items t'.loads ≡ replicate (vec_len t.loads) 0
  pub rests : vec_items t'.rests ≡ replicate (vec_len t.rests) (pos 0)
  pub count : t'.count ≡ 0
  pub loads_long : vec_len t'.loads ≡ vec_len t.loads
  pub rests_long : vec_len t'.rests ≡ vec_len t.rests

-- the table was made for the network
pub record MadeFor {C : Type 0} (net : Net C) (t : Table) : Type 0 where
  pub loads : vec_len t.loads ≡ length net.ways
  pub rests : vec_len t.rests ≡ net.places

-- the network passed the checks, the table was made for it, and so many rows suffice for its places
pub record Ready {C R : Type 0} (K : Kind C R) (net : Net C) (t : Table) (rows : ℕ) : Type 0 where
  pub fair : net_fault K net ≡ None
  pub made : MadeFor net t
  pub enough : net.places ≤ rows

-- loads, rests and count are as they were, and the tables as long
pub record Same (t t' : Table) : Type 0 where
  pub loads : t'.loads ≡ t.loads
  pub rests : t'.rests ≡ t.rests
  pub count : t'.count ≡ t.count
