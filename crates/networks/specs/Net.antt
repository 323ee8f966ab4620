-- What a network means: a number of places (vertices) and a list of ways (arcs). Places and ways count from 0.
use Rattle.std.specs.Prelude.{ℕ, List, Some, None, Option}
use Rattle.networks.specs.declared.ends.Ends.{Ends}

-- a way from its tail to its head, with a limit (capacity) and a cost
pub record Way (C : Type 0) : Type 0 where
  pub tail : ℕ
  pub head : ℕ
  pub limit : ℕ
  pub cost : C

pub record Net (C : Type 0) : Type 0 where
  pub places : ℕ
  pub ways : List (Way C)

-- what the two questions about a way answer, from the way if there is one
abbrev pub ends_of : {C : Type 0} → Option (Way C) → Option Ends
ends_of None = None
ends_of (Some w) = Some (record { tail = w.tail; head = w.head; limit = w.limit })

abbrev pub cost_of : {C : Type 0} → Option (Way C) → Option C
cost_of None = None
cost_of (Some w) = Some w.cost
