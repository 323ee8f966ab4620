-- Where a route begins and ends: the lowest place with a positive rest, and the cheapest place with a negative one.
use Rattle.std.specs.Prelude.{◌≡◌, ℕ, ◌<◌, List, length, get_or, ℤ, pos, ◌≤ℤ◌, ◌<ℤ◌, Some, None, Option, slice_index_or}
use Rattle.costs.specs.Kind.{Kind}
use Rattle.plan.specs.Entries.{Work, entry}

-- no rest is positive
abbrev pub Spent : List ℤ → Type 0
Spent rests = (v : ℕ) → v < length rests → slice_index_or rests v (pos 0) ≤ℤ pos 0

-- u is the lowest place with a positive rest
pub record Lowest (rests : List ℤ) (u : ℕ) : Type 0 where
  pub place : u < length rests
  pub positive : pos 0 <ℤ slice_index_or rests u (pos 0)
  pub lowest : (v : ℕ) → v < u → slice_index_or rests v (pos 0) ≤ℤ pos 0

module _ {C R : Type 0} (K : Kind C R) (rests : List ℤ) (t : Work R) where
  -- v wants something, and x is its entry
  pub record Wants (v : ℕ) (x : K.group.Carrier) : Type 0 where
    pub negative : get_or rests v (pos 0) <ℤ pos 0
    pub is : entry K t v ≡ Some x

  -- no place below n wants anything
  abbrev pub NoneWants : ℕ → Type 0
  NoneWants n = (v : ℕ) (x : K.group.Carrier) → v < n → Wants v x → ⊥

  -- b is the cheapest place below n that wants something, the lowest among equals
  pub record Cheapest (n b : ℕ) : Type 0 where
    pub value : K.group.Carrier
    pub place : b < n
    pub wants : Wants b value
    pub cheapest : (v : ℕ) (x : K.group.Carrier) → v < n → Wants v x → K.group.le value x
    pub lowest : (v : ℕ) → v < b → Wants v value → ⊥

  -- what is picked among the places below n
  abbrev pub Picked : ℕ → Option ℕ → Type 0
  Picked n None = NoneWants n
  Picked n (Some b) = Cheapest n b
