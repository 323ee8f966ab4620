-- A kind of cost: what its costs stand for, weigh and are kept as, and what its questions answer.
use Rattle.std.specs.Prelude.{◌≡◌, ℕ, ◌+◌, ◌<◌, ◌≤◌, ◌⊎◌, Option, MatchOption}
use Rattle.std.specs.declared.cmp.Ordering.{Ordering}
use Rattle.std.specs.Ordering.{MatchOrdering}
use Rattle.costs.specs.Group.{Group, Below, times}

-- the greatest weight
abbrev pub heaviest : ℕ
heaviest = 4000000000000000000

-- the greatest number n, and the greatest weight, for which an n-fold sum is made
abbrev pub light : ℕ
light = 1000000

-- costs C, which are kept in rows R
pub record Kind (C R : Type 0) : Type 1 where
  -- the ordered commutative group that the costs lie in
  pub group : Group
  -- the element of the group that a cost stands for
  pub value : C → group.Carrier
  -- how much a cost weighs
  pub weighs : C → ℕ
  -- the row that a cost gives
  pub row_of : C → R
  -- the cost that a row reads as
  pub reads : R → C
  -- two costs never stand for one element
  pub distinct : (x y : C) → value x ≡ value y → x ≡ y
  -- zero weighs nothing
  pub zero_weighs : (x : C) → value x ≡ group.zero → weighs x ≡ 0
  -- the opposite weighs the same
  pub opposite_weighs : (x y : C) → value y ≡ group.opp (value x) → weighs y ≡ weighs x
  -- a sum weighs at most the two weights together
  pub sum_weighs : (x y z : C) → value z ≡ group.plus (value x) (value y) → weighs z ≤ weighs x + weighs y
  -- no cost weighs more than the greatest weight
  pub bounded : (x : C) → weighs x ≤ heaviest
  -- the row of a cost reads as that cost
  pub reads_back : (x : C) → reads (row_of x) ≡ x
  -- a row that no cost gives reads as a cost of the greatest weight
  pub strange_rows : (r : R) → (row_of (reads r) ≡ r) ⊎ (weighs (reads r) ≡ heaviest)

-- the element that a row stands for
abbrev pub values : {C R : Type 0} (K : Kind C R) → R → K.group.Carrier
values K r = K.value (K.reads r)

-- how much a row weighs
abbrev pub weights : {C R : Type 0} (K : Kind C R) → R → ℕ
weights K r = K.weighs (K.reads r)

-- r is the sum of x and y, and none exactly if the two weights together exceed the greatest
abbrev pub Sums : {C R : Type 0} → Kind C R → C → C → Option C → Type 0
Sums K x y r =
    MatchOption r (heaviest < K.weighs x + K.weighs y)
    (λ s. (K.weighs x + K.weighs y ≤ heaviest) × (K.value s ≡ K.group.plus (K.value x) (K.value y)))

-- r is zero with x added n times, and none exactly if n or the weight of x is above `light`
abbrev pub Multiplies : {C R : Type 0} → Kind C R → ℕ → C → Option C → Type 0
Multiplies K n x r =
    MatchOption r ((light < n) ⊎ (light < K.weighs x))
    (λ s. (n ≤ light) × (K.weighs x ≤ light) × (K.value s ≡ times K.group n (K.value x)))

-- o says whether x is less than y, the same cost, or greater
abbrev pub Compares : {C R : Type 0} → Kind C R → C → C → Ordering → Type 0
Compares K x y o = MatchOrdering o (Below K.group (K.value x) (K.value y)) (x ≡ y) (Below K.group (K.value y) (K.value x))
