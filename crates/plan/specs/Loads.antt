-- A load (a flow) of a network: one whole number for each way, in order.
use Rattle.std.specs.Prelude.{ℕ, ◌+◌, ◌≤◌, cond, List, [], ◌∷◌, ℤ, pos, ◌-ℤ◌, ◌==◌}
use Rattle.costs.specs.Group.{times}
use Rattle.costs.specs.Kind.{Kind}
use Rattle.networks.specs.Net.{Net, Way}

-- what a load costs: each number times the cost of its way
abbrev pub costs : {C R : Type 0} (K : Kind C R) → List (Way C) → List ℕ → K.group.Carrier
costs K [] f = K.group.zero
costs K (w ∷ ws) [] = K.group.zero
costs K (w ∷ ws) (n ∷ f) = K.group.plus (times K.group n (K.value w.cost)) (costs K ws f)

-- the load on the ways with tail v, and on those with head v
abbrev pub out : {C : Type 0} → List (Way C) → List ℕ → ℕ → ℕ
out [] f v = 0
out (w ∷ ws) [] v = 0
out (w ∷ ws) (n ∷ f) v = cond (w.tail == v) n 0 + out ws f v

abbrev pub into : {C : Type 0} → List (Way C) → List ℕ → ℕ → ℕ
into [] f v = 0
into (w ∷ ws) [] v = 0
into (w ∷ ws) (n ∷ f) v = cond (w.head == v) n 0 + into ws f v

-- the net amount leaving v (its excess, negated)
abbrev pub leaving : {C : Type 0} → Net C → List ℕ → ℕ → ℤ
leaving net f v = pos (out net.ways f v) -ℤ pos (into net.ways f v)

-- one number for each way, none above the way's limit
abbrev pub Within : {C : Type 0} → List (Way C) → List ℕ → Type 0
Within [] [] = Unit {0}
Within [] (n ∷ f) = ⊥
Within (w ∷ ws) [] = ⊥
Within (w ∷ ws) (n ∷ f) = (n ≤ w.limit) × Within ws f

-- the load keeps every limit
abbrev pub Keeps : {C : Type 0} → Net C → List ℕ → Type 0
Keeps net f = Within net.ways f
