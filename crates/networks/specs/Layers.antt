-- What a layer means: the network below, with the ways whose numbers it lists changed.
use Rattle.std.specs.Prelude.{◌≡◌, ℕ, ◌+◌, ◌<◌, ◌≤◌, true, false, ◌⊎◌, List, [], ◌∷◌, ◌++◌, length, Ok, Err, Result}
use Rattle.arrayvec.specs.ArrayVec.{ArrayVec}
use Rattle.networks.specs.Net.{Net, Way}
use Rattle.networks.specs.declared.refusal.Refusal.{Refusal}
use Rattle.networks.specs.declared.refusal.Refusal.TheVariants.{NoWay, FullList}
use Rattle.networks.specs.Changes.{has}

-- the way numbers in a list
abbrev pub listed : ArrayVec ℕ → List ℕ
listed l = l.items

abbrev pub most_listed : ℕ
most_listed = 64

-- a list made from another, place by place; the first place is numbered i
abbrev pub each_from : {X Y : Type 0} → ℕ → (ℕ → X → Y) → List X → List Y
each_from i f [] = []
each_from i f (x ∷ xs) = f i x ∷ each_from (i + 1) f xs

-- the network with each way changed by its number
abbrev pub with_ways : {C D : Type 0} → (ℕ → Way C → Way D) → Net C → Net D
with_ways f net = record { places = net.places; ways = each_from 0 f net.ways }

-- what adding way number k to a layer over so many ways answers, and how its list ends
abbrev pub Adds : ℕ → List ℕ → ℕ → Result (Unit {0}) Refusal → List ℕ → Type 0
Adds ways ks k (Ok u) then =
    (k < ways) × (((has ks k ≡ true) × (then ≡ ks)) ⊎ ((has ks k ≡ false) × (length ks < most_listed) × (then ≡ ks ++ k ∷ [])))
Adds ways ks k (Err e) then =
    (then ≡ ks) × (((ways ≤ k) × (e ≡ NoWay)) ⊎ ((k < ways) × (has ks k ≡ false) × (length ks ≡ most_listed) × (e ≡ FullList)))
