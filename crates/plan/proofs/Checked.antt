-- A loop over the ways of a network finds the first fault of them.
use Rattle.std.proofs.Common.{◌≡◌, ℕ, zero, suc, ◌+◌, ◌<◌, List, [], ◌∷◌, length, drop, Some, None, sym, ap, ◌∙◌, add-one, arith}
use Rattle.std.specs.List.{slice_get}
use Rattle.costs.specs.Kind.{Kind}
use Rattle.networks.specs.Net.{Way, cost_of}
use Rattle.networks.specs.declared.refusal.Refusal.{Refusal}
use Rattle.plan.specs.Checks.{or_else, fault_of_way, fault_of_ways}

-- a way within the list has a cost
pub cost_there : {C : Type 0} (ws : List (Way C)) (k : ℕ) → k < length ws → None ≡ cost_of (slice_get ws k) → ⊥
cost_there [] k l e = omega arith
cost_there (w ∷ ws) zero l e = cc
cost_there (w ∷ ws) (suc k) l e = cost_there ws k (omega arith) e

pub drop_there : {X : Type 0} (xs : List X) (k : ℕ) (x : X) → slice_get xs k ≡ Some x → drop k xs ≡ x ∷ drop (suc k) xs
drop_there [] k x e = cc
drop_there (y ∷ xs) zero x e = let d : y ≡ x = cc in ap (λ z. z ∷ xs) d
drop_there (y ∷ xs) (suc k) x e = drop_there xs k x e

module _ {C R : Type 0} (K : Kind C R) (n : ℕ) (ws : List (Way C)) (k : ℕ) where
  at_way : (w : Way C) → slice_get ws k ≡ Some w → fault_of_ways K n k (drop k ws) ≡ or_else (fault_of_way K n k w) (fault_of_ways K n (suc k) (drop (suc k) ws))
  at_way w e = ap (fault_of_ways K n k) (drop_there ws k w e)

  -- the way has a fault
  pub faulty_way : (w : Way C) (r : Refusal) → slice_get ws k ≡ Some w → Some r ≡ fault_of_way K n k w → fault_of_ways K n k (drop k ws) ≡ fault_of_ways K n 0 ws → Some r ≡ fault_of_ways K n 0 ws
  faulty_way w r e f i = ap (λ o. or_else o (fault_of_ways K n (suc k) (drop (suc k) ws))) f ∙ sym (at_way w e) ∙ i

  -- the way has none
  pub fair_way : (w : Way C) → slice_get ws k ≡ Some w → None ≡ fault_of_way K n k w → fault_of_ways K n k (drop k ws) ≡ fault_of_ways K n 0 ws → fault_of_ways K n (k + 1) (drop (k + 1) ws) ≡ fault_of_ways K n 0 ws
  fair_way w e f i =
      ap (λ j. fault_of_ways K n j (drop j ws)) (add-one k) ∙ ap (λ o. or_else o (fault_of_ways K n (suc k) (drop (suc k) ws))) f ∙ sym (at_way w e) ∙ i
