-- What keeping every limit says way by way, and how large a load of an open plan is.
use Rattle.std.proofs.Common.{◌≡◌, ℕ, zero, suc, ◌<◌, ◌≤◌, List, [], ◌∷◌, length, get_or, Some, refl, ap, ⊎_elim, arith}
use Rattle.std.proofs.lemmas.List.{get_or_past}
use Rattle.std.proofs.lemmas.Bool.{cases_lt}
use Rattle.std.specs.List.{slice_get}
use Rattle.costs.specs.Kind.{Kind}
use Rattle.networks.specs.Net.{Net, Way}
use Rattle.plan.specs.Loads.{Within, Keeps}
use Rattle.plan.specs.State.{State}
use Rattle.plan.specs.Standing.{Standing}

module _ {C : Type 0} where
  pub nth_there : (ws : List (Way C)) (k : ℕ) → k < length ws → (w : Way C) × (slice_get ws k ≡ Some w)
  nth_there [] k l = absurd (omega arith)
  nth_there (x ∷ ws) zero l = (x, refl)
  nth_there (x ∷ ws) (suc k) l = nth_there ws k (omega arith)

  within_long : (ws : List (Way C)) (f : List ℕ) → Within ws f → length f ≡ length ws
  within_long [] [] h = refl
  within_long [] (n ∷ f) h = absurd h
  within_long (w ∷ ws) [] h = absurd h
  within_long (w ∷ ws) (n ∷ f) h = ap suc (within_long ws f h.1)

  within_at : (ws : List (Way C)) (f : List ℕ) → Within ws f → (k : ℕ) (w : Way C) → slice_get ws k ≡ Some w → get_or f k 0 ≤ w.limit
  within_at [] f h k w e = absurd (let z : ◌≡◌ {A = ℕ} 0 1 = cc in omega arith)
  within_at (x ∷ ws) [] h k w e = absurd h
  within_at (x ∷ ws) (n ∷ f) h zero w e = let same : x ≡ w = cc in rw same at h.0
  within_at (x ∷ ws) (n ∷ f) h (suc k) w e = within_at ws f h.1 k w e

  at_within : (ws : List (Way C)) (f : List ℕ) → length f ≡ length ws → ((k : ℕ) (w : Way C) → slice_get ws k ≡ Some w → get_or f k 0 ≤ w.limit) → Within ws f
  at_within [] [] e h = tt
  at_within [] (n ∷ f) e h = absurd (omega arith)
  at_within (w ∷ ws) [] e h = absurd (omega arith)
  at_within (w ∷ ws) (n ∷ f) e h = (h 0 w refl, at_within ws f (omega arith) (λ k v i. h (suc k) v i))

  module _ (net : Net C) (f : List ℕ) where
    -- a load that keeps every limit has one number for each way
    pub keeps_long : Keeps net f → length f ≡ length net.ways
    keeps_long h = within_long net.ways f h

    -- and none is above its limit
    pub keeps_at : Keeps net f → (k : ℕ) (w : Way C) → slice_get net.ways k ≡ Some w → get_or f k 0 ≤ w.limit
    keeps_at h = within_at net.ways f h

    pub keeps_by : length f ≡ length net.ways → ((k : ℕ) (w : Way C) → slice_get net.ways k ≡ Some w → get_or f k 0 ≤ w.limit) → Keeps net f
    keeps_by e h = at_within net.ways f e h

pub load_small : {C R : Type 0} (K : Kind C R) (net : Net C) {s : State} → Standing K net s → (k : ℕ) → get_or s.loads k 0 ≤ 1000000
load_small K net {s} stands k =
    let long = keeps_long net s.loads stands.keeps in
    ⊎_elim
    (λ l. let w = nth_there net.ways k l in
    let a = keeps_at net s.loads stands.keeps k w.0 w.1 in
    let b = (stands.passed.fair k w.0 w.1).limit in
    omega arith)
    (λ l. let e = get_or_past s.loads k 0 (omega arith) in omega arith)
    (cases_lt k (length net.ways))
