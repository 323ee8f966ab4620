-- The network as the proofs see it: ways by number, costs in the group.
use Rattle.std.proofs.Common.{◌≡◌, ℕ, zero, suc, ◌+◌, ◌-◌, ◌<◌, ◌≤◌, Bool, true, cond, eqb, ◌≢◌, List, [], ◌∷◌, map, length, get_or, set, ℤ, pos, ◌+ℤ◌, ◌-ℤ◌, ◌∙◌}
use Rattle.std.specs.List.{AllByRecursion}
use Rattle.costs.specs.Group.{Group}
pub use Rattle.costs.specs.Group.{times}
pub use Rattle.plan.specs.declared.step.Step.{Step}
pub use Rattle.plan.specs.declared.step.Step.TheVariants.{Ahead, Back}
pub use Rattle.plan.specs.Steps.{Apart}

-- t 0 + t 1 + .. + t (n - 1), by any sum that starts from `none`
abbrev pub total : {A : Type 0} → A → (A → A → A) → ℕ → (ℕ → A) → A
total none add zero t = none
total none add (suc n) t = add (total none add n t) (t n)

pub unit_of : (g : Group) (x : g.Carrier) → g.plus x g.zero ≡ x
unit_of g x = g.comm _ _ ∙ g.unit x

pub record Way (g : Group) : Type 0 where
  pub tail : ℕ
  pub head : ℕ
  pub limit : ℕ
  pub cost : g.Carrier

pub record Net (g : Group) : Type 0 where
  pub places : ℕ
  pub ways : List (Way g)

-- how many ways, and the way numbered k
abbrev pub count : {g : Group} → Net g → ℕ
count net = length net.ways

abbrev pub way : {g : Group} → Net g → ℕ → Way g
way {g} net k = get_or net.ways k (record { tail = 0; head = 0; limit = 0; cost = g.zero })

-- every way joins two places of the network
pub record Joined {g : Group} (net : Net g) : Type 0 where
  pub tails : (k : ℕ) → k < count net → (way net k).tail < net.places
  pub heads : (k : ℕ) → k < count net → (way net k).head < net.places

-- a load has one number for each way, and none is over its limit
pub record Keeps {g : Group} (net : Net g) (load : List ℕ) : Type 0 where
  pub whole : length load ≡ count net
  pub within : (k : ℕ) → k < count net → get_or load k 0 ≤ (way net k).limit

abbrev pub cost : {g : Group} → Net g → List ℕ → g.Carrier
cost {g} net load = total g.zero g.plus (count net) (λ k. times g (get_or load k 0) (way net k).cost)

-- the load on the ways that start at v, and on those that end there
abbrev pub out : {g : Group} → Net g → List ℕ → ℕ → ℕ
out net load v = total 0 ◌+◌ (count net) (λ k. cond (eqb (way net k).tail v) (get_or load k 0) 0)

abbrev pub into : {g : Group} → Net g → List ℕ → ℕ → ℕ
into net load v = total 0 ◌+◌ (count net) (λ k. cond (eqb (way net k).head v) (get_or load k 0) 0)

-- the net amount that leaves v
abbrev pub leaving : {g : Group} → Net g → List ℕ → ℕ → ℤ
leaving net load v = pos (out net load v) -ℤ pos (into net load v)

abbrev pub which : Step → ℕ
which (Ahead k) = k
which (Back k) = k

abbrev pub from : {g : Group} → Net g → Step → ℕ
from net (Ahead k) = (way net k).tail
from net (Back k) = (way net k).head

abbrev pub to : {g : Group} → Net g → Step → ℕ
to net (Ahead k) = (way net k).head
to net (Back k) = (way net k).tail

abbrev pub price : {g : Group} → Net g → Step → g.Carrier
price net (Ahead k) = (way net k).cost
price {g} net (Back k) = g.opp (way net k).cost

-- how much more a load lets a step carry
abbrev pub room : {g : Group} → Net g → List ℕ → Step → ℕ
room net load (Ahead k) = (way net k).limit - get_or load k 0
room net load (Back k) = get_or load k 0

-- the step is of the network, and can carry x more
pub record Carries {g : Group} (net : Net g) (load : List ℕ) (x : ℕ) (s : Step) : Type 0 where
  pub real : which s < count net
  pub enough : x ≤ room net load s

-- over no open step does π rise by more than the step costs
abbrev pub Potential : {g : Group} → Net g → List ℕ → (ℕ → g.Carrier) → Type 0
Potential {g} net load π = (s : Step) → Carries net load 1 s → g.le (π (to net s)) (g.plus (π (from net s)) (price net s))

-- a set of places that no open step leaves
abbrev pub Closed : {g : Group} → Net g → List ℕ → (ℕ → Bool) → Type 0
Closed net load R = (s : Step) → Carries net load 1 s → R (from net s) ≡ true → R (to net s) ≡ true

-- the sum of t v over the places v < n of the set R
abbrev pub over : (ℕ → Bool) → ℕ → (ℕ → ℤ) → ℤ
over R n t = total (pos 0) ◌+ℤ◌ n (λ v. cond (R v) (t v) (pos 0))

-- the steps ss lead from u to v, each from where the one before ended
abbrev pub Leads : {g : Group} → Net g → ℕ → List Step → ℕ → Type 0
Leads net u [] v = u ≡ v
Leads net u (s ∷ ss) v = (from net s ≡ u) × Leads net (to net s) ss v

abbrev pub stops : {g : Group} → Net g → ℕ → List Step → List ℕ
stops net u ss = u ∷ map (to net) ss

-- a route from u to v that meets no place twice, on which x more can be sent
pub record Route {g : Group} (net : Net g) (load : List ℕ) (x u : ℕ) (ss : List Step) (v : ℕ) : Type 0 where
  pub leads : Leads net u ss v
  pub apart : Apart (stops net u ss)
  pub carries : AllByRecursion (Carries net load x) ss

abbrev pub price_of : {g : Group} → Net g → List Step → g.Carrier
price_of {g} net [] = g.zero
price_of {g} net (s ∷ ss) = g.plus (price net s) (price_of net ss)

-- the load once x more is sent along a step, and along each of several
abbrev pub send_step_lem : ℕ → Step → List ℕ → List ℕ
send_step_lem x (Ahead k) load = set load k (get_or load k 0 + x)
send_step_lem x (Back k) load = set load k (get_or load k 0 - x)

abbrev pub send : ℕ → List Step → List ℕ → List ℕ
send x [] load = load
send x (s ∷ ss) load = send x ss (send_step_lem x s load)

-- the step costs just what the potential rises by
abbrev pub Tight : {g : Group} → Net g → (ℕ → g.Carrier) → Step → Type 0
Tight {g} net π s = π (to net s) ≡ g.plus (π (from net s)) (price net s)

-- a row of open steps from u to v, which may meet a place again; where v is u it is a ring
pub record Row {g : Group} (net : Net g) (load : List ℕ) (u : ℕ) (ss : List Step) (v : ℕ) : Type 0 where
  pub leads : Leads net u ss v
  pub opens : AllByRecursion (Carries net load 1) ss

-- a ring of open steps that meets no place twice, and costs less than zero
pub record CheapRing {g : Group} (net : Net g) (load : List ℕ) : Type 0 where
  pub place : ℕ
  pub first : Step
  pub rest : List Step
  pub row : Row net load place (first ∷ rest) place
  pub apart : Apart (map (to net) (first ∷ rest))
  pub below : g.le (price_of net (first ∷ rest)) g.zero
  pub other : price_of net (first ∷ rest) ≢ g.zero

abbrev pub NoCheap : {g : Group} → Net g → List ℕ → Type 0
NoCheap net load = CheapRing net load → ⊥
