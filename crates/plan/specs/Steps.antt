-- The steps (residual arcs) that a load leaves, and the routes, rings, reach and prices that they give.
use Rattle.std.specs.Prelude.{◌≡◌, ℕ, ◌-◌, ◌<◌, ◌≤◌, ◌≢◌, List, [], ◌∷◌, Some, slice_index}
use Rattle.std.specs.List.{slice_get, AllByRecursion}
use Rattle.costs.specs.Kind.{Kind}
use Rattle.networks.specs.Net.{Net, Way}
use Rattle.plan.specs.declared.step.Step.{Step}
use Rattle.plan.specs.declared.step.Step.TheVariants.{Ahead, Back}

module _ {C R : Type 0} (K : Kind C R) (net : Net C) (f : List ℕ) where
  -- the step leads from u to v at cost c, and has room for r > 0
  pub data Gives : Step → ℕ → ℕ → K.group.Carrier → ℕ → Type 0 where
    forth : (k : ℕ) (w : Way C) → slice_get net.ways k ≡ Some w → slice_index f k < w.limit →
        Gives (Ahead k) w.tail w.head (K.value w.cost) (w.limit - slice_index f k)
    behind : (k : ℕ) (w : Way C) → slice_get net.ways k ≡ Some w → 0 < slice_index f k →
        Gives (Back k) w.head w.tail (K.group.opp (K.value w.cost)) (slice_index f k)

  -- the steps lead from u to v one after the other, meeting the places vs after u, at cost c, each with room for x
  pub data Leads (x : ℕ) : ℕ → List Step → List ℕ → ℕ → K.group.Carrier → Type 0 where
    there : (u : ℕ) → Leads x u [] [] u K.group.zero
    then : (u v w : ℕ) (s : Step) (ss : List Step) (vs : List ℕ) (c d : K.group.Carrier) (r : ℕ) →
        Gives s u v c r → x ≤ r → Leads x v ss vs w d → Leads x u (s ∷ ss) (v ∷ vs) w (K.group.plus c d)

-- no number stands twice
abbrev pub Apart : List ℕ → Type 0
Apart [] = Unit {0}
Apart (x ∷ xs) = AllByRecursion (λ y. x ≢ y) xs × Apart xs

module _ {C R : Type 0} (K : Kind C R) (net : Net C) (f : List ℕ) where
  -- a route from u to v of cost c meets no place twice; each of its steps has room for x
  pub record Route (x u : ℕ) (ss : List Step) (v : ℕ) (c : K.group.Carrier) : Type 0 where
    pub met : List ℕ
    pub leads : Leads K net f x u ss met v c
    pub apart : Apart (u ∷ met)

  -- a ring through u: at least one step, back to u, and no other place met twice
  pub record Ring (u : ℕ) (s : Step) (ss : List Step) (c : K.group.Carrier) : Type 0 where
    pub met : List ℕ
    pub leads : Leads K net f 1 u (s ∷ ss) met u c
    pub apart : Apart met

  -- v is in the reach of u
  abbrev pub Reach : ℕ → ℕ → Type 0
  Reach u v = (ss : List Step) × (c : K.group.Carrier) × Route 1 u ss v c

  -- c is the least cost of a route from u to v
  pub record Least (u v : ℕ) (c : K.group.Carrier) : Type 0 where
    pub taken : (ss : List Step) × Route 1 u ss v c
    pub least : (ss : List Step) (d : K.group.Carrier) → Route 1 u ss v d → K.group.le c d

  -- c is the price of v: the least cost of all routes that end there, from wherever they begin
  pub record Price (v : ℕ) (c : K.group.Carrier) : Type 0 where
    pub taken : (u : ℕ) × (ss : List Step) × (u < net.places) × Route 1 u ss v c
    pub least : (u : ℕ) (ss : List Step) (d : K.group.Carrier) → u < net.places → Route 1 u ss v d → K.group.le c d

  -- some ring costs less than zero
  pub record Losing : Type 0 where
    pub place : ℕ
    pub first : Step
    pub rest : List Step
    pub total : K.group.Carrier
    pub ring : Ring place first rest total
    pub below : K.group.le total K.group.zero
    pub apart : total ≢ K.group.zero
