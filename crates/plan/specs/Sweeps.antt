-- What relaxing steps does to work tables t, which become t'.
use Rattle.std.specs.Prelude.{◌≡◌, ℕ, ◌+◌, ◌<◌, Bool, true, false, List, Some}
use Rattle.costs.specs.Kind.{Kind, values}
use Rattle.networks.specs.Net.{Net}
use Rattle.plan.specs.declared.step.Step.{Step}
use Rattle.plan.specs.declared.step.Step.TheVariants.{Ahead, Back}
use Rattle.plan.specs.Entries.{Work, Holds, Most, Better, write, entry, Under}
use Rattle.plan.specs.Steps.{Gives}

-- steps, each with the places that it leads from and to, and its cost
abbrev pub Arcs : {C R : Type 0} → Kind C R → Type 1
Arcs K = Step → ℕ → ℕ → K.group.Carrier → Type 0

module _ {C R : Type 0} (K : Kind C R) where
  -- t became t' by writing, time and again, what a step of `may` gives where there was no entry or a greater one
  pub data Moves (may : Arcs K) (t : Work R) : Work R → Type 0 where
    stay : Moves may t t
    move : {t' : Work R} → Moves may t t' → (s : Step) (u v : ℕ) (c x : K.group.Carrier) → may s u v c →
        entry K t' u ≡ Some x → Holds t' v → (r : R) → values K r ≡ K.group.plus x c →
        Better K.group (entry K t' v) (values K r) → Moves may t (write t' v r s)

  -- some place has an entry that it did not have, or a lesser one
  pub record Lower (t t' : Work R) : Type 0 where
    pub place : ℕ
    pub value : K.group.Carrier
    pub is : entry K t' place ≡ Some value
    pub better : Better K.group (entry K t place) value

  -- one sweep: `done` are the steps that it has met, `may` those that it can have used; `told` says whether it changed something
  pub record Swept (may done : Arcs K) (more : ℕ) (t t' : Work R) (told : Bool) : Type 0 where
    pub moves : Moves may t t'
    pub met : (s : Step) (u v : ℕ) (c x : K.group.Carrier) → done s u v c → entry K t u ≡ Some x → Most K.group (entry K t' v) (K.group.plus x c)
    pub same : told ≡ false → t' ≡ t
    pub lower : told ≡ true → Lower t t'
    pub weight : (b : ℕ) → Under K t b → Under K t' (b + more)

  -- the one step s from u to v at cost c
  abbrev pub One : Step → ℕ → ℕ → K.group.Carrier → Arcs K
  One s u v c s' u' v' c' = (s' ≡ s) × (u' ≡ u) × (v' ≡ v) × (c' ≡ c)

  module _ (net : Net C) (loads : List ℕ) where
    -- the steps that the loads leave
    abbrev pub Left : Arcs K
    Left s u v c = (room : ℕ) × Gives K net loads s u v c room

    -- that of them which is s
    abbrev pub By : Step → Arcs K
    By s s' u v c = (s' ≡ s) × Left s' u v c

-- the way that a step goes along
abbrev pub way_of : Step → ℕ
way_of (Ahead k) = k
way_of (Back k) = k

-- the steps along the first n ways
abbrev pub Among : {C R : Type 0} (K : Kind C R) → ℕ → Arcs K → Arcs K
Among K n A s u v c = (way_of s < n) × A s u v c
