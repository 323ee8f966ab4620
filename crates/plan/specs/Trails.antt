-- What following the noted steps back finds: where a step begins, and the route that the steps are.
use Rattle.std.specs.Prelude.{◌≡◌, ℕ, ◌+◌, ◌-◌, ◌<◌, ◌≤◌, true, List, [], ◌∷◌, reverse, length, Some, Option, MatchOption, slice_index, slice_set}
use Rattle.costs.specs.Kind.{Kind}
use Rattle.networks.specs.Net.{Net}
use Rattle.plan.specs.declared.note.Note.{Note}
use Rattle.plan.specs.declared.step.Step.{Step}
use Rattle.plan.specs.declared.step.Step.TheVariants.{Ahead, Back}
use Rattle.plan.specs.Entries.{Work, tables, front, entry}
use Rattle.plan.specs.Searches.{Searched}
use Rattle.plan.specs.Standing.{Inside}
use Rattle.plan.specs.Steps.{Route}

-- x can be sent along the steps: each has room for it in its turn, and no load comes above the greatest limit
abbrev pub Bears : ℕ → List Step → List ℕ → Type 0
Bears x [] f = Unit {0}
Bears x (Ahead k ∷ ss) f = (k < length f) × (slice_index f k + x ≤ 1000000) × Bears x ss (slice_set f k (slice_index f k + x))
Bears x (Back k ∷ ss) f = (k < length f) × (x ≤ slice_index f k) × Bears x ss (slice_set f k (slice_index f k - x))

module _ {C R : Type 0} (K : Kind C R) (net : Net C) (loads : List ℕ) where
  -- a search from `from` over all places ended, and t says that `to` can be reached at cost y
  pub record Ended (from to : ℕ) (t : Work R) (y : K.group.Carrier) : Type 0 where
    pub inside : Inside net
    pub searched : Searched K net loads (λ v. v ≡ from) (front net.places t) true
    pub is : entry K (front net.places t) to ≡ Some y

  -- the path holds the steps of a route from `from` to `to` at cost y, the last of them first, and x is the most that can be sent along it, up to `amount`
  pub record Trailed (from to amount : ℕ) (path : List Step) (y : K.group.Carrier) (x : ℕ) : Type 0 where
    pub route : Route K net loads x from (reverse path) to y
    pub asked : x ≤ amount
    pub positive : 1 ≤ amount → 1 ≤ x
    pub most : (z : ℕ) → z ≤ amount → Route K net loads z from (reverse path) to y → z ≤ x

  -- so it is after any search that left those notes
  abbrev pub Trails : List Note → ℕ → ℕ → List Step → Option ℕ → Type 0
  Trails notes to amount path r =
      (rows : List R) (from : ℕ) (y : K.group.Carrier) → Ended from to (tables rows notes) y →
      MatchOption r ⊥ (Trailed from to amount path y)
