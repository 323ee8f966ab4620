-- Work tables: for each place a row and a note. A place that no search has come to has no entry.
use Rattle.std.specs.Prelude.{◌≡◌, ℕ, ◌<◌, ◌≤◌, Bool, true, false, cond, List, length, take, Some, None, Option, slice_index_or, slice_set}
use Rattle.std.specs.List.{slice_get}
use Rattle.std.specs.Option.{option_map}
use Rattle.costs.specs.Group.{Group, Below}
use Rattle.costs.specs.Kind.{Kind, values, weights}
use Rattle.plan.specs.declared.note.Note.{Note}
use Rattle.plan.specs.declared.note.Note.TheVariants.{Unseen, Start, Via}
use Rattle.plan.specs.declared.step.Step.{Step}

pub record Work (R : Type 0) : Type 0 where
  pub rows : List R
  pub notes : List Note

abbrev pub tables : {R : Type 0} → List R → List Note → Work R
tables rows notes = record { rows = rows; notes = notes }

-- the search has come to the place with that note
abbrev pub is_seen : Note → Bool
is_seen Unseen = false
is_seen Start = true
is_seen (Via s) = true

-- a row and a note for each of n places
pub record Level {R : Type 0} (n : ℕ) (t : Work R) : Type 0 where
  pub rows : length t.rows ≡ n
  pub notes : length t.notes ≡ n

-- the rows of the first n places
abbrev pub front : {R : Type 0} → ℕ → Work R → Work R
front n t = record { rows = take n t.rows; notes = t.notes }

-- place v stands in both
pub record Holds {R : Type 0} (t : Work R) (v : ℕ) : Type 0 where
  pub rows : v < length t.rows
  pub notes : v < length t.notes

-- what the row of v gives, if the search has come to v
abbrev pub noted : {R A : Type 0} → (R → A) → Work R → ℕ → Option A
noted f t v = cond (is_seen (slice_index_or t.notes v Unseen)) (option_map f (slice_get t.rows v)) None

-- the search came to place v by step s, with row r
abbrev pub write : {R : Type 0} → Work R → ℕ → R → Step → Work R
write t v r s = record { rows = slice_set t.rows v r; notes = slice_set t.notes v (Via s) }

-- there is an entry, and it is at most y
pub record Most (G : Group) (o : Option G.Carrier) (y : G.Carrier) : Type 0 where
  pub value : G.Carrier
  pub is : o ≡ Some value
  pub most : G.le value y

-- y is less than the entry, if there is one
abbrev pub Better : (G : Group) → Option G.Carrier → G.Carrier → Type 0
Better G o y = (x : G.Carrier) → o ≡ Some x → Below G y x

module _ {C R : Type 0} (K : Kind C R) where
  -- the entry of v
  abbrev pub entry : Work R → ℕ → Option K.group.Carrier
  entry t v = noted (values K) t v

  -- each row that was come to weighs at most b
  abbrev pub Under : Work R → ℕ → Type 0
  Under t b = (v w : ℕ) → noted (weights K) t v ≡ Some w → w ≤ b
