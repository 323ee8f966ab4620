-- What rounds of scans do to work tables t, which become t': entries fall to the least costs of walks from the entries of t.
use Rattle.std.specs.Prelude.{◌≡◌, ℕ, ◌+◌, ◌*◌, ◌<◌, ◌≤◌, Bool, true, false, ◌⊎◌, List, length, Some}
use Rattle.std.specs.List.{slice_get}
use Rattle.costs.specs.Kind.{Kind}
use Rattle.networks.specs.Net.{Net}
use Rattle.plan.specs.declared.note.Note.TheVariants.{Via}
use Rattle.plan.specs.declared.step.Step.{Step}
use Rattle.plan.specs.Entries.{Work, Most, entry, Under}
use Rattle.plan.specs.Steps.{Gives, Leads}

-- the lengths stay
pub record Kept {R : Type 0} (t t' : Work R) : Type 0 where
  pub rows : length t'.rows ≡ length t.rows
  pub notes : length t'.notes ≡ length t.notes

module _ {C R : Type 0} (K : Kind C R) (net : Net C) (loads : List ℕ) where
  -- a walk from u, whose entry in t is x, to v at cost c
  pub record Walk (t : Work R) (u : ℕ) (x : K.group.Carrier) (steps : List Step) (v : ℕ) (c : K.group.Carrier) : Type 0 where
    pub met : List ℕ
    pub from : entry K t u ≡ Some x
    pub leads : Leads K net loads 1 u steps met v c

  -- y is an entry of t and the cost of a walk from there to v
  pub record Walked (t : Work R) (v : ℕ) (y : K.group.Carrier) : Type 0 where
    pub place : ℕ
    pub value : K.group.Carrier
    pub steps : List Step
    pub cost : K.group.Carrier
    pub walk : Walk t place value steps v cost
    pub sum : y ≡ K.group.plus value cost
    pub start : place < length t.rows

  -- some entry is less than what any walk of fewer than n steps gives
  pub record Fell (t t' : Work R) (n : ℕ) : Type 0 where
    pub place : ℕ
    pub value : K.group.Carrier
    pub is : entry K t' place ≡ Some value
    pub below : (u : ℕ) (x : K.group.Carrier) (ss : List Step) (c : K.group.Carrier) → Walk t u x ss place c → length ss < n →
        K.group.le (K.group.plus x c) value → ⊥

  -- the entry y of v is at least another entry and the cost of the step that is noted at v; if it is no more than that, the rank falls
  pub record Came (t' : Work R) (rank : ℕ → ℕ) (v : ℕ) (y : K.group.Carrier) : Type 0 where
    pub step : Step
    pub from : ℕ
    pub cost : K.group.Carrier
    pub room : ℕ
    pub value : K.group.Carrier
    pub note : slice_get t'.notes v ≡ Some (Via step)
    pub gives : Gives K net loads step from v cost room
    pub is : entry K t' from ≡ Some value
    pub above : K.group.le (K.group.plus value cost) y
    pub falls : K.group.plus value cost ≡ y → rank from < rank v

  -- each entry is as it was, with its note, or came by the step that is noted
  pub record Traced (t t' : Work R) : Type 0 where
    pub rank : ℕ → ℕ
    pub each : (v : ℕ) (y : K.group.Carrier) → entry K t' v ≡ Some y →
        ((entry K t v ≡ Some y) × (slice_get t'.notes v ≡ slice_get t.notes v)) ⊎ Came t' rank v y

  -- at most as many scans as there are places, the last of which changed nothing if `still`
  pub record Rounds (t t' : Work R) (still : Bool) : Type 0 where
    pub kept : Kept t t'
    -- no entry goes or rises
    pub grows : (v : ℕ) (x : K.group.Carrier) → entry K t v ≡ Some x → Most K.group (entry K t' v) x
    pub walked : (v : ℕ) (y : K.group.Carrier) → entry K t' v ≡ Some y → Walked t v y
    pub traced : Traced t t'
    -- no entry is above what a walk of at most as many steps gives
    pub short : (u : ℕ) (x : K.group.Carrier) (ss : List Step) (v : ℕ) (c : K.group.Carrier) → Walk t u x ss v c → length ss ≤ net.places →
        Most K.group (entry K t' v) (K.group.plus x c)
    -- none is above what any walk gives
    pub least : still ≡ true → (u : ℕ) (x : K.group.Carrier) (ss : List Step) (v : ℕ) (c : K.group.Carrier) → Walk t u x ss v c →
        Most K.group (entry K t' v) (K.group.plus x c)
    -- no step improves an entry
    pub closed : still ≡ true → (s : Step) (u v : ℕ) (c x : K.group.Carrier) (room : ℕ) → Gives K net loads s u v c room → entry K t' u ≡ Some x →
        Most K.group (entry K t' v) (K.group.plus x c)
    pub fell : still ≡ false → 1 ≤ net.places → Fell t t' net.places
    pub weight : (b : ℕ) → Under K t b → Under K t' (b + net.places * (2000000 * length net.ways))
