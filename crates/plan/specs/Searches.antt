-- What a search leaves in work tables t: the least costs of walks from its starts.
use Rattle.std.specs.Prelude.{◌≡◌, ℕ, ◌*◌, ◌<◌, ◌≤◌, Bool, true, false, ◌⊎◌, List, length, Some}
use Rattle.std.specs.List.{slice_get}
use Rattle.costs.specs.Kind.{Kind}
use Rattle.networks.specs.Net.{Net}
use Rattle.plan.specs.declared.note.Note.TheVariants.{Start}
use Rattle.plan.specs.declared.step.Step.{Step}
use Rattle.plan.specs.Entries.{Work, Most, entry, Under}
use Rattle.plan.specs.Rounds.{Came}
use Rattle.plan.specs.Steps.{Gives, Leads}

module _ {C R : Type 0} (K : Kind C R) (net : Net C) (loads : List ℕ) (starts : ℕ → Type 0) where
  -- a walk from a start to v at cost y
  pub record Reached (v : ℕ) (y : K.group.Carrier) : Type 0 where
    pub place : ℕ
    pub steps : List Step
    pub met : List ℕ
    pub begins : starts place
    pub leads : Leads K net loads 1 place steps met v y
    pub inside : place < net.places

  -- some entry is less than the cost of any walk of fewer than n steps
  pub record Deep (t : Work R) (n : ℕ) : Type 0 where
    pub place : ℕ
    pub value : K.group.Carrier
    pub is : entry K t place ≡ Some value
    pub below : (u : ℕ) (ss : List Step) (vs : List ℕ) (c : K.group.Carrier) → starts u → Leads K net loads 1 u ss vs place c → length ss < n →
        K.group.le c value → ⊥

  -- each entry is zero at a start and so noted, or came by the step that is noted
  pub record BackTraced (t : Work R) : Type 0 where
    pub rank : ℕ → ℕ
    pub each : (v : ℕ) (y : K.group.Carrier) → entry K t v ≡ Some y → (starts v × (y ≡ K.group.zero) × (slice_get t.notes v ≡ Some Start)) ⊎ Came K net loads t rank v y

  -- at most as many scans as there are places, the last of which changed nothing if `still`
  pub record Searched (t : Work R) (still : Bool) : Type 0 where
    pub begun : (v : ℕ) → starts v → Most K.group (entry K t v) K.group.zero
    pub reached : (v : ℕ) (y : K.group.Carrier) → entry K t v ≡ Some y → Reached v y
    pub traced : BackTraced t
    pub short : (u v : ℕ) (ss : List Step) (vs : List ℕ) (c : K.group.Carrier) → starts u → Leads K net loads 1 u ss vs v c → length ss ≤ net.places →
        Most K.group (entry K t v) c
    pub least : still ≡ true → (u v : ℕ) (ss : List Step) (vs : List ℕ) (c : K.group.Carrier) → starts u → Leads K net loads 1 u ss vs v c →
        Most K.group (entry K t v) c
    pub closed : still ≡ true → (s : Step) (u v : ℕ) (c x : K.group.Carrier) (room : ℕ) → Gives K net loads s u v c room → entry K t u ≡ Some x →
        Most K.group (entry K t v) (K.group.plus x c)
    pub fell : still ≡ false → 1 ≤ net.places → Deep t net.places
    pub weight : Under K t (net.places * (2000000 * length net.ways))
