-- Work tables at the start of a search: the starts have the entry zero, and no other place has one.
use Rattle.std.specs.Prelude.{◌≡◌, ℕ, ◌<◌, Some}
use Rattle.std.specs.List.{slice_get}
use Rattle.costs.specs.Kind.{Kind}
use Rattle.plan.specs.declared.note.Note.TheVariants.{Start}
use Rattle.plan.specs.declared.starts.Starts.{Starts}
use Rattle.plan.specs.declared.starts.Starts.TheVariants.{At, Everywhere}
use Rattle.plan.specs.Entries.{Work, entry, Under}

-- v is a start, among n places
abbrev pub IsStart : ℕ → Starts → ℕ → Type 0
IsStart n (At u) v = v ≡ u
IsStart n Everywhere v = v < n

pub record Zeros {C R : Type 0} (K : Kind C R) (starts : ℕ → Type 0) (t : Work R) : Type 0 where
  pub each : (v : ℕ) → starts v → entry K t v ≡ Some K.group.zero
  pub only : (v : ℕ) (x : K.group.Carrier) → entry K t v ≡ Some x → starts v × (x ≡ K.group.zero)
  pub noted : (v : ℕ) → starts v → slice_get t.notes v ≡ Some Start
  pub weight : Under K t 0
