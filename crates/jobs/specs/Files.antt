-- Which files are good, and what the first fault of any other is.
use Rattle.std.specs.Prelude.{◌≡◌, ℕ, ◌<◌, ◌≤◌, List, [], ◌∷◌, ◌++◌, length, Ok, Err, Result, ◌≢◌}
use Rattle.std.specs.List.{AllByRecursion}
use Rattle.jobs.specs.declared.entry.Entry.{Entry}
use Rattle.jobs.specs.declared.entry.Entry.TheVariants.{Head}
use Rattle.jobs.specs.declared.fault.Fault.{Fault}
use Rattle.jobs.specs.declared.form.Form.{Form}
use Rattle.jobs.specs.declared.form.Form.TheVariants as form
use Rattle.jobs.specs.declared.kind.Kind.{Kind}
use Rattle.networks.specs.declared.refusal.Refusal.{Refusal}
use Rattle.networks.specs.declared.refusal.Refusal.TheVariants.{CutShort, UnknownKind, OutOfPlace, LongFile}
use Rattle.jobs.specs.declared.section.Section.{Section}
use Rattle.jobs.specs.declared.section.Section.TheVariants.{Listing, Calls, Sizes}
use Rattle.jobs.specs.Kinds.{kind_byte, body_length, section_of}
use Rattle.jobs.specs.Entries.{kind_of, record_of, Fits}

-- the records one after the other
abbrev pub written : List Entry → List ℕ
written [] = []
written (e ∷ es) = record_of e ++ written es

abbrev pub In : Section → Entry → Type 0
In s e = section_of (kind_of e) ≡ s

-- a head, exactly its number of ways, then calls
pub record Job (es : List Entry) : Type 0 where
  pub places : ℕ
  pub ways : List Entry
  pub after : List Entry
  pub whole : es ≡ Head places (length ways) ∷ (ways ++ after)
  pub listed : AllByRecursion (In Listing) ways
  pub called : AllByRecursion (In Calls) after

abbrev pub Lawful : Form → List Entry → Type 0
Lawful form.Job es = Job es
Lawful form.Grid es = AllByRecursion (In Sizes) es

abbrev pub longest : ℕ
longest = 60000

-- the file is good, and holds these records
pub record Holds (f : Form) (bytes : List ℕ) (es : List Entry) : Type 0 where
  pub short : length bytes ≤ longest
  pub fits : AllByRecursion Fits es
  pub spelled : bytes ≡ written es
  pub lawful : Lawful f es

abbrev pub Good : Form → List ℕ → Type 0
Good f bytes = (es : List Entry) × Holds f bytes es

-- the file begins with these records, with which some good file begins, and goes on with the rest
pub record Begun (f : Form) (bytes : List ℕ) (es : List Entry) (rest : List ℕ) : Type 0 where
  pub short : length bytes ≤ longest
  pub fits : AllByRecursion Fits es
  pub spelled : bytes ≡ written es ++ rest
  pub lawful : (more : List Entry) × Lawful f (es ++ more)

-- a record of kind k may follow these
abbrev pub InPlace : Form → List Entry → Kind → Type 0
InPlace f es k = (e : Entry) × (more : List Entry) × (kind_of e ≡ k) × Lawful f (es ++ e ∷ more)

-- what is wrong with the bytes that come after these records
pub data Wrong (f : Form) (es : List Entry) : List ℕ → Refusal → Type 0 where
  unknown : (b : ℕ) (rest : List ℕ) → ((k : Kind) → kind_byte k ≢ b) → Wrong f es (b ∷ rest) UnknownKind
  misplaced : (k : Kind) (rest : List ℕ) → (InPlace f es k → ⊥) → Wrong f es (kind_byte k ∷ rest) OutOfPlace
  cut : (k : Kind) (rest : List ℕ) → InPlace f es k → length rest < body_length k → Wrong f es (kind_byte k ∷ rest) CutShort
  missing : (Lawful f es → ⊥) → Wrong f es [] CutShort

-- the first fault of a file and its offset: the kind byte's; the file's length if records are missing; 60,000 if the file is too long
pub data Faulty (f : Form) (bytes : List ℕ) : Refusal → ℕ → Type 0 where
  too_long : longest < length bytes → Faulty f bytes LongFile longest
  after : (es : List Entry) (rest : List ℕ) (r : Refusal) → Begun f bytes es rest → Wrong f es rest r → Faulty f bytes r (length (written es))

-- the fault is the file's first, and its only one; no good file has one
pub record First (f : Form) (bytes : List ℕ) (e : Fault) : Type 0 where
  pub fault : Faulty f bytes e.refusal e.offset
  pub bad : Good f bytes → ⊥
  pub only : (r : Refusal) (o : ℕ) → Faulty f bytes r o → (r ≡ e.refusal) × (o ≡ e.offset)

-- what a check of a file answers: how many records it has, or its first fault
abbrev pub Checked : Form → List ℕ → Result ℕ Fault → Type 0
Checked f bytes (Ok n) = (es : List Entry) × Holds f bytes es × (n ≡ length es)
Checked f bytes (Err e) = First f bytes e
