-- What a reader has handed out so far, and what it hands out next.
use Rattle.std.specs.Prelude.{◌≡◌, ℕ, ◌+◌, ◌-◌, ◌<◌, Bool, true, false, cond, List, [], ◌∷◌, ◌++◌, length, drop, Some, None, Ok, Err, Option, Result, ◌==◌}
use Rattle.std.specs.List.{AllByRecursion}
use Rattle.jobs.specs.declared.entry.Entry.{Entry}
use Rattle.jobs.specs.declared.entry.Entry.TheVariants as entry
use Rattle.jobs.specs.declared.fault.Fault.{Fault}
use Rattle.jobs.specs.declared.form.Form.{Form}
use Rattle.jobs.specs.declared.form.Form.TheVariants as form
use Rattle.jobs.specs.declared.reader.Reader.{Reader}
use Rattle.jobs.specs.declared.reader.Stage.{Stage}
use Rattle.jobs.specs.declared.reader.Stage.TheVariants.{Head, Ways, Calls, Sizes}
use Rattle.jobs.specs.declared.record.Record.{Record}
use Rattle.jobs.specs.declared.section.Section.{Section}
use Rattle.jobs.specs.declared.section.Section.TheVariants as section
use Rattle.jobs.specs.Entries.{kind_of, Spells, Fits}
use Rattle.jobs.specs.Files.{written, In, Lawful, Holds, Faulty}

-- the number of ways that a head tells
abbrev pub ways_told : Entry → ℕ
ways_told (entry.Head places ways) = ways
ways_told (entry.Way tail head limit redraws misfit) = 0
ways_told (entry.Book from to amount) = 0
ways_told entry.Route = 0
ways_told (entry.Settle budget) = 0
ways_told entry.Total = 0
ways_told entry.Prices = 0
ways_told (entry.Group length count) = 0
ways_told (entry.Last length count) = 0

-- after these records of a job, left more ways are due
pub record Listing (left : ℕ) (es : List Entry) : Type 0 where
  pub places : ℕ
  pub ways : List Entry
  pub whole : es ≡ entry.Head places (length ways + left) ∷ ways
  pub listed : AllByRecursion (In section.Listing) ways
  pub some : 0 < left

-- what is due after these records
abbrev pub Due : Form → Stage → List Entry → Type 0
Due form.Job Head es = es ≡ []
Due form.Job (Ways left) es = Listing left es
Due form.Job Calls es = Lawful form.Job es
Due form.Job Sizes es = ⊥
Due form.Grid Head es = ⊥
Due form.Grid (Ways left) es = ⊥
Due form.Grid Calls es = ⊥
Due form.Grid Sizes es = Lawful form.Grid es

-- the section in which the next record has to stand
abbrev pub due_section : Stage → Section
due_section Head = section.Heading
due_section (Ways left) = section.Listing
due_section Calls = section.Calls
due_section Sizes = section.Sizes

-- no record is missing
abbrev pub complete : Stage → Bool
complete Head = false
complete (Ways left) = false
complete Calls = true
complete Sizes = true

-- what is due where so many ways are to come
abbrev pub listing : ℕ → Stage
listing left = cond (left == 0) Calls (Ways left)

-- what is due after a record that was
abbrev pub after : Stage → Entry → Stage
after Head e = listing (ways_told e)
after (Ways left) e = listing (left - 1)
after Calls e = Calls
after Sizes e = Sizes

-- the reader has handed out these records of a file of the form
pub record Read (f : Form) (es : List Entry) (r : Reader) : Type 0 where
  pub fits : AllByRecursion Fits es
  pub spelled : r.bytes.now ≡ written es ++ drop r.offset r.bytes.now
  pub place : r.offset ≡ length (written es)
  pub due : Due f r.stage es

-- the record comes next
pub record Comes (f : Form) (es : List Entry) (before then : Reader) (x : Record) : Type 0 where
  pub place : x.offset ≡ before.offset
  pub says : Spells (kind_of x.entry) x.body.now x.entry
  pub same : then.bytes.now ≡ before.bytes.now
  pub read : Read f (es ++ x.entry ∷ []) then

-- what a reader that has handed out es answers: the next record; or the end of a good file; or the file's first fault
abbrev pub Next : Form → List Entry → Reader → Result (Option Record) Fault → Reader → Type 0
Next f es before (Ok (Some x)) then = Comes f es before then x
Next f es before (Ok None) then = (then ≡ before) × Holds f before.bytes.now es
Next f es before (Err e) then = (then ≡ before) × Faulty f before.bytes.now e.refusal e.offset
