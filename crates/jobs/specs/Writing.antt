-- What writing into a caller's table answers, and how it leaves the table.
use Rattle.std.specs.Prelude.{◌≡◌, ℕ, ◌+◌, ◌<◌, ◌≤◌, ◌⊎◌, List, ◌++◌, length, take, drop, Ok, Err, Result}
use Rattle.jobs.specs.declared.fault.Fault.{Fault}
use Rattle.jobs.specs.declared.form.Form.{Form}
use Rattle.networks.specs.declared.refusal.Refusal.{Refusal}
use Rattle.networks.specs.declared.refusal.Refusal.TheVariants.{ShortTable}
use Rattle.jobs.specs.Files.{Good, First}

-- the table with these bytes at the offset
abbrev pub put_at : List ℕ → ℕ → List ℕ → List ℕ
put_at table offset bytes = take offset table ++ (bytes ++ drop (offset + length bytes) table)

-- the offset after the bytes; or refused, exactly if they do not fit, with the table as it was
abbrev pub Writes : List ℕ → List ℕ → ℕ → Result ℕ Refusal → List ℕ → Type 0
Writes bytes table offset (Ok end) then = (offset + length bytes ≤ length table) × (end ≡ offset + length bytes) × (then ≡ put_at table offset bytes)
Writes bytes table offset (Err r) then = (length table < offset + length bytes) × (r ≡ ShortTable) × (then ≡ table)

-- the table is shorter than the file
abbrev pub short : Fault
short = record { refusal = ShortTable; offset = 0 }

-- what copying a file record by record answers: its length, and the table begins with its bytes; or refused, with the table as it was,
-- first if the table is shorter than the file, then at the file's first fault
abbrev pub Copies : Form → List ℕ → List ℕ → Result ℕ Fault → List ℕ → Type 0
Copies f bytes table (Ok n) then = Good f bytes × (length bytes ≤ length table) × (n ≡ length bytes) × (then ≡ put_at table 0 bytes)
Copies f bytes table (Err e) then = (then ≡ table) × (((length table < length bytes) × (e ≡ short)) ⊎ ((length bytes ≤ length table) × First f bytes e))
