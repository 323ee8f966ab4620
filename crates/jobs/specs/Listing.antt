-- The listing of a file in words: a line for each record with its offset, or one line for a faulty file.
use Rattle.std.specs.Prelude.{◌≡◌, ℕ, ◌+◌, ◌-◌, ◌⊎◌, List, [], ◌∷◌, ◌++◌, length, ℤ, codes, decimal}
use Rattle.std.specs.Fmt.{signed_decimal}
use Rattle.jobs.specs.declared.entry.Entry.{Entry}
use Rattle.jobs.specs.declared.entry.Entry.TheVariants.{Head, Way, Book, Route, Settle, Total, Prices, Group, Last}
use Rattle.jobs.specs.declared.fault.Fault.{Fault}
use Rattle.jobs.specs.declared.form.Form.{Form}
use Rattle.jobs.specs.Entries.{record_of}
use Rattle.jobs.specs.Files.{Holds, First}
use Rattle.networks.specs.Refusals.{number_of}

-- a way's limit and its cost, in words
abbrev pub cost_words : ℕ → ℤ → ℤ → List ℕ
cost_words limit redraws misfit = codes " limit " ++ decimal limit ++ codes " redraws " ++ signed_decimal redraws ++ codes " misfit " ++ signed_decimal misfit

-- what a record says, in words; i is how many records stand before it, so that the ways of a job count from 0
abbrev pub words : ℕ → Entry → List ℕ
words i (Head places ways) = codes "head places " ++ decimal places ++ codes " ways " ++ decimal ways
words i (Way tail head limit redraws misfit) =
    codes "way " ++ decimal (i - 1) ++ codes " from " ++ decimal tail ++ codes " to " ++ decimal head ++ cost_words limit redraws misfit
words i (Book from to amount) = codes "book from " ++ decimal from ++ codes " to " ++ decimal to ++ codes " amount " ++ decimal amount
words i Route = codes "route"
words i (Settle budget) = codes "settle budget " ++ decimal budget
words i Total = codes "total"
words i Prices = codes "prices"
words i (Group length count) = codes "group length " ++ decimal length ++ codes " count " ++ decimal count
words i (Last length count) = codes "last length " ++ decimal length ++ codes " stock " ++ decimal count

-- the line of a record at an offset
abbrev pub line_of : ℕ → ℕ → Entry → List ℕ
line_of i offset e = decimal offset ++ codes " " ++ words i e ++ codes "\n"

-- the lines of records, of which i stand before
abbrev pub lines_of : ℕ → ℕ → List Entry → List ℕ
lines_of i offset [] = []
lines_of i offset (e ∷ es) = line_of i offset e ++ lines_of (i + 1) (offset + length (record_of e)) es

-- a faulty file in words, and its line
abbrev pub fault_words : Fault → List ℕ
fault_words e = codes "file " ++ decimal (number_of e.refusal) ++ codes " at " ++ decimal e.offset

abbrev pub fault_line : Fault → List ℕ
fault_line e = fault_words e ++ codes "\n"

-- the text has the lines of the file's records
abbrev pub Tells : Form → List ℕ → List ℕ → Type 0
Tells f bytes text = (es : List Entry) × Holds f bytes es × (text ≡ lines_of 0 0 es)

-- the text lists the file
abbrev pub Lists : Form → List ℕ → List ℕ → Type 0
Lists f bytes text = Tells f bytes text ⊎ ((e : Fault) × First f bytes e × (text ≡ fault_line e))
