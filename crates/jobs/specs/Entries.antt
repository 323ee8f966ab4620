-- What a record says, and the bytes that say it.
use Rattle.std.specs.Prelude.{◌≡◌, ℕ, ◌+◌, ◌*◌, ◌^◌, ◌<◌, List, [], ◌∷◌, ◌++◌, ℤ, slice_index}
use Rattle.std.specs.Int.Signed.{mag}
use Rattle.std.specs.Int.{w32}
use Rattle.std.proofs.Common.{to_z}
use Rattle.jobs.specs.declared.kind.Kind.{Kind}
use Rattle.jobs.specs.declared.kind.Kind.TheVariants as kind
use Rattle.jobs.specs.declared.entry.Entry.{Entry}
use Rattle.jobs.specs.declared.entry.Entry.TheVariants.{Head, Way, Book, Route, Settle, Total, Prices, Group, Last}
use Rattle.jobs.specs.Kinds.{kind_byte}
use Rattle.jobs.specs.Bytes.{two_bytes, four_bytes, unsigned}

abbrev pub kind_of : Entry → Kind
kind_of (Head places ways) = kind.Head
kind_of (Way tail head limit redraws misfit) = kind.Way
kind_of (Book from to amount) = kind.Book
kind_of Route = kind.Route
kind_of (Settle budget) = kind.Settle
kind_of Total = kind.Total
kind_of Prices = kind.Prices
kind_of (Group length count) = kind.Group
kind_of (Last length count) = kind.Last

-- the body: the numbers in order
abbrev pub body_of : Entry → List ℕ
body_of (Head places ways) = two_bytes places ++ two_bytes ways
body_of (Way tail head limit redraws misfit) =
    two_bytes tail ++ two_bytes head ++ four_bytes limit ++ four_bytes (unsigned redraws) ++ four_bytes (unsigned misfit)
body_of (Book from to amount) = two_bytes from ++ two_bytes to ++ four_bytes amount
body_of Route = []
body_of (Settle budget) = four_bytes budget
body_of Total = []
body_of Prices = []
body_of (Group length count) = two_bytes length ++ four_bytes count
body_of (Last length count) = two_bytes length ++ four_bytes count

-- the record: one byte of kind, and the body
abbrev pub record_of : Entry → List ℕ
record_of e = kind_byte (kind_of e) ∷ body_of e

-- each number fits its bytes; `mag z` is n for n and for -(n + 1)
abbrev pub Fits : Entry → Type 0
Fits (Head places ways) = (places < 2 ^ 16) × (ways < 2 ^ 16)
Fits (Way tail head limit redraws misfit) = (tail < 2 ^ 16) × (head < 2 ^ 16) × (limit < 2 ^ 32) × (mag redraws < 2 ^ 31) × (mag misfit < 2 ^ 31)
Fits (Book from to amount) = (from < 2 ^ 16) × (to < 2 ^ 16) × (amount < 2 ^ 32)
Fits Route = Unit {0}
Fits (Settle budget) = budget < 2 ^ 32
Fits Total = Unit {0}
Fits Prices = Unit {0}
Fits (Group length count) = (length < 2 ^ 16) × (count < 2 ^ 32)
Fits (Last length count) = (length < 2 ^ 16) × (count < 2 ^ 32)

-- the body of a record of the kind says e
pub record Spells (k : Kind) (bytes : List ℕ) (e : Entry) : Type 0 where
  pub kind : kind_of e ≡ k
  pub numbers : body_of e ≡ bytes
  pub fits : Fits e

-- the numbers that stand in a body from place i on
abbrev pub two_at : List ℕ → ℕ → ℕ
two_at bs i = slice_index bs i * 256 + slice_index bs (i + 1)

abbrev pub four_at : List ℕ → ℕ → ℕ
four_at bs i = slice_index bs i * 16777216 + slice_index bs (i + 1) * 65536 + slice_index bs (i + 2) * 256 + slice_index bs (i + 3)

abbrev pub signed_at : List ℕ → ℕ → ℤ
signed_at bs i = to_z w32 (four_at bs i)
