-- The table of kinds: the byte that a record begins with, the length of its body, and the section of a file that it stands in.
use Rattle.std.specs.Prelude.{◌≡◌, ◌≢◌, ℕ, MatchResult, Result}
use Rattle.networks.specs.declared.refusal.Refusal.{Refusal}
use Rattle.networks.specs.declared.refusal.Refusal.TheVariants.{UnknownKind}
use Rattle.jobs.specs.declared.kind.Kind.{Kind}
use Rattle.jobs.specs.declared.kind.Kind.TheVariants.{Head, Way, Book, Route, Settle, Total, Prices, Group, Last}
use Rattle.jobs.specs.declared.section.Section.{Section}
use Rattle.jobs.specs.declared.section.Section.TheVariants.{Heading, Listing, Calls, Sizes}

abbrev pub kind_byte : Kind → ℕ
kind_byte Head = 1
kind_byte Way = 2
kind_byte Book = 3
kind_byte Route = 4
kind_byte Settle = 5
kind_byte Total = 6
kind_byte Prices = 7
kind_byte Group = 8
kind_byte Last = 9

-- what a byte tells: the kind that has it; or refused, exactly if none has
abbrev pub Decodes : ℕ → Result Kind Refusal → Type 0
Decodes b r = MatchResult r (λ k. kind_byte k ≡ b) (λ e. (e ≡ UnknownKind) × ((k : Kind) → kind_byte k ≢ b))

abbrev pub body_length : Kind → ℕ
body_length Head = 4
body_length Way = 16
body_length Book = 8
body_length Route = 0
body_length Settle = 4
body_length Total = 0
body_length Prices = 0
body_length Group = 6
body_length Last = 6

abbrev pub section_of : Kind → Section
section_of Head = Heading
section_of Way = Listing
section_of Book = Calls
section_of Route = Calls
section_of Settle = Calls
section_of Total = Calls
section_of Prices = Calls
section_of Group = Sizes
section_of Last = Sizes
