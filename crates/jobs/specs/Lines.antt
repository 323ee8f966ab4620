-- The lines that a job program prints, byte by byte, and what writing one into a caller's table answers.
use Rattle.std.specs.Prelude.{◌≡◌, ℕ, List, [], ◌∷◌, ◌++◌, ℤ, Some, None, Ok, Err, codes, decimal, Option, Result}
use Rattle.std.specs.Fmt.{signed_decimal}
use Rattle.networks.specs.declared.refusal.Refusal.{Refusal}
use Rattle.networks.specs.Refusals.{way_of}
use Rattle.networks.specs.Refusals as refusal
use Rattle.plan.specs.declared.calls.Answer.{Answer}
use Rattle.plan.specs.declared.calls.Answer.TheVariants.{Refused}
use Rattle.plan.specs.Words as answer
use Rattle.jobs.specs.declared.lines.Line.{Line}
use Rattle.jobs.specs.declared.lines.Line.TheVariants as line
use Rattle.jobs.specs.Listing.{fault_line}
use Rattle.jobs.specs.Writing.{Writes}

-- the way that a refusal is about, if it is about one
abbrev pub way_words : Option ℕ → List ℕ
way_words None = []
way_words (Some k) = codes " way " ++ decimal k

-- a refusal tells the offset of the record that it is about
abbrev pub refusal_words : ℕ → Refusal → List ℕ
refusal_words offset r = refusal.refusal_words r ++ codes " at " ++ decimal offset ++ way_words (way_of r)

-- what a plan answered to the record at the offset, in words
abbrev pub answer_words : ℕ → Answer → List ℕ
answer_words offset (Refused r) = refusal_words offset r
answer_words offset a = answer.answer_words a

abbrev pub answer_line : ℕ → Answer → List ℕ
answer_line offset a = answer_words offset a ++ codes "\n"

-- each number after a space
abbrev pub numbers : List ℤ → List ℕ
numbers [] = []
numbers (x ∷ xs) = codes " " ++ signed_decimal x ++ numbers xs

-- the numbers of a cost
abbrev pub total_line : List ℤ → List ℕ
total_line cost = codes "total" ++ numbers cost ++ codes "\n"

-- the price of each place
abbrev pub price_words : List (ℤ × ℤ) → List ℕ
price_words [] = []
price_words (p ∷ ps) = numbers (p.0 ∷ p.1 ∷ []) ++ price_words ps

abbrev pub prices_line : List (ℤ × ℤ) → List ℕ
prices_line rows = codes "prices" ++ price_words rows ++ codes "\n"

-- the bytes of a line, its end included
abbrev pub line_bytes : Line → List ℕ
line_bytes (line.Answer offset a) = answer_line offset a
line_bytes (line.PairTotal redraws misfit) = total_line (redraws ∷ misfit ∷ [])
line_bytes (line.WholeTotal misfit) = total_line (misfit ∷ [])
line_bytes (line.Prices rows) = prices_line rows.now
line_bytes (line.File e) = fault_line e

-- the length of the line, and the table begins with it; or refused, exactly if it does not fit; or no memory for it. Either way of failing leaves the table as it was
abbrev pub Written : {E : Type 0} → List ℕ → List ℕ → Result (Result ℕ Refusal) E → List ℕ → Type 0
Written line table (Ok r) then = Writes line table 0 r then
Written line table (Err e) then = then ≡ table
