-- What is taken of the input is read to its end.
use Rattle.std.proofs.Common.{◌≡◌, ℕ, List, [], ◌++◌, take, Some, None, Option, ap, ◌∙◌, subst}
use Rattle.std.specs.Option.{IfSome, option_map}
use Rattle.jobs.proofs.input.read_file.Goals as goal

taken : (input : Option (List ℕ)) (m n : ℕ) (front bytes : List ℕ) → m ≡ n → front ≡ [] → IfSome (option_map (take m) input) (λ xs. bytes ≡ front ++ xs) → IfSome input (λ xs. bytes ≡ take n xs)
taken None m n front bytes p q h = tt
taken (Some xs) m n front bytes p q h = h ∙ ap (λ ys. ys ++ take m xs) q ∙ ap (λ k. take k xs) p

pub returns : goal.returns
returns g c =
    taken (g.R.Read.remaining c.args.input) c.take.result.limit _ c.new-bytes.result.items _ c.take.ensures.limit c.new-bytes.ensures.items
    (subst (λ r. IfSome (option_map (take c.take.result.limit) (g.R.Read.remaining r)) (λ xs. c.read_to_end.new.buf.items ≡ c.new-bytes.result.items ++ xs)) c.take.ensures.inner c.in_ok-read_to_end.ensures.bytes)
