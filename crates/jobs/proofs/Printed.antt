-- The prices of one place more.
use Rattle.std.proofs.Common.{◌≡◌, ℕ, zero, suc, ◌+◌, ◌<◌, List, [], ◌∷◌, ◌++◌, length, get_or, take, ℤ, ap, ◌∙◌, append_assoc, append-nil, add-one, sym, arith}
use Rattle.jobs.specs.Lines.{numbers, price_words}

prices_push : (rows : List (ℤ × ℤ)) (i : ℕ) (d : ℤ × ℤ) → i < length rows →
    price_words (take (suc i) rows) ≡ price_words (take i rows) ++ numbers ((get_or rows i d).0 ∷ (get_or rows i d).1 ∷ [])
prices_push [] i d l = absurd (omega arith)
prices_push (p ∷ rows) zero d l = append-nil (numbers (p.0 ∷ p.1 ∷ []))
prices_push (p ∷ rows) (suc i) d l = ap (λ ys. numbers (p.0 ∷ p.1 ∷ []) ++ ys) (prices_push rows i d (omega arith)) ∙ sym (append_assoc (numbers (p.0 ∷ p.1 ∷ [])) _ _)

pub prices_more : (rows : List (ℤ × ℤ)) (i : ℕ) (d : ℤ × ℤ) → i < length rows →
    price_words (take i rows) ++ numbers ((get_or rows i d).0 ∷ (get_or rows i d).1 ∷ []) ≡ price_words (take (i + 1) rows)
prices_more rows i d l = sym (prices_push rows i d l) ∙ ap (λ j. price_words (take j rows)) (sym (add-one i))
