-- A list of known length is the list of its elements, which is how a pattern on a slice reads them.
use Rattle.std.proofs.Common.{◌≡◌, ℕ, zero, suc, List, [], ◌∷◌, length, get_or, refl, ap, ◌∙◌, arith}

-- the n elements from place i on
abbrev pub listed : ℕ → ℕ → List ℕ → List ℕ
listed zero i xs = []
listed (suc n) i xs = get_or xs i 0 ∷ listed n (suc i) xs

listed_past : (n i x : ℕ) (xs : List ℕ) → listed n (suc i) (x ∷ xs) ≡ listed n i xs
listed_past zero i x xs = refl
listed_past (suc n) i x xs = ap (λ ys. get_or xs i 0 ∷ ys) (listed_past n (suc i) x xs)

pub listed_all : (n : ℕ) (xs : List ℕ) → length xs ≡ n → listed n 0 xs ≡ xs
listed_all zero [] e = refl
listed_all zero (x ∷ xs) e = absurd (omega arith)
listed_all (suc n) [] e = absurd (omega arith)
listed_all (suc n) (x ∷ xs) e = ap (λ ys. x ∷ ys) (listed_past n 0 x xs ∙ listed_all n xs (omega arith))
