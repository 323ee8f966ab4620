-- Sums by any addition that is associative and commutative.
use Rattle.std.proofs.Common.{◌≡◌, ℕ, zero, suc, ◌<◌, ◌≢◌, sym, refl, ap, ◌∙◌, ap₂, ⊎_elim, arith}
use Rattle.std.proofs.lemmas.Bool.{cases_eq}
use Rattle.plan.proofs.Flow.{total}

pub record Adds {A : Type 0} (none : A) (add : A → A → A) : Type 0 where
  pub assoc : (x y z : A) → add (add x y) z ≡ add x (add y z)
  pub comm : (x y : A) → add x y ≡ add y x
  pub unit : (x : A) → add x none ≡ x

module _ {A : Type 0} {none : A} {add : A → A → A} (laws : Adds none add) where
  pub left_comm : (x y z : A) → add x (add y z) ≡ add y (add x z)
  left_comm x y z = sym (laws.assoc x y z) ∙ ap (λ w. add w z) (laws.comm x y) ∙ laws.assoc y x z

  pub unit_left : (x : A) → add none x ≡ x
  unit_left x = laws.comm none x ∙ laws.unit x

  pub cross : (a b c d : A) → add (add a b) (add c d) ≡ add (add a c) (add b d)
  cross a b c d = simp (laws.assoc, left_comm)

  pub total_same : (n : ℕ) (s t : ℕ → A) → ((k : ℕ) → k < n → s k ≡ t k) → total none add n s ≡ total none add n t
  total_same zero s t h = refl
  total_same (suc n) s t h = ap₂ add (total_same n s t (λ k l. h k (omega arith))) (h n (omega arith))

  pub total_none : (n : ℕ) (t : ℕ → A) → ((k : ℕ) → k < n → t k ≡ none) → total none add n t ≡ none
  total_none zero t h = refl
  total_none (suc n) t h = ap₂ add (total_none n t (λ k l. h k (omega arith))) (h n (omega arith)) ∙ laws.unit none

  pub total_add : (n : ℕ) (s t : ℕ → A) → total none add n (λ k. add (s k) (t k)) ≡ add (total none add n s) (total none add n t)
  total_add zero s t = sym (laws.unit none)
  total_add (suc n) s t = ap (λ w. add w (add (s n) (t n))) (total_add n s t) ∙ cross _ _ _ _

  pub total_swap : (m n : ℕ) (t : ℕ → ℕ → A) → total none add m (λ k. total none add n (t k)) ≡ total none add n (λ v. total none add m (λ k. t k v))
  total_swap zero n t = sym (total_none n (λ v. none) (λ k l. refl))
  total_swap (suc m) n t = ap (λ w. add w (total none add n (t m))) (total_swap m n t) ∙ sym (total_add n _ _)

  -- all terms but one are none
  pub total_pick : (n u : ℕ) (t : ℕ → A) → u < n → ((v : ℕ) → v < n → v ≢ u → t v ≡ none) → total none add n t ≡ t u
  total_pick zero u t l h = absurd (omega arith)
  total_pick (suc n) u t l h =
      ⊎_elim
      (λ e. ap₂ add (total_none n t (λ k kn. h k (omega arith) (omega arith))) (ap t (sym e)) ∙ unit_left (t u))
      (λ ne. ap₂ add (total_pick n u t (omega arith) (λ v vn. h v (omega arith))) (h n (omega arith) (omega arith)) ∙ laws.unit (t u))
      (cases_eq u n)
