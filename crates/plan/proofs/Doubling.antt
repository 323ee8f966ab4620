-- An n-fold sum that is made by doubling is the n-fold sum, weighs at most n times as much, and is not made only if that is too heavy.
use Rattle.std.proofs.Common.{◌≡◌, ℕ, ◌+◌, ◌*◌, ◌/◌, ◌%◌, ◌<◌, ◌≤◌, sym, ap, ap₂, ◌∙◌, subst, arith, mul-le-mul_right, add-mul, MatchOption, Option, Some, None}
use Rattle.costs.specs.Group.{times}
use Rattle.costs.specs.Kind.{Kind, Sums, heaviest}
use Rattle.plan.proofs.Costs.{times_add}

module _ {C R : Type 0} (K : Kind C R) (x : C) where
  -- s is the n-fold sum of x, and no heavier than n of it
  pub record Fold (n : ℕ) (s : C) : Type 0 where
    pub value : K.value s ≡ times K.group n (K.value x)
    pub weight : K.weighs s ≤ n * K.weighs x

  -- what is answered where n-fold sums are made
  abbrev pub Answers : ℕ → Option C → Type 0
  Answers n r = MatchOption r (heaviest < n * K.weighs x) (λ s. (K.value s ≡ times K.group n (K.value x)) × (K.weighs s ≤ n * K.weighs x))

  pub fold_none : (n : ℕ) (s : C) → n ≡ 0 → K.value s ≡ K.group.zero → Fold n s
  fold_none n s e z = record {
    value = z ∙ ap (λ k. times K.group k (K.value x)) (sym e);
    weight = omega (arith, K.zero_weighs s z);
  }

  pub fold_sum : (m n : ℕ) (s t u : C) → Fold m s → Fold n t → K.value u ≡ K.group.plus (K.value s) (K.value t) → Fold (m + n) u
  fold_sum m n s t u p q e = record {
    value = e ∙ ap₂ K.group.plus p.value q.value ∙ sym (times_add K.group m n (K.value x));
    weight = omega (arith, K.sum_weighs s t u e, p.weight, q.weight, add-mul m n (K.weighs x));
  }

  -- half of n, twice
  module _ (n : ℕ) (half even : C) (p : Fold (n / 2) half) (e : K.value even ≡ K.group.plus (K.value half) (K.value half)) where
    twice : Fold (n / 2 + n / 2) even
    twice = fold_sum (n / 2) (n / 2) half half even p p e

    pub fold_even : n % 2 ≡ 0 → Fold n even
    fold_even o = let q : n / 2 + n / 2 ≡ n = omega arith in subst (λ k. Fold k even) q twice

    fold_odd : (n % 2 ≡ 0 → ⊥) → (s : C) → K.value s ≡ K.group.plus (K.value even) (K.value x) → Fold n s
    fold_odd o s d =
        let q : n / 2 + n / 2 + 1 ≡ n = omega arith in
        subst (λ k. Fold k s) q (fold_sum (n / 2 + n / 2) 1 even x s twice (record {
          value = sym (K.group.unit (K.value x));
          weight = omega arith;
        }) d)

    odd_over : (n % 2 ≡ 0 → ⊥) → heaviest < K.weighs even + K.weighs x → heaviest < n * K.weighs x
    odd_over o l =
        let q : n / 2 + n / 2 + 1 ≡ n = omega arith in
        let r : (n / 2 + n / 2 + 1) * K.weighs x ≤ n * K.weighs x = mul-le-mul_right (K.weighs x) (omega arith) in
        omega (arith, l, r, twice.weight, add-mul (n / 2 + n / 2) 1 (K.weighs x))

    pub odd_made : (n % 2 ≡ 0 → ⊥) → (r : Option C) → Sums K even x r → Answers n r
    odd_made o None l = odd_over o l
    odd_made o (Some s) h = let f = fold_odd o s h.1 in (f.value, f.weight)

  -- two halves too heavy
  pub even_over : (n : ℕ) (half : C) → Fold (n / 2) half → (r : Option C) → r ≡ None → heaviest < K.weighs half + K.weighs half → Answers n r
  even_over n half p r e l =
      let w : (n / 2 + n / 2) * K.weighs x ≤ n * K.weighs x = mul-le-mul_right (K.weighs x) (omega arith) in
      subst (Answers n) (sym e) (omega (arith, l, w, p.weight, add-mul (n / 2) (n / 2) (K.weighs x)))
