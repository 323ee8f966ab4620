-- Why whole numbers keep the laws of a kind of cost.
use Rattle.std.specs.Prelude.{◌≡◌, ℕ, zero, suc, ◌+◌, ◌≤◌, ◌⊎◌, ℤ, pos, negsuc, ◌+ℤ◌, neg_ℤ, ◌≤ℤ◌, unsigned_abs, refl}
use Rattle.std.proofs.Common.{ap, ◌∙◌, inl, inr, arith}
use mathlib.Core.HLevel.{is_prop→PathP}
use Rattle.std.proofs.Math.Bridge.{le_prop}
use Rattle.std.specs.Int.{int_max, int_min}
use Rattle.std.proofs.lemmas.Int.{ints, clamps, by_lt_z}
use Rattle.costs.specs.Kind.{heaviest}
use Rattle.costs.specs.declared.whole.Whole.{Whole}

pub either : (x y : ℤ) → (x ≤ℤ y) ⊎ (y ≤ℤ x)
either x y = by_lt_z x y (λ l. inl (omega (arith, ints))) (λ l. inr l)

-- the fact beside an amount has one proof at most
pub same_whole : (x y : Whole) → x.amount ≡ y.amount → x ≡ y
same_whole x y e i = record {
  amount = e i;
  small = is_prop→PathP (λ j. unsigned_abs (e j) ≤ heaviest) (λ j. le_prop) x.small y.small i;
}

abs_neg : (x : ℤ) → unsigned_abs (neg_ℤ x) ≡ unsigned_abs x
abs_neg (pos zero) = refl
abs_neg (pos (suc n)) = refl
abs_neg (negsuc n) = refl

pub abs_opposite : (x y : ℤ) → y ≡ neg_ℤ x → unsigned_abs y ≡ unsigned_abs x
abs_opposite x y e = ap unsigned_abs e ∙ abs_neg x

under_abs : (x : ℤ) → x ≤ℤ pos (unsigned_abs x)
under_abs (pos n) = omega (arith, ints)
under_abs (negsuc n) = omega (arith, ints)

over_abs : (x : ℤ) → neg_ℤ (pos (unsigned_abs x)) ≤ℤ x
over_abs (pos n) = omega (arith, ints)
over_abs (negsuc n) = omega (arith, ints)

abs_within : (z : ℤ) (b : ℕ) → z ≤ℤ pos b → neg_ℤ (pos b) ≤ℤ z → unsigned_abs z ≤ b
abs_within (pos n) b h l = omega (arith, ints)
abs_within (negsuc n) b h l = omega (arith, ints)

pub abs_sum : (x y z : ℤ) → z ≡ x +ℤ y → unsigned_abs z ≤ unsigned_abs x + unsigned_abs y
abs_sum x y z e =
    let a = under_abs x in
    let b = over_abs x in
    let c = under_abs y in
    let d = over_abs y in
    abs_within z (unsigned_abs x + unsigned_abs y) (omega (arith, ints)) (omega (arith, ints))

-- the amount that a row z reads as
abbrev near : ℤ → ℤ
near z = int_max (neg_ℤ (pos heaviest)) (int_min z (pos heaviest))

pub near_small : (z : ℤ) → unsigned_abs (near z) ≤ heaviest
near_small z = abs_within (near z) heaviest (omega (arith, ints, clamps)) (omega (arith, ints, clamps))

pub near_same : (z : ℤ) → unsigned_abs z ≤ heaviest → near z ≡ z
near_same z h =
    let a = under_abs z in
    let b = over_abs z in
    omega (arith, ints, clamps)

pub near_far : (z : ℤ) → (near z ≡ z) ⊎ (unsigned_abs (near z) ≡ heaviest)
near_far z =
    by_lt_z (pos heaviest) z
    (λ l. let e : near z ≡ pos heaviest = omega (arith, ints, clamps) in inr (ap unsigned_abs e))
    (λ u. by_lt_z z (neg_ℤ (pos heaviest))
    (λ l. let e : near z ≡ neg_ℤ (pos heaviest) = omega (arith, ints, clamps) in inr (ap unsigned_abs e))
    (λ v. inl (omega (arith, ints, clamps))))
