-- What the code of whole numbers computes: an n-fold sum is a product that fits.
use Rattle.std.proofs.Common.{◌≡◌, ℕ, zero, suc, ◌*◌, ◌≤◌, ℤ, pos, negsuc, ◌+ℤ◌, ◌*ℤ◌, nat_abs, sym, refl, ap, ◌∙◌, subst, ap₂, mul-le-mul, arith, w64, SFits, to_z, of_z}
use lib.IntN.{zero-*ℤ, suc_ℤ-*ℤ}
use Rattle.std.proofs.lemmas.Int.{to_z-of_z, to_z_pos}
use Rattle.costs.specs.Group.{times}
use Rattle.costs.specs.Kind.{heaviest, light}
use Rattle.costs.specs.Whole.{whole_group}
use Rattle.costs.specs.WholeLaws.{abs_opposite}

times_is : (n : ℕ) (a : ℤ) → pos n *ℤ a ≡ times whole_group n a
times_is zero a = zero-*ℤ a
times_is (suc n) a = suc_ℤ-*ℤ (pos n) a ∙ ap (λ t. t +ℤ a) (times_is n a)

product_abs : (n : ℕ) (a : ℤ) → nat_abs (pos n *ℤ a) ≡ n * nat_abs a
product_abs n (pos k) = refl
product_abs n (negsuc k) = abs_opposite (pos (n * suc k)) _ refl

fits : (a : ℤ) → nat_abs a ≤ heaviest → SFits w64 a
fits (pos n) h = record { sfits = omega arith }
fits (negsuc n) h = record { sfits = omega arith }

module _ (n : ℕ) (a : ℤ) (few : n ≤ light) (small : nat_abs a ≤ light) where
  product_small : nat_abs (pos n *ℤ a) ≤ heaviest
  product_small = let h : n * nat_abs a ≤ light * light = mul-le-mul few small in omega (arith, product_abs n a)

  abbrev made : ℤ
  made = to_z w64 n *ℤ to_z w64 (of_z w64 a)

  made_product : made ≡ pos n *ℤ a
  made_product = ap₂ ◌*ℤ◌ (to_z_pos w64 n (omega arith)) (to_z-of_z w64 a (fits a (omega arith)))

  pub made_fits : SFits w64 made
  made_fits = subst (SFits w64) (sym made_product) (fits (pos n *ℤ a) product_small)

  pub made_is : to_z w64 (of_z w64 made) ≡ times whole_group n a
  made_is = to_z-of_z w64 made made_fits ∙ made_product ∙ times_is n a

  pub made_small : nat_abs (to_z w64 (of_z w64 made)) ≤ heaviest
  made_small = subst (λ t. nat_abs t ≤ heaviest) (sym (to_z-of_z w64 made made_fits ∙ made_product)) product_small
