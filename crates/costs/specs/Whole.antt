-- Whole numbers as a kind of cost: each weighs its absolute value.
use Rattle.std.proofs.Common.{ap, arith}
use Rattle.std.specs.Prelude.{ℤ, pos, ◌+ℤ◌, neg_ℤ, ◌≤ℤ◌, unsigned_abs}
use Rattle.std.specs.Int.{int_max, int_min}
use Rattle.std.proofs.lemmas.Int.{ints}
use Rattle.costs.specs.Group.{Group}
use Rattle.costs.specs.Kind.{Kind, heaviest}
use Rattle.costs.specs.WholeLaws.{either, same_whole, abs_opposite, abs_sum, near_small, near_same, near_far}
use Rattle.costs.specs.declared.whole.Whole.{Whole}

abbrev pub whole_group : Group
whole_group = record {
  Carrier = ℤ;
  zero = pos 0;
  plus = ◌+ℤ◌;
  opp = neg_ℤ;
  le = ◌≤ℤ◌;
  assoc = λ x y z. omega (arith, ints);
  comm = λ x y. omega (arith, ints);
  unit = λ x. omega (arith, ints);
  inverse = λ x. omega (arith, ints);
  refl_le = λ x. omega (arith, ints);
  antisym = λ x y p q. omega (arith, ints);
  trans = λ x y z p q. omega (arith, ints);
  total = either;
  shift = λ x y z p. omega (arith, ints);
}

-- the number itself, or the nearer bound if it lies outside
abbrev pub nearest : ℤ → ℤ
nearest z = int_max (neg_ℤ (pos heaviest)) (int_min z (pos heaviest))

abbrev pub whole_kind : Kind Whole ℤ
whole_kind = record {
  group = whole_group;
  value = λ x. x.amount;
  weighs = λ x. unsigned_abs x.amount;
  row_of = λ x. x.amount;
  reads = λ r. record { amount = nearest r; small = near_small r };
  distinct = same_whole;
  zero_weighs = λ x e. ap unsigned_abs e;
  opposite_weighs = λ x y e. abs_opposite x.amount y.amount e;
  sum_weighs = λ x y z e. abs_sum x.amount y.amount z.amount e;
  bounded = λ x. x.small;
  reads_back = λ x. same_whole _ x (near_same x.amount x.small);
  strange_rows = near_far;
}
