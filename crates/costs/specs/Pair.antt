-- Pairs of two kinds of cost as a kind of cost: added part by part, compared by the first part and then by the second.
use Rattle.std.specs.Prelude.{◌≡◌, max}
use Rattle.costs.specs.Group.{Group}
use Rattle.costs.specs.Kind.{Kind}
use Rattle.costs.specs.PairLaws.{parts_assoc, parts_comm, parts_unit, parts_inverse, lex_refl, lex_antisym, lex_trans, lex_total, lex_shift}
use Rattle.costs.specs.PairLaws.{pair_distinct, pair_zero_weighs, pair_opposite_weighs, pair_sum_weighs, pair_bounded, pair_reads_back, pair_strange_rows}
use Rattle.costs.specs.declared.pair.Pair.{Pair}

abbrev pub pair_group : Group → Group → Group
pair_group g h = record {
  Carrier = g.Carrier × h.Carrier;
  zero = (g.zero, h.zero);
  plus = λ x y. (g.plus x.0 y.0, h.plus x.1 y.1);
  opp = λ x. (g.opp x.0, h.opp x.1);
  le = λ x y. g.le x.0 y.0 × (x.0 ≡ y.0 → h.le x.1 y.1);
  assoc = parts_assoc g h;
  comm = parts_comm g h;
  unit = parts_unit g h;
  inverse = parts_inverse g h;
  refl_le = lex_refl g h;
  antisym = lex_antisym g h;
  trans = lex_trans g h;
  total = lex_total g h;
  shift = lex_shift g h;
}

-- a pair weighs as much as its heavier part
abbrev pub pair_kind : {C R D S : Type 0} → Kind C R → Kind D S → Kind (Pair C D) (R × S)
pair_kind K L = record {
  group = pair_group K.group L.group;
  value = λ x. (K.value x.first, L.value x.second);
  weighs = λ x. max (K.weighs x.first) (L.weighs x.second);
  row_of = λ x. (K.row_of x.first, L.row_of x.second);
  reads = λ r. record { first = K.reads r.0; second = L.reads r.1 };
  distinct = pair_distinct K L;
  zero_weighs = pair_zero_weighs K L;
  opposite_weighs = pair_opposite_weighs K L;
  sum_weighs = pair_sum_weighs K L;
  bounded = pair_bounded K L;
  reads_back = pair_reads_back K L;
  strange_rows = pair_strange_rows K L;
}
