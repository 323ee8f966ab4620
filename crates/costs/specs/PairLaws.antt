-- Why pairs of costs keep the laws of a kind of cost.
use Rattle.std.specs.Prelude.{◌≡◌, ℕ, ◌+◌, ◌≤◌, max, Bool, true, false, ◌⊎◌, refl}
use Rattle.std.proofs.Common.{sym, ap, ap₂, subst, ◌∙◌, inl, inr, ⊎_elim, true≢false, arith}
use Rattle.costs.specs.Group.{Group}
use Rattle.costs.specs.Kind.{Kind, heaviest}
use Rattle.costs.specs.declared.pair.Pair.{Pair}

both : {A B : Type 0} {a c : A} {b d : B} → a ≡ c → b ≡ d → ◌≡◌ {A = A × B} (a, b) (c, d)
both p q = ap₂ (λ a b. (a, b)) p q

module _ (g : Group) where
  abbrev side : {x y : g.Carrier} → g.le x y ⊎ g.le y x → Bool
  side (inl l) = true
  side (inr l) = false

  -- equal elements stand on the same side of each other
  same_side : (x y : g.Carrier) → x ≡ y → side (g.total x y) ≡ side (g.total y x)
  same_side x y e = subst (λ z. side (g.total x z) ≡ side (g.total z x)) e refl

  pub equal_le : (x y : g.Carrier) → x ≡ y → g.le x y
  equal_le x y e = subst (g.le x) e (g.refl_le x)

  undo : (x z : g.Carrier) → g.plus (g.plus x z) (g.opp z) ≡ x
  undo x z = g.assoc x z (g.opp z) ∙ ap (g.plus x) (g.inverse z) ∙ g.comm x g.zero ∙ g.unit x

  cancel : (x y z : g.Carrier) → g.plus x z ≡ g.plus y z → x ≡ y
  cancel x y z e = sym (undo x z) ∙ ap (λ w. g.plus w (g.opp z)) e ∙ undo y z

module _ (g h : Group) where
  abbrev Two : Type 0
  Two = g.Carrier × h.Carrier

  abbrev add : Two → Two → Two
  add x y = (g.plus x.0 y.0, h.plus x.1 y.1)

  abbrev Le : Two → Two → Type 0
  Le x y = g.le x.0 y.0 × (x.0 ≡ y.0 → h.le x.1 y.1)

  pub parts_assoc : (x y z : Two) → add (add x y) z ≡ add x (add y z)
  parts_assoc x y z = both (g.assoc x.0 y.0 z.0) (h.assoc x.1 y.1 z.1)

  pub parts_comm : (x y : Two) → add x y ≡ add y x
  parts_comm x y = both (g.comm x.0 y.0) (h.comm x.1 y.1)

  pub parts_unit : (x : Two) → add (g.zero, h.zero) x ≡ x
  parts_unit x = both (g.unit x.0) (h.unit x.1)

  pub parts_inverse : (x : Two) → add x (g.opp x.0, h.opp x.1) ≡ (g.zero, h.zero)
  parts_inverse x = both (g.inverse x.0) (h.inverse x.1)

  pub lex_refl : (x : Two) → Le x x
  lex_refl x = (g.refl_le x.0, λ _. h.refl_le x.1)

  pub lex_antisym : (x y : Two) → Le x y → Le y x → x ≡ y
  lex_antisym x y p q =
      let e : x.0 ≡ y.0 = g.antisym x.0 y.0 p.0 q.0 in
      both e (h.antisym x.1 y.1 (p.1 e) (q.1 (sym e)))

  pub lex_trans : (x y z : Two) → Le x y → Le y z → Le x z
  lex_trans x y z p q = (
    g.trans x.0 y.0 z.0 p.0 q.0,
    λ e.
        let d : x.0 ≡ y.0 = g.antisym x.0 y.0 p.0 (subst (g.le y.0) (sym e) q.0) in
        h.trans x.1 y.1 z.1 (p.1 d) (q.1 (sym d ∙ e)),
  )

  by_second : (x y : Two) → x.0 ≡ y.0 → Le x y ⊎ Le y x
  by_second x y e =
      ⊎_elim (λ l. inl (equal_le g x.0 y.0 e, λ _. l)) (λ l. inr (equal_le g y.0 x.0 (sym e), λ _. l)) (h.total x.1 y.1)

  -- the two answers on the first parts agree exactly if these are equal
  by_sides : (x y : Two) (s : g.le x.0 y.0 ⊎ g.le y.0 x.0) (t : g.le y.0 x.0 ⊎ g.le x.0 y.0) → (x.0 ≡ y.0 → side g s ≡ side g t) → Le x y ⊎ Le y x
  by_sides x y (inl l) (inl m) k = by_second x y (g.antisym x.0 y.0 l m)
  by_sides x y (inl l) (inr m) k = inl (l, λ e. absurd (true≢false (k e)))
  by_sides x y (inr l) (inl m) k = inr (l, λ e. absurd (true≢false (sym (k (sym e)))))
  by_sides x y (inr l) (inr m) k = by_second x y (g.antisym x.0 y.0 m l)

  pub lex_total : (x y : Two) → Le x y ⊎ Le y x
  lex_total x y = by_sides x y (g.total x.0 y.0) (g.total y.0 x.0) (same_side g x.0 y.0)

  pub lex_shift : (x y z : Two) → Le x y → Le (add x z) (add y z)
  lex_shift x y z p =
      (g.shift x.0 y.0 z.0 p.0, λ e. h.shift x.1 y.1 z.1 (p.1 (cancel g x.0 y.0 z.0 e)))

module _ {C R D S : Type 0} (K : Kind C R) (L : Kind D S) where
  abbrev TwoOf : Type 0
  TwoOf = K.group.Carrier × L.group.Carrier

  abbrev value : Pair C D → TwoOf
  value x = (K.value x.first, L.value x.second)

  abbrev weighs : Pair C D → ℕ
  weighs x = max (K.weighs x.first) (L.weighs x.second)

  firsts : {v w : TwoOf} → v ≡ w → v.0 ≡ w.0
  firsts e = ap (λ v. v.0) e

  seconds : {v w : TwoOf} → v ≡ w → v.1 ≡ w.1
  seconds e = ap (λ v. v.1) e

  pub same_pair : (x y : Pair C D) → x.first ≡ y.first → x.second ≡ y.second → x ≡ y
  same_pair x y p q = ap₂ (λ a b. record { first = a; second = b }) p q

  pub pair_distinct : (x y : Pair C D) → value x ≡ value y → x ≡ y
  pair_distinct x y e = same_pair x y (K.distinct x.first y.first (firsts e)) (L.distinct x.second y.second (seconds e))

  pub pair_zero_weighs : (x : Pair C D) → value x ≡ (K.group.zero, L.group.zero) → weighs x ≡ 0
  pair_zero_weighs x e =
      let p = K.zero_weighs x.first (firsts e) in
      let q = L.zero_weighs x.second (seconds e) in
      omega arith

  pub pair_opposite_weighs : (x y : Pair C D) → value y ≡ (K.group.opp (K.value x.first), L.group.opp (L.value x.second)) → weighs y ≡ weighs x
  pair_opposite_weighs x y e =
      ap₂ max (K.opposite_weighs x.first y.first (firsts e)) (L.opposite_weighs x.second y.second (seconds e))

  pub pair_sum_weighs : (x y z : Pair C D) → value z ≡ (K.group.plus (K.value x.first) (K.value y.first), L.group.plus (L.value x.second) (L.value y.second)) → weighs z ≤ weighs x + weighs y
  pair_sum_weighs x y z e =
      let p = K.sum_weighs x.first y.first z.first (firsts e) in
      let q = L.sum_weighs x.second y.second z.second (seconds e) in
      omega arith

  pub pair_bounded : (x : Pair C D) → weighs x ≤ heaviest
  pair_bounded x =
      let p = K.bounded x.first in
      let q = L.bounded x.second in
      omega arith

  abbrev reads : R × S → Pair C D
  reads r = record { first = K.reads r.0; second = L.reads r.1 }

  pub pair_reads_back : (x : Pair C D) → reads (K.row_of x.first, L.row_of x.second) ≡ x
  pair_reads_back x = same_pair _ x (K.reads_back x.first) (L.reads_back x.second)

  -- if a part of a row is strange, that part has the greatest weight, and so has the pair
  pub pair_strange_rows : (r : R × S) → ((K.row_of (K.reads r.0), L.row_of (L.reads r.1)) ≡ r) ⊎ (weighs (reads r) ≡ heaviest)
  pair_strange_rows r =
      let p = pair_bounded (reads r) in
      ⊎_elim (λ a. ⊎_elim (λ b. inl (both a b)) (λ b. inr (omega arith)) (L.strange_rows r.1))
      (λ a. inr (omega arith)) (K.strange_rows r.0)
