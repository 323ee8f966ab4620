-- What the checks say once they find no fault.
use Rattle.std.proofs.Common.{◌≡◌, ℕ, zero, suc, ◌<◌, Bool, true, false, cond, ◌||◌, eqb, ltb, ◌≢◌, List, [], ◌∷◌, length, ℤ, pos, ◌+ℤ◌, ◌-ℤ◌, neg_ℤ, ◌≤ℤ◌, Some, None, Option, sym, refl, arith}
use lib.Signed.{lt_z}
use Rattle.std.proofs.lemmas.Int.{ints, by_lt_z}
use Rattle.std.proofs.lemmas.Bool.{ltb-true, ltb-false, eqb-false, or_parts}
use Rattle.std.specs.List.{slice_get}
use Rattle.costs.specs.Kind.{Kind}
use Rattle.networks.specs.Net.{Net, Way}
use Rattle.networks.specs.declared.refusal.Refusal.{Refusal}
use Rattle.networks.specs.declared.refusal.Refusal.TheVariants.{NotOpen, AlreadyOpen, BadPlaces, ManyWays, ShortTable, NoEnd, SameEnds, LargeLimit}
use Rattle.plan.specs.State.{State, rest}
use Rattle.plan.specs.Checks.{or_else, when, outside, fault_of_way, fault_of_ways, open_fault, book_fault, closed_fault, beyond}
use Rattle.plan.specs.Standing.{Fair, Passed}

pub some_none : {A : Type 0} (x : A) → Some x ≡ None → ⊥
some_none x e = let z : ◌≡◌ {A = ℕ} 0 1 = cc in omega arith

both_none : (a b : Option Refusal) → or_else a b ≡ None → (a ≡ None) × (b ≡ None)
both_none None b e = (refl, e)
both_none (Some q) b e = absurd (some_none q e)

when_none : (b : Bool) (r : Refusal) → when b r ≡ None → b ≡ false
when_none true r e = absurd (some_none r e)
when_none false r e = refl

inside : (n v : ℕ) → outside n v ≡ false → v < n
inside n v e = ltb-true v n (by (ltb v n) e)
  where
    by : (b : Bool) → cond b false true ≡ false → b ≡ true
    by true h = refl
    by false h = sym h

pub open_none : (b : Bool) (r : Option Refusal) → or_else (cond b None (Some NotOpen)) r ≡ None → b ≡ true
open_none true r e = refl
open_none false r e = absurd (some_none NotOpen e)

module _ {C R : Type 0} (K : Kind C R) (net : Net C) where
  way_fair : (k : ℕ) (w : Way C) → fault_of_way K net.places k w ≡ None → Fair K net w
  way_fair k w e =
      let a = both_none (when (outside net.places w.tail || outside net.places w.head) (NoEnd k)) _ e in
      let o = or_parts _ _ (when_none _ _ a.0) in
      let b = both_none (when (eqb w.tail w.head) (SameEnds k)) _ a.1 in
      let c = both_none (when (ltb 1000000 w.limit) (LargeLimit k)) _ b.1 in
      record {
        tail = inside net.places w.tail o.0;
        head = inside net.places w.head o.1;
        apart = eqb-false w.tail w.head (when_none _ _ b.0);
        limit = ltb-false 1000000 w.limit (when_none _ _ c.0);
        weight = ltb-false 1000000 (K.weighs w.cost) (when_none _ _ c.1);
      }

  ways_fair : (j : ℕ) (ws : List (Way C)) → fault_of_ways K net.places j ws ≡ None → (k : ℕ) (w : Way C) → slice_get ws k ≡ Some w → Fair K net w
  ways_fair j [] e k w i = absurd (some_none w (sym i))
  ways_fair j (x ∷ ws) e zero w i = let same : x ≡ w = cc in rw same at (way_fair j x (both_none _ _ e).0)
  ways_fair j (x ∷ ws) e (suc k) w i = ways_fair (suc j) ws (both_none (fault_of_way K net.places j x) _ e).1 k w i

  pub open_passed : (s : State) (work : ℕ) → open_fault K net s work ≡ None → Passed K net
  open_passed s work e =
      let a = both_none (when s.open? AlreadyOpen) _ e in
      let b = both_none (when (eqb net.places 0 || ltb 1024 net.places) BadPlaces) _ a.1 in
      let o = or_parts _ _ (when_none _ _ b.0) in
      let c = both_none (when (ltb 3000 (length net.ways)) ManyWays) _ b.1 in
      let d = both_none (fault_of_ways K net.places 0 net.ways) (when (ltb work net.places) ShortTable) c.1 in
      let some : (net.places ≡ 0 → ⊥) = eqb-false net.places 0 o.0 in
      record {
        some = omega arith;
        places = ltb-false 1024 net.places o.1;
        ways = ltb-false 3000 (length net.ways) (when_none _ _ c.0);
        fair = ways_fair 0 net.ways d.0;
      }

  pub open_shut : (s : State) (work : ℕ) → open_fault K net s work ≡ None → s.open? ≡ false
  open_shut s work e = when_none _ _ (both_none _ _ e).0

not_below : (x y : ℤ) → lt_z x y ≡ false → y ≤ℤ x
not_below x y e = by_lt_z x y (λ l. absurd (omega (arith, ints))) (λ l. l)

not_beyond : (z : ℤ) → beyond z ≡ false → (neg_ℤ (pos 1000000000) ≤ℤ z) × (z ≤ℤ pos 1000000000)
not_beyond z e = let o = or_parts _ _ e in (not_below _ _ o.0, not_below _ _ o.1)

pub record Bookable {C : Type 0} (net : Net C) (s : State) (a b amount : ℕ) : Type 0 where
  pub opened : s.open? ≡ true
  pub first : a < net.places
  pub second : b < net.places
  pub apart : a ≢ b
  pub highest : (rest s a +ℤ pos amount) ≤ℤ pos 1000000000
  pub lowest : neg_ℤ (pos 1000000000) ≤ℤ (rest s b -ℤ pos amount)

pub bookable : {C : Type 0} (net : Net C) (s : State) (a b amount : ℕ) → book_fault net s a b amount ≡ None → Bookable net s a b amount
bookable net s a b amount e =
    let p = both_none _ _ (both_none (closed_fault s) _ e).1 in
    let o = or_parts _ _ (when_none _ _ p.0) in
    let q = both_none _ _ p.1 in
    let r = both_none _ _ q.1 in
    let t = or_parts _ _ (when_none _ _ r.1) in
    record {
      opened = open_none s.open? _ e;
      first = inside net.places a o.0;
      second = inside net.places b o.1;
      apart = eqb-false a b (when_none _ _ q.0);
      highest = (not_beyond _ t.0).1;
      lowest = (not_beyond _ t.1).0;
    }
