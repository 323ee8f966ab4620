-- Bookings there and back, sums that weigh too much, and the order of pairs.
use Rattle.std.proofs.Common.{◌≡◌, ℕ, ◌<◌, ◌≤◌, Bool, true, false, eqb, List, [], ◌∷◌, length, ℤ, pos, ◌+ℤ◌, ◌-ℤ◌, neg_ℤ, nat_abs, ◌≤ℤ◌, Some, None, Option, refl, ap, subst, ap₂, arith, le-ltb, lt-ltb}
use lib.Signed.{lt_z, le_z_yes}
use Rattle.std.proofs.lemmas.Int.{ints}
use Rattle.std.proofs.lemmas.Bool.{ne_eqb, or_from}
use Rattle.costs.specs.Group.{Below}
use Rattle.costs.specs.Kind.{Kind, Sums}
use Rattle.costs.specs.Whole.{whole_kind}
use Rattle.costs.specs.declared.whole.Whole.{Whole}
use Rattle.networks.specs.Net.{Net}
use Rattle.plan.specs.declared.calls.Answer.TheVariants.{Booked}
use Rattle.plan.specs.declared.calls.Call.TheVariants.{Book}
use Rattle.plan.specs.Checks.{beyond, book_fault}
use Rattle.plan.specs.Edges.{BothWaysCancel, pairs}
use Rattle.plan.specs.Rules.{Rule, book_accepted, AtRest}
use Rattle.plan.specs.State.{State, rest}

pub pair_order : Below pairs.group (pos 0, pos 9) (pos 1, pos 0)
pair_order = ((le_z_yes tt, λ e. absurd (omega (arith, ints))), λ e. let z : pos 0 ≡ pos 1 = ap (λ p. p.0) e in omega (arith, ints))

pub sum_too_heavy :
    (x y : Whole) → x.amount ≡ pos 3000000000000000000 → y.amount ≡ neg_ℤ (pos 3000000000000000000) →
    Sums whole_kind x y None × ((r : Option Whole) → Sums whole_kind x y r → r ≡ None)
sum_too_heavy x y e i = (omega (arith, a, b), by)
  where
    a : nat_abs x.amount ≡ 3000000000000000000
    a = ap nat_abs e

    b : nat_abs y.amount ≡ 3000000000000000000
    b = ap nat_abs i

    by : (r : Option Whole) → Sums whole_kind x y r → r ≡ None
    by None h = refl
    by (Some s) h = let c = h.0 in absurd (omega (arith, a, b))

not_less : (x y : ℤ) → y ≤ℤ x → lt_z x y ≡ false
not_less x y l = by (lt_z x y) refl
  where
    by : (b : Bool) → lt_z x y ≡ b → b ≡ false
    by true e = absurd (omega (arith, ints))
    by false e = refl

within : (z : ℤ) → neg_ℤ (pos 1000000000) ≤ℤ z → z ≤ℤ pos 1000000000 → beyond z ≡ false
within z l h = or_from _ _ (not_less z (neg_ℤ (pos 1000000000)) l) (not_less (pos 1000000000) z h)

module _ {C R : Type 0} (K : Kind C R) (net : Net C) where
  no_fault : (s : State) (from to amount : ℕ) → s.open? ≡ true → from < net.places → to < net.places → eqb from to ≡ false → 1 ≤ amount → amount ≤ 1000000 →
      beyond (rest s from +ℤ pos amount) ≡ false → beyond (rest s to -ℤ pos amount) ≡ false → book_fault net s from to amount ≡ None
  no_fault s from to amount opened lf lt apart la ha bf bt =
      let a = lt-ltb from net.places lf in
      let b = lt-ltb to net.places lt in
      let c = ne_eqb amount 0 (λ e. omega arith) in
      let d = le-ltb 1000000 amount ha in
      let e = or_from _ _ bf bt in
      simp (opened, a, b, apart, c, d, e)

  cancels : (o : Bool) (f : List ℕ) (rs : List ℤ) (n work amount : ℕ) → 2 ≤ net.places → o ≡ true → length rs ≡ net.places →
      AtRest K net (record { open? = o; loads = f; rests = rs; count = n }) → 1 ≤ amount → amount ≤ 1000000 →
      (s' : State) × Rule K net work (record { open? = o; loads = f; rests = rs; count = n }) (Book 0 1 amount) Booked s'
      × Rule K net work s' (Book 1 0 amount) Booked (record { open? = o; loads = f; rests = rs; count = n })
  cancels o f [] n work amount two opened long still la ha = absurd (omega arith)
  cancels o f (x ∷ []) n work amount two opened long still la ha = absurd (omega arith)
  cancels o f (x ∷ y ∷ rs) n work amount two opened long still la ha =
      let p : x ≡ pos 0 = still 0 (omega arith) in
      let q : y ≡ pos 0 = still 1 (omega arith) in
      let s : State = record { open? = o; loads = f; rests = x ∷ y ∷ rs; count = n } in
      let s' : State = record { open? = o; loads = f; rests = (x +ℤ pos amount) ∷ (y -ℤ pos amount) ∷ rs; count = n } in
      let x-back : (x +ℤ pos amount) -ℤ pos amount ≡ x = omega (arith, ints) in
      let y-back : (y -ℤ pos amount) +ℤ pos amount ≡ y = omega (arith, ints) in (
        s',
        book_accepted s 0 1 amount (no_fault s 0 1 amount opened (omega arith) (omega arith) refl la ha
            (within (x +ℤ pos amount) (omega (arith, ints)) (omega (arith, ints))) (within (y -ℤ pos amount) (omega (arith, ints)) (omega (arith, ints)))),
        subst (λ r. Rule K net work s' (Book 1 0 amount) Booked (record { open? = o; loads = f; rests = r; count = n })) (ap₂ (λ a b. a ∷ b ∷ rs) x-back y-back)
            (book_accepted s' 1 0 amount (no_fault s' 1 0 amount opened (omega arith) (omega arith) refl la ha
            (within ((y -ℤ pos amount) +ℤ pos amount) (omega (arith, ints)) (omega (arith, ints))) (within ((x +ℤ pos amount) -ℤ pos amount) (omega (arith, ints)) (omega (arith, ints))))),
      )

  pub both_ways : BothWaysCancel K net
  both_ways two work amount s opened long still la ha = cancels s.open? s.loads s.rests s.count work amount two opened long still la ha
