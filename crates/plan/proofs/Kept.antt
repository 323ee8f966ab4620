-- An accepted open makes a plan stand, and every call keeps it so.
use Rattle.std.proofs.Common.{◌≡◌, ℕ, ◌<◌, Bool, true, false, cond, List, map, length, get_or, replicate, pos, ◌+ℤ◌, ◌-ℤ◌, neg_ℤ, ◌≤ℤ◌, sym, refl, ap, ◌∙◌, subst, ap₂, ⊎_elim, arith}
use lib.ListN.{length-replicate, get_or-replicate, length-map}
use Rattle.std.proofs.lemmas.Int.{ints}
use Rattle.std.proofs.lemmas.Bool.{both_ways, cases_eq}
use Rattle.costs.specs.Kind.{Kind}
use Rattle.networks.specs.Net.{Net}
use Rattle.plan.specs.Loads.{leaving}
use Rattle.plan.specs.Steps.{Losing}
use Rattle.plan.specs.declared.calls.Answer.{Answer}
use Rattle.plan.specs.declared.calls.Call.{Call}
use Rattle.plan.specs.State.{State, rest}
use Rattle.plan.specs.Rules.{move, Rule, open_refused, open_losing, open_accepted, book_refused, book_accepted, route_refused, route_settled, route_blocked, route_sent, settle_refused, settle_ran}
use Rattle.plan.specs.Standing.{Passed, Standing}
use Rattle.plan.proofs.Flow as flow
use Rattle.costs.specs.Whole.{whole_group}
use Rattle.plan.proofs.Sums.{total_none}
use Rattle.plan.proofs.Costs.{adds, nats}
use Rattle.plan.proofs.Bridge.{way_of, seen, joined_seen, seen_potential, seen_keeps, leaving_seen, cheap_losing}
use Rattle.plan.proofs.Cheapest.{has_potential}
use Rattle.plan.proofs.Moves.{here, away, move_at, move_long, move_all, rests_is}
use Rattle.plan.proofs.Send.{spot}
use Rattle.plan.proofs.Faults.{open_shut, Bookable, bookable}
use Rattle.plan.proofs.Standing.{inside, level, sends_stands, repeats_stands}

cond_same : (b : Bool) (n : ℕ) → n ≡ 0 → cond b n 0 ≡ 0
cond_same true n e = e
cond_same false n e = refl

module _ {C R : Type 0} (K : Kind C R) (net : Net C) where
  abbrev pub none_yet : List ℕ
  none_yet = replicate (length net.ways) 0

  zero_at : (k : ℕ) → k < length (map (way_of K) net.ways) → get_or none_yet k 0 ≡ 0
  zero_at k l = get_or-replicate (length net.ways) k 0 0 (subst (λ n. k < n) (length-map net.ways (way_of K)) l)

  zero_keeps : flow.Keeps (seen K net) none_yet
  zero_keeps = record {
    whole = length-replicate (length net.ways) 0 ∙ sym (length-map net.ways (way_of K));
    within = λ k l. let e = zero_at k l in omega arith;
  }

  pub zero_leaving : (v : ℕ) → leaving net none_yet v ≡ pos 0
  zero_leaving v =
      leaving_seen K net none_yet v zero_keeps
      ∙ ap₂ (λ a b. pos a -ℤ pos b) (total_none nats _ _ (λ k l. cond_same _ _ (zero_at k l))) (total_none nats _ _ (λ k l. cond_same _ _ (zero_at k l)))

  pub none_rest : (v : ℕ) → v < net.places → get_or (replicate net.places (pos 0)) v (pos 0) ≡ pos 0
  none_rest v l = get_or-replicate net.places v (pos 0) (pos 0) l

  -- the plan that an accepted open leaves
  abbrev pub fresh : State
  fresh = record { open? = true; loads = none_yet; rests = replicate net.places (pos 0); count = 0 }

  pub fresh_stands : Passed K net → (Losing K net none_yet → ⊥) → Standing K net fresh
  fresh_stands passed sound =
      let p = has_potential K.group (seen K net) none_yet (joined_seen K net (inside K net passed)) (λ c. sound (cheap_losing K net none_yet c)) in
      record {
        opened = refl;
        passed = passed;
        keeps = seen_keeps K net none_yet zero_keeps;
        whole = length-replicate net.places (pos 0);
        potential = (p.0, seen_potential K net none_yet p.0 p.1);
        level = rests_is fresh net.places ∙ total_none (adds whole_group) net.places _ none_rest;
        lowest = λ v l. let e = none_rest v l in omega (arith, ints);
        highest = λ v l. let e = none_rest v l in omega (arith, ints);
      }

  -- the plan that an accepted booking leaves
  abbrev pub booked : State → ℕ → ℕ → ℕ → State
  booked s a b amount = record { open? = s.open?; loads = s.loads; rests = move s.rests a b amount; count = s.count }

  module _ {s : State} (a b amount : ℕ) (may : Bookable net s a b amount) (stands : Standing K net s) where
    pub rests_booked : (v : ℕ) → rest (booked s a b amount) v +ℤ spot amount b v ≡ rest s v +ℤ spot amount a v
    rests_booked v = move_at s.rests a b amount v (rw stands.whole may.first) (rw stands.whole may.second) may.apart

    bounds : (v : ℕ) → v < net.places → (neg_ℤ (pos 1000000000) ≤ℤ rest (booked s a b amount) v) × (rest (booked s a b amount) v ≤ℤ pos 1000000000)
    bounds v l =
        let e = rests_booked v in
        let lo = stands.lowest v l in
        let hi = stands.highest v l in
        let top = may.highest in
        let bottom = may.lowest in
        ⊎_elim
        (λ i. let r : rest s a ≡ rest s v = ap (rest s) i in
        let p : spot amount a v ≡ pos amount = subst (λ w. spot amount a w ≡ pos amount) i (here amount a) in
        let q : spot amount b v ≡ pos 0 = away amount b v (λ j. may.apart (i ∙ sym j)) in
        (omega (arith, ints), omega (arith, ints)))
        (λ na. let p : spot amount a v ≡ pos 0 = away amount a v na in
        ⊎_elim
        (λ i. let r : rest s b ≡ rest s v = ap (rest s) i in
        let q : spot amount b v ≡ pos amount = subst (λ w. spot amount b w ≡ pos amount) i (here amount b) in
        (omega (arith, ints), omega (arith, ints)))
        (λ nb. let q : spot amount b v ≡ pos 0 = away amount b v nb in (omega (arith, ints), omega (arith, ints)))
        (cases_eq b v))
        (cases_eq a v)

    pub booked_stands : Standing K net (booked s a b amount)
    booked_stands = record {
      opened = stands.opened;
      passed = stands.passed;
      keeps = stands.keeps;
      whole = move_long s.rests a b amount ∙ stands.whole;
      potential = stands.potential;
      level = rests_is (booked s a b amount) net.places ∙ move_all net.places a b amount (rest s) (rest (booked s a b amount)) may.first may.second (λ v l. rests_booked v) ∙ level K net stands;
      lowest = λ v l. (bounds v l).0;
      highest = λ v l. (bounds v l).1;
    }

  -- what holds of an open plan lasts over every call
  pub rule_stands : {s s' : State} {work : ℕ} {c : Call} {a : Answer} → Standing K net s → Rule K net work s c a s' → Standing K net s'
  rule_stands stands (open_refused s r e) = stands
  rule_stands stands (open_losing s e l) = stands
  rule_stands stands (open_accepted s e n) = absurd (both_ways s.open? (open_shut K net s _ e) stands.opened)
  rule_stands stands (book_refused s from to amount r e) = stands
  rule_stands stands (book_accepted s from to amount e) = booked_stands from to amount (bookable net s from to amount e) stands
  rule_stands stands (route_refused s r e) = stands
  rule_stands stands (route_settled s e r) = stands
  rule_stands stands (route_blocked s u e r) = stands
  rule_stands stands (route_sent s s' u t x e r) = sends_stands K net stands r
  rule_stands stands (settle_refused s budget r e) = stands
  rule_stands stands (settle_ran s s' budget n z e l r ends) = repeats_stands K net stands r
