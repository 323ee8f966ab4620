-- The law over runs holds.
use Rattle.std.proofs.Common.{◌≡◌, ℕ, zero, suc, ◌+◌, ◌≤◌, true, false, ◌≢◌, ◌⊎◌, List, ◌∷◌, ℤ, pos, ◌+ℤ◌, ◌-ℤ◌, None, sym, refl, ap, ◌∙◌, ap₂, subst₂, inl, inr, ⊎_elim, arith}
use Rattle.std.specs.List.{ContainsAt}
use Rattle.std.proofs.lemmas.Int.{ints}
use Rattle.std.proofs.lemmas.Bool.{both_ways}
use Rattle.costs.specs.Kind.{Kind}
use Rattle.networks.specs.Net.{Net}
use Rattle.plan.specs.Loads.{leaving}
use Rattle.plan.specs.Steps.{Losing}
use Rattle.plan.specs.declared.calls.Answer.{Answer}
use Rattle.plan.specs.declared.calls.Answer.TheVariants.{Opened, Booked, Ran}
use Rattle.plan.specs.declared.calls.Call.{Call}
use Rattle.plan.specs.declared.calls.Call.TheVariants.{Open, Book, Settle}
use Rattle.plan.specs.declared.calls.Ending.{Ending}
use Rattle.plan.specs.declared.calls.Ending.TheVariants as ending
use Rattle.plan.specs.State.{State, rest, Event}
use Rattle.plan.specs.Checks.{open_fault}
use Rattle.plan.specs.Rules.{AtRest, Repeats, Rule, open_refused, open_losing, open_accepted, book_refused, book_accepted, route_refused, route_settled, route_blocked, route_sent, settle_refused, settle_ran}
use Rattle.plan.specs.Standing.{Standing}
use Rattle.plan.specs.Law.{booked_by, bookings, owed, Trace, start, then, Possible, Sound, Blocks, Law}
use Rattle.plan.proofs.Bridge.{seen, keeps_seen, cost_seen, leaving_seen}
use Rattle.plan.proofs.Optimal.{optimal}
use Rattle.plan.proofs.Moves.{owed_is, none_owed}
use Rattle.plan.proofs.Send.{spot}
use Rattle.plan.proofs.Faults.{open_passed, open_shut, open_none, Bookable, bookable}
use Rattle.plan.proofs.Standing.{joined, keeps, valid, level, repeats_stands, repeats_owed, Good, sends_good, repeats_good, stuck_short}
use Rattle.plan.proofs.Kept.{none_yet, zero_leaving, none_rest, fresh, fresh_stands, booked, rests_booked, booked_stands}

has_cons : {X : Type 0} (y : X) (xs : List X) (x : X) → ContainsAt (y ∷ xs) x → (y ≡ x) ⊎ ContainsAt xs x
has_cons y xs x (zero, l, at) = inl (at y)
has_cons y xs x (suc k, l, at) = inr (k, omega arith, at)

module _ {C R : Type 0} (K : Kind C R) (net : Net C) where
  -- a plan that was never opened
  record Shut (h : List Event) (s : State) : Type 0 where
    shut : s.open? ≡ false
    unopened : (work : ℕ) → ContainsAt h (record { call = Open; work = work; answer = Opened }) → ⊥
    nothing : (v : ℕ) → bookings h v ≡ pos 0

  same_good : {h : List Event} {s : State} (e : Event) → ((v : ℕ) → booked_by e.call e.answer v ≡ pos 0) → Good K net h s → Good K net (e ∷ h) s
  same_good {h} e i good = record { stands = good.stands; accounted = λ v l. good.accounted v l ∙ plain _ _ (i v) }
    where
      plain : (z y : ℤ) → y ≡ pos 0 → z ≡ y +ℤ z
      plain z y i = omega (arith, ints)

  same_shut : {h : List Event} {s : State} (e : Event) → ((v : ℕ) → booked_by e.call e.answer v ≡ pos 0) → e.answer ≢ Opened → Shut h s → Shut (e ∷ h) s
  same_shut {h} e i n shut = record {
    shut = shut.shut;
    unopened = λ work has. ⊎_elim (λ j. n (ap (λ z. z.answer) j)) (shut.unopened work) (has_cons _ h _ has);
    nothing = λ v. ap₂ ◌+ℤ◌ (i v) (shut.nothing v);
  }

  same : {h : List Event} {s : State} (e : Event) → ((v : ℕ) → booked_by e.call e.answer v ≡ pos 0) → e.answer ≢ Opened → Shut h s ⊎ Good K net h s → Shut (e ∷ h) s ⊎ Good K net (e ∷ h) s
  same e i n (inl shut) = inl (same_shut e i n shut)
  same e i n (inr good) = inr (same_good e i good)

  begin : {h : List Event} {s : State} (work : ℕ) → open_fault K net s work ≡ None → (Losing K net (none_yet K net) → ⊥) → Shut h s → Good K net (record { call = Open; work = work; answer = Opened } ∷ h) (fresh K net)
  begin {h} {s} work e sound shut = record {
    stands = fresh_stands K net (open_passed K net s work e) sound;
    accounted = λ v l. ap₂ ◌+ℤ◌ (zero_leaving K net v) (none_rest K net v l) ∙ sym (ap (λ z. pos 0 +ℤ z) (shut.nothing v));
  }

  book : {h : List Event} {s : State} (work a b amount : ℕ) → Bookable net s a b amount → Good K net h s → Good K net (record { call = Book a b amount; work = work; answer = Booked } ∷ h) (booked K net s a b amount)
  book {h} {s} work a b amount may good = record {
    stands = booked_stands K net a b amount may good.stands;
    accounted = λ v l. across (leaving net s.loads v) (rest s v) (rest (booked K net s a b amount) v) (spot amount b v) (spot amount a v) (bookings h v) (rests_booked K net a b amount may good.stands v) (good.accounted v l);
  }
    where
      across : (l r r' p q z : ℤ) → r' +ℤ p ≡ r +ℤ q → l +ℤ r ≡ z → l +ℤ r' ≡ (q -ℤ p) +ℤ z
      across l r r' p q z e f = omega (arith, ints)

  distinct : (a : Answer) → (a ≡ Opened → ◌≡◌ {A = ℕ} 0 1) → a ≢ Opened
  distinct a f e = let z = f e in omega arith

  step : {h : List Event} {s s' : State} {work : ℕ} {c : Call} {a : Answer} → Shut h s ⊎ Good K net h s → Rule K net work s c a s' →
      Shut (record { call = c; work = work; answer = a } ∷ h) s' ⊎ Good K net (record { call = c; work = work; answer = a } ∷ h) s'
  step t (open_refused s r e) = same _ (λ v. refl) (distinct _ (λ i. cc)) t
  step t (open_losing s e l) = same _ (λ v. refl) (distinct _ (λ i. cc)) t
  step (inl shut) (open_accepted s e n) = inr (begin _ e n shut)
  step (inr good) (open_accepted s e n) = absurd (both_ways s.open? (open_shut K net s _ e) good.stands.opened)
  step t (book_refused s from to amount r e) = same _ (λ v. refl) (distinct _ (λ i. cc)) t
  step (inl shut) (book_accepted s from to amount e) = absurd (both_ways s.open? shut.shut (bookable net s from to amount e).opened)
  step (inr good) (book_accepted s from to amount e) =
      inr (book _ from to amount (bookable net s from to amount e) good)
  step t (route_refused s r e) = same _ (λ v. refl) (distinct _ (λ i. cc)) t
  step t (route_settled s e r) = same _ (λ v. refl) (distinct _ (λ i. cc)) t
  step t (route_blocked s u e r) = same _ (λ v. refl) (distinct _ (λ i. cc)) t
  step (inl shut) (route_sent s s' u t x e r) = absurd (both_ways s.open? shut.shut (open_none s.open? _ e))
  step (inr good) (route_sent s s' u t x e r) = inr (same_good _ (λ v. refl) (sends_good K net good r))
  step t (settle_refused s budget r e) = same _ (λ v. refl) (distinct _ (λ i. cc)) t
  step (inl shut) (settle_ran s s' budget n z e l r ends) = absurd (both_ways s.open? shut.shut (open_none s.open? _ e))
  step (inr good) (settle_ran s s' budget n z e l r ends) = inr (same_good _ (λ v. refl) (repeats_good K net good r))

  holds : {h : List Event} {s : State} → Trace K net h s → Shut h s ⊎ Good K net h s
  holds start = inl (record { shut = refl; unopened = λ work has. let l = has.1 in omega arith; nothing = λ v. refl })
  holds (then h s s' e before rule) = step (holds before) rule

  pub is_good : {h : List Event} {s : State} → Trace K net h s → s.open? ≡ true → Good K net h s
  is_good {h} {s} t e = ⊎_elim (λ shut. absurd (both_ways s.open? shut.shut e)) (λ good. good) (holds t)

  sound : {h : List Event} {s : State} → Good K net h s → Sound K net h s
  sound {h} {s} good = record {
    keeps = good.stands.keeps;
    least = λ f kept same.
        let keeps' = keeps_seen K net f kept in
        subst₂ K.group.le (sym (cost_seen K net s.loads (keeps K net good.stands))) (sym (cost_seen K net f keeps'))
        (optimal K.group (seen K net) s.loads f good.stands.potential.0 (joined K net good.stands) (valid K net good.stands) keeps'
        (λ v l. sym (leaving_seen K net f v keeps') ∙ same v l ∙ leaving_seen K net s.loads v (keeps K net good.stands)));
    accounted = good.accounted;
  }

  blocks : {h : List Event} {s s' : State} {work : ℕ} {c : Call} {a : Answer} → Trace K net h s → Rule K net work s c a s' → Blocks K net a → Possible K net h → ⊥
  blocks t (open_refused s r e) b possible = b
  blocks t (open_losing s e l) b possible = b
  blocks t (open_accepted s e n) b possible = b
  blocks t (book_refused s from to amount r e) b possible = b
  blocks t (book_accepted s from to amount e) b possible = b
  blocks t (route_refused s r e) b possible = b
  blocks t (route_settled s e r) b possible = b
  blocks t (route_blocked s u e stuck) b possible = stuck_short K net (is_good t (open_none s.open? _ e)) stuck possible
  blocks t (route_sent s s' u v x e r) b possible = b
  blocks t (settle_refused s budget r e) b possible = b
  blocks t (settle_ran s s' budget n ending.Settled e l r ends) b possible = b
  blocks t (settle_ran s s' budget n (ending.Blocked u) e l r ends) b possible =
      stuck_short K net (repeats_good K net (is_good t (open_none s.open? _ e)) r) ends.1 possible
  blocks t (settle_ran s s' budget n ending.Unfinished e l r ends) b possible = b

  -- once as many routes were sent as was owed, every rest is zero
  at_rest : {s s' : State} {n : ℕ} → Standing K net s → Repeats K net n s s' → owed s net.places ≤ n → AtRest K net s'
  at_rest {s} {s'} stands r enough =
      let few = repeats_owed K net stands r in
      none_owed net.places (rest s') (sym (owed_is s' net.places) ∙ omega arith) (level K net (repeats_stands K net stands r))

  settled_if : {h : List Event} {s s' : State} {budget work n : ℕ} {e : Ending} → Trace K net h s → Rule K net work s (Settle budget) (Ran n e) s' →
      owed s net.places ≤ budget → Possible K net h → (e ≡ ending.Settled) × AtRest K net s'
  settled_if t (settle_ran s s' budget n ending.Settled fault l r ends) enough possible = (refl, ends)
  settled_if t (settle_ran s s' budget n (ending.Blocked u) fault l r ends) enough possible =
      absurd (stuck_short K net (repeats_good K net (is_good t (open_none s.open? _ fault)) r) ends.1 possible)
  settled_if t (settle_ran s s' budget n ending.Unfinished fault l r ends) enough possible =
      let stands = (is_good t (open_none s.open? _ fault)).stands in
      let e = ends.0 in
      absurd (ends.1 (at_rest stands r (omega arith)))

  settled_only_if : {h : List Event} {s s' : State} {budget work n : ℕ} → Trace K net h s → Rule K net work s (Settle budget) (Ran n ending.Settled) s' → Possible K net h
  settled_only_if t (settle_ran s s' budget n e fault l r ends) =
      let good = repeats_good K net (is_good t (open_none s.open? _ fault)) r in
      (s'.loads, good.stands.keeps, λ v b. plain _ _ _ (good.accounted v b) (ends v b))
    where
      plain : (l r b : ℤ) → l +ℤ r ≡ b → r ≡ pos 0 → l ≡ b
      plain l r b e i = omega (arith, ints)

  else_blocked : {h : List Event} {s s' : State} {budget work n : ℕ} {e : Ending} → Trace K net h s → Rule K net work s (Settle budget) (Ran n e) s' →
      owed s net.places ≤ budget → (Possible K net h → ⊥) → (u : ℕ) × (e ≡ ending.Blocked u)
  else_blocked t (settle_ran s s' budget n ending.Settled fault l r ends) enough never =
      absurd (never (settled_only_if t (settle_ran s s' budget n ending.Settled fault l r ends)))
  else_blocked t (settle_ran s s' budget n (ending.Blocked u) fault l r ends) enough never = (u, refl)
  else_blocked t (settle_ran s s' budget n ending.Unfinished fault l r ends) enough never =
      let stands = (is_good t (open_none s.open? _ fault)).stands in
      let e = ends.0 in
      absurd (ends.1 (at_rest stands r (omega arith)))

  few : {h : List Event} {s s' : State} {budget work n : ℕ} {e : Ending} → Trace K net h s → Rule K net work s (Settle budget) (Ran n e) s' →
      owed s' net.places + n ≤ owed s net.places
  few t (settle_ran s s' budget n e fault l r ends) = repeats_owed K net (is_good t (open_none s.open? _ fault)).stands r

  pub law : Law K net
  law = record {
    sound = λ h s work t has. ⊎_elim (λ shut. absurd (shut.unopened work has)) sound (holds t);
    blocked_only_if = λ h s s' work c a t rule b possible. blocks t rule b possible;
    settled_if = λ h s s' work budget n e t rule enough possible. settled_if t rule enough possible;
    settled_only_if = λ h s s' work budget n t rule. settled_only_if t rule;
    else_blocked = λ h s s' work budget n e t rule enough never. else_blocked t rule enough never;
    few = λ h s s' work budget n e t rule. few t rule;
  }
