-- The rules can be kept, and determine the answer up to the route.
use Rattle.std.proofs.Common.{◌≡◌, ℕ, ◌+◌, ◌<◌, ◌≤◌, true, ◌≢◌, List, [], map, ℤ, pos, ◌+ℤ◌, ◌-ℤ◌, ◌≤ℤ◌, ◌<ℤ◌, Some, None, Option, sym, refl, ap, ◌∙◌, subst, ap₂, ⊎_elim, arith}
use Rattle.std.proofs.lemmas.Int.{ints, by_lt_z}
use Rattle.std.proofs.lemmas.Bool.{cases_order}
use Rattle.costs.specs.Kind.{Kind}
use Rattle.networks.specs.Net.{Net}
use Rattle.plan.specs.Steps.{Leads, Reach, Least, Price}
use Rattle.networks.specs.declared.refusal.Refusal.{Refusal}
use Rattle.plan.specs.declared.calls.Answer.{Answer}
use Rattle.plan.specs.declared.calls.Answer.TheVariants.{Blocked, Sent, Ran, Refused}
use Rattle.plan.specs.declared.calls.Call.{Call}
use Rattle.plan.specs.declared.calls.Call.TheVariants.{Settle}
use Rattle.plan.specs.declared.calls.Call.TheVariants as call
use Rattle.plan.specs.declared.calls.Ending.{Ending}
use Rattle.plan.specs.declared.calls.Ending.TheVariants as ending
use Rattle.plan.specs.State.{State, rest, Event}
use Rattle.plan.specs.Rules.{AtRest, Source, Target, Sends, Stuck, Repeats, none, more, Ends, Rule, open_refused, open_losing, open_accepted, book_refused, book_accepted, route_refused, route_settled, route_blocked, route_sent, settle_refused, settle_ran}
use Rattle.plan.specs.Law.{Trace, owed}
use Rattle.plan.specs.Standing.{Standing}
use Rattle.plan.specs.Determined.{Determined, shape}
use Rattle.plan.proofs.Flow.{to, price_of, leaving}
use Rattle.plan.proofs.Bridge.{seen, seen_potential, leads, route, leaving_seen}
use Rattle.plan.proofs.Cut.{short}
use Rattle.plan.proofs.Send.{spot}
use Rattle.plan.proofs.Moves.{away, spot_low}
use Rattle.plan.proofs.Augment.{in_reach, reach_closed, reach_start, reach_route}
use Rattle.plan.proofs.Walks.{gives_inside, stands_sound}
use Rattle.plan.proofs.Found.{price_by}
use Rattle.plan.proofs.Cheapest.{has_potential}
use Rattle.plan.proofs.Faults.{some_none, open_none}
use Rattle.plan.proofs.Standing.{inside, joined, keeps, no_cheap, reached, some, nearer, rests_sent, sends_stands, sends_owed, Good, repeats_good}
use Rattle.plan.proofs.Stands.{is_good}
use Rattle.plan.proofs.Answered.{answers}

clash : {A B : Type 0} (o : Option A) (x : A) → o ≡ Some x → o ≡ None → B
clash o x p q = absurd (some_none x (sym p ∙ q))

same_refusal : (o : Option Refusal) (r q : Refusal) → o ≡ Some r → o ≡ Some q → Refused r ≡ Refused q
same_refusal o r q a b = cc

module _ {C R : Type 0} (K : Kind C R) (net : Net C) where
  one_source : (s : State) (u v : ℕ) → Source K net s u → Source K net s v → u ≡ v
  one_source s u v a b =
      ⊎_elim (λ e. e) (λ o. ⊎_elim
      (λ l. let h = b.lowest u l in let p = a.positive in absurd (omega (arith, ints)))
      (λ l. let h = a.lowest v l in let p = b.positive in absurd (omega (arith, ints))) o)
      (cases_order u v)

  one_target : (s : State) (u t t' : ℕ) (c c' : K.group.Carrier) → Target K net s u t c → Target K net s u t' c' → t ≡ t'
  one_target s u t t' c c' a b =
      let e : c ≡ c' = K.group.antisym _ _ (a.cheapest t' c' b.place b.negative b.cost) (b.cheapest t c a.place a.negative a.cost) in
      ⊎_elim (λ i. i) (λ o. ⊎_elim
      (λ l. absurd (b.lowest t l a.negative (subst (Least K net s.loads u t) e a.cost)))
      (λ l. absurd (a.lowest t' l b.negative (subst (Least K net s.loads u t') (sym e) b.cost))) o)
      (cases_order t t')

  moving : (s : State) (u : ℕ) → Source K net s u → AtRest K net s → ⊥
  moving s u a still = let e = still u a.place in let p = a.positive in omega (arith, ints)

  stuck_moves : (s s' : State) (u v t x : ℕ) → Stuck K net s u → Sends K net s v t x s' → ⊥
  stuck_moves s s' u v t x a b =
      let e = one_source s v u b.source a.source in
      let r = b.target.cost.taken in
      a.none t b.target.place b.target.negative (subst (λ w. Reach K net s.loads w t) e (r.0, _, r.1))

  agrees : {s s₁ s₂ : State} {work : ℕ} {c : Call} {a b : Answer} → Rule K net work s c a s₁ → Rule K net work s c b s₂ → shape a ≡ shape b
  agrees (open_refused s r e) (open_refused _ q i) = same_refusal _ r q e i
  agrees (open_refused s r e) (open_losing _ i l) = clash _ r e i
  agrees (open_refused s r e) (open_accepted _ i l) = clash _ r e i
  agrees (open_losing s e l) (open_refused _ q i) = clash _ q i e
  agrees (open_losing s e l) (open_losing _ i k) = refl
  agrees (open_losing s e l) (open_accepted _ i k) = absurd (k l)
  agrees (open_accepted s e n) (open_refused _ q i) = clash _ q i e
  agrees (open_accepted s e n) (open_losing _ i l) = absurd (n l)
  agrees (open_accepted s e n) (open_accepted _ i l) = refl
  agrees (book_refused s from to amount r e) (book_refused _ _ _ _ q i) = same_refusal _ r q e i
  agrees (book_refused s from to amount r e) (book_accepted _ _ _ _ i) = clash _ r e i
  agrees (book_accepted s from to amount e) (book_refused _ _ _ _ q i) = clash _ q i e
  agrees (book_accepted s from to amount e) (book_accepted _ _ _ _ i) = refl
  agrees (route_refused s r e) (route_refused _ q i) = same_refusal _ r q e i
  agrees (route_refused s r e) (route_settled _ i z) = clash _ r e i
  agrees (route_refused s r e) (route_blocked _ v i z) = clash _ r e i
  agrees (route_refused s r e) (route_sent _ s₂ v w y i z) = clash _ r e i
  agrees (route_settled s e z) (route_refused _ q i) = clash _ q i e
  agrees (route_settled s e z) (route_settled _ i k) = refl
  agrees (route_settled s e z) (route_blocked _ v i k) = absurd (moving s v k.source z)
  agrees (route_settled s e z) (route_sent _ s₂ v w y i k) = absurd (moving s v k.source z)
  agrees (route_blocked s u e z) (route_refused _ q i) = clash _ q i e
  agrees (route_blocked s u e z) (route_settled _ i k) = absurd (moving s u z.source k)
  agrees (route_blocked s u e z) (route_blocked _ v i k) = ap Blocked (one_source s u v z.source k.source)
  agrees (route_blocked s u e z) (route_sent _ s₂ v w y i k) = absurd (stuck_moves s s₂ u v w y z k)
  agrees (route_sent s s₁ u t x e z) (route_refused _ q i) = clash _ q i e
  agrees (route_sent s s₁ u t x e z) (route_settled _ i k) = absurd (moving s u z.source k)
  agrees (route_sent s s₁ u t x e z) (route_blocked _ v i k) = absurd (stuck_moves s s₁ v u t x k z)
  agrees (route_sent s s₁ u t x e z) (route_sent _ s₂ v w y i k) =
      let o = one_source s u v z.source k.source in
      ap₂ (λ a b. Sent a b 0) o (one_target s v t w z.cost k.cost (subst (λ p. Target K net s p t z.cost) o z.target) k.target)
  agrees (settle_refused s budget r e) (settle_refused _ _ q i) = same_refusal _ r q e i
  agrees (settle_refused s budget r e) (settle_ran _ s₂ _ n z i l k m) = clash _ r e i
  agrees (settle_ran s s₁ budget n z e l k m) (settle_refused _ _ q i) = clash _ q i e
  agrees (settle_ran s s₁ budget n z e l k m) (settle_ran _ s₂ _ n₂ z₂ i l₂ k₂ m₂) = refl

  priced : {s : State} → Standing K net s → (v : ℕ) → v < net.places → (c : K.group.Carrier) × Price K net s.loads v c
  priced {s} stands v l =
      let f = s.loads in
      let p = has_potential K.group (seen K net) f (joined K net stands) (no_cheap K net stands) in
      let low = seen_potential K net f p.0 p.1 in
      let At : ℕ → K.group.Carrier → Type 0 = λ u x. (u < net.places) × (p.0 u ≡ x) in (
        p.0 v,
        price_by K net f {At = At} (record {
          entries = record {
            one = λ u x y a b. sym a.1 ∙ b.1;
            closed = λ q u w r c x g a. (p.0 w, ((gives_inside K net f (inside K net stands.passed) g).1, refl), subst (λ z. K.group.le (p.0 w) (K.group.plus z c)) a.1 (low q u w c r g));
          };
          start = λ u b. (p.0 u, (b, refl), p.3 u u [] b (record { leads = refl; opens = tt }));
          walked = λ u y a. let r = p.2 u a.0 in
              (r.0, r.1, map (to (seen K net)) r.1, r.2, subst (Leads K net f 1 r.0 r.1 _ u) (sym r.4 ∙ a.1) (leads K net f 1 r.0 r.1 u (omega arith) r.3.leads r.3.opens));
        }) (stands_sound K net stands) v (p.0 v) (l, refl),
      )

  falls : {h : List Event} {s s' : State} {work u t x : ℕ} → Trace K net h s → Rule K net work s call.Route (Sent u t x) s' → (1 ≤ x) × (owed s' net.places + x ≡ owed s net.places)
  falls t (route_sent s s' u v x e z) =
      let stands = (is_good K net t (open_none s.open? _ e)).stands in
      (some K net stands z, sends_owed K net stands z)

  ends : (budget n : ℕ) (s : State) (e e' : Ending) → Ends K net budget n s e → Ends K net budget n s e' → e ≡ e'
  ends budget n s ending.Settled ending.Settled p q = refl
  ends budget n s ending.Settled (ending.Blocked v) p q = absurd (moving s v q.1.source p)
  ends budget n s ending.Settled ending.Unfinished p q = absurd (q.1 p)
  ends budget n s (ending.Blocked u) ending.Settled p q = absurd (moving s u p.1.source q)
  ends budget n s (ending.Blocked u) (ending.Blocked v) p q = ap ending.Blocked (one_source s u v p.1.source q.1.source)
  ends budget n s (ending.Blocked u) ending.Unfinished p q = let a = p.0 in let b = q.0 in absurd (omega arith)
  ends budget n s ending.Unfinished ending.Settled p q = absurd (p.1 q)
  ends budget n s ending.Unfinished (ending.Blocked v) p q = let a = p.0 in let b = q.0 in absurd (omega arith)
  ends budget n s ending.Unfinished ending.Unfinished p q = refl

  unaltered : {s s' : State} {work : ℕ} {c : Call} {r : Refusal} → Rule K net work s c (Refused r) s' → s' ≡ s
  unaltered (open_refused s r e) = refl
  unaltered (open_losing s e l) = refl
  unaltered (book_refused s from to amount r e) = refl
  unaltered (route_refused s r e) = refl
  unaltered (settle_refused s budget r e) = refl

  -- only the lowest source has less to send
  sends_low : {s s' : State} {u t x : ℕ} → Standing K net s → Sends K net s u t x s' → (v : ℕ) → v < net.places → u ≢ v → rest s v ≤ℤ rest s' v
  sends_low {s} {s'} {u} {t} {x} stands z v l ne =
      let e = rests_sent K net stands z v l in
      let b = spot_low x t v in
      let c : spot x u v ≡ pos 0 = away x u v ne in
      omega (arith, ints)

  -- no rest rises above a bound that is not below zero
  top : {n : ℕ} {s s' : State} → Standing K net s → Repeats K net n s s' → (v : ℕ) (z : ℤ) → v < net.places → pos 0 ≤ℤ z → rest s v ≤ℤ z → rest s' v ≤ℤ z
  top stands (none s) v z l low under = under
  top stands (more n u t x s s' s'' first others) v z l low under =
      top (sends_stands K net stands first) others v z l low (nearer K net stands first v _ z l (omega (arith, ints)) low (stands.lowest v l) under).1

  -- while a place has to send, no place above it sends
  above : {n : ℕ} {s s' : State} (p : ℕ) → Standing K net s → Repeats K net n s s' → p < net.places → pos 0 <ℤ rest s' p → (v : ℕ) → v < net.places → p < v → rest s v ≤ℤ rest s' v
  above p stands (none s) b up v l higher = omega (arith, ints)
  above p stands (more n u t x s s' s'' first others) b up v l higher =
      let after = sends_stands K net stands first in
      let next : rest s' v ≤ℤ rest s'' v = above p after others b up v l higher in
      let now : rest s v ≤ℤ rest s' v = sends_low stands first v l (λ i. not_lowest s s'' p u (λ low. top stands (more n u t x s s' s'' first others) p (pos 0) b (omega (arith, ints)) low) first.source (omega arith) up) in
      omega (arith, ints)
    where
      not_lowest : (s s'' : State) (p u : ℕ) → (rest s p ≤ℤ pos 0 → rest s'' p ≤ℤ pos 0) → Source K net s u → p < u → pos 0 <ℤ rest s'' p → ⊥
      not_lowest s s'' p u still source l up = let a = still (source.lowest p l) in omega (arith, ints)

  lower_block : {h : List Event} {n₁ n₂ : ℕ} {s s₁ s₂ : State} (u₁ u₂ : ℕ) → Good K net h s → Repeats K net n₁ s s₁ → Repeats K net n₂ s s₂ → Stuck K net s₁ u₁ → Stuck K net s₂ u₂ → u₁ < u₂ → ⊥
  lower_block {h} {n₁} {n₂} {s} {s₁} {s₂} u₁ u₂ good r₁ r₂ k₁ k₂ l =
      let g₁ = repeats_good K net good r₁ in
      let g₂ = repeats_good K net good r₂ in
      let near = reached K net g₁.stands u₁ k₁.source.place in
      let fair : (v : ℕ) → v < net.places → in_reach (seen K net) s₁.loads u₁ (near v) ≡ true → pos 0 ≤ℤ rest s₁ v =
      λ v b e. by_lt_z (rest s₁ v) (pos 0)
      (λ below. let r = reach_route (seen K net) s₁.loads u₁ (near v) e in
      absurd (k₁.none v b below (r.0, price_of (seen K net) r.0, route K net s₁.loads 1 u₁ r.0 v (omega arith) r.1)))
      (λ up. up) in
      let up = k₁.source.positive in
      let own : rest s₂ u₁ ≤ℤ pos 0 = k₂.source.lowest u₁ l in
      short K.group (seen K net) s₁.loads s₂.loads (λ v. in_reach (seen K net) s₁.loads u₁ (near v))
      (leaving (seen K net) s₂.loads) (λ v. rest s₁ v -ℤ rest s₂ v) u₁
      (joined K net g₁.stands) (reach_closed (seen K net) s₁.loads u₁ near)
      (λ v b. balance (leaving (seen K net) s₁.loads v) (leaving (seen K net) s₂.loads v) (rest s₁ v) (rest s₂ v) (ap (λ z. z +ℤ rest s₁ v) (sym (leaving_seen K net s₁.loads v (keeps K net g₁.stands))) ∙ g₁.accounted v b ∙ sym (g₂.accounted v b) ∙ ap (λ z. z +ℤ rest s₂ v) (leaving_seen K net s₂.loads v (keeps K net g₂.stands))))
      (λ v b e. let f = fair v b e in
      ⊎_elim
      (λ i. let a : rest s₂ v ≤ℤ pos 0 = subst (λ p. rest s₂ p ≤ℤ pos 0) i own in omega (arith, ints))
      (λ o. ⊎_elim
      (λ i. let a : rest s v ≤ℤ rest s₁ v = above u₁ good.stands r₁ k₁.source.place up v b i in
      let c : rest s₂ v ≤ℤ rest s₁ v = top good.stands r₂ v (rest s₁ v) b f a in
      omega (arith, ints))
      (λ i. let a : rest s₂ v ≤ℤ pos 0 = k₂.source.lowest v (omega arith) in omega (arith, ints)) o)
      (cases_order u₁ v))
      k₁.source.place (reach_start (seen K net) s₁.loads u₁ near) (omega (arith, ints)) (keeps K net g₂.stands) (λ v b. refl)
    where
      balance : (a b p q : ℤ) → a +ℤ p ≡ b +ℤ q → b ≡ a +ℤ (p -ℤ q)
      balance a b p q e = omega (arith, ints)

  one_block : {h : List Event} {s s₁ s₂ : State} {b₁ b₂ w₁ w₂ n₁ n₂ u₁ u₂ : ℕ} → Trace K net h s →
      Rule K net w₁ s (Settle b₁) (Ran n₁ (ending.Blocked u₁)) s₁ → Rule K net w₂ s (Settle b₂) (Ran n₂ (ending.Blocked u₂)) s₂ → u₁ ≡ u₂
  one_block {h} {s} {s₁} {s₂} {b₁} {b₂} {w₁} {w₂} {n₁} {n₂} {u₁} {u₂} t (settle_ran _ _ _ _ _ e l r k) (settle_ran _ _ _ _ _ e₂ l₂ r₂ k₂) =
      let good = is_good K net t (open_none s.open? _ e) in
      ⊎_elim (λ i. i) (λ o. ⊎_elim
      (λ i. absurd (lower_block u₁ u₂ good r r₂ k.1 k₂.1 i))
      (λ i. absurd (lower_block u₂ u₁ good r₂ r k₂.1 k.1 i)) o)
      (cases_order u₁ u₂)

  pub determined : Determined K net
  determined = record {
    answers = λ h s work t c. answers K net work t c;
    agrees = λ s s₁ s₂ work c a b p q. agrees p q;
    priced = λ h s t e v l. priced (is_good K net t e).stands v l;
    falls = λ h s s' work u t x r rule. falls r rule;
    ends = ends;
    one_block = λ h s s₁ s₂ w₁ w₂ b₁ b₂ n₁ n₂ u₁ u₂ t p q. one_block t p q;
    unaltered = λ s s' work c r rule. unaltered rule;
  }
