-- What holds of an open plan lasts while routes are sent, and what a source that is cut off says.
use Rattle.std.proofs.Common.{◌≡◌, ℕ, ◌+◌, ◌<◌, ◌≤◌, min, ◌≢◌, List, ℤ, pos, ◌+ℤ◌, neg_ℤ, ◌≤ℤ◌, ◌<ℤ◌, sym, ap, ◌∙◌, subst, ⊎_elim, arith}
use Rattle.std.proofs.lemmas.Int.{ints, by_lt_z}
use Rattle.std.proofs.lemmas.Bool.{cases_eq}
use Rattle.costs.specs.Kind.{Kind}
use Rattle.networks.specs.Net.{Net}
use Rattle.plan.specs.Loads.{leaving}
use Rattle.plan.specs.Steps.{Route}
use Rattle.plan.specs.State.{State, rest, Event}
use Rattle.plan.specs.Rules.{along, move, most_counted, Sends, Stuck, Repeats, none, more}
use Rattle.plan.specs.Law.{bookings, owed, Possible}
use Rattle.plan.specs.Standing.{Inside, Passed, Standing}
use Rattle.plan.proofs.Flow as flow
use Rattle.plan.proofs.Flow.{Joined, Potential, NoCheap, price_of}
use Rattle.plan.proofs.Bridge.{seen, joined_seen, potential_seen, seen_potential, keeps_seen, seen_keeps, leaving_seen, routed, route, along_send}
use Rattle.plan.proofs.Cut.{short}
use Rattle.plan.proofs.Send.{spot, stays}
use Rattle.plan.proofs.Send as send
use Rattle.plan.proofs.Rings.{no_cheap_ring}
use Rattle.plan.proofs.Cheapest.{cheapest}
use Rattle.plan.proofs.Augment.{Reached, in_reach, augment, reach_closed, reach_start, reach_route}
use Rattle.plan.proofs.Moves.{here, away, all_of, move_at, move_long, move_all, owed_is, owed_less, rests_is}

module _ {C R : Type 0} (K : Kind C R) (net : Net C) where
  pub inside : Passed K net → Inside net
  inside passed k w e = let fair = passed.fair k w e in (fair.tail, fair.head)

  module _ {s : State} (stands : Standing K net s) where
    pub joined : Joined (seen K net)
    joined = joined_seen K net (inside stands.passed)

    pub keeps : flow.Keeps (seen K net) s.loads
    keeps = keeps_seen K net s.loads stands.keeps

    pub valid : Potential (seen K net) s.loads stands.potential.0
    valid = potential_seen K net s.loads stands.potential.0 stands.potential.1

    pub level : all_of net.places (rest s) ≡ pos 0
    level = sym (rests_is s net.places) ∙ stands.level

    pub no_cheap : NoCheap (seen K net) s.loads
    no_cheap = no_cheap_ring K.group (seen K net) s.loads stands.potential.0 valid

    pub reached : (u : ℕ) → u < net.places → (v : ℕ) → Reached (seen K net) s.loads u v
    reached u l v = cheapest K.group (seen K net) s.loads u v joined no_cheap l

  module _ {s s' : State} {u t x : ℕ} (stands : Standing K net s) (sends : Sends K net s u t x s') where
    pub apart : u ≢ t
    apart e =
        let p = sends.source.positive in
        let q : rest s u <ℤ pos 0 = subst (λ w. rest s w <ℤ pos 0) (sym e) sends.target.negative in
        omega (arith, ints)

    -- at least one is sent
    pub some : 1 ≤ x
    some =
        let r = routed K net s.loads sends.route in
        let p = sends.source.positive in
        let q = sends.target.negative in
        sends.most 1 (omega (arith, ints)) (omega (arith, ints))
        (subst (Route K net s.loads 1 u sends.steps t) (sym r.1)
        (route K net s.loads 1 u sends.steps t (omega arith) (record { leads = r.0.leads; apart = r.0.apart; carries = r.2.opens })))

    after : State
    after = record { open? = s.open?; loads = along x sends.steps s.loads; rests = move s.rests t u x; count = min (s.count + 1) most_counted }

    rests_after : (v : ℕ) → v < net.places → rest after v +ℤ spot x u v ≡ rest s v +ℤ spot x t v
    unfolding after
    rests_after v l = move_at s.rests t u x v (rw stands.whole sends.target.place) (rw stands.whole sends.source.place) (λ e. apart (sym e))

    nearer_after : (v : ℕ) (lo hi : ℤ) → v < net.places → lo ≤ℤ pos 0 → pos 0 ≤ℤ hi → lo ≤ℤ rest s v → rest s v ≤ℤ hi → (lo ≤ℤ rest after v) × (rest after v ≤ℤ hi)
    nearer_after v lo hi l zl zh a b =
        let e = rests_after v l in
        let p = sends.supplied in
        let q = sends.wanted in
        ⊎_elim
        (λ i. let ru : rest s u ≡ rest s v = ap (rest s) i in
        let su : spot x u v ≡ pos x = subst (λ w. spot x u w ≡ pos x) i (here x u) in
        let st : spot x t v ≡ pos 0 = away x t v (λ j. apart (i ∙ sym j)) in
        (omega (arith, ints), omega (arith, ints)))
        (λ ni. let su : spot x u v ≡ pos 0 = away x u v ni in
        ⊎_elim
        (λ i. let rt : rest s t ≡ rest s v = ap (rest s) i in
        let st : spot x t v ≡ pos x = subst (λ w. spot x t w ≡ pos x) i (here x t) in
        (omega (arith, ints), omega (arith, ints)))
        (λ nt. let st : spot x t v ≡ pos 0 = away x t v nt in (omega (arith, ints), omega (arith, ints)))
        (cases_eq t v))
        (cases_eq u v)

    sent_all : flow.Keeps (seen K net) (along x sends.steps s.loads) × ((w : ℕ) → flow.leaving (seen K net) (along x sends.steps s.loads) w +ℤ spot x t w ≡ flow.leaving (seen K net) s.loads w +ℤ spot x u w)
    sent_all =
        let r = (routed K net s.loads sends.route).0 in
        subst (λ z. flow.Keeps (seen K net) z × ((w : ℕ) → flow.leaving (seen K net) z w +ℤ spot x t w ≡ flow.leaving (seen K net) s.loads w +ℤ spot x u w))
        (sym (along_send x sends.steps s.loads))
        (send.along (seen K net) x u t sends.steps s.loads (keeps stands) r.leads r.apart r.carries)

    potential_after : (π : ℕ → K.group.Carrier) × Potential (seen K net) (along x sends.steps s.loads) π
    potential_after =
        let r = routed K net s.loads sends.route in
        let a = augment (seen K net) s.loads u stands.potential.0 (joined stands) (valid stands) (reached stands u sends.source.place) t sends.steps r.2
        (λ rs q. subst (λ z. K.group.le z (price_of (seen K net) rs)) r.1 (sends.target.cost.least rs _ (route K net s.loads 1 u rs t (omega arith) q))) in
        (a.0, subst (λ z. Potential (seen K net) z a.0) (sym (along_send x sends.steps s.loads)) (stays K.group (seen K net) s.loads a.0 x sends.steps a.1 a.2))

    stands_after : Standing K net after
    unfolding after
    stands_after =
        let bounds : (v : ℕ) → v < net.places → (neg_ℤ (pos 1000000000) ≤ℤ rest after v) × (rest after v ≤ℤ pos 1000000000) =
        λ v l. nearer_after v _ _ l (omega (arith, ints)) (omega (arith, ints)) (stands.lowest v l) (stands.highest v l) in
        record {
          opened = stands.opened;
          passed = stands.passed;
          keeps = seen_keeps K net _ sent_all.0;
          whole = move_long s.rests t u x ∙ stands.whole;
          potential = (potential_after.0, seen_potential K net _ potential_after.0 potential_after.1);
          level = rests_is after net.places ∙ move_all net.places t u x (rest s) (rest after) sends.target.place sends.source.place rests_after ∙ level stands;
          lowest = λ v l. (bounds v l).0;
          highest = λ v l. (bounds v l).1;
        }

    pub sends_stands : Standing K net s'
    unfolding after
    sends_stands = subst (Standing K net) (sym sends.after) stands_after

    pub rests_sent : (v : ℕ) → v < net.places → rest s' v +ℤ spot x u v ≡ rest s v +ℤ spot x t v
    unfolding after
    rests_sent v l = subst (λ z. rest z v +ℤ spot x u v ≡ rest s v +ℤ spot x t v) (sym sends.after) (rests_after v l)

    -- each rest comes nearer to zero, or stays
    pub nearer : (v : ℕ) (lo hi : ℤ) → v < net.places → lo ≤ℤ pos 0 → pos 0 ≤ℤ hi → lo ≤ℤ rest s v → rest s v ≤ℤ hi → (lo ≤ℤ rest s' v) × (rest s' v ≤ℤ hi)
    unfolding after
    nearer v lo hi l zl zh a b = subst (λ z. (lo ≤ℤ rest z v) × (rest z v ≤ℤ hi)) (sym sends.after) (nearer_after v lo hi l zl zh a b)

    pub sends_owed : owed s' net.places + x ≡ owed s net.places
    unfolding after
    sends_owed =
        subst (λ z. owed z net.places + x ≡ owed s net.places) (sym sends.after)
        (ap (λ k. k + x) (owed_is after net.places)
        ∙ owed_less net.places u t x (rest s) (rest after) sends.source.place apart sends.supplied sends.wanted rests_after
        ∙ sym (owed_is s net.places))

    leaving_sent : (v : ℕ) → v < net.places → leaving net s'.loads v +ℤ rest s' v ≡ leaving net s.loads v +ℤ rest s v
    unfolding after
    leaving_sent v l =
        subst (λ z. leaving net z.loads v +ℤ rest z v ≡ leaving net s.loads v +ℤ rest s v) (sym sends.after)
        (across (leaving net s.loads v) (leaving net (along x sends.steps s.loads) v) (rest s v) (rest after v) (spot x u v) (spot x t v) (rests_after v l)
        (ap (λ z. z +ℤ spot x t v) (leaving_seen K net _ v sent_all.0) ∙ sent_all.1 v ∙ ap (λ z. z +ℤ spot x u v) (sym (leaving_seen K net _ v (keeps stands)))))
      where
        across : (l l' r r' p q : ℤ) → r' +ℤ p ≡ r +ℤ q → l' +ℤ q ≡ l +ℤ p → l' +ℤ r' ≡ l +ℤ r
        across l l' r r' p q e g = omega (arith, ints)

  pub repeats_stands : {n : ℕ} {s s' : State} → Standing K net s → Repeats K net n s s' → Standing K net s'
  repeats_stands stands (none s) = stands
  repeats_stands stands (more n u t x s s' s'' first rest) = repeats_stands (sends_stands stands first) rest

  pub repeats_owed : {n : ℕ} {s s' : State} → Standing K net s → Repeats K net n s s' → owed s' net.places + n ≤ owed s net.places
  repeats_owed stands (none s) = omega arith
  repeats_owed stands (more n u t x s s' s'' first rest) =
      let a = repeats_owed (sends_stands stands first) rest in
      let b = sends_owed stands first in
      let c = some stands first in
      omega arith

  -- an open plan after the events h
  pub record Good (h : List Event) (s : State) : Type 0 where
    pub stands : Standing K net s
    pub accounted : (v : ℕ) → v < net.places → leaving net s.loads v +ℤ rest s v ≡ bookings h v

  pub sends_good : {h : List Event} {s s' : State} {u t x : ℕ} → Good h s → Sends K net s u t x s' → Good h s'
  sends_good good sends = record { stands = sends_stands good.stands sends; accounted = λ v l. leaving_sent good.stands sends v l ∙ good.accounted v l }

  pub repeats_good : {h : List Event} {n : ℕ} {s s' : State} → Good h s → Repeats K net n s s' → Good h s'
  repeats_good good (none s) = good
  repeats_good good (more n u t x s s' s'' first rest) = repeats_good (sends_good good first) rest

  -- where a source reaches no place with a negative rest, no load meets the bookings
  pub stuck_short : {h : List Event} {s : State} {u : ℕ} → Good h s → Stuck K net s u → Possible K net h → ⊥
  stuck_short {h} {s} {u} good stuck possible =
      let near = reached good.stands u stuck.source.place in
      let f' = possible.0 in
      let keeps' = keeps_seen K net f' possible.1 in
      short K.group (seen K net) s.loads f' (λ v. in_reach (seen K net) s.loads u (near v)) (bookings h) (rest s) u
      (joined good.stands) (reach_closed (seen K net) s.loads u near)
      (λ v l. sym (good.accounted v l) ∙ ap (λ z. z +ℤ rest s v) (leaving_seen K net s.loads v (keeps good.stands)))
      (λ v l e. by_lt_z (rest s v) (pos 0)
      (λ below. let r = reach_route (seen K net) s.loads u (near v) e in
      absurd (stuck.none v l below (r.0, price_of (seen K net) r.0, route K net s.loads 1 u r.0 v (omega arith) r.1)))
      (λ up. up))
      stuck.source.place (reach_start (seen K net) s.loads u near) stuck.source.positive
      keeps' (λ v l. sym (leaving_seen K net f' v keeps') ∙ possible.2 v l)
