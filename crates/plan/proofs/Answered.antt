-- Every call on every plan that a run leads to has an answer.
use Rattle.std.proofs.Common.{◌≡◌, ℕ, zero, suc, ◌<◌, ◌≤◌, min, ◌⊎◌, List, [], ◌∷◌, length, replicate, pos, ◌-ℤ◌, ◌≤ℤ◌, ◌<ℤ◌, Some, None, Option, sym, refl, ap, subst, inl, inr, ⊎_elim, arith}
use Rattle.std.specs.List.{AllByRecursion}
use Rattle.std.proofs.lemmas.Int.{ints, by_lt_z}
use Rattle.std.proofs.lemmas.Bool.{cases_eq}
use Rattle.costs.specs.Group.{Group}
use Rattle.costs.specs.Kind.{Kind}
use Rattle.networks.specs.Net.{Net}
use Rattle.plan.specs.declared.step.Step.{Step}
use Rattle.plan.specs.Steps.{Route, Reach, Least}
use Rattle.networks.specs.declared.refusal.Refusal.TheVariants.{LosingRing}
use Rattle.plan.specs.declared.calls.Answer.{Answer}
use Rattle.plan.specs.declared.calls.Answer.TheVariants.{Opened, Booked, Settled, Blocked, Sent, Ran, Refused}
use Rattle.plan.specs.declared.calls.Call.{Call}
use Rattle.plan.specs.declared.calls.Call.TheVariants.{Open, Book, Settle}
use Rattle.plan.specs.declared.calls.Call.TheVariants as call
use Rattle.plan.specs.declared.calls.Ending.{Ending}
use Rattle.plan.specs.declared.calls.Ending.TheVariants as ending
use Rattle.plan.specs.State.{State, rest, Event}
use Rattle.plan.specs.Checks.{open_fault, book_fault, route_fault, settle_fault}
use Rattle.plan.specs.Rules.{AtRest, Source, Sends, Stuck, Repeats, none, more, Ends, Rule, open_refused, open_losing, open_accepted, book_refused, book_accepted, route_refused, route_settled, route_blocked, route_sent, settle_refused, settle_ran}
use Rattle.plan.specs.Law.{Trace, positive}
use Rattle.plan.specs.Standing.{Standing}
use Rattle.plan.proofs.Flow as flow
use Rattle.plan.proofs.Flow.{Carries, Net as FNet, Row, room, price_of}
use Rattle.plan.proofs.Sums.{total_none}
use Rattle.plan.proofs.Costs.{nats, at_least_or}
use Rattle.plan.proofs.Bridge.{seen, joined_seen, routed, route, losing_cheap, cheap_losing}
use Rattle.plan.proofs.Augment.{Reached}
use Rattle.plan.proofs.Decide.{lowest_below, cheap_or}
use Rattle.plan.proofs.Moves.{positive_is, positive_none, none_owed}
use Rattle.plan.proofs.Faults.{open_passed, open_none}
use Rattle.plan.proofs.Standing.{inside, level, reached, sends_stands}
use Rattle.plan.proofs.Stands.{is_good}

some_or : {A : Type 0} (o : Option A) → (o ≡ None) ⊎ ((a : A) × (o ≡ Some a))
some_or None = inl refl
some_or (Some a) = inr (a, refl)

-- the least room of steps, at most `top`
module _ {g : Group} (net : FNet g) (f : List ℕ) where
  abbrev least_room : ℕ → List Step → ℕ
  least_room top [] = top
  least_room top (s ∷ ss) = min (room net f s) (least_room top ss)

  room_top : (top : ℕ) (ss : List Step) → least_room top ss ≤ top
  room_top top [] = omega arith
  room_top top (s ∷ ss) = let a = room_top top ss in omega arith

  room_some : (top : ℕ) (ss : List Step) → 1 ≤ top → AllByRecursion (Carries net f 1) ss → 1 ≤ least_room top ss
  room_some top [] h all = h
  room_some top (s ∷ ss) h all = let a = room_some top ss h all.1 in let b = all.0.enough in omega arith

  room_carries : (top x : ℕ) (ss : List Step) → x ≤ least_room top ss → AllByRecursion (Carries net f 1) ss → AllByRecursion (Carries net f x) ss
  room_carries top x [] h all = tt
  room_carries top x (s ∷ ss) h all = (record { real = all.0.real; enough = omega arith }, room_carries top x ss (omega arith) all.1)

  room_most : (top y : ℕ) (ss : List Step) → y ≤ top → AllByRecursion (Carries net f y) ss → y ≤ least_room top ss
  room_most top y [] h all = h
  room_most top y (s ∷ ss) h all = let a = room_most top y ss h all.1 in let b = all.0.enough in omega arith

module _ {C R : Type 0} (K : Kind C R) (net : Net C) where
  module _ {s : State} (stands : Standing K net s) where
    -- the least cost of a place that is reached
    least_at : (u v : ℕ) (a : (ss : List Step) × flow.Route (seen K net) s.loads 1 u ss v × ((rs : List Step) → Row (seen K net) s.loads u rs v → K.group.le (price_of (seen K net) ss) (price_of (seen K net) rs))) →
        Least K net s.loads u v (price_of (seen K net) a.0)
    least_at u v a = record {
      taken = (a.0, route K net s.loads 1 u a.0 v (omega arith) a.1);
      least = λ ss d r. let q = routed K net s.loads r in subst (K.group.le _) (sym q.1) (a.2 ss q.2);
    }

    abbrev NoneReached : ℕ → ℕ → Type 0
    NoneReached u n = (v : ℕ) → v < n → rest s v <ℤ pos 0 → Reach K net s.loads u v → ⊥

    record Pick (u n : ℕ) : Type 0 where
      at : ℕ
      below : at < n
      negative : rest s at <ℤ pos 0
      cost : K.group.Carrier
      least : Least K net s.loads u at cost
      cheapest : (v : ℕ) (d : K.group.Carrier) → v < n → rest s v <ℤ pos 0 → Least K net s.loads u v d → K.group.le cost d
      lowest : (v : ℕ) → v < at → rest s v <ℤ pos 0 → Least K net s.loads u v cost → ⊥

    reach_of : {u v : ℕ} {d : K.group.Carrier} → Least K net s.loads u v d → Reach K net s.loads u v
    reach_of {u} {v} {d} l = (l.taken.0, d, l.taken.1)

    -- the place n counts for nothing
    skip : (u n : ℕ) → (rest s n <ℤ pos 0 → Reach K net s.loads u n → ⊥) → NoneReached u n ⊎ Pick u n → NoneReached u (suc n) ⊎ Pick u (suc n)
    skip u n never (inl all) = inl (λ v l b r. ⊎_elim (λ e. never (subst (λ w. rest s w <ℤ pos 0) e b) (subst (Reach K net s.loads u) e r)) (λ ne. all v (omega arith) b r) (cases_eq v n))
    skip u n never (inr p) = let l = p.below in inr (record {
      at = p.at;
      below = omega arith;
      negative = p.negative;
      cost = p.cost;
      least = p.least;
      lowest = p.lowest;
      cheapest = λ v d b neg m. ⊎_elim
          (λ e. absurd (never (subst (λ w. rest s w <ℤ pos 0) e neg) (subst (Reach K net s.loads u) e (reach_of m))))
          (λ ne. p.cheapest v d (omega arith) neg m) (cases_eq v n);
    })

    -- the place n is reached
    take : (u n : ℕ) (c : K.group.Carrier) → rest s n <ℤ pos 0 → Least K net s.loads u n c → NoneReached u n ⊎ Pick u n → NoneReached u (suc n) ⊎ Pick u (suc n)
    take u n c neg here before = by before
      where
        own : (v : ℕ) (d : K.group.Carrier) → v ≡ n → Least K net s.loads u v d → K.group.le c d
        own v d e m = let m' : Least K net s.loads u n d = subst (λ w. Least K net s.loads u w d) e m in here.least m'.taken.0 d m'.taken.1

        by : NoneReached u n ⊎ Pick u n → NoneReached u (suc n) ⊎ Pick u (suc n)
        by (inl all) = inr (record {
          at = n;
          below = omega arith;
          negative = neg;
          cost = c;
          least = here;
          lowest = λ v b low m. all v b low (reach_of m);
          cheapest = λ v d b low m. ⊎_elim (λ e. own v d e m) (λ ne. absurd (all v (omega arith) low (reach_of m))) (cases_eq v n);
        })
        by (inr p) = ⊎_elim
            (λ l. let b = p.below in inr (record {
              at = p.at;
              below = omega arith;
              negative = p.negative;
              cost = p.cost;
              least = p.least;
              lowest = p.lowest;
              cheapest = λ v d w low m. ⊎_elim (λ e. K.group.trans _ _ _ l (own v d e m)) (λ ne. p.cheapest v d (omega arith) low m) (cases_eq v n);
            }))
            (λ l. inr (record {
              at = n;
              below = omega arith;
              negative = neg;
              cost = c;
              least = here;
              lowest = λ v b low m. l.1 (K.group.antisym _ _ l.0 (p.cheapest v c b low m));
              cheapest = λ v d w low m. ⊎_elim (λ e. own v d e m) (λ ne. K.group.trans _ _ _ l.0 (p.cheapest v d (omega arith) low m)) (cases_eq v n);
            }))
            (at_least_or K.group p.cost c)

    next_place : (u n : ℕ) → Reached (seen K net) s.loads u n → NoneReached u n ⊎ Pick u n → NoneReached u (suc n) ⊎ Pick u (suc n)
    next_place u n (inl a) before = skip u n (λ neg r. a r.0 (routed K net s.loads r.2).2) before
    next_place u n (inr a) before =
        by_lt_z (rest s n) (pos 0) (λ neg. take u n _ neg (least_at u n a) before) (λ up. skip u n (λ neg r. omega (arith, ints)) before)

    pick : (u : ℕ) → u < net.places → (n : ℕ) → NoneReached u n ⊎ Pick u n
    pick u l zero = inl (λ v b neg r. omega arith)
    pick u l (suc n) = next_place u n (reached K net stands u l n) (pick u l n)

    abbrev Next : Type 0
    Next = (u : ℕ) × (t : ℕ) × (x : ℕ) × (s' : State) × Sends K net s u t x s'

    send_on : (u : ℕ) → Source K net s u → Pick u net.places → Next
    send_on u source p =
        let a = positive (rest s u) in
        let up = source.positive in
        let low = p.negative in
        let is-a : pos a ≡ rest s u = positive_is (rest s u) (omega (arith, ints)) in
        let b = positive (pos 0 -ℤ rest s p.at) in
        let is_b : pos b ≡ pos 0 -ℤ rest s p.at = positive_is (pos 0 -ℤ rest s p.at) (omega (arith, ints)) in
        let ss = p.least.taken.0 in
        let r = routed K net s.loads p.least.taken.1 in
        let x = least_room (seen K net) s.loads (min a b) ss in
        let xt : x ≤ min a b = room_top (seen K net) s.loads (min a b) ss in
        let top : 1 ≤ min a b = omega (arith, ints) in
        let x1 : 1 ≤ x = room_some (seen K net) s.loads (min a b) ss top r.2.opens in (
          u,
          p.at,
          x,
          _,
          record {
            cost = p.cost;
            steps = ss;
            source = source;
            target = record { place = p.below; negative = p.negative; cost = p.least; cheapest = p.cheapest; lowest = p.lowest };
            route = subst (Route K net s.loads x u ss p.at) (sym r.1) (route K net s.loads x u ss p.at x1
                (record { leads = r.0.leads; apart = r.0.apart; carries = room_carries (seen K net) s.loads (min a b) x ss (omega arith) r.2.opens }));
            supplied = omega (arith, ints);
            wanted = omega (arith, ints);
            most = λ y hu ht q. room_most (seen K net) s.loads (min a b) y ss (omega (arith, ints)) (routed K net s.loads q).0.carries;
            after = refl;
          },
        )

    -- every rest is zero, or the lowest source is stuck, or it sends
    pub turn : AtRest K net s ⊎ (((u : ℕ) × Stuck K net s u) ⊎ Next)
    turn = ⊎_elim
        (λ p. let source : Source K net s p.0 = record { place = p.1; positive = p.2; lowest = p.3 } in
        inr (⊎_elim (λ all. inl (p.0, record { source = source; none = all })) (λ q. inr (send_on p.0 source q)) (pick p.0 p.1 net.places)))
        (λ all. inl (none_owed net.places (rest s) (total_none nats net.places _ (λ k l. positive_none (rest s k) (all k l))) (level K net stands)))
        (lowest_below net.places (λ v. pos 0 <ℤ rest s v) (λ v. rest s v ≤ℤ pos 0) (λ v l. by_lt_z (pos 0) (rest s v) inl inr))

  pub runs : (budget : ℕ) (s : State) → Standing K net s → (n : ℕ) × (e : Ending) × (s' : State) × (n ≤ budget) × Repeats K net n s s' × Ends K net budget n s' e
  runs zero s stands = ⊎_elim
      (λ quiet. (0, ending.Settled, s, omega arith, none s, quiet))
      (λ other. (0, ending.Unfinished, s, omega arith, none s, (refl, ⊎_elim (stuck_off s) (sends_off s) other)))
      (turn stands)
    where
      stuck_off : (s : State) → (u : ℕ) × Stuck K net s u → AtRest K net s → ⊥
      stuck_off s q quiet = let e = quiet q.0 q.1.source.place in let p = q.1.source.positive in omega (arith, ints)

      sends_off : (s : State) → (u : ℕ) × (t : ℕ) × (x : ℕ) × (s' : State) × Sends K net s u t x s' → AtRest K net s → ⊥
      sends_off s q quiet = let e = quiet q.0 q.4.source.place in let p = q.4.source.positive in omega (arith, ints)
  runs (suc budget) s stands = ⊎_elim
      (λ quiet. (0, ending.Settled, s, omega arith, none s, quiet))
      (λ other. ⊎_elim
      (λ q. (0, ending.Blocked q.0, s, omega arith, none s, (omega arith, q.1)))
      (λ q. let r = runs budget q.3 (sends_stands K net stands q.4) in
      let l = r.3 in
      (suc r.0, r.1, r.2, omega arith, more r.0 q.0 q.1 q.2 s q.3 r.2 q.4 r.4, one_more r.0 r.2 r.1 r.5))
      other)
      (turn stands)
    where
      one_more : (n : ℕ) (s' : State) (e : Ending) → Ends K net budget n s' e → Ends K net (suc budget) (suc n) s' e
      one_more n s' ending.Settled x = x
      one_more n s' (ending.Blocked u) x = let l = x.0 in (omega arith, x.1)
      one_more n s' ending.Unfinished x = (ap suc x.0, x.1)

  abbrev pub Answered : ℕ → State → Call → Type 0
  Answered work s c = (a : Answer) × (s' : State) × Rule K net work s c a s'

  pub answers : {h : List Event} {s : State} (work : ℕ) → Trace K net h s → (c : Call) → Answered work s c
  answers {h} {s} work t Open = ⊎_elim
      (λ e. ⊎_elim
      (λ c. (Refused LosingRing, s, open_losing s e (cheap_losing K net _ c)))
      (λ n. (Opened, _, open_accepted s e (λ l. n (losing_cheap K net _ l))))
      (cheap_or (seen K net) (replicate (length net.ways) 0) (joined_seen K net (inside K net (open_passed K net s work e)))))
      (λ q. (Refused q.0, s, open_refused s q.0 q.1))
      (some_or (open_fault K net s work))
  answers {h} {s} work t (Book from to amount) = ⊎_elim
      (λ e. (Booked, _, book_accepted s from to amount e))
      (λ q. (Refused q.0, s, book_refused s from to amount q.0 q.1))
      (some_or (book_fault net s from to amount))
  answers {h} {s} work t call.Route = ⊎_elim
      (λ e. ⊎_elim
      (λ z. (Settled, s, route_settled s e z))
      (λ other. ⊎_elim
      (λ q. (Blocked q.0, s, route_blocked s q.0 e q.1))
      (λ q. (Sent q.0 q.1 q.2, q.3, route_sent s q.3 q.0 q.1 q.2 e q.4))
      other)
      (turn (is_good K net t (open_none s.open? _ e)).stands))
      (λ q. (Refused q.0, s, route_refused s q.0 q.1))
      (some_or (route_fault net s work))
  answers {h} {s} work t (Settle budget) = ⊎_elim
      (λ e. let r = runs budget s (is_good K net t (open_none s.open? _ e)).stands in
      (Ran r.0 r.1, r.2, settle_ran s r.2 budget r.0 r.1 e r.3 r.4 r.5))
      (λ q. (Refused q.0, s, settle_refused s budget q.0 q.1))
      (some_or (settle_fault net s budget work))
