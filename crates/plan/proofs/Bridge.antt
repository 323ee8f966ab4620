-- What the definitions say of a network, in the words of Flow, and back.
use Rattle.std.proofs.Common.{◌≡◌, ℕ, zero, suc, ◌+◌, ◌-◌, ◌<◌, ◌≤◌, cond, eqb, ◌≢◌, List, [], ◌∷◌, map, length, get_or, set, pos, ◌-ℤ◌, Some, sym, refl, ap, ◌∙◌, subst, ap₂, subst₂, arith}
use lib.ListN.{length-map}
use Rattle.std.specs.List.{slice_get, AllByRecursion}
use Rattle.costs.specs.Kind.{Kind}
use Rattle.networks.specs.Net.{Way, Net}
use Rattle.plan.specs.Loads.{costs, out, into, leaving, Keeps}
use Rattle.plan.specs.declared.step.Step.{Step}
use Rattle.plan.specs.declared.step.Step.TheVariants.{Ahead, Back}
use Rattle.plan.specs.Steps.{Apart, Gives, forth, behind, Leads, there, then, Route, Losing}
use Rattle.plan.specs.Rules.{along}
use Rattle.plan.specs.Standing.{Inside, Potential}
use Rattle.plan.proofs.Limits.{nth_there, keeps_long, keeps_at, keeps_by}
use Rattle.plan.proofs.Flow as flow
use Rattle.plan.proofs.Flow.{total, times, Carries, which, from, to, price, price_of, room, way, count, send, Row, CheapRing}
use Rattle.plan.proofs.Sums.{Adds}
use Rattle.plan.proofs.Costs.{adds, nats}

-- the first term may be added first
module _ {A : Type 0} {none : A} {add : A → A → A} (laws : Adds none add) where
  pub total_front : (n : ℕ) (t : ℕ → A) → total none add (suc n) t ≡ add (t 0) (total none add n (λ k. t (suc k)))
  total_front zero t = laws.comm _ _
  total_front (suc n) t = ap (λ z. add z (t (suc n))) (total_front n t) ∙ laws.assoc _ _ _

module _ {C R : Type 0} (K : Kind C R) where
  abbrev pub way_of : Way C → flow.Way K.group
  way_of w = record { tail = w.tail; head = w.head; limit = w.limit; cost = K.value w.cost }

  abbrev pub no_way : flow.Way K.group
  no_way = record { tail = 0; head = 0; limit = 0; cost = K.group.zero }

  pub nth_way : (ws : List (Way C)) (k : ℕ) (w : Way C) → slice_get ws k ≡ Some w → (get_or (map way_of ws) k no_way ≡ way_of w) × (k < length (map way_of ws))
  nth_way [] k w e = absurd (let z : ◌≡◌ {A = ℕ} 0 1 = cc in omega arith)
  nth_way (x ∷ ws) zero w e = (ap way_of (cc), omega arith)
  nth_way (x ∷ ws) (suc k) w e = let r = nth_way ws k w e in (r.0, omega arith)

  pub way_nth : (ws : List (Way C)) (k : ℕ) → k < length (map way_of ws) → (w : Way C) × (slice_get ws k ≡ Some w)
  way_nth ws k l = nth_there ws k (let e = length-map ws way_of in omega arith)

  pub costs_is : (ws : List (Way C)) (f : List ℕ) → length f ≡ length (map way_of ws) →
      costs K ws f ≡ total K.group.zero K.group.plus (length (map way_of ws)) (λ k. times K.group (get_or f k 0) (get_or (map way_of ws) k no_way).cost)
  costs_is [] f e = refl
  costs_is (w ∷ ws) [] e = absurd (omega arith)
  costs_is (w ∷ ws) (n ∷ f) e =
      ap (K.group.plus (times K.group n (K.value w.cost))) (costs_is ws f (omega arith))
      ∙ sym (total_front (adds K.group) (length (map way_of ws)) (λ k. times K.group (get_or (n ∷ f) k 0) (get_or (map way_of (w ∷ ws)) k no_way).cost))

  pub out_is : (ws : List (Way C)) (f : List ℕ) (v : ℕ) → length f ≡ length (map way_of ws) →
      out ws f v ≡ total 0 ◌+◌ (length (map way_of ws)) (λ k. cond (eqb (get_or (map way_of ws) k no_way).tail v) (get_or f k 0) 0)
  out_is [] f v e = refl
  out_is (w ∷ ws) [] v e = absurd (omega arith)
  out_is (w ∷ ws) (n ∷ f) v e =
      ap (λ z. cond (eqb w.tail v) n 0 + z) (out_is ws f v (omega arith))
      ∙ sym (total_front nats (length (map way_of ws)) (λ k. cond (eqb (get_or (map way_of (w ∷ ws)) k no_way).tail v) (get_or (n ∷ f) k 0) 0))

  pub into_is : (ws : List (Way C)) (f : List ℕ) (v : ℕ) → length f ≡ length (map way_of ws) →
      into ws f v ≡ total 0 ◌+◌ (length (map way_of ws)) (λ k. cond (eqb (get_or (map way_of ws) k no_way).head v) (get_or f k 0) 0)
  into_is [] f v e = refl
  into_is (w ∷ ws) [] v e = absurd (omega arith)
  into_is (w ∷ ws) (n ∷ f) v e =
      ap (λ z. cond (eqb w.head v) n 0 + z) (into_is ws f v (omega arith))
      ∙ sym (total_front nats (length (map way_of ws)) (λ k. cond (eqb (get_or (map way_of (w ∷ ws)) k no_way).head v) (get_or (n ∷ f) k 0) 0))

module _ {C R : Type 0} (K : Kind C R) (net : Net C) where
  abbrev pub seen : flow.Net K.group
  seen = record { places = net.places; ways = map (way_of K) net.ways }

  pub keeps_seen : (f : List ℕ) → Keeps net f → flow.Keeps seen f
  keeps_seen f h = record {
    whole = keeps_long net f h ∙ sym (length-map net.ways (way_of K));
    within = λ k l.
        let w = way_nth K net.ways k l in
        subst (λ z. get_or f k 0 ≤ z.limit) (sym (nth_way K net.ways k w.0 w.1).0) (keeps_at net f h k w.0 w.1);
  }

  pub seen_keeps : (f : List ℕ) → flow.Keeps seen f → Keeps net f
  seen_keeps f h =
      keeps_by net f (h.whole ∙ length-map net.ways (way_of K))
      (λ k w e. let i = nth_way K net.ways k w e in subst (λ z. get_or f k 0 ≤ z.limit) i.0 (h.within k i.1))

  pub joined_seen : Inside net → flow.Joined seen
  joined_seen inside = record { tails = λ k l. (at k l).0; heads = λ k l. (at k l).1 }
    where
      at : (k : ℕ) → k < count seen → ((way seen k).tail < net.places) × ((way seen k).head < net.places)
      at k l =
          let w = way_nth K net.ways k l in
          subst (λ z. (z.tail < net.places) × (z.head < net.places)) (sym (nth_way K net.ways k w.0 w.1).0) (inside k w.0 w.1)

  pub cost_seen : (f : List ℕ) → flow.Keeps seen f → costs K net.ways f ≡ flow.cost seen f
  cost_seen f h = costs_is K net.ways f h.whole

  pub leaving_seen : (f : List ℕ) (v : ℕ) → flow.Keeps seen f → leaving net f v ≡ flow.leaving seen f v
  leaving_seen f v h = ap₂ (λ a b. pos a -ℤ pos b) (out_is K net.ways f v h.whole) (into_is K net.ways f v h.whole)

  module _ (f : List ℕ) where
    pub record Given (s : Step) (u v : ℕ) (c : K.group.Carrier) (r : ℕ) : Type 0 where
      pub real : which s < count seen
      pub starts : from seen s ≡ u
      pub ends : to seen s ≡ v
      pub costs : price seen s ≡ c
      pub room : room seen f s ≡ r
      pub some : 1 ≤ r

    pub given : {s : Step} {u v : ℕ} {c : K.group.Carrier} {r : ℕ} → Gives K net f s u v c r → Given s u v c r
    given (forth k w e l) =
        let i = nth_way K net.ways k w e in
        record { real = i.1; starts = ap (λ z. z.tail) i.0; ends = ap (λ z. z.head) i.0; costs = ap (λ z. z.cost) i.0; room = ap (λ z. z.limit - get_or f k 0) i.0; some = omega arith }
    given (behind k w e l) =
        let i = nth_way K net.ways k w e in
        record { real = i.1; starts = ap (λ z. z.head) i.0; ends = ap (λ z. z.tail) i.0; costs = ap (λ z. K.group.opp z.cost) i.0; room = refl; some = omega arith }

    pub gives : (s : Step) → Carries seen f 1 s → Gives K net f s (from seen s) (to seen s) (price seen s) (room seen f s)
    gives (Ahead k) c =
        let w = way_nth K net.ways k c.real in
        let i = (nth_way K net.ways k w.0 w.1).0 in
        let l : 1 ≤ w.0.limit - get_or f k 0 = subst (λ z. 1 ≤ z.limit - get_or f k 0) i c.enough in
        subst (λ z. Gives K net f (Ahead k) z.tail z.head z.cost (z.limit - get_or f k 0)) (sym i) (forth k w.0 w.1 (omega arith))
    gives (Back k) c =
        let w = way_nth K net.ways k c.real in
        let i = (nth_way K net.ways k w.0 w.1).0 in
        let l : 1 ≤ get_or f k 0 = c.enough in
        subst (λ z. Gives K net f (Back k) z.head z.tail (K.group.opp z.cost) (get_or f k 0)) (sym i) (behind k w.0 w.1 (omega arith))

    pub potential_seen : (π : ℕ → K.group.Carrier) → Potential K net f π → flow.Potential seen f π
    potential_seen π valid s c = valid s _ _ _ _ (gives s c)

    pub seen_potential : (π : ℕ → K.group.Carrier) → flow.Potential seen f π → Potential K net f π
    seen_potential π valid s u v c r given_by =
        let i = given given_by in
        subst₂ K.group.le (ap π i.ends) (ap₂ (λ p q. K.group.plus (π p) q) i.starts i.costs) (valid s (record { real = i.real; enough = rw i.room i.some }))

    pub record Led (x u : ℕ) (ss : List Step) (vs : List ℕ) (v : ℕ) (c : K.group.Carrier) : Type 0 where
      pub leads : flow.Leads seen u ss v
      pub carries : AllByRecursion (Carries seen f x) ss
      pub opens : AllByRecursion (Carries seen f 1) ss
      pub met : vs ≡ map (to seen) ss
      pub costs : c ≡ price_of seen ss

    pub led : {x u : ℕ} {ss : List Step} {vs : List ℕ} {v : ℕ} {c : K.group.Carrier} → Leads K net f x u ss vs v c → Led x u ss vs v c
    led (there u) = record { leads = refl; carries = tt; opens = tt; met = refl; costs = refl }
    led (then u v w s ss vs c d r g l rest) =
        let i = given g in
        let t = led rest in
        record {
          leads = (i.starts, subst (λ p. flow.Leads seen p ss w) (sym i.ends) t.leads);
          carries = (record { real = i.real; enough = rw i.room l }, t.carries);
          opens = (record { real = i.real; enough = rw i.room i.some }, t.opens);
          met = ap₂ (λ a b. a ∷ b) (sym i.ends) t.met;
          costs = ap₂ K.group.plus (sym i.costs) t.costs;
        }

    pub leads : (x u : ℕ) (ss : List Step) (v : ℕ) → 1 ≤ x → flow.Leads seen u ss v → AllByRecursion (Carries seen f x) ss → Leads K net f x u ss (map (to seen) ss) v (price_of seen ss)
    leads x u [] v h l c = subst (λ p. Leads K net f x u [] [] p K.group.zero) l (there u)
    leads x u (s ∷ ss) v h l c =
        let e = c.0.enough in
        then u (to seen s) v s ss (map (to seen) ss) (price seen s) (price_of seen ss) (room seen f s)
        (subst (λ p. Gives K net f s p (to seen s) (price seen s) (room seen f s)) l.0 (gives s (record { real = c.0.real; enough = omega arith })))
        c.0.enough (leads x (to seen s) ss v h l.1 c.1)

    pub routed : {x u : ℕ} {ss : List Step} {v : ℕ} {c : K.group.Carrier} → Route K net f x u ss v c → flow.Route seen f x u ss v × (c ≡ price_of seen ss) × Row seen f u ss v
    routed {x} {u} r =
        let t = led r.leads in
        (record { leads = t.leads; apart = subst (λ z. Apart (u ∷ z)) t.met r.apart; carries = t.carries }, t.costs, record { leads = t.leads; opens = t.opens })

    pub route : (x u : ℕ) (ss : List Step) (v : ℕ) → 1 ≤ x → flow.Route seen f x u ss v → Route K net f x u ss v (price_of seen ss)
    route x u ss v h r = record { met = map (to seen) ss; leads = leads x u ss v h r.leads r.carries; apart = r.apart }

    pub losing_cheap : Losing K net f → CheapRing seen f
    losing_cheap l =
        let t = led l.ring.leads in
        record {
          place = l.place;
          first = l.first;
          rest = l.rest;
          row = record { leads = t.leads; opens = t.opens };
          apart = subst Apart t.met l.ring.apart;
          below = subst (λ z. K.group.le z K.group.zero) t.costs l.below;
          other = subst (λ z. z ≢ K.group.zero) t.costs l.apart;
        }

    pub cheap_losing : CheapRing seen f → Losing K net f
    cheap_losing c = record {
      place = c.place;
      first = c.first;
      rest = c.rest;
      total = price_of seen (c.first ∷ c.rest);
      ring = record {
        met = map (to seen) (c.first ∷ c.rest);
        leads = leads 1 c.place (c.first ∷ c.rest) c.place (omega arith) c.row.leads c.row.opens;
        apart = c.apart;
      };
      below = c.below;
      apart = c.other;
    }

-- to send along a route is the same in both
pub along_send : (x : ℕ) (ss : List Step) (f : List ℕ) → along x ss f ≡ send x ss f
along_send x [] f = refl
along_send x (Ahead k ∷ ss) f = along_send x ss (set f k (get_or f k 0 + x))
along_send x (Back k ∷ ss) f = along_send x ss (set f k (get_or f k 0 - x))
