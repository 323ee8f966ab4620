-- Walks of open steps: their rooms, and how they are cut down to routes.
use Rattle.std.proofs.Common.{◌≡◌, ℕ, ◌<◌, ◌≤◌, ◌⊎◌, List, ◌∷◌, length, sym, ◌∙◌, subst, inl, inr, ⊎_elim, arith}
use Rattle.std.specs.List.{AllByRecursion}
use Rattle.costs.specs.Kind.{Kind}
use Rattle.networks.specs.Net.{Net}
use Rattle.plan.specs.declared.step.Step.{Step}
use Rattle.plan.specs.State.{State}
use Rattle.plan.specs.Steps.{Gives, forth, behind, Leads, there, then, Route, Least, Price, Losing}
use Rattle.plan.specs.Standing.{Inside, Potential, Standing}
use Rattle.plan.proofs.Flow.{price_of}
use Rattle.plan.proofs.Bridge.{seen, joined_seen, potential_seen, given, led, routed, route, losing_cheap, cheap_losing}
use Rattle.plan.proofs.Rings.{no_cheap_ring}
use Rattle.plan.proofs.Shorter.{simple_or, simple_short}

module _ {C R : Type 0} (K : Kind C R) (net : Net C) (f : List ℕ) where
  -- a step says where it leads, at what cost, and how much room it has
  pub one_step : {s : Step} {u u' v v' r r' : ℕ} {c c' : K.group.Carrier} → Gives K net f s u v c r → Gives K net f s u' v' c' r' → (u ≡ u') × (v ≡ v') × (c ≡ c') × (r ≡ r')
  one_step p q =
      let a = given K net f p in
      let b = given K net f q in
      (sym a.starts ∙ b.starts, sym a.ends ∙ b.ends, sym a.costs ∙ b.costs, sym a.room ∙ b.room)

  -- the step has room for x, if it is open
  abbrev pub HasRoom : ℕ → Step → Type 0
  HasRoom x s = (u v r : ℕ) (c : K.group.Carrier) → Gives K net f s u v c r → x ≤ r

  -- steps that lead with room for x are those that lead, each with room for x
  pub leads_rooms : {x u v : ℕ} {ss : List Step} {vs : List ℕ} {c : K.group.Carrier} → Leads K net f x u ss vs v c → AllByRecursion (HasRoom x) ss
  leads_rooms (there u) = tt
  leads_rooms {x} (then u v w s ss vs c d r g l rest) = (λ u' v' r' c' g'. subst (λ z. x ≤ z) (one_step g g').3 l, leads_rooms rest)

  pub rooms_lead : {x y u v : ℕ} {ss : List Step} {vs : List ℕ} {c : K.group.Carrier} → AllByRecursion (HasRoom x) ss → Leads K net f y u ss vs v c → Leads K net f x u ss vs v c
  rooms_lead all (there u) = there u
  rooms_lead all (then u v w s ss vs c d r g l rest) = then u v w s ss vs c d r g (all.0 u v r c g) (rooms_lead all.1 rest)

  -- where there is a potential, no ring costs less than zero
  pub no_losing : (π : ℕ → K.group.Carrier) → Potential K net f π → Losing K net f → ⊥
  no_losing π valid losing = no_cheap_ring K.group (seen K net) f π (potential_seen K net f π valid) (losing_cheap K net f losing)

  -- a route from u to v that costs no more than c
  pub record Cheaper (u v : ℕ) (c : K.group.Carrier) : Type 0 where
    pub steps : List Step
    pub cost : K.group.Carrier
    pub route : Route K net f 1 u steps v cost
    pub cheaper : K.group.le cost c

  -- a walk is cut down to a route that costs no more, or shows a ring that costs less than zero
  pub cut_down : {u v : ℕ} {ss : List Step} {vs : List ℕ} {c : K.group.Carrier} → Leads K net f 1 u ss vs v c → Losing K net f ⊎ Cheaper u v c
  cut_down {u} {v} {ss} {vs} {c} walk =
      let t = led K net f walk in
      ⊎_elim (λ r. inl (cheap_losing K net f r)) (λ r. inr (record {
        steps = r.steps;
        cost = price_of (seen K net) r.steps;
        route = route K net f 1 u r.steps v (omega arith) (record { leads = r.leads; apart = r.apart; carries = r.opens });
        cheaper = subst (K.group.le _) (sym t.costs) r.cheaper;
      })) (simple_or (seen K net) f u v ss t.leads t.opens)

  -- a step joins two places
  pub gives_inside : {s : Step} {u v r : ℕ} {c : K.group.Carrier} → Inside net → Gives K net f s u v c r → (u < net.places) × (v < net.places)
  gives_inside ends (forth k w e l) = ends k w e
  gives_inside ends (behind k w e l) = let i = ends k w e in (i.1, i.0)

  -- so a walk of some steps starts at a place
  pub walk_start : {x u v : ℕ} {s : Step} {ss : List Step} {vs : List ℕ} {c : K.group.Carrier} → Inside net → Leads K net f x u (s ∷ ss) vs v c → u < net.places
  walk_start ends (then u v w s ss vs c d r g l rest) = (gives_inside ends g).0

  -- and a walk that starts at a place ends at one
  pub walk_inside : {x u v : ℕ} {ss : List Step} {vs : List ℕ} {c : K.group.Carrier} → Inside net → u < net.places → Leads K net f x u ss vs v c → v < net.places
  walk_inside ends l (there u) = l
  walk_inside ends l (then u v w s ss vs c d r g e rest) = walk_inside ends (gives_inside ends g).1 rest

  -- a route has fewer steps than there are places
  pub route_short : {x u v : ℕ} {ss : List Step} {c : K.group.Carrier} → Inside net → u < net.places → Route K net f x u ss v c → length ss < net.places
  route_short {x} {u} {v} {ss} ends l r =
      let t = routed K net f r in
      simple_short (seen K net) (joined_seen K net ends) f u ss l t.2.opens t.0.apart

  -- a walk that costs less than each walk of fewer steps than there are places shows a ring that costs less than zero
  pub losing_by : {u v : ℕ} {ss : List Step} {vs : List ℕ} {c : K.group.Carrier} → Inside net → u < net.places → Leads K net f 1 u ss vs v c →
      ((rs : List Step) (ws : List ℕ) (d : K.group.Carrier) → length rs < net.places → Leads K net f 1 u rs ws v d → K.group.le d c → ⊥) → Losing K net f
  losing_by ends l walk less = ⊎_elim (λ losing. losing)
      (λ r. absurd (less r.steps r.route.met r.cost (route_short ends l r.route) r.route.leads r.cheaper))
      (cut_down walk)

  -- there is one least cost, and one price
  pub one_least : {u v : ℕ} {c d : K.group.Carrier} → Least K net f u v c → Least K net f u v d → c ≡ d
  one_least p q = K.group.antisym _ _ (p.least _ _ q.taken.1) (q.least _ _ p.taken.1)

  pub one_price : {v : ℕ} {c d : K.group.Carrier} → Price K net f v c → Price K net f v d → c ≡ d
  one_price p q = K.group.antisym _ _ (p.least _ _ _ q.taken.2 q.taken.3) (q.least _ _ _ p.taken.2 p.taken.3)

-- no ring of an open plan costs less than zero
pub stands_sound : {C R : Type 0} (K : Kind C R) (net : Net C) {s : State} → Standing K net s → Losing K net s.loads → ⊥
stands_sound K net {s} stands = no_losing K net s.loads stands.potential.0 stands.potential.1
