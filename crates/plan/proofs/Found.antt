-- The entries of a search, once no step lowers one, are the least costs or the prices.
use Rattle.std.proofs.Common.{◌≡◌, ℕ, ◌<◌, List, pos, ◌<ℤ◌, sym, subst, ⊎_elim}
use Rattle.costs.specs.Kind.{Kind}
use Rattle.networks.specs.Net.{Net}
use Rattle.plan.specs.declared.step.Step.{Step}
use Rattle.plan.specs.State.{State, rest}
use Rattle.plan.specs.Steps.{Gives, Leads, there, then, Route, Reach, Least, Price, Losing}
use Rattle.plan.specs.Rules.{Source, Target, Stuck}
use Rattle.plan.specs.Standing.{Inside}
use Rattle.plan.proofs.Flow.{unit_of}
use Rattle.plan.proofs.Costs.{cancel}
use Rattle.plan.proofs.Walks.{cut_down, walk_start, one_least}

module _ {C R : Type 0} (K : Kind C R) (net : Net C) (f : List ℕ) where
  -- At v x says that x is the entry of v: a place has one entry at most, and no step lowers one
  pub record Entries (At : ℕ → K.group.Carrier → Type 0) : Type 0 where
    pub one : (v : ℕ) (x y : K.group.Carrier) → At v x → At v y → x ≡ y
    pub closed : (s : Step) (u v r : ℕ) (c x : K.group.Carrier) → Gives K net f s u v c r → At u x → (y : K.group.Carrier) × At v y × K.group.le y (K.group.plus x c)

  -- so over a walk they rise by no more than it costs
  pub rises : {At : ℕ → K.group.Carrier → Type 0} → Entries At → {x u v : ℕ} {ss : List Step} {vs : List ℕ} {c z : K.group.Carrier} →
      At u z → Leads K net f x u ss vs v c → (y : K.group.Carrier) × At v y × K.group.le y (K.group.plus z c)
  rises e {z = z} i (there u) = (z, i, subst (K.group.le z) (sym (unit_of K.group z)) (K.group.refl_le z))
  rises e {z = z} i (then u v w s ss vs c d r g l rest) =
      let a = e.closed s u v r c z g i in
      let b = rises e a.1 rest in
      (b.0, b.1, subst (K.group.le b.0) (K.group.assoc z c d) (K.group.trans _ _ _ b.2 (K.group.shift _ _ d a.2)))

  -- and from an entry of at most zero, to no more than it costs
  under : {At : ℕ → K.group.Carrier → Type 0} → Entries At → {x u v : ℕ} {ss : List Step} {vs : List ℕ} {c z y : K.group.Carrier} →
      At u z → K.group.le z K.group.zero → At v y → Leads K net f x u ss vs v c → K.group.le y c
  under e {v = v} {c = c} {z = z} {y = y} i low at walk =
      let a = rises e i walk in
      subst (λ p. K.group.le p c) (e.one v a.0 y a.1 at)
      (K.group.trans _ _ _ a.2 (subst (K.group.le (K.group.plus z c)) (K.group.unit c) (K.group.shift z K.group.zero c low)))

  -- entries of a search from u
  pub record Distances (u : ℕ) (At : ℕ → K.group.Carrier → Type 0) : Type 0 where
    pub entries : Entries At
    pub start : (x : K.group.Carrier) × At u x × K.group.le x K.group.zero
    pub walked : (v : ℕ) (y : K.group.Carrier) → At v y → (ss : List Step) × (vs : List ℕ) × Leads K net f 1 u ss vs v y

  -- entries of a search from all places at once
  pub record Prices (At : ℕ → K.group.Carrier → Type 0) : Type 0 where
    pub entries : Entries At
    pub start : (v : ℕ) → v < net.places → (x : K.group.Carrier) × At v x × K.group.le x K.group.zero
    pub walked : (v : ℕ) (y : K.group.Carrier) → At v y → (u : ℕ) × (ss : List Step) × (vs : List ℕ) × (u < net.places) × Leads K net f 1 u ss vs v y

  module _ {u : ℕ} {At : ℕ → K.group.Carrier → Type 0} (found : Distances u At) where
    -- the entries are the least costs
    pub least_by : (Losing K net f → ⊥) → (v : ℕ) (y : K.group.Carrier) → At v y → Least K net f u v y
    least_by sound v y at =
        let low : (ss : List Step) (c : K.group.Carrier) → Route K net f 1 u ss v c → K.group.le y c =
        λ ss c r. under found.entries found.start.1 found.start.2 at r.leads in
        ⊎_elim (λ losing. absurd (sound losing))
        (λ r. record { taken = (r.steps, subst (Route K net f 1 u r.steps v) (K.group.antisym _ _ r.cheaper (low r.steps r.cost r.route)) r.route); least = low })
        (cut_down K net f (found.walked v y at).2)

    -- and where it starts that is zero
    begins_zero : (x : K.group.Carrier) → At u x → x ≡ K.group.zero
    begins_zero x i =
        let G = K.group in
        let m = found.start in
        let low : G.le x G.zero = subst (λ z. G.le z G.zero) (found.entries.one u m.0 x m.1 i) m.2 in
        let b = rises found.entries i (found.walked u x i).2 in
        let up : G.le x (G.plus x x) = subst (λ z. G.le z (G.plus x x)) (found.entries.one u b.0 x b.1 i) b.2 in
        G.antisym _ _ low (cancel G G.zero x x (subst (λ z. G.le z (G.plus x x)) (sym (G.unit x)) up))

    -- and each place in the reach has one
    pub reach_has : (v : ℕ) → Reach K net f u v → (y : K.group.Carrier) × At v y
    reach_has v r = let a = rises found.entries found.start.1 r.2.leads in (a.0, a.1)

    -- a place that has the least cost has it as its entry
    pub least_has : (Losing K net f → ⊥) → (v : ℕ) (c : K.group.Carrier) → Least K net f u v c → At v c
    least_has sound v c l =
        let a = reach_has v (l.taken.0, c, l.taken.1) in
        subst (At v) (one_least K net f (least_by sound v a.0 a.1) l) a.1

  module _ {At : ℕ → K.group.Carrier → Type 0} (found : Prices At) where
    -- no ring costs less than zero
    pub prices_sound : Inside net → Losing K net f → ⊥
    prices_sound ends losing =
        let p = losing.place in
        let a = found.start p (walk_start K net f ends losing.ring.leads) in
        let b = rises found.entries a.1 losing.ring.leads in
        let up : K.group.le a.0 (K.group.plus a.0 losing.total) = subst (λ z. K.group.le z (K.group.plus a.0 losing.total)) (found.entries.one p b.0 a.0 b.1 a.1) b.2 in
        let zero-under : K.group.le K.group.zero losing.total =
        cancel K.group K.group.zero losing.total a.0 (subst (λ z. K.group.le z (K.group.plus losing.total a.0)) (sym (K.group.unit a.0)) (subst (K.group.le a.0) (K.group.comm a.0 losing.total) up)) in
        losing.apart (K.group.antisym _ _ losing.below zero-under)

    -- the entries are the prices
    pub price_by : (Losing K net f → ⊥) → (v : ℕ) (y : K.group.Carrier) → At v y → Price K net f v y
    price_by sound v y at =
        let low : (u : ℕ) (ss : List Step) (c : K.group.Carrier) → u < net.places → Route K net f 1 u ss v c → K.group.le y c =
        λ u ss c b r. let a = found.start u b in under found.entries a.1 a.2 at r.leads in
        let w = found.walked v y at in
        ⊎_elim (λ losing. absurd (sound losing))
        (λ r. record { taken = (w.0, r.steps, w.3, subst (Route K net f 1 w.0 r.steps v) (K.group.antisym _ _ r.cheaper (low w.0 r.steps r.cost w.3 r.route)) r.route); least = low })
        (cut_down K net f w.4)

-- what the entries of a search from the source say of the next route
module _ {C R : Type 0} (K : Kind C R) (net : Net C) {s : State} {u : ℕ} {At : ℕ → K.group.Carrier → Type 0} (found : Distances K net s.loads u At) where
  pub target_by : (Losing K net s.loads → ⊥) → {t : ℕ} {y : K.group.Carrier} → t < net.places → rest s t <ℤ pos 0 → At t y →
      ((v : ℕ) (z : K.group.Carrier) → v < net.places → rest s v <ℤ pos 0 → At v z → K.group.le y z) →
      ((v : ℕ) → v < t → rest s v <ℤ pos 0 → At v y → ⊥) → Target K net s u t y
  target_by sound {t} {y} l negative at cheapest lowest = record {
    place = l;
    negative = negative;
    cost = least_by K net s.loads found sound t y at;
    cheapest = λ v d b n m. cheapest v d b n (least_has K net s.loads found sound v d m);
    lowest = λ v b n m. lowest v b n (least_has K net s.loads found sound v y m);
  }

  pub stuck_by : Source K net s u → ((v : ℕ) (z : K.group.Carrier) → v < net.places → rest s v <ℤ pos 0 → At v z → ⊥) → Stuck K net s u
  stuck_by source none = record { source = source; none = λ v b n r. let a = reach_has K net s.loads found v r in none v a.0 b n a.1 }
