-- Tracing back, sending, moving the rests and counting make one route of the rules.
use Rattle.std.proofs.Common.{◌≡◌, ℕ, ◌+◌, min, true, List, reverse, ℤ, vec_items, sym, subst, ap₂, arith}
use Rattle.std.proofs.lemmas.Int.{ints}
use Rattle.costs.specs.Kind.{Kind}
use Rattle.networks.specs.Net.{Net}
use Rattle.plan.specs.declared.note.Note.{Note}
use Rattle.plan.specs.declared.step.Step.{Step}
use Rattle.plan.specs.declared.table.Table.{Table}
use Rattle.plan.specs.Entries.{tables}
use Rattle.plan.specs.Rules.{Source, Target, Sends, along, most_counted}
use Rattle.plan.specs.Sendings.{Asked, Moved, Dispatched}
use Rattle.plan.specs.Standing.{Standing}
use Rattle.plan.specs.State.{State}
use Rattle.plan.specs.Tables.{state_of}
use Rattle.plan.specs.Trails.{Bears, Ended, Trailed}
use Rattle.plan.proofs.Bearing.{route_bears}

module _ {C R : Type 0} (K : Kind C R) (net : Net C) (s : State) (u v asked : ℕ) (path : List Step) (x : ℕ) (loads' : List ℕ) (rests' : List ℤ) where
  pub sends_by : Asked s.rests u v asked → (y : K.group.Carrier) → Trailed K net s.loads u v asked path y x →
      (Bears x (reverse path) s.loads → loads' ≡ along x (reverse path) s.loads) →
      Moved s.rests v u x rests' → Standing K net s → Source K net s u → Target K net s u v y →
      Sends K net s u v x (record { open? = s.open?; loads = loads'; rests = rests'; count = min (s.count + 1) most_counted })
  sends_by asks y trailed sent moved stands source target =
      let a = asks source.positive (stands.highest u source.place) target.negative in
      let l = sent (route_bears K net s.loads stands.passed stands.keeps trailed.route) in
      let m = moved (stands.highest v target.place) (stands.lowest u source.place) in
      let few = trailed.asked in
      let had = a.had in
      let wanted = a.wanted in
      record {
        cost = y;
        steps = reverse path;
        source = source;
        target = target;
        route = trailed.route;
        supplied = omega (arith, ints);
        wanted = omega (arith, ints);
        most = λ z p q route. trailed.most z (a.most z p q) route;
        after = ap₂ (λ f g. record { open? = s.open?; loads = f; rests = g; count = min (s.count + 1) most_counted }) l m;
      }

-- a search on parts that were lent
module _ {C R : Type 0} (K : Kind C R) (net : Net C) (t : Table) (u v : ℕ) (f₁ : List ℕ) (notes : List Note) (is-f₁ : f₁ ≡ vec_items t.loads) (is-notes : notes ≡ vec_items t.notes) where
  noted : (rows : List R) (y : K.group.Carrier) → Ended K net (vec_items t.loads) u v (tables rows (vec_items t.notes)) y →
      Ended K net f₁ u v (tables rows notes) y
  noted rows y ended =
      subst (λ f. Ended K net f u v (tables rows notes) y) (sym is-f₁) (subst (λ z. Ended K net (vec_items t.loads) u v (tables rows z) y) (sym is-notes) ended)

-- the same for tables, whose parts were lent
module _ {C R : Type 0} (K : Kind C R) (net : Net C) (t : Table) (u v asked : ℕ) (x : ℕ) (f₁ f₂ f₃ f₄ : List ℕ) (notes : List Note) (path₁ path₂ : List Step) (rests₁ : List ℤ) (n : ℕ)
    (is-f₁ : f₁ ≡ vec_items t.loads) (is-f₂ : f₂ ≡ vec_items t.loads) (is-f₄ : f₄ ≡ f₃) (is-notes : notes ≡ vec_items t.notes)
    (is-path : path₂ ≡ path₁)
  where
    pub dispatched_by : Asked (vec_items t.rests) u v asked →
        ((rows : List R) (y : K.group.Carrier) → Ended K net f₁ u v (tables rows notes) y → Trailed K net f₁ u v asked path₁ y x) →
        (Bears x (reverse path₂) f₂ → f₃ ≡ along x (reverse path₂) f₂) →
        Moved (vec_items t.rests) v u x rests₁ → n ≡ min (t.count + 1) most_counted →
        Dispatched K net t u v x (record { open? = true; loads = f₄; rests = rests₁; count = n })
    dispatched_by asks trails sent moved counts rows y stands source target ended =
        let trailed = subst (λ f. Trailed K net f u v asked path₁ y x) is-f₁ (trails rows y (noted K net t u v f₁ notes is-f₁ is-notes rows y ended)) in
        let sent₁ = subst (λ p. Bears x (reverse p) f₂ → f₃ ≡ along x (reverse p) f₂) is-path sent in
        let sent₂ = subst (λ f. Bears x (reverse path₁) f → f₃ ≡ along x (reverse path₁) f) is-f₂ sent₁ in
        let after : record { open? = true; loads = f₃; rests = rests₁; count = min (t.count + 1) most_counted } ≡ record { open? = true; loads = f₄; rests = rests₁; count = n } =
        ap₂ (λ f k. record { open? = true; loads = f; rests = rests₁; count = k }) (sym is-f₄) (sym counts) in
        subst (λ z. Sends K net (state_of t) u v x z) after (sends_by K net (state_of t) u v asked path₁ x f₃ rests₁ asks y trailed sent₂ moved stands source target)

-- if nothing came back, there was no such search
module _ {C R : Type 0} (K : Kind C R) (net : Net C) (t : Table) (u v : ℕ) (f : List ℕ) (notes : List Note) (is_f : f ≡ vec_items t.loads) (is-notes : notes ≡ vec_items t.notes) (s : State) where
  pub none_by : ((rows : List R) (y : K.group.Carrier) → Ended K net f u v (tables rows notes) y → ⊥) → Dispatched K net t u v 0 s
  none_by never rows y stands source target ended = absurd (never rows y (noted K net t u v f notes is_f is-notes rows y ended))
