-- The span and the leg of a step, from what the network answers of its way and the load on that.
use Rattle.std.proofs.Common.{◌≡◌, ℕ, ◌-◌, ◌<◌, ◌≤◌, Bool, true, false, ltb, List, get_or, Some, None, Option, refl, ap, ◌∙◌, sym, subst, arith}
use Rattle.std.specs.List.{slice_get}
use Rattle.std.specs.Bool.{then_some}
use Rattle.std.proofs.lemmas.Bool.{ltb-true, ltb-false}
use Rattle.costs.specs.Kind.{Kind}
use Rattle.networks.specs.declared.ends.Ends.{Ends}
use Rattle.networks.specs.Net.{Net, Way, ends_of, cost_of}
use Rattle.plan.specs.declared.leg.Leg.{Leg}
use Rattle.plan.specs.declared.leg.Span.{Span}
use Rattle.plan.specs.declared.step.Step.{Step}
use Rattle.plan.specs.declared.step.Step.TheVariants.{Ahead, Back}
use Rattle.plan.specs.Legs.{IsShut, SpanOf}
use Rattle.plan.specs.Standing.{Passed}
use Rattle.plan.specs.Steps.{Gives}
use Rattle.plan.specs.Steps.Gives.{forth, behind}
use Rattle.plan.specs.Sweeps.{way_of}

pub way_known : {C : Type 0} (o : Option (Way C)) (e : Ends) (x : C) → Some e ≡ ends_of o → Some x ≡ cost_of o →
    o ≡ Some (record { tail = e.tail; head = e.head; limit = e.limit; cost = x })
way_known None e x p q = cc
way_known (Some w) e x p q =
    let a : record { tail = w.tail; head = w.head; limit = w.limit } ≡ e = cc in
    let b : w.cost ≡ x = cc in
    ap (λ y. Some (record { tail = w.tail; head = w.head; limit = w.limit; cost = y })) b
    ∙ ap (λ (y : Ends). Some (record { tail = y.tail; head = y.head; limit = y.limit; cost = x })) a

-- the way whose ends were answered
way_ended : {C : Type 0} (o : Option (Way C)) (e : Ends) → Some e ≡ ends_of o → (w : Way C) × (o ≡ Some w) × (e ≡ record { tail = w.tail; head = w.head; limit = w.limit })
way_ended None e p = cc
way_ended (Some w) e p = (w, refl, cc)

module _ {C R : Type 0} (K : Kind C R) (net : Net C) (loads : List ℕ) where
  -- a step that leads somewhere goes along a way
  pub gives_known : {s : Step} {u v : ℕ} {c : K.group.Carrier} {r : ℕ} → Gives K net loads s u v c r → (w : Way C) × (slice_get net.ways (way_of s) ≡ Some w)
  gives_known (forth k w known space) = (w, known)
  gives_known (behind k w known loaded) = (w, known)

  -- the span is that of the step, if it has room; and if it has none, the step is shut
  pub record SpanIf (s : Step) (span : Span) : Type 0 where
    pub leads : 0 < span.room → (c : K.group.Carrier) × Gives K net loads s span.from span.to c span.room
    pub shut : span.room ≤ 0 → IsShut K net loads s

  module _ (k : ℕ) (w : Way C) (known : slice_get net.ways k ≡ Some w) where
    ahead_space : {s : Step} {u v : ℕ} {c : K.group.Carrier} {r : ℕ} → Gives K net loads s u v c r → s ≡ Ahead k → get_or loads k 0 < w.limit
    ahead_space (forth j w' known' space) e =
        let q : j ≡ k = cc in
        let there : slice_get net.ways k ≡ Some w' = subst (λ i. slice_get net.ways i ≡ Some w') q known' in
        let same : w' ≡ w = cc in
        subst (λ i. get_or loads i 0 < w.limit) q (subst (λ x. get_or loads j 0 < x.limit) same space)
    ahead_space (behind j w' known' loaded) e = cc

    back_loaded : {s : Step} {u v : ℕ} {c : K.group.Carrier} {r : ℕ} → Gives K net loads s u v c r → s ≡ Back k → 0 < get_or loads k 0
    back_loaded (forth j w' known' space) e = cc
    back_loaded (behind j w' known' loaded) e = let q : j ≡ k = cc in subst (λ i. 0 < get_or loads i 0) q loaded

    span_ahead : (room : ℕ) → room ≡ w.limit - get_or loads k 0 → SpanIf (Ahead k) (record { from = w.tail; to = w.head; room = room })
    span_ahead room is = record {
      leads = λ l. (K.value w.cost, subst (Gives K net loads (Ahead k) w.tail w.head (K.value w.cost)) (sym is) (forth k w known (omega arith)));
      shut = λ l u v c r g. let a = ahead_space g refl in omega arith;
    }

    span_back : (room : ℕ) → room ≡ get_or loads k 0 → SpanIf (Back k) (record { from = w.head; to = w.tail; room = room })
    span_back room is = record {
      leads = λ l. (K.group.opp (K.value w.cost), subst (Gives K net loads (Back k) w.head w.tail (K.group.opp (K.value w.cost))) (sym is) (behind k w known (omega arith)));
      shut = λ l u v c r g. let a = back_loaded g refl in omega arith;
    }

  -- from the answer about the ends of the way
  module _ (k : ℕ) (e : Ends) (ends : Some e ≡ ends_of (slice_get net.ways k)) (s : Step) (along : k ≡ way_of s) (j : ℕ) where
    pub ahead : (room : ℕ) → s ≡ Ahead j → room ≡ e.limit - get_or loads k 0 → SpanIf s (record { from = e.tail; to = e.head; room = room })
    ahead room q is =
        let way = way_ended _ e ends in
        let i : j ≡ k = ap way_of (sym q) ∙ sym along in
        let P : Step → Ends → Type 0 = λ z x. SpanIf z (record { from = x.tail; to = x.head; room = room }) in
        subst (λ z. P z e) (sym (q ∙ ap (λ m. Ahead m) i))
        (subst (P (Ahead k)) (sym way.2) (span_ahead k way.0 way.1 room (is ∙ ap (λ (x : Ends). x.limit - get_or loads k 0) way.2)))

    pub back : (room : ℕ) → s ≡ Back j → room ≡ get_or loads k 0 → SpanIf s (record { from = e.head; to = e.tail; room = room })
    back room q is =
        let way = way_ended _ e ends in
        let i : j ≡ k = ap way_of (sym q) ∙ sym along in
        let P : Step → Ends → Type 0 = λ z x. SpanIf z (record { from = x.head; to = x.tail; room = room }) in
        subst (λ z. P z e) (sym (q ∙ ap (λ m. Back m) i)) (subst (P (Back k)) (sym way.2) (span_back k way.0 way.1 room is))

  -- so it is the span that is handed out if it has room
  pub span_some : {s : Step} {span : Span} → SpanIf s span → (r : Option Span) → r ≡ then_some (ltb 0 span.room) span → SpanOf K net loads s r
  span_some {s} {span} h r e = subst (SpanOf K net loads s) (sym e) (by (ltb 0 span.room) refl)
    where
      by : (b : Bool) → ltb 0 span.room ≡ b → SpanOf K net loads s (then_some b span)
      by true q = h.leads (ltb-true 0 span.room q)
      by false q = h.shut (ltb-false 0 span.room q)

  module _ (passed : Passed K net) where
    fair_costs : {s : Step} {u v : ℕ} {c : K.group.Carrier} {r : ℕ} → Gives K net loads s u v c r → (x : C) → K.value x ≡ c → (u < net.places) × (v < net.places) × (K.weighs x ≤ 1000000)
    fair_costs (forth k w known space) x is =
        let f = passed.fair k w known in
        (f.tail, f.head, subst (λ y. K.weighs y ≤ 1000000) (sym (K.distinct x w.cost is)) f.weight)
    fair_costs (behind k w known loaded) x is =
        let f = passed.fair k w known in
        (f.head, f.tail, subst (λ n. n ≤ 1000000) (sym (K.opposite_weighs w.cost x is)) f.weight)

    -- a step joins two places
    pub fair_span : {s : Step} {u v : ℕ} {c : K.group.Carrier} {r : ℕ} → Gives K net loads s u v c r → (u < net.places) × (v < net.places)
    fair_span (forth k w known space) = let f = passed.fair k w known in (f.tail, f.head)
    fair_span (behind k w known loaded) = let f = passed.fair k w known in (f.head, f.tail)

    -- a leg joins two places, and its cost is light
    pub fair_leg : {s : Step} {leg : Leg C} → Gives K net loads s leg.from leg.to (K.value leg.cost) leg.room → (leg.from < net.places) × (leg.to < net.places) × (K.weighs leg.cost ≤ 1000000)
    fair_leg {leg = leg} g = fair_costs g leg.cost refl
