-- A loop over the ways adds up what the load costs, and the sum stays light enough.
use Rattle.std.proofs.Common.{◌≡◌, ℕ, ◌+◌, ◌*◌, ◌<◌, ◌≤◌, ◌⊎◌, List, length, get_or, drop, Some, None, Option, sym, refl, ap, ◌∙◌, subst, ap₂, ⊎_elim, mul-le-mul, add-one, arith, MatchOption}
use Rattle.std.specs.List.{slice_get}
use Rattle.std.proofs.lemmas.List.{drop_all, drop_more}
use Rattle.costs.specs.Group.{times}
use Rattle.costs.specs.Kind.{Kind, heaviest, light}
use Rattle.networks.specs.Net.{Net, Way, cost_of}
use Rattle.plan.specs.Loads.{costs}
use Rattle.plan.specs.Standing.{Standing}
use Rattle.plan.specs.State.{State}
use Rattle.plan.proofs.Checked.{drop_there}
use Rattle.plan.proofs.Flow.{unit_of}
use Rattle.plan.proofs.Limits.{keeps_long, load_small}

-- a way with a cost is there
way_of : {C : Type 0} (o : Option (Way C)) (x : C) → Some x ≡ cost_of o → (w : Way C) × (o ≡ Some w) × (w.cost ≡ x)
way_of None x e = absurd (let z : ◌≡◌ {A = ℕ} 0 1 = cc in omega arith)
way_of (Some w) x e = (w, refl, cc)

module _ {C R : Type 0} (K : Kind C R) (net : Net C) (f : List ℕ) where
  -- c is the sum over the ways below k
  pub record Summed (k : ℕ) (c : C) : Type 0 where
    pub so_far : K.group.plus (K.value c) (costs K (drop k net.ways) (drop k f)) ≡ costs K net.ways f
    pub weight : K.weighs c ≤ k * 1000000000000

  pub summed_none : (c : C) → K.value c ≡ K.group.zero → Summed 0 c
  summed_none c e = record {
    so_far = ap (λ z. K.group.plus z (costs K net.ways f)) e ∙ K.group.unit _;
    weight = omega (arith, K.zero_weighs c e);
  }

  pub summed_all : (k : ℕ) (c : C) → length net.ways ≤ k → Summed k c → K.value c ≡ costs K net.ways f
  summed_all k c l s = sym (unit_of K.group (K.value c)) ∙ ap (λ ws. K.group.plus (K.value c) (costs K ws (drop k f))) (sym (drop_all k net.ways l)) ∙ s.so_far

  -- one n-fold sum of a light cost
  part_light : (n : ℕ) (x part : C) → n ≤ light → K.weighs x ≤ light → K.weighs part ≤ n * K.weighs x → K.weighs part ≤ 1000000000000
  part_light n x part few small h =
      let p : n * K.weighs x ≤ light * light = mul-le-mul few small in
      omega (arith, p, h)

  module _ (k n : ℕ) (x : C) (at : Some x ≡ cost_of (slice_get net.ways k)) where
    costs_at : k < length f → n ≡ get_or f k 0 →
        costs K (drop k net.ways) (drop k f) ≡ K.group.plus (times K.group n (K.value x)) (costs K (drop (k + 1) net.ways) (drop (k + 1) f))
    costs_at l e =
        let w = way_of (slice_get net.ways k) x at in
        ap₂ (costs K) (drop_there net.ways k w.0 w.1) (drop_more f k 0 l)
        ∙ ap (λ j. K.group.plus (times K.group (get_or f k 0) (K.value w.0.cost)) (costs K (drop j net.ways) (drop (k + 1) f))) (sym (add-one k))
        ∙ ap₂ (λ m y. K.group.plus (times K.group m (K.value y)) (costs K (drop (k + 1) net.ways) (drop (k + 1) f))) (sym e) w.2

    pub summed_more : k < length f → n ≡ get_or f k 0 → (c part d : C) → Summed k c → n ≤ light → K.weighs x ≤ light →
        K.value part ≡ times K.group n (K.value x) → K.weighs part ≤ n * K.weighs x → K.value d ≡ K.group.plus (K.value c) (K.value part) → Summed (k + 1) d
    summed_more l e c part d s few small made lighter sum = record {
      so_far = ap (λ z. K.group.plus z (costs K (drop (k + 1) net.ways) (drop (k + 1) f))) sum
          ∙ K.group.assoc _ _ _
          ∙ ap (λ z. K.group.plus (K.value c) (K.group.plus z (costs K (drop (k + 1) net.ways) (drop (k + 1) f)))) made
          ∙ ap (K.group.plus (K.value c)) (sym (costs_at l e))
          ∙ s.so_far;
      weight = omega (arith, s.weight, part_light n x part few small lighter, K.sum_weighs c part d sum);
    }

-- for an open plan each step of the sum is made
module _ {C R : Type 0} (K : Kind C R) (net : Net C) {s : State} (stands : Standing K net s) (k : ℕ) (on : k < length net.ways) where
  pub loaded : length s.loads ≤ k → ⊥
  loaded l = omega (arith, keeps_long net s.loads stands.keeps, l, on)

  pub part_made : (n : ℕ) (x : C) → Some x ≡ cost_of (slice_get net.ways k) → n ≡ get_or s.loads k 0 → (light < n) ⊎ (light < K.weighs x) → ⊥
  part_made n x at e either =
      let w = way_of (slice_get net.ways k) x at in
      ⊎_elim (λ l. omega (arith, l, e, load_small K net stands k))
      (λ l. omega (arith, l, ap K.weighs w.2, (stands.passed.fair k w.0 w.1).weight)) either

  pub sum_made : (n : ℕ) (x part c : C) → n ≤ light → K.weighs x ≤ light → K.weighs part ≤ n * K.weighs x → Summed K net s.loads k c →
      heaviest < K.weighs c + K.weighs part → ⊥
  sum_made n x part c few small lighter sum over = omega (arith, over, on, stands.passed.ways, sum.weight, part_light K net s.loads n x part few small lighter)

-- none is answered, and the plan does not stand
pub unmade : {C R : Type 0} (K : Kind C R) (net : Net C) (s : State) (r : Option C) → r ≡ None → (Standing K net s → ⊥) →
    MatchOption r (Standing K net s → ⊥) (λ c. K.value c ≡ costs K net.ways s.loads)
unmade K net s r e n = subst (λ o. MatchOption o (Standing K net s → ⊥) (λ c. K.value c ≡ costs K net.ways s.loads)) (sym e) n
