-- From a step that was relaxed to the steps that the loads leave.
use Rattle.std.proofs.Common.{◌≡◌, ℕ, ◌+◌, ◌<◌, ◌≤◌, Bool, false, ◌||◌, ◌⊎◌, List, length, sym, ap, subst, inl, inr, ⊎_elim, arith}
use Rattle.std.proofs.lemmas.Bool.{cases_eq}
use Rattle.std.proofs.lemmas.Option.{slice_get_within}
use Rattle.costs.specs.Kind.{Kind}
use Rattle.networks.specs.Net.{Net}
use Rattle.plan.specs.declared.step.Step.{Step}
use Rattle.plan.specs.declared.step.Step.TheVariants.{Ahead, Back}
use Rattle.plan.specs.Entries.{Work}
use Rattle.plan.specs.Legs.{IsShut}
use Rattle.plan.specs.Steps.{Gives}
use Rattle.plan.specs.Sweeps.{Swept, Arcs, One, Left, By, Among, way_of}
use Rattle.plan.proofs.Legs.{gives_known}
use Rattle.plan.proofs.Sweeping.{swept_as, swept_join, swept_none}
use Rattle.plan.proofs.Walks.{one_step}

module _ {C R : Type 0} (K : Kind C R) (net : Net C) (loads : List ℕ) where
  abbrev Tried : Step → ℕ → Work R → Work R → Bool → Type 0
  Tried s n t t' b = Swept K (By K net loads s) (By K net loads s) n t t' b

  -- the step leads nowhere
  pub tried_none : (s : Step) (t : Work R) → IsShut K net loads s → Tried s 1000000 t t false
  tried_none s t shut = swept_none K 1000000 t (λ s' u v c x d e. absurd (shut u v c d.1.0 (subst (λ z. Gives K net loads z u v c d.1.0) d.0 d.1.1)))

  -- equal places and costs, the same step
  moved : (A : Arcs K) {s s' : Step} {u u' v v' : ℕ} {c c' : K.group.Carrier} → s' ≡ s → u' ≡ u → v' ≡ v → c' ≡ c → A s u v c → A s' u' v' c'
  moved A {s} {s'} {u} {u'} {v} {v'} {c} {c'} es eu ev ec a =
      subst (λ x. A x u' v' c') (sym es) (subst (λ x. A s x v' c') (sym eu) (subst (λ x. A s u x c') (sym ev) (subst (λ x. A s u v x) (sym ec) a)))

  -- it leads somewhere, and there alone
  pub tried_one : {s : Step} {u v r : ℕ} {c : K.group.Carrier} → Gives K net loads s u v c r → (n : ℕ) {t t' : Work R} {b : Bool} →
      Swept K (One K s u v c) (One K s u v c) n t t' b → Tried s n t t' b
  tried_one {s} {u} {v} {r} {c} g n p =
      swept_as K
      (λ s' u' v' c' d. (d.0, moved (Left K net loads) d.0 d.1 d.2 d.3 (r, g)))
      (λ s' u' v' c' d.
      let i = one_step K net loads (subst (λ z. Gives K net loads z u' v' c' d.1.0) d.0 d.1.1) g in
      (d.0, i.0, i.1, i.2))
      p

  pub along : (s : Step) (k : ℕ) → way_of s ≡ k → (s ≡ Ahead k) ⊎ (s ≡ Back k)
  along (Ahead j) k e = inl (ap (λ i. Ahead i) e)
  along (Back j) k e = inr (ap (λ i. Back i) e)

  -- one way more of a scan
  pub sweep_more : (k n : ℕ) (t t₁ t₂ t₃ : Work R) (a b d : Bool)
      → Swept K (Left K net loads) (Among K k (Left K net loads)) n t t₁ a → Tried (Ahead k) 1000000 t₁ t₂ b → Tried (Back k) 1000000 t₂ t₃ d
      → Swept K (Left K net loads) (Among K (k + 1) (Left K net loads)) (n + 1000000 + 1000000) t t₃ ((a || b) || d)
  sweep_more k n t t₁ t₂ t₃ a b d p q r =
      swept_as K (λ s u v c x. x)
      (λ s u v c x. ⊎_elim
      (λ e. ⊎_elim (λ h. inl (inr (h, x.1))) (λ h. inr (h, x.1)) (along s k e))
      (λ (ne : way_of s ≡ k → ⊥). inl (inl (omega (arith, x.0), x.1)))
      (cases_eq (way_of s) k))
      (swept_join K (n + 1000000) 1000000 t t₂ t₃ (a || b) d
      (swept_join K n 1000000 t t₁ t₂ a b p (swept_as K (λ s u v c x. x.1) (λ s u v c x. x) q))
      (swept_as K (λ s u v c x. x.1) (λ s u v c x. x) r))

  pub gives_way : {s : Step} {u v : ℕ} {c : K.group.Carrier} {r : ℕ} → Gives K net loads s u v c r → way_of s < length net.ways
  gives_way {s} g = let w = gives_known K net loads g in slice_get_within net.ways (way_of s) w.0 w.1

  -- at the end every way was tried
  pub sweep_all : (n : ℕ) → length net.ways ≤ n → (m : ℕ) {t t' : Work R} {b : Bool}
      → Swept K (Left K net loads) (Among K n (Left K net loads)) m t t' b → Swept K (Left K net loads) (Left K net loads) m t t' b
  sweep_all n l m p = swept_as K (λ s u v c x. x) (λ s u v c x. (omega (arith, gives_way x.1), x)) p
