-- From what the calls in `relax` answered to a sweep of one step.
use Rattle.std.proofs.Common.{◌≡◌, ℕ, ◌<◌, Bool, true, false, cond, length, get_or, Some, None, sym, ap, ◌∙◌, subst, arith}
use Rattle.costs.specs.Group.{Below}
use Rattle.costs.specs.Kind.{Kind, values, weights}
use Rattle.plan.specs.declared.note.Note.TheVariants.{Unseen}
use Rattle.plan.specs.declared.step.Step.{Step}
use Rattle.plan.specs.Entries.{Work, Holds, Most, Better, is_seen, noted, write, entry}
use Rattle.plan.specs.Sweeps.{Swept, One}
use Rattle.plan.proofs.Noting.{noted_read, noted_unseen}
use Rattle.plan.proofs.Sweeping.{swept_none, swept_one}

-- what a place gives that was come to, and whose row was read
pub read_at : {R A : Type 0} (f : R → A) (t : Work R) (v : ℕ) (r : R) → v < length t.rows → r ≡ get_or t.rows v r → is_seen (get_or t.notes v Unseen) ≡ true → noted f t v ≡ Some (f r)
read_at f t v r l e m = noted_read f t v r l e ∙ ap (λ b. cond b (Some (f r)) None) m

module _ {C R : Type 0} (K : Kind C R) (t : Work R) (s : Step) (u v : ℕ) (cost : C) where
  abbrev Done : Bool → Work R → Type 0
  Done b t' = Swept K (One K s u v (K.value cost)) (One K s u v (K.value cost)) (K.weighs cost) t t' b

  -- there is nothing to go on from
  pub unseen : is_seen (get_or t.notes u Unseen) ≡ false → Done false t
  unseen m =
      swept_none K (K.weighs cost) t
      (λ s' u' v' c' x d e.
      let eu : u' ≡ u = d.1 in
      let none : None ≡ Some x = sym (noted_unseen (values K) t u m) ∙ ap (entry K t) (sym eu) ∙ e in
      cc)

  module _ (near next : C) (near-is : entry K t u ≡ Some (K.value near)) (sum : K.value next ≡ K.group.plus (K.value near) (K.value cost)) where
    -- the entry of v is no greater
    pub unlowered : Most K.group (entry K t v) (K.value next) → Done false t
    unlowered m =
        swept_none K (K.weighs cost) t
        (λ s' u' v' c' x d e.
        let eu : u' ≡ u = d.1 in
        let ev : v' ≡ v = d.2 in
        let ec : c' ≡ K.value cost = d.3 in
        let some : Some (K.value near) ≡ Some x = sym near-is ∙ ap (entry K t) (sym eu) ∙ e in
        let ex : K.value near ≡ x = cc in
        let total : K.value next ≡ K.group.plus x c' = cc in
        subst (λ y. Most K.group (entry K t v') y) total (subst (λ i. Most K.group (entry K t i) (K.value next)) (sym ev) m))

    pub lowered : (r : R) → Holds t v → noted (weights K) t u ≡ Some (K.weighs near) → K.reads r ≡ next → Better K.group (entry K t v) (K.value next)
        → Done true (write t v r s)
    lowered r h heavy e better =
        let row : values K r ≡ K.value next = ap K.value e in
        swept_one K s u v (K.value cost) (K.value near) (K.weighs cost) (K.weighs near) t r near-is heavy h (row ∙ sum)
        (λ x had. subst (λ y. Below K.group y x) (sym row) (better x had))
        (omega (arith, ap K.weighs e, K.sum_weighs near cost next sum))
