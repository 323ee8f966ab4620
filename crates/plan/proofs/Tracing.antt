-- The steps that are noted lead back: along a step without slack the rank falls.
use Rattle.std.proofs.Common.{◌≡◌, ℕ, ◌+◌, ◌<◌, cond, eqb, List, Some, sym, refl, ap, ◌∙◌, subst, inl, inr, ⊎_elim, arith}
use Rattle.std.proofs.lemmas.Bool.{cases_eq, eq-eqb, ne_eqb, cond-true, cond-false}
use Rattle.costs.specs.Group.{Group, Below}
use Rattle.costs.specs.Kind.{Kind, values}
use Rattle.networks.specs.Net.{Net}
use Rattle.plan.specs.declared.note.Note.TheVariants.{Via}
use Rattle.plan.specs.declared.step.Step.{Step}
use Rattle.plan.specs.Entries.{Work, Holds, Better, write, entry}
use Rattle.plan.specs.Rounds.{Came, Traced}
use Rattle.plan.specs.Steps.{Gives}
use Rattle.plan.specs.Sweeps.{Moves, Left}
use Rattle.plan.specs.Sweeps.Moves.{stay, move}
use Rattle.plan.proofs.Costs.{undo}
use Rattle.plan.proofs.Noting.{nth_set_same, nth_set_other, noted_same, noted_other}

cancel : (G : Group) (x y z : G.Carrier) → G.plus x z ≡ G.plus y z → x ≡ y
cancel G x y z e = sym (undo G x z) ∙ ap (λ w. G.plus w (G.opp z)) e ∙ undo G y z

module _ {C R : Type 0} (K : Kind C R) (net : Net C) (loads : List ℕ) (t : Work R) where
  abbrev G : Group
  G = K.group

  -- v was written from u
  module _ (t' : Work R) (old : Traced K net loads t t') (s : Step) (u v : ℕ) (c x : G.Carrier) (room : ℕ) (gives : Gives K net loads s u v c room)
      (near : entry K t' u ≡ Some x) (h : Holds t' v) (r : R) (sum : values K r ≡ G.plus x c) (better : Better G (entry K t' v) (values K r)) where
    abbrev after : Work R
    after = write t' v r s

    abbrev new : G.Carrier
    new = values K r

    abbrev rank : ℕ → ℕ
    rank w = cond (eqb w v) (old.rank u + 1) (old.rank w)

    rank_here : rank v ≡ old.rank u + 1
    rank_here = cond-true (eqb v v) (old.rank u + 1) (old.rank v) (eq-eqb v v refl)

    rank_other : (w : ℕ) → (w ≡ v → ⊥) → rank w ≡ old.rank w
    rank_other w ne = cond-false (eqb w v) (old.rank u + 1) (old.rank w) (ne_eqb w v ne)

    here : (w : ℕ) → w ≡ v → entry K after w ≡ Some new
    here w q = ap (entry K after) q ∙ noted_same (values K) t' v r s h

    -- what leaves v has slack now
    slack : (z d : G.Carrier) → entry K t' v ≡ Some z → Below G (G.plus new d) (G.plus z d)
    slack z d e =
        let b = better z e in
        (G.shift new z d b.0, λ q. b.1 (cancel G new z d q))

    came_here : (y : G.Carrier) → new ≡ y → Came K net loads after rank v y
    came_here y e =
        let full : y ≡ G.plus x c = sym e ∙ sum in
        let base : (z : G.Carrier) → entry K after u ≡ Some z → G.le (G.plus z c) y → (G.plus z c ≡ y → rank u < rank v) → Came K net loads after rank v y = λ z is above falls. record {
          step = s;
          from = u;
          cost = c;
          room = room;
          value = z;
          note = nth_set_same t'.notes v (Via s) h.notes;
          gives = gives;
          is = is;
          above = above;
          falls = falls;
        } in
        ⊎_elim
        (λ (q : u ≡ v).
        let b = slack x c (ap (entry K t') (sym q) ∙ near) in
        base new (here u q) (subst (G.le (G.plus new c)) (sym full) b.0) (λ p. absurd (b.1 (p ∙ full))))
        (λ (q : u ≡ v → ⊥).
        base x (noted_other (values K) t' v u r s q ∙ near) (subst (G.le (G.plus x c)) (sym full) (G.refl_le (G.plus x c)))
        (λ _. omega (arith, rank_here, rank_other u q)))
        (cases_eq u v)

    came_other : (w : ℕ) (y : G.Carrier) → (w ≡ v → ⊥) → Came K net loads t' old.rank w y → Came K net loads after rank w y
    came_other w y ne k =
        let base : (z : G.Carrier) → entry K after k.from ≡ Some z → G.le (G.plus z k.cost) y → (G.plus z k.cost ≡ y → rank k.from < rank w) → Came K net loads after rank w y = λ z is above falls. record {
          step = k.step;
          from = k.from;
          cost = k.cost;
          room = k.room;
          value = z;
          note = nth_set_other t'.notes v w (Via s) ne ∙ k.note;
          gives = k.gives;
          is = is;
          above = above;
          falls = falls;
        } in
        ⊎_elim
        (λ (q : k.from ≡ v).
        let b = slack k.value k.cost (ap (entry K t') (sym q) ∙ k.is) in
        let low = G.plus new k.cost in
        let high = G.plus k.value k.cost in
        base new (here k.from q) (G.trans low high y b.0 k.above)
        (λ p. absurd (b.1 (G.antisym low high b.0 (subst (G.le high) (sym p) k.above)))))
        (λ (q : k.from ≡ v → ⊥).
        base k.value (noted_other (values K) t' v k.from r s q ∙ k.is) k.above
        (λ p. omega (arith, k.falls p, rank_other k.from q, rank_other w ne)))
        (cases_eq k.from v)

    pub traced_more : Traced K net loads t after
    traced_more = record {
      rank = rank;
      each = λ w y e. ⊎_elim
          (λ (q : w ≡ v).
          let some : Some new ≡ Some y = sym (here w q) ∙ e in
          let is : new ≡ y = cc in
          inr (subst (λ i. Came K net loads after rank i y) (sym q) (came_here y is)))
          (λ (q : w ≡ v → ⊥). ⊎_elim
          (λ p. inl (p.0, nth_set_other t'.notes v w (Via s) q ∙ p.1))
          (λ k. inr (came_other w y q k))
          (old.each w y (sym (noted_other (values K) t' v w r s q) ∙ e)))
          (cases_eq w v);
    }

  pub moves_traced : {t' : Work R} → Moves K (Left K net loads) t t' → Traced K net loads t t'
  moves_traced stay = record { rank = λ _. 0; each = λ v y e. inl (e, refl) }
  moves_traced (move {t'} m s u v c x a near h r sum better) = traced_more t' (moves_traced m) s u v c x a.0 a.1 near h r sum better
