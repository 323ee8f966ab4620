-- What the laws of an ordered group give of sweeps: none, one, one after another.
use Rattle.std.proofs.Common.{◌≡◌, ℕ, ◌+◌, ◌≤◌, Bool, true, false, ◌||◌, ◌⊎◌, Some, Option, sym, refl, ap, ◌∙◌, subst, ⊎_elim, arith}
use Rattle.std.proofs.lemmas.List.{length-set}
use Rattle.std.proofs.lemmas.Bool.{cases_eq, or_cases, or_parts, false≢true}
use Rattle.costs.specs.Group.{Group, Below}
use Rattle.costs.specs.Kind.{Kind, values, weights}
use Rattle.plan.specs.declared.note.Note.TheVariants.{Via}
use Rattle.plan.specs.declared.step.Step.{Step}
use Rattle.plan.specs.Entries.{Work, Holds, Most, Better, noted, write, entry, Under}
use Rattle.plan.specs.Rounds.{Kept}
use Rattle.plan.specs.Sweeps.{Arcs, Moves, Lower, Swept, One}
use Rattle.plan.specs.Sweeps.Moves.{stay, move}
use Rattle.plan.proofs.Noting.{noted_same, noted_other}

module _ (G : Group) where
  pub most_is : {o : Option G.Carrier} {x : G.Carrier} → o ≡ Some x → Most G o x
  most_is {o} {x} e = record { value = x; is = e; most = G.refl_le x }

  pub most_le : {o : Option G.Carrier} {x y : G.Carrier} → Most G o x → G.le x y → Most G o y
  most_le {o} {x} {y} m l = record { value = m.value; is = m.is; most = G.trans m.value x y m.most l }

  pub below_le : (x y z : G.Carrier) → Below G x y → G.le y z → Below G x z
  below_le x y z b l = (G.trans x y z b.0 l, λ e. b.1 (G.antisym x y b.0 (subst (λ w. G.le y w) (sym e) l)))

  pub le_below : (x y z : G.Carrier) → G.le x y → Below G y z → Below G x z
  le_below x y z l b = (G.trans x y z l b.0, λ e. b.1 (G.antisym y z b.0 (subst (λ w. G.le w y) e l)))

module _ {C R : Type 0} (K : Kind C R) where
  abbrev G : Group
  G = K.group

  module _ {may : Arcs K} {t : Work R} where
    -- no entry goes or rises
    pub moves_grow : {t' : Work R} → Moves K may t t' → (w : ℕ) (x : G.Carrier) → entry K t w ≡ Some x → Most G (entry K t' w) x
    moves_grow stay w x e = most_is G e
    moves_grow (move {t'} m s u v c y a near h r sum better) w x e =
        let b = moves_grow m w x e in
        ⊎_elim
        (λ (q : w ≡ v).
        let now : entry K (write t' v r s) w ≡ Some (values K r) = ap (entry K (write t' v r s)) q ∙ noted_same (values K) t' v r s h in
        most_le G (most_is G now) (G.trans (values K r) b.value x (better b.value (ap (entry K t') (sym q) ∙ b.is)).0 b.most))
        (λ (q : w ≡ v → ⊥). record { value = b.value; is = noted_other (values K) t' v w r s q ∙ b.is; most = b.most })
        (cases_eq w v)

    pub moves_kept : {t' : Work R} → Moves K may t t' → Kept t t'
    moves_kept stay = record { rows = refl; notes = refl }
    moves_kept (move {t'} m s u v c y a near h r sum better) =
        let k = moves_kept m in
        record { rows = length-set t'.rows v r ∙ k.rows; notes = length-set t'.notes v (Via s) ∙ k.notes }

    pub moves_join : {t' t'' : Work R} → Moves K may t t' → Moves K may t' t'' → Moves K may t t''
    moves_join m stay = m
    moves_join m (move n s u v c y a near h r sum better) = move (moves_join m n) s u v c y a near h r sum better

  pub moves_map : {A B : Arcs K} {t t' : Work R} → ((s : Step) (u v : ℕ) (c : G.Carrier) → A s u v c → B s u v c) → Moves K A t t' → Moves K B t t'
  moves_map to stay = stay
  moves_map to (move m s u v c y a near h r sum better) = move (moves_map to m) s u v c y (to s u v c a) near h r sum better

  -- a sweep that may use more and has met less
  pub swept_as : {may may' done done' : Arcs K} {more : ℕ} {t t' : Work R} {b : Bool}
      → ((s : Step) (u v : ℕ) (c : G.Carrier) → may s u v c → may' s u v c) → ((s : Step) (u v : ℕ) (c : G.Carrier) → done' s u v c → done s u v c)
      → Swept K may done more t t' b → Swept K may' done' more t t' b
  swept_as to from s = record {
    moves = moves_map to s.moves;
    met = λ j u v c x d. s.met j u v c x (from j u v c d);
    same = s.same;
    lower = s.lower;
    weight = s.weight;
  }

  pub swept_within : {may done : Arcs K} (n m : ℕ) → n ≤ m → {t t' : Work R} {b : Bool} → Swept K may done n t t' b → Swept K may done m t t' b
  swept_within n m h s = record {
    moves = s.moves;
    met = s.met;
    same = s.same;
    lower = s.lower;
    weight = λ b under v w e. omega (arith, s.weight b under v w e);
  }

  -- one sweep after another
  module _ {may done done' : Arcs K} (n m : ℕ) (t t' t'' : Work R) (a b : Bool) (p : Swept K may done n t t' a) (q : Swept K may done' m t' t'' b) where
    met_join : (s : Step) (u v : ℕ) (c x : G.Carrier) → done s u v c ⊎ done' s u v c → entry K t u ≡ Some x → Most G (entry K t'' v) (G.plus x c)
    met_join s u v c x d e =
        ⊎_elim
        (λ d.
        let first = p.met s u v c x d e in
        most_le G (moves_grow q.moves v first.value first.is) first.most)
        (λ d.
        let near = moves_grow p.moves u x e in
        most_le G (q.met s u v c near.value d near.is) (G.shift near.value x c near.most))
        d

    lower_join : (a || b) ≡ true → Lower K t t''
    lower_join e =
        ⊎_elim
        (λ h.
        let l = p.lower h in
        let far = moves_grow q.moves l.place l.value l.is in
        record {
          place = l.place;
          value = far.value;
          is = far.is;
          better = λ x had. le_below G far.value l.value x far.most (l.better x had);
        })
        (λ h.
        let l = q.lower h in
        record {
          place = l.place;
          value = l.value;
          is = l.is;
          better = λ x had.
              let mid = moves_grow p.moves l.place x had in
              below_le G l.value mid.value x (l.better mid.value mid.is) mid.most;
        })
        (or_cases a b e)

    pub swept_join : Swept K may (λ s u v c. done s u v c ⊎ done' s u v c) (n + m) t t'' (a || b)
    swept_join = record {
      moves = moves_join p.moves q.moves;
      met = met_join;
      same = λ e.
          let parts = or_parts a b e in
          q.same parts.1 ∙ p.same parts.0;
      lower = lower_join;
      weight = λ w under v x e. omega (arith, q.weight (w + n) (p.weight w under) v x e);
    }

  -- nothing had to be written
  pub swept_none : {may done : Arcs K} (more : ℕ) (t : Work R)
      → ((s : Step) (u v : ℕ) (c x : G.Carrier) → done s u v c → entry K t u ≡ Some x → Most G (entry K t v) (G.plus x c))
      → Swept K may done more t t false
  swept_none more t h = record {
    moves = stay;
    met = h;
    same = λ _. refl;
    lower = λ e. absurd (false≢true e);
    weight = λ b under v w e. omega (arith, under v w e);
  }

  -- one entry was written
  module _ (s : Step) (u v : ℕ) (c x : G.Carrier) (more w : ℕ) (t : Work R) (r : R) (near : entry K t u ≡ Some x) (heavy : noted (weights K) t u ≡ Some w)
      (h : Holds t v) (sum : values K r ≡ G.plus x c) (better : Better G (entry K t v) (values K r)) (light : weights K r ≤ w + more) where
    abbrev after : Work R
    after = write t v r s

    met_one : (s' : Step) (u' v' : ℕ) (c' x' : G.Carrier) → One K s u v c s' u' v' c' → entry K t u' ≡ Some x' → Most G (entry K after v') (G.plus x' c')
    met_one s' u' v' c' x' d e =
        let eu : u' ≡ u = d.1 in
        let ec : c' ≡ c = d.3 in
        let some : Some x ≡ Some x' = sym near ∙ ap (entry K t) (sym eu) ∙ e in
        let ex : x ≡ x' = cc in
        let total : values K r ≡ G.plus x' c' = cc in
        most_is G (ap (entry K after) d.2 ∙ noted_same (values K) t v r s h ∙ ap (λ y. Some y) total)

    weight_one : (b : ℕ) → Under K t b → Under K after (b + more)
    weight_one b under v' y e =
        ⊎_elim
        (λ (q : v' ≡ v).
        let some : Some (weights K r) ≡ Some y = sym (noted_same (weights K) t v r s h) ∙ ap (noted (weights K) after) (sym q) ∙ e in
        let z : weights K r ≡ y = cc in
        omega (arith, under u w heavy))
        (λ (q : v' ≡ v → ⊥). omega (arith, under v' y (sym (noted_other (weights K) t v v' r s q) ∙ e)))
        (cases_eq v' v)

    pub swept_one : Swept K (One K s u v c) (One K s u v c) more t after true
    swept_one = record {
      moves = move stay s u v c x (refl, refl, refl, refl) near h r sum better;
      met = met_one;
      same = λ e. absurd (false≢true (sym e));
      lower = λ _. record { place = v; value = values K r; is = noted_same (values K) t v r s h; better = better };
      weight = weight_one;
    }
