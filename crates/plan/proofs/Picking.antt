-- One place more changes the pick if it wants something and is cheaper.
use Rattle.std.proofs.Common.{◌≡◌, ℕ, zero, suc, ◌+◌, ◌<◌, Bool, true, false, cond, ◌⊎◌, List, [], ◌∷◌, length, get_or, ℤ, pos, ◌≤ℤ◌, ◌<ℤ◌, Some, None, Option, sym, refl, ap, ◌∙◌, subst, inl, inr, ⊎_elim, arith}
use Rattle.std.specs.List.{slice_get}
use Rattle.std.specs.Option.{option_map}
use Rattle.std.proofs.lemmas.Bool.{cases_lt}
use Rattle.std.proofs.lemmas.Int.{ints}
use Rattle.costs.specs.Group.{Below}
use Rattle.costs.specs.Kind.{Kind, values}
use Rattle.plan.specs.declared.note.Note.{Note}
use Rattle.plan.specs.declared.note.Note.TheVariants.{Unseen}
use Rattle.plan.specs.Entries.{Work, is_seen, tables}
use Rattle.plan.specs.Picks.{Wants, NoneWants, Cheapest, Picked}

-- a number below n + 1 is below n, or n
last_or : (v n : ℕ) → v < n + 1 → (v < n) ⊎ (v ≡ n)
last_or v n l = ⊎_elim (λ h. inl h) (λ h. inr (omega arith)) (cases_lt v n)

-- some value stands there
pub some_value : {C R : Type 0} (K : Kind C R) (rows : List R) (v : ℕ) → v < length rows → (x : K.group.Carrier) × (option_map (values K) (slice_get rows v) ≡ Some x)
some_value K [] v l = absurd (omega arith)
some_value K (r ∷ rows) zero l = (values K r, refl)
some_value K (r ∷ rows) (suc v) l = some_value K rows v (omega arith)

module _ {C R : Type 0} (K : Kind C R) (rests : List ℤ) (rows : List R) (notes : List Note) (v : ℕ) where
  abbrev Tables : Work R
  Tables = tables rows notes

  pub wants_by : (x : K.group.Carrier) → get_or rests v (pos 0) <ℤ pos 0 → is_seen (get_or notes v Unseen) ≡ true → option_map (values K) (slice_get rows v) ≡ Some x → Wants K rests Tables v x
  wants_by x n s e = record { negative = n; is = ap (λ b. cond b (option_map (values K) (slice_get rows v)) None) s ∙ e }

  pub has_rest : (x : K.group.Carrier) → pos 0 ≤ℤ get_or rests v (pos 0) → Wants K rests Tables v x → ⊥
  has_rest x h w = let n = w.negative in omega (arith, ints)

  pub not_seen : (x : K.group.Carrier) → is_seen (get_or notes v Unseen) ≡ false → Wants K rests Tables v x → ⊥
  not_seen x s w =
      let e : None ≡ Some x = sym (ap (λ b. cond b (option_map (values K) (slice_get rows v)) None) s) ∙ w.is in
      cc

  pub wanted_value : (x : K.group.Carrier) → Wants K rests Tables v x → option_map (values K) (slice_get rows v) ≡ Some x
  wanted_value x w = by_mark (is_seen (get_or notes v Unseen)) w.is
    where
      by_mark : (b : Bool) → cond b (option_map (values K) (slice_get rows v)) None ≡ Some x → option_map (values K) (slice_get rows v) ≡ Some x
      by_mark true h = h
      by_mark false h = cc

  one_entry : (x y : K.group.Carrier) → Wants K rests Tables v x → Wants K rests Tables v y → x ≡ y
  one_entry x y p q = let a = p.is in let b = q.is in (cc)

  -- v wants nothing
  pub skipped : (o : Option ℕ) → ((x : K.group.Carrier) → Wants K rests Tables v x → ⊥) → Picked K rests Tables v o → Picked K rests Tables (v + 1) o
  skipped None never p = λ w x l h. ⊎_elim (λ m. p w x m h) (λ e. never x (subst (λ u. Wants K rests Tables u x) e h)) (last_or w v l)
  skipped (Some b) never p = record {
    value = p.value;
    place = (let l = p.place in omega arith);
    wants = p.wants;
    cheapest = λ w x l h. ⊎_elim (λ m. p.cheapest w x m h) (λ e. absurd (never x (subst (λ u. Wants K rests Tables u x) e h))) (last_or w v l);
    lowest = p.lowest;
  }

  module _ (x : K.group.Carrier) (here : Wants K rests Tables v x) where
    same : (w : ℕ) (z : K.group.Carrier) → w ≡ v → Wants K rests Tables w z → x ≡ z
    same w z e h = one_entry x z here (subst (λ u. Wants K rests Tables u z) e h)

    -- v is the first that wants something
    pub first : NoneWants K rests Tables v → Cheapest K rests Tables (v + 1) v
    first none = record {
      value = x;
      place = omega arith;
      wants = here;
      cheapest = λ w z l h. ⊎_elim (λ m. absurd (none w z m h)) (λ e. subst (K.group.le x) (same w z e h) (K.group.refl_le x)) (last_or w v l);
      lowest = λ w l h. none w x l h;
    }

    -- v is cheaper than the pick so far
    pub taken : (b : ℕ) (p : Cheapest K rests Tables v b) → Below K.group x p.value → Cheapest K rests Tables (v + 1) v
    taken b p less = record {
      value = x;
      place = omega arith;
      wants = here;
      cheapest = λ w z l h. ⊎_elim (λ m. K.group.trans _ _ _ less.0 (p.cheapest w z m h)) (λ e. subst (K.group.le x) (same w z e h) (K.group.refl_le x)) (last_or w v l);
      lowest = λ w l h. less.1 (K.group.antisym _ _ less.0 (p.cheapest w x l h));
    }

    -- v is not
    pub left : (b : ℕ) (p : Cheapest K rests Tables v b) → K.group.le p.value x → Cheapest K rests Tables (v + 1) b
    left b p more = record {
      value = p.value;
      place = (let l = p.place in omega arith);
      wants = p.wants;
      cheapest = λ w z l h. ⊎_elim (λ m. p.cheapest w z m h) (λ e. subst (K.group.le p.value) (same w z e h) more) (last_or w v l);
      lowest = p.lowest;
    }
