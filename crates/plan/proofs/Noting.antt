-- Entries of work tables, before and after a write.
use Rattle.std.proofs.Common.{◌≡◌, ℕ, zero, suc, ◌<◌, ◌≤◌, Bool, true, false, cond, ◌≢◌, List, [], ◌∷◌, length, get_or, set, replicate, Some, None, sym, refl, ap, ◌∙◌, ap₂, ⊎_elim, arith}
use Rattle.std.specs.List.{slice_get}
use Rattle.std.specs.Option.{option_map}
use Rattle.std.proofs.lemmas.List.{get_or-set_same, get_or-set_other, get_or-replicate, length-replicate}
use Rattle.std.proofs.lemmas.Option.{slice_get-get_or, slice_get_read, slice_get_past}
use Rattle.std.proofs.lemmas.Bool.{cases_lt}
use Rattle.plan.specs.declared.note.Note.TheVariants.{Unseen, Via}
use Rattle.plan.specs.declared.step.Step.{Step}
use Rattle.plan.specs.Entries.{Work, Holds, is_seen, noted, write}

pub nth_set_same : {X : Type 0} (xs : List X) (i : ℕ) (y : X) → i < length xs → slice_get (set xs i y) i ≡ Some y
nth_set_same [] i y l = absurd (omega arith)
nth_set_same (x ∷ xs) zero y l = refl
nth_set_same (x ∷ xs) (suc i) y l = nth_set_same xs i y (omega arith)

pub nth_set_other : {X : Type 0} (xs : List X) (i j : ℕ) (y : X) → j ≢ i → slice_get (set xs i y) j ≡ slice_get xs j
nth_set_other [] i j y ne = refl
nth_set_other (x ∷ xs) zero zero y ne = absurd (ne refl)
nth_set_other (x ∷ xs) zero (suc j) y ne = refl
nth_set_other (x ∷ xs) (suc i) zero y ne = refl
nth_set_other (x ∷ xs) (suc i) (suc j) y ne = nth_set_other xs i j y (λ e. ne (ap suc e))

pub nth_replicate : {X : Type 0} (n v : ℕ) (x : X) → v < n → slice_get (replicate n x) v ≡ Some x
nth_replicate n v x l =
    slice_get-get_or (replicate n x) v x (omega (arith, l, length-replicate n x)) ∙ ap (λ y. Some y) (get_or-replicate n v x x l)

module _ {R A : Type 0} (f : R → A) (t : Work R) where
  pub noted_read : (v : ℕ) (r : R) → v < length t.rows → r ≡ get_or t.rows v r → noted f t v ≡ cond (is_seen (get_or t.notes v Unseen)) (Some (f r)) None
  noted_read v r l e = ap (λ o. cond (is_seen (get_or t.notes v Unseen)) (option_map f o) None) (slice_get_read t.rows (length t.rows) v r refl l e)

  pub noted_unseen : (v : ℕ) → is_seen (get_or t.notes v Unseen) ≡ false → noted f t v ≡ None
  noted_unseen v m = ap (λ b. cond b (option_map f (slice_get t.rows v)) None) m

  pub noted_same : (v : ℕ) (r : R) (s : Step) → Holds t v → noted f (write t v r s) v ≡ Some (f r)
  noted_same v r s h =
      ap₂ (λ m o. cond (is_seen m) (option_map f o) None) (get_or-set_same t.notes v (Via s) Unseen h.notes) (nth_set_same t.rows v r h.rows)

  pub noted_other : (v w : ℕ) (r : R) (s : Step) → w ≢ v → noted f (write t v r s) w ≡ noted f t w
  noted_other v w r s ne =
      ap₂ (λ m o. cond (is_seen m) (option_map f o) None) (get_or-set_other t.notes v w (Via s) Unseen ne) (nth_set_other t.rows v w r ne)

  nothing : (b : Bool) (x : A) → cond b None None ≡ Some x → ⊥
  nothing true x e = cc
  nothing false x e = cc

  -- only a place on the tables has an entry
  pub noted_within : (v : ℕ) (x : A) → noted f t v ≡ Some x → v < length t.rows
  noted_within v x e =
      ⊎_elim (λ l. l)
      (λ (h : length t.rows ≤ v). absurd (nothing (is_seen (get_or t.notes v Unseen)) x (sym (ap (λ o. cond (is_seen (get_or t.notes v Unseen)) (option_map f o) None) (slice_get_past t.rows v h)) ∙ e)))
      (cases_lt v (length t.rows))
