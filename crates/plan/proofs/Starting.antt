-- Notes and rows as they are set at the start give what the start promises.
use Rattle.std.proofs.Common.{◌≡◌, ℕ, zero, suc, ◌<◌, cond, ◌⊎◌, List, length, get_or, set, replicate, Some, None, sym, refl, ap, ◌∙◌, subst, ap₂, inl, inr, ⊎_elim, arith}
use Rattle.std.specs.List.{slice_get}
use Rattle.std.specs.Option.{option_map}
use Rattle.std.proofs.lemmas.Bool.{cases_eq, cases_lt}
use Rattle.std.proofs.lemmas.List.{get_or-set_other, get_or_past, length-replicate}
use Rattle.std.proofs.lemmas.Option.{get_or_from_slice_get}
use Rattle.costs.specs.Kind.{Kind, values, weights}
use Rattle.plan.specs.declared.note.Note.{Note}
use Rattle.plan.specs.declared.note.Note.TheVariants.{Unseen, Start}
use Rattle.plan.specs.declared.starts.Starts.{Starts}
use Rattle.plan.specs.declared.starts.Starts.TheVariants.{At, Everywhere}
use Rattle.plan.specs.Entries.{Work, is_seen, noted}
use Rattle.plan.specs.Starts.{Zeros, IsStart}
use Rattle.plan.proofs.Noting.{nth_set_same, nth_replicate, noted_unseen}

unseen : (n v : ℕ) → get_or (replicate n Unseen) v Unseen ≡ Unseen
unseen zero v = refl
unseen (suc n) zero = refl
unseen (suc n) (suc v) = unseen n v

-- the place where a search starts is on the tables
pub at_inside : (n u : ℕ) (s : Starts) → s ≡ At u → ((v : ℕ) → IsStart n s v → v < n) → u < n
at_inside n u s is h = h u (subst (λ z. IsStart n z u) (sym is) refl)

-- the starts are noted, with one row, and no other place is
module _ {R : Type 0} (starts : ℕ → Type 0) (t : Work R) (r : R)
    (on : (v : ℕ) → starts v → (slice_get t.notes v ≡ Some Start) × (slice_get t.rows v ≡ Some r))
    (off : (v : ℕ) → starts v ⊎ (get_or t.notes v Unseen ≡ Unseen))
  where
    here : {A : Type 0} (f : R → A) (v : ℕ) → starts v → noted f t v ≡ Some (f r)
    here f v s =
        let p = on v s in
        ap₂ (λ m o. cond (is_seen m) (option_map f o) None) (get_or_from_slice_get t.notes v Start Unseen p.0) p.1

    only : {A : Type 0} (f : R → A) (v : ℕ) (x : A) → noted f t v ≡ Some x → starts v × (x ≡ f r)
    only f v x e =
        ⊎_elim
        (λ s.
        let some : Some (f r) ≡ Some x = sym (here f v s) ∙ e in
        let is : x ≡ f r = cc in
        (s, is))
        (λ q.
        let none : None ≡ Some x = sym (noted_unseen f t v (ap is_seen q)) ∙ e in
        cc)
        (off v)

    pub zeros : {C : Type 0} (K : Kind C R) (z : C) → K.value z ≡ K.group.zero → r ≡ K.row_of z → Zeros K starts t
    zeros K z zero_is row_is =
        let reads : K.reads r ≡ z = ap K.reads row_is ∙ K.reads_back z in
        let worth : values K r ≡ K.group.zero = ap K.value reads ∙ zero_is in
        let heavy : weights K r ≡ 0 = ap K.weighs reads ∙ K.zero_weighs z zero_is in
        record {
          each = λ v s. here (values K) v s ∙ ap (λ y. Some y) worth;
          only = λ v x h. let p = only (values K) v x h in (p.0, p.1 ∙ worth);
          noted = λ v s. (on v s).0;
          weight = λ v w h. omega (arith, (only (weights K) v w h).1, heavy);
        }

module _ {C R : Type 0} (K : Kind C R) (z : C) (r : R) (zero_is : K.value z ≡ K.group.zero) (row_is : r ≡ K.row_of z) (n : ℕ) where
  -- one place is a start
  pub alone : (rows : List R) (notes : List Note) (u : ℕ) → notes ≡ replicate n Unseen → u < length rows → u < n →
      Zeros K (IsStart n (At u)) (record { rows = set rows u r; notes = set notes u Start })
  alone rows notes u e l m = subst (λ ns. Zeros K (IsStart n (At u)) (record { rows = set rows u r; notes = set ns u Start })) (sym e)
      (zeros (IsStart n (At u)) (record { rows = set rows u r; notes = set (replicate n Unseen) u Start }) r
      (λ v q. (
        ap (slice_get (set (replicate n Unseen) u Start)) q ∙ nth_set_same (replicate n Unseen) u Start (omega (arith, m, length-replicate n Unseen)),
        ap (slice_get (set rows u r)) q ∙ nth_set_same rows u r l,
      ))
      (λ v. ⊎_elim (λ q. inl q) (λ q. inr (get_or-set_other (replicate n Unseen) u v Start Unseen q ∙ unseen n v)) (cases_eq v u))
      K z zero_is row_is)

  -- every place is
  pub everywhere : (rows : List R) (notes : List Note) → ((v : ℕ) → v < n → slice_get rows v ≡ Some r) → notes ≡ replicate n Start → Zeros K (IsStart n Everywhere) (record { rows = rows; notes = notes })
  everywhere rows notes full e = subst (λ ns. Zeros K (IsStart n Everywhere) (record { rows = rows; notes = ns })) (sym e)
      (zeros (IsStart n Everywhere) (record { rows = rows; notes = replicate n Start }) r
      (λ v l. (nth_replicate n v Start l, full v l))
      (λ v. ⊎_elim (λ l. inl l) (λ l. inr (get_or_past (replicate n Start) v Unseen (omega (arith, l, length-replicate n Start)))) (cases_lt v n))
      K z zero_is row_is)
