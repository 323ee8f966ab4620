-- A search from the source of an open plan ends, and shows the next target.
use Rattle.std.proofs.Common.{◌≡◌, ℕ, zero, suc, ◌<◌, Bool, true, false, cond, List, [], ◌∷◌, length, take, ℤ, IfSome, Some, None, Option, sym, refl, ap, get_or, ◌∙◌, subst, ap₂, arith}
use Rattle.std.specs.List.{slice_get}
use Rattle.std.specs.Option.{option_map}
use Rattle.costs.specs.Kind.{Kind, values}
use Rattle.networks.specs.Net.{Net}
use Rattle.plan.specs.declared.note.Note.{Note}
use Rattle.plan.specs.declared.note.Note.TheVariants.{Unseen}
use Rattle.plan.specs.Entries.{Work, is_seen, tables, front, entry}
use Rattle.plan.specs.Nearest.{Nearest}
use Rattle.plan.specs.Picks.{Picked}
use Rattle.plan.specs.Searches.{Searched}
use Rattle.plan.specs.Standing.{Standing}
use Rattle.plan.specs.State.{State}
use Rattle.plan.specs.Steps.{Losing}
use Rattle.plan.proofs.Found.{target_by, stuck_by}
use Rattle.plan.proofs.Standing.{inside}
use Rattle.plan.proofs.Trailing.{distances_by}
use Rattle.plan.proofs.Walks.{no_losing, losing_by}

pub nth_front : {X : Type 0} (n : ℕ) (xs : List X) (v : ℕ) → v < n → slice_get (take n xs) v ≡ slice_get xs v
nth_front zero xs v l = absurd (omega arith)
nth_front (suc n) [] v l = refl
nth_front (suc n) (x ∷ xs) zero l = refl
nth_front (suc n) (x ∷ xs) (suc v) l = nth_front n xs v (omega arith)

-- the first n places have the same entries
entry_front : {C R : Type 0} (K : Kind C R) (n : ℕ) (t : Work R) (v : ℕ) → v < n → entry K (front n t) v ≡ entry K t v
entry_front K n t v l = ap (λ o. cond (is_seen (get_or t.notes v Unseen)) (option_map (values K) o) None) (nth_front n t.rows v l)

-- what is picked is among the places
pub within_by : {C R : Type 0} (K : Kind C R) (rests : List ℤ) (t : Work R) (n : ℕ) (r : Option ℕ) → Picked K rests t n r → IfSome r (λ v. v < n)
within_by K rests t n None picked = tt
within_by K rests t n (Some v) picked = picked.place

module _ {C R : Type 0} (K : Kind C R) (net : Net C) {s : State} (stands : Standing K net s) {u : ℕ} (place : u < net.places) where
  sound : Losing K net s.loads → ⊥
  sound = no_losing K net s.loads stands.potential.0 stands.potential.1

  -- the search ends
  ended : (t : Work R) (still : Bool) → Searched K net s.loads (λ v. v ≡ u) t still → Searched K net s.loads (λ v. v ≡ u) t true
  ended t true h = h
  ended t false h =
      let d = h.fell refl stands.passed.some in
      let r = h.reached d.place d.value d.is in
      absurd (sound (losing_by K net s.loads (inside K net stands.passed) (subst (λ v. v < net.places) (sym r.begins) place) r.leads
      (λ rs ws c l w m. d.below r.place rs ws c r.begins w l m)))

module _ {C R : Type 0} (K : Kind C R) (net : Net C) (s : State) (u : ℕ) (place : u < net.places) (t : Work R) where
  pub nearest_by : (r : Option ℕ) (still : Bool) → Searched K net s.loads (λ v. v ≡ u) (front net.places t) still →
      Picked K s.rests t net.places r → Nearest K net s u t r
  nearest_by None still h picked = λ stands source.
      let found = distances_by K net s.loads (ended K net stands place _ still h) in
      stuck_by K net found source (λ v z l n e. picked v z l (record { negative = n; is = sym (entry_front K _ t v l) ∙ e }))
  nearest_by (Some v) still h picked = λ stands.
      let all = ended K net stands place _ still h in
      let found = distances_by K net s.loads all in
      let at : entry K (front net.places t) v ≡ Some picked.value = entry_front K _ t v picked.place ∙ picked.wants.is in (
        picked.value,
        target_by K net found (sound K net stands place) picked.place picked.wants.negative at
            (λ w z l n e. picked.cheapest w z l (record { negative = n; is = sym (entry_front K _ t w l) ∙ e }))
            (λ w l n e. picked.lowest w l (record { negative = n; is = sym (entry_front K _ t w (omega (arith, l, picked.place))) ∙ e })),
        record { inside = inside K net stands.passed; searched = all; is = at },
      )

  -- the same where the loads, rests and notes were lent
  pub nearest_lent : (loads : List ℕ) (rests : List ℤ) (t' : Work R) → loads ≡ s.loads → rests ≡ s.rests →
      length s.rests ≡ net.places → t' ≡ t → (r : Option ℕ) (still : Bool) → Searched K net loads (λ v. v ≡ u) (front net.places t') still →
      (notes : List Note) → notes ≡ t.notes → Picked K rests (tables t'.rows notes) (length rests) r → Nearest K net s u t r
  nearest_lent loads rests t' l p whole same r still h notes q picked =
      let h₁ = subst (λ f. Searched K net f (λ v. v ≡ u) (front net.places t') still) l h in
      let h₂ = subst (λ z. Searched K net s.loads (λ v. v ≡ u) (front net.places z) still) same h₁ in
      let p₁ : Picked K s.rests (tables t'.rows notes) (length s.rests) r = subst (λ rs. Picked K rs (tables t'.rows notes) (length rs) r) p picked in
      let p₂ = subst (λ m. Picked K s.rests (tables t'.rows notes) m r) whole p₁ in
      let p₃ : Picked K s.rests t net.places r = subst (λ z. Picked K s.rests z net.places r) (ap₂ tables (ap (λ z. z.rows) same) q) p₂ in
      nearest_by r still h₂ p₃
