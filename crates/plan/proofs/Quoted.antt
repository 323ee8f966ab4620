-- A search from everywhere leaves the prices, unless some ring costs less than zero.
use Rattle.std.proofs.Common.{◌≡◌, ℕ, ◌<◌, Bool, true, false, cond, List, drop, Some, None, MatchBool, Option, sym, refl, ◌∙◌, subst}
use Rattle.std.specs.List.{slice_get}
use Rattle.std.specs.Option.{option_map}
use Rattle.costs.specs.Kind.{Kind, values}
use Rattle.networks.specs.Net.{Net}
use Rattle.plan.specs.Checks.{net_fault}
use Rattle.plan.specs.Entries.{Work, front}
use Rattle.plan.specs.Questions.{Priced}
use Rattle.plan.specs.Searches.{Searched}
use Rattle.plan.specs.Steps.{Losing, Price}
use Rattle.plan.proofs.Deciding.{passed, prices_of, decided}
use Rattle.plan.proofs.Found.{price_by}
use Rattle.plan.proofs.Nearing.{nth_front}

-- an entry is what some row stands for
row_of : {C R : Type 0} (K : Kind C R) (b : Bool) (o : Option R) (x : K.group.Carrier) → cond b (option_map (values K) o) None ≡ Some x → (r : R) × (o ≡ Some r) × (x ≡ values K r)
row_of K true (Some r) x e = (r, refl, cc)
row_of K true None x e = cc
row_of K false o x e = cc

module _ {C R : Type 0} (K : Kind C R) (net : Net C) (f : List ℕ) (t : Work R) where
  priced : (Losing K net f → ⊥) → Searched K net f (λ v. v < net.places) (front net.places t) true → (v : ℕ) → v < net.places →
      (r : R) × (slice_get t.rows v ≡ Some r) × Price K net f v (values K r)
  priced sound s v l =
      let m = s.begun v l in
      let r = row_of K _ _ m.value m.is in
      (r.0, sym (nth_front net.places t.rows v l) ∙ r.1, subst (Price K net f v) r.2 (price_by K net f (prices_of K net f (front net.places t) s) sound v m.value m.is))

  -- over loads f' that are those
  pub quoted_by : (f' : List ℕ) (rows : List R) → f' ≡ f → net_fault K net ≡ None → (still : Bool) → Searched K net f' (λ v. v < net.places) (front net.places t) still →
      drop net.places t.rows ≡ drop net.places rows → MatchBool still ((Losing K net f → ⊥) × Priced K net f rows t.rows) (Losing K net f)
  quoted_by f' rows q fair still s past =
      let s₁ = subst (λ g. Searched K net g (λ v. v < net.places) (front net.places t) still) q s in
      told still s₁ (decided K net f (front net.places t) (passed K net fair) still s₁)
    where
      told : (b : Bool) → Searched K net f (λ v. v < net.places) (front net.places t) b → MatchBool b (Losing K net f → ⊥) (Losing K net f) →
          MatchBool b ((Losing K net f → ⊥) × Priced K net f rows t.rows) (Losing K net f)
      told true s h = (h, record { each = priced h s; past = past })
      told false s h = h
