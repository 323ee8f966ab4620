-- Rounds of scans that begin at zeros give the least costs of walks from there.
use Rattle.std.proofs.Common.{◌≡◌, ℕ, ◌<◌, Bool, List, length, Some, sym, ap, ◌∙◌, subst, inl, inr, ⊎_elim, arith}
use Rattle.costs.specs.Group.{Group}
use Rattle.costs.specs.Kind.{Kind}
use Rattle.networks.specs.Net.{Net}
use Rattle.plan.specs.declared.step.Step.{Step}
use Rattle.plan.specs.Entries.{Work, Most, entry}
use Rattle.plan.specs.Rounds.{Walk, Rounds}
use Rattle.plan.specs.Searches.{Reached, Searched}
use Rattle.plan.specs.Starts.{Zeros}
use Rattle.plan.specs.Steps.{Leads}

module _ {C R : Type 0} (K : Kind C R) (net : Net C) (loads : List ℕ) (starts : ℕ → Type 0) (t t' : Work R) (long : length t.rows ≡ net.places) (still : Bool)
    (z : Zeros K starts t) (r : Rounds K net loads t t' still) where
  abbrev G : Group
  G = K.group

  walk : {u v : ℕ} {ss : List Step} {vs : List ℕ} {c : G.Carrier} → starts u → Leads K net loads 1 u ss vs v c → Walk K net loads t u G.zero ss v c
  walk {u} {v} {ss} {vs} {c} s p = record { met = vs; from = z.each u s; leads = p }

  from_zero : (v : ℕ) (c : G.Carrier) → Most G (entry K t' v) (G.plus G.zero c) → Most G (entry K t' v) c
  from_zero v c m = subst (Most G (entry K t' v)) (G.unit c) m

  reach : (v : ℕ) (y : G.Carrier) → entry K t' v ≡ Some y → Reached K net loads starts v y
  reach v y e =
      let w = r.walked v y e in
      let o = z.only w.place w.value w.walk.from in
      let cost : w.cost ≡ y = sym (w.sum ∙ ap (λ x. G.plus x w.cost) o.1 ∙ G.unit w.cost) in
      record {
        place = w.place;
        steps = w.steps;
        met = w.walk.met;
        begins = o.0;
        leads = subst (λ c. Leads K net loads 1 w.place w.steps w.walk.met v c) cost w.walk.leads;
        inside = subst (λ k. w.place < k) long w.start;
      }

  pub searched : Searched K net loads starts t' still
  searched = record {
    begun = λ v s. r.grows v G.zero (z.each v s);
    reached = reach;
    traced = record {
      rank = r.traced.rank;
      each = λ v y e. ⊎_elim (λ p. let o = z.only v y p.0 in inl (o.0, o.1, p.1 ∙ z.noted v o.0)) (λ k. inr k) (r.traced.each v y e);
    };
    short = λ u v ss vs c s p l. from_zero v c (r.short u G.zero ss v c (walk s p) l);
    least = λ h u v ss vs c s p. from_zero v c (r.least h u G.zero ss v c (walk s p));
    closed = r.closed;
    fell = λ h l.
        let f = r.fell h l in
        record {
          place = f.place;
          value = f.value;
          is = f.is;
          below = λ u ss vs c s p k le. f.below u G.zero ss c (walk s p) k (subst (λ x. G.le x f.value) (sym (G.unit c)) le);
        };
    weight = λ v w e. omega (arith, r.weight 0 z.weight v w e);
  }
