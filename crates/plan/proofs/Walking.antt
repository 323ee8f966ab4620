-- Walks: one after another, one step more at the end, the last step apart, and the places met.
use Rattle.std.proofs.Common.{◌≡◌, ℕ, suc, ◌<◌, ◌≤◌, List, [], ◌∷◌, ◌++◌, length, Some, sym, refl, ap, ◌∙◌, subst}
use Rattle.std.specs.List.{slice_get, AllByRecursion}
use Rattle.costs.specs.Group.{Group}
use Rattle.costs.specs.Kind.{Kind}
use Rattle.networks.specs.Net.{Net, Way}
use Rattle.plan.specs.declared.step.Step.{Step}
use Rattle.plan.specs.Steps.{Gives, Leads}
use Rattle.plan.specs.Steps.Gives.{forth, behind}
use Rattle.plan.specs.Steps.Leads.{there, then}
use Rattle.plan.proofs.Flow.{unit_of}

module _ {C R : Type 0} (K : Kind C R) (net : Net C) (loads : List ℕ) where
  abbrev G : Group
  G = K.group

  -- one walk after another
  pub leads_join : {x u v w : ℕ} {ss rs : List Step} {vs ws : List ℕ} {c d : G.Carrier} → Leads K net loads x u ss vs v c → Leads K net loads x v rs ws w d →
      Leads K net loads x u (ss ++ rs) (vs ++ ws) w (G.plus c d)
  leads_join {x} {w = w} {rs = rs} {ws = ws} {d = d} (there u) q = subst (Leads K net loads x u rs ws w) (sym (G.unit d)) q
  leads_join {x} {w = w} {rs = rs} {ws = ws} {d = d} (then u v₀ v s ss vs c e r g l p) q =
      subst (Leads K net loads x u (s ∷ (ss ++ rs)) (v₀ ∷ (vs ++ ws)) w) (sym (G.assoc c e d))
      (then u v₀ w s (ss ++ rs) (vs ++ ws) c (G.plus e d) r g l (leads_join p q))

  pub leads_more : {x u v w : ℕ} {s : Step} {ss : List Step} {vs : List ℕ} {c d : G.Carrier} {r : ℕ} →
      Leads K net loads x u ss vs v c → Gives K net loads s v w d r → x ≤ r → Leads K net loads x u (ss ++ s ∷ []) (vs ++ w ∷ []) w (G.plus c d)
  leads_more {x} {u} {v} {w} {s} {ss} {vs} {c} {d} {r} p g l =
      subst (λ y. Leads K net loads x u (ss ++ s ∷ []) (vs ++ w ∷ []) w (G.plus c y)) (unit_of G d) (leads_join p (then v w w s [] [] d G.zero r g l (there w)))

  -- a walk with its last step apart
  pub record Parted (x u : ℕ) (n w : ℕ) (c : G.Carrier) : Type 0 where
    pub place : ℕ
    pub steps : List Step
    pub met : List ℕ
    pub cost : G.Carrier
    pub step : Step
    pub more : G.Carrier
    pub room : ℕ
    pub leads : Leads K net loads x u steps met place cost
    pub gives : Gives K net loads step place w more room
    pub long : length steps ≡ n
    pub sum : c ≡ G.plus cost more

  pub leads_last : {x u w : ℕ} {s : Step} {ss : List Step} {vs : List ℕ} {c : G.Carrier} → Leads K net loads x u (s ∷ ss) vs w c → Parted x u (length ss) w c
  leads_last (then u v w s ss vs c d r g l p) = last_of u v w s ss vs c d r g l p
    where
      last_of : {x : ℕ} (u v w : ℕ) (s : Step) (ss : List Step) (vs : List ℕ) (c d : G.Carrier) (r : ℕ) → Gives K net loads s u v c r → x ≤ r → Leads K net loads x v ss vs w d
          → Parted x u (length ss) w (G.plus c d)
      last_of u v w s ss vs c d r g l (there _) = record {
        place = u;
        steps = [];
        met = [];
        cost = G.zero;
        step = s;
        more = c;
        room = r;
        leads = there u;
        gives = g;
        long = refl;
        sum = unit_of G c ∙ sym (G.unit c);
      }
      last_of u v w s ss vs c d r g l (then _ v' _ s' ss' vs' c' d' r' g' l' p) =
          let q = last_of v v' w s' ss' vs' c' d' r' g' l' p in
          record {
            place = q.place;
            steps = s ∷ q.steps;
            met = v ∷ q.met;
            cost = G.plus c q.cost;
            step = q.step;
            more = q.more;
            room = q.room;
            leads = then u v q.place s q.steps q.met c q.cost r g l q.leads;
            gives = q.gives;
            long = ap suc q.long;
            sum = ap (G.plus c) q.sum ∙ sym (G.assoc c q.cost q.more);
          }

  -- every place that a walk meets is an end of a way
  module _ (n : ℕ) (ends : (k : ℕ) (w : Way C) → slice_get net.ways k ≡ Some w → (w.tail < n) × (w.head < n)) where
    gives_within : {s : Step} {u v : ℕ} {c : G.Carrier} {r : ℕ} → Gives K net loads s u v c r → v < n
    gives_within (forth k w known space) = (ends k w known).1
    gives_within (behind k w known loaded) = (ends k w known).0

    pub leads_within : {x u v : ℕ} {ss : List Step} {vs : List ℕ} {c : G.Carrier} → Leads K net loads x u ss vs v c → AllByRecursion (λ y. y < n) vs
    leads_within (there u) = tt
    leads_within (then u v w s ss vs c d r g l p) = (gives_within g, leads_within p)
