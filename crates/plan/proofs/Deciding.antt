-- A search from everywhere decides whether some ring costs less than zero.
use Rattle.std.proofs.Common.{◌≡◌, ℕ, suc, ◌<◌, Bool, true, false, ◌||◌, eqb, ltb, List, [], ◌∷◌, length, Some, None, MatchBool, Option, refl, ap, ◌∙◌, arith, le-ltb, lt-ltb}
use Rattle.std.proofs.lemmas.Bool.{ne_eqb}
use Rattle.std.specs.List.{slice_get}
use Rattle.costs.specs.Kind.{Kind}
use Rattle.networks.specs.Net.{Net, Way}
use Rattle.networks.specs.declared.refusal.Refusal.{Refusal}
use Rattle.networks.specs.declared.refusal.Refusal.TheVariants.{BadPlaces, ManyWays, ShortTable}
use Rattle.plan.specs.Checks.{or_else, when, fault_of_way, fault_of_ways, net_fault, open_fault}
use Rattle.plan.specs.Entries.{Work, entry}
use Rattle.plan.specs.Searches.{Searched}
use Rattle.plan.specs.Standing.{Fair, Passed}
use Rattle.plan.specs.State.{closed}
use Rattle.plan.specs.Steps.{Losing}
use Rattle.plan.proofs.Faults.{open_passed}
use Rattle.plan.proofs.Found.{Prices, prices_sound}
use Rattle.plan.proofs.Standing.{inside}
use Rattle.plan.proofs.Walks.{losing_by}

regrouped : (a b w s : Option Refusal) → or_else a (or_else b (or_else w s)) ≡ or_else (or_else a (or_else b w)) s
regrouped (Some x) b w s = refl
regrouped None (Some x) w s = refl
regrouped None None w s = refl

module _ {C R : Type 0} (K : Kind C R) (net : Net C) where
  -- opening a closed plan refuses what the network has, then a short table
  pub open_is : (work : ℕ) → open_fault K net closed work ≡ or_else (net_fault K net) (when (ltb work net.places) ShortTable)
  open_is work =
      regrouped (when (eqb net.places 0 || ltb 1024 net.places) BadPlaces) (when (ltb 3000 (length net.ways)) ManyWays) (fault_of_ways K net.places 0 net.ways)
      (when (ltb work net.places) ShortTable)

  pub passed : net_fault K net ≡ None → Passed K net
  passed e =
      open_passed K net closed net.places
      (open_is net.places ∙ ap (λ o. or_else o (when (ltb net.places net.places) ShortTable)) e ∙ ap (λ b. when b ShortTable) (le-ltb net.places net.places (omega arith)))

  fair_none : (k : ℕ) (w : Way C) → Fair K net w → fault_of_way K net.places k w ≡ None
  fair_none k w f =
      let a = lt-ltb w.tail net.places f.tail in
      let b = lt-ltb w.head net.places f.head in
      let c = ne_eqb w.tail w.head f.apart in
      let d = le-ltb 1000000 w.limit f.limit in
      let e = le-ltb 1000000 (K.weighs w.cost) f.weight in
      simp (a, b, c, d, e)

  ways_none : (k : ℕ) (ws : List (Way C)) → ((i : ℕ) (w : Way C) → slice_get ws i ≡ Some w → Fair K net w) → fault_of_ways K net.places k ws ≡ None
  ways_none k [] f = refl
  ways_none k (w ∷ ws) f =
      ap (λ o. or_else o (fault_of_ways K net.places (suc k) ws)) (fair_none k w (f 0 w refl)) ∙ ways_none (suc k) ws (λ i x e. f (suc i) x e)

  pub passed_none : Passed K net → net_fault K net ≡ None
  passed_none p =
      let some = p.some in
      let a = ne_eqb net.places 0 (λ e. omega (arith, e)) in
      let b = le-ltb 1024 net.places p.places in
      let c = le-ltb 3000 (length net.ways) p.ways in
      let d = ways_none 0 net.ways p.fair in
      simp (a, b, c, d)

  module _ (f : List ℕ) (t : Work R) where
    pub prices_of : Searched K net f (λ v. v < net.places) t true → Prices K net f (λ v x. entry K t v ≡ Some x)
    prices_of s = record {
      entries = record {
        one = λ v x y p q. (cc);
        closed = λ p u v r c x g i. let m = s.closed refl p u v c x r g i in (m.value, m.is, m.most);
      };
      start = λ v l. let m = s.begun v l in (m.value, m.is, m.most);
      walked = λ v y e. let r = s.reached v y e in (r.place, r.steps, r.met, r.begins, r.leads);
    }

    pub decided : Passed K net → (still : Bool) → Searched K net f (λ v. v < net.places) t still → MatchBool still (Losing K net f → ⊥) (Losing K net f)
    decided p true s = prices_sound K net f (prices_of s) (inside K net p)
    decided p false s =
        let d = s.fell refl p.some in
        let r = s.reached d.place d.value d.is in
        losing_by K net f (inside K net p) r.begins r.leads (λ rs ws c l w m. d.below r.place rs ws c r.begins w l m)
