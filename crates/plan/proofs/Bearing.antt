-- A route with room for x bears x: no way stands on it twice, so each step still has its room in its turn.
use Rattle.std.proofs.Common.{ℕ, ◌<◌, ◌≤◌, ◌≢◌, List, [], ◌∷◌, arith}
use Rattle.std.specs.List.{AllByRecursion}
use Rattle.costs.specs.Group.{Group}
use Rattle.costs.specs.Kind.{Kind}
use Rattle.networks.specs.Net.{Net}
use Rattle.plan.specs.Loads.{Keeps}
use Rattle.plan.specs.Steps.{Route}
use Rattle.plan.specs.Standing.{Passed}
use Rattle.plan.specs.Trails.{Bears}
use Rattle.plan.proofs.Flow as flow
use Rattle.plan.proofs.Flow.{Carries, Step, Ahead, Back, from, to, way, count, Leads, Apart, stops, send_step_lem}
use Rattle.plan.proofs.Send.{all_with, step_keeps, one_way, both_ends, still_carries}
use Rattle.plan.proofs.Bridge.{seen, keeps_seen, routed, way_nth, nth_way}

module _ {g : Group} (net : flow.Net g) (low : (k : ℕ) → k < count net → (way net k).limit ≤ 1000000) (x : ℕ) where
  -- the first step bears x, if the rest does once it is sent along the first
  first : (s : Step) (ss : List Step) (f : List ℕ) → flow.Keeps net f → Carries net f x s → Bears x ss (send_step_lem x s f) → Bears x (s ∷ ss) f
  first (Ahead k) ss f keeps c rest =
      let m = low k c.real in
      let old = keeps.within k c.real in
      (omega (arith, c.real, keeps.whole), omega (arith, c.enough), rest)
  first (Back k) ss f keeps c rest = (omega (arith, c.real, keeps.whole), c.enough, rest)

  bears : (u v : ℕ) (ss : List Step) (f : List ℕ) → flow.Keeps net f → Leads net u ss v → Apart (stops net u ss) → AllByRecursion (Carries net f x) ss → Bears x ss f
  bears u v [] f keeps leads apart carries = tt
  bears u v (s ∷ ss) f keeps leads apart carries =
      let ends : AllByRecursion (λ d. (u ≢ from net d) × (u ≢ to net d)) ss = both_ends net (λ p. u ≢ p) (to net s) v ss leads.1 apart.0.0 apart.0.1 in
      let left : AllByRecursion (Carries net (send_step_lem x s f) x) ss =
      all_with _ (λ d e c. still_carries net f x x s d (one_way net s d (rw leads.0 e.0) (rw leads.0 e.1)) c) ss ends carries.1 in
      first s ss f keeps carries.0 (bears (to net s) v ss (send_step_lem x s f) (step_keeps net f x s keeps carries.0) leads.1 apart.1 left)

pub route_bears : {C R : Type 0} (K : Kind C R) (net : Net C) (f : List ℕ) {x u v : ℕ} {ss : List Step} {c : K.group.Carrier} →
    Passed K net → Keeps net f → Route K net f x u ss v c → Bears x ss f
route_bears K net f {x} {u} {v} {ss} passed keeps route =
    let r = (routed K net f route).0 in
    let low : (k : ℕ) → k < count (seen K net) → (way (seen K net) k).limit ≤ 1000000 =
    λ k l. let w = way_nth K net.ways k l in let e = (nth_way K net.ways k w.0 w.1).0 in rw e (passed.fair k w.0 w.1).limit in
    bears (seen K net) low x u v ss f (keeps_seen K net f keeps) r.leads r.apart r.carries
