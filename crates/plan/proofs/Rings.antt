-- Where there is a potential, no ring of open steps costs less than zero.
use Rattle.std.proofs.Common.{ℕ, List, [], ◌∷◌, sym, ap, ◌∙◌, subst, subst₂}
use Rattle.std.specs.List.{AllByRecursion}
use Rattle.costs.specs.Group.{Group}
use Rattle.plan.proofs.Flow.{unit_of, Net, Carries, Potential, Step, to, price, Leads, Tight, price_of, NoCheap}
use Rattle.plan.proofs.Sums.{unit_left}
use Rattle.plan.proofs.Costs.{adds, cancel}

-- over a row of open steps a potential rises by no more than they cost
pub rises : (g : Group) (net : Net g) (f : List ℕ) (π : ℕ → g.Carrier) (u v : ℕ) (ss : List Step) →
    Potential net f π → Leads net u ss v → AllByRecursion (Carries net f 1) ss → g.le (π v) (g.plus (π u) (price_of net ss))
rises g net f π u v [] valid leads clear = subst (g.le (π v)) (ap π (sym leads) ∙ sym (unit_of g (π u))) (g.refl_le (π v))
rises g net f π u v (s ∷ ss) valid leads clear =
    let first : g.le (π (to net s)) (g.plus (π u) (price net s)) = rw leads.0 at (valid s clear.0) in
    let rest = rises g net f π (to net s) v ss valid leads.1 clear.1 in
    subst (g.le (π v)) (g.assoc _ _ _) (g.trans _ _ _ rest (g.shift _ _ (price_of net ss) first))

-- so no ring costs less than zero
pub no_cheap_ring : (g : Group) (net : Net g) (f : List ℕ) (π : ℕ → g.Carrier) → Potential net f π → NoCheap net f
no_cheap_ring g net f π valid ring =
    ring.other (g.antisym _ _ ring.below
    (cancel g g.zero (price_of net (ring.first ∷ ring.rest)) (π ring.place)
    (subst₂ g.le (sym (unit_left (adds g) _)) (g.comm _ _) (rises g net f π ring.place ring.place (ring.first ∷ ring.rest) valid ring.row.leads ring.row.opens))))

-- a row over which a potential rises by all that it costs is tight at each step
pub tight_steps : (g : Group) (net : Net g) (f : List ℕ) (π : ℕ → g.Carrier) (u v : ℕ) (ss : List Step) →
    Potential net f π → Leads net u ss v → AllByRecursion (Carries net f 1) ss → g.le (g.plus (π u) (price_of net ss)) (π v) → AllByRecursion (Tight net π) ss
tight_steps g net f π u v [] valid leads clear h = tt
tight_steps g net f π u v (s ∷ ss) valid leads clear h =
    let first : g.le (π (to net s)) (g.plus (π u) (price net s)) = rw leads.0 at (valid s clear.0) in
    let rest = rises g net f π (to net s) v ss valid leads.1 clear.1 in
    let h' : g.le (g.plus (g.plus (π u) (price net s)) (price_of net ss)) (π v) = subst (λ z. g.le z (π v)) (sym (g.assoc _ _ _)) h in
    let least : g.le (g.plus (π u) (price net s)) (π (to net s)) = cancel g _ _ (price_of net ss) (g.trans _ _ _ h' rest) in (
      rw leads.0 (g.antisym _ _ first least),
      tight_steps g net f π (to net s) v ss valid leads.1 clear.1 (g.trans _ _ _ (g.shift _ _ _ first) h'),
    )
