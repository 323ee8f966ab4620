-- Where no ring costs less than zero, there are cheapest routes and a potential.
use Rattle.std.proofs.Common.{◌≡◌, ℕ, ◌<◌, ◌⊎◌, List, [], ◌∷◌, ◌++◌, refl, ap, ◌∙◌, subst, inl, inr, ⊎_elim, arith}
use Rattle.std.proofs.ByRecursion.{All-append}
use Rattle.costs.specs.Group.{Group}
use Rattle.plan.proofs.Flow.{unit_of, Net, Joined, Carries, Potential, Step, from, to, price, price_of, Row, Route, NoCheap}
use Rattle.plan.proofs.Shorter.{price_append, leads_append, Simple, simple, simple_short, from_inside}
use Rattle.plan.proofs.Least.{Least, least_below, ShortRow, best}

module _ {g : Group} (net : Net g) (f : List ℕ) (joined : Joined net) (sound : NoCheap net f) where
  pub least_row : (u v : ℕ) → u < net.places → Least net (λ ss. Row net f u ss v)
  least_row u v b = by (best net f net.places u v)
    where
      shorter : (rs : List Step) → Row net f u rs v → Simple net f u rs v
      shorter rs row = simple net f sound u v rs row.leads row.opens

      fits : (rs : List Step) (row : Row net f u rs v) → ShortRow net f net.places u v (shorter rs row).steps
      fits rs row =
          let s = shorter rs row in
          let l = simple_short net joined f u s.steps b s.opens s.apart in
          (omega arith, record { leads = s.leads; opens = s.opens })

      by : Least net (ShortRow net f net.places u v) → Least net (λ ss. Row net f u ss v)
      by (inl a) = inl (λ ss row. a (shorter ss row).steps (fits ss row))
      by (inr a) = inr (a.0, a.1.1, λ rs row. g.trans _ _ _ (a.2 (shorter rs row).steps (fits rs row)) (shorter rs row).cheaper)

  -- a row to v from any place
  abbrev AnyRow : ℕ → List Step → Type 0
  AnyRow v ss = (u : ℕ) × (u < net.places) × Row net f u ss v

  any_row : (v : ℕ) → Least net (AnyRow v)
  any_row v = least_below net net.places (λ u ss. Row net f u ss v) (λ u l. least_row u v l)

  level : ℕ → g.Carrier
  level v = ⊎_elim (λ none. g.zero) (λ a. price_of net a.0) (any_row v)

-- one step more
pub row_more : {g : Group} (net : Net g) (f : List ℕ) (u : ℕ) (s : Step) (ss : List Step) → Carries net f 1 s → Row net f u ss (from net s) → Row net f u (ss ++ (s ∷ [])) (to net s)
row_more net f u s ss c r = record {
  leads = leads_append net u (from net s) (to net s) ss (s ∷ []) r.leads (refl, refl);
  opens = All-append _ ss (s ∷ []) r.opens (c, tt);
}

pub price_more : {g : Group} (net : Net g) (s : Step) (ss : List Step) → price_of net (ss ++ (s ∷ [])) ≡ g.plus (price_of net ss) (price net s)
price_more {g} net s ss = price_append net ss (s ∷ []) ∙ ap (g.plus (price_of net ss)) (unit_of g _)

-- a place that is reached at all is reached by a cheapest route
pub cheapest : (g : Group) (net : Net g) (f : List ℕ) (u v : ℕ) → Joined net → NoCheap net f → u < net.places →
    ((ss : List Step) → Row net f u ss v → ⊥) ⊎
    ((ss : List Step) × Route net f 1 u ss v × ((rs : List Step) → Row net f u rs v → g.le (price_of net ss) (price_of net rs)))
cheapest g net f u v joined sound b = by (least_row net f joined sound u v b)
  where
    by : Least net (λ ss. Row net f u ss v) → ((ss : List Step) → Row net f u ss v → ⊥) ⊎ ((ss : List Step) × Route net f 1 u ss v × ((rs : List Step) → Row net f u rs v → g.le (price_of net ss) (price_of net rs)))
    by (inl a) = inl a
    by (inr a) =
        let s = simple net f sound u v a.0 a.1.leads a.1.opens in
        inr (s.steps, record { leads = s.leads; apart = s.apart; carries = s.opens }, λ rs row. g.trans _ _ _ s.cheaper (a.2 rs row))

-- a potential: at each place, the least that a row from any place to it costs
pub has_potential : (g : Group) (net : Net g) (f : List ℕ) → Joined net → NoCheap net f →
    (π : ℕ → g.Carrier) × Potential net f π ×
    ((v : ℕ) → v < net.places → (u : ℕ) × (ss : List Step) × (u < net.places) × Row net f u ss v × (π v ≡ price_of net ss)) ×
    ((u v : ℕ) (ss : List Step) → u < net.places → Row net f u ss v → g.le (π v) (price_of net ss))
unfolding level
has_potential g net f joined sound = (
  level net f joined sound,
  λ s c. holds s c (any_row net f joined sound (from net s)) (any_row net f joined sound (to net s)),
  λ v l. found v l (any_row net f joined sound v),
  λ u v ss l row. least u v ss l row (any_row net f joined sound v),
)
  where
    Any : ℕ → List Step → Type 0
    Any v ss = AnyRow net f joined sound v ss

    at : (v : ℕ) → Least net (Any v) → g.Carrier
    at v a = ⊎_elim (λ none. g.zero) (λ b. price_of net b.0) a

    here : (v : ℕ) → v < net.places → Any v []
    here v l = (v, l, record { leads = refl; opens = tt })

    more : (s : Step) → Carries net f 1 s → (ss : List Step) → Any (from net s) ss → Any (to net s) (ss ++ (s ∷ []))
    more s c ss r = (r.0, r.1, row_more net f r.0 s ss c r.2)

    holds : (s : Step) → Carries net f 1 s → (a : Least net (Any (from net s))) (b : Least net (Any (to net s))) → g.le (at (to net s) b) (g.plus (at (from net s) a) (price net s))
    holds s c (inl a) b = absurd (a [] (here (from net s) (from_inside net joined f s c)))
    holds s c (inr a) (inl b) = absurd (b _ (more s c a.0 a.1))
    holds s c (inr a) (inr b) = subst (g.le _) (price_more net s a.0) (b.2 _ (more s c a.0 a.1))

    found : (v : ℕ) → v < net.places → (a : Least net (Any v)) → (u : ℕ) × (ss : List Step) × (u < net.places) × Row net f u ss v × (at v a ≡ price_of net ss)
    found v l (inl a) = absurd (a [] (here v l))
    found v l (inr a) = (a.1.0, a.0, a.1.1, a.1.2, refl)

    least : (u v : ℕ) (ss : List Step) → u < net.places → Row net f u ss v → (a : Least net (Any v)) → g.le (at v a) (price_of net ss)
    least u v ss l row (inl a) = absurd (a ss (u, l, row))
    least u v ss l row (inr a) = a.2 ss (u, l, row)
