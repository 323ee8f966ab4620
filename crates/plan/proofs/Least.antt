-- The cheapest of the rows of steps that have a property, where there is one.
use Rattle.std.proofs.Common.{◌≡◌, ℕ, zero, suc, ◌<◌, ◌≤◌, ◌⊎◌, List, [], ◌∷◌, length, sym, refl, subst, inl, inr, ⊎_elim, arith}
use Rattle.std.proofs.lemmas.Bool.{cases_eq, cases_lt}
use Rattle.costs.specs.Group.{Group}
use Rattle.plan.proofs.Flow.{Net, Step, Ahead, Back, which, from, to, price_of, room, count, Row}
use Rattle.plan.proofs.Costs.{both}

module _ {g : Group} (net : Net g) where
  abbrev pub Least : (List Step → Type 0) → Type 0
  Least P = ((ss : List Step) → P ss → ⊥) ⊎ ((ss : List Step) × P ss × ((rs : List Step) → P rs → g.le (price_of net ss) (price_of net rs)))

  least_or : (P Q : List Step → Type 0) → Least P → Least Q → Least (λ ss. P ss ⊎ Q ss)
  least_or P Q (inl a) (inl b) = inl (λ ss. ⊎_elim (a ss) (b ss))
  least_or P Q (inl a) (inr b) = inr (b.0, inr b.1, λ rs. ⊎_elim (λ p. absurd (a rs p)) (b.2 rs))
  least_or P Q (inr a) (inl b) = inr (a.0, inl a.1, λ rs. ⊎_elim (a.2 rs) (λ q. absurd (b rs q)))
  least_or P Q (inr a) (inr b) =
      ⊎_elim
      (λ l. inr (a.0, inl a.1, λ rs. ⊎_elim (a.2 rs) (λ q. g.trans _ _ _ l (b.2 rs q))))
      (λ l. inr (b.0, inr b.1, λ rs. ⊎_elim (λ p. g.trans _ _ _ l (a.2 rs p)) (b.2 rs)))
      (g.total (price_of net a.0) (price_of net b.0))

  pub least_same : (P Q : List Step → Type 0) → ((ss : List Step) → P ss → Q ss) → ((ss : List Step) → Q ss → P ss) → Least P → Least Q
  least_same P Q there here (inl a) = inl (λ ss q. a ss (here ss q))
  least_same P Q there here (inr a) = inr (a.0, there a.0 a.1, λ rs q. a.2 rs (here rs q))

  pub least_below : (m : ℕ) (P : ℕ → List Step → Type 0) → ((k : ℕ) → k < m → Least (P k)) → Least (λ ss. (k : ℕ) × (k < m) × P k ss)
  least_below zero P h = inl (λ ss p. let l = p.1 in absurd (omega arith))
  least_below (suc m) P h =
      least_same (λ ss. ((k : ℕ) × (k < m) × P k ss) ⊎ P m ss) _
      (λ ss. ⊎_elim (λ p. let l = p.1 in (p.0, omega arith, p.2)) (λ p. (m, omega arith, p)))
      (λ ss p. ⊎_elim (λ e. inr (subst (λ k. P k ss) e p.2)) (λ ne. let l = p.1 in inl (p.0, omega arith, p.2)) (cases_eq p.0 m))
      (least_or _ (P m) (least_below m P (λ k l. h k (omega arith))) (h m (omega arith)))

  least_when : (D : Type 0) (P : List Step → Type 0) → D ⊎ (D → ⊥) → Least P → Least (λ ss. D × P ss)
  least_when D P (inl d) (inl a) = inl (λ ss p. a ss p.1)
  least_when D P (inl d) (inr a) = inr (a.0, (d, a.1), λ rs p. a.2 rs p.1)
  least_when D P (inr n) a = inl (λ ss p. n p.0)

  least_first : (s : Step) (P : List Step → Type 0) → Least P → Least (λ ss. (r : List Step) × (ss ≡ s ∷ r) × P r)
  least_first s P (inl a) = inl (λ ss p. a p.0 p.2)
  least_first s P (inr a) = inr (s ∷ a.0, (a.0, refl, a.1), λ rs p. subst (λ x. g.le (price_of net (s ∷ a.0)) (price_of net x)) (sym p.1) (both g _ _ _ _ (g.refl_le _) (a.2 p.0 p.2)))

  module _ (f : List ℕ) where
    -- rows of at most n steps
    abbrev pub ShortRow : ℕ → ℕ → ℕ → List Step → Type 0
    ShortRow n u v ss = (length ss ≤ n) × Row net f u ss v

    abbrev First : ℕ → ℕ → ℕ → Step → List Step → Type 0
    First n u v s ss = ((from net s ≡ u) × (1 ≤ room net f s)) × ((r : List Step) × (ss ≡ s ∷ r) × ShortRow n (to net s) v r)

    first_decided : (u : ℕ) (s : Step) → ((from net s ≡ u) × (1 ≤ room net f s)) ⊎ ((from net s ≡ u) × (1 ≤ room net f s) → ⊥)
    first_decided u s =
        ⊎_elim
        (λ e. ⊎_elim (λ l. inl (e, l)) (λ l. inr (λ p. let q = p.1 in omega arith)) (cases_lt 0 (room net f s)))
        (λ ne. inr (λ p. ne p.0))
        (cases_eq (from net s) u)

    abbrev Either : ℕ → ℕ → ℕ → List Step → Type 0
    Either n u v ss = ((u ≡ v) × (ss ≡ [])) ⊎ ((k : ℕ) × (k < count net) × (First n u v (Ahead k) ss ⊎ First n u v (Back k) ss))

    begun : (n u v : ℕ) (s : Step) (ss : List Step) → which s < count net → First n u v s ss → ShortRow (suc n) u v ss
    begun n u v s ss l p =
        let r = p.1.0 in
        let short = p.1.2.0 in
        let row : ShortRow (suc n) u v (s ∷ r) = (omega arith, record { leads = (p.0.0, p.1.2.1.leads); opens = (record { real = l; enough = p.0.1 }, p.1.2.1.opens) }) in
        subst (ShortRow (suc n) u v) (sym p.1.1) row

    there : (n u v : ℕ) (ss : List Step) → Either n u v ss → ShortRow (suc n) u v ss
    there n u v ss (inl p) = subst (ShortRow (suc n) u v) (sym p.1) (omega arith, record { leads = p.0; opens = tt })
    there n u v ss (inr p) = ⊎_elim (begun n u v (Ahead p.0) ss p.1) (begun n u v (Back p.0) ss p.1) p.2

    here : (n u v : ℕ) (ss : List Step) → ShortRow (suc n) u v ss → Either n u v ss
    here n u v [] p = inl (p.1.leads, refl)
    here n u v (Ahead k ∷ r) p =
        let row = p.1 in
        let l = p.0 in
        inr (k, row.opens.0.real, inl ((row.leads.0, row.opens.0.enough), (r, refl, (omega arith, record { leads = row.leads.1; opens = row.opens.1 }))))
    here n u v (Back k ∷ r) p =
        let row = p.1 in
        let l = p.0 in
        inr (k, row.opens.0.real, inr ((row.leads.0, row.opens.0.enough), (r, refl, (omega arith, record { leads = row.leads.1; opens = row.opens.1 }))))

    none_yet : (u v : ℕ) → Least (λ ss. (u ≡ v) × (ss ≡ []))
    none_yet u v =
        ⊎_elim
        (λ e. inr ([], (e, refl), λ rs p. subst (λ x. g.le g.zero (price_of net x)) (sym p.1) (g.refl_le _)))
        (λ ne. inl (λ ss p. ne p.0))
        (cases_eq u v)

    empty : (u v : ℕ) (ss : List Step) → ShortRow 0 u v ss → (u ≡ v) × (ss ≡ [])
    empty u v [] p = (p.1.leads, refl)
    empty u v (s ∷ r) p = let l = p.0 in absurd (omega arith)

    pub best : (n u v : ℕ) → Least (ShortRow n u v)
    best zero u v =
        least_same _ _ (λ ss p. subst (ShortRow 0 u v) (sym p.1) (omega arith, record { leads = p.0; opens = tt })) (empty u v) (none_yet u v)
    best (suc n) u v =
        least_same (Either n u v) _ (there n u v) (here n u v)
        (least_or _ _ (none_yet u v)
        (least_below (count net) (λ k ss. First n u v (Ahead k) ss ⊎ First n u v (Back k) ss)
        (λ k l. least_or _ _
        (least_when _ _ (first_decided u (Ahead k)) (least_first (Ahead k) _ (best n (to net (Ahead k)) v)))
        (least_when _ _ (first_decided u (Back k)) (least_first (Back k) _ (best n (to net (Back k)) v))))))
