-- Marks spread along steps and walks, and tell the reach of a place in the end.
use Rattle.std.proofs.Common.{◌≡◌, ℕ, ◌+◌, ◌<◌, ◌≤◌, Bool, false, ◌||◌, ◌≢◌, ◌⊎◌, List, [], ◌∷◌, ◌++◌, length, take, drop, set, replicate, Some, sym, refl, ap, ◌∙◌, subst, inl, inr, ⊎_elim, arith}
use Rattle.std.specs.List.{slice_get, AllByRecursion}
use Rattle.std.proofs.lemmas.List.{get_or_append_left, length-append, length-replicate, length-take-le}
use Rattle.std.proofs.lemmas.Option.{slice_get-get_or, slice_get_within}
use Rattle.std.proofs.lemmas.Slice.{drop-append-drop}
use Rattle.std.proofs.lemmas.Bool.{cases_eq, or_parts}
use Rattle.costs.specs.Kind.{Kind}
use Rattle.networks.specs.Net.{Net}
use Rattle.plan.specs.declared.step.Step.{Step}
use Rattle.plan.specs.declared.step.Step.TheVariants.{Ahead, Back}
use Rattle.plan.specs.Marks.{On, Extended, Led, Grown, Spread, Spreads, Tells}
use Rattle.plan.specs.Questions.{Marked}
use Rattle.plan.specs.Standing.{Inside}
use Rattle.plan.specs.Steps.{Apart, Gives, Leads, there, then, Reach}
use Rattle.plan.specs.Sweeps.{way_of}
use Rattle.plan.proofs.Bridge.{given}
use Rattle.plan.proofs.Noting.{nth_set_same, nth_set_other, nth_replicate}
use Rattle.plan.proofs.Trying.{along, gives_way}
use Rattle.plan.proofs.Walking.{leads_join, leads_last}
use Rattle.plan.proofs.Walks.{one_step, route_short}

module _ {C R : Type 0} (K : Kind C R) (net : Net C) (loads : List ℕ) where
  -- a route that meets u, from there; or it does not meet u
  rest_of : (u : ℕ) {a v : ℕ} {ss : List Step} {vs : List ℕ} {c : K.group.Carrier} → Leads K net loads 1 a ss vs v c → Apart (a ∷ vs) → AllByRecursion (λ y. u ≢ y) (a ∷ vs) ⊎ Reach K net loads u v
  rest_of u (there a) apart =
      ⊎_elim (λ (e : u ≡ a). inr (subst (λ z. Reach K net loads z a) (sym e) ([], K.group.zero, record { met = []; leads = there a; apart = apart })))
      (λ (ne : u ≡ a → ⊥). inl (ne, tt))
      (cases_eq u a)
  rest_of u (then a b v s ss vs c d r g l p) apart =
      ⊎_elim
      (λ (e : u ≡ a). inr (subst (λ z. Reach K net loads z v) (sym e) (s ∷ ss, K.group.plus c d, record { met = b ∷ vs; leads = then a b v s ss vs c d r g l p; apart = apart })))
      (λ (ne : u ≡ a → ⊥). ⊎_elim (λ all. inl (ne, all)) (λ q. inr q) (rest_of u p apart.1))
      (cases_eq u a)

  -- where a walk leads, a route does
  cut : {u v : ℕ} {ss : List Step} {vs : List ℕ} {c : K.group.Carrier} → Leads K net loads 1 u ss vs v c → Reach K net loads u v
  cut (there u) = ([], K.group.zero, record { met = []; leads = there u; apart = (tt, tt) })
  cut (then u a v s ss vs c d r g l p) =
      let q = cut p in
      ⊎_elim
      (λ all. (s ∷ q.0, K.group.plus c q.1, record { met = a ∷ q.2.met; leads = then u a v s q.0 q.2.met c q.1 r g l q.2.leads; apart = (all, q.2.apart) }))
      (λ q. q)
      (rest_of u q.2.leads q.2.apart)

  -- what is marked stays so
  keeps : {m m' : List ℕ} → Grown K net loads m m' → (v : ℕ) → On m v → On m' v
  keeps grown v on = ⊎_elim (λ e. e ∙ on) (λ p. p.0) (grown.each v)

  -- a walk from a mark that is new is part of one from an old mark
  led_before : {m m' : List ℕ} → Grown K net loads m m' → (v : ℕ) → Led K net loads m' v → Led K net loads m v
  led_before {m} grown v p =
      ⊎_elim
      (λ e. record { place = p.place; steps = p.steps; met = p.met; cost = p.cost; on = sym e ∙ p.on; leads = p.leads })
      (λ q. let b = q.1 in
      record {
        place = b.place;
        steps = b.steps ++ p.steps;
        met = b.met ++ p.met;
        cost = K.group.plus b.cost p.cost;
        on = b.on;
        leads = leads_join K net loads b.leads p.leads;
      })
      (grown.each p.place)

  grown_join : {m m' m'' : List ℕ} → Grown K net loads m m' → Grown K net loads m' m'' → Grown K net loads m m''
  grown_join p q = record {
    each = λ v.
        ⊎_elim
        (λ e. ⊎_elim (λ e'. inl (e ∙ e')) (λ a. inr (e ∙ a.0, a.1)) (p.each v))
        (λ a. inr (a.0, led_before p v a.1))
        (q.each v);
  }

  spread_as : {A B : Step → Type 0} {m m' : List ℕ} {told : Bool} → ((s : Step) (u v : ℕ) (c : K.group.Carrier) (r : ℕ) → Gives K net loads s u v c r → B s → A s) →
      Spread K net loads A m m' told → Spread K net loads B m m' told
  spread_as sub p = record { grown = p.grown; met = λ s u v c r g b on. p.met s u v c r g (sub s u v c r g b) on; same = p.same }

  spread_join : {A B : Step → Type 0} {m m' m'' : List ℕ} (a b : Bool) → Spread K net loads A m m' a → Spread K net loads B m' m'' b → Spread K net loads (λ s. A s ⊎ B s) m m'' (a || b)
  spread_join a b p q = record {
    grown = grown_join p.grown q.grown;
    met = λ s u v c r g d on.
        ⊎_elim (λ x. keeps q.grown v (p.met s u v c r g x on)) (λ x. q.met s u v c r g x (keeps p.grown u on)) d;
    same = λ e. let o = or_parts a b e in q.same o.1 ∙ p.same o.0;
  }

  -- along one step
  pub by_step : {s : Step} {u v r : ℕ} {c : K.group.Carrier} {m m' : List ℕ} {told : Bool} → Gives K net loads s u v c r → Extended u v m m' told → Spread K net loads (λ s'. s' ≡ s) m m' told
  by_step {s} {u} {v} {r} {c} {m} {m'} g p = record {
    grown = record {
      each = λ x. ⊎_elim (λ e. inl e)
          (λ q. inr (
            q.2,
            record {
              place = u;
              steps = s ∷ [];
              met = v ∷ [];
              cost = K.group.plus c K.group.zero;
              on = q.1;
              leads = subst (λ y. Leads K net loads 1 u (s ∷ []) (v ∷ []) y (K.group.plus c K.group.zero)) (sym q.0)
                  (then u v v s [] [] c K.group.zero r g (given K net loads g).some (there v));
            },
          ))
          (p.only x);
    };
    met = λ s' u' v' c' r' g' e on.
        let i = one_step K net loads (subst (λ z. Gives K net loads z u' v' c' r') e g') g in
        subst (On m') (sym i.1) (p.met (subst (On m) i.0 on));
    same = p.same;
  }

  -- one way more of a sweep
  pub sweep_more : (k : ℕ) (m m₁ m₂ m₃ : List ℕ) (a b d : Bool) → Spread K net loads (λ s. way_of s < k) m m₁ a → Spread K net loads (λ s. s ≡ Ahead k) m₁ m₂ b →
      Spread K net loads (λ s. s ≡ Back k) m₂ m₃ d → Spread K net loads (λ s. way_of s < k + 1) m m₃ ((a || b) || d)
  sweep_more k m m₁ m₂ m₃ a b d p q r =
      spread_as
      (λ s u v c room g l. ⊎_elim
      (λ e. ⊎_elim (λ h. inl (inr h)) (λ h. inr h) (along K net loads s k e))
      (λ (ne : way_of s ≡ k → ⊥). inl (inl (omega (arith, l))))
      (cases_eq (way_of s) k))
      (spread_join (a || b) d (spread_join a b p q) r)

  -- at the end every way was swept
  pub sweep_all : (n : ℕ) → length net.ways ≤ n → {m m' : List ℕ} {told : Bool} → Spread K net loads (λ s. way_of s < n) m m' told → Spread K net loads (λ s. Unit {0}) m m' told
  sweep_all n l p = spread_as (λ s u v c r g _. omega (arith, gives_way K net loads g)) p

  -- one sweep more
  pub spreads_more : (n : ℕ) (m m' m'' : List ℕ) (told : Bool) → Spreads K net loads n m m' → Spread K net loads (λ s. Unit {0}) m' m'' told → Spreads K net loads (n + 1) m m''
  spreads_more n m m' m'' told p q = record { grown = grown_join p.grown q.grown; short = short }
    where
      short : (u : ℕ) (ss : List Step) (vs : List ℕ) (v : ℕ) (c : K.group.Carrier) → Leads K net loads 1 u ss vs v c → length ss ≤ n + 1 → On m u → On m'' v
      short u [] vs v c w l on = keeps q.grown v (p.short u [] vs v c w (omega arith) on)
      short u (s ∷ ss) vs v c w l on =
          let part = leads_last K net loads w in
          q.met part.step part.place v part.more part.room part.gives tt
          (p.short u part.steps part.met part.place part.cost part.leads (omega (arith, part.long)) on)

  -- a sweep that alters nothing leaves nothing for those after it
  pub spreads_early : (n limit : ℕ) (m m' m'' : List ℕ) → Spreads K net loads n m m' → Spread K net loads (λ s. Unit {0}) m' m'' false → Spreads K net loads limit m m''
  spreads_early n limit m m' m'' p q =
      let grown = grown_join p.grown q.grown in
      record { grown = grown; short = λ u ss vs v c w l on. closed w (keeps grown u on) }
    where
      closed : {u v : ℕ} {ss : List Step} {vs : List ℕ} {c : K.group.Carrier} → Leads K net loads 1 u ss vs v c → On m'' u → On m'' v
      closed (there u) on = on
      closed (then u a v s ss vs c d r g room w) on = closed w (q.met s u a c r g tt (subst (λ x. On x u) (q.same refl) on))

  -- marks that spread from u alone tell its reach
  module _ (ends : Inside net) (u n : ℕ) (within : u < net.places) (long : n ≡ net.places) where
    abbrev alone : List ℕ
    alone = set (replicate n 0) u 1

    no_ones : (v : ℕ) → On (replicate n 0) v → ⊥
    no_ones v e =
        let zero_there : slice_get {X = ℕ} (replicate n 0) v ≡ Some 0 = nth_replicate n v 0 (omega (arith, slice_get_within (replicate n 0) v 1 e, length-replicate {A = ℕ} n 0)) in
        cc

    on_here : On alone u
    on_here = nth_set_same (replicate n 0) u 1 (omega (arith, within, long, length-replicate {A = ℕ} n 0))

    only_here : (v : ℕ) → On alone v → v ≡ u
    only_here v on =
        ⊎_elim (λ e. e) (λ (ne : v ≡ u → ⊥). absurd (no_ones v (sym (nth_set_other (replicate n 0) u v 1 ne) ∙ on))) (cases_eq v u)

    pub tells : (m m' : List ℕ) → m ≡ alone → Spreads K net loads net.places m m' → Tells K net loads u m'
    tells m m' e spreads v l = ⊎_elim same new (spreads.grown.each v)
      where
        led : Led K net loads m v → Reach K net loads u v
        led p = let q = only_here p.place (subst (λ x. On x p.place) e p.on) in
            cut (subst (λ x. Leads K net loads 1 x p.steps p.met v p.cost) q p.leads)

        new : On m' v × Led K net loads m v → (Reach K net loads u v × (slice_get m' v ≡ Some 1)) ⊎ ((Reach K net loads u v → ⊥) × (slice_get m' v ≡ Some 0))
        new p = inl (led p.1, p.0)

        reached : Reach K net loads u v → On m' v
        reached r =
            let short = route_short K net loads ends within r.2 in
            spreads.short u r.0 r.2.met v r.1 r.2.leads (omega (arith, short)) (subst (λ x. On x u) (sym e) on_here)

        same : slice_get m' v ≡ slice_get m v → (Reach K net loads u v × (slice_get m' v ≡ Some 1)) ⊎ ((Reach K net loads u v → ⊥) × (slice_get m' v ≡ Some 0))
        same q =
            ⊎_elim
            (λ (h : v ≡ u).
            let on : On m v = subst (λ x. On x v) (sym e) (subst (On alone) (sym h) on_here) in
            inl (led (record { place = v; steps = []; met = []; cost = K.group.zero; on = on; leads = there v }), q ∙ on))
            (λ (ne : v ≡ u → ⊥).
            let zero_at : slice_get m' v ≡ Some 0 = q ∙ ap (λ x. slice_get x v) e ∙ nth_set_other (replicate n 0) u v 1 ne ∙ nth_replicate n v 0 (omega (arith, l, long)) in
            inr (λ r. let on = reached r in cc, zero_at))
            (cases_eq v u)

  -- marks of the first n entries of a longer table
  pub marked_by : (u n : ℕ) (table m : List ℕ) → n ≡ net.places → net.places ≤ length table → length m ≡ length (take n table) → Tells K net loads u m →
      Marked K net loads u table (m ++ drop n table)
  marked_by u n table m e long kept told =
      let same : length m ≡ n = kept ∙ length-take-le n table (omega (arith, e, long)) in
      record {
        each = λ v l.
            let at = nth_before m (drop n table) v (omega (arith, l, e, same)) in
            ⊎_elim (λ p. inl (p.0, at ∙ p.1)) (λ p. inr (p.0, at ∙ p.1)) (told v l);
        past = drop-append-drop n table m net.places (omega (arith, e)) same;
      }
    where
      nth_before : (xs ys : List ℕ) (v : ℕ) → v < length xs → slice_get (xs ++ ys) v ≡ slice_get xs v
      nth_before xs ys v l =
          slice_get-get_or (xs ++ ys) v 0 (omega (arith, l, length-append xs ys)) ∙ ap (λ x. Some x) (get_or_append_left xs ys 0 v l) ∙ sym (slice_get-get_or xs v 0 l)
