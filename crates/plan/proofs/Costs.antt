-- Multiples, order and sums in an ordered commutative group.
use Rattle.std.proofs.Common.{◌≡◌, ℕ, zero, suc, ◌+◌, ◌-◌, ◌<◌, Bool, true, false, cond, eqb, ◌≢◌, ◌⊎◌, sym, refl, ap, ◌∙◌, subst, subst₂, inl, inr, ⊎_elim, add-zero, add-suc, arith}
use Rattle.std.proofs.lemmas.Bool.{true≢false, false≢true, cases_lt, eq-eqb, ne_eqb, cond-true, cond-false}
use Rattle.costs.specs.Group.{Group}
use Rattle.plan.proofs.Flow.{total, times, unit_of}
use Rattle.plan.proofs.Sums.{Adds, cross, total_same, total_add, total_swap, total_pick}

pub nats : Adds 0 ◌+◌
nats = record { assoc = λ x y z. omega arith; comm = λ x y. omega arith; unit = λ x. omega arith }

pub adds : (g : Group) → Adds g.zero g.plus
adds g = record { assoc = g.assoc; comm = g.comm; unit = unit_of g }

abbrev tag : {A B : Type 0} → A ⊎ B → Bool
tag (inl a) = true
tag (inr b) = false

-- to compare is to decide whether two costs are the same
pub same_or : (g : Group) (x y : g.Carrier) → (x ≡ y) ⊎ (x ≢ y)
same_or g x y = by (g.total x y) (g.total y x) (λ e. subst (λ z. tag (g.total x z) ≡ tag (g.total z x)) e refl)
  where
    by : (a : g.le x y ⊎ g.le y x) (b : g.le y x ⊎ g.le x y) → (x ≡ y → tag a ≡ tag b) → (x ≡ y) ⊎ (x ≢ y)
    by (inl a) (inl b) h = inl (g.antisym _ _ a b)
    by (inl a) (inr b) h = inr (λ e. true≢false (h e))
    by (inr a) (inl b) h = inr (λ e. false≢true (h e))
    by (inr a) (inr b) h = inl (g.antisym _ _ b a)

-- x is at most y, or y is less
pub at_least_or : (g : Group) (x y : g.Carrier) → g.le x y ⊎ (g.le y x × (y ≢ x))
at_least_or g x y = ⊎_elim inl (λ l. ⊎_elim (λ e. inl (subst (λ z. g.le z y) e (g.refl_le y))) (λ ne. inr (l, ne)) (same_or g y x)) (g.total x y)

module _ (g : Group) where
  pub both : (a b c d : g.Carrier) → g.le a b → g.le c d → g.le (g.plus a c) (g.plus b d)
  both a b c d p q =
      g.trans _ _ _ (g.shift a b c p) (subst₂ g.le (g.comm c b) (g.comm d b) (g.shift c d b q))

  pub undo : (x z : g.Carrier) → g.plus (g.plus x z) (g.opp z) ≡ x
  undo x z = g.assoc _ _ _ ∙ ap (g.plus x) (g.inverse z) ∙ unit_of g x

  pub cancel : (x y z : g.Carrier) → g.le (g.plus x z) (g.plus y z) → g.le x y
  cancel x y z h = subst₂ g.le (undo x z) (undo y z) (g.shift _ _ (g.opp z) h)

  pub times_add : (m n : ℕ) (x : g.Carrier) → times g (m + n) x ≡ g.plus (times g m x) (times g n x)
  times_add m zero x = ap (λ k. times g k x) (add-zero m) ∙ sym (unit_of g _)
  times_add m (suc n) x = ap (λ k. times g k x) (add-suc m n) ∙ ap (λ z. g.plus z x) (times_add m n x) ∙ g.assoc _ _ _

  pub times_plus : (n : ℕ) (x y : g.Carrier) → times g n (g.plus x y) ≡ g.plus (times g n x) (times g n y)
  times_plus zero x y = sym (unit_of g _)
  times_plus (suc n) x y = ap (λ z. g.plus z (g.plus x y)) (times_plus n x y) ∙ cross (adds g) _ _ _ _

  pub times_le : (n : ℕ) (x y : g.Carrier) → (0 < n → g.le x y) → g.le (times g n x) (times g n y)
  times_le zero x y h = g.refl_le _
  times_le (suc n) x y h = both _ _ _ _ (times_le n x y (λ l. h (omega arith))) (h (omega arith))

  pub total_le : (n : ℕ) (s t : ℕ → g.Carrier) → ((k : ℕ) → k < n → g.le (s k) (t k)) → g.le (total g.zero g.plus n s) (total g.zero g.plus n t)
  total_le zero s t h = g.refl_le _
  total_le (suc n) s t h = both _ _ _ _ (total_le n s t (λ k l. h k (omega arith))) (h n (omega arith))

  pub times_total : (m : ℕ) (h : ℕ → ℕ) (x : g.Carrier) → times g (total 0 ◌+◌ m h) x ≡ total g.zero g.plus m (λ k. times g (h k) x)
  times_total zero h x = refl
  times_total (suc m) h x = times_add (total 0 ◌+◌ m h) (h m) x ∙ ap (λ w. g.plus w (times g (h m) x)) (times_total m h x)

  -- where more is carried, A is no less than B, and where less, no more
  more : (f d : ℕ) (A B : g.Carrier) → (0 < d → g.le B A) → g.le (g.plus (times g f A) (times g (f + d) B)) (g.plus (times g (f + d) A) (times g f B))
  more f d A B h =
      let fA = times g f A in
      let fB = times g f B in
      let step : g.le (g.plus (g.plus fA fB) (times g d B)) (g.plus (g.plus fA fB) (times g d A)) = both _ _ _ _ (g.refl_le _) (times_le d B A h) in
      subst₂ g.le
      (g.assoc _ _ _ ∙ ap (g.plus fA) (sym (times_add f d B)))
      (simp (g.assoc, g.comm) refl ∙ ap (λ w. g.plus w fB) (sym (times_add f d A)))
      step

  pub weigh : (f f' : ℕ) (A B : g.Carrier) → (f < f' → g.le B A) → (f' < f → g.le A B) → g.le (g.plus (times g f A) (times g f' B)) (g.plus (times g f' A) (times g f B))
  weigh f f' A B up down =
      ⊎_elim
      (λ l. let e : f + (f' - f) ≡ f' = omega arith in rw e at (more f (f' - f) A B (λ p. up (omega arith))))
      (λ l. let e : f' + (f - f') ≡ f = omega arith in subst₂ g.le (g.comm _ _) (g.comm _ _) (rw e at (more f' (f - f') B A (λ p. down (omega arith)))))
      (cases_lt f f')

  pub weigh_all : (m : ℕ) (f f' : ℕ → ℕ) (A B : ℕ → g.Carrier) → ((k : ℕ) → k < m → f k < f' k → g.le (B k) (A k)) → ((k : ℕ) → k < m → f' k < f k → g.le (A k) (B k)) →
      g.le (g.plus (total g.zero g.plus m (λ k. times g (f k) (A k))) (total g.zero g.plus m (λ k. times g (f' k) (B k))))
      (g.plus (total g.zero g.plus m (λ k. times g (f' k) (A k))) (total g.zero g.plus m (λ k. times g (f k) (B k))))
  weigh_all m f f' A B up down =
      subst₂ g.le (total_add (adds g) m _ _) (total_add (adds g) m _ _) (total_le m _ _ (λ k l. weigh (f k) (f' k) (A k) (B k) (up k l) (down k l)))

  -- a sum over ways, each with a worth of its end, is a sum over places
  pub by_places : (m n : ℕ) (end f : ℕ → ℕ) (π : ℕ → g.Carrier) → ((k : ℕ) → k < m → end k < n) →
      total g.zero g.plus m (λ k. times g (f k) (π (end k))) ≡ total g.zero g.plus n (λ v. times g (total 0 ◌+◌ m (λ k. cond (eqb (end k) v) (f k) 0)) (π v))
  by_places m n end f π inside =
      let one : (k : ℕ) → k < m → times g (f k) (π (end k)) ≡ total g.zero g.plus n (λ v. times g (cond (eqb (end k) v) (f k) 0) (π v)) =
      λ k l. sym (total_pick (adds g) n (end k) (λ v. times g (cond (eqb (end k) v) (f k) 0) (π v)) (inside k l)
      (λ v vn ne. ap (λ w. times g w (π v)) (cond-false (eqb (end k) v) (f k) 0 (ne_eqb (end k) v (λ e. ne (sym e)))))
      ∙ ap (λ w. times g w (π (end k))) (cond-true (eqb (end k) (end k)) (f k) 0 (eq-eqb (end k) (end k) refl))) in
      total_same (adds g) m _ _ one
      ∙ total_swap (adds g) m n (λ k v. times g (cond (eqb (end k) v) (f k) 0) (π v))
      ∙ total_same (adds g) n _ _ (λ v l. sym (times_total m (λ k. cond (eqb (end k) v) (f k) 0) (π v)))
