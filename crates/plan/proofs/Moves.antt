-- What a move of x between two rests changes: each rest, their sum, and what is owed.
use Rattle.std.proofs.Common.{◌≡◌, ℕ, zero, suc, ◌+◌, ◌<◌, cond, eqb, ◌≢◌, List, length, get_or, set, ℤ, pos, negsuc, ◌+ℤ◌, ◌-ℤ◌, ◌≤ℤ◌, sym, refl, ap, ◌∙◌, subst, ⊎_elim, arith, length-set, get_or-set_other, get_or-set_same}
use Rattle.std.proofs.lemmas.Int.{ints}
use Rattle.std.proofs.lemmas.Bool.{cases_eq, eq-eqb, ne_eqb, lt-ltb}
use Rattle.plan.specs.State.{State, rest}
use Rattle.plan.specs.Rules.{move}
use Rattle.plan.specs.Law.{positive, owed}
use Rattle.plan.specs.Standing.{rests_below}
use Rattle.plan.proofs.Flow.{total}
use Rattle.costs.specs.Whole.{whole_group}
use Rattle.plan.proofs.Sums.{total_same, total_add, total_pick}
use Rattle.plan.proofs.Costs.{adds, nats}
use Rattle.plan.proofs.Send.{spot}

pub here : (x p : ℕ) → spot x p p ≡ pos x
here x p = ap (λ b. cond b (pos x) (pos 0)) (eq-eqb p p refl)

pub away : (x p w : ℕ) → p ≢ w → spot x p w ≡ pos 0
away x p w ne = ap (λ b. cond b (pos x) (pos 0)) (ne_eqb p w ne)

pub spot_low : (x p w : ℕ) → pos 0 ≤ℤ spot x p w
spot_low x p w = ⊎_elim
    (λ e. let i : spot x p w ≡ pos x = subst (λ q. spot x p q ≡ pos x) e (here x p) in omega (arith, ints))
    (λ ne. let i = away x p w ne in omega (arith, ints))
    (cases_eq p w)

pub move_long : (rs : List ℤ) (a b x : ℕ) → length (move rs a b x) ≡ length rs
move_long rs a b x = length-set _ _ _ ∙ length-set _ _ _

-- x more at a, and x less at b
pub move_at : (rs : List ℤ) (a b x v : ℕ) → a < length rs → b < length rs → a ≢ b →
    get_or (move rs a b x) v (pos 0) +ℤ spot x b v ≡ get_or rs v (pos 0) +ℤ spot x a v
move_at rs a b x v la lb ne =
    ⊎_elim
    (λ e. subst (λ w. get_or (move rs a b x) w (pos 0) +ℤ spot x b w ≡ get_or rs w (pos 0) +ℤ spot x a w) (sym e)
    (less _ _ _ _ (get_or-set_same (set rs a (get_or rs a (pos 0) +ℤ pos x)) b (get_or rs b (pos 0) -ℤ pos x) (pos 0) (rw (length-set rs a (get_or rs a (pos 0) +ℤ pos x)) lb)) (here x b) (away x a b ne)))
    (λ nb. ⊎_elim
    (λ e. subst (λ w. get_or (move rs a b x) w (pos 0) +ℤ spot x b w ≡ get_or rs w (pos 0) +ℤ spot x a w) (sym e)
    (more _ _ _ _ (get_or-set_other (set rs a (get_or rs a (pos 0) +ℤ pos x)) b a _ (pos 0) ne ∙ get_or-set_same rs a (get_or rs a (pos 0) +ℤ pos x) (pos 0) la) (away x b a (λ z. ne (sym z))) (here x a)))
    (λ na. as_was _ _ _ _ (get_or-set_other (set rs a (get_or rs a (pos 0) +ℤ pos x)) b v _ (pos 0) nb ∙ get_or-set_other rs a v _ (pos 0) na) (away x b v (λ z. nb (sym z))) (away x a v (λ z. na (sym z))))
    (cases_eq v a))
    (cases_eq v b)
  where
    less : (r s p q : ℤ) → r ≡ s -ℤ pos x → p ≡ pos x → q ≡ pos 0 → r +ℤ p ≡ s +ℤ q
    less r s p q e i j = omega (arith, ints)

    more : (r s p q : ℤ) → r ≡ s +ℤ pos x → p ≡ pos 0 → q ≡ pos x → r +ℤ p ≡ s +ℤ q
    more r s p q e i j = omega (arith, ints)

    as_was : (r s p q : ℤ) → r ≡ s → p ≡ pos 0 → q ≡ pos 0 → r +ℤ p ≡ s +ℤ q
    as_was r s p q e i j = omega (arith, ints)

abbrev pub all_of : ℕ → (ℕ → ℤ) → ℤ
all_of n t = total (pos 0) ◌+ℤ◌ n t

spot_all : (x n p : ℕ) → p < n → all_of n (spot x p) ≡ pos x
spot_all x n p l = total_pick (adds whole_group) n p (spot x p) l (λ v h ne. away x p v (λ e. ne (sym e))) ∙ here x p

-- a move keeps the sum of the rests
pub move_all : (n a b x : ℕ) (r r' : ℕ → ℤ) → a < n → b < n → ((v : ℕ) → v < n → r' v +ℤ spot x b v ≡ r v +ℤ spot x a v) → all_of n r' ≡ all_of n r
move_all n a b x r r' la lb h =
    drop_same _ _ _ (sym (ap (λ z. all_of n r' +ℤ z) (sym (spot_all x n b lb)) ∙ sym (total_add (adds whole_group) n r' (spot x b))
    ∙ total_same (adds whole_group) n _ _ h ∙ total_add (adds whole_group) n r (spot x a) ∙ ap (λ z. all_of n r +ℤ z) (spot_all x n a la)))
  where
    drop_same : (p q z : ℤ) → p +ℤ z ≡ q +ℤ z → q ≡ p
    drop_same p q z e = omega (arith, ints)

positive_suc : (n : ℕ) → positive (pos (suc n)) ≡ suc n
positive_suc n = ap (λ b. cond b (suc n) 0) (lt-ltb 0 (suc n) (omega arith))

pub positive_is : (z : ℤ) → pos 0 ≤ℤ z → pos (positive z) ≡ z
positive_is (pos zero) h = refl
positive_is (pos (suc n)) h = ap pos (positive_suc n)
positive_is (negsuc n) h = absurd (omega (arith, ints))

pub positive_none : (z : ℤ) → z ≤ℤ pos 0 → positive z ≡ 0
positive_none (pos zero) h = refl
positive_none (pos (suc n)) h = absurd (omega (arith, ints))
positive_none (negsuc n) h = refl

pub owed_is : (s : State) (n : ℕ) → owed s n ≡ total 0 ◌+◌ n (λ v. positive (rest s v))
owed_is s zero = refl
owed_is s (suc n) = ap (λ k. k + positive (rest s n)) (owed_is s n)

pub rests_is : (s : State) (n : ℕ) → rests_below s n ≡ all_of n (rest s)
rests_is s zero = refl
rests_is s (suc n) = ap (λ z. z +ℤ rest s n) (rests_is s n)

abbrev bit : ℕ → ℕ → ℕ → ℕ
bit x u v = cond (eqb u v) x 0

-- what is sent from u to t is owed no more
pub owed_less : (n u t x : ℕ) (r r' : ℕ → ℤ) → u < n → u ≢ t → pos x ≤ℤ r u → pos x ≤ℤ (pos 0 -ℤ r t) →
    ((v : ℕ) → v < n → r' v +ℤ spot x u v ≡ r v +ℤ spot x t v) →
    total 0 ◌+◌ n (λ v. positive (r' v)) + x ≡ total 0 ◌+◌ n (λ v. positive (r v))
owed_less n u t x r r' l ne hu ht h =
    ap (λ z. total 0 ◌+◌ n (λ v. positive (r' v)) + z) (sym one) ∙ sym (total_add nats n (λ v. positive (r' v)) (bit x u)) ∙ total_same nats n _ _ each
  where
    one : total 0 ◌+◌ n (bit x u) ≡ x
    one = total_pick nats n u (bit x u) l (λ v b nv. ap (λ c. cond c x 0) (ne_eqb u v (λ e. nv (sym e)))) ∙ ap (λ c. cond c x 0) (eq-eqb u u refl)

    at_u : (p q : ℤ) → p +ℤ pos x ≡ q +ℤ pos 0 → pos x ≤ℤ q → positive p + x ≡ positive q
    at_u p q e k =
        let a = positive_is p (omega (arith, ints)) in
        let b = positive_is q (omega (arith, ints)) in
        omega (arith, ints)

    at_t : (p q : ℤ) → p +ℤ pos 0 ≡ q +ℤ pos x → pos x ≤ℤ (pos 0 -ℤ q) → positive p + 0 ≡ positive q
    at_t p q e k =
        let a = positive_none p (omega (arith, ints)) in
        let b = positive_none q (omega (arith, ints)) in
        omega arith

    at_other : (p q : ℤ) → p +ℤ pos 0 ≡ q +ℤ pos 0 → positive p + 0 ≡ positive q
    at_other p q e = let a : p ≡ q = omega (arith, ints) in let b = ap positive a in omega arith

    each : (v : ℕ) → v < n → positive (r' v) + bit x u v ≡ positive (r v)
    each v b =
        ⊎_elim
        (λ e. subst (λ w. positive (r' w) + bit x u w ≡ positive (r w)) e
        (ap (λ c. positive (r' u) + cond c x 0) (eq-eqb u u refl) ∙ at_u (r' u) (r u) (ap (λ z. r' u +ℤ z) (sym (here x u)) ∙ h u l ∙ ap (λ z. r u +ℤ z) (away x t u (λ e'. ne (sym e')))) hu))
        (λ nu. ap (λ c. positive (r' v) + cond c x 0) (ne_eqb u v nu) ∙ ⊎_elim
        (λ e. at_t (r' v) (r v) (ap (λ z. r' v +ℤ z) (sym (away x u v nu)) ∙ h v b ∙ ap (λ z. r v +ℤ z) (ap (spot x t) (sym e) ∙ here x t)) (subst (λ w. pos x ≤ℤ (pos 0 -ℤ r w)) e ht))
        (λ nt. at_other (r' v) (r v) (ap (λ z. r' v +ℤ z) (sym (away x u v nu)) ∙ h v b ∙ ap (λ z. r v +ℤ z) (away x t v nt)))
        (cases_eq t v))
        (cases_eq u v)

-- where nothing is owed and the rests add up to zero, each is zero
pub none_owed : (n : ℕ) (r : ℕ → ℤ) → total 0 ◌+◌ n (λ v. positive (r v)) ≡ 0 → all_of n r ≡ pos 0 → (v : ℕ) → v < n → r v ≡ pos 0
none_owed n r owes level v l = zeros n (λ k b. low n k b owes) (λ _. level) v l
  where
    at_most : (z : ℤ) → positive z ≡ 0 → z ≤ℤ pos 0
    at_most (pos zero) e = omega (arith, ints)
    at_most (pos (suc m)) e = absurd (let h = positive_suc m in omega arith)
    at_most (negsuc m) e = omega (arith, ints)

    low : (m k : ℕ) → k < m → total 0 ◌+◌ m (λ w. positive (r w)) ≡ 0 → r k ≤ℤ pos 0
    low zero k b e = absurd (omega arith)
    low (suc m) k b e =
        ⊎_elim
        (λ i. subst (λ j. r j ≤ℤ pos 0) (sym i) (at_most (r m) (omega arith)))
        (λ ni. low m k (omega arith) (omega arith))
        (cases_eq k m)

    sums : (m : ℕ) → ((k : ℕ) → k < m → r k ≤ℤ pos 0) → all_of m r ≤ℤ pos 0
    sums zero h = omega (arith, ints)
    sums (suc m) h = let a = sums m (λ k b. h k (omega arith)) in let b = h m (omega arith) in omega (arith, ints)

    zeros : (m : ℕ) → ((k : ℕ) → k < m → r k ≤ℤ pos 0) → (Unit {0} → all_of m r ≡ pos 0) → (k : ℕ) → k < m → r k ≡ pos 0
    zeros zero h e k b = absurd (omega arith)
    zeros (suc m) h e k b =
        let s = sums m (λ j c. h j (omega arith)) in
        let t = h m (omega arith) in
        let whole_is = e tt in
        ⊎_elim
        (λ i. subst (λ j. r j ≡ pos 0) (sym i) (omega (arith, ints)))
        (λ ni. zeros m (λ j c. h j (omega arith)) (λ _. omega (arith, ints)) k (omega arith))
        (cases_eq k m)
