-- Equations and orders of a commutative group, by counting.
use Rattle.std.proofs.Common.{◌≡◌, ℕ, zero, suc, ◌+◌, ◌<◌, Bool, true, false, cond, not, ◌&&◌, eqb, List, length, get_or, sym, refl, ap, ◌∙◌, subst, ap₂, subst₂, ⊎_elim, arith}
use Rattle.std.proofs.lemmas.List.{get_or_past}
use Rattle.std.proofs.lemmas.Bool.{cases_lt, cases_eq, eq-eqb, ne_eqb, eqb-true, and_parts}
use Rattle.costs.specs.Group.{Group}
use Rattle.plan.proofs.Flow.{total, times, unit_of}
use Rattle.plan.proofs.Sums.{unit_left, cross, total_same, total_none, total_add, total_pick}
use Rattle.plan.proofs.Costs.{adds, cancel, undo, times_add}

-- a sum that is written out, over numbered terms
pub data Sum : Type 0 where
  var : ℕ → Sum
  nil : Sum
  ◌⊞◌ : Sum → Sum → Sum
  neg : Sum → Sum

infixl 60 ◌⊞◌
-- how often the term k stands in it, without a sign (true) or with one
abbrev counts : Bool → Sum → ℕ → ℕ
counts b (var j) k = cond b (cond (eqb j k) 1 0) 0
counts b nil k = 0
counts b (x ⊞ y) k = counts b x k + counts b y k
counts b (neg x) k = counts (not b) x k

abbrev agree : ℕ → Sum → Sum → Bool
agree zero x y = true
agree (suc k) x y = agree k x y && eqb (counts true x k + counts false y k) (counts true y k + counts false x k)

agree_at : (n : ℕ) (x y : Sum) → agree n x y ≡ true → (k : ℕ) → k < n → counts true x k + counts false y k ≡ counts true y k + counts false x k
agree_at zero x y h k l = absurd (omega arith)
agree_at (suc n) x y h k l =
    let p = and_parts (agree n x y) _ h in
    ⊎_elim
    (λ e. subst (λ j. counts true x j + counts false y j ≡ counts true y j + counts false x j) (sym e) (eqb-true _ _ p.1))
    (λ ne. agree_at n x y p.0 k (omega arith))
    (cases_eq k n)

module _ (g : Group) (ts : List g.Carrier) where
  abbrev term : ℕ → g.Carrier
  term k = get_or ts k g.zero

  abbrev pub value : Sum → g.Carrier
  value (var k) = get_or ts k g.zero
  value nil = g.zero
  value (x ⊞ y) = g.plus (value x) (value y)
  value (neg x) = g.opp (value x)

  abbrev all : (ℕ → ℕ) → g.Carrier
  all c = total g.zero g.plus (length ts) (λ k. times g (c k) (term k))

  all_plus : (c d : ℕ → ℕ) → all (λ k. c k + d k) ≡ g.plus (all c) (all d)
  all_plus c d = total_same (adds g) (length ts) _ _ (λ k l. times_add g (c k) (d k) (term k)) ∙ total_add (adds g) (length ts) _ _

  all_none : all (λ k. 0) ≡ g.zero
  all_none = total_none (adds g) (length ts) _ (λ k l. refl)

  all_one : (j : ℕ) → all (λ k. cond (eqb j k) 1 0) ≡ term j
  all_one j =
      ⊎_elim
      (λ l. total_pick (adds g) (length ts) j (λ k. times g (cond (eqb j k) 1 0) (term k)) l
      (λ k b ne. ap (λ t. times g (cond t 1 0) (term k)) (ne_eqb j k (λ e. ne (sym e))))
      ∙ ap (λ t. times g (cond t 1 0) (term j)) (eq-eqb j j refl) ∙ g.unit _)
      (λ l. total_none (adds g) (length ts) _ (λ k b. ap (λ t. times g (cond t 1 0) (term k)) (ne_eqb j k (omega arith))) ∙ sym (get_or_past ts j g.zero l))
      (cases_lt j (length ts))

  counted : (x : Sum) → g.plus (value x) (all (counts false x)) ≡ all (counts true x)
  counted (var j) = ap (g.plus (term j)) all_none ∙ unit_of g _ ∙ sym (all_one j)
  counted nil = unit_left (adds g) _
  counted (x ⊞ y) =
      ap (g.plus (value (x ⊞ y))) (all_plus (counts false x) (counts false y)) ∙ cross (adds g) _ _ _ _
      ∙ ap₂ g.plus (counted x) (counted y) ∙ sym (all_plus (counts true x) (counts true y))
  counted (neg x) =
      ap (g.plus (g.opp (value x))) (sym (counted x)) ∙ sym (g.assoc _ _ _)
      ∙ ap (λ z. g.plus z (all (counts false x))) (g.comm _ _ ∙ g.inverse _) ∙ unit_left (adds g) _

  pub same : (x y z : g.Carrier) → g.plus x z ≡ g.plus y z → x ≡ y
  same x y z e = sym (undo g x z) ∙ ap (λ w. g.plus w (g.opp z)) e ∙ undo g y z

  -- two sums are equal where they count alike
  pub solve : (x y : Sum) → agree (length ts) x y ≡ true → value x ≡ value y
  solve x y h =
      let level : g.plus (all (counts true x)) (all (counts false y)) ≡ g.plus (all (counts true y)) (all (counts false x)) =
      sym (all_plus (counts true x) (counts false y))
      ∙ total_same (adds g) (length ts) _ _ (λ k l. ap (λ n. times g n (term k)) (agree_at (length ts) x y h k l))
      ∙ all_plus (counts true y) (counts false x) in
      same (value x) (value y) (g.plus (all (counts false x)) (all (counts false y)))
      (sym (g.assoc _ _ _) ∙ ap (λ z. g.plus z (all (counts false y))) (counted x) ∙ level
      ∙ ap (λ z. g.plus z (all (counts false x))) (sym (counted y)) ∙ g.assoc _ _ _ ∙ ap (g.plus (value y)) (g.comm _ _))

  -- an order that is another, with sums moved over
  pub moved : (x y a b : Sum) → agree (length ts) (a ⊞ y) (x ⊞ b) ≡ true → g.le (value x) (value y) → g.le (value a) (value b)
  moved x y a b h l =
      cancel g (value a) (value b) (value y)
      (subst₂ g.le (sym (solve (a ⊞ y) (x ⊞ b) h)) (g.comm _ _) (g.shift _ _ (value b) l))
