-- What the code of pairs computes: an n-fold sum goes by parts, and a comparison goes by the first part, then by the second.
use Rattle.std.proofs.Common.{◌≡◌, ℕ, zero, suc, Ordering, Less, Equal, Greater, sym, refl, ap, ◌∙◌, subst, ap₂}
use Rattle.std.specs.Ordering.{ordering_then}
use Rattle.costs.specs.Group.{Group, times}
use Rattle.costs.specs.Kind.{Kind, Compares}
use Rattle.costs.specs.Pair.{pair_group, pair_kind}
use Rattle.costs.specs.PairLaws.{equal_le, same_pair}
use Rattle.costs.specs.declared.pair.Pair.{Pair}

times_parts : (g h : Group) (n : ℕ) (x : g.Carrier × h.Carrier) → times (pair_group g h) n x ≡ (times g n x.0, times h n x.1)
times_parts g h zero x = refl
times_parts g h (suc n) x = ap (λ t. (pair_group g h).plus t x) (times_parts g h n x)

module _ {C R D S : Type 0} (K : Kind C R) (L : Kind D S) where
  pub ranked : (x y : Pair C D) (a b o : Ordering) → o ≡ ordering_then a b → Compares K x.first y.first a → Compares L x.second y.second b → Compares (pair_kind K L) x y o
  ranked x y a b o e p q = subst (Compares (pair_kind K L) x y) (sym e) (by_first a b p q)
    where
      by_second : (b : Ordering) → x.first ≡ y.first → Compares L x.second y.second b → Compares (pair_kind K L) x y b
      by_second Less e q = ((equal_le K.group _ _ (ap K.value e), λ _. q.0), λ d. q.1 (ap (λ v. v.1) d))
      by_second Equal e q = same_pair K L x y e q
      by_second Greater e q = ((equal_le K.group _ _ (ap K.value (sym e)), λ _. q.0), λ d. q.1 (ap (λ v. v.1) d))

      by_first : (a b : Ordering) → Compares K x.first y.first a → Compares L x.second y.second b → Compares (pair_kind K L) x y (ordering_then a b)
      by_first Less b p q = ((p.0, λ d. absurd (p.1 d)), λ d. p.1 (ap (λ v. v.0) d))
      by_first Equal b p q = by_second b p q
      by_first Greater b p q = ((p.0, λ d. absurd (p.1 d)), λ d. p.1 (ap (λ v. v.0) d))

  pub times_pair : (n : ℕ) (x s : Pair C D) → K.value s.first ≡ times K.group n (K.value x.first) → L.value s.second ≡ times L.group n (L.value x.second) → (pair_kind K L).value s ≡ times (pair_group K.group L.group) n ((pair_kind K L).value x)
  times_pair n x s p q = ap₂ (λ a b. (a, b)) p q ∙ sym (times_parts K.group L.group n ((pair_kind K L).value x))
