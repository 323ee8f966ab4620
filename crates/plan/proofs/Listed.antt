-- The events of a list of calls, as one answer after the other is put at the end.
use Rattle.std.proofs.Common.{◌≡◌, ℕ, zero, suc, ◌+◌, ◌≤◌, List, [], ◌∷◌, ◌++◌, length, get_or, refl, ap, ◌∙◌, subst, ap₂, arith}
use Rattle.std.proofs.Math.ListN.{get_or-append}
use Rattle.std.proofs.Math.Seq.{get_or-append_seam}
use Rattle.plan.specs.declared.calls.Answer.{Answer}
use Rattle.plan.specs.declared.calls.Answer.TheVariants.{Opened}
use Rattle.plan.specs.declared.calls.Call.{Call}
use Rattle.plan.specs.declared.calls.Call.TheVariants.{Open}
use Rattle.plan.specs.Histories.{events}

module _ (work : ℕ) (calls : List Call) (answers : List Answer) (a : Answer) where
  -- an answer more alters none of the earlier events
  earlier : (n : ℕ) → n ≤ length answers → events work calls (answers ++ a ∷ []) n ≡ events work calls answers n
  earlier zero l = refl
  earlier (suc n) l =
      ap₂ (λ x h. record { call = get_or calls n Open; work = work; answer = x } ∷ h) (get_or-append answers (a ∷ []) Opened n (omega (arith, l))) (earlier n (omega (arith, l)))

  -- and makes one more
  pub one_more : (i : ℕ) → length answers ≡ i → events work calls (answers ++ a ∷ []) (i + 1) ≡ record { call = get_or calls i Open; work = work; answer = a } ∷ events work calls answers i
  one_more i e =
      let n : i + 1 ≡ suc i = omega arith in
      let at : get_or (answers ++ a ∷ []) i Opened ≡ a = subst (λ k. get_or (answers ++ a ∷ []) k Opened ≡ a) e (get_or-append_seam answers a [] Opened) in
      ap (events work calls (answers ++ a ∷ [])) n
      ∙ ap₂ (λ x h. record { call = get_or calls i Open; work = work; answer = x } ∷ h) at (earlier i (omega (arith, e)))
