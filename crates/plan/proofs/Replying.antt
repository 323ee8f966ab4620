-- What an open plan answers to a question.
use Rattle.std.proofs.Common.{◌≡◌, ℕ, ◌<◌, ◌≤◌, true, false, cond, List, get_or, ℤ, pos, Some, None, Ok, vec_items, vec_len, Option, sym, refl, ap, ◌∙◌, subst, le-ltb, lt-ltb, MatchOption}
use Rattle.std.specs.Option.{ok_or}
use Rattle.costs.specs.Kind.{Kind}
use Rattle.networks.specs.Net.{Net}
use Rattle.networks.specs.declared.refusal.Refusal.{Refusal}
use Rattle.networks.specs.declared.refusal.Refusal.TheVariants.{NoPlace, NoWay, NotOpen}
use Rattle.plan.specs.declared.planner.Plan.{Plan}
use Rattle.plan.specs.Checks.{when, outside}
use Rattle.plan.specs.Loads.{costs}
use Rattle.plan.specs.Plans.{Runs, plan_state}
use Rattle.plan.specs.Questions.{answered, load_fault, rest_fault, Totals}
use Rattle.plan.specs.Standing.{Standing}
use Rattle.plan.specs.State.{Event, rest}
use Rattle.plan.specs.Tables.{state_of}
use Rattle.plan.proofs.RouteEnds.{is_open, open_stands, open_made}

-- an entry is there exactly if its index is inside
entry_is : {A : Type 0} (n v : ℕ) (e : Refusal) (a : A) (r : Option A) → MatchOption r (n ≤ v) (λ x. (v < n) × (x ≡ a)) → ok_or r e ≡ answered (when (outside n v) e) a
entry_is n v e a None l = sym (ap (λ b. answered (when (cond b false true) e) a) (le-ltb v n l))
entry_is n v e a (Some x) f = ap Ok f.1 ∙ sym (ap (λ b. answered (when (cond b false true) e) a) (lt-ltb v n f.0))

module _ {C R N : Type 0} (K : Kind C R) (net : Net C) (h : List Event) (p : Plan N) (runs : Runs K net h p) (o : p.opened ≡ true) where
  pub total_is : (r : Option C) → MatchOption r (Standing K net (state_of p.table) → ⊥) (λ c. K.value c ≡ costs K net.ways (vec_items p.table.loads)) →
      Totals K net (plan_state p) (ok_or r NotOpen)
  total_is None f = absurd (f (open_stands K net h p runs o))
  total_is (Some c) e = subst (λ s. Totals K net s (Ok c)) (sym (is_open K net h p runs o)) (refl, e)

  pub load_is : (way : ℕ) (r : Option ℕ) →
      MatchOption r (vec_len p.table.loads ≤ way) (λ n. (way < vec_len p.table.loads) × (n ≡ get_or (vec_items p.table.loads) way 0)) →
      ok_or r NoWay ≡ answered (load_fault net (plan_state p) way) (get_or (plan_state p).loads way 0)
  load_is way r f =
      let a = get_or (vec_items p.table.loads) way 0 in
      subst (λ s. ok_or r NoWay ≡ answered (load_fault net s way) (get_or s.loads way 0)) (sym (is_open K net h p runs o))
      (subst (λ n. ok_or r NoWay ≡ answered (when (outside n way) NoWay) a) (open_made K net h p runs o).1 (entry_is _ way NoWay a r f))

  pub rest_is : (place : ℕ) (r : Option ℤ) →
      MatchOption r (vec_len p.table.rests ≤ place) (λ z. (place < vec_len p.table.rests) × (z ≡ get_or (vec_items p.table.rests) place (pos 0))) →
      ok_or r NoPlace ≡ answered (rest_fault net (plan_state p) place) (rest (plan_state p) place)
  rest_is place r f =
      let a = get_or (vec_items p.table.rests) place (pos 0) in
      subst (λ s. ok_or r NoPlace ≡ answered (rest_fault net s place) (rest s place)) (sym (is_open K net h p runs o))
      (subst (λ n. ok_or r NoPlace ≡ answered (when (outside n place) NoPlace) a) (open_made K net h p runs o).0 (entry_is _ place NoPlace a r f))
