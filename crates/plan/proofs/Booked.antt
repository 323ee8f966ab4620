-- What a booking does to the run of a plan.
use Rattle.std.proofs.Common.{◌≡◌, ℕ, true, false, cond, ◌||◌, eqb, ltb, List, length, pos, ◌+ℤ◌, ◌-ℤ◌, Ok, Err, vec_items, Result, sym, refl, ap, ◌∙◌, subst}
use Rattle.costs.specs.Kind.{Kind}
use Rattle.networks.specs.Net.{Net}
use Rattle.networks.specs.declared.refusal.Refusal.{Refusal}
use Rattle.networks.specs.declared.refusal.Refusal.TheVariants.{NoPlace, SamePlace, BadAmount, RestBound, NotOpen}
use Rattle.plan.specs.declared.calls.Answer.TheVariants.{Booked, Refused}
use Rattle.plan.specs.declared.calls.Call.TheVariants.{Book}
use Rattle.plan.specs.declared.planner.Plan.{Plan}
use Rattle.plan.specs.Checks.{or_else, when, outside, beyond, book_fault}
use Rattle.plan.specs.Law.{Trace}
use Rattle.plan.specs.Plans.{plan_state, Sized, Runs, booking, Stepped}
use Rattle.plan.specs.Rules.{Rule, move, book_refused, book_accepted}
use Rattle.plan.specs.State.{closed, rest, Event}
use Rattle.plan.specs.Tables.{state_of, booking_fault, Books}
use Rattle.plan.proofs.Moves.{move_long}
use Rattle.plan.proofs.Stands.{is_good}
use Rattle.plan.proofs.Lawful.{stepped}

module _ {C R N : Type 0} (K : Kind C R) (net : Net C) (work from to amount : ℕ) (h : List Event) (p : Plan N) (runs : Runs K net h p) where
  pub book_closed : p.opened ≡ false → Stepped K net h p (record { call = Book from to amount; work = work; answer = Refused NotOpen }) p
  book_closed o = stepped K net h p p (record { call = Book from to amount; work = work; answer = Refused NotOpen }) runs
      (book_refused (plan_state p) from to amount NotOpen (ap (λ b. book_fault net (cond b (state_of p.table) closed) from to amount) o))
      runs.sized

  module _ (o : p.opened ≡ true) where
    was_open : plan_state p ≡ state_of p.table
    was_open = ap (λ b. cond b (state_of p.table) closed) o

    whole : length (vec_items p.table.rests) ≡ net.places
    whole = (is_good K net (subst (Trace K net h) was_open runs.trace) refl).stands.whole

    -- the checks of a booking on the rests are those on the state
    fault_is : book_fault net (state_of p.table) from to amount ≡ booking_fault (vec_items p.table.rests) from to amount
    fault_is =
        ap (λ n. or_else (when (outside n from || outside n to) NoPlace) (or_else (when (eqb from to) SamePlace) (or_else (when (eqb amount 0 || ltb 1000000 amount) BadAmount)
        (when (beyond (rest (state_of p.table) from +ℤ pos amount) || beyond (rest (state_of p.table) to -ℤ pos amount)) RestBound)))) (sym whole)

    pub book_done : (r : Result (Unit {0}) Refusal) (q : Plan N) → q.opened ≡ true → Books p.table from to amount r q.table →
        Stepped K net h p (record { call = Book from to amount; work = work; answer = booking r }) q
    book_done (Ok u) q c b = stepped K net h p q (record { call = Book from to amount; work = work; answer = Booked }) runs
        (subst (λ s. Rule K net work s (Book from to amount) Booked (plan_state q)) (sym was_open)
        (subst (λ s. Rule K net work (state_of p.table) (Book from to amount) Booked s) (sym (ap (λ o'. cond o' (state_of q.table) closed) c ∙ after))
        (book_accepted (state_of p.table) from to amount (fault_is ∙ b.0))))
        (record {
          loads = q.table.loads.ok.0 ∙ ap length b.2 ∙ sym p.table.loads.ok.0 ∙ runs.sized.loads;
          rests = q.table.rests.ok.0 ∙ ap length b.1 ∙ move_long (vec_items p.table.rests) from to amount ∙ sym p.table.rests.ok.0 ∙ runs.sized.rests;
        })
      where
        after : state_of q.table ≡ record { open? = true; loads = vec_items p.table.loads; rests = move (vec_items p.table.rests) from to amount; count = p.table.count }
        after =
            ap (λ x. record { open? = true; loads = x; rests = vec_items q.table.rests; count = q.table.count }) b.2
            ∙ ap (λ x. record { open? = true; loads = vec_items p.table.loads; rests = x; count = q.table.count }) b.1
            ∙ ap (λ x. record { open? = true; loads = vec_items p.table.loads; rests = move (vec_items p.table.rests) from to amount; count = x }) b.3
    book_done (Err e) q c b =
        let same : plan_state q ≡ state_of p.table = ap (λ o'. cond o' (state_of q.table) closed) c ∙ ap state_of b.1 in
        stepped K net h p q (record { call = Book from to amount; work = work; answer = Refused e }) runs
        (subst (λ s. Rule K net work s (Book from to amount) (Refused e) (plan_state q)) (sym was_open)
        (subst (λ s. Rule K net work (state_of p.table) (Book from to amount) (Refused e) s) (sym same) (book_refused (state_of p.table) from to amount e (fault_is ∙ b.0))))
        (subst (Sized net) (sym b.1) runs.sized)
