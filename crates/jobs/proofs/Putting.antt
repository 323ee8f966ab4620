-- What putting a record to a plan says, by what the record asks.
use Rattle.std.proofs.Common.{◌≡◌, ℕ, List, [], ◌∷◌, ◌++◌, length, ℤ, Some, None, Result, sym, refl, subst}
use Rattle.costs.specs.declared.pair.Pair.{Pair}
use Rattle.costs.specs.declared.whole.Whole.{Whole}
use Rattle.networks.specs.Net.{Net}
use Rattle.networks.specs.declared.refusal.Refusal.{Refusal}
use Rattle.plan.specs.declared.calls.Answer.{Answer}
use Rattle.plan.specs.declared.calls.Call.{Call}
use Rattle.plan.specs.declared.calls.Call.TheVariants.{Open}
use Rattle.plan.specs.declared.planner.Plan.{Plan}
use Rattle.plan.specs.Histories.{Kept}
use Rattle.plan.specs.Plans.{CalledLawfully, Asked, OfRun, Runs, plan_state}
use Rattle.plan.specs.Questions as question
use Rattle.plan.specs.Law.{Trace, start}
use Rattle.plan.specs.State.{State, Event, closed}
use Rattle.jobs.specs.declared.entry.Entry.{Entry}
use Rattle.jobs.specs.declared.entry.Entry.TheVariants as entry
use Rattle.jobs.specs.JobRuns.{fits, asked_call, Silent, total_said, prices_said, event, Put, Puts, called, totalled, priced, silent, Said, opened, then}
use Rattle.jobs.specs.Files.{written}
use Rattle.jobs.specs.Lines.{answer_line}

none_some : {A : Type 0} (x : A) → None ≡ Some x → ⊥
none_some x e = cc

module _ {N : Type 0} (net : Net (Pair Whole Whole)) (p q : Plan N) (offset : ℕ) where
  pub call_puts : (e : Entry) (c : Call) (a : Answer) (work : ℕ) → asked_call e ≡ Some c → work ≡ net.places → CalledLawfully fits net p c work a q → Puts net p offset e (answer_line offset a) q
  call_puts e c a work is w step h runs =
      let s = subst (λ n. CalledLawfully fits net p c n a q) w step h runs in
      (_, called h (plan_state p) (plan_state q) offset e c a is s.kept, s.runs)

  pub total_puts : (r : Result (Pair Whole Whole) Refusal) → OfRun fits net p (λ s. question.Totals fits net s r) → q ≡ p → Puts net p offset entry.Total (total_said offset r) q
  total_puts r t same = subst (Puts net p offset entry.Total (total_said offset r)) (sym same) (λ h runs. (h, totalled h (plan_state p) offset r (t h runs), runs))

  pub prices_puts : (r : Result (Unit {0}) Refusal) (table rows : List (ℤ × ℤ)) → length table ≡ net.places → length rows ≡ net.places →
      OfRun fits net p (λ s. question.Prices fits net s table r rows) → plan_state q ≡ plan_state p → Asked fits net p q → Puts net p offset entry.Prices (prices_said offset r rows) q
  prices_puts r table rows l m t same asked h runs =
      (h, subst (Put net h (plan_state p) offset entry.Prices (prices_said offset r rows) h) (sym same) (priced h (plan_state p) offset r table rows l m (t h runs)), asked h runs)

  pub silent_puts : (e : Entry) → Silent e → q ≡ p → Puts net p offset e [] q
  silent_puts e quiet same = subst (Puts net p offset e []) (sym same) (λ h runs. (h, silent h (plan_state p) offset e quiet, runs))

-- a record that makes no call and is no question asks nothing
pub quiet : (e : Entry) → None ≡ asked_call e → (e ≡ entry.Total → ⊥) → (e ≡ entry.Prices → ⊥) → Silent e
quiet (entry.Head places ways) n t p = tt
quiet (entry.Way tail head limit redraws misfit) n t p = tt
quiet (entry.Book from to amount) n t p = none_some _ n
quiet entry.Route n t p = none_some _ n
quiet (entry.Settle budget) n t p = none_some _ n
quiet entry.Total n t p = t refl
quiet entry.Prices n t p = p refl
quiet (entry.Group length count) n t p = tt
quiet (entry.Last length count) n t p = tt

-- a plan is where the opening and these records lead, and they gave the text
pub record CameSo {N : Type 0} (net : Net (Pair Whole Whole)) (es : List Entry) (text : List ℕ) (p : Plan N) : Type 0 where
  pub history : List Event
  pub said : Said net es text history (plan_state p)
  pub runs : Runs fits net history p

shut : {net : Net (Pair Whole Whole)} {s : State} → Trace fits net [] s → s ≡ closed
shut start = refl

module _ {N : Type 0} (net : Net (Pair Whole Whole)) where
  -- the opening
  pub opens : (p q : Plan N) (a : Answer) (work : ℕ) (text : List ℕ) → Runs fits net [] p → work ≡ net.places → CalledLawfully fits net p Open work a q → text ≡ answer_line 0 a → CameSo net [] text q
  opens p q a work text runs w step is =
      let s = subst (λ n. CalledLawfully fits net p Open n a q) w step [] runs in
      record {
        history = event net Open a ∷ [];
        said = subst (λ t. Said net [] t (event net Open a ∷ []) (plan_state q)) (sym is) (opened a (plan_state q) (subst (λ z. Kept fits net [] z (event net Open a) (plan_state q)) (shut runs.trace) s.kept));
        runs = s.runs;
      }

  -- one record more
  pub puts_more : (p q : Plan N) (es : List Entry) (e : Entry) (text line text' : List ℕ) (offset : ℕ) → CameSo net es text p → offset ≡ length (written es) → Puts net p offset e line q →
      text' ≡ text ++ line → CameSo net (es ++ e ∷ []) text' q
  puts_more p q es e text line text' offset came at puts is =
      let s = puts came.history came.runs in
      record {
        history = s.0;
        said = subst (λ t. Said net (es ++ e ∷ []) t s.0 (plan_state q)) (sym is)
            (then es e text line came.history s.0 (plan_state p) (plan_state q) came.said (subst (λ n. Put net came.history (plan_state p) n e line s.0 (plan_state q)) at s.1));
        runs = s.2;
      }
