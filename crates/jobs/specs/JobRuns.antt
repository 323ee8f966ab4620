-- What a job file makes the job program say: a line for each call, the opening first, by the rules of the plan and keeping its law.
use Rattle.std.specs.Prelude.{◌≡◌, ℕ, ◌⊎◌, List, [], ◌∷◌, ◌++◌, length, ℤ, Some, None, Ok, Err, Option, Result}
use Rattle.costs.specs.Kind.{Kind}
use Rattle.costs.specs.Pair.{pair_kind}
use Rattle.costs.specs.Whole.{whole_kind}
use Rattle.costs.specs.declared.pair.Pair.{Pair}
use Rattle.costs.specs.declared.whole.Whole.{Whole}
use Rattle.networks.specs.Net.{Net}
use Rattle.networks.specs.declared.refusal.Refusal.{Refusal}
use Rattle.plan.specs.declared.calls.Answer.{Answer}
use Rattle.plan.specs.declared.calls.Answer.TheVariants.{Refused}
use Rattle.plan.specs.declared.calls.Call.{Call}
use Rattle.plan.specs.declared.calls.Call.TheVariants as call
use Rattle.plan.specs.Histories.{Kept}
use Rattle.plan.specs.declared.planner.Plan.{Plan}
use Rattle.plan.specs.Plans.{Runs, plan_state}
use Rattle.plan.specs.Questions as question
use Rattle.plan.specs.State.{State, Event, closed}
use Rattle.jobs.specs.declared.entry.Entry.{Entry}
use Rattle.jobs.specs.declared.entry.Entry.TheVariants as entry
use Rattle.jobs.specs.declared.fault.Fault.{Fault}
use Rattle.jobs.specs.declared.form.Form.TheVariants as form
use Rattle.jobs.specs.Files.{written, Holds, First}
use Rattle.jobs.specs.Lines.{answer_line, total_line, prices_line}
use Rattle.jobs.specs.Listing.{fault_line}
use Rattle.jobs.specs.Sections.{net_of}

-- the kind of a job's costs: redraws, then misfit
abbrev pub fits : Kind (Pair Whole Whole) (ℤ × ℤ)
fits = pair_kind whole_kind whole_kind

-- the call that a record makes of the plan
abbrev pub asked_call : Entry → Option Call
asked_call (entry.Head places ways) = None
asked_call (entry.Way tail head limit redraws misfit) = None
asked_call (entry.Book from to amount) = Some (call.Book from to amount)
asked_call entry.Route = Some call.Route
asked_call (entry.Settle budget) = Some (call.Settle budget)
asked_call entry.Total = None
asked_call entry.Prices = None
asked_call (entry.Group length count) = None
asked_call (entry.Last length count) = None

-- the record asks nothing
abbrev pub Silent : Entry → Type 0
Silent (entry.Head places ways) = Unit {0}
Silent (entry.Way tail head limit redraws misfit) = Unit {0}
Silent (entry.Book from to amount) = ⊥
Silent entry.Route = ⊥
Silent (entry.Settle budget) = ⊥
Silent entry.Total = ⊥
Silent entry.Prices = ⊥
Silent (entry.Group length count) = Unit {0}
Silent (entry.Last length count) = Unit {0}

-- the line of a total, and of the prices that stand in the rows
abbrev pub total_said : ℕ → Result (Pair Whole Whole) Refusal → List ℕ
total_said offset (Ok x) = total_line (x.first.amount ∷ x.second.amount ∷ [])
total_said offset (Err r) = answer_line offset (Refused r)

abbrev pub prices_said : ℕ → Result (Unit {0}) Refusal → List (ℤ × ℤ) → List ℕ
prices_said offset (Ok u) rows = prices_line rows
prices_said offset (Err r) rows = answer_line offset (Refused r)

module _ (net : Net (Pair Whole Whole)) where
  -- a call with a work table of one entry a place, and its answer
  abbrev pub event : Call → Answer → Event
  event c a = record { call = c; work = net.places; answer = a }

  -- a record at an offset is put to a plan in state s after the events h: the line that it gives, and the events and the state after it
  pub data Put : List Event → State → ℕ → Entry → List ℕ → List Event → State → Type 0 where
    called : (h : List Event) (s s' : State) (offset : ℕ) (e : Entry) (c : Call) (a : Answer) → asked_call e ≡ Some c → Kept fits net h s (event c a) s' →
        Put h s offset e (answer_line offset a) (event c a ∷ h) s'
    totalled : (h : List Event) (s : State) (offset : ℕ) (r : Result (Pair Whole Whole) Refusal) → question.Totals fits net s r →
        Put h s offset entry.Total (total_said offset r) h s
    priced : (h : List Event) (s : State) (offset : ℕ) (r : Result (Unit {0}) Refusal) (table rows : List (ℤ × ℤ)) → length table ≡ net.places → length rows ≡ net.places →
        question.Prices fits net s table r rows → Put h s offset entry.Prices (prices_said offset r rows) h s
    silent : (h : List Event) (s : State) (offset : ℕ) (e : Entry) → Silent e → Put h s offset e [] h s

  -- so is it to a plan that some run led to
  abbrev pub Puts : {N : Type 0} → Plan N → ℕ → Entry → List ℕ → Plan N → Type 0
  Puts p offset e line p' = (h : List Event) → Runs fits net h p → (h' : List Event) × Put h (plan_state p) offset e line h' (plan_state p') × Runs fits net h' p'

  -- the opening and then these records, put to a new plan one after the other, give the text, and these events and this state
  pub data Said : List Entry → List ℕ → List Event → State → Type 0 where
    opened : (a : Answer) (s : State) → Kept fits net [] closed (event call.Open a) s → Said [] (answer_line 0 a) (event call.Open a ∷ []) s
    then : (es : List Entry) (e : Entry) (text line : List ℕ) (h h' : List Event) (s s' : State) → Said es text h s → Put h s (length (written es)) e line h' s' →
        Said (es ++ e ∷ []) (text ++ line) h' s'

-- the text has the lines of the file's calls
abbrev pub Ran : List ℕ → List ℕ → Type 0
Ran bytes text = (es : List Entry) × (h : List Event) × (s : State) × Holds form.Job bytes es × Said (net_of es) es text h s

-- what the job program says of a file: its first fault, or the lines of its calls
abbrev pub JobSays : List ℕ → List ℕ → Type 0
JobSays bytes text = ((e : Fault) × First form.Job bytes e × (text ≡ fault_line e)) ⊎ Ran bytes text
