-- What a plan holds, and what it is asked and answers.
use Rattle.std.specs.Prelude.{ℕ, Bool, false, List, [], ℤ, pos, slice_index_or}
use Rattle.plan.specs.declared.calls.Answer.{Answer}
use Rattle.plan.specs.declared.calls.Call.{Call}

-- one load for each way, one rest (imbalance still to be sent) for each place, and the routes sent since opening
pub record State : Type 0 where
  pub open? : Bool
  pub loads : List ℕ
  pub rests : List ℤ
  pub count : ℕ

-- a new plan
abbrev pub closed : State
closed = record { open? = false; loads = []; rests = []; count = 0 }

-- the rest of v: positive if so much has still to leave, negative if so much has still to arrive
abbrev pub rest : State → ℕ → ℤ
rest s v = slice_index_or s.rests v (pos 0)

-- a call, the length of the work table that was lent to it, and its answer
pub record Event : Type 0 where
  pub call : Call
  pub work : ℕ
  pub answer : Answer
