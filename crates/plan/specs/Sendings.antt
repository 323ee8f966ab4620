-- What is sent from one place to another, and how the tables end.
use Rattle.std.specs.Prelude.{◌≡◌, ℕ, ◌≤◌, List, ℤ, pos, ◌-ℤ◌, neg_ℤ, ◌≤ℤ◌, ◌<ℤ◌, vec_items, vec_len, slice_index_or}
use Rattle.costs.specs.Kind.{Kind}
use Rattle.networks.specs.Net.{Net}
use Rattle.plan.specs.declared.table.Table.{Table}
use Rattle.plan.specs.Entries.{tables}
use Rattle.plan.specs.Rules.{Source, Target, Sends, move}
use Rattle.plan.specs.Standing.{Standing}
use Rattle.plan.specs.State.{State}
use Rattle.plan.specs.Tables.{state_of}
use Rattle.plan.specs.Trails.{Ended}

-- x is the smaller of what one place has and what another wants
pub record Smaller (have want : ℤ) (x : ℕ) : Type 0 where
  pub some : 1 ≤ x
  pub had : pos x ≤ℤ have
  pub wanted : pos x ≤ℤ (pos 0 -ℤ want)
  pub most : (y : ℕ) → pos y ≤ℤ have → pos y ≤ℤ (pos 0 -ℤ want) → y ≤ x

-- x is the smaller of what u has and what v wants, if these are the rests of an open plan
abbrev pub Asked : List ℤ → ℕ → ℕ → ℕ → Type 0
Asked rests u v x = pos 0 <ℤ slice_index_or rests u (pos 0) → slice_index_or rests u (pos 0) ≤ℤ pos 1000000000 → slice_index_or rests v (pos 0) <ℤ pos 0 → Smaller (slice_index_or rests u (pos 0)) (slice_index_or rests v (pos 0)) x

-- x more at v and x less at u, if these are the rests of an open plan
abbrev pub Moved : List ℤ → ℕ → ℕ → ℕ → List ℤ → Type 0
Moved rests v u x rests' = slice_index_or rests v (pos 0) ≤ℤ pos 1000000000 → neg_ℤ (pos 1000000000) ≤ℤ slice_index_or rests u (pos 0) → rests' ≡ move rests v u x

-- the tables are as long as they were
pub record AsLong (t t' : Table) : Type 0 where
  pub loads : vec_len t'.loads ≡ vec_len t.loads
  pub rests : vec_len t'.rests ≡ vec_len t.rests

-- after any search from the source u that noted a way to the target v: x is sent from u to v as the rules say
abbrev pub Dispatched : {C R : Type 0} → Kind C R → Net C → Table → ℕ → ℕ → ℕ → State → Type 0
Dispatched {C} {R} K net t u v x s' =
    (rows : List R) (y : K.group.Carrier) → Standing K net (state_of t) → Source K net (state_of t) u → Target K net (state_of t) u v y →
    Ended K net (vec_items t.loads) u v (tables rows (vec_items t.notes)) y → Sends K net (state_of t) u v x s'
