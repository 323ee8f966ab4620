-- The rows so far are zero.
use Rattle.std.proofs.Common.{◌≡◌, ℕ, ◌<◌, Some}
use Rattle.std.specs.List.{slice_get}
use Rattle.plan.proofs.start.start.Given as goal

abbrev pub invariant-loop-row : goal.invariant-loop-row
invariant-loop-row g l = (v : ℕ) → v < l.row-index → slice_get l.rows v ≡ Some l.zero
