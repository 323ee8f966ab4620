-- Which cases of an input come.
use Rattle.std.specs.Prelude.{◌≡◌, ◌<◌, [], length, Some, None, Ok, Err, Option, Result}
use Rattle.anyhow.specs.declared.Error.{Error}
use Rattle.cases.specs.declared.case.Case.{Case}
use Rattle.cases.specs.declared.cases.Cases.{Cases}

-- none where nothing is left; else the first case, with what stands behind it left; or an error, with nothing left
abbrev pub GivesFirst : Cases → Option (Result Case Error) → Cases → Type 0
GivesFirst before None then = (before.left.now ≡ []) × (then ≡ before)
GivesFirst before (Some (Ok c)) then = (then.left.now ≡ c.rest.now) × (length then.left.now < length before.left.now)
GivesFirst before (Some (Err e)) then = then.left.now ≡ []
