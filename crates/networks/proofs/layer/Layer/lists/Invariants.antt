use Rattle.std.proofs.Common.{◌≡◌, false, take}
use Rattle.networks.specs.Changes.{has}
use Rattle.networks.proofs.layer.Layer.lists.Given as goal

abbrev pub invariant-loop-i : goal.invariant-loop-i
invariant-loop-i g l = has (take l.i l.numbers) l.k ≡ false
