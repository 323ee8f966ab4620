-- The mark of a listed way is 1, and that of another 0.
use mir.Val.{bool_byte}
use Rattle.std.proofs.Common.{◌≡◌, Bool, true, false, cond, ℤ, pos, ap, ◌∙◌, w64, SFits, rules}
use Rattle.std.proofs.lemmas.Int.{to_z-of_z}
use Rattle.costs.specs.Whole.{whole_kind}
use Rattle.networks.proofs.change.RedrawingChange.cost.Goals as goal

as_number : (listed : Bool) (z : ℤ) → z ≡ pos (bool_byte listed) → z ≡ pos (cond listed 1 0)
as_number true z e = e
as_number false z e = e

pub returns : goal.returns
returns g c =
    let f : SFits w64 c.from.result = search rules in
    ap (λ x. record { first = x; second = c.args.cost })
    (c.read.ensures ∙ ap whole_kind.reads (as_number c.args.listed _ (to_z-of_z w64 c.from.result f ∙ c.from.ensures)))
