-- The difference of two lengths is read as that cost.
use Rattle.std.proofs.Common.{pos, ap, ◌∙◌, w64, SFits, rules}
use Rattle.std.proofs.lemmas.Int.{to_z-of_z}
use Rattle.costs.specs.Whole.{whole_kind}
use Rattle.networks.proofs.grid.apart.Goals as goal

pub returns : goal.returns
returns c =
    let f : SFits w64 c.from.result = search rules in
    c.read.ensures ∙ ap whole_kind.reads (to_z-of_z w64 c.from.result f ∙ c.from.ensures ∙ ap pos c.abs_diff.ensures)
