-- The five numbers of a way stand one after the other.
use Rattle.std.proofs.Common.{append_assoc, w32, SFits, rules}
use Rattle.std.proofs.lemmas.Int.{to_z-of_z}
use Rattle.jobs.proofs.entry.Entry.add_body.Goals as goal

pub returns-in-Way : goal.returns-in-Way
returns-in-Way c =
    let f : SFits w32 c.in-Way.redraws = search rules in
    let g : SFits w32 c.in-Way.misfit = search rules in
    let r = simp (to_z-of_z w32 c.in-Way.redraws f) at c.add_signed.ensures.items in
    let m = simp (to_z-of_z w32 c.in-Way.misfit g) at c.add_signed-in-Way.ensures.items in
    simp (m, r, c.add_four.ensures.items, c.add_two-in-Way-2.ensures.items, c.add_two-in-Way.ensures.items, c.in-Way.is, append_assoc)
