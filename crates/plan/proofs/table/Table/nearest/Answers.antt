-- A search from the source, and the pick of what it found.
use Rattle.std.proofs.Common.{◌<◌, length, IfSome, sym, ap, ◌∙◌, subst}
use Rattle.std.proofs.lemmas.List.{take_at}
use Rattle.plan.specs.Entries.{tables}
use Rattle.plan.specs.Tables.{state_of}
use Rattle.plan.proofs.Nearing.{within_by, nearest_lent}
use Rattle.plan.proofs.table.Table.nearest.Goals as goal

pub returns-clause-place : goal.returns-clause-place
returns-clause-place g c =
    subst (λ m. IfSome c.cheapest.result (λ v. v < m)) (c.as_slice-2.ensures.len ∙ c.requires.ready.made.rests)
    (within_by g.N.Cost.Cost.kind _ _ _ c.cheapest.result c.cheapest.ensures)

pub returns-clause-nearest : goal.returns-clause-nearest
returns-clause-nearest g c =
    let table = c.args.self.now in
    let notes = take_at c.search.new.notes _ table.notes.len (c.search.auto.notes ∙ c.as_mut_slice.ensures.len) in
    nearest_lent g.N.Cost.Cost.kind (g.N.Network.means c.args.net.now) (state_of table) c.args.from c.requires.place _
    _ _ (tables c.search.new.rows c.search.new.notes) c.as_slice.ensures.value c.as_slice-2.ensures.value
    (ap length (sym c.as_slice-2.ensures.value) ∙ c.as_slice-2.ensures.len ∙ c.requires.ready.made.rests)
    (ap (tables c.search.new.rows) (sym notes)) c.cheapest.result c.search.result c.search.ensures.found _ c.as_slice-3.ensures.value c.cheapest.ensures
