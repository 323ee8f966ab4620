-- A search from everywhere.
use Rattle.std.proofs.Common.{vec_items}
use Rattle.plan.specs.Entries.{tables}
use Rattle.plan.proofs.Quoted.{quoted_by}
use Rattle.plan.proofs.table.Table.price_all.Goals as goal

pub returns-clause-priced : goal.returns-clause-priced
returns-clause-priced g c =
    quoted_by g.N.Cost.Cost.kind (g.N.Network.means c.args.net.now) (vec_items c.args.self.now.loads) (tables c.search.new.rows c.search.new.notes)
    _ c.args.rows.now c.as_slice.ensures.value c.requires.fair c.search.result c.search.ensures.found c.search.ensures.past
