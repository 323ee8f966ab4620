-- Way k is told by k div and mod the number of lasts, and past these by k less all of them.
use Rattle.networks.proofs.Gridded.{row_within, column_within, at_fitting, at_collecting, past_ways}
use Rattle.networks.proofs.grid.part.Goals as goal

pub returns-then-k-cells : goal.returns-then-k-cells
returns-then-k-cells c =
    let k = c.if-k-cells.true in
    (row_within c.args.k _ _ k, column_within c.args.k _ _ k, at_fitting c.args.groups.now c.args.lasts.now c.args.k k)

pub returns-then-j-lasts : goal.returns-then-j-lasts
returns-then-j-lasts c =
    (c.if-j-lasts.true, at_collecting c.args.groups.now c.args.lasts.now c.args.k c.if-k-cells.false c.if-j-lasts.true)

pub returns-else-j-lasts : goal.returns-else-j-lasts
returns-else-j-lasts c = past_ways c.args.groups.now c.args.lasts.now c.args.k c.if-k-cells.false c.if-j-lasts.false
