-- A step was relaxed, or there is none.
use Rattle.std.proofs.Common.{sym, ◌∙◌, arith}
use Rattle.plan.specs.Entries.{tables}
use Rattle.plan.proofs.Deciding.{passed}
use Rattle.plan.proofs.Legs.{fair_leg}
use Rattle.plan.proofs.Sweeping.{swept_within}
use Rattle.plan.proofs.Trying.{tried_none, tried_one}
use Rattle.plan.proofs.loaded.Loaded.relax_along.Goals as goal

pub returns-in_default : goal.returns-in_default
returns-in_default g c =
    tried_none g.N.Cost.Cost.kind (g.N.Network.means c.args.self.now.net.now) c.args.self.now.loads.now c.args.step (tables c.args.rows.now c.args.notes.now) c.in_default.ensures

pub relax-requires : goal.relax-requires
relax-requires g c =
    let K = g.N.Cost.Cost.kind in
    let net = g.N.Network.means c.args.self.now.net.now in
    let fair = fair_leg K net c.args.self.now.loads.now (passed K net c.args.self.now.fair) c.in-Some.ensures in
    let rows = c.requires.level.rows in
    record {
      within = (omega (arith, rows, fair.0), omega (arith, rows, fair.1));
      level = c.requires.level.notes ∙ sym rows;
      room = λ w e. omega (arith, fair.2, c.requires.room c.in-Some.leg.from w e);
    }

pub returns : goal.returns
returns g c =
    let K = g.N.Cost.Cost.kind in
    let net = g.N.Network.means c.args.self.now.net.now in
    let loads = c.args.self.now.loads.now in
    let fair = fair_leg K net loads (passed K net c.args.self.now.fair) c.in-Some.ensures in
    swept_within K (K.weighs c.in-Some.leg.cost) 1000000 fair.2 (tried_one K net loads c.in-Some.ensures _ c.relax.ensures)
