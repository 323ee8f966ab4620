-- A scan tries the steps of one way after another.
use Rattle.std.proofs.Common.{◌+◌, ◌*◌, length, ◌∙◌, arith}
use Rattle.plan.specs.Entries.{tables}
use Rattle.plan.proofs.Deciding.{passed}
use Rattle.plan.proofs.Sweeping.{swept_none, swept_within}
use Rattle.plan.proofs.Trying.{sweep_more, sweep_all}
use Rattle.plan.proofs.loaded.Loaded.scan.Goals as goal

pub loop-k-init : goal.loop-k-init
loop-k-init g c = swept_none g.N.Cost.Cost.kind 0 (tables c.args.rows.now c.args.notes.now) (λ s u v x y d e. absurd (omega (arith, d.0)))

pub relax_along-changed-requires : goal.relax_along-changed-requires
relax_along-changed-requires g c =
    let few = (passed g.N.Cost.Cost.kind (g.N.Network.means c.args.self.now.net.now) c.args.self.now.fair).ways in
    record {
      level = record { rows = c.loop-k.auto.rows ∙ c.requires.level.rows; notes = c.loop-k.auto.notes ∙ c.requires.level.notes };
      room = λ v w e. omega (arith, c.loop-k.invariant.weight 3500000000000000000 c.requires.room v w e, c.loop-k-test.true, c.ways-k-end.ensures, few);
    }

pub relax_along-changed-requires-in-loop-k : goal.relax_along-changed-requires-in-loop-k
relax_along-changed-requires-in-loop-k g c =
    let few = (passed g.N.Cost.Cost.kind (g.N.Network.means c.args.self.now.net.now) c.args.self.now.fair).ways in
    let ahead = c.relax_along-changed in
    record {
      level = record { rows = ahead.auto.rows ∙ c.loop-k.auto.rows ∙ c.requires.level.rows; notes = ahead.auto.notes ∙ c.loop-k.auto.notes ∙ c.requires.level.notes };
      room = λ v w e. omega (
        arith,
        ahead.ensures.weight (3500000000000000000 + 2000000 * c.loop-k.k) (c.loop-k.invariant.weight 3500000000000000000 c.requires.room) v w e,
        c.loop-k-test.true,
        c.ways-k-end.ensures,
        few,
      );
    }

pub loop-k-preserved : goal.loop-k-preserved
loop-k-preserved g c =
    let K = g.N.Cost.Cost.kind in
    let ahead = c.relax_along-changed in
    let back = c.relax_along-changed-in-loop-k in
    swept_within K (2000000 * c.loop-k.k + 1000000 + 1000000) (2000000 * (c.loop-k.k + 1)) (omega arith)
    (sweep_more K (g.N.Network.means c.args.self.now.net.now) c.args.self.now.loads.now c.loop-k.k (2000000 * c.loop-k.k)
    (tables c.args.rows.now c.args.notes.now) (tables c.loop-k.rows c.loop-k.notes) (tables ahead.new.rows ahead.new.notes) (tables back.new.rows back.new.notes)
    c.loop-k.changed ahead.result back.result c.loop-k.invariant ahead.ensures back.ensures)

pub returns : goal.returns
returns g c =
    let K = g.N.Cost.Cost.kind in
    let net = g.N.Network.means c.args.self.now.net.now in
    let n = 2000000 * length net.ways in
    sweep_all K net c.args.self.now.loads.now c.loop-k.k (omega (arith, c.loop-k-test.false, c.ways-k-end.ensures)) n
    (swept_within K (2000000 * c.loop-k.k) n (omega (arith, c.loop-k.auto.k-end, c.ways-k-end.ensures)) c.loop-k.invariant)
