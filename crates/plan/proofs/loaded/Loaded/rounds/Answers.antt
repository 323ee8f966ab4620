-- Rounds are scans in a row, and end where one changes nothing.
use Rattle.std.proofs.Common.{◌≡◌, ◌*◌, ◌≤◌, length, ◌∙◌, subst, mul-le-mul_right, arith}
use Rattle.plan.specs.Entries.{tables}
use Rattle.plan.proofs.Deciding.{passed}
use Rattle.plan.proofs.Running.{Ran, ran_none, ran_more, rounds_end, rounds_early}
use Rattle.plan.proofs.loaded.Loaded.rounds.Goals as goal

pub loop-init : goal.loop-init
loop-init g c = ran_none g.N.Cost.Cost.kind (g.N.Network.means c.args.self.now.net.now) c.args.self.now.loads.now (tables c.args.rows.now c.args.notes.now)

pub scan-requires : goal.scan-requires
scan-requires g c =
    let net = g.N.Network.means c.args.self.now.net.now in
    let p = passed g.N.Cost.Cost.kind net c.args.self.now.fair in
    record {
      level = record { rows = c.loop.auto.rows ∙ c.requires.level.rows; notes = c.loop.auto.notes ∙ c.requires.level.notes };
      room = λ v w e.
          let few : c.loop.counter * (2000000 * length net.ways) ≤ 1024 * (2000000 * length net.ways) =
          mul-le-mul_right {m = c.loop.counter} {n = 1024} (2000000 * length net.ways) (omega (arith, c.loop-test.true, c.places-end.ensures, p.places)) in
          omega (arith, few, p.ways, c.loop.invariant.weight 3000000000000000000 c.requires.room v w e);
    }

pub returns-then-not-scan : goal.returns-then-not-scan
returns-then-not-scan g c =
    rounds_early g.N.Cost.Cost.kind (g.N.Network.means c.args.self.now.net.now) c.args.self.now.loads.now c.loop.counter
    (tables c.args.rows.now c.args.notes.now) (tables c.loop.rows c.loop.notes) (tables c.scan.new.rows c.scan.new.notes)
    (omega (arith, c.loop-test.true, c.places-end.ensures)) c.loop.invariant c.if-not-scan.ensures

pub loop-preserved : goal.loop-preserved
loop-preserved g c =
    ran_more g.N.Cost.Cost.kind (g.N.Network.means c.args.self.now.net.now) c.args.self.now.loads.now c.loop.counter
    (tables c.args.rows.now c.args.notes.now) (tables c.loop.rows c.loop.notes) (tables c.scan.new.rows c.scan.new.notes)
    c.loop.invariant c.if-not-scan.ensures

pub returns : goal.returns
returns g c =
    let K = g.N.Cost.Cost.kind in
    let net = g.N.Network.means c.args.self.now.net.now in
    let loads = c.args.self.now.loads.now in
    let all : c.loop.counter ≡ net.places = omega (arith, c.loop-test.false, c.loop.auto.counter-end, c.places-end.ensures) in
    rounds_end K net loads (tables c.args.rows.now c.args.notes.now) (tables c.loop.rows c.loop.notes)
    (subst (λ n. Ran K net loads n (tables c.args.rows.now c.args.notes.now) (tables c.loop.rows c.loop.notes)) all c.loop.invariant)
