-- A way's ends are those that its record says.
use Rattle.std.proofs.Common.{Some, sym, ap, ◌∙◌}
use Rattle.networks.specs.Net.{ends_of}
use Rattle.jobs.proofs.Sectioned.{way_said, way_asked, no_way_asked}
use Rattle.jobs.proofs.network.FileSectionNetwork.way.Goals as goal

pub returns-then-k-self : goal.returns-then-k-self
returns-then-k-self c = sym (ap ends_of (no_way_asked c.args.self.now.bytes.now c.args.self.now.ways c.args.k c.if-k-self.true))

pub returns : goal.returns
returns c =
    simp (c.from.ensures, c.from-2.ensures) (sym (ap ends_of (way_asked c.args.self.now.bytes.now c.args.self.now.ways c.args.k c.if-k-self.false
    ∙ ap (λ w. Some w) (way_said c.args.self.now.bytes.now c.args.k c.way_entry.result _ _ _ _ _ c.way_entry.ensures c.in-Way.is))))
