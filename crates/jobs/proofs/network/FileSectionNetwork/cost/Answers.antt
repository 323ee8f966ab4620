-- A way's cost is that which its record says.
use Rattle.std.proofs.Common.{Some, sym, ap, ◌∙◌, w32, w64, SFits, arith, rules}
use Rattle.std.proofs.lemmas.Int.{to_z-of_z}
use Rattle.costs.specs.Whole.{whole_kind}
use Rattle.networks.specs.Net.{cost_of}
use Rattle.jobs.proofs.Sectioned.{way_said, way_asked, no_way_asked}
use Rattle.jobs.proofs.network.FileSectionNetwork.cost.Goals as goal

pub returns-then-k-self : goal.returns-then-k-self
returns-then-k-self c = sym (ap cost_of (no_way_asked c.args.self.now.bytes.now c.args.self.now.ways c.args.k c.if-k-self.true))

pub returns : goal.returns
returns c =
    let f : SFits w32 c.in-Way.redraws = search rules in
    let g : SFits w32 c.in-Way.misfit = search rules in
    let p = c.read.ensures ∙ ap whole_kind.reads (to_z-of_z w64 c.from.result (record { sfits = omega arith }) ∙ c.from.ensures ∙ to_z-of_z w32 c.in-Way.redraws f) in
    let q = c.read-2.ensures ∙ ap whole_kind.reads (to_z-of_z w64 c.from-2.result (record { sfits = omega arith }) ∙ c.from-2.ensures ∙ to_z-of_z w32 c.in-Way.misfit g) in
    ap (λ x. Some (record { first = x; second = c.read-2.result })) p ∙ ap (λ y. Some (record { first = whole_kind.reads c.in-Way.redraws; second = y })) q
    ∙ sym (ap cost_of (way_asked c.args.self.now.bytes.now c.args.self.now.ways c.args.k c.if-k-self.false
    ∙ ap (λ w. Some w) (way_said c.args.self.now.bytes.now c.args.k c.way_entry.result _ _ _ _ _ c.way_entry.ensures c.in-Way.is)))
