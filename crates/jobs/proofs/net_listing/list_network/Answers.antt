-- Each way that was asked for is one line more.
use Rattle.std.proofs.Common.{length, ◌∙◌, refl}
use Rattle.jobs.specs.Sections.{section_net}
use Rattle.jobs.specs.NetText.{net_header}
use Rattle.jobs.proofs.Netted.{one_way_more}
use Rattle.jobs.proofs.net_listing.list_network.Goals as goal

pub loop-way-preserved : goal.loop-way-preserved
loop-way-preserved c =
    c.in_ok-write.ensures.bytes
    ∙ one_way_more (section_net c.args.net.now).ways c.loop-way.way c.in-Some.ends c.in-Some-cost.cost
    (net_header (section_net c.args.net.now).places (length (section_net c.args.net.now).ways)) _ _
    c.in-Some.ensures c.in-Some-cost.ensures c.loop-way.invariant refl
