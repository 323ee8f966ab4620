-- The ways so far have their lines in the text.
use Rattle.std.proofs.Common.{◌≡◌, ◌++◌, length, take, string_bytes}
use Rattle.jobs.specs.Sections.{section_net}
use Rattle.jobs.specs.NetText.{net_header, way_lines}
use Rattle.jobs.proofs.net_listing.list_network.Given as goal

abbrev pub invariant-loop-way : goal.invariant-loop-way
invariant-loop-way l =
    string_bytes l.text ≡ net_header (section_net l.net).places (length (section_net l.net).ways) ++ way_lines 0 (take l.way (section_net l.net).ways)
