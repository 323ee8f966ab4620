-- A section has as many ways as its head tells.
use Rattle.std.proofs.Common.{sym}
use Rattle.std.proofs.lemmas.List.FromFn.{length-map-range_with_len}
use Rattle.jobs.specs.Sections.{way_at}
use Rattle.jobs.proofs.network.FileSectionNetwork.ways.Goals as goal

pub returns : goal.returns
returns c = sym (length-map-range_with_len (way_at c.args.self.now.bytes.now) 0 c.args.self.now.ways)
