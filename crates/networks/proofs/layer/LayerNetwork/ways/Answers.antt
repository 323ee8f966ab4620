-- A layer has as many ways as the network below.
use Rattle.std.proofs.Common.{sym, ◌∙◌}
use Rattle.networks.proofs.Looked.{length_each}
use Rattle.networks.proofs.layer.LayerNetwork.ways.Goals as goal

pub returns : goal.returns
returns g c = c.ways.ensures ∙ sym (length_each 0 _ (g.N.Network.means c.args.self.now.below).ways)
