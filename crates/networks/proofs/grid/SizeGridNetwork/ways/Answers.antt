-- The ways are counted over the tables as they are cut.
use Rattle.networks.proofs.Gridded.{ways_count}
use Rattle.networks.proofs.grid.SizeGridNetwork.ways.Goals as goal

pub returns : goal.returns
returns c = ways_count _ _ _ _ c.used.ensures.front c.used-lasts.ensures.front
