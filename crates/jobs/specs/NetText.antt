-- A network in words: its numbers of places and ways, and a line for each way.
use Rattle.std.specs.Prelude.{ℕ, ◌+◌, List, [], ◌∷◌, ◌++◌, length, codes, decimal}
use Rattle.std.specs.Fmt.{signed_decimal}
use Rattle.costs.specs.declared.pair.Pair.{Pair}
use Rattle.costs.specs.declared.whole.Whole.{Whole}
use Rattle.networks.specs.Net.{Net, Way}

abbrev pub ends_words : ℕ → ℕ → ℕ → ℕ → List ℕ
ends_words k tail head limit =
    codes "way " ++ decimal k ++ codes " from " ++ decimal tail ++ codes " to " ++ decimal head ++ codes " limit " ++ decimal limit

abbrev pub cost_words : Pair Whole Whole → List ℕ
cost_words c = codes " cost " ++ signed_decimal c.first.amount ++ codes " " ++ signed_decimal c.second.amount

abbrev pub way_line : ℕ → Way (Pair Whole Whole) → List ℕ
way_line k w =
    ends_words k w.tail w.head w.limit ++ (cost_words w.cost ++ codes "\n")

abbrev pub way_lines : ℕ → List (Way (Pair Whole Whole)) → List ℕ
way_lines k [] = []
way_lines k (w ∷ ws) = way_line k w ++ way_lines (k + 1) ws

abbrev pub net_header : ℕ → ℕ → List ℕ
net_header places ways = codes "places " ++ decimal places ++ codes " ways " ++ decimal ways ++ codes "\n"

abbrev pub net_text : Net (Pair Whole Whole) → List ℕ
net_text net = net_header net.places (length net.ways) ++ way_lines 0 net.ways
