-- What a size grid means: its places are the groups, the lasts and one collector, in this order.
use Rattle.std.specs.Prelude.{◌≡◌, ℕ, ◌<◌, Some, None, Option, ◌+◌, ◌-◌, ◌*◌, ◌/◌, ◌%◌, cond, List, map, length, pos, nat_lt, slice_index_or}
use Rattle.std.specs.List.{range_with_len, slice_get}
use Rattle.costs.specs.Whole.{whole_kind}
use Rattle.costs.specs.declared.whole.Whole.{Whole}
use Rattle.networks.specs.Net.{Net, Way}
use Rattle.networks.specs.declared.sizes.Group.{Group}
use Rattle.networks.specs.declared.sizes.Last.{Last}
use Rattle.networks.specs.declared.part.Part.{Part}
use Rattle.networks.specs.declared.part.Part.TheVariants.{Fitting, Collecting}

-- at most so many records of each table count
abbrev pub most_sizes : ℕ
most_sizes = 1024

-- group i and last j; any default does, since i and j are within the tables
abbrev pub group_at : List Group → ℕ → Group
group_at gs i = slice_index_or gs i (record { length = 0; count = 0 })

abbrev pub last_at : List Last → ℕ → Last
last_at ls j = slice_index_or ls j (record { length = 0; stock = 0 })

abbrev pub difference : ℕ → ℕ → ℕ
difference a b = (a - b) + (b - a)

-- a whole number as a cost
abbrev pub amount : ℕ → Whole
amount n = whole_kind.reads (pos n)

module _ (gs : List Group) (ls : List Last) where
  -- from group i to last j: the head count is the limit, and the difference of lengths the cost
  abbrev pub fitting : ℕ → ℕ → Way Whole
  fitting i j = record {
    tail = i;
    head = length gs + j;
    limit = (group_at gs i).count;
    cost = amount (difference (group_at gs i).length (last_at ls j).length);
  }

  -- from last j to the collector: the stock is the limit, and it costs nothing
  abbrev pub collecting : ℕ → Way Whole
  collecting j = record { tail = length gs + j; head = length gs + length ls; limit = (last_at ls j).stock; cost = amount 0 }

  -- way k
  abbrev pub grid_way : ℕ → Way Whole
  grid_way k = cond (nat_lt k (length gs * length ls)) (fitting (k / length ls) (k % length ls)) (collecting (k - length gs * length ls))

  abbrev pub grid_net : Net Whole
  grid_net = record { places = length gs + length ls + 1; ways = map grid_way (range_with_len 0 (length gs * length ls + length ls)) }

  -- so is way k, if there is one
  abbrev pub IsPart : ℕ → Option Part → Type 0
  IsPart k None = slice_get grid_net.ways k ≡ None
  IsPart k (Some (Fitting i j)) = (i < length gs) × (j < length ls) × (slice_get grid_net.ways k ≡ Some (fitting i j))
  IsPart k (Some (Collecting j)) = (j < length ls) × (slice_get grid_net.ways k ≡ Some (collecting j))
