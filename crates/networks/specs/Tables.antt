-- What a table of ways means: its records in order.
use Rattle.std.specs.Prelude.{ℕ, List, map}
use Rattle.networks.specs.Net.{Net, Way}
use Rattle.networks.specs.declared.way_record.WayRecord.{WayRecord}

-- an entry's cost is the cost that its row reads as
abbrev pub record_way : {C R : Type 0} → (R → C) → WayRecord R → Way C
record_way reads r = record { tail = r.tail; head = r.head; limit = r.limit; cost = reads r.cost }

abbrev pub table_net : {C R : Type 0} → (R → C) → ℕ → List (WayRecord R) → Net C
table_net reads n rs = record { places = n; ways = map (record_way reads) rs }
