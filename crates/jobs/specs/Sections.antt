-- The network of a job file: the places of its head, and its ways with costs in pairs of redraws and misfit.
use Rattle.std.specs.Prelude.{◌≡◌, ℕ, ◌+◌, ◌*◌, List, [], ◌∷◌, map, take, drop, ℤ}
use Rattle.std.specs.List.{range_with_len}
use Rattle.costs.specs.Whole.{whole_kind}
use Rattle.costs.specs.declared.pair.Pair.{Pair}
use Rattle.costs.specs.declared.whole.Whole.{Whole}
use Rattle.networks.specs.Net.{Net, Way}
use Rattle.jobs.specs.declared.entry.Entry.{Entry}
use Rattle.jobs.specs.declared.entry.Entry.TheVariants as entry
use Rattle.jobs.specs.declared.file_section.FileSection.{FileSection}
use Rattle.jobs.specs.declared.form.Form.TheVariants as form
use Rattle.jobs.specs.Entries.{two_at, four_at, signed_at}
use Rattle.jobs.specs.Files.{Holds, Good}

-- a cost of redraws and misfit
abbrev pub cost_of : ℤ → ℤ → Pair Whole Whole
cost_of redraws misfit = record { first = whole_kind.reads redraws; second = whole_kind.reads misfit }

-- the ways among records, in order
abbrev pub ways_of : List Entry → List (Way (Pair Whole Whole))
ways_of [] = []
ways_of (entry.Head places ways ∷ es) = ways_of es
ways_of (entry.Way tail head limit redraws misfit ∷ es) = record { tail = tail; head = head; limit = limit; cost = cost_of redraws misfit } ∷ ways_of es
ways_of (entry.Book from to amount ∷ es) = ways_of es
ways_of (entry.Route ∷ es) = ways_of es
ways_of (entry.Settle budget ∷ es) = ways_of es
ways_of (entry.Total ∷ es) = ways_of es
ways_of (entry.Prices ∷ es) = ways_of es
ways_of (entry.Group length count ∷ es) = ways_of es
ways_of (entry.Last length count ∷ es) = ways_of es

-- the places that the first record tells
abbrev pub places_of : List Entry → ℕ
places_of [] = 0
places_of (entry.Head places ways ∷ es) = places
places_of (entry.Way tail head limit redraws misfit ∷ es) = 0
places_of (entry.Book from to amount ∷ es) = 0
places_of (entry.Route ∷ es) = 0
places_of (entry.Settle budget ∷ es) = 0
places_of (entry.Total ∷ es) = 0
places_of (entry.Prices ∷ es) = 0
places_of (entry.Group length count ∷ es) = 0
places_of (entry.Last length count ∷ es) = 0

-- the network that the records of a job tell
abbrev pub net_of : List Entry → Net (Pair Whole Whole)
net_of es = record { places = places_of es; ways = ways_of es }

-- way k where it stands in the file: each record of a way has 17 bytes, and the head has 5
abbrev pub way_at : List ℕ → ℕ → Way (Pair Whole Whole)
way_at bytes k =
    let body = take 16 (drop (17 * k + 6) bytes) in
    record { tail = two_at body 0; head = two_at body 2; limit = four_at body 4; cost = cost_of (signed_at body 8) (signed_at body 12) }

-- what a file section means
abbrev pub section_net : FileSection → Net (Pair Whole Whole)
section_net s = record { places = s.places; ways = map (way_at s.bytes.now) (range_with_len 0 s.ways) }

-- the section over these bytes means what the records of the file tell, and nothing if the reader refuses the file
pub record SectionOf (bytes : List ℕ) (s : FileSection) : Type 0 where
  pub same : s.bytes.now ≡ bytes
  pub told : (es : List Entry) → Holds form.Job bytes es → section_net s ≡ net_of es
  pub nothing : (Good form.Job bytes → ⊥) → section_net s ≡ record { places = 0; ways = [] }
