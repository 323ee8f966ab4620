-- The list of refusals, each with its number, and the way that four of them are about.
use Rattle.std.specs.Prelude.{ℕ, List, ◌++◌, Some, None, Option, codes, decimal}
use Rattle.networks.specs.declared.refusal.Refusal.{Refusal}
use Rattle.networks.specs.declared.refusal.Refusal.TheVariants.{BadPlaces, ManyWays, NoEnd, SameEnds, LargeLimit, HeavyCost, LosingRing, NoPlace, SamePlace, BadAmount, BadBudget, ShortTable, NoWay, CutShort, UnknownKind, OutOfPlace, LongFile, NotOpen, AlreadyOpen, RestBound, FullList}

abbrev pub number_of : Refusal → ℕ
-- the places are 0 or above 1,024
number_of BadPlaces = 1
-- the ways are above 3,000
number_of ManyWays = 2
-- an end of way k is no place
number_of (NoEnd k) = 3
-- way k has equal ends
number_of (SameEnds k) = 4
-- the limit of way k is above 1,000,000
number_of (LargeLimit k) = 5
-- the cost of way k weighs above 1,000,000
number_of (HeavyCost k) = 6
-- some ring costs less than zero
number_of LosingRing = 7
-- no such place
number_of NoPlace = 8
-- both places are the same
number_of SamePlace = 9
-- the amount is 0 or above 1,000,000
number_of BadAmount = 10
-- the budget is 0 or above 1,000,000
number_of BadBudget = 11
-- a table is too short for the places, or for what is to be written
number_of ShortTable = 12
-- no such way
number_of NoWay = 13
-- the file ends inside a record, or before the head and all its ways
number_of CutShort = 14
-- the kind of a record is unknown
number_of UnknownKind = 15
-- a record is out of place
number_of OutOfPlace = 16
-- the file has more than 60,000 bytes
number_of LongFile = 17
-- the plan is not open
number_of NotOpen = 30
-- the plan is open already
number_of AlreadyOpen = 31
-- a rest would leave -10^9 to 10^9
number_of RestBound = 32
-- a layer's list is full and lacks the number
number_of FullList = 33

-- a refusal in words
abbrev pub refusal_words : Refusal → List ℕ
refusal_words r = codes "refused " ++ decimal (number_of r)

abbrev pub way_of : Refusal → Option ℕ
way_of BadPlaces = None
way_of ManyWays = None
way_of (NoEnd k) = Some k
way_of (SameEnds k) = Some k
way_of (LargeLimit k) = Some k
way_of (HeavyCost k) = Some k
way_of LosingRing = None
way_of NoPlace = None
way_of SamePlace = None
way_of BadAmount = None
way_of BadBudget = None
way_of ShortTable = None
way_of NoWay = None
way_of CutShort = None
way_of UnknownKind = None
way_of OutOfPlace = None
way_of LongFile = None
way_of NotOpen = None
way_of AlreadyOpen = None
way_of RestBound = None
way_of FullList = None
