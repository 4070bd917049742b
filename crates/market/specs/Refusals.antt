-- What a refusal says: the number of its question, its layer and its place.
--
--   answer     number, layer and place, case by case
--   number, layer, place
--              the three parts
--   displayed  what it prints: the three parts in decimal, parted by spaces
use Rattle.std.specs.Prelude.{ℕ, List, ◌++◌, codes, decimal}
use Rattle.market.specs.declared.refusal.Refusal.{Refusal}
use Rattle.market.specs.declared.refusal.Refusal.TheVariants.{Header, Kind, Count, Offset, Demand, Ends, Limits, Origin, Offer, Satisfied, Flow, Activated, Balance, Price, DemandFit, BorderFit, BidFit, Unknown, NothingStands, Room}

-- layer 1 is the bytes, 2 the case, 3 the selection, 4 the prices, 5 the call
abbrev pub answer : Refusal → ℕ × ℕ × ℕ
-- does the buffer hold the whole header? place: its length
answer (Header at) = (1, 1, at)
-- is the kind right?
answer Kind = (2, 1, 0)
-- is each count allowed? place: the header word
answer (Count at) = (3, 1, at)
-- are the offsets right, and then the end? place: the header word, then the number of header words
answer (Offset at) = (4, 1, at)
-- is the area's demand in range?
answer (Demand at) = (5, 2, at)
-- are the border's ends known and different?
answer (Ends at) = (6, 2, at)
-- are the border's limits in range?
answer (Limits at) = (7, 2, at)
-- are the bid's area and direction known?
answer (Origin at) = (8, 2, at)
-- are the bid's volume and price in range?
answer (Offer at) = (9, 2, at)
-- is the area's satisfied amount allowed?
answer (Satisfied at) = (10, 3, at)
-- is the border's flow allowed?
answer (Flow at) = (11, 3, at)
-- is the bid's activated amount allowed?
answer (Activated at) = (12, 3, at)
-- does the area balance?
answer (Balance at) = (13, 3, at)
-- is the area's price in range?
answer (Price at) = (14, 4, at)
-- does the area's demand fit?
answer (DemandFit at) = (15, 4, at)
-- does the border fit?
answer (BorderFit at) = (16, 4, at)
-- does the bid fit?
answer (BidFit at) = (17, 4, at)
-- is the named area, border or bid in the cycle? place: the number given
answer (Unknown at) = (18, 5, at)
-- does a selection stand?
answer NothingStands = (19, 5, 0)
-- is the output buffer long enough? place: the bytes needed
answer (Room at) = (20, 5, at)

abbrev pub number : Refusal → ℕ
number refusal = (answer refusal).0

abbrev pub layer : Refusal → ℕ
layer refusal = (answer refusal).1

abbrev pub place : Refusal → ℕ
place refusal = (answer refusal).2

abbrev pub displayed : Refusal → List ℕ
displayed refusal = decimal (number refusal) ++ (codes " " ++ (decimal (layer refusal) ++ (codes " " ++ decimal (place refusal))))
