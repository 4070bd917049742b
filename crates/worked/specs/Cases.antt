-- Worked cases: what the rules answer to proposals that can be checked by hand.
--
--   Answer           taken, with the totals of what then stands; or refused, with number, layer and place
--   Row              a scale, a case, a selection with its prices level by level, and the answer that is expected
--   answer_to_bytes  the answer by the rules to the bytes of a case, loaded, and those of a proposal, submitted after it
--   answer_of        that answer for the bytes that write the row's case and its proposal
--   two_areas        rows on demands 80 and -120, limits 50 and 50, 100 up at 3,000 in area 0 and 150 down at 5,000 in area 1
--   one_area         rows on a single area of demand 10, with no border and no bid, and nothing satisfied
--   no_bids          rows on the two areas and their border without the bids, on the netting scale
--   rows             the table
--   WorkedCases      in every row, the answer by the rules is the expected one
use Rattle.std.specs.Prelude.{◌≡◌, ℕ, List, [], ◌∷◌, ℤ, pos, neg_ℤ, Ok, Err, Result}
use Rattle.std.specs.List.{AllByRecursion}
use Rattle.scale.specs.Meaning.{Meaning}
use Rattle.scale.specs.Pair.{activation, netting}
use Rattle.market.specs.declared.trade.Direction.TheVariants.{Up, Down}
use Rattle.market.specs.declared.trade.Border.{Border}
use Rattle.market.specs.declared.trade.Bid.{Bid}
use Rattle.market.specs.declared.refusal.Refusal.{Refusal}
use Rattle.market.specs.Cases.{Case, case_of}
use Rattle.market.specs.Selections.{Selection}
use Rattle.market.specs.Refusals.{number, layer, place}
use Rattle.layout.specs.CaseBytes.{written, case_in}
use Rattle.layout.specs.ProposalBytes.{counts_of, proposal_bytes}
use Rattle.listing.specs.Figures.{satisfied_sum, activated_sum, netted, cost}
use Rattle.cycle.specs.Calls.{load_answer, submit_answer, proposed}

pub data Answer : Type 0 where
  -- satisfied by size, activated, netted, cost
  taken : (satisfied activated : ℕ) → (netted cost : ℤ) → Answer
  refused : (number layer place : ℕ) → Answer

pub data Scale : Type 0 where
  on_activation : Scale
  on_netting : Scale

abbrev pub meaning_of : Scale → Meaning
meaning_of on_activation = activation
meaning_of on_netting = netting

pub record Row : Type 0 where
  pub scale : Scale
  pub case : Case
  pub selection : Selection
  pub prices : List (List ℤ)
  pub expected : Answer

-- the refusal, or else what comes after a yes
abbrev pub unless_refused : Result (Unit {0}) Refusal → Answer → Answer
unless_refused (Ok u) then = then
unless_refused (Err refusal) then = refused (number refusal) (layer refusal) (place refusal)

abbrev pub totals : Case → Selection → Answer
totals c s = taken (satisfied_sum s) (activated_sum s) (netted s) (cost c s)

-- the case is loaded, and the proposal is submitted on what was loaded
abbrev pub answer_to_bytes : (m : Meaning) → (case proposal : List ℕ) → Answer
answer_to_bytes m case proposal =
    unless_refused (load_answer m case)
    (unless_refused (submit_answer m (case_in case) proposal) (totals (case_in case) (proposed (case_in case) proposal)))

abbrev pub answer_on : (m : Meaning) → Case → Selection → (prices : List (List ℤ)) → Answer
answer_on m c s prices = answer_to_bytes m (written c) (proposal_bytes (counts_of c) m.levels s prices)

abbrev pub answer_of : Row → Answer
answer_of r = answer_on (meaning_of r.scale) r.case r.selection r.prices

-- short words for the table
abbrev pub minus : ℕ → ℤ
minus n = neg_ℤ (pos n)

abbrev pub one : {X : Type 0} → X → List X
one x = x ∷ []

abbrev pub two : {X : Type 0} → (x y : X) → List X
two x y = x ∷ (y ∷ [])

abbrev pub three : {X : Type 0} → (x y z : X) → List X
three x y z = x ∷ (y ∷ (z ∷ []))

-- demands 80 and -120, and one border from area 0 to area 1 with limits 50 and 50
abbrev pub demands : List ℤ
demands = two (pos 80) (minus 120)

abbrev pub borders : List Border
borders = one (record { from = 0; to = 1; forward = 50; backward = 50 })

-- 100 up at 3,000 in area 0, and 150 down at 5,000 in area 1
abbrev pub bids : List Bid
bids = two (record { area = 0; direction = Up; volume = 100; price = pos 3000 }) (record { area = 1; direction = Down; volume = 150; price = pos 5000 })

-- area 1 is satisfied in full; the prices are (0, 1, 3000) and (0, -1, money)
abbrev pub two_areas : (satisfied : ℕ) → (flow : ℤ) → (up down : ℕ) → (money : ℕ) → Answer → Row
two_areas satisfied flow up down money expected = record {
  scale = on_activation;
  case = case_of demands borders bids;
  selection = record { satisfied = two (pos satisfied) (minus 120); flows = one flow; activated = two up down };
  prices = two (three (pos 0) (pos 1) (pos 3000)) (three (pos 0) (minus 1) (pos money));
  expected = expected;
}

-- nothing can be satisfied, at a price of three levels
abbrev pub one_area : (satisfaction volume money : ℕ) → Answer → Row
one_area satisfaction volume money expected = record {
  scale = on_activation;
  case = case_of (one (pos 10)) [] [];
  selection = record { satisfied = one (pos 0); flows = []; activated = [] };
  prices = one (three (pos satisfaction) (pos volume) (pos money));
  expected = expected;
}

-- satisfied in area 0 and by size in area 1, the flow, and one level for each price
abbrev pub no_bids : (satisfied_0 satisfied_1 : ℕ) → (flow : ℤ) → (price_0 price_1 : ℤ) → Answer → Row
no_bids satisfied_0 satisfied_1 flow price_0 price_1 expected = record {
  scale = on_netting;
  case = case_of demands borders [];
  selection = record { satisfied = two (pos satisfied_0) (minus satisfied_1); flows = one flow; activated = [] };
  prices = two (one price_0) (one price_1);
  expected = expected;
}

abbrev pub rows : List Row
rows =
    -- columns: satisfied in area 0, flow, up, down, money in the price of area 1, answer
    -- taken: all is satisfied, the border is full, and each bid sets the price of its area
    two_areas 80 (minus 50) 30 70 5000 (taken 200 100 (pos 50) (minus 260000))
    -- a cent less in area 1: more of the down bid would pay
    ∷ (two_areas 80 (minus 50) 30 70 4999 (refused 17 4 1)
    -- nothing flows although the prices differ
    ∷ (two_areas 80 (pos 0) 80 120 5000 (refused 16 4 0)
    -- a kilowatt past the limit of the border
    ∷ (two_areas 80 (minus 51) 30 70 5000 (refused 11 3 0)
    -- a kilowatt too much of the up bid: area 0 does not balance
    ∷ (two_areas 80 (minus 50) 31 70 5000 (refused 13 3 0)
    -- a kilowatt more than area 0 demands
    ∷ (two_areas 81 (minus 50) 30 70 5000 (refused 10 3 0)
    -- columns: the three levels of the price, answer
    -- taken: one more satisfied kilowatt would be worth exactly its price
    ∷ (one_area 1 0 0 (taken 0 0 (pos 0) (pos 0))
    -- no volume and no money makes up for satisfaction
    ∷ (one_area 0 8 79999200 (refused 15 4 0)
    -- a level past its range
    ∷ (one_area 9 0 0 (refused 14 4 0)
    -- columns: satisfied in each area by size, flow, the two prices, answer
    -- taken: the border carries all it can, and both areas keep some demand
    ∷ (no_bids 50 50 (minus 50) (pos 1) (minus 1) (taken 100 0 (pos 50) (pos 0)) ∷ [])))))))))

abbrev pub Holds : Row → Type 0
Holds r = answer_of r ≡ r.expected

abbrev pub WorkedCases : Type 0
WorkedCases = AllByRecursion Holds rows
