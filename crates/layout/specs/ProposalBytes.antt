-- The bytes of a proposal: a header of nine words, then satisfied amounts, flows, activated amounts and prices.
--
--   Counts             how many areas, borders and bids a case has
--   starts             where the sections begin behind the first, and where the last ends
--   satisfied_part, flows_part, activated_part, prices_part
--                      the four sections, each a part of the bytes
--   selection_in       the selection that the bytes hold
--   price_part         the bytes of one area's price
--   proposal_answer    what reading bytes as a proposal answers: the first question that gets a no, or a yes
--   proposal_bytes     the bytes of a selection with the numbers of its prices
use Rattle.std.specs.Prelude.{ℕ, ◌+◌, ◌*◌, ◌/◌, Bool, true, cond, ◌&&◌, List, ◌++◌, length, ℤ, Result, ◌==◌, nat_le}
use Rattle.std.specs.Int.{w32, w64}
use Rattle.std.proofs.Common.{of_z}
use Rattle.scale.specs.Levels.{little_endian}
use Rattle.market.specs.declared.refusal.Refusal.{Refusal}
use Rattle.market.specs.declared.refusal.Refusal.TheVariants.{Header, Kind, Count, Offset}
use Rattle.market.specs.Cases.{Case}
use Rattle.market.specs.Selections.{Selection}
use Rattle.market.specs.First.{and_then, ask, ask_one}
use Rattle.records.specs.declared.header.ProposalHeader.{ProposalHeader}
use Rattle.layout.specs.declared.proposal.Counts.{Counts}
use Rattle.layout.specs.declared.proposal.Starts.{Starts}
use Rattle.records.specs.Bytes.{part, word, signed_word, table, bytes_of}
use Rattle.layout.specs.CaseBytes.{each}
use Rattle.records.specs.Headers.{proposal_header_of}

abbrev pub counts_of : Case → Counts
counts_of c = record { areas = length c.demands; borders = length c.borders; bids = length c.bids }

-- where each section begins, and where the last ends
abbrev pub flows_offset : Counts → ℕ
flows_offset n = 36 + 4 * n.areas

abbrev pub activated_offset : Counts → ℕ
activated_offset n = flows_offset n + 4 * n.borders

abbrev pub prices_offset : Counts → ℕ
prices_offset n = activated_offset n + 4 * n.bids

abbrev pub proposal_end : Counts → (levels : ℕ) → ℕ
proposal_end n levels = prices_offset n + 8 * levels * n.areas

abbrev pub starts : Counts → (levels : ℕ) → Starts
starts n levels = record {
  flows = flows_offset n;
  activated = activated_offset n;
  prices = prices_offset n;
  end = proposal_end n levels;
}

-- the four sections
abbrev pub satisfied_part : Counts → List ℕ → List ℕ
satisfied_part n bs = part 36 (4 * n.areas) bs

abbrev pub flows_part : Counts → List ℕ → List ℕ
flows_part n bs = part (flows_offset n) (4 * n.borders) bs

abbrev pub activated_part : Counts → List ℕ → List ℕ
activated_part n bs = part (activated_offset n) (4 * n.bids) bs

abbrev pub prices_part : Counts → (levels : ℕ) → List ℕ → List ℕ
prices_part n levels bs = part (prices_offset n) (8 * levels * n.areas) bs

-- a section's whole records, as many as its bytes hold
abbrev pub signed_amounts : List ℕ → List ℤ
signed_amounts bs = table signed_word 4 (length bs / 4) bs

abbrev pub unsigned_amounts : List ℕ → List ℕ
unsigned_amounts bs = table little_endian 4 (length bs / 4) bs

abbrev pub selection_of : (satisfied flows activated : List ℕ) → Selection
selection_of satisfied flows activated = record {
  satisfied = signed_amounts satisfied;
  flows = signed_amounts flows;
  activated = unsigned_amounts activated;
}

abbrev pub selection_in : Counts → List ℕ → Selection
selection_in n bs = selection_of (satisfied_part n bs) (flows_part n bs) (activated_part n bs)

-- the bytes of the price of an area, in the section of prices: its levels of 8 bytes each; none past the section's end
abbrev pub price_part : (levels : ℕ) → (prices : List ℕ) → (area : ℕ) → List ℕ
price_part levels prices area = part (8 * levels * area) (8 * levels) prices

-- words 1, 3 and 5 are the case's counts, word 7 the scale's levels, of which there are at most 16
abbrev pub count_right : Counts → (levels : ℕ) → ProposalHeader → ℕ → Bool
count_right n levels h k =
    cond (k == 1) (h.areas == n.areas) (cond (k == 3) (h.borders == n.borders) (cond (k == 5) (h.bids == n.bids)
    (cond (k == 7) (nat_le levels 16 && h.levels == levels) true)))

-- words 2, 4, 6 and 8 are the offsets; place 9 stands for the end
abbrev pub section_right : Starts → ProposalHeader → (size : ℕ) → ℕ → Bool
section_right at h size k =
    cond (k == 2) (h.satisfied == 36) (cond (k == 4) (h.flows == at.flows) (cond (k == 6) (h.activated == at.activated)
    (cond (k == 8) (h.prices == at.prices) (cond (k == 9) (size == at.end) true))))

abbrev pub proposal_answer : Counts → (levels : ℕ) → List ℕ → Result (Unit {0}) Refusal
proposal_answer n levels bs =
    and_then (ask_one (nat_le 36 (length bs)) (Header (length bs)))
    (and_then (ask_one (word 0 bs == 2) Kind)
    (and_then (ask (count_right n levels (proposal_header_of bs)) 9 Count)
    (ask (section_right (starts n levels) (proposal_header_of bs) (length bs)) 10 Offset)))

-- the bytes of a selection and of the numbers that write its prices, area by area
abbrev pub amount_bytes : ℤ → List ℕ
amount_bytes x = bytes_of 4 (of_z w32 x)

abbrev pub level_bytes : ℤ → List ℕ
level_bytes x = bytes_of 8 (of_z w64 x)

abbrev pub proposal_header : Counts → (levels : ℕ) → List ℕ
proposal_header n levels =
    bytes_of 4 2 ++ (bytes_of 4 n.areas ++ (bytes_of 4 36 ++ (bytes_of 4 n.borders ++ (bytes_of 4 (flows_offset n)
    ++ (bytes_of 4 n.bids ++ (bytes_of 4 (activated_offset n) ++ (bytes_of 4 levels ++ bytes_of 4 (prices_offset n))))))))

abbrev pub proposal_bytes : Counts → (levels : ℕ) → Selection → List (List ℤ) → List ℕ
proposal_bytes n levels s prices =
    proposal_header n levels
    ++ (each amount_bytes s.satisfied ++ (each amount_bytes s.flows ++ (each (bytes_of 4) s.activated ++ each (each level_bytes) prices)))
