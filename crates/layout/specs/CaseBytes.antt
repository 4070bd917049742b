-- The bytes of a case: a header of seven words, then the areas, the borders and the bids.
--
--   case_in         the case that bytes hold, by the counts in their header
--   written         the bytes of a case
--   bytes_answer, records_answer
--                   the questions on the bytes, and those on the records, in order
--   case_answer     what reading bytes as a case answers: the first question that gets a no, or a yes
use Rattle.std.specs.Prelude.{ℕ, ◌+◌, ◌*◌, Bool, true, cond, ◌&&◌, ◌||◌, List, [], ◌∷◌, ◌++◌, length, drop, ℤ, Result, ◌==◌, nat_le}
use Rattle.std.specs.Int.{w32}
use Rattle.std.proofs.Common.{of_z}
use Rattle.scale.specs.Levels.{little_endian}
use Rattle.market.specs.declared.trade.Border.{Border}
use Rattle.market.specs.declared.trade.Bid.{Bid}
use Rattle.market.specs.declared.refusal.Refusal.{Refusal}
use Rattle.market.specs.declared.refusal.Refusal.TheVariants.{Header, Kind, Count, Offset, Demand, Ends, Limits, Origin, Offer}
use Rattle.market.specs.Cases.{Case, case_of, areas, demand_at, border_at, bid_at, demand_in_range, ends_known, limits_in_range, bid_known, bid_in_range}
use Rattle.market.specs.First.{and_then, ask, ask_one}
use Rattle.records.specs.declared.header.CaseHeader.{CaseHeader}
use Rattle.records.specs.Bytes.{part, word, signed_word, table, bytes_of}
use Rattle.records.specs.Headers.{case_header_of, borders_start, bids_start, end_by}
use Rattle.records.specs.Records.{border_of, bid_of, direction_number}

-- where the tables begin, and where the last ends, by the counts in the header
abbrev pub borders_offset : List ℕ → ℕ
borders_offset bs = borders_start (case_header_of bs)

abbrev pub bids_offset : List ℕ → ℕ
bids_offset bs = bids_start (case_header_of bs)

abbrev pub case_end : List ℕ → ℕ
case_end bs = end_by (case_header_of bs)

abbrev pub case_in : List ℕ → Case
case_in bs =
    case_of (table signed_word 4 (word 1 bs) (drop 28 bs)) (table border_of 12 (word 3 bs) (drop (borders_offset bs) bs))
    (table bid_of 12 (word 5 bs) (drop (bids_offset bs) bs))

-- the bytes of each record, and of a whole case
abbrev pub demand_bytes : ℤ → List ℕ
demand_bytes d = bytes_of 4 (of_z w32 d)

abbrev pub border_bytes : Border → List ℕ
border_bytes b = bytes_of 2 b.from ++ (bytes_of 2 b.to ++ (bytes_of 4 b.forward ++ bytes_of 4 b.backward))

abbrev pub bid_bytes : Bid → List ℕ
bid_bytes b =
    bytes_of 2 b.area ++ (bytes_of 2 (direction_number b.direction) ++ (bytes_of 4 b.volume ++ bytes_of 4 (of_z w32 b.price)))

abbrev pub each : {X : Type 0} → (X → List ℕ) → List X → List ℕ
each bytes [] = []
each bytes (x ∷ xs) = bytes x ++ each bytes xs

abbrev pub case_header : (areas borders bids : ℕ) → List ℕ
case_header areas borders bids =
    bytes_of 4 1 ++ (bytes_of 4 areas ++ (bytes_of 4 28 ++ (bytes_of 4 borders ++ (bytes_of 4 (28 + 4 * areas)
    ++ (bytes_of 4 bids ++ bytes_of 4 (28 + 4 * areas + 12 * borders))))))

abbrev pub written : Case → List ℕ
written c =
    case_header (length c.demands) (length c.borders) (length c.bids)
    ++ (each demand_bytes c.demands ++ (each border_bytes c.borders ++ each bid_bytes c.bids))

-- how many bytes a case takes
abbrev pub case_size : Case → ℕ
case_size c = 28 + 4 * length c.demands + 12 * length c.borders + 12 * length c.bids

-- words 1, 3 and 5 are counts within their bounds, with no bids where they take no part
abbrev pub count_allowed : (bids : Bool) → CaseHeader → ℕ → Bool
count_allowed bids h k =
    cond (k == 1) (nat_le h.areas 48) (cond (k == 3) (nat_le h.borders 128) (cond (k == 5) (nat_le h.bids 1024 && (bids || h.bids == 0)) true))

-- words 2, 4 and 6 are the offsets; place 7 stands for the end
abbrev pub offset_right : CaseHeader → (size : ℕ) → ℕ → Bool
offset_right h size k =
    cond (k == 2) (h.areas_at == 28) (cond (k == 4) (h.borders_at == borders_start h) (cond (k == 6) (h.bids_at == bids_start h)
    (cond (k == 7) (size == end_by h) true)))

-- the direction that bid k's bytes give is 0 or 1
abbrev pub direction_known : List ℕ → ℕ → Bool
direction_known bs k = nat_le (little_endian (part (bids_offset bs + 12 * k + 2) 2 bs)) 1

-- the questions on the header, and those on the records
abbrev pub bytes_answer : (bids : Bool) → List ℕ → Result (Unit {0}) Refusal
bytes_answer bids bs =
    and_then (ask_one (nat_le 28 (length bs)) (Header (length bs)))
    (and_then (ask_one (word 0 bs == 1) Kind)
    (and_then (ask (count_allowed bids (case_header_of bs)) 7 Count)
    (ask (offset_right (case_header_of bs) (length bs)) 8 Offset)))

abbrev pub records_answer : Case → (direction_known : ℕ → Bool) → Result (Unit {0}) Refusal
records_answer c direction_known =
    and_then (ask (λ k. demand_in_range (demand_at c k)) (areas c) Demand)
    (and_then (ask (λ k. ends_known (areas c) (border_at c k)) (length c.borders) Ends)
    (and_then (ask (λ k. limits_in_range (border_at c k)) (length c.borders) Limits)
    (and_then (ask (λ k. bid_known (areas c) (bid_at c k) && direction_known k) (length c.bids) Origin)
    (ask (λ k. bid_in_range (bid_at c k)) (length c.bids) Offer))))

abbrev pub case_answer : (bids : Bool) → List ℕ → Result (Unit {0}) Refusal
case_answer bids bs = and_then (bytes_answer bids bs) (records_answer (case_in bs) (direction_known bs))
