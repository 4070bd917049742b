-- The text of a release: a heading, a line for each area, flow and bid, and the totals. One space parts fields, byte 10 ends a line.
--
--   spaced       fields with one space between them and the end of the line behind them
--   area_line    number, demand, satisfied, unsatisfied, up, down, export
--   flow_line    the word flow, the border's number, its flow
--   bid_line     the word bid, the bid's number, its amount
--   total_line   the word total, satisfied, activated, netted, cost
--   lines        the lines of the places from i on, n of them
--   listing      the whole text
use Rattle.std.specs.Prelude.{ℕ, zero, suc, List, [], ◌∷◌, ◌++◌, length, pos, codes, decimal, slice_index, slice_index_or}
use Rattle.std.specs.Fmt.{signed_decimal}
use Rattle.market.specs.Cases.{Case, areas, demand_at}
use Rattle.market.specs.Selections.{Selection}
use Rattle.listing.specs.Figures.{up_in, down_in, unsatisfied, export, satisfied_sum, activated_sum, netted, cost}

abbrev pub spaced : List (List ℕ) → List ℕ
spaced [] = 10 ∷ []
spaced (x ∷ []) = x ++ (10 ∷ [])
spaced (x ∷ (y ∷ ys)) = x ++ (32 ∷ spaced (y ∷ ys))

abbrev pub heading : List ℕ
heading =
    spaced (codes "area" ∷ (codes "demand" ∷ (codes "satisfied" ∷ (codes "unsatisfied" ∷ (codes "up" ∷ (codes "down" ∷ (codes "export" ∷ [])))))))

abbrev pub area_line : Case → Selection → ℕ → List ℕ
area_line c s a =
    spaced (decimal a ∷ (signed_decimal (demand_at c a) ∷ (signed_decimal (slice_index_or s.satisfied a (pos 0)) ∷ (signed_decimal (unsatisfied c s a)
    ∷ (decimal (up_in c s a) ∷ (decimal (down_in c s a) ∷ (signed_decimal (export c s a) ∷ [])))))))

abbrev pub flow_line : Selection → ℕ → List ℕ
flow_line s k = spaced (codes "flow" ∷ (decimal k ∷ (signed_decimal (slice_index_or s.flows k (pos 0)) ∷ [])))

abbrev pub bid_line : Selection → ℕ → List ℕ
bid_line s k = spaced (codes "bid" ∷ (decimal k ∷ (decimal (slice_index s.activated k) ∷ [])))

abbrev pub total_line : Case → Selection → List ℕ
total_line c s =
    spaced (codes "total" ∷ (decimal (satisfied_sum s) ∷ (decimal (activated_sum s) ∷ (signed_decimal (netted s) ∷ (signed_decimal (cost c s) ∷ [])))))

abbrev pub lines : (ℕ → List ℕ) → ℕ → ℕ → List ℕ
lines line i zero = []
lines line i (suc n) = line i ++ lines line (suc i) n

abbrev pub listing : Case → Selection → List ℕ
listing c s =
    heading ++ (lines (area_line c s) 0 (areas c) ++ (lines (flow_line s) 0 (length c.borders) ++ (lines (bid_line s) 0 (length c.bids) ++ total_line c s)))
