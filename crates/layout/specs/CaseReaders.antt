-- What the reader of a case holds.
--
--   case_read          the case that a reader holds
--   directions_read    the directions that its bids' bytes give
--   no_direction       what stands where there is no bid
--   direction_fine     the number that a bid's bytes give is that of a direction
--   Parts              the reader holds the three tables of the bytes
--   case_held          the case that a book holds
use Rattle.std.specs.Prelude.{◌≡◌, ℕ, ◌*◌, Bool, List, vec_items, is_ok, Ok, Result, slice_index_or}
use Rattle.market.specs.declared.book.Book.{Book}
use Rattle.market.specs.declared.trade.Direction.{Direction}
use Rattle.market.specs.declared.trade.Direction.TheVariants.{Up}
use Rattle.market.specs.declared.trade.UnknownDirection.{UnknownDirection}
use Rattle.market.specs.Cases.{Case, case_of}
use Rattle.records.specs.declared.header.CaseHeader.{CaseHeader}
use Rattle.layout.specs.declared.reader.CaseReader.{CaseReader}
use Rattle.records.specs.Bytes.{part, records, signed_word}
use Rattle.records.specs.Headers.{borders_start, bids_start}
use Rattle.records.specs.Records.{border_of, bid_of, raw_direction}

abbrev pub case_read : CaseReader → Case
case_read r = case_of (records signed_word 4 r.demands.now) (records border_of 12 r.borders.now) (records bid_of 12 r.bids.now)

abbrev pub directions_read : CaseReader → List (Result Direction UnknownDirection)
directions_read r = records raw_direction 12 r.bids.now

abbrev pub no_direction : Result Direction UnknownDirection
no_direction = Ok Up

abbrev pub direction_fine : CaseReader → ℕ → Bool
direction_fine r k = is_ok (slice_index_or (directions_read r) k no_direction)

-- the reader holds the three tables of the bytes
pub record Parts (h : CaseHeader) (bs : List ℕ) (r : CaseReader) : Type 0 where
  pub demands : r.demands.now ≡ part 28 (4 * h.areas) bs
  pub borders : r.borders.now ≡ part (borders_start h) (12 * h.borders) bs
  pub bids : r.bids.now ≡ part (bids_start h) (12 * h.bids) bs

abbrev pub case_held : Book → Case
case_held b = case_of (vec_items b.demands) (vec_items b.borders) (vec_items b.bids)
