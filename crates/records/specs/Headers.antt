-- The words of a header, taken all at once.
--
--   case_header_of       the seven words of a case's header
--   case_header_in       the same, where the bytes hold them all
--   borders_start, bids_start, end_by
--                        where the tables of a case begin behind the first, and where the last ends, by its header
--   proposal_header_of   the nine words of a proposal's header
--   proposal_header_in   the same, where the bytes hold them all
use Rattle.std.specs.Prelude.{ℕ, ◌+◌, ◌*◌, cond, List, length, Some, None, Option, nat_le}
use Rattle.records.specs.declared.header.CaseHeader.{CaseHeader}
use Rattle.records.specs.declared.header.ProposalHeader.{ProposalHeader}
use Rattle.records.specs.Bytes.{word}

abbrev pub case_header_of : List ℕ → CaseHeader
case_header_of bs = record {
  kind = word 0 bs;
  areas = word 1 bs;
  areas_at = word 2 bs;
  borders = word 3 bs;
  borders_at = word 4 bs;
  bids = word 5 bs;
  bids_at = word 6 bs;
}

abbrev pub case_header_in : List ℕ → Option CaseHeader
case_header_in bs = cond (nat_le 28 (length bs)) (Some (case_header_of bs)) None

-- where each table begins, and where the last ends, by the header's own counts
abbrev pub borders_start : CaseHeader → ℕ
borders_start h = 28 + 4 * h.areas

abbrev pub bids_start : CaseHeader → ℕ
bids_start h = borders_start h + 12 * h.borders

abbrev pub end_by : CaseHeader → ℕ
end_by h = bids_start h + 12 * h.bids

abbrev pub proposal_header_of : List ℕ → ProposalHeader
proposal_header_of bs = record {
  kind = word 0 bs;
  areas = word 1 bs;
  satisfied = word 2 bs;
  borders = word 3 bs;
  flows = word 4 bs;
  bids = word 5 bs;
  activated = word 6 bs;
  levels = word 7 bs;
  prices = word 8 bs;
}

abbrev pub proposal_header_in : List ℕ → Option ProposalHeader
proposal_header_in bs = cond (nat_le 36 (length bs)) (Some (proposal_header_of bs)) None
