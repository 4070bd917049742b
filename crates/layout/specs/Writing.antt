-- What writing into a buffer answers, and what the buffer holds after it.
--
--   case_write_answer, case_write_after
--                        of a case: its bytes and the rest of the buffer, or a refusal and the buffer as it was
--   counts_in            how many amounts a selection has of each kind
--   proposal_size        how many bytes a selection takes, with its prices' levels one after the other
--   proposal_written     those bytes
--   proposal_write_answer, proposal_write_after
--                        the same of a proposal; a size past the largest number counts as that
use Rattle.std.specs.Prelude.{ℕ, ◌+◌, ◌-◌, ◌*◌, ◌^◌, min, cond, List, ◌++◌, length, drop, ℤ, Ok, Err, Result, nat_le}
use Rattle.market.specs.declared.refusal.Refusal.{Refusal}
use Rattle.market.specs.declared.refusal.Refusal.TheVariants.{Room}
use Rattle.market.specs.Cases.{Case}
use Rattle.market.specs.Selections.{Selection}
use Rattle.layout.specs.declared.proposal.Counts.{Counts}
use Rattle.records.specs.Bytes.{bytes_of}
use Rattle.layout.specs.CaseBytes.{each, written, case_size}
use Rattle.layout.specs.ProposalBytes.{amount_bytes, level_bytes, proposal_header}

abbrev pub case_write_answer : Case → (out : List ℕ) → Result ℕ Refusal
case_write_answer c out = cond (nat_le (case_size c) (length out)) (Ok (case_size c)) (Err (Room (case_size c)))

abbrev pub case_write_after : Case → (out : List ℕ) → List ℕ
case_write_after c out = cond (nat_le (case_size c) (length out)) (written c ++ drop (case_size c) out) out

abbrev pub counts_in : Selection → Counts
counts_in s = record { areas = length s.satisfied; borders = length s.flows; bids = length s.activated }

abbrev pub proposal_size : Selection → (prices : List ℤ) → ℕ
proposal_size s prices = 36 + 4 * length s.satisfied + 4 * length s.flows + 4 * length s.activated + 8 * length prices

abbrev pub proposal_written : (levels : ℕ) → Selection → (prices : List ℤ) → List ℕ
proposal_written levels s prices =
    proposal_header (counts_in s) levels
    ++ (each amount_bytes s.satisfied ++ (each amount_bytes s.flows ++ (each (bytes_of 4) s.activated ++ each level_bytes prices)))

abbrev pub proposal_write_answer : Selection → (prices : List ℤ) → (out : List ℕ) → Result ℕ Refusal
proposal_write_answer s prices out =
    cond (nat_le (proposal_size s prices) (length out)) (Ok (proposal_size s prices)) (Err (Room (min (proposal_size s prices) (2 ^ 64 - 1))))

abbrev pub proposal_write_after : (levels : ℕ) → Selection → (prices : List ℤ) → (out : List ℕ) → List ℕ
proposal_write_after levels s prices out =
    cond (nat_le (proposal_size s prices) (length out)) (proposal_written levels s prices ++ drop (proposal_size s prices) out) out
