-- What a proposal that was read holds.
--
--   section_bytes      the bytes of a section
--   section_place      which of the four sections it is, in their order
--   satisfied_bytes, flows_bytes, activated_bytes, prices_bytes
--                      the bytes of a proposal's four sections
--   selection_held     the selection that they hold
--   Holds              a proposal holds the four sections of the given bytes
--   InPlace            each of its four sections is under its own name
--   forget             a refusal, or a yes that says no more
--   few                the amounts of a proposal are within the bounds of every case
--   amounts_held       amounts as a selection
use Rattle.std.specs.Prelude.{◌≡◌, ℕ, ◌/◌, Bool, ◌&&◌, List, length, Ok, Err, vec_items, Result, nat_le}
use Rattle.market.specs.declared.refusal.Refusal.{Refusal}
use Rattle.market.specs.declared.book.Amounts.{Amounts}
use Rattle.market.specs.Selections.{Selection}
use Rattle.layout.specs.declared.proposal.Counts.{Counts}
use Rattle.layout.specs.declared.proposal.Proposal.{Proposal}
use Rattle.layout.specs.declared.proposal.Section.{Section}
use Rattle.layout.specs.declared.proposal.Section.TheVariants.{Satisfied, Flows, Activated, Prices}
use Rattle.layout.specs.ProposalBytes.{satisfied_part, flows_part, activated_part, prices_part, selection_of}

abbrev pub section_bytes : Section → List ℕ
section_bytes (Satisfied s) = s.now
section_bytes (Flows s) = s.now
section_bytes (Activated s) = s.now
section_bytes (Prices s) = s.now

abbrev pub section_place : Section → ℕ
section_place (Satisfied s) = 0
section_place (Flows s) = 1
section_place (Activated s) = 2
section_place (Prices s) = 3

abbrev pub satisfied_bytes : Proposal → List ℕ
satisfied_bytes p = section_bytes p.satisfied

abbrev pub flows_bytes : Proposal → List ℕ
flows_bytes p = section_bytes p.flows

abbrev pub activated_bytes : Proposal → List ℕ
activated_bytes p = section_bytes p.activated

abbrev pub prices_bytes : Proposal → List ℕ
prices_bytes p = section_bytes p.prices

abbrev pub levels_of : Proposal → ℕ
levels_of p = p.levels

abbrev pub selection_held : Proposal → Selection
selection_held p = selection_of (satisfied_bytes p) (flows_bytes p) (activated_bytes p)

pub record Holds (n : Counts) (levels : ℕ) (bs : List ℕ) (p : Proposal) : Type 0 where
  pub satisfied : satisfied_bytes p ≡ satisfied_part n bs
  pub flows : flows_bytes p ≡ flows_part n bs
  pub activated : activated_bytes p ≡ activated_part n bs
  pub prices : prices_bytes p ≡ prices_part n levels bs
  pub levels_same : levels_of p ≡ levels

abbrev pub InPlace : Proposal → Type 0
InPlace p = (section_place p.satisfied ≡ 0) × (section_place p.flows ≡ 1) × (section_place p.activated ≡ 2) × (section_place p.prices ≡ 3)

abbrev pub forget : {X : Type 0} → Result X Refusal → Result (Unit {0}) Refusal
forget (Ok x) = Ok tt
forget (Err e) = Err e

-- at most 48 satisfied amounts, 128 flows and 1,024 activated amounts
abbrev pub few : Proposal → Bool
few p = nat_le (length (satisfied_bytes p) / 4) 48 && (nat_le (length (flows_bytes p) / 4) 128 && nat_le (length (activated_bytes p) / 4) 1024)

abbrev pub amounts_held : Amounts → Selection
amounts_held a = record {
  satisfied = vec_items a.satisfied;
  flows = vec_items a.flows;
  activated = vec_items a.activated;
}
