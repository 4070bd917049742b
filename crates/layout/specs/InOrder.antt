-- Questions in order, and what it means that one is the first to fail.
--
--   Asked                 a question: its places, whether it passes at one, and what a no there is
--   asked                 the answer of a list of questions: the refusal of the first that fails, at its first place
--   Passes                every question passes at every place
--   Refuses               a question fails at a place and at no lower one, its no is this one, and every earlier question passes at every place
--   case_questions, proposal_questions
--                         the questions on the bytes of a case, and of a proposal
--   QuestionsInOrder      a yes says that all pass, and a no names the first that fails
use Rattle.std.specs.Prelude.{◌≡◌, ℕ, Bool, ◌&&◌, ◌⊎◌, ◌↔◌, List, [], ◌∷◌, length, Some, None, Ok, Err, Result, nat_eq, nat_le}
use Rattle.market.specs.declared.refusal.Refusal.{Refusal}
use Rattle.market.specs.declared.refusal.Refusal.TheVariants.{Header, Kind, Count, Offset, Demand, Ends, Limits, Origin, Offer}
use Rattle.market.specs.Cases.{areas, demand_at, border_at, bid_at, demand_in_range, ends_known, limits_in_range, bid_known, bid_in_range}
use Rattle.market.specs.First.{FirstNo, and_then, ask}
use Rattle.layout.specs.declared.proposal.Counts.{Counts}
use Rattle.records.specs.Bytes.{word}
use Rattle.records.specs.Headers.{case_header_of, proposal_header_of}
use Rattle.layout.specs.CaseBytes.{case_in, count_allowed, offset_right, direction_known, case_answer}
use Rattle.layout.specs.ProposalBytes.{count_right, section_right, starts, proposal_answer}

pub record Asked : Type 0 where
  pub passes : ℕ → Bool
  pub places : ℕ
  pub refusal : ℕ → Refusal

abbrev pub question : (ℕ → Bool) → ℕ → (ℕ → Refusal) → Asked
question passes places refusal = record { passes = passes; places = places; refusal = refusal }

abbrev pub asked : List Asked → Result (Unit {0}) Refusal
asked [] = Ok tt
asked (q ∷ qs) = and_then (ask q.passes q.places q.refusal) (asked qs)

abbrev pub Passes : List Asked → Type 0
Passes [] = Unit {0}
Passes (q ∷ qs) = FirstNo q.passes q.places None × Passes qs

abbrev pub Refuses : List Asked → Refusal → Type 0
Refuses [] e = ⊥
Refuses (q ∷ qs) e = ((i : ℕ) × FirstNo q.passes q.places (Some i) × (e ≡ q.refusal i)) ⊎ (FirstNo q.passes q.places None × Refuses qs e)

abbrev pub case_questions : (bids : Bool) → List ℕ → List Asked
case_questions bids bs =
    question (λ _. nat_le 28 (length bs)) 1 (λ _. Header (length bs))
    ∷ question (λ _. nat_eq (word 0 bs) 1) 1 (λ _. Kind)
    ∷ question (count_allowed bids (case_header_of bs)) 7 Count
    ∷ question (offset_right (case_header_of bs) (length bs)) 8 Offset
    ∷ question (λ k. demand_in_range (demand_at (case_in bs) k)) (areas (case_in bs)) Demand
    ∷ question (λ k. ends_known (areas (case_in bs)) (border_at (case_in bs) k)) (length (case_in bs).borders) Ends
    ∷ question (λ k. limits_in_range (border_at (case_in bs) k)) (length (case_in bs).borders) Limits
    ∷ question (λ k. bid_known (areas (case_in bs)) (bid_at (case_in bs) k) && direction_known bs k) (length (case_in bs).bids) Origin
    ∷ question (λ k. bid_in_range (bid_at (case_in bs) k)) (length (case_in bs).bids) Offer
    ∷ []

abbrev pub proposal_questions : Counts → (levels : ℕ) → List ℕ → List Asked
proposal_questions n levels bs =
    question (λ _. nat_le 36 (length bs)) 1 (λ _. Header (length bs))
    ∷ question (λ _. nat_eq (word 0 bs) 2) 1 (λ _. Kind)
    ∷ question (count_right n levels (proposal_header_of bs)) 9 Count
    ∷ question (section_right (starts n levels) (proposal_header_of bs) (length bs)) 10 Offset
    ∷ []

pub record QuestionsInOrder : Type 0 where
  pub case_asked : (bids : Bool) (bs : List ℕ) → case_answer bids bs ≡ asked (case_questions bids bs)
  pub proposal_asked : (n : Counts) (levels : ℕ) (bs : List ℕ) → proposal_answer n levels bs ≡ asked (proposal_questions n levels bs)
  pub taken : (qs : List Asked) → (asked qs ≡ Ok tt) ↔ Passes qs
  pub refused : (qs : List Asked) (e : Refusal) → (asked qs ≡ Err e) ↔ Refuses qs e
