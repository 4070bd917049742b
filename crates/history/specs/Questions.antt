-- The questions of a submit, in order, and what its answer says of them.
--
--   selection_questions    those on a selection and its prices: amounts, balances, ranges of prices, and whether they fit
--   submit_questions       those on the bytes of a proposal, then these
--   SubmitInOrder          a yes says that all pass, and a no names the first that fails, at its first place
use Rattle.std.specs.Prelude.{◌≡◌, ℕ, ◌↔◌, List, [], ◌∷◌, ◌++◌, length, is_some, Ok, Err, Option}
use Rattle.scale.specs.Meaning.{Meaning}
use Rattle.market.specs.declared.refusal.Refusal.{Refusal}
use Rattle.market.specs.declared.refusal.Refusal.TheVariants.{Satisfied, Flow, Activated, Balance, Price, DemandFit, BorderFit, BidFit}
use Rattle.market.specs.Cases.{Case, areas, demand_at, border_at, bid_at}
use Rattle.market.specs.Selections.{Selection, satisfied_allowed, flow_allowed, activated_allowed}
use Rattle.layout.specs.InOrder.{Asked, question, Passes, Refuses, proposal_questions}
use Rattle.layout.specs.ProposalBytes.{counts_of}
use Rattle.fitting.specs.Judged.{satisfied_at, flow_at, activated_at, balances, demand_priced, border_priced, bid_priced}
use Rattle.cycle.specs.Calls.{submit_answer, proposed, price_in}

abbrev pub selection_questions : (m : Meaning) → Case → Selection → (price : ℕ → Option m.Value) → List Asked
selection_questions m c s price =
    question (λ a. satisfied_allowed (demand_at c a) (satisfied_at s a)) (areas c) Satisfied
    ∷ question (λ k. flow_allowed (border_at c k) (flow_at s k)) (length c.borders) Flow
    ∷ question (λ k. activated_allowed (bid_at c k) (activated_at s k)) (length c.bids) Activated
    ∷ question (balances c s) (areas c) Balance
    ∷ question (λ a. is_some (price a)) (areas c) Price
    ∷ question (λ a. demand_priced m (demand_at c a) (satisfied_at s a) (price a)) (areas c) DemandFit
    ∷ question (λ k. border_priced m (border_at c k) (flow_at s k) (price (border_at c k).from) (price (border_at c k).to)) (length c.borders) BorderFit
    ∷ question (λ k. bid_priced m (bid_at c k) (activated_at s k) (price (bid_at c k).area)) (length c.bids) BidFit
    ∷ []

abbrev pub submit_questions : (m : Meaning) → Case → List ℕ → List Asked
submit_questions m c bs = proposal_questions (counts_of c) m.levels bs ++ selection_questions m c (proposed c bs) (price_in m c bs)

pub record SubmitInOrder (m : Meaning) : Type 0 where
  pub taken : (c : Case) (bs : List ℕ) → (submit_answer m c bs ≡ Ok tt) ↔ Passes (submit_questions m c bs)
  pub refused : (c : Case) (bs : List ℕ) (e : Refusal) → (submit_answer m c bs ≡ Err e) ↔ Refuses (submit_questions m c bs) e
