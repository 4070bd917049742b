-- What the layout promises: bytes and what they hold determine each other, and a refusal names the first question that fails.
--
--   Bytewise         every number is a byte
--   BidsAllowed      a case has no bids where they take no part
--   CaseLayout       the bytes that are taken as a case are those that write a valid case, one for one
--   Writable         a selection and its prices, of the right counts and widths
--   prices_in        the numbers of the prices in the bytes of a proposal, area by area
--   all_levels       the numbers of all prices, one area's after the other's
--   ProposalLayout   the bytes that are taken as a proposal are those that write a selection and its prices, one for one
use Rattle.std.specs.Prelude.{◌≡◌, ℕ, ◌*◌, ◌^◌, ◌<◌, ◌≤◌, Bool, ◌||◌, T, ◌↔◌, List, [], ◌∷◌, ◌++◌, length, ℤ, Ok, FitsSigned, ◌==◌, slice_index_or}
use Rattle.std.specs.Int.{w32, w64}
use Rattle.std.specs.List.{AllByRecursion}
use Rattle.scale.specs.Levels.{numbers}
use Rattle.market.specs.Cases.{Case, Valid}
use Rattle.market.specs.Selections.{Selection}
use Rattle.layout.specs.declared.proposal.Counts.{Counts}
use Rattle.records.specs.Bytes.{table}
use Rattle.layout.specs.CaseBytes.{case_in, case_answer, case_size, written}
use Rattle.layout.specs.ProposalBytes.{proposal_answer, proposal_bytes, selection_in, prices_part, price_part}
use Rattle.layout.specs.Writing.{proposal_written}

abbrev pub Bytewise : List ℕ → Type 0
Bytewise bs = AllByRecursion (λ b. b < 256) bs

abbrev pub BidsAllowed : (bids : Bool) → Case → Type 0
BidsAllowed bids c = T (bids || length c.bids == 0)

pub record CaseLayout : Type 0 where
  -- bytes are taken exactly if they write a valid case, with no bids where they take no part
  pub exactly : (bids : Bool) (bs : List ℕ) → Bytewise bs → (case_answer bids bs ≡ Ok tt) ↔ ((c : Case) × Valid c × BidsAllowed bids c × (bs ≡ written c))
  -- a valid case comes back from its bytes, and taken bytes come back from their case
  pub case_back : (c : Case) → Valid c → case_in (written c) ≡ c
  pub bytes_back : (bids : Bool) (bs : List ℕ) → Bytewise bs → case_answer bids bs ≡ Ok tt → written (case_in bs) ≡ bs
  pub size : (c : Case) → length (written c) ≡ case_size c

-- within the bounds of every case and scale, an amount for each record, a price for each area, and every number within its width
pub record Writable (n : Counts) (levels : ℕ) (s : Selection) (prices : List (List ℤ)) : Type 0 where
  pub few_areas : n.areas ≤ 48
  pub few_borders : n.borders ≤ 128
  pub few_bids : n.bids ≤ 1024
  pub few_levels : levels ≤ 16
  pub satisfied_count : length s.satisfied ≡ n.areas
  pub flows_count : length s.flows ≡ n.borders
  pub activated_count : length s.activated ≡ n.bids
  pub prices_count : length prices ≡ n.areas
  pub satisfied_fit : AllByRecursion (FitsSigned w32) s.satisfied
  pub flows_fit : AllByRecursion (FitsSigned w32) s.flows
  pub activated_fit : AllByRecursion (λ x. x < 2 ^ 32) s.activated
  pub prices_fit : AllByRecursion (λ p. (length p ≡ levels) × AllByRecursion (FitsSigned w64) p) prices

abbrev pub prices_in : Counts → (levels : ℕ) → List ℕ → List (List ℤ)
prices_in n levels bs = table (numbers levels) (8 * levels) n.areas (prices_part n levels bs)

abbrev pub all_levels : List (List ℤ) → List ℤ
all_levels [] = []
all_levels (p ∷ ps) = p ++ all_levels ps

pub record ProposalLayout : Type 0 where
  -- a selection and prices make a proposal that is taken
  pub taken : (n : Counts) (levels : ℕ) (s : Selection) (prices : List (List ℤ)) → Writable n levels s prices → proposal_answer n levels (proposal_bytes n levels s prices) ≡ Ok tt
  -- they come back from its bytes
  pub selection_back : (n : Counts) (levels : ℕ) (s : Selection) (prices : List (List ℤ)) → Writable n levels s prices → selection_in n (proposal_bytes n levels s prices) ≡ s
  pub prices_back : (n : Counts) (levels : ℕ) (s : Selection) (prices : List (List ℤ)) → Writable n levels s prices → (area : ℕ) → area < n.areas
      → numbers levels (price_part levels (prices_part n levels (proposal_bytes n levels s prices)) area) ≡ slice_index_or prices area []
  -- and taken bytes come back from what they hold
  pub bytes_back : (n : Counts) (levels : ℕ) (bs : List ℕ) → Bytewise bs → proposal_answer n levels bs ≡ Ok tt
      → proposal_bytes n levels (selection_in n bs) (prices_in n levels bs) ≡ bs
  -- so no other bytes hold the same selection and prices
  pub only_one : (n : Counts) (levels : ℕ) (s : Selection) (prices : List (List ℤ)) (bs : List ℕ) → Bytewise bs → proposal_answer n levels bs ≡ Ok tt
      → selection_in n bs ≡ s → prices_in n levels bs ≡ prices → bs ≡ proposal_bytes n levels s prices
  -- the same bytes, with the prices' numbers in one list
  pub as_written : (n : Counts) (levels : ℕ) (s : Selection) (prices : List (List ℤ)) → Writable n levels s prices
      → proposal_bytes n levels s prices ≡ proposal_written levels s (all_levels prices)
