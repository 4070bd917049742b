-- The proposal of a selection and its prices.
--
--   Proposes        bytes are a proposal of a selection with prices, for a case and on a scale
--   OneProposal     a selection within the limits and prices in range make exactly one proposal
use Rattle.std.specs.Prelude.{◌≡◌, ℕ, ◌<◌, ◌≤◌, T, List, length, Some, Ok, slice_index_or}
use Rattle.std.specs.List.{AllByRecursion}
use Rattle.scale.specs.Meaning.{Meaning}
use Rattle.market.specs.Cases.{Case, Valid, areas}
use Rattle.market.specs.Selections.{Selection, WithinLimits}
use Rattle.layout.specs.Exact.{Bytewise}
use Rattle.layout.specs.ProposalBytes.{counts_of, proposal_answer}
use Rattle.cycle.specs.Calls.{proposed, price_in}
use Rattle.history.specs.Histories.{sent_with}

-- the questions on bytes get a yes, and the bytes hold the selection and each area's price
pub record Proposes (m : Meaning) (c : Case) (s : Selection) (prices : List m.Value) (bs : List ℕ) : Type 0 where
  pub taken : proposal_answer (counts_of c) m.levels bs ≡ Ok tt
  pub selection : proposed c bs ≡ s
  pub each_price : (area : ℕ) → area < areas c → price_in m c bs area ≡ Some (slice_index_or prices area m.zero)

-- on every scale of at most 16 levels, for every valid case
pub record OneProposal (m : Meaning) : Type 0 where
  pub there_is_one : m.levels ≤ 16 → (c : Case) → Valid c → (s : Selection) → WithinLimits c s → (prices : List m.Value) → length prices ≡ areas c → AllByRecursion (λ v. T (m.in_range v)) prices
      → Proposes m c s prices (sent_with m c s prices)
  pub no_other : m.levels ≤ 16 → (c : Case) → (s : Selection) → (prices : List m.Value) → length prices ≡ areas c
      → (bs : List ℕ) → Bytewise bs → Proposes m c s prices bs → bs ≡ sent_with m c s prices
