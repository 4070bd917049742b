-- The promise over any sequence of calls, in the words of the trade.
--
--   Step              a call and what it answered
--   History           the steps so far on one cycle, the newest first
--   in_force          the case whose limits are in force: what the taken calls made of it
--   last_taken        the last taken call, reads apart
--   standing          what stands: the selection of the last taken call, where that was a submit
--   by_the_rules      what the rules answer to a call after a history
--   Lawful            every answer in the history is the rules'
--   sent_with         the bytes of a proposal of a selection with prices
--   LetTaken          some prices in range, sent with a selection, let submit take it
--   Sound             what stands is unbeaten, and just the unbeaten selections have prices that let submit take them
--   Throughout        that after every call so far
--   Kept              the promise
use Rattle.std.specs.Prelude.{◌≡◌, ℕ, ◌≤◌, cond, T, List, [], ◌∷◌, map, length, Some, None, Ok, Option}
use Rattle.std.specs.List.{AllByRecursion}
use Rattle.scale.specs.Meaning.{Meaning}
use Rattle.market.specs.Cases.{Case, case_of, areas}
use Rattle.market.specs.Changes.{revised, limited, withdrawn}
use Rattle.market.specs.Selections.{Selection, WithinLimits}
use Rattle.market.specs.Totals.{Unbeaten}
use Rattle.layout.specs.CaseBytes.{case_in}
use Rattle.layout.specs.ProposalBytes.{counts_of, proposal_bytes}
use Rattle.cycle.specs.Sent.{Sent, Answer, load, revise, limit, withdraw, submit, read, taken}
use Rattle.cycle.specs.Calls.{answer_to, proposed}

pub record Step : Type 0 where
  pub call : Sent
  pub answer : Answer

abbrev pub History : Type 0
History = List Step

-- what a taken call makes of the case
abbrev pub made_of : Sent → Case → Case
made_of (load bytes) c = case_in bytes
made_of (revise area demand) c = revised c area demand
made_of (limit border forward backward) c = limited c border forward backward
made_of (withdraw bid) c = withdrawn c bid
made_of (submit bytes) c = c
made_of (read item) c = c

-- a fresh cycle has no areas, borders or bids; a refused call changes nothing
abbrev pub in_force : History → Case
in_force [] = case_of [] [] []
in_force (step ∷ earlier) = cond (taken step.answer) (made_of step.call (in_force earlier)) (in_force earlier)

-- a read is passed over, any other call counts
abbrev pub unless_read : Sent → Option Sent → Option Sent
unless_read (load bytes) before = Some (load bytes)
unless_read (revise area demand) before = Some (revise area demand)
unless_read (limit border forward backward) before = Some (limit border forward backward)
unless_read (withdraw bid) before = Some (withdraw bid)
unless_read (submit bytes) before = Some (submit bytes)
unless_read (read item) before = before

abbrev pub last_taken : History → Option Sent
last_taken [] = None
last_taken (step ∷ earlier) = cond (taken step.answer) (unless_read step.call (last_taken earlier)) (last_taken earlier)

-- a submit leaves its proposal's selection standing, any other call nothing
abbrev pub left_by : Case → Sent → Option Selection
left_by c (load bytes) = None
left_by c (revise area demand) = None
left_by c (limit border forward backward) = None
left_by c (withdraw bid) = None
left_by c (submit bytes) = Some (proposed c bytes)
left_by c (read item) = None

abbrev pub standing_by : Case → Option Sent → Option Selection
standing_by c None = None
standing_by c (Some call) = left_by c call

abbrev pub standing : History → Option Selection
standing h = standing_by (in_force h) (last_taken h)

-- what the rules answer to a call after these steps
abbrev pub by_the_rules : (m : Meaning) → History → Sent → Answer
by_the_rules m earlier call = answer_to m (record { case = in_force earlier; standing = standing earlier }) call

-- each answer is the one that the rules give after the steps before it
abbrev pub Lawful : (m : Meaning) → History → Type 0
Lawful m [] = Unit {0}
Lawful m (step ∷ earlier) = (step.answer ≡ by_the_rules m earlier step.call) × Lawful m earlier

-- the bytes of a selection with one price for each area
abbrev pub sent_with : (m : Meaning) → Case → Selection → List m.Value → List ℕ
sent_with m c s prices = proposal_bytes (counts_of c) m.levels s (map m.written prices)

-- some prices in range, one for each area, sent with the selection as the next call, let submit take it
pub record LetTaken (m : Meaning) (h : History) (s : Selection) : Type 0 where
  pub prices : List m.Value
  pub one_for_each : length prices ≡ areas (in_force h)
  pub in_range : AllByRecursion (λ v. T (m.in_range v)) prices
  pub taken : by_the_rules m h (submit (sent_with m (in_force h) s prices)) ≡ Ok None

-- what holds after a history
pub record Sound (m : Meaning) (h : History) : Type 0 where
  -- what stands is within the limits in force, and nothing beats it
  pub unbeaten : (s : Selection) → standing h ≡ Some s → Unbeaten m (in_force h) s
  -- a selection within the limits in force is unbeaten exactly when some prices, sent with it, let submit take it;
  -- a pair of more than 16 levels is no scale, and reads no price
  pub has_prices : m.levels ≤ 16 → (s : Selection) → Unbeaten m (in_force h) s → LetTaken m h s
  pub prices_suffice : (s : Selection) → WithinLimits (in_force h) s → LetTaken m h s → Unbeaten m (in_force h) s

-- after a history and after every earlier part of it
abbrev pub Throughout : (m : Meaning) → History → Type 0
Throughout m [] = Sound m []
Throughout m (step ∷ earlier) = Sound m (step ∷ earlier) × Throughout m earlier

-- the promise: every call was taken or refused, and every read answered, as the rules say; and all that holds throughout
pub record Kept (m : Meaning) (h : History) : Type 0 where
  pub lawful : Lawful m h
  pub sound : Throughout m h
