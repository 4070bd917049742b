-- Calls with their arguments, and what they answer.
--
--   Sent           a call and its arguments, by value
--   sent           what a call of the code sends
--   Answer         what a call answers: the amount of a taken read, none for any other taken call, or the refusal
--   taken          whether an answer says that the call was taken
--   told, told_amount
--                  the answer of a call that gives nothing back, and that of a read
--   amount_of      the amount of a selection for an area, border or bid
--   read_answer    what a read answers
use Rattle.std.specs.Prelude.{ℕ, Bool, true, false, cond, List, length, ℤ, pos, Some, None, Ok, Err, Option, Result, nat_lt, slice_index, slice_index_or}
use Rattle.market.specs.declared.refusal.Refusal.{Refusal}
use Rattle.market.specs.declared.refusal.Refusal.TheVariants.{Unknown, NothingStands}
use Rattle.market.specs.Cases.{Case, areas}
use Rattle.market.specs.Selections.{Selection}
use Rattle.cycle.specs.declared.calls.Item.{Item}
use Rattle.cycle.specs.declared.calls.Item.TheVariants.{Area, Border, Bid}
use Rattle.cycle.specs.declared.calls.Call.{Call}
use Rattle.cycle.specs.declared.calls.Call.TheVariants.{Load, Revise, Limit, Withdraw, Submit, Read}

pub data Sent : Type 0 where
  load : (bytes : List ℕ) → Sent
  revise : (area : ℕ) → (demand : ℤ) → Sent
  limit : (border forward backward : ℕ) → Sent
  withdraw : (bid : ℕ) → Sent
  submit : (bytes : List ℕ) → Sent
  read : (item : Item) → Sent

abbrev pub sent : Call → Sent
sent (Load bytes) = load bytes.now
sent (Revise area demand) = revise area demand
sent (Limit border forward backward) = limit border forward backward
sent (Withdraw bid) = withdraw bid
sent (Submit bytes) = submit bytes.now
sent (Read item) = read item

abbrev pub Answer : Type 0
Answer = Result (Option ℤ) Refusal

abbrev pub taken : Answer → Bool
taken (Ok amount) = true
taken (Err refusal) = false

abbrev pub told : Result (Unit {0}) Refusal → Answer
told (Ok u) = Ok None
told (Err refusal) = Err refusal

abbrev pub told_amount : Result ℤ Refusal → Answer
told_amount (Ok x) = Ok (Some x)
told_amount (Err refusal) = Err refusal

-- the number by which an area, border or bid is named, whether the case has it, and its amount in a selection
abbrev pub number_of : Item → ℕ
number_of (Area k) = k
number_of (Border k) = k
number_of (Bid k) = k

abbrev pub known : Case → Item → Bool
known c (Area k) = nat_lt k (areas c)
known c (Border k) = nat_lt k (length c.borders)
known c (Bid k) = nat_lt k (length c.bids)

abbrev pub amount_of : Selection → Item → ℤ
amount_of s (Area k) = slice_index_or s.satisfied k (pos 0)
amount_of s (Border k) = slice_index_or s.flows k (pos 0)
amount_of s (Bid k) = pos (slice_index s.activated k)

-- is it in the cycle, and does a selection stand? then its amount
abbrev pub read_standing : Option Selection → Item → Result ℤ Refusal
read_standing None item = Err NothingStands
read_standing (Some s) item = Ok (amount_of s item)

abbrev pub read_answer : Case → Option Selection → Item → Result ℤ Refusal
read_answer c standing item = cond (known c item) (read_standing standing item) (Err (Unknown (number_of item)))
