-- Changes of a case while a cycle is open: what each answers, and the case afterwards.
--
--   revise_answer, revised      an area's demand is set
--   limit_answer, limited       a border's two limits are set
--   withdraw_answer, withdrawn  a bid's volume becomes 0
use Rattle.std.specs.Prelude.{ℕ, length, ℤ, Result, nat_lt, slice_set}
use Rattle.market.specs.declared.trade.Border.{Border}
use Rattle.market.specs.declared.trade.Bid.{Bid}
use Rattle.market.specs.declared.refusal.Refusal.{Refusal}
use Rattle.market.specs.declared.refusal.Refusal.TheVariants.{Demand, Limits, Unknown}
use Rattle.market.specs.Cases.{Case, case_of, areas, border_at, bid_at, demand_in_range, limits_in_range}
use Rattle.market.specs.First.{and_then, ask_one}

-- is the area in the cycle, and is the demand in range?
abbrev pub revise_answer : Case → (area : ℕ) → (demand : ℤ) → Result (Unit {0}) Refusal
revise_answer c area demand =
    and_then (ask_one (nat_lt area (areas c)) (Unknown area)) (ask_one (demand_in_range demand) (Demand area))

abbrev pub revised : Case → (area : ℕ) → (demand : ℤ) → Case
revised c area demand = case_of (slice_set c.demands area demand) c.borders c.bids

-- the border with other limits
abbrev pub with_limits : Border → (forward backward : ℕ) → Border
with_limits b forward backward = record { from = b.from; to = b.to; forward = forward; backward = backward }

-- is the border in the cycle, and are the limits in range?
abbrev pub limit_answer : Case → (border forward backward : ℕ) → Result (Unit {0}) Refusal
limit_answer c border forward backward =
    and_then (ask_one (nat_lt border (length c.borders)) (Unknown border))
    (ask_one (limits_in_range (with_limits (border_at c border) forward backward)) (Limits border))

abbrev pub limited : Case → (border forward backward : ℕ) → Case
limited c border forward backward =
    case_of c.demands (slice_set c.borders border (with_limits (border_at c border) forward backward)) c.bids

-- the bid with nothing offered
abbrev pub emptied : Bid → Bid
emptied b = record { area = b.area; direction = b.direction; volume = 0; price = b.price }

-- is the bid in the cycle?
abbrev pub withdraw_answer : Case → (bid : ℕ) → Result (Unit {0}) Refusal
withdraw_answer c bid = ask_one (nat_lt bid (length c.bids)) (Unknown bid)

abbrev pub withdrawn : Case → (bid : ℕ) → Case
withdrawn c bid = case_of c.demands c.borders (slice_set c.bids bid (emptied (bid_at c bid)))
