-- A case, and the bounds and ranges that it keeps.
--
--   Case            the areas' demands, the borders and the bids, each numbered from 0 by its place
--   demand_at, border_at, bid_at
--                   the record at a place
--   demand_in_range, ends_known, limits_in_range, bid_known, bid_in_range
--                   what each record owes, as tests
--   Valid           the case is within its bounds, and every record keeps its range
use Rattle.std.specs.Prelude.{ℕ, ◌≤◌, Bool, not, ◌&&◌, T, List, length, ℤ, pos, negsuc, ◌==◌, int_le, nat_le, nat_lt, slice_index_or}
use Rattle.std.specs.List.{AllByRecursion}
use Rattle.market.specs.declared.trade.Border.{Border}
use Rattle.market.specs.declared.trade.Bid.{Bid}
use Rattle.market.specs.declared.trade.Direction.TheVariants.{Up}

pub record Case : Type 0 where
  pub demands : List ℤ
  pub borders : List Border
  pub bids : List Bid

abbrev pub case_of : List ℤ → List Border → List Bid → Case
case_of demands borders bids = record { demands = demands; borders = borders; bids = bids }

-- what stands where there is no record
abbrev pub no_border : Border
no_border = record { from = 0; to = 0; forward = 0; backward = 0 }

abbrev pub no_bid : Bid
no_bid = record { area = 0; direction = Up; volume = 0; price = pos 0 }

abbrev pub demand_at : Case → ℕ → ℤ
demand_at c k = slice_index_or c.demands k (pos 0)

abbrev pub border_at : Case → ℕ → Border
border_at c k = slice_index_or c.borders k no_border

abbrev pub bid_at : Case → ℕ → Bid
bid_at c k = slice_index_or c.bids k no_bid

abbrev pub areas : Case → ℕ
areas c = length c.demands

-- a demand lies from -20,000,000 to 20,000,000 kW
abbrev pub demand_in_range : ℤ → Bool
demand_in_range d = int_le (negsuc 19999999) d && int_le d (pos 20000000)

-- both ends of a border are areas of the case, and different ones
abbrev pub ends_known : ℕ → Border → Bool
ends_known n b = nat_lt b.from n && (nat_lt b.to n && not (b.from == b.to))

-- a border's limits are at most 20,000,000 kW
abbrev pub limits_in_range : Border → Bool
limits_in_range b = nat_le b.forward 20000000 && nat_le b.backward 20000000

-- a bid's area is one of the case
abbrev pub bid_known : ℕ → Bid → Bool
bid_known n b = nat_lt b.area n

-- a bid's volume is at most 9,999,000 kW, and its price lies from -9,999,900 to 9,999,900 cents per MWh
abbrev pub bid_in_range : Bid → Bool
bid_in_range b = nat_le b.volume 9999000 && (int_le (negsuc 9999899) b.price && int_le b.price (pos 9999900))

-- at most 48 areas, 128 borders and 1,024 bids, each within its range
pub record Valid (c : Case) : Type 0 where
  pub few_areas : length c.demands ≤ 48
  pub few_borders : length c.borders ≤ 128
  pub few_bids : length c.bids ≤ 1024
  pub demands_in_range : AllByRecursion (λ d. T (demand_in_range d)) c.demands
  pub borders_known : AllByRecursion (λ b. T (ends_known (areas c) b)) c.borders
  pub borders_in_range : AllByRecursion (λ b. T (limits_in_range b)) c.borders
  pub bids_known : AllByRecursion (λ b. T (bid_known (areas c) b)) c.bids
  pub bids_in_range : AllByRecursion (λ b. T (bid_in_range b)) c.bids
