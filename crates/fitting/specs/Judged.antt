-- What the fitting test answers: the first question on amounts, balances and prices that gets a no, or a yes.
--
--   satisfied_at, flow_at, activated_at
--                    the amount for an area, a border, a bid
--   OneForEach       a selection has one amount for each record of the case
--   prices_of        the prices of all areas
--   balances         what enters an area is what it has satisfied
--   demand_priced, border_priced, bid_priced
--                    the fitting rules where a price may be missing: a price out of range fits nothing
--   prices_judged    the questions on prices, in their order
--   judged           all questions in their order
use Rattle.std.specs.Prelude.{◌≡◌, ℕ, Bool, false, ◌&&◌, List, map, length, ℤ, pos, is_some, Some, None, Option, Result, int_le, slice_index, slice_index_or}
use Rattle.std.specs.List.{range_with_len}
use Rattle.std.specs.Option.{unwrap_or}
use Rattle.scale.specs.Meaning.{Meaning}
use Rattle.market.specs.declared.trade.Border.{Border}
use Rattle.market.specs.declared.trade.Bid.{Bid}
use Rattle.market.specs.declared.refusal.Refusal.{Refusal}
use Rattle.market.specs.declared.refusal.Refusal.TheVariants.{Satisfied, Flow, Activated, Balance, Price, DemandFit, BorderFit, BidFit}
use Rattle.market.specs.Cases.{Case, areas, demand_at, border_at, bid_at}
use Rattle.market.specs.Selections.{Selection, satisfied_allowed, flow_allowed, activated_allowed, net}
use Rattle.market.specs.Prices.{demand_fits, border_fits, bid_fits}
use Rattle.market.specs.First.{and_then, ask}

abbrev pub satisfied_at : Selection → ℕ → ℤ
satisfied_at s k = slice_index_or s.satisfied k (pos 0)

abbrev pub flow_at : Selection → ℕ → ℤ
flow_at s k = slice_index_or s.flows k (pos 0)

abbrev pub activated_at : Selection → ℕ → ℕ
activated_at s k = slice_index s.activated k

-- one amount for each area, border and bid of the case
pub record OneForEach (c : Case) (s : Selection) : Type 0 where
  pub satisfied_count : length s.satisfied ≡ areas c
  pub flows_count : length s.flows ≡ length c.borders
  pub activated_count : length s.activated ≡ length c.bids

-- the prices of all areas, with zero where one is missing
abbrev pub prices_of : (m : Meaning) → (price : ℕ → Option m.Value) → ℕ → List m.Value
prices_of m price n = map (λ a. unwrap_or (price a) m.zero) (range_with_len 0 n)

-- up minus down plus flows in minus flows out equals the satisfied amount
abbrev pub balances : Case → Selection → ℕ → Bool
balances c s a = int_le (net c s a) (satisfied_at s a) && int_le (satisfied_at s a) (net c s a)

abbrev pub demand_priced : (m : Meaning) → (demand satisfied : ℤ) → Option m.Value → Bool
demand_priced m d x None = false
demand_priced m d x (Some p) = demand_fits m d x p

abbrev pub border_priced : (m : Meaning) → Border → (flow : ℤ) → (from to : Option m.Value) → Bool
border_priced m b x None to = false
border_priced m b x (Some p) None = false
border_priced m b x (Some p) (Some q) = border_fits m b x p q

abbrev pub bid_priced : (m : Meaning) → Bid → (activated : ℕ) → Option m.Value → Bool
bid_priced m b x None = false
bid_priced m b x (Some p) = bid_fits m b x p

-- the questions on prices, and then all of them
abbrev pub prices_judged : (m : Meaning) → Case → Selection → (price : ℕ → Option m.Value) → Result (Unit {0}) Refusal
prices_judged m c s price =
    and_then (ask (λ a. is_some (price a)) (areas c) Price)
    (and_then (ask (λ a. demand_priced m (demand_at c a) (satisfied_at s a) (price a)) (areas c) DemandFit)
    (and_then (ask (λ k. border_priced m (border_at c k) (flow_at s k) (price (border_at c k).from) (price (border_at c k).to)) (length c.borders) BorderFit)
    (ask (λ k. bid_priced m (bid_at c k) (activated_at s k) (price (bid_at c k).area)) (length c.bids) BidFit)))

abbrev pub judged : (m : Meaning) → Case → Selection → (price : ℕ → Option m.Value) → Result (Unit {0}) Refusal
judged m c s price =
    and_then (ask (λ a. satisfied_allowed (demand_at c a) (satisfied_at s a)) (areas c) Satisfied)
    (and_then (ask (λ k. flow_allowed (border_at c k) (flow_at s k)) (length c.borders) Flow)
    (and_then (ask (λ k. activated_allowed (bid_at c k) (activated_at s k)) (length c.bids) Activated)
    (and_then (ask (balances c s) (areas c) Balance)
    (and_then (ask (λ a. is_some (price a)) (areas c) Price)
    (and_then (ask (λ a. demand_priced m (demand_at c a) (satisfied_at s a) (price a)) (areas c) DemandFit)
    (and_then (ask (λ k. border_priced m (border_at c k) (flow_at s k) (price (border_at c k).from) (price (border_at c k).to)) (length c.borders) BorderFit)
    (ask (λ k. bid_priced m (bid_at c k) (activated_at s k) (price (bid_at c k).area)) (length c.bids) BidFit)))))))
