-- When one price for each area fits a selection.
--
--   at_least, at_most    the order of two values, equality allowed
--   at_limits            what an amount requires: below its upper limit one thing, above its lower limit another
--   demand_fits, border_fits, bid_fits
--                        the fitting rules, as tests
--   Fits                 prices in range that fit every demand, border and bid
use Rattle.std.specs.Prelude.{◌≡◌, ℕ, zero, suc, ◌<◌, Bool, true, not, ◌&&◌, ◌||◌, T, List, length, get_or, ℤ, pos, negsuc, neg_ℤ, int_lt, nat_lt, slice_index, slice_index_or}
use Rattle.scale.specs.Meaning.{Meaning}
use Rattle.market.specs.declared.trade.Direction.{Direction}
use Rattle.market.specs.declared.trade.Direction.TheVariants.{Up, Down}
use Rattle.market.specs.declared.trade.Border.{Border}
use Rattle.market.specs.declared.trade.Bid.{Bid}
use Rattle.market.specs.Cases.{Case, areas}
use Rattle.market.specs.Selections.{Selection}
use Rattle.market.specs.Totals.{bid_cost}

-- x ≥ y and x ≤ y
abbrev pub at_least : (m : Meaning) → m.Value → m.Value → Bool
at_least m x y = not (m.less x y)

abbrev pub at_most : (m : Meaning) → m.Value → m.Value → Bool
at_most m x y = not (m.less y x)

-- an amount below its upper limit requires one thing, and one above its lower limit another
abbrev pub at_limits : (below above : Bool) → (when_below when_above : Bool) → Bool
at_limits below above when_below when_above = (not below || when_below) && (not above || when_above)

-- t is the unit cost of satisfaction, p the price of the area. Demand 0 requires nothing.
-- Positive demand: below it t + p ≥ 0, above 0 t + p ≤ 0. Negative demand, by size: below it t ≥ p, above 0 t ≤ p.
abbrev pub demand_fits : (m : Meaning) → (demand satisfied : ℤ) → (p : m.Value) → Bool
demand_fits m (pos zero) x p = true
demand_fits m (pos (suc d)) x p =
    at_limits (int_lt x (pos (suc d))) (int_lt (pos 0) x)
    (at_least m (m.plus m.satisfied p) m.zero) (at_most m (m.plus m.satisfied p) m.zero)
demand_fits m (negsuc d) x p =
    at_limits (int_lt (negsuc d) x) (int_lt x (pos 0)) (at_least m m.satisfied p) (at_most m m.satisfied p)

-- Below the forward limit the price of the from area is at least the to area's; above minus the backward limit it is at most that.
abbrev pub border_fits : (m : Meaning) → Border → (flow : ℤ) → (from to : m.Value) → Bool
border_fits m b x from to =
    at_limits (int_lt x (pos b.forward)) (int_lt (neg_ℤ (pos b.backward)) x) (at_least m from to) (at_most m from to)

-- u is the bid's unit cost, p the price of its area. Up bid: below its volume u ≥ p, above 0 u ≤ p.
-- Down bid: below its volume u + p ≥ 0, above 0 u + p ≤ 0.
abbrev pub bid_priced : (m : Meaning) → Direction → (u p : m.Value) → (below above : Bool) → Bool
bid_priced m Up u p below above = at_limits below above (at_least m u p) (at_most m u p)
bid_priced m Down u p below above =
    at_limits below above (at_least m (m.plus u p) m.zero) (at_most m (m.plus u p) m.zero)

abbrev pub bid_fits : (m : Meaning) → Bid → (activated : ℕ) → (p : m.Value) → Bool
bid_fits m b x p =
    bid_priced m b.direction (bid_cost m b.direction b.price) p (nat_lt x b.volume) (nat_lt 0 x)

-- one price for each area, in range, that fits every demand, border and bid
pub record Fits (m : Meaning) (c : Case) (s : Selection) (prices : List m.Value) : Type 0 where
  pub prices_count : length prices ≡ areas c
  pub in_range : (a : ℕ) → a < areas c → T (m.in_range (slice_index_or prices a m.zero))
  pub demands : (a : ℕ) → a < areas c → T (demand_fits m (slice_index_or c.demands a (pos 0)) (slice_index_or s.satisfied a (pos 0)) (slice_index_or prices a m.zero))
  pub borders : (k : ℕ) (d : Border) → k < length c.borders →
      T (border_fits m (slice_index_or c.borders k d) (slice_index_or s.flows k (pos 0)) (slice_index_or prices (get_or c.borders k d).from m.zero) (slice_index_or prices (get_or c.borders k d).to m.zero))
  pub bids : (k : ℕ) (d : Bid) → k < length c.bids →
      T (bid_fits m (slice_index_or c.bids k d) (slice_index s.activated k) (slice_index_or prices (get_or c.bids k d).area m.zero))
