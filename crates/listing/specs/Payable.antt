-- When amounts can be paid for within 64 bits.
--
--   Payable    one amount for each of at most 1,024 bids, within the volumes and prices of a case
use Rattle.std.specs.Prelude.{◌≡◌, ℕ, ◌<◌, ◌≤◌, T, List, length, slice_index, slice_index_or}
use Rattle.market.specs.declared.trade.Bid.{Bid}
use Rattle.market.specs.Cases.{bid_in_range}

pub record Payable (bids : List Bid) (amounts : List ℕ) : Type 0 where
  pub counts : length amounts ≡ length bids
  pub few : length bids ≤ 1024
  pub prices : (k : ℕ) (d : Bid) → k < length bids → T (bid_in_range (slice_index_or bids k d))
  pub volumes : (k : ℕ) → k < length bids → slice_index amounts k ≤ 9999000
