-- The records of a case, as their bytes give them.
--
--   direction_of       the direction that a number stands for in a bid
--   direction_number   a direction as a number
--   border_of, bid_of  a border, and a bid
--   raw_direction      the direction that a bid's bytes give, or the number there that no direction has
use Rattle.std.specs.Prelude.{ℕ, cond, List, Result, ◌==◌}
use Rattle.scale.specs.Levels.{little_endian}
use Rattle.market.specs.declared.trade.Direction.{Direction}
use Rattle.market.specs.declared.trade.Direction.TheVariants.{Up, Down}
use Rattle.market.specs.declared.trade.UnknownDirection.{UnknownDirection}
use Rattle.market.specs.declared.trade.Border.{Border}
use Rattle.market.specs.declared.trade.Bid.{Bid}
use Rattle.market.specs.Directions.{direction_numbered}
pub use Rattle.market.specs.Directions.{direction_number}
use Rattle.records.specs.Bytes.{part, signed_word}

-- 0 is up; 1 is down, and so is read what no direction has
abbrev pub direction_of : ℕ → Direction
direction_of n = cond (n == 0) Up Down

-- a border is from and to (2 bytes each), forward and backward limit (4 each)
abbrev pub border_of : List ℕ → Border
border_of bs = record {
  from = little_endian (part 0 2 bs);
  to = little_endian (part 2 2 bs);
  forward = little_endian (part 4 4 bs);
  backward = little_endian (part 8 4 bs);
}

-- a bid is area and direction (2 bytes each), volume (4), price (4, signed)
abbrev pub bid_of : List ℕ → Bid
bid_of bs = record {
  area = little_endian (part 0 2 bs);
  direction = direction_of (little_endian (part 2 2 bs));
  volume = little_endian (part 4 4 bs);
  price = signed_word (part 8 4 bs);
}

abbrev pub raw_direction : List ℕ → Result Direction UnknownDirection
raw_direction bs = direction_numbered (little_endian (part 2 2 bs))
