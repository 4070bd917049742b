-- The number of a direction.
--
--   direction_number     0 for up, 1 for down
--   direction_numbered   the direction with a number, or the number that no direction has
use Rattle.std.specs.Prelude.{ℕ, cond, Ok, Err, Result, ◌==◌}
use Rattle.market.specs.declared.trade.Direction.{Direction}
use Rattle.market.specs.declared.trade.Direction.TheVariants.{Up, Down}
use Rattle.market.specs.declared.trade.UnknownDirection.{UnknownDirection}

abbrev pub direction_number : Direction → ℕ
direction_number Up = 0
direction_number Down = 1

abbrev pub direction_numbered : ℕ → Result Direction UnknownDirection
direction_numbered n = cond (n == 0) (Ok Up) (cond (n == 1) (Ok Down) (Err (record { 0 = n })))
