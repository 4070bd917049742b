-- The direction that a number stands for in a bid. Assumes nothing.
use Rattle.std.proofs.Common.{◌≡◌, ℕ, Bool, true, false, cond, eqb, Ok, Err, refl}
use Rattle.std.specs.Result.{result_unwrap_or}
use Rattle.market.specs.declared.trade.Direction.TheVariants.{Up, Down}
use Rattle.market.specs.declared.trade.UnknownDirection.{UnknownDirection}
use Rattle.market.specs.Directions.{direction_numbered}
use Rattle.records.specs.Records.{direction_of}

by_tests : (up down : Bool) (e : UnknownDirection) → result_unwrap_or (cond up (Ok Up) (cond down (Ok Down) (Err e))) Down ≡ cond up Up Down
by_tests true down e = refl
by_tests false true e = refl
by_tests false false e = refl

pub numbered_or_down : (n : ℕ) → result_unwrap_or (direction_numbered n) Down ≡ direction_of n
numbered_or_down n = by_tests (eqb n 0) (eqb n 1) (record { 0 = n })
