-- What an amount at its limits requires of the order of two costs.
--
--   settles    below the upper limit the first is at least the second; above the lower limit it is at most that
use Rattle.std.specs.Prelude.{Bool, true, not}
use Rattle.std.specs.declared.cmp.Ordering.TheVariants.{Less, Equal, Greater}
use Rattle.std.specs.declared.cmp.Ordering.{Ordering}

abbrev pub settles : (below above : Bool) → Ordering → Bool
settles below above Less = not below
settles below above Equal = true
settles below above Greater = not above
