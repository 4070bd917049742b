-- Two tests at once.
--
--   both                   both pass, where each does
--   first_of, second_of    each passes, where both do
use Rattle.std.specs.Prelude.{Bool, true, false, ◌&&◌, T}

pub both : (x y : Bool) → T x → T y → T (x && y)
both true y p q = q
both false y p q = p

pub first_of : (x y : Bool) → T (x && y) → T x
first_of true y p = tt
first_of false y p = p

pub second_of : (x y : Bool) → T (x && y) → T y
second_of true y p = p
second_of false y p = absurd p
