-- Two tests at once. Assumes nothing.
use Rattle.std.proofs.Common.{Bool, true, false, ◌&&◌, T}

pub first_of : (x y : Bool) → T (x && y) → T x
first_of true y p = tt
first_of false y p = p

pub second_of : (x y : Bool) → T (x && y) → T y
second_of true y p = p
second_of false y p = absurd p
