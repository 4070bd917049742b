-- The unit costs of this scale are bounded.
use Rattle.std.proofs.Common.{arith, lit<}
use Rattle.std.proofs.lemmas.Int.{ints}
use Rattle.scale.specs.Singles.{Bounded, within}
use Rattle.scale_example.specs.Mills.{mills_most, mills}

pub mills_bounded : Bounded mills_most mills.satisfied mills.up mills.down
mills_bounded = record {
  of_satisfied = within tt tt;
  of_up = λ _ h. record { least = omega (arith, ints); most = omega (arith, ints) };
  of_down = λ _ h. record { least = omega (arith, ints); most = omega (arith, ints) };
  fits = lit< tt;
}
