-- The unit costs of the three single scales are bounded.
--
--   satisfaction_bounded, volume_bounded, money_bounded    one for each
use Rattle.std.proofs.Common.{arith, lit<}
use Rattle.std.proofs.lemmas.Int.{ints}
use Rattle.scale.specs.Single.{satisfaction_most, satisfaction, volume_most, volume, money_most, money}
use Rattle.scale.specs.Singles.{Bounded, within}

pub satisfaction_bounded : Bounded satisfaction_most satisfaction.satisfied satisfaction.up satisfaction.down
satisfaction_bounded = record { of_satisfied = within tt tt; of_up = λ _ _. within tt tt; of_down = λ _ _. within tt tt; fits = lit< tt }

pub volume_bounded : Bounded volume_most volume.satisfied volume.up volume.down
volume_bounded = record { of_satisfied = within tt tt; of_up = λ _ _. within tt tt; of_down = λ _ _. within tt tt; fits = lit< tt }

pub money_bounded : Bounded money_most money.satisfied money.up money.down
money_bounded = record {
  of_satisfied = within tt tt;
  of_up = λ _ h. record { least = omega (arith, ints); most = omega (arith, ints) };
  of_down = λ _ h. record { least = omega (arith, ints); most = omega (arith, ints) };
  fits = lit< tt;
}
