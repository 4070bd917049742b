-- Of the selections within the limits, the unbeaten ones are exactly those that some prices fit. Assumes nothing.
use Rattle.scale.specs.Meaning.{Meaning, Laws}
use Rattle.optimality.specs.Theorem.{UnbeatenExactlyWhenPricesFit}
use Rattle.optimality.proofs.FittingIsUnbeaten.{fitting_is_unbeaten}
use Rattle.optimality.proofs.UnbeatenHasPrices.{unbeaten_has_prices}

pub unbeaten_exactly_when_prices_fit : (m : Meaning) → Laws m → UnbeatenExactlyWhenPricesFit m
unbeaten_exactly_when_prices_fit m laws c valid s within =
    (unbeaten_has_prices m laws c valid s, fitting_is_unbeaten m laws c valid s within)
