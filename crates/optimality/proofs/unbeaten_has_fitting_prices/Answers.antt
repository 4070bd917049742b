use Rattle.optimality.proofs.UnbeatenHasPrices.{unbeaten_has_prices}
use Rattle.optimality.proofs.unbeaten_has_fitting_prices.Goals as goal

pub returns : goal.returns
returns g c = record { unbeaten_has_prices = unbeaten_has_prices g.S.Scale.meaning g.met.S.Scale.lawful }
