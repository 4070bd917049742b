use Rattle.optimality.proofs.Exactly.{unbeaten_exactly_when_prices_fit}
use Rattle.optimality.proofs.unbeaten_exactly_when_prices_fit.Goals as goal

pub returns : goal.returns
returns g c = record { exactly = unbeaten_exactly_when_prices_fit g.S.Scale.meaning g.met.S.Scale.lawful }
