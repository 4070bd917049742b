use Rattle.optimality.proofs.FittingIsUnbeaten.{fitting_is_unbeaten}
use Rattle.optimality.proofs.fitting_prices_leave_no_better.Goals as goal

pub returns : goal.returns
returns g c = record { fitting_is_unbeaten = fitting_is_unbeaten g.S.Scale.meaning g.met.S.Scale.lawful }
