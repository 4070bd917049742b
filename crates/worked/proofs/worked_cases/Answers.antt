use Rattle.std.proofs.Common.{refl}
use Rattle.worked.proofs.worked_cases.Goals as goal

pub returns : goal.returns
returns c = record { every_row = (refl, (refl, (refl, (refl, (refl, (refl, (refl, (refl, (refl, (refl, tt)))))))))) }
