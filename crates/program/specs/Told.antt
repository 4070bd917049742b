-- What is left of an answer when its trouble has been told of.
--
--   told    the value, or that it has been told of
use Rattle.std.specs.Prelude.{Ok, Err, Result}
use Rattle.program.specs.declared.Told.{Told}

abbrev pub told : {T E : Type 0} → Result T E → Result T Told
told (Ok value) = Ok value
told (Err trouble) = Err (record {})
