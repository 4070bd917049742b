-- What a cycle holds: a case and, once a submit was taken, the selection that stands.
--
--   State       a case, and the standing selection or none
--   fresh       no areas, borders, bids or standing selection
use Rattle.std.specs.Prelude.{[], None, Option}
use Rattle.market.specs.Cases.{Case, case_of}
use Rattle.market.specs.Selections.{Selection}

pub record State : Type 0 where
  pub case : Case
  pub standing : Option Selection

abbrev pub fresh : State
fresh = record { case = case_of [] [] []; standing = None }
