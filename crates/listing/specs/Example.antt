-- A worked case: two areas, a border between them, an up bid and a down bid.
--
--   example_case         demands 80 and -120, limits 50 and 50, 100 up at 3,000 in area 0, 150 down at 5,000 in area 1
--   example_selection    all satisfied, a flow of -50, 30 up and 70 down
use Rattle.std.specs.Prelude.{[], ◌∷◌, pos, negsuc}
use Rattle.market.specs.declared.trade.Direction.TheVariants.{Up, Down}
use Rattle.market.specs.Cases.{Case, case_of}
use Rattle.market.specs.Selections.{Selection}

abbrev pub example_case : Case
example_case =
    case_of (pos 80 ∷ (negsuc 119 ∷ []))
    (record { from = 0; to = 1; forward = 50; backward = 50 } ∷ [])
    (record { area = 0; direction = Up; volume = 100; price = pos 3000 } ∷ (record { area = 1; direction = Down; volume = 150; price = pos 5000 } ∷ []))

abbrev pub example_selection : Selection
example_selection = record { satisfied = pos 80 ∷ (negsuc 119 ∷ []); flows = negsuc 49 ∷ []; activated = 30 ∷ (70 ∷ []) }
