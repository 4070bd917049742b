-- What prices prove of a selection, on any scale m.
--
--   FittingIsUnbeaten               a selection within the limits that some prices fit is unbeaten
--   UnbeatenHasPrices               every unbeaten selection has prices, in range, that fit it
--   UnbeatenExactlyWhenPricesFit    both: of the selections within the limits, the unbeaten ones are those that some prices fit
use Rattle.std.specs.Prelude.{List}
use Rattle.scale.specs.Meaning.{Meaning}
use Rattle.market.specs.Cases.{Case, Valid}
use Rattle.market.specs.Selections.{Selection, WithinLimits}
use Rattle.market.specs.Totals.{Unbeaten}
use Rattle.market.specs.Prices.{Fits}

abbrev pub FittingIsUnbeaten : Meaning → Type 0
FittingIsUnbeaten m =
    (c : Case) → Valid c → (s : Selection) → WithinLimits c s → (prices : List m.Value) → Fits m c s prices → Unbeaten m c s

abbrev pub UnbeatenHasPrices : Meaning → Type 0
UnbeatenHasPrices m =
    (c : Case) → Valid c → (s : Selection) → Unbeaten m c s → (prices : List m.Value) × Fits m c s prices

-- left to right, and right to left
abbrev pub UnbeatenExactlyWhenPricesFit : Meaning → Type 0
UnbeatenExactlyWhenPricesFit m =
    (c : Case) → Valid c → (s : Selection) → WithinLimits c s →
    (Unbeaten m c s → (prices : List m.Value) × Fits m c s prices) × ((prices : List m.Value) → Fits m c s prices → Unbeaten m c s)
