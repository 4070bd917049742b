-- The totals of what stands.
--
--   totals_of          satisfied by size, activated, netted, cost
--   standing_totals    the totals of the standing selection, or none
use Rattle.std.specs.Prelude.{Some, None, Option}
use Rattle.market.specs.Cases.{Case}
use Rattle.market.specs.Selections.{Selection}
use Rattle.listing.specs.declared.total.Totals.{Totals}
use Rattle.listing.specs.Figures.{satisfied_sum, activated_sum, netted, cost}
use Rattle.cycle.specs.States.{State}

abbrev pub totals_of : Case → Selection → Totals
totals_of c s = record { satisfied = satisfied_sum s; activated = activated_sum s; netted = netted s; cost = cost c s }

abbrev pub totals_if : Case → Option Selection → Option Totals
totals_if c None = None
totals_if c (Some s) = Some (totals_of c s)

abbrev pub standing_totals : State → Option Totals
standing_totals st = totals_if st.case st.standing
