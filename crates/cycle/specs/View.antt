-- Which state a cycle stands for.
--
--   standing_of    the selection in the amounts, where one stands
--   state_of       the case in the book, and what stands
--   view           the state of a cycle, in either phase
use Rattle.std.specs.Prelude.{Bool, cond, Some, None, Option}
use Rattle.market.specs.Held.{held, selected}
use Rattle.market.specs.Selections.{Selection}
use Rattle.market.specs.declared.book.Amounts.{Amounts}
use Rattle.cycle.specs.declared.holdings.Holdings.{Holdings}
use Rattle.cycle.specs.declared.cycle.Cycle.{Cycle}
use Rattle.cycle.specs.States.{State}

abbrev pub standing_of : Bool → Amounts → Option Selection
standing_of stands amounts = cond stands (Some (selected amounts)) None

abbrev pub state_of : Holdings → State
state_of h = record { case = held h.book; standing = standing_of h.stands h.amounts }

abbrev pub view : {S P : Type 0} → Cycle S P → State
view c = state_of c.holdings
