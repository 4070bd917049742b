-- The case and the selection that memory holds.
--
--   held        the case in a book
--   selected    the selection in the amounts
use Rattle.std.specs.Prelude.{vec_items}
use Rattle.market.specs.declared.book.Book.{Book}
use Rattle.market.specs.declared.book.Amounts.{Amounts}
use Rattle.market.specs.Cases.{Case, case_of}
use Rattle.market.specs.Selections.{Selection}

abbrev pub held : Book → Case
held b = case_of (vec_items b.demands) (vec_items b.borders) (vec_items b.bids)

abbrev pub selected : Amounts → Selection
selected a = record { satisfied = vec_items a.satisfied; flows = vec_items a.flows; activated = vec_items a.activated }
