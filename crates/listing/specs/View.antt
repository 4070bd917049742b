-- What memory holds.
--
--   text_of               the bytes of a text
--   room_of               the bytes that its memory has room for
--   case_in, selection_in
--                         the case and the selection that stand
use Rattle.std.specs.Prelude.{ℕ, List, vec_items, vec_capacity}
use Rattle.market.specs.declared.settled.Settled.{Settled}
use Rattle.market.specs.Cases.{Case}
use Rattle.market.specs.Selections.{Selection}
use Rattle.market.specs.Held.{held, selected}
use Rattle.listing.specs.declared.text.Text.{Text}

abbrev pub text_of : Text → List ℕ
text_of t = vec_items t.bytes

abbrev pub room_of : Text → ℕ
room_of t = vec_capacity t.bytes

abbrev pub case_in : Settled → Case
case_in s = held s.book.now

abbrev pub selection_in : Settled → Selection
selection_in s = selected s.amounts.now
