-- What a candidate holds.
--
--   case         the case of its book
--   selection    the amounts of its proposal
--   price        the price of an area on a scale, or none where it is out of range
use Rattle.std.specs.Prelude.{ℕ, Option}
use Rattle.scale.specs.Meaning.{Meaning}
use Rattle.market.specs.Cases.{Case}
use Rattle.market.specs.Selections.{Selection}
use Rattle.market.specs.Held.{held}
use Rattle.layout.specs.Sections.{selection_held}
use Rattle.fitting.specs.Priced.{price_held}
use Rattle.fitting.specs.declared.candidate.Candidate.{Candidate}

abbrev pub case : Candidate → Case
case c = held c.book.now

abbrev pub selection : Candidate → Selection
selection c = selection_held c.proposal.now

abbrev pub price : (m : Meaning) → Candidate → ℕ → Option m.Value
price m c a = price_held m c.proposal.now a
