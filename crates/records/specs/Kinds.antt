-- The number of a kind.
--
--   kind_number     1 for a case, 2 for a proposal
use Rattle.std.specs.Prelude.{ℕ}
use Rattle.records.specs.declared.kind.Kind.{Kind}
use Rattle.records.specs.declared.kind.Kind.TheVariants.{Case, Proposal}

abbrev pub kind_number : Kind → ℕ
kind_number Case = 1
kind_number Proposal = 2
