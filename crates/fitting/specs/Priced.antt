-- The prices that a proposal holds.
--
--   price_held    the price of an area on a scale, or none where it is out of range
use Rattle.std.specs.Prelude.{ℕ, Option}
use Rattle.scale.specs.Meaning.{Meaning}
use Rattle.scale.specs.Levels.{read_bytes}
use Rattle.layout.specs.declared.proposal.Proposal.{Proposal}
use Rattle.layout.specs.ProposalBytes.{price_part}
use Rattle.layout.specs.Sections.{prices_bytes, levels_of}

abbrev pub price_held : (m : Meaning) → Proposal → ℕ → Option m.Value
price_held m p area = read_bytes m (price_part (levels_of p) (prices_bytes p) area)
