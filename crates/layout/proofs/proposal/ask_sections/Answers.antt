use Rattle.std.proofs.Common.{rules, ℕ, Bool}
use Rattle.market.specs.declared.refusal.Refusal.TheVariants.{Offset}
use Rattle.layout.specs.ProposalBytes.{section_right}
use Rattle.layout.proofs.proposal.ask_sections.Goals as goal

pub returns : goal.returns
returns c =
    let ok : ℕ → Bool = section_right c.args.starts c.args.header c.args.length in
    c.ask.ensures ok Offset (λ k b below says. search rules) (λ k e below says. search rules)
