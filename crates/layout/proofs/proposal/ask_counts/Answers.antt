use Rattle.std.proofs.Common.{rules, ℕ, Bool}
use Rattle.market.specs.declared.refusal.Refusal.TheVariants.{Count}
use Rattle.layout.specs.ProposalBytes.{count_right}
use Rattle.layout.proofs.proposal.ask_counts.Goals as goal

pub returns : goal.returns
returns c =
    let ok : ℕ → Bool = count_right c.args.counts c.args.levels c.args.header in
    c.ask.ensures ok Count (λ k b below says. search rules) (λ k e below says. search rules)
