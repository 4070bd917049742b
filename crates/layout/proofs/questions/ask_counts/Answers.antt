use Rattle.std.proofs.Common.{rules, ℕ, Bool}
use Rattle.market.specs.declared.refusal.Refusal.TheVariants.{Count}
use Rattle.layout.specs.CaseBytes.{count_allowed}
use Rattle.layout.proofs.questions.ask_counts.Goals as goal

pub returns : goal.returns
returns c =
    let ok : ℕ → Bool = count_allowed c.args.bids c.args.header in
    c.ask.ensures ok Count (λ k b below says. search rules) (λ k e below says. search rules)
