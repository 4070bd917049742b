use Rattle.std.proofs.Common.{rules, ℕ, Bool}
use Rattle.market.specs.declared.refusal.Refusal.TheVariants.{Offset}
use Rattle.layout.specs.CaseBytes.{offset_right}
use Rattle.layout.proofs.questions.ask_offsets.Goals as goal

pub returns : goal.returns
returns c =
    let ok : ℕ → Bool = offset_right c.args.header c.args.length in
    c.ask.ensures ok Offset (λ k b below says. search rules) (λ k e below says. search rules)
