use Rattle.std.proofs.Common.{◌≡◌, ℕ, Err, Result, sym, ap, ◌∙◌, rules}
use Rattle.cycle.specs.View.{view}
use Rattle.foldureem.specs.declared.failure.Failure.{Failure}
use Rattle.foldureem.specs.declared.failure.Failure.TheVariants.{Refused}
use Rattle.foldureem.specs.Verdicts.{buffer_after, if_made}
use Rattle.foldureem.proofs.Best.{taken_unbeaten}
use Rattle.foldureem.proofs.Released.{release_put}
use Rattle.foldureem.proofs.judging.verdict_on.Goals as goal

pub returns-clause-out : goal.returns-clause-out
returns-clause-out g c =
    c.release.ensures.out
    ∙ release_put g.S.Scale.meaning c.args.case.now c.args.proposal.now c.args.out.now (view c.close.result) c.in_ok-judge_on.ensures.answer
    (c.close.ensures ∙ c.in_ok-judge_on.ensures.stands)

-- where release refuses, for want of room, the buffer is what it leaves
pub returns-in_err-release-clause-out : goal.returns-in_err-release-clause-out
returns-in_err-release-clause-out g c =
    let left = buffer_after g.S.Scale.meaning c.args.case.now c.args.proposal.now c.args.out.now in
    let is_left : c.release.new.out ≡ left = c.release.ensures.out
    ∙ release_put g.S.Scale.meaning c.args.case.now c.args.proposal.now c.args.out.now (view c.close.result) c.in_ok-judge_on.ensures.answer
    (c.close.ensures ∙ c.in_ok-judge_on.ensures.stands) in
    let refused : c.from_residual-in_err-release.result ≡ Err (Refused c.in_err-release.field-0.0) = search rules in
    is_left ∙ sym (ap (λ (r : Result ℕ Failure). if_made r left c.args.out.now) refused)

pub returns-clause-unbeaten : goal.returns-clause-unbeaten
returns-clause-unbeaten g c =
    taken_unbeaten g.S.Scale.meaning g.met.S.Scale.lawful c.args.case.now c.args.proposal.now (sym c.in_ok-judge_on.ensures.answer)
