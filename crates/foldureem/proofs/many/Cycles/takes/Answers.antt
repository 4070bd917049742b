use Rattle.std.proofs.Common.{◌≡◌, true, false, is_ok, ap, ◌∙◌}
use Rattle.scale.specs.Meaning.{Meaning}
use Rattle.foldureem.specs.Verdicts.{judged_answer}
use Rattle.foldureem.proofs.Released.{on_scale}
use Rattle.foldureem.proofs.many.Cycles.takes.Goals as goal

pub returns-then-nets_only : goal.returns-then-nets_only
returns-then-nets_only c =
    on_scale (λ (m : Meaning). c.is_ok.result ≡ is_ok (judged_answer m c.args.case.now c.args.proposal.now)) c.args.proposal.now true c.if-nets_only.ensures
    (c.is_ok.ensures.value ∙ ap is_ok c.judge_on.ensures.answer)

pub returns-else-nets_only : goal.returns-else-nets_only
returns-else-nets_only c =
    on_scale (λ (m : Meaning). c.is_ok-else-nets_only.result ≡ is_ok (judged_answer m c.args.case.now c.args.proposal.now)) c.args.proposal.now false c.if-nets_only.ensures
    (c.is_ok-else-nets_only.ensures.value ∙ ap is_ok c.judge_on-else-nets_only.ensures.answer)
