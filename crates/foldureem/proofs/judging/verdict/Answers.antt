use Rattle.std.proofs.Common.{◌≡◌, true, false, OnOk}
use Rattle.scale.specs.Meaning.{Meaning}
use Rattle.foldureem.specs.Verdicts.{answer_for, buffer_after, IfMade, if_made, NothingBeats}
use Rattle.foldureem.proofs.Released.{on_scale}
use Rattle.foldureem.proofs.judging.verdict.Goals as goal

pub returns-then-nets_only-clause-answer : goal.returns-then-nets_only-clause-answer
returns-then-nets_only-clause-answer c =
    on_scale (λ (m : Meaning). IfMade c.verdict_on.result (λ v. v ≡ answer_for m c.args.case.now c.args.proposal.now c.args.out.now))
    c.args.proposal.now true c.if-nets_only.ensures c.verdict_on.ensures.answer

pub returns-then-nets_only-clause-out : goal.returns-then-nets_only-clause-out
returns-then-nets_only-clause-out c =
    on_scale (λ (m : Meaning). c.verdict_on.new.out ≡ if_made c.verdict_on.result (buffer_after m c.args.case.now c.args.proposal.now c.args.out.now) c.args.out.now)
    c.args.proposal.now true c.if-nets_only.ensures c.verdict_on.ensures.out

pub returns-else-nets_only-clause-answer : goal.returns-else-nets_only-clause-answer
returns-else-nets_only-clause-answer c =
    on_scale (λ (m : Meaning). IfMade c.verdict_on-else-nets_only.result (λ v. v ≡ answer_for m c.args.case.now c.args.proposal.now c.args.out.now))
    c.args.proposal.now false c.if-nets_only.ensures c.verdict_on-else-nets_only.ensures.answer

pub returns-else-nets_only-clause-out : goal.returns-else-nets_only-clause-out
returns-else-nets_only-clause-out c =
    on_scale (λ (m : Meaning). c.verdict_on-else-nets_only.new.out ≡ if_made c.verdict_on-else-nets_only.result (buffer_after m c.args.case.now c.args.proposal.now c.args.out.now) c.args.out.now)
    c.args.proposal.now false c.if-nets_only.ensures c.verdict_on-else-nets_only.ensures.out

pub returns-then-nets_only-clause-unbeaten : goal.returns-then-nets_only-clause-unbeaten
returns-then-nets_only-clause-unbeaten c =
    on_scale (λ (m : Meaning). OnOk c.verdict_on.result (NothingBeats m c.args.case.now c.args.proposal.now)) c.args.proposal.now true c.if-nets_only.ensures c.verdict_on.ensures.unbeaten

pub returns-else-nets_only-clause-unbeaten : goal.returns-else-nets_only-clause-unbeaten
returns-else-nets_only-clause-unbeaten c =
    on_scale (λ (m : Meaning). OnOk c.verdict_on-else-nets_only.result (NothingBeats m c.args.case.now c.args.proposal.now)) c.args.proposal.now false c.if-nets_only.ensures c.verdict_on-else-nets_only.ensures.unbeaten
