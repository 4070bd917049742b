use Rattle.std.proofs.Common.{refl, subst}
use Rattle.std.proofs.lemmas.Result.{err_from_is_err_and}
use Rattle.market.specs.Held.{held}
use Rattle.market.specs.Selections.{Selection}
use Rattle.market.specs.Totals.{Unbeaten}
use Rattle.cycle.proofs.Submitted.{submit_answered, submit_taken}
use Rattle.cycle.proofs.cycle.Cycle+S.submit.Goals as goal

pub returns-in_err-judge-clause-answer : goal.returns-in_err-judge-clause-answer
returns-in_err-judge-clause-answer g c =
    let e = submit_answered g.S.Scale.meaning (held c.args.self.now.holdings.book) c.args.bytes.now c.in_ok-proposal.proposal _ _
    c.counts-counts.ensures c.levels.ensures c.in_ok-proposal.ensures.answer c.in_ok-proposal.ensures.parts _ c.in_err-judge.ensures.answer in
    let p = err_from_is_err_and c.from_residual-in_err-judge.result c.from_residual-in_err-judge.ensures.1 in
    rw (p.1, p.2) e

pub stand-requires : goal.stand-requires
stand-requires g c =
    ∣ (submit_taken g.S.Scale.meaning (held c.args.self.now.holdings.book) c.args.bytes.now c.in_ok-proposal.proposal _ _
    c.counts-counts.ensures c.levels.ensures c.in_ok-proposal.ensures.answer c.in_ok-proposal.ensures.parts c.in_ok-judge.ensures.answer).within ∣₁

pub returns-clause-answer : goal.returns-clause-answer
returns-clause-answer g c =
    submit_answered g.S.Scale.meaning (held c.args.self.now.holdings.book) c.args.bytes.now c.in_ok-proposal.proposal _ _
    c.counts-counts.ensures c.levels.ensures c.in_ok-proposal.ensures.answer c.in_ok-proposal.ensures.parts _ c.in_ok-judge.ensures.answer

pub returns-clause-unbeaten : goal.returns-clause-unbeaten
returns-clause-unbeaten g c is_ok =
    let case = held c.args.self.now.holdings.book in
    let t = submit_taken g.S.Scale.meaning case c.args.bytes.now c.in_ok-proposal.proposal _ _
    c.counts-counts.ensures c.levels.ensures c.in_ok-proposal.ensures.answer c.in_ok-proposal.ensures.parts c.in_ok-judge.ensures.answer in
    subst (λ (s : Selection). Unbeaten g.S.Scale.meaning case s) t.same (c.in_ok-judge.ensures.unbeaten refl t.counts)
