use Rattle.std.proofs.Common.{ℕ, Bool, true, false, Some, None, sym, arith, rules}
use Rattle.market.specs.First.{FirstNo, FirstFails, Computes}
use Rattle.market.proofs.Firsts.{first_no_is}
use Rattle.market.proofs.question.first_no.Goals as goal

pub returns-then-not-passes : goal.returns-then-not-passes
returns-then-not-passes g c =
    let fails : FirstFails (goal.F-post g c.args.passes) c.args.places (Some c.loop-place.place) = (omega arith, search rules, c.loop-place.invariant) in
    let first : (ok : ℕ → Bool) → Computes (goal.F-post g c.args.passes) c.args.places ok → FirstNo ok c.args.places (Some c.loop-place.place) =
    λ ok is. (fails.0, sym (is c.loop-place.place false fails.0 fails.1), λ k h. sym (is k true (omega arith) (c.loop-place.invariant k h))) in
    record { fails = fails; value = λ ok is. first_no_is _ _ _ (first ok is); first = first }

pub returns : goal.returns
returns g c =
    let fails : FirstFails (goal.F-post g c.args.passes) c.args.places None = λ k h. c.loop-place.invariant k (omega arith) in
    let first : (ok : ℕ → Bool) → Computes (goal.F-post g c.args.passes) c.args.places ok → FirstNo ok c.args.places None =
    λ ok is k h. sym (is k true h (fails k h)) in
    record { fails = fails; value = λ ok is. first_no_is _ _ _ (first ok is); first = first }
