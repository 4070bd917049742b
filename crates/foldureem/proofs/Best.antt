-- What is taken is unbeaten, and so is what C is told to be taken. Assumes nothing.
use Rattle.std.proofs.Common.{◌≡◌, ℕ, List, Ok, Err, Result, IfOk, OnOk, ap, ◌∙◌, inl, inr, arith}
use Rattle.scale.specs.Meaning.{Meaning, Laws}
use Rattle.market.specs.declared.refusal.Refusal.{Refusal}
use Rattle.market.specs.declared.refusal.Refusal.TheVariants.{Header, Kind, Count, Offset, Demand, Ends, Limits, Origin, Offer, Satisfied, Flow, Activated, Balance, Price, DemandFit, BorderFit, BidFit, Unknown, NothingStands, Room}
use Rattle.market.specs.Refusals.{number}
use Rattle.market.proofs.Firsts.{both_from_and_then}
use Rattle.layout.specs.CaseBytes.{case_in}
use Rattle.layout.proofs.Cases.{taken_valid}
use Rattle.cycle.specs.Calls.{load_answer, submit_answer}
use Rattle.cycle.proofs.Submitted.{submit_unbeaten}
use Rattle.foldureem.specs.declared.failure.Failure.{Failure}
use Rattle.foldureem.specs.declared.failure.Failure.TheVariants.{OutOfMemory, Refused}
use Rattle.foldureem.specs.Verdicts.{scale_for, judged_answer, answer_for, buffer_after, IfMade, if_made, NothingBeats}
use Rattle.foldureem.specs.Told.{told, told_if, Answered}
use Rattle.foldureem.specs.declared.told.FoldureemVerdict.{FoldureemVerdict}

pub made_always : {X Y P : Type 0} (r : Result X Y) → P → IfOk r (λ _. P)
made_always (Ok x) p = p
made_always (Err e) p = tt

-- loading and submitting were taken: the case is valid, and what its proposal selects is unbeaten
pub taken_unbeaten : (m : Meaning) → Laws m → (case proposal : List ℕ) → judged_answer m case proposal ≡ Ok tt → NothingBeats m case proposal
taken_unbeaten m laws case proposal e =
    let parts = both_from_and_then (load_answer m case) (submit_answer m (case_in case) proposal) e in
    submit_unbeaten m (case_in case) proposal laws (taken_valid m.bids case parts.0) parts.1

-- no question has the number 0
numbered : (refusal : Refusal) → number refusal ≡ 0 → ⊥
numbered (Header at) e = omega arith
numbered Kind e = omega arith
numbered (Count at) e = omega arith
numbered (Offset at) e = omega arith
numbered (Demand at) e = omega arith
numbered (Ends at) e = omega arith
numbered (Limits at) e = omega arith
numbered (Origin at) e = omega arith
numbered (Offer at) e = omega arith
numbered (Satisfied at) e = omega arith
numbered (Flow at) e = omega arith
numbered (Activated at) e = omega arith
numbered (Balance at) e = omega arith
numbered (Price at) e = omega arith
numbered (DemandFit at) e = omega arith
numbered (BorderFit at) e = omega arith
numbered (BidFit at) e = omega arith
numbered (Unknown at) e = omega arith
numbered NothingStands e = omega arith
numbered (Room at) e = omega arith

-- C is told the number 0 only of what was taken
pub told_taken : {P : Type 0} (r : Result ℕ Failure) → OnOk r P → (told_if r).number ≡ 0 → P
told_taken (Ok length) p e = p
told_taken (Err (Refused refusal)) p e = absurd (numbered refusal e)
told_taken (Err OutOfMemory) p e = absurd (omega arith)

pub answered_told : (case proposal before after : List ℕ) (r : Result ℕ Failure) (v : FoldureemVerdict) → v ≡ told_if r
    → IfMade r (λ a. a ≡ answer_for (scale_for proposal) case proposal before) → after ≡ if_made r (buffer_after (scale_for proposal) case proposal before) before
    → Answered case proposal before v after
answered_told case proposal before after (Ok length) v e f g = inl (e ∙ ap told f, g)
answered_told case proposal before after (Err (Refused refusal)) v e f g = inl (e ∙ ap told f, g)
answered_told case proposal before after (Err OutOfMemory) v e f g = inr (e, g)
