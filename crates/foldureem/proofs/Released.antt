-- How a verdict follows from what the cycle says. Assumes nothing.
use Rattle.std.proofs.Common.{◌≡◌, ℕ, Bool, cond, List, Ok, Result, ap, ◌∙◌, subst}
use Rattle.scale.specs.Meaning.{Meaning}
use Rattle.scale.specs.Pair.{netting, activation}
use Rattle.market.specs.declared.refusal.Refusal.{Refusal}
use Rattle.layout.specs.CaseBytes.{case_in}
use Rattle.cycle.specs.States.{State}
use Rattle.cycle.specs.Calls.{release_answer, released, submitted, room}
use Rattle.foldureem.specs.Verdicts.{nets, scale_for, judged_answer, listed, answer_for, buffer_after, if_taken, put_if}

-- what a cycle that holds a taken proposal releases
module _ (m : Meaning) (case proposal buffer : List ℕ) (st : State) (taken : Ok tt ≡ judged_answer m case proposal) (holds : st ≡ submitted (case_in case) proposal) where
  pub release_answered : release_answer st.case st.standing buffer ≡ answer_for m case proposal buffer
  release_answered =
      ap (λ (s : State). release_answer s.case s.standing buffer) holds
      ∙ ap (λ (r : Result (Unit {0}) Refusal). if_taken r (room (listed case proposal) buffer)) taken

  pub release_put : released st.case st.standing buffer ≡ buffer_after m case proposal buffer
  release_put =
      ap (λ (s : State). released s.case s.standing buffer) holds
      ∙ ap (λ (r : Result (Unit {0}) Refusal). put_if r (listed case proposal) buffer) taken

-- what holds on the scale that the proposal asks for
pub on_scale : (P : Meaning → Type 0) (proposal : List ℕ) (b : Bool) → b ≡ nets proposal → P (cond b netting activation) → P (scale_for proposal)
on_scale P proposal b e p = subst (λ (b : Bool). P (cond b netting activation)) e p
