-- A case that is loaded, and a proposal that is submitted to it. Assumes nothing.
use Rattle.std.proofs.Common.{◌≡◌, ℕ, List, IfOk, Ok, Err, Result, sym, ap, ◌∙◌}
use Rattle.scale.specs.Meaning.{Meaning}
use Rattle.market.specs.First.{and_then}
use Rattle.market.specs.declared.refusal.Refusal.{Refusal}
use Rattle.layout.specs.CaseBytes.{case_in}
use Rattle.cycle.specs.States.{State}
use Rattle.cycle.specs.Calls.{after, load_answer, loaded, submit_answer, submitted}
use Rattle.foldureem.specs.Verdicts.{judged_answer}

-- l and r are the answers to loading and to submitting; the states are those before, between and then
module _ (case proposal : List ℕ) (before between : State) (l r : Result (Unit {0}) Refusal) (taken : l ≡ Ok tt) (load_after : between ≡ after l before (loaded case)) where
  holds : between ≡ loaded case
  holds = load_after ∙ ap (λ (l : Result (Unit {0}) Refusal). after l before (loaded case)) taken

  pub judged : (m : Meaning) → l ≡ load_answer m case → r ≡ submit_answer m between.case proposal → r ≡ judged_answer m case proposal
  judged m load_is submit_is =
      submit_is
      ∙ ap (λ (s : State). submit_answer m s.case proposal) holds
      ∙ ap (λ (l : Result (Unit {0}) Refusal). and_then l (submit_answer m (case_in case) proposal)) (sym taken ∙ load_is)

  pub stands : (then : State) → then ≡ after r between (submitted between.case proposal) → IfOk r (λ _. then ≡ submitted (case_in case) proposal)
  stands then submit_after = at r submit_after
    where
      at : (r : Result (Unit {0}) Refusal) → then ≡ after r between (submitted between.case proposal) → IfOk r (λ _. then ≡ submitted (case_in case) proposal)
      at (Ok u) e = e ∙ ap (λ (s : State). submitted s.case proposal) holds
      at (Err refusal) e = tt
