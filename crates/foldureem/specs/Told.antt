-- What C is told.
--
--   told              number, layer and place, 0 0 0 where the proposal is taken, and how many bytes were written
--   no_memory         what is told where there was no memory; no question has this number
--   told_if           what is told of a call's answer
--   Answered          what C is told of a case and a proposal, and what the buffer then holds
--   cut               the bytes from a start to an end; none where these are no part
--   taken_among       how many of the pairs of a case and a proposal that lie one behind the other are taken
--   Tallied           what C is told of many pairs: how many are taken, or the largest number where there was no memory
use Rattle.std.specs.Prelude.{◌≡◌, ℕ, ◌+◌, ◌-◌, Bool, cond, ◌&&◌, ◌⊎◌, List, [], ◌∷◌, length, take, drop, is_ok, Ok, Err, Result, nat_le}
use Rattle.market.specs.declared.refusal.Refusal.{Refusal}
use Rattle.market.specs.Refusals.{number, layer, place}
use Rattle.foldureem.specs.declared.failure.Failure.{Failure}
use Rattle.foldureem.specs.declared.failure.Failure.TheVariants.{OutOfMemory, Refused}
use Rattle.foldureem.specs.declared.told.FoldureemVerdict.{FoldureemVerdict}
use Rattle.foldureem.specs.Verdicts.{scale_for, judged_answer, answer_for, buffer_after}

abbrev pub told : Result ℕ Refusal → FoldureemVerdict
told (Ok bytes) = record { number = 0; layer = 0; place = 0; length = bytes }
told (Err refusal) = record { number = number refusal; layer = layer refusal; place = place refusal; length = 0 }

abbrev pub no_memory : FoldureemVerdict
no_memory = record { number = 4294967295; layer = 0; place = 0; length = 0 }

abbrev pub told_if : Result ℕ Failure → FoldureemVerdict
told_if (Ok bytes) = told (Ok bytes)
told_if (Err (Refused refusal)) = told (Err refusal)
told_if (Err OutOfMemory) = no_memory

abbrev pub Answered : (case proposal before : List ℕ) → FoldureemVerdict → (after : List ℕ) → Type 0
Answered case proposal before verdict after =
    ((verdict ≡ told (answer_for (scale_for proposal) case proposal before)) × (after ≡ buffer_after (scale_for proposal) case proposal before))
    ⊎ ((verdict ≡ no_memory) × (after ≡ before))

abbrev pub cut : List ℕ → (start end : ℕ) → List ℕ
cut files start end = cond (nat_le start end && nat_le end (length files)) (take (end - start) (drop start files)) []

abbrev pub is_taken : (case proposal : List ℕ) → Bool
is_taken case proposal = is_ok (judged_answer (scale_for proposal) case proposal)

-- each pair by the ends of its two files, the first from a start
abbrev pub taken_among : List ℕ → (start : ℕ) → (ends : List ℕ) → ℕ
taken_among files start [] = 0
taken_among files start (middle ∷ []) = 0
taken_among files start (middle ∷ (end ∷ more)) =
    cond (is_taken (cut files start middle) (cut files middle end)) 1 0 + taken_among files end more

abbrev pub Tallied : (files ends : List ℕ) → ℕ → Type 0
Tallied files ends n = (n ≡ taken_among files 0 ends) ⊎ (n ≡ 18446744073709551615)
