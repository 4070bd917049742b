-- What the verifier says of a case and a proposal that are given as bytes.
--
--   nets              the proposal asks for the netting scale: its word 7 is there and is 1
--   scale_for         the scale that a proposal is judged on
--   judged_answer     load the case, then submit the proposal to it
--   listed            the listing of the case in the bytes and the selection in the bytes
--   answer_for        judge, then the length of the listing where it fits the buffer
--   buffer_after      the buffer afterwards: the listing and what lay behind it, or the buffer as it was
--   NothingBeats      no selection within the limits of the case in the bytes is better than the one in the proposal
--   IfMade            where there was memory, what holds of the answer
--   if_made           what a call made, or what it leaves where it had no memory
--   failure_text      what a failure prints
use Rattle.std.specs.Prelude.{ℕ, Bool, cond, ◌&&◌, List, ◌++◌, length, Ok, Err, Result, ◌==◌, nat_le, slice_index, codes}
use Rattle.scale.specs.Meaning.{Meaning}
use Rattle.scale.specs.Pair.{netting, activation}
use Rattle.market.specs.First.{and_then}
use Rattle.market.specs.Totals.{Unbeaten}
use Rattle.market.specs.declared.refusal.Refusal.{Refusal}
use Rattle.market.specs.Refusals.{displayed}
use Rattle.layout.specs.CaseBytes.{case_in}
use Rattle.listing.specs.Lines.{listing}
use Rattle.foldureem.specs.declared.failure.Failure.{Failure}
use Rattle.foldureem.specs.declared.failure.Failure.TheVariants.{OutOfMemory, Refused}
use Rattle.cycle.specs.Calls.{load_answer, submit_answer, proposed, room, put}

abbrev pub nets : List ℕ → Bool
nets proposal =
    nat_le 32 (length proposal) && (slice_index proposal 28 == 1 && (slice_index proposal 29 == 0 && (slice_index proposal 30 == 0 && slice_index proposal 31 == 0)))

abbrev pub scale_for : List ℕ → Meaning
scale_for proposal = cond (nets proposal) netting activation

abbrev pub judged_answer : (m : Meaning) → (case proposal : List ℕ) → Result (Unit {0}) Refusal
judged_answer m case proposal = and_then (load_answer m case) (submit_answer m (case_in case) proposal)

abbrev pub listed : (case proposal : List ℕ) → List ℕ
listed case proposal = listing (case_in case) (proposed (case_in case) proposal)

abbrev pub NothingBeats : (m : Meaning) → (case proposal : List ℕ) → Type 0
NothingBeats m case proposal = Unbeaten m (case_in case) (proposed (case_in case) proposal)

abbrev pub if_taken : {X : Type 0} → Result (Unit {0}) Refusal → Result X Refusal → Result X Refusal
if_taken (Ok u) then = then
if_taken (Err refusal) then = Err refusal

abbrev pub answer_for : (m : Meaning) → (case proposal buffer : List ℕ) → Result ℕ Refusal
answer_for m case proposal buffer = if_taken (judged_answer m case proposal) (room (listed case proposal) buffer)

abbrev pub put_if : Result (Unit {0}) Refusal → (text buffer : List ℕ) → List ℕ
put_if (Ok u) text buffer = put text buffer
put_if (Err refusal) text buffer = buffer

abbrev pub buffer_after : (m : Meaning) → (case proposal buffer : List ℕ) → List ℕ
buffer_after m case proposal buffer = put_if (judged_answer m case proposal) (listed case proposal) buffer

-- where there was memory: what holds of the answer, a number of bytes or a refusal
abbrev pub IfMade : Result ℕ Failure → (Result ℕ Refusal → Type 0) → Type 0
IfMade (Ok bytes) P = P (Ok bytes)
IfMade (Err (Refused refusal)) P = P (Err refusal)
IfMade (Err OutOfMemory) P = Unit {0}

-- what the call made, or what it leaves where it had no memory
abbrev pub if_made : Result ℕ Failure → (made left : List ℕ) → List ℕ
if_made (Ok bytes) made left = made
if_made (Err (Refused refusal)) made left = made
if_made (Err OutOfMemory) made left = left

abbrev pub failure_text : Failure → List ℕ
failure_text OutOfMemory = codes "out of memory"
failure_text (Refused refusal) = codes "refused " ++ displayed refusal
