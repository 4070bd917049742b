-- The rules of the calls: what each answers, and what the cycle holds afterwards. A refused call changes nothing.
--
--   after             what holds after a call: the new state where it was taken, else the old one
--   load_answer, loaded
--                     load replaces the case by the one in its bytes, and ends the standing selection
--   submit_answer, submitted
--                     submit makes a fitting selection the standing one
--   changed           the case was changed: nothing stands any more
--   answer_to, next   any call: what it answers, and what the cycle holds afterwards
--   room              whether a text fits a buffer: its length, or the refusal with the bytes needed
--   put               the buffer afterwards: the text and what lay behind it, or the buffer as it was
--   write_answer, write_after
--                     write puts the bytes of the case into a buffer
--   release_answer, released
--                     release puts the listing of what stands into a buffer
use Rattle.std.specs.Prelude.{ℕ, cond, List, ◌++◌, length, drop, Some, None, Ok, Err, Option, Result, nat_le}
use Rattle.scale.specs.Meaning.{Meaning}
use Rattle.scale.specs.Levels.{read_bytes}
use Rattle.market.specs.Cases.{Case}
use Rattle.market.specs.Selections.{Selection}
use Rattle.market.specs.First.{and_then}
use Rattle.market.specs.declared.refusal.Refusal.{Refusal}
use Rattle.market.specs.declared.refusal.Refusal.TheVariants.{NothingStands, Room}
use Rattle.layout.specs.CaseBytes.{case_answer, case_in}
use Rattle.layout.specs.Writing.{case_write_answer, case_write_after}
use Rattle.layout.specs.ProposalBytes.{counts_of, proposal_answer, selection_in, prices_part, price_part}
use Rattle.fitting.specs.Judged.{judged}
use Rattle.listing.specs.Lines.{listing}
use Rattle.market.specs.Changes.{revise_answer, revised, limit_answer, limited, withdraw_answer, withdrawn}
use Rattle.cycle.specs.Sent.{Sent, Answer, load, revise, limit, withdraw, submit, read, told, told_amount, read_answer}
use Rattle.cycle.specs.States.{State}

abbrev pub after : {X : Type 0} → Result X Refusal → (old new : State) → State
after (Ok x) old new = new
after (Err refusal) old new = old

abbrev pub load_answer : (m : Meaning) → List ℕ → Result (Unit {0}) Refusal
load_answer m bs = case_answer m.bids bs

abbrev pub loaded : List ℕ → State
loaded bs = record { case = case_in bs; standing = None }

-- the selection in the bytes of a proposal for this case, and the price that they give an area
abbrev pub proposed : Case → List ℕ → Selection
proposed c bs = selection_in (counts_of c) bs

abbrev pub price_in : (m : Meaning) → Case → List ℕ → ℕ → Option m.Value
price_in m c bs area = read_bytes m (price_part m.levels (prices_part (counts_of c) m.levels bs) area)

abbrev pub submit_answer : (m : Meaning) → Case → List ℕ → Result (Unit {0}) Refusal
submit_answer m c bs =
    and_then (proposal_answer (counts_of c) m.levels bs) (judged m c (proposed c bs) (price_in m c bs))

abbrev pub submitted : Case → List ℕ → State
submitted c bs = record { case = c; standing = Some (proposed c bs) }

-- a changed case ends what stood
abbrev pub changed : Case → State
changed c = record { case = c; standing = None }

abbrev pub answer_to : (m : Meaning) → State → Sent → Answer
answer_to m st (load bs) = told (load_answer m bs)
answer_to m st (revise area demand) = told (revise_answer st.case area demand)
answer_to m st (limit border forward backward) = told (limit_answer st.case border forward backward)
answer_to m st (withdraw bid) = told (withdraw_answer st.case bid)
answer_to m st (submit bs) = told (submit_answer m st.case bs)
answer_to m st (read item) = told_amount (read_answer st.case st.standing item)

abbrev pub next : (m : Meaning) → State → Sent → State
next m st (load bs) = after (load_answer m bs) st (loaded bs)
next m st (revise area demand) = after (revise_answer st.case area demand) st (changed (revised st.case area demand))
next m st (limit border forward backward) =
    after (limit_answer st.case border forward backward) st (changed (limited st.case border forward backward))
next m st (withdraw bid) = after (withdraw_answer st.case bid) st (changed (withdrawn st.case bid))
next m st (submit bs) = after (submit_answer m st.case bs) st (submitted st.case bs)
next m st (read item) = st

abbrev pub room : List ℕ → (buffer : List ℕ) → Result ℕ Refusal
room text buffer = cond (nat_le (length text) (length buffer)) (Ok (length text)) (Err (Room (length text)))

abbrev pub put : List ℕ → (buffer : List ℕ) → List ℕ
put text buffer = cond (nat_le (length text) (length buffer)) (text ++ drop (length text) buffer) buffer

abbrev pub write_answer : Case → (buffer : List ℕ) → Result ℕ Refusal
write_answer c buffer = case_write_answer c buffer

abbrev pub write_after : Case → (buffer : List ℕ) → List ℕ
write_after c buffer = case_write_after c buffer

abbrev pub release_answer : Case → Option Selection → (buffer : List ℕ) → Result ℕ Refusal
release_answer c None buffer = Err NothingStands
release_answer c (Some s) buffer = room (listing c s) buffer

abbrev pub released : Case → Option Selection → (buffer : List ℕ) → List ℕ
released c None buffer = buffer
released c (Some s) buffer = put (listing c s) buffer
