-- A refusal names the first question that fails, at its first place. Assumes nothing.
use Rattle.std.proofs.Common.{◌≡◌, ℕ, Bool, true, false, ◌&&◌, eqb, leb, List, [], ◌∷◌, length, Some, None, Ok, Err, Option, Result, sym, refl, ap, ◌∙◌, inl, inr, arith}
use Rattle.market.specs.declared.refusal.Refusal.{Refusal}
use Rattle.market.specs.declared.refusal.Refusal.TheVariants.{Header, Kind, Count, Offset, Demand, Ends, Limits, Origin, Offer}
use Rattle.market.specs.Cases.{areas, demand_at, border_at, bid_at, demand_in_range, ends_known, limits_in_range, bid_known, bid_in_range}
use Rattle.market.specs.First.{first_no, FirstNo, and_then, ask, ask_one, refused_at}
use Rattle.layout.specs.declared.proposal.Counts.{Counts}
use Rattle.records.specs.Bytes.{word}
use Rattle.records.specs.Headers.{case_header_of, proposal_header_of}
use Rattle.layout.specs.CaseBytes.{case_in, count_allowed, offset_right, direction_known, case_answer}
use Rattle.layout.specs.ProposalBytes.{count_right, section_right, starts, proposal_answer}
use Rattle.layout.specs.InOrder.{Asked, asked, Passes, Refuses, case_questions, proposal_questions, QuestionsInOrder}
use Rattle.market.proofs.Firsts.{and_then_first, and_then_second, all_from_ask, first_no_found, first_no_is}

abbrev Answer : Type 0
Answer = Result (Unit {0}) Refusal

one_place : (t : Bool) (e : Refusal) → ask_one t e ≡ ask (λ _. t) 1 (λ _. e)
one_place true e = refl
one_place false e = refl

pub and_then_assoc : (a b c : Answer) → and_then (and_then a b) c ≡ and_then a (and_then b c)
and_then_assoc (Ok u) b c = refl
and_then_assoc (Err e) b c = refl

pub and_then_last : (a : Answer) → a ≡ and_then a (Ok tt)
and_then_last (Ok u) = refl
and_then_last (Err e) = refl

-- two single tests in front
two_tests : (s t : Bool) (e f : Refusal) (rest : Answer) → and_then (ask_one s e) (and_then (ask_one t f) rest) ≡ and_then (ask (λ _. s) 1 (λ _. e)) (and_then (ask (λ _. t) 1 (λ _. f)) rest)
two_tests s t e f rest =
    ap (λ a. and_then a (and_then (ask_one t f) rest)) (one_place s e) ∙ ap (λ a. and_then (ask (λ _. s) 1 (λ _. e)) (and_then a rest)) (one_place t f)

-- four answers and then five, in one row
nine : (a b c d e f g h i : Answer) → and_then (and_then a (and_then b (and_then c d))) (and_then e (and_then f (and_then g (and_then h i))))
    ≡ and_then a (and_then b (and_then c (and_then d (and_then e (and_then f (and_then g (and_then h (and_then i (Ok tt)))))))))
nine a b c d e f g h i =
    let rest = and_then e (and_then f (and_then g (and_then h i))) in
    and_then_assoc a (and_then b (and_then c d)) rest
    ∙ (ap (and_then a) (and_then_assoc b (and_then c d) rest ∙ ap (and_then b) (and_then_assoc c d rest))
    ∙ ap (λ x. and_then a (and_then b (and_then c (and_then d (and_then e (and_then f (and_then g (and_then h x)))))))) (and_then_last i))

case_asked : (bids : Bool) (bs : List ℕ) → case_answer bids bs ≡ asked (case_questions bids bs)
case_asked bids bs =
    let c = case_in bs in
    nine (ask_one (leb 28 (length bs)) (Header (length bs))) (ask_one (eqb (word 0 bs) 1) Kind) (ask (count_allowed bids (case_header_of bs)) 7 Count) (ask (offset_right (case_header_of bs) (length bs)) 8 Offset)
    (ask (λ k. demand_in_range (demand_at c k)) (areas c) Demand) (ask (λ k. ends_known (areas c) (border_at c k)) (length c.borders) Ends)
    (ask (λ k. limits_in_range (border_at c k)) (length c.borders) Limits) (ask (λ k. bid_known (areas c) (bid_at c k) && direction_known bs k) (length c.bids) Origin)
    (ask (λ k. bid_in_range (bid_at c k)) (length c.bids) Offer)
    ∙ two_tests (leb 28 (length bs)) (eqb (word 0 bs) 1) (Header (length bs)) Kind _

proposal_asked : (n : Counts) (levels : ℕ) (bs : List ℕ) → proposal_answer n levels bs ≡ asked (proposal_questions n levels bs)
proposal_asked n levels bs =
    ap (λ x. and_then (ask_one (leb 36 (length bs)) (Header (length bs))) (and_then (ask_one (eqb (word 0 bs) 2) Kind) (and_then (ask (count_right n levels (proposal_header_of bs)) 9 Count) x)))
    (and_then_last (ask (section_right (starts n levels) (proposal_header_of bs) (length bs)) 10 Offset))
    ∙ two_tests (leb 36 (length bs)) (eqb (word 0 bs) 2) (Header (length bs)) Kind _

-- the answer of one question is a yes exactly if it passes everywhere, and a no exactly at the first place that fails
ask_all : (q : Asked) → FirstNo q.passes q.places None → ask q.passes q.places q.refusal ≡ Ok tt
ask_all q all = ap (refused_at q.refusal) (sym (first_no_is q.passes q.places None all))

ask_first : (q : Asked) (i : ℕ) → FirstNo q.passes q.places (Some i) → ask q.passes q.places q.refusal ≡ Err (q.refusal i)
ask_first q i first = ap (refused_at q.refusal) (sym (first_no_is q.passes q.places (Some i) first))

taken : (qs : List Asked) → asked qs ≡ Ok tt → Passes qs
taken [] h = tt
taken (q ∷ qs) h =
    (all_from_ask q.passes q.places q.refusal (and_then_first (ask q.passes q.places q.refusal) (asked qs) h), taken qs (and_then_second (ask q.passes q.places q.refusal) (asked qs) h))

taken_back : (qs : List Asked) → Passes qs → asked qs ≡ Ok tt
taken_back [] h = refl
taken_back (q ∷ qs) (all, rest) = ap (λ a. and_then a (asked qs)) (ask_all q all) ∙ taken_back qs rest

refused_one : (q : Asked) (qs : List Asked) (e : Refusal) (o : Option ℕ) → FirstNo q.passes q.places o → and_then (refused_at q.refusal o) (asked qs) ≡ Err e → (asked qs ≡ Err e → Refuses qs e)
    → Refuses (q ∷ qs) e
refused_one q qs e None all h later = inr (all, later h)
refused_one q qs e (Some i) first h later = inl (i, first, cc)

refused : (qs : List Asked) (e : Refusal) → asked qs ≡ Err e → Refuses qs e
refused [] e h = let z : ◌≡◌ {A = ℕ} 0 1 = cc in absurd (omega arith)
refused (q ∷ qs) e h = refused_one q qs e (first_no q.passes 0 q.places) (first_no_found q.passes q.places) h (refused qs e)

refused_back : (qs : List Asked) (e : Refusal) → Refuses qs e → asked qs ≡ Err e
refused_back [] e h = absurd h
refused_back (q ∷ qs) e (inl (i, first, is)) = ap (λ a. and_then a (asked qs)) (ask_first q i first) ∙ ap Err (sym is)
refused_back (q ∷ qs) e (inr (all, rest)) = ap (λ a. and_then a (asked qs)) (ask_all q all) ∙ refused_back qs e rest

pub questions_in_order : QuestionsInOrder
questions_in_order = record {
  case_asked = case_asked;
  proposal_asked = proposal_asked;
  taken = λ qs. (taken qs, taken_back qs);
  refused = λ qs e. (refused qs e, refused_back qs e);
}
