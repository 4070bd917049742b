-- What the questions on the bytes of a proposal say, and where its sections stand. Assumes nothing.
use Rattle.std.proofs.Common.{◌≡◌, ℕ, ◌*◌, Bool, true, false, cond, eqb, leb, List, length, take, drop, ℤ, Some, None, Ok, Err, Result, sym, refl, ap, ◌∙◌, arith, length-drop, eq-eqb, ne_eqb, eqb-true}
use Rattle.std.proofs.lemmas.List.{drop-drop, take_all}
use Rattle.market.specs.declared.refusal.Refusal.{Refusal}
use Rattle.market.specs.declared.refusal.Refusal.TheVariants.{Header, Kind, Count, Offset}
use Rattle.market.specs.First.{and_then, ask, ask_one}
use Rattle.market.specs.Selections.{Selection}
use Rattle.records.specs.declared.header.ProposalHeader.{ProposalHeader}
use Rattle.layout.specs.declared.proposal.Counts.{Counts}
use Rattle.records.specs.Headers.{proposal_header_of, proposal_header_in}
use Rattle.layout.specs.ProposalBytes.{proposal_answer, proposal_end, prices_offset, activated_offset, flows_offset, count_right, section_right, starts, flows_part, activated_part, prices_part}
use Rattle.market.proofs.Firsts.{and_then_second, all_from_ask}
use Rattle.layout.proofs.Asks.{passed, stopped}

-- what the header's words say once they are all there
pub header_there : (bs : List ℕ) (h : ProposalHeader) → Some h ≡ proposal_header_in bs → (leb 36 (length bs) ≡ true) × (h ≡ proposal_header_of bs)
header_there bs h e = by (leb 36 (length bs)) refl e
  where
    by : (t : Bool) → leb 36 (length bs) ≡ t → Some h ≡ cond t (Some (proposal_header_of bs)) None → (leb 36 (length bs) ≡ true) × (h ≡ proposal_header_of bs)
    by true is e = (is, cc)
    by false is e = let z : ◌≡◌ {A = ℕ} 0 1 = cc in absurd (omega arith)

module _ (n : Counts) (levels : ℕ) (bs : List ℕ) where
  abbrev questions : ProposalHeader → Result (Unit {0}) Refusal
  questions h = and_then (ask (count_right n levels h) 9 Count) (ask (section_right (starts n levels) h (length bs)) 10 Offset)

  abbrev kind_first : Result (Unit {0}) Refusal
  kind_first = and_then (ask_one (eqb (proposal_header_of bs).kind 2) Kind) (questions (proposal_header_of bs))

  -- the wrong kind
  pub refused_kind : (h : ProposalHeader) → Some h ≡ proposal_header_in bs → (h.kind ≡ 2 → ⊥) → Err Kind ≡ proposal_answer n levels bs
  refused_kind h e wrong =
      let there = header_there bs h e in
      let off : eqb (proposal_header_of bs).kind 2 ≡ false = ne_eqb (proposal_header_of bs).kind 2 (λ is. wrong (ap (λ x. x.kind) there.1 ∙ is)) in
      sym (passed (leb 36 (length bs)) (Header (length bs)) kind_first there.0 ∙ stopped (eqb (proposal_header_of bs).kind 2) Kind (questions (proposal_header_of bs)) off)

  -- with the header there and the kind right, two questions are left
  pub questions_left : (h : ProposalHeader) → Some h ≡ proposal_header_in bs → h.kind ≡ 2 → proposal_answer n levels bs ≡ questions h
  questions_left h e right =
      let there = header_there bs h e in
      let on : eqb (proposal_header_of bs).kind 2 ≡ true = eq-eqb (proposal_header_of bs).kind 2 (ap (λ x. x.kind) (sym there.1) ∙ right) in
      passed (leb 36 (length bs)) (Header (length bs)) kind_first there.0
      ∙ (passed (eqb (proposal_header_of bs).kind 2) Kind (questions (proposal_header_of bs)) on ∙ ap questions (sym there.1))

  pub refused_count : (h : ProposalHeader) (e : Refusal) → Some h ≡ proposal_header_in bs → h.kind ≡ 2 → Err e ≡ ask (count_right n levels h) 9 Count
      → Err e ≡ proposal_answer n levels bs
  refused_count h e there right no_here =
      sym (questions_left h there right ∙ ap (λ a. and_then a (ask (section_right (starts n levels) h (length bs)) 10 Offset)) (sym no_here))

  pub answered : (h : ProposalHeader) (r : Result (Unit {0}) Refusal) → Some h ≡ proposal_header_in bs → h.kind ≡ 2 → Ok tt ≡ ask (count_right n levels h) 9 Count
      → r ≡ ask (section_right (starts n levels) h (length bs)) 10 Offset → r ≡ proposal_answer n levels bs
  answered h r there right yes_here is =
      is ∙ sym (questions_left h there right ∙ ap (λ a. and_then a (ask (section_right (starts n levels) h (length bs)) 10 Offset)) (sym yes_here))

  -- bytes that are taken end where the last section does
  pub taken_length : proposal_answer n levels bs ≡ Ok tt → length bs ≡ proposal_end n levels
  taken_length h =
      let counts_on = and_then_second (ask_one (leb 36 (length bs)) (Header (length bs))) kind_first h in
      let questions_on = and_then_second (ask_one (eqb (proposal_header_of bs).kind 2) Kind) (questions (proposal_header_of bs)) counts_on in
      let sections_on =
      and_then_second (ask (count_right n levels (proposal_header_of bs)) 9 Count) (ask (section_right (starts n levels) (proposal_header_of bs) (length bs)) 10 Offset) questions_on in
      eqb-true (length bs) (proposal_end n levels) (all_from_ask (section_right (starts n levels) (proposal_header_of bs) (length bs)) 10 Offset sections_on 9 (omega arith))

  -- the sections as the bytes are split
  pub flows_split : take (4 * n.borders) (drop (4 * n.areas) (drop 36 bs)) ≡ flows_part n bs
  flows_split = ap (take (4 * n.borders)) (drop-drop (4 * n.areas) 36 bs)

  activated_left : drop (4 * n.borders) (drop (4 * n.areas) (drop 36 bs)) ≡ drop (activated_offset n) bs
  activated_left = ap (drop (4 * n.borders)) (drop-drop (4 * n.areas) 36 bs) ∙ drop-drop (4 * n.borders) (flows_offset n) bs

  pub activated_split : take (4 * n.bids) (drop (4 * n.borders) (drop (4 * n.areas) (drop 36 bs))) ≡ activated_part n bs
  activated_split = ap (take (4 * n.bids)) activated_left

  pub prices_split : length bs ≡ proposal_end n levels → drop (4 * n.bids) (drop (4 * n.borders) (drop (4 * n.areas) (drop 36 bs))) ≡ prices_part n levels bs
  prices_split end =
      ap (drop (4 * n.bids)) activated_left
      ∙ (drop-drop (4 * n.bids) (activated_offset n) bs
      ∙ sym (take_all (8 * levels * n.areas) (drop (prices_offset n) bs) (rw length-drop (omega arith))))

-- selections with the same amounts are the same
abbrev pub selection_from : List ℤ → List ℤ → List ℕ → Selection
selection_from satisfied flows activated = record { satisfied = satisfied; flows = flows; activated = activated }

pub selection_same : (ss ts fs gs : List ℤ) (xs ys : List ℕ) → ss ≡ ts → fs ≡ gs → xs ≡ ys → selection_from ss fs xs ≡ selection_from ts gs ys
selection_same ss ts fs gs xs ys s f x = ap (λ z. selection_from z fs xs) s ∙ (ap (λ z. selection_from ts z xs) f ∙ ap (selection_from ts gs) x)
