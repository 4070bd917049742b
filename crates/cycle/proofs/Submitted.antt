-- What a submit does that passes: its selection is within the limits, and it is the one in the bytes. Assumes nothing.
use Rattle.std.proofs.Common.{◌≡◌, ℕ, ◌/◌, ◌≤◌, true, List, length, drop, Ok, Result, sym, ap, ◌∙◌, subst, arith}
use mathlib.Core.Logic.{∥∥₁_elim}
use Rattle.std.proofs.Math.Bool.{Bool-set}
use Rattle.std.proofs.lemmas.Bool.{and_from, le-leb}
use Rattle.scale.specs.Meaning.{Meaning, Laws}
use Rattle.scale.specs.Levels.{little_endian, read_bytes}
use Rattle.market.specs.Cases.{Case, Valid}
use Rattle.market.specs.Totals.{Unbeaten}
use Rattle.market.proofs.Firsts.{both_from_and_then}
use Rattle.market.specs.Selections.{Selection, WithinLimits}
use Rattle.market.specs.First.{and_then}
use Rattle.market.specs.declared.refusal.Refusal.{Refusal}
use Rattle.layout.specs.declared.proposal.Counts.{Counts}
use Rattle.layout.specs.declared.proposal.Proposal.{Proposal}
use Rattle.records.specs.Bytes.{signed_word}
use Rattle.layout.specs.ProposalBytes.{counts_of, flows_offset, activated_offset, proposal_end, proposal_answer, price_part, selection_of, satisfied_part, flows_part, prices_part}
use Rattle.layout.specs.Sections.{Holds, selection_held, satisfied_bytes, flows_bytes, activated_bytes, levels_of, few}
use Rattle.layout.proofs.Proposals.{taken_length}
use Rattle.records.proofs.Tables.{records_part, length_table}
use Rattle.fitting.specs.Judged.{judged, OneForEach}
use Rattle.fitting.specs.Priced.{price_held}
use Rattle.fitting.proofs.Best.{judged_unbeaten}
use Rattle.fitting.proofs.Passed.{passed_from_judged, within_from_passed}
use Rattle.cycle.specs.Calls.{proposed, price_in, submit_answer}

-- amounts that are one for each record are no more than a case can have
pub few_held : (c : Case) (p : Proposal) → length c.demands ≤ 48 → length c.borders ≤ 128 → length c.bids ≤ 1024 → OneForEach c (selection_held p) → few p ≡ true
few_held c p few_areas few_borders few_bids counts =
    let la = length_table signed_word 4 (length (satisfied_bytes p) / 4) (satisfied_bytes p) in
    let lb = length_table signed_word 4 (length (flows_bytes p) / 4) (flows_bytes p) in
    let lo = length_table little_endian 4 (length (activated_bytes p) / 4) (activated_bytes p) in
    and_from _ _ (le-leb _ _ (subst (λ (n : ℕ). n ≤ 48) (sym counts.satisfied_count ∙ la) few_areas))
    (and_from _ _ (le-leb _ _ (subst (λ (n : ℕ). n ≤ 128) (sym counts.flows_count ∙ lb) few_borders))
    (le-leb _ _ (subst (λ (n : ℕ). n ≤ 1024) (sym counts.activated_count ∙ lo) few_bids)))

-- what a taken submit gives: its answer, the selection in the proposal is the one in the bytes, it is within the limits, and its amounts are few where the case's records are
pub record Taken (m : Meaning) (c : Case) (bs : List ℕ) (p : Proposal) : Type 0 where
  pub answer : Ok tt ≡ submit_answer m c bs
  pub same : selection_held p ≡ proposed c bs
  pub counts : OneForEach c (selection_held p)
  pub enough : length c.demands ≤ 48 → length c.borders ≤ 128 → length c.bids ≤ 1024 → few p ≡ true
  pub within : WithinLimits c (selection_held p)

module _ (m : Meaning) (c : Case) (bs : List ℕ) where
  -- the amounts in the sections of a proposal are as many as the case's records
  pub counted_bytes : proposal_answer (counts_of c) m.levels bs ≡ Ok tt → OneForEach c (proposed c bs)
  counted_bytes e =
      let long : length bs ≡ proposal_end (counts_of c) m.levels = taken_length (counts_of c) m.levels bs e in
      record {
        satisfied_count = ap length (records_part signed_word 4 (length c.demands) 36 bs (omega arith) (omega arith)) ∙ length_table signed_word 4 (length c.demands) (drop 36 bs);
        flows_count = ap length (records_part signed_word 4 (length c.borders) (flows_offset (counts_of c)) bs (omega arith) (omega arith)) ∙ length_table signed_word 4 (length c.borders) (drop (flows_offset (counts_of c)) bs);
        activated_count = ap length (records_part little_endian 4 (length c.bids) (activated_offset (counts_of c)) bs (omega arith) (omega arith)) ∙ length_table little_endian 4 (length c.bids) (drop (activated_offset (counts_of c)) bs);
      }

  -- a submit that is taken leaves a selection within the limits
  pub submit_within : submit_answer m c bs ≡ Ok tt → WithinLimits c (proposed c bs)
  submit_within e =
      let both = both_from_and_then _ _ e in
      within_from_passed m c (proposed c bs) (price_in m c bs) (counted_bytes both.0) (passed_from_judged m c (proposed c bs) (price_in m c bs) both.1)

  -- and one that nothing beats
  pub submit_unbeaten : Laws m → Valid c → submit_answer m c bs ≡ Ok tt → Unbeaten m c (proposed c bs)
  submit_unbeaten laws valid e =
      let both = both_from_and_then _ _ e in
      judged_unbeaten m laws c valid (proposed c bs) (λ a. price_part m.levels (prices_part (counts_of c) m.levels bs) a) (counted_bytes both.0) both.1

module _ (m : Meaning) (c : Case) (bs : List ℕ) (p : Proposal) where
  selection_same : Holds (counts_of c) m.levels bs p → selection_held p ≡ proposed c bs
  selection_same holds =
      ap (λ b. selection_of b (flows_bytes p) (activated_bytes p)) holds.satisfied
      ∙ (ap (λ b. selection_of (satisfied_part (counts_of c) bs) b (activated_bytes p)) holds.flows
      ∙ ap (λ b. selection_of (satisfied_part (counts_of c) bs) (flows_part (counts_of c) bs) b) holds.activated)

  counted : proposal_answer (counts_of c) m.levels bs ≡ Ok tt → Holds (counts_of c) m.levels bs p → OneForEach c (selection_held p)
  counted e holds = subst (λ (s : Selection). OneForEach c s) (sym (selection_same holds)) (counted_bytes m c bs e)

  judged_same : Holds (counts_of c) m.levels bs p → judged m c (selection_held p) (price_held m p) ≡ judged m c (proposed c bs) (price_in m c bs)
  judged_same holds =
      ap (λ (s : Selection). judged m c s (price_held m p)) (selection_same holds)
      ∙ (ap (λ (b : List ℕ). judged m c (proposed c bs) (λ a. read_bytes m (price_part (levels_of p) b a))) holds.prices
      ∙ ap (λ (l : ℕ). judged m c (proposed c bs) (λ a. read_bytes m (price_part l (prices_part (counts_of c) m.levels bs) a))) holds.levels_same)

  answered : proposal_answer (counts_of c) m.levels bs ≡ Ok tt → Holds (counts_of c) m.levels bs p → submit_answer m c bs ≡ judged m c (selection_held p) (price_held m p)
  answered e holds = ap (λ (r : Result (Unit {0}) Refusal). and_then r (judged m c (proposed c bs) (price_in m c bs))) e ∙ sym (judged_same holds)

  module _ (n : Counts) (l : ℕ) (counts_is : n ≡ counts_of c) (levels_is : l ≡ m.levels) (read : Ok tt ≡ proposal_answer n l bs) (holds : Holds n l bs p) where
    read_here : proposal_answer (counts_of c) m.levels bs ≡ Ok tt
    read_here = sym (read ∙ (ap (λ (k : Counts). proposal_answer k l bs) counts_is ∙ ap (λ (k : ℕ). proposal_answer (counts_of c) k bs) levels_is))

    holds_here : Holds (counts_of c) m.levels bs p
    holds_here = subst (λ (k : ℕ). Holds (counts_of c) k bs p) levels_is (subst (λ (k : Counts). Holds k l bs p) counts_is holds)

    pub submit_answered : (r : Result (Unit {0}) Refusal) → r ≡ judged m c (selection_held p) (price_held m p) → r ≡ submit_answer m c bs
    submit_answered r e = e ∙ sym (answered read_here holds_here)

    pub submit_taken : Ok tt ≡ judged m c (selection_held p) (price_held m p) → Taken m c bs p
    submit_taken e =
        let counts : OneForEach c (selection_held p) = counted read_here holds_here in
        record {
          answer = submit_answered (Ok tt) e;
          same = selection_same holds_here;
          counts = counts;
          enough = λ few_areas few_borders few_bids. few_held c p few_areas few_borders few_bids counts;
          within = within_from_passed m c (selection_held p) (price_held m p) counts (passed_from_judged m c (selection_held p) (price_held m p) (sym e));
        }

-- amounts within the limits of a book are no more than a case can have
pub few_within : (c : Case) (p : Proposal) → ∥ Valid c ∥₁ → ∥ WithinLimits c (selection_held p) ∥₁ → few p ≡ true
few_within c p valid fits = ∥∥₁_elim valid (Bool-set _ _) (λ v. ∥∥₁_elim fits (Bool-set _ _) (λ within.
    few_held c p v.few_areas v.few_borders v.few_bids
    (record { satisfied_count = within.satisfied_count; flows_count = within.flows_count; activated_count = within.activated_count })))
