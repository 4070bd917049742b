-- Histories whose answers are the rules' keep the promise. Assumes nothing.
use Rattle.std.proofs.Common.{◌≡◌, ℕ, ◌≤◌, Bool, true, false, cond, T, eqb, leb, List, [], ◌∷◌, length, Some, None, Ok, Err, Option, Result, sym, refl, ap, ◌∙◌, subst, arith, ltb→lt}
use Rattle.std.specs.List.{AllByRecursion}
use Rattle.std.proofs.ByRecursion.{All-from_get_or}
use Rattle.std.proofs.lemmas.Bool.{and_parts, leb-true}
use Rattle.scale.specs.Meaning.{Meaning, Laws}
use Rattle.market.specs.declared.refusal.Refusal.{Refusal}
use Rattle.market.specs.declared.refusal.Refusal.TheVariants.{Header, Kind, Count, Offset, Unknown, Demand, Limits}
use Rattle.market.specs.Cases.{Case, Valid, demand_in_range, limits_in_range, border_at}
use Rattle.market.specs.Changes.{revise_answer, limit_answer, withdraw_answer, with_limits}
use Rattle.market.specs.First.{and_then, ask, ask_one}
use Rattle.market.specs.Selections.{Selection, WithinLimits}
use Rattle.market.specs.Totals.{Unbeaten}
use Rattle.market.proofs.Changed.{valid_revised, valid_limited, valid_withdrawn}
use Rattle.market.proofs.Empty.{valid_none}
use Rattle.market.proofs.Firsts.{both_from_and_then, all_from_ask}
use Rattle.optimality.proofs.UnbeatenHasPrices.{unbeaten_has_prices}
use Rattle.records.specs.Bytes.{word}
use Rattle.layout.specs.CaseBytes.{case_answer}
use Rattle.records.specs.Headers.{proposal_header_of}
use Rattle.layout.specs.ProposalBytes.{counts_of, starts, count_right, section_right, proposal_answer}
use Rattle.layout.proofs.Cases.{taken_valid}
use Rattle.fitting.specs.Judged.{judged}
use Rattle.cycle.specs.States.{State}
use Rattle.cycle.specs.Sent.{Sent, load, revise, limit, withdraw, submit, read, taken, told}
use Rattle.cycle.specs.Calls.{answer_to, submit_answer, proposed, price_in}
use Rattle.history.specs.Histories.{History, in_force, last_taken, standing, standing_by, unless_read, made_of, Lawful, LetTaken, Sound, Throughout, Kept, sent_with}
use Rattle.history.proofs.SentWith.{read_sent, taken_sent}
use Rattle.cycle.proofs.Submitted.{submit_unbeaten}

-- a call that answers taken got a yes
yes_taken : (r : Result (Unit {0}) Refusal) → taken (told r) ≡ true → r ≡ Ok tt
yes_taken (Ok tt) e = refl
yes_taken (Err x) e = cc

yes_told : (r : Result (Unit {0}) Refusal) → told r ≡ Ok None → r ≡ Ok tt
yes_told r e = yes_taken r (ap taken e)

-- no proposal is taken on a scale of more than 16 levels
few_levels_taken : (m : Meaning) (c : Case) (bs : List ℕ) → submit_answer m c bs ≡ Ok tt → m.levels ≤ 16
few_levels_taken m c bs e =
    let bytes = (both_from_and_then (proposal_answer (counts_of c) m.levels bs) (judged m c (proposed c bs) (price_in m c bs)) e).0 in
    let counted : Result (Unit {0}) Refusal = ask (count_right (counts_of c) m.levels (proposal_header_of bs)) 9 Count in
    let ended : Result (Unit {0}) Refusal = ask (section_right (starts (counts_of c) m.levels) (proposal_header_of bs) (length bs)) 10 Offset in
    let kind = (both_from_and_then (ask_one (leb 36 (length bs)) (Header (length bs))) (and_then (ask_one (eqb (word 0 bs) 2) Kind) (and_then counted ended)) bytes).1 in
    let counts = (both_from_and_then counted ended (both_from_and_then (ask_one (eqb (word 0 bs) 2) Kind) (and_then counted ended) kind).1).0 in
    let seventh = all_from_ask (count_right (counts_of c) m.levels (proposal_header_of bs)) 9 Count counts 7 (omega arith) in
    leb-true m.levels 16 (and_parts (leb m.levels 16) (eqb (word 7 bs) m.levels) seventh).0

asked : {E : Type 0} (b : Bool) (x : E) → ask_one b x ≡ Ok tt → T b
asked true x e = tt
asked false x e = cc

-- the case in force is valid
made_valid : (m : Meaning) (st : State) (call : Sent) → Valid st.case → taken (answer_to m st call) ≡ true → Valid (made_of call st.case)
made_valid m st (load bs) v t = taken_valid m.bids bs (yes_taken (case_answer m.bids bs) t)
made_valid m st (revise area demand) v t =
    let both = both_from_and_then (ask_one _ (Unknown area)) (ask_one (demand_in_range demand) (Demand area)) (yes_taken (revise_answer st.case area demand) t) in
    valid_revised st.case.demands st.case.borders st.case.bids area demand (asked (demand_in_range demand) (Demand area) both.1) v
made_valid m st (limit border forward backward) v t =
    let both = both_from_and_then (ask_one _ (Unknown border)) (ask_one (limits_in_range (with_limits (border_at st.case border) forward backward)) (Limits border)) (yes_taken (limit_answer st.case border forward backward) t) in
    valid_limited st.case.demands st.case.borders st.case.bids border forward backward (ltb→lt _ _ (asked _ (Unknown border) both.0)) (asked (limits_in_range (with_limits (border_at st.case border) forward backward)) (Limits border) both.1) v
made_valid m st (withdraw bid) v t =
    valid_withdrawn st.case.demands st.case.borders st.case.bids bid (ltb→lt _ _ (asked _ (Unknown bid) (yes_taken (withdraw_answer st.case bid) t))) v
made_valid m st (submit bs) v t = v
made_valid m st (read item) v t = v

valid_if : (b : Bool) (c d : Case) → (b ≡ true → Valid c) → Valid d → Valid (cond b c d)
valid_if true c d v w = v refl
valid_if false c d v w = w

pub valid_in_force : (m : Meaning) (h : History) → Lawful m h → Valid (in_force h)
valid_in_force m [] lawful = valid_none
valid_in_force m (step ∷ earlier) (rule, lawful) =
    let before : Valid (in_force earlier) = valid_in_force m earlier lawful in
    valid_if (taken step.answer) (made_of step.call (in_force earlier)) (in_force earlier)
    (λ t. made_valid m (record { case = in_force earlier; standing = standing earlier }) step.call before (ap taken (sym rule) ∙ t)) before

none_some : {X : Type 0} {Y : Type 0} (s : X) → ◌≡◌ {A = Option X} None (Some s) → Y
none_some s e = absurd (let z : ◌≡◌ {A = ℕ} 0 1 = cc in omega arith)

-- what stands is unbeaten
abbrev Best : Meaning → Case → Option Selection → Type 0
Best m c o = (s : Selection) → o ≡ Some s → Unbeaten m c s

module _ (m : Meaning) (laws : Laws m) where
  left_best : (c : Case) → Valid c → (last : Option Sent) → Best m c (standing_by c last) → (call : Sent) → taken (answer_to m (record { case = c; standing = standing_by c last }) call) ≡ true → Best m (made_of call c) (standing_by (made_of call c) (unless_read call last))
  left_best c v last best (load bs) t s e = cc
  left_best c v last best (revise area demand) t s e = cc
  left_best c v last best (limit border forward backward) t s e = cc
  left_best c v last best (withdraw bid) t s e = cc
  left_best c v last best (submit bs) t s e =
      let same : proposed c bs ≡ s = cc in
      subst (λ (x : Selection). Unbeaten m c x) same (submit_unbeaten m c bs laws v (yes_taken (submit_answer m c bs) t))
  left_best c v last best (read item) t s e = best s e

  best_if : (b : Bool) (c d : Case) (p q : Option Sent) → (b ≡ true → Best m c (standing_by c p)) → Best m d (standing_by d q) → Best m (cond b c d) (standing_by (cond b c d) (cond b p q))
  best_if true c d p q x y = x refl
  best_if false c d p q x y = y

  pub standing_best : (h : History) → Lawful m h → Best m (in_force h) (standing h)
  standing_best [] lawful = λ s e. cc
  standing_best (step ∷ earlier) (rule, lawful) =
      best_if (taken step.answer) (made_of step.call (in_force earlier)) (in_force earlier) (unless_read step.call (last_taken earlier)) (last_taken earlier)
      (λ t. left_best (in_force earlier) (valid_in_force m earlier lawful) (last_taken earlier) (standing_best earlier lawful) step.call (ap taken (sym rule) ∙ t))
      (standing_best earlier lawful)

  -- prices that fit, as a proposal that submit takes
  let_taken : (h : History) → Lawful m h → m.levels ≤ 16 → (s : Selection) → Unbeaten m (in_force h) s → LetTaken m h s
  let_taken h lawful few s best =
      let v : Valid (in_force h) = valid_in_force m h lawful in
      let found = unbeaten_has_prices m laws (in_force h) v s best in
      let prices = found.0 in
      let fits = found.1 in
      let ranged : AllByRecursion (λ x. T (m.in_range x)) prices = All-from_get_or (λ x. T (m.in_range x)) prices m.zero (λ a low. fits.in_range a (omega (arith, fits.prices_count))) in
      record {
        prices = prices;
        one_for_each = fits.prices_count;
        in_range = ranged;
        taken = ap told (taken_sent m laws few (in_force h) v s best.within prices fits.prices_count ranged fits);
      }

  taken_best : (h : History) → Lawful m h → (s : Selection) → WithinLimits (in_force h) s → LetTaken m h s → Unbeaten m (in_force h) s
  taken_best h lawful s within let_it =
      let v : Valid (in_force h) = valid_in_force m h lawful in
      let taken_it : submit_answer m (in_force h) (sent_with m (in_force h) s let_it.prices) ≡ Ok tt = yes_told _ let_it.taken in
      let few : m.levels ≤ 16 = few_levels_taken m (in_force h) (sent_with m (in_force h) s let_it.prices) taken_it in
      subst (λ (x : Selection). Unbeaten m (in_force h) x) (read_sent m laws few (in_force h) v s within let_it.prices let_it.one_for_each let_it.in_range)
      (submit_unbeaten m (in_force h) (sent_with m (in_force h) s let_it.prices) laws v taken_it)

  sound_from_lawful : (h : History) → Lawful m h → Sound m h
  sound_from_lawful h lawful = record { unbeaten = standing_best h lawful; has_prices = let_taken h lawful; prices_suffice = taken_best h lawful }

  throughout : (h : History) → Lawful m h → Throughout m h
  throughout [] lawful = sound_from_lawful [] lawful
  throughout (step ∷ earlier) lawful = (sound_from_lawful (step ∷ earlier) lawful, throughout earlier lawful.1)

  pub kept_from_lawful : (h : History) → Lawful m h → Kept m h
  kept_from_lawful h lawful = record { lawful = lawful; sound = throughout h lawful }
