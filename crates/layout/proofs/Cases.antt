-- What the questions on the bytes of a case say, and what its reader holds. Assumes nothing.
use Rattle.std.proofs.Common.{◌≡◌, ℕ, zero, suc, ◌+◌, ◌*◌, ◌/◌, ◌<◌, ◌≤◌, Bool, true, false, cond, ◌&&◌, T, eqb, leb, List, length, get_or, take, drop, ℤ, pos, is_ok, Some, None, Ok, Err, Result, sym, refl, ap, ◌∙◌, subst, arith, eq-eqb, eqb-true, leb-true, rules}
use Rattle.std.specs.List.{AllByRecursion}
use Rattle.std.proofs.lemmas.List.{drop-drop, take-take, drop-take}
use Rattle.std.proofs.ByRecursion.{All-from_get_or}
use Rattle.market.specs.declared.refusal.Refusal.{Refusal}
use Rattle.market.specs.declared.refusal.Refusal.TheVariants.{Header, Kind, Count, Offset, Demand, Ends, Limits, Origin, Offer}
use Rattle.market.specs.declared.trade.Border.{Border}
use Rattle.market.specs.declared.trade.Bid.{Bid}
use Rattle.market.specs.Cases.{Case, Valid, case_of, areas, no_border, no_bid, demand_at, border_at, bid_at, demand_in_range, ends_known, limits_in_range, bid_known, bid_in_range}
use Rattle.market.specs.Directions.{direction_numbered}
use Rattle.market.specs.First.{and_then, ask, ask_one}
use Rattle.scale.specs.Levels.{little_endian}
use Rattle.records.specs.declared.header.CaseHeader.{CaseHeader}
use Rattle.layout.specs.declared.reader.CaseReader.{CaseReader}
use Rattle.records.specs.Bytes.{part, word, table, records, signed_word}
use Rattle.records.specs.Headers.{case_header_of, case_header_in}
use Rattle.records.specs.Headers.{borders_start, bids_start, end_by}
use Rattle.records.specs.Records.{border_of, bid_of}
use Rattle.layout.specs.CaseBytes.{bids_offset, count_allowed, offset_right, direction_known, bytes_answer, records_answer, case_answer, case_in}
use Rattle.layout.specs.CaseReaders.{case_read, directions_read, no_direction, direction_fine, Parts}
use Rattle.records.specs.Records.{raw_direction}
use Rattle.market.proofs.Firsts.{and_then_first, and_then_second, ask_one_yes, all_from_ask, ask_same}
use Rattle.layout.proofs.Asks.{passed}
use Rattle.records.proofs.Tables.{records_part, length_table, getD_table}

case_header_there : (bs : List ℕ) (h : CaseHeader) → Some h ≡ case_header_in bs → (leb 28 (length bs) ≡ true) × (h ≡ case_header_of bs)
case_header_there bs h e = by (leb 28 (length bs)) refl e
  where
    by : (t : Bool) → leb 28 (length bs) ≡ t → Some h ≡ cond t (Some (case_header_of bs)) None → (leb 28 (length bs) ≡ true) × (h ≡ case_header_of bs)
    by true is e = (is, cc)
    by false is e = let z : ◌≡◌ {A = ℕ} 0 1 = cc in absurd (omega arith)

module _ (bids : Bool) (bs : List ℕ) where
  abbrev header_questions : CaseHeader → Result (Unit {0}) Refusal
  header_questions h = and_then (ask (count_allowed bids h) 7 Count) (ask (offset_right h (length bs)) 8 Offset)

  abbrev kind_first : Result (Unit {0}) Refusal
  kind_first = and_then (ask_one (eqb (word 0 bs) 1) Kind) (header_questions (case_header_of bs))

  -- with the header there and the kind right, two questions are left
  header_questions_left : (h : CaseHeader) → Some h ≡ case_header_in bs → h.kind ≡ 1 → bytes_answer bids bs ≡ header_questions h
  header_questions_left h e right =
      let there = case_header_there bs h e in
      let on : eqb (word 0 bs) 1 ≡ true = eq-eqb (word 0 bs) 1 (ap (λ x. x.kind) (sym there.1) ∙ right) in
      passed (leb 28 (length bs)) (Header (length bs)) kind_first there.0
      ∙ (passed (eqb (word 0 bs) 1) Kind (header_questions (case_header_of bs)) on ∙ ap header_questions (sym there.1))

  pub refused_first : (h : CaseHeader) (e : Refusal) → Some h ≡ case_header_in bs → h.kind ≡ 1 → Err e ≡ ask (count_allowed bids h) 7 Count → Err e ≡ bytes_answer bids bs
  refused_first h e there right no_here =
      sym (header_questions_left h there right ∙ ap (λ a. and_then a (ask (offset_right h (length bs)) 8 Offset)) (sym no_here))

  pub answered_second : (h : CaseHeader) (a : Result (Unit {0}) Refusal) → Some h ≡ case_header_in bs → h.kind ≡ 1 → Ok tt ≡ ask (count_allowed bids h) 7 Count
      → a ≡ ask (offset_right h (length bs)) 8 Offset → a ≡ bytes_answer bids bs
  answered_second h a there right yes_here is =
      is ∙ sym (header_questions_left h there right ∙ ap (λ a. and_then a (ask (offset_right h (length bs)) 8 Offset)) (sym yes_here))

  pub header_is : (h : CaseHeader) → Some h ≡ case_header_in bs → h ≡ case_header_of bs
  header_is h e = (case_header_there bs h e).1

  -- what a yes on the header says
  pub record HeaderTaken : Type 0 where
    pub whole : 28 ≤ length bs
    pub kind : word 0 bs ≡ 1
    pub counts : (k : ℕ) → k < 7 → count_allowed bids (case_header_of bs) k ≡ true
    pub offsets : (k : ℕ) → k < 8 → offset_right (case_header_of bs) (length bs) k ≡ true

  pub header_taken : bytes_answer bids bs ≡ Ok tt → HeaderTaken
  header_taken h =
      let kind_on = and_then_second (ask_one (leb 28 (length bs)) (Header (length bs))) kind_first h in
      let questions_on = and_then_second (ask_one (eqb (word 0 bs) 1) Kind) (header_questions (case_header_of bs)) kind_on in
      record {
        whole = leb-true 28 (length bs) (ask_one_yes (leb 28 (length bs)) (Header (length bs)) (and_then_first (ask_one (leb 28 (length bs)) (Header (length bs))) kind_first h));
        kind = eqb-true (word 0 bs) 1 (ask_one_yes (eqb (word 0 bs) 1) Kind (and_then_first (ask_one (eqb (word 0 bs) 1) Kind) (header_questions (case_header_of bs)) kind_on));
        counts =
            all_from_ask (count_allowed bids (case_header_of bs)) 7 Count
            (and_then_first (ask (count_allowed bids (case_header_of bs)) 7 Count) (ask (offset_right (case_header_of bs) (length bs)) 8 Offset) questions_on);
        offsets =
            all_from_ask (offset_right (case_header_of bs) (length bs)) 8 Offset
            (and_then_second (ask (count_allowed bids (case_header_of bs)) 7 Count) (ask (offset_right (case_header_of bs) (length bs)) 8 Offset) questions_on);
      }

  pub taken_end : bytes_answer bids bs ≡ Ok tt → length bs ≡ end_by (case_header_of bs)
  taken_end h = eqb-true (length bs) (end_by (case_header_of bs)) ((header_taken h).offsets 7 (omega arith))

pub ends_by : (bids : Bool) (bs : List ℕ) (h : CaseHeader) → Ok tt ≡ bytes_answer bids bs → h ≡ case_header_of bs → length bs ≡ end_by h
ends_by bids bs h yes_here is = taken_end bids bs (sym yes_here) ∙ ap end_by (sym is)

-- the direction of a bid, in its record and in all the bytes
pub direction_part : (bs : List ℕ) (k offset : ℕ) → part 2 2 (part (12 * k) 12 (drop offset bs)) ≡ part (offset + 12 * k + 2) 2 bs
direction_part bs k offset =
    ap (take 2) (drop-take 2 10 (drop (12 * k) (drop offset bs)))
    ∙ (take-take 2 10 (drop 2 (drop (12 * k) (drop offset bs))) (omega arith)
    ∙ ap (take 2) (ap (drop 2) (drop-drop (12 * k) offset bs) ∙ drop-drop 2 (offset + 12 * k) bs))

-- 0 and 1 are the numbers that a direction has
direction_numbered_ok : (n : ℕ) → is_ok (direction_numbered n) ≡ leb n 1
direction_numbered_ok zero = refl
direction_numbered_ok (suc zero) = refl
direction_numbered_ok (suc (suc n)) = search rules

-- what the reader of taken bytes holds
module _ (h : CaseHeader) (bs : List ℕ) (r : CaseReader) (is : h ≡ case_header_of bs) (end : length bs ≡ end_by h) (parts : Parts h bs r) where
  pub case_read_is : case_read r ≡ case_in bs
  case_read_is =
      let demands : records signed_word 4 r.demands.now ≡ table signed_word 4 h.areas (drop 28 bs) =
      ap (records signed_word 4) parts.demands ∙ records_part signed_word 4 h.areas 28 bs (omega arith) (omega arith) in
      let borders : records border_of 12 r.borders.now ≡ table border_of 12 h.borders (drop (borders_start h) bs) =
      ap (records border_of 12) parts.borders ∙ records_part border_of 12 h.borders (borders_start h) bs (omega arith) (omega arith) in
      let bids : records bid_of 12 r.bids.now ≡ table bid_of 12 h.bids (drop (bids_start h) bs) =
      ap (records bid_of 12) parts.bids ∙ records_part bid_of 12 h.bids (bids_start h) bs (omega arith) (omega arith) in
      ap (λ d. case_of d (records border_of 12 r.borders.now) (records bid_of 12 r.bids.now)) demands
      ∙ (ap (λ b. case_of (table signed_word 4 h.areas (drop 28 bs)) b (records bid_of 12 r.bids.now)) borders
      ∙ (ap (case_of (table signed_word 4 h.areas (drop 28 bs)) (table border_of 12 h.borders (drop (borders_start h) bs))) bids
      ∙ ap (λ h. case_of (table signed_word 4 h.areas (drop 28 bs)) (table border_of 12 h.borders (drop (borders_start h) bs)) (table bid_of 12 h.bids (drop (bids_start h) bs))) is))

  pub direction_same : (k : ℕ) → k < h.bids → direction_fine r k ≡ direction_known bs k
  direction_same k below =
      let list : directions_read r ≡ table raw_direction 12 h.bids (drop (bids_start h) bs) =
      ap (records raw_direction 12) parts.bids ∙ records_part raw_direction 12 h.bids (bids_start h) bs (omega arith) (omega arith) in
      let at : get_or (directions_read r) k no_direction ≡ raw_direction (part (12 * k) 12 (drop (bids_start h) bs)) =
      ap (λ l. get_or l k no_direction) list ∙ getD_table raw_direction 12 h.bids k (drop (bids_start h) bs) no_direction below in
      ap is_ok at
      ∙ (direction_numbered_ok (little_endian (part 2 2 (part (12 * k) 12 (drop (bids_start h) bs))))
      ∙ (ap (λ p. leb (little_endian p) 1) (direction_part bs k (bids_start h))
      ∙ ap (λ x. leb (little_endian (part (bids_start x + 12 * k + 2) 2 bs)) 1) is))

  pub records_answer_same : records_answer (case_read r) (direction_fine r) ≡ records_answer (case_in bs) (direction_known bs)
  records_answer_same =
      let few : length (case_in bs).bids ≡ h.bids = length_table bid_of 12 (word 5 bs) (drop (bids_offset bs) bs) ∙ sym (ap (λ x. x.bids) is) in
      let known : ask (λ k. bid_known (areas (case_in bs)) (bid_at (case_in bs) k) && direction_fine r k) (length (case_in bs).bids) Origin
      ≡ ask (λ k. bid_known (areas (case_in bs)) (bid_at (case_in bs) k) && direction_known bs k) (length (case_in bs).bids) Origin =
      ask_same _ _ (length (case_in bs).bids) Origin (λ k below. ap (λ t. bid_known (areas (case_in bs)) (bid_at (case_in bs) k) && t) (direction_same k (omega arith))) in
      ap (λ c. records_answer c (direction_fine r)) case_read_is
      ∙ ap (λ a.
      and_then (ask (λ k. demand_in_range (demand_at (case_in bs) k)) (areas (case_in bs)) Demand)
      (and_then (ask (λ k. ends_known (areas (case_in bs)) (border_at (case_in bs) k)) (length (case_in bs).borders) Ends)
      (and_then (ask (λ k. limits_in_range (border_at (case_in bs) k)) (length (case_in bs).borders) Limits)
      (and_then a (ask (λ k. bid_in_range (bid_at (case_in bs) k)) (length (case_in bs).bids) Offer))))) known

  -- the answer of all questions, from those on the header and on the records
  pub case_answered : (bids : Bool) (a : Result (Unit {0}) Refusal) → Ok tt ≡ bytes_answer bids bs → a ≡ records_answer (case_read r) (direction_fine r) → a ≡ case_answer bids bs
  case_answered bids a yes_here is =
      is ∙ (records_answer_same ∙ ap (λ x. and_then x (records_answer (case_in bs) (direction_known bs))) yes_here)

-- what a yes on the records says
module _ (c : Case) (direction_ok : ℕ → Bool) where
  abbrev demands_asked : Result (Unit {0}) Refusal
  demands_asked = ask (λ k. demand_in_range (demand_at c k)) (areas c) Demand

  abbrev ends_asked : Result (Unit {0}) Refusal
  ends_asked = ask (λ k. ends_known (areas c) (border_at c k)) (length c.borders) Ends

  abbrev limits_asked : Result (Unit {0}) Refusal
  limits_asked = ask (λ k. limits_in_range (border_at c k)) (length c.borders) Limits

  abbrev origins_asked : Result (Unit {0}) Refusal
  origins_asked = ask (λ k. bid_known (areas c) (bid_at c k) && direction_ok k) (length c.bids) Origin

  abbrev offers_asked : Result (Unit {0}) Refusal
  offers_asked = ask (λ k. bid_in_range (bid_at c k)) (length c.bids) Offer

  pub record RecordsTaken : Type 0 where
    pub demands : (k : ℕ) → k < areas c → demand_in_range (demand_at c k) ≡ true
    pub ends : (k : ℕ) → k < length c.borders → ends_known (areas c) (border_at c k) ≡ true
    pub limits : (k : ℕ) → k < length c.borders → limits_in_range (border_at c k) ≡ true
    pub origins : (k : ℕ) → k < length c.bids → bid_known (areas c) (bid_at c k) && direction_ok k ≡ true
    pub offers : (k : ℕ) → k < length c.bids → bid_in_range (bid_at c k) ≡ true

  pub records_taken : records_answer c direction_ok ≡ Ok tt → RecordsTaken
  records_taken h =
      let rest4 = and_then origins_asked offers_asked in
      let rest3 = and_then limits_asked rest4 in
      let rest2 = and_then ends_asked rest3 in
      let after1 = and_then_second demands_asked rest2 h in
      let after2 = and_then_second ends_asked rest3 after1 in
      let after3 = and_then_second limits_asked rest4 after2 in
      let after4 = and_then_second origins_asked offers_asked after3 in
      record {
        demands = all_from_ask _ (areas c) Demand (and_then_first demands_asked rest2 h);
        ends = all_from_ask _ (length c.borders) Ends (and_then_first ends_asked rest3 after1);
        limits = all_from_ask _ (length c.borders) Limits (and_then_first limits_asked rest4 after2);
        origins = all_from_ask _ (length c.bids) Origin (and_then_first origins_asked offers_asked after3);
        offers = all_from_ask _ (length c.bids) Offer after4;
      }

-- a test that is true at every place holds of every record
all_true : {X : Type 0} (test : X → Bool) (xs : List X) (d : X) → ((k : ℕ) → k < length xs → test (get_or xs k d) ≡ true) → AllByRecursion (λ x. T (test x)) xs
all_true test xs d h = All-from_get_or (λ x. T (test x)) xs d (λ k below. subst T (sym (h k below)) tt)

pub both_first : (a b : Bool) → a && b ≡ true → a ≡ true
both_first true b h = refl
both_first false b h = h

pub both_second : (a b : Bool) → a && b ≡ true → b ≡ true
both_second true b h = h
both_second false b h = cc

-- bytes that are taken hold a valid case
pub taken_valid : (bids : Bool) (bs : List ℕ) → case_answer bids bs ≡ Ok tt → Valid (case_in bs)
taken_valid bids bs h =
    let c = case_in bs in
    let header = header_taken bids bs (and_then_first (bytes_answer bids bs) (records_answer c (direction_known bs)) h) in
    let fine = records_taken c (direction_known bs) (and_then_second (bytes_answer bids bs) (records_answer c (direction_known bs)) h) in
    let few_bids = both_first (leb (word 5 bs) 1024) _ (header.counts 5 (omega arith)) in
    record {
      few_areas = rw (length_table signed_word 4 (word 1 bs) (drop 28 bs)) (leb-true (word 1 bs) 48 (header.counts 1 (omega arith)));
      few_borders = rw (length_table border_of 12 (word 3 bs) (drop (borders_start (case_header_of bs)) bs)) (leb-true (word 3 bs) 128 (header.counts 3 (omega arith)));
      few_bids = rw (length_table bid_of 12 (word 5 bs) (drop (bids_offset bs) bs)) (leb-true (word 5 bs) 1024 few_bids);
      demands_in_range = all_true demand_in_range c.demands (pos 0) fine.demands;
      borders_known = all_true (ends_known (areas c)) c.borders no_border fine.ends;
      borders_in_range = all_true limits_in_range c.borders no_border fine.limits;
      bids_known = all_true (bid_known (areas c)) c.bids no_bid (λ k below. both_first (bid_known (areas c) (bid_at c k)) (direction_known bs k) (fine.origins k below));
      bids_in_range = all_true bid_in_range c.bids no_bid fine.offers;
    }

-- what the tables of a taken case take, and that a book that holds them is valid
module _ (bids : Bool) (bs : List ℕ) (r : CaseReader) (yes_here : Ok tt ≡ case_answer bids bs) (holds : case_read r ≡ case_in bs) where
  valid_read : Valid (case_read r)
  valid_read = subst Valid (sym holds) (taken_valid bids bs (sym yes_here))

  pub few_demands : length r.demands.now / 4 ≤ 48
  few_demands = rw (length_table signed_word 4 (length r.demands.now / 4) r.demands.now) at valid_read.few_areas

  pub few_borders : length r.borders.now / 12 ≤ 128
  few_borders = rw (length_table border_of 12 (length r.borders.now / 12) r.borders.now) at valid_read.few_borders

  pub few_bids : length r.bids.now / 12 ≤ 1024
  few_bids = rw (length_table bid_of 12 (length r.bids.now / 12) r.bids.now) at valid_read.few_bids

  pub valid_held : (ds : List ℤ) (borders : List Border) (os : List Bid) → ds ≡ records signed_word 4 r.demands.now → borders ≡ records border_of 12 r.borders.now
      → os ≡ records bid_of 12 r.bids.now → Valid (case_of ds borders os)
  valid_held ds borders os d b o =
      subst (λ (x : List ℤ). Valid (case_of x borders os)) (sym d)
      (subst (λ (x : List Border). Valid (case_of (records signed_word 4 r.demands.now) x os)) (sym b)
      (subst (λ (x : List Bid). Valid (case_of (records signed_word 4 r.demands.now) (records border_of 12 r.borders.now) x)) (sym o) valid_read))
