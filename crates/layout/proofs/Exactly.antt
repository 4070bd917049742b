-- A case and its bytes determine each other. Assumes nothing.
use Rattle.std.proofs.Common.{◌≡◌, ℕ, ◌+◌, ◌*◌, ◌<◌, ◌≤◌, Bool, true, false, cond, ◌&&◌, ◌||◌, T, eqb, ltb, leb, List, [], ◌∷◌, ◌++◌, length, get_or, take, drop, ℤ, pos, negsuc, Ok, sym, refl, ap, ◌∙◌, subst, mul-le-mul_left, mul-suc, arith, length-append, length-drop, w32, SFits, ltb-true, eq-eqb, eqb-true, le-leb, leb-true}
use lib.Signed.{le_z}
use Rattle.std.specs.List.{AllByRecursion}
use Rattle.std.proofs.lemmas.List.{drop-drop, drop_at, take_all, append-nil}
use Rattle.std.proofs.ByRecursion.{All-weaker, All-get_or, All-drop}
use Rattle.std.proofs.lemmas.Int.{ints}
use Rattle.market.specs.declared.refusal.Refusal.TheVariants.{Header, Count, Offset, Demand, Ends, Limits, Origin, Offer}
use Rattle.market.specs.declared.trade.Border.{Border}
use Rattle.market.specs.declared.trade.Bid.{Bid}
use Rattle.market.specs.Cases.{Case, Valid, case_of, areas, no_border, no_bid, demand_at, border_at, bid_at, demand_in_range, ends_known, limits_in_range, bid_known, bid_in_range}
use Rattle.market.specs.First.{ask, ask_one}
use Rattle.scale.specs.Levels.{little_endian}
use Rattle.records.specs.declared.header.CaseHeader.{CaseHeader}
use Rattle.records.specs.Bytes.{part, word, table, signed_word, bytes_of}
use Rattle.records.specs.Headers.{case_header_of}
use Rattle.records.specs.Headers.{borders_start, bids_start, end_by}
use Rattle.records.specs.Records.{border_of, bid_of}
use Rattle.layout.specs.CaseBytes.{demand_bytes, border_bytes, bid_bytes, each, case_header, written, case_size, count_allowed, offset_right, direction_known, bytes_answer, records_answer, case_answer, case_in}
use Rattle.layout.specs.Exact.{Bytewise, BidsAllowed, CaseLayout}
use Rattle.market.proofs.Firsts.{and_then_first, and_then_second, yes_one, ask_all, and_then_both}
use Rattle.layout.proofs.Cases.{header_taken, records_taken, direction_part, both_first, both_second, taken_end, taken_valid}
use Rattle.layout.proofs.RoundTrips.{number_back, demand_back, demand_again, border_back, border_again, bid_back, bid_again, direction_low, bytes_again, all_part, length_part, part_join, table_each, part_each, each_table, length_each}
use Rattle.records.proofs.Tables.{length_table}

-- tests that hold are true
is_true : (t : Bool) → T t → t ≡ true
is_true true h = refl
is_true false h = absurd h

pub pick : (t a b : Bool) → a ≡ true → b ≡ true → cond t a b ≡ true
pick true a b h k = h
pick false a b h k = k

pub both : (a b : Bool) → a ≡ true → b ≡ true → a && b ≡ true
both a b h k = ap (λ x. x && b) h ∙ k

demand_fits : (d : ℤ) → T (demand_in_range d) → SFits w32 d
demand_fits d h =
    let both = is_true (demand_in_range d) h in
    let low : le_z (negsuc 19999999) d ≡ true = both_first (le_z (negsuc 19999999) d) (le_z d (pos 20000000)) both in
    let high : le_z d (pos 20000000) ≡ true = both_second (le_z (negsuc 19999999) d) (le_z d (pos 20000000)) both in
    record { sfits = grind (arith, ints) }

headers_same : (bs : List ℕ) (k a s b f i t : ℕ) → word 0 bs ≡ k → word 1 bs ≡ a → word 2 bs ≡ s → word 3 bs ≡ b → word 4 bs ≡ f → word 5 bs ≡ i → word 6 bs ≡ t
    → case_header_of bs ≡ record { kind = k; areas = a; areas_at = s; borders = b; borders_at = f; bids = i; bids_at = t }
headers_same bs k a s b f i t e0 e1 e2 e3 e4 e5 e6 = cc

-- the case that a header of this kind gives
case_in_by : (bs : List ℕ) (h : CaseHeader) → case_header_of bs ≡ h
    → case_in bs ≡ case_of (table signed_word 4 h.areas (drop 28 bs)) (table border_of 12 h.borders (drop (borders_start h) bs)) (table bid_of 12 h.bids (drop (bids_start h) bs))
case_in_by bs h e =
    ap (λ h. case_of (table signed_word 4 h.areas (drop 28 bs)) (table border_of 12 h.borders (drop (borders_start h) bs)) (table bid_of 12 h.bids (drop (bids_start h) bs))) e

pub written_size : (c : Case) → length (written c) ≡ case_size c
written_size c =
    let d = length_each demand_bytes 4 (λ x. refl) c.demands in
    let b = length_each border_bytes 12 (λ x. refl) c.borders in
    let o = length_each bid_bytes 12 (λ x. refl) c.bids in
    length-append (case_header (length c.demands) (length c.borders) (length c.bids)) (each demand_bytes c.demands ++ (each border_bytes c.borders ++ each bid_bytes c.bids))
    ∙ omega (arith, length-append (each demand_bytes c.demands) (each border_bytes c.borders ++ each bid_bytes c.bids), length-append (each border_bytes c.borders) (each bid_bytes c.bids))

-- what a valid case's records are, in their widths
module _ (c : Case) (valid : Valid c) where
  border_fits : (b : Border) → T (ends_known (areas c) b) × T (limits_in_range b) → (length (border_bytes b) ≡ 12) × (border_of (border_bytes b) ≡ b)
  border_fits b (ends, limits) =
      let few = valid.few_areas in
      let ends_on = is_true (ends_known (areas c) b) ends in
      let limits_on = is_true (limits_in_range b) limits in
      let from_low : b.from < areas c = ltb-true b.from (areas c) (both_first (ltb b.from (areas c)) _ ends_on) in
      let to_low : b.to < areas c = ltb-true b.to (areas c) (both_first (ltb b.to (areas c)) _ (both_second (ltb b.from (areas c)) _ ends_on)) in
      let forward_low : b.forward ≤ 20000000 = leb-true b.forward 20000000 (both_first (leb b.forward 20000000) (leb b.backward 20000000) limits_on) in
      let backward_low : b.backward ≤ 20000000 = leb-true b.backward 20000000 (both_second (leb b.forward 20000000) (leb b.backward 20000000) limits_on) in
      (refl, border_back b (omega arith) (omega arith) (omega arith) (omega arith))

  bid_fits : (b : Bid) → T (bid_known (areas c) b) × T (bid_in_range b) → (length (bid_bytes b) ≡ 12) × (bid_of (bid_bytes b) ≡ b)
  bid_fits b (known, range) =
      let few = valid.few_areas in
      let known_on = is_true (bid_known (areas c) b) known in
      let range_on = is_true (bid_in_range b) range in
      let area_low : b.area < areas c = ltb-true b.area (areas c) known_on in
      let volume_low : b.volume ≤ 9999000 = leb-true b.volume 9999000 (both_first (leb b.volume 9999000) _ range_on) in
      let price_on = both_second (leb b.volume 9999000) (le_z (negsuc 9999899) b.price && le_z b.price (pos 9999900)) range_on in
      let low : le_z (negsuc 9999899) b.price ≡ true = both_first (le_z (negsuc 9999899) b.price) (le_z b.price (pos 9999900)) price_on in
      let high : le_z b.price (pos 9999900) ≡ true = both_second (le_z (negsuc 9999899) b.price) (le_z b.price (pos 9999900)) price_on in
      (refl, bid_back b (omega arith) (omega arith) (price_fits b.price low high))
    where
      price_fits : (p : ℤ) → le_z (negsuc 9999899) p ≡ true → le_z p (pos 9999900) ≡ true → SFits w32 p
      price_fits p low high = record { sfits = grind (arith, ints) }

  all_both : {X : Type 0} (P Q : X → Type 0) (xs : List X) → AllByRecursion P xs → AllByRecursion Q xs → AllByRecursion (λ x. P x × Q x) xs
  all_both P Q [] h k = tt
  all_both P Q (x ∷ xs) (h, hs) (k, ks) = ((h, k), all_both P Q xs hs ks)

  abbrev n : ℕ
  n = length c.demands

  abbrev m : ℕ
  m = length c.borders

  abbrev o : ℕ
  o = length c.bids

  abbrev header : CaseHeader
  header = record { kind = 1; areas = n; areas_at = 28; borders = m; borders_at = 28 + 4 * n; bids = o; bids_at = 28 + 4 * n + 12 * m }

  header_written : case_header_of (written c) ≡ header
  header_written =
      let a = valid.few_areas in
      let b = valid.few_borders in
      let d = valid.few_bids in
      headers_same (written c) 1 n 28 m (28 + 4 * n) o (28 + 4 * n + 12 * m) refl (number_back 4 n (omega arith)) refl (number_back 4 m (omega arith)) (number_back 4 (28 + 4 * n) (omega arith))
      (number_back 4 o (omega arith)) (number_back 4 (28 + 4 * n + 12 * m) (omega arith))

  borders_left : drop (28 + 4 * n) (written c) ≡ each border_bytes c.borders ++ each bid_bytes c.bids
  borders_left =
      sym (drop-drop (4 * n) 28 (written c))
      ∙ drop_at (each demand_bytes c.demands) (each border_bytes c.borders ++ each bid_bytes c.bids) (4 * n) (length_each demand_bytes 4 (λ x. refl) c.demands)

  bids_left : drop (28 + 4 * n + 12 * m) (written c) ≡ each bid_bytes c.bids
  bids_left =
      sym (drop-drop (12 * m) (28 + 4 * n) (written c))
      ∙ (ap (drop (12 * m)) borders_left ∙ drop_at (each border_bytes c.borders) (each bid_bytes c.bids) (12 * m) (length_each border_bytes 12 (λ x. refl) c.borders))

  pub case_back : case_in (written c) ≡ c
  case_back =
      let demands : table signed_word 4 n (drop 28 (written c)) ≡ c.demands =
      table_each signed_word demand_bytes 4 c.demands (each border_bytes c.borders ++ each bid_bytes c.bids)
      (All-weaker (λ d. T (demand_in_range d)) (λ d. (length (demand_bytes d) ≡ 4) × (signed_word (demand_bytes d) ≡ d)) (λ d h. (refl, demand_back d (demand_fits d h))) c.demands valid.demands_in_range) in
      let borders : table border_of 12 m (drop (28 + 4 * n) (written c)) ≡ c.borders =
      ap (table border_of 12 m) borders_left
      ∙ table_each border_of border_bytes 12 c.borders (each bid_bytes c.bids)
      (All-weaker (λ b. T (ends_known (areas c) b) × T (limits_in_range b)) (λ b. (length (border_bytes b) ≡ 12) × (border_of (border_bytes b) ≡ b)) border_fits c.borders
      (all_both (λ b. T (ends_known (areas c) b)) (λ b. T (limits_in_range b)) c.borders valid.borders_known valid.borders_in_range)) in
      let bids : table bid_of 12 o (drop (28 + 4 * n + 12 * m) (written c)) ≡ c.bids =
      ap (table bid_of 12 o) (bids_left ∙ sym (append-nil (each bid_bytes c.bids)))
      ∙ table_each bid_of bid_bytes 12 c.bids []
      (All-weaker (λ b. T (bid_known (areas c) b) × T (bid_in_range b)) (λ b. (length (bid_bytes b) ≡ 12) × (bid_of (bid_bytes b) ≡ b)) bid_fits c.bids
      (all_both (λ b. T (bid_known (areas c) b)) (λ b. T (bid_in_range b)) c.bids valid.bids_known valid.bids_in_range)) in
      case_in_by (written c) header header_written
      ∙ (ap (λ d. case_of d (table border_of 12 m (drop (28 + 4 * n) (written c))) (table bid_of 12 o (drop (28 + 4 * n + 12 * m) (written c)))) demands
      ∙ (ap (λ b. case_of c.demands b (table bid_of 12 o (drop (28 + 4 * n + 12 * m) (written c)))) borders ∙ ap (case_of c.demands c.borders) bids))

  -- every question passes on what was written
  counts_fine : (bids : Bool) → BidsAllowed bids c → (k : ℕ) → count_allowed bids header k ≡ true
  counts_fine bids allowed k =
      pick (eqb k 1) (leb n 48) _ (le-leb n 48 valid.few_areas)
      (pick (eqb k 3) (leb m 128) _ (le-leb m 128 valid.few_borders)
      (pick (eqb k 5) (leb o 1024 && (bids || eqb o 0)) true (both (leb o 1024) (bids || eqb o 0) (le-leb o 1024 valid.few_bids) (is_true (bids || eqb o 0) allowed)) refl))

  offsets_fine : (k : ℕ) → offset_right header (length (written c)) k ≡ true
  offsets_fine k =
      pick (eqb k 2) true _ refl
      (pick (eqb k 4) (eqb (28 + 4 * n) (28 + 4 * n)) _ (eq-eqb (28 + 4 * n) (28 + 4 * n) refl)
      (pick (eqb k 6) (eqb (28 + 4 * n + 12 * m) (28 + 4 * n + 12 * m)) _ (eq-eqb (28 + 4 * n + 12 * m) (28 + 4 * n + 12 * m) refl)
      (pick (eqb k 7) (eqb (length (written c)) (end_by header)) true (eq-eqb (length (written c)) (end_by header) (written_size c)) refl)))

  bytes_yes : (bids : Bool) → BidsAllowed bids c → bytes_answer bids (written c) ≡ Ok tt
  bytes_yes bids allowed =
      and_then_both (ask_one (leb 28 (length (written c))) (Header (length (written c)))) _
      (yes_one (leb 28 (length (written c))) (Header (length (written c))) (le-leb 28 (length (written c)) (omega (arith, written_size c))))
      (and_then_both (ask (count_allowed bids (case_header_of (written c))) 7 Count) (ask (offset_right (case_header_of (written c)) (length (written c))) 8 Offset)
      (ask_all (count_allowed bids (case_header_of (written c))) 7 Count (λ k below. ap (λ h. count_allowed bids h k) header_written ∙ counts_fine bids allowed k))
      (ask_all (offset_right (case_header_of (written c)) (length (written c))) 8 Offset (λ k below. ap (λ h. offset_right h (length (written c)) k) header_written ∙ offsets_fine k)))

  direction_written : (k : ℕ) → k < o → direction_known (written c) k ≡ true
  direction_written k below =
      let bid : part (12 * k) 12 (drop (bids_start header) (written c)) ≡ bid_bytes (get_or c.bids k no_bid) =
      ap (part (12 * k) 12) (bids_left ∙ sym (append-nil (each bid_bytes c.bids))) ∙ part_each bid_of bid_bytes 12 c.bids k no_bid [] (all_long c.bids) below in
      ap (λ h. leb (little_endian (part (bids_start h + 12 * k + 2) 2 (written c))) 1) header_written
      ∙ (ap (λ p. leb (little_endian p) 1) (sym (direction_part (written c) k (bids_start header)) ∙ ap (part 2 2) bid)
      ∙ direction_low (get_or c.bids k no_bid).direction)
    where
      all_long : (xs : List Bid) → AllByRecursion (λ b. length (bid_bytes b) ≡ 12) xs
      all_long [] = tt
      all_long (x ∷ xs) = (refl, all_long xs)

  at : {X : Type 0} (test : X → Bool) (xs : List X) (d : X) → AllByRecursion (λ x. T (test x)) xs → (k : ℕ) → k < length xs → test (get_or xs k d) ≡ true
  at test xs d h k below = is_true (test (get_or xs k d)) (All-get_or (λ x. T (test x)) xs k d below h)

  records_yes : records_answer c (direction_known (written c)) ≡ Ok tt
  records_yes =
      and_then_both (ask (λ k. demand_in_range (demand_at c k)) (areas c) Demand) _
      (ask_all (λ k. demand_in_range (demand_at c k)) (areas c) Demand (at demand_in_range c.demands (pos 0) valid.demands_in_range))
      (and_then_both (ask (λ k. ends_known (areas c) (border_at c k)) m Ends) _
      (ask_all (λ k. ends_known (areas c) (border_at c k)) m Ends (at (ends_known (areas c)) c.borders no_border valid.borders_known))
      (and_then_both (ask (λ k. limits_in_range (border_at c k)) m Limits) _
      (ask_all (λ k. limits_in_range (border_at c k)) m Limits (at limits_in_range c.borders no_border valid.borders_in_range))
      (and_then_both (ask (λ k. bid_known (areas c) (bid_at c k) && direction_known (written c) k) o Origin) (ask (λ k. bid_in_range (bid_at c k)) o Offer)
      (ask_all (λ k. bid_known (areas c) (bid_at c k) && direction_known (written c) k) o Origin
      (λ k below. both (bid_known (areas c) (bid_at c k)) (direction_known (written c) k) (at (bid_known (areas c)) c.bids no_bid valid.bids_known k below) (direction_written k below)))
      (ask_all (λ k. bid_in_range (bid_at c k)) o Offer (at bid_in_range c.bids no_bid valid.bids_in_range)))))

  pub written_taken : (bids : Bool) → BidsAllowed bids c → case_answer bids (written c) ≡ Ok tt
  written_taken bids allowed =
      and_then_both (bytes_answer bids (written c)) (records_answer (case_in (written c)) (direction_known (written c))) (bytes_yes bids allowed)
      (ap (λ x. records_answer x (direction_known (written c))) case_back ∙ records_yes)

-- and taken bytes are those that their case writes
seven_same : (a b c d e f g a' b' c' d' e' f' g' : List ℕ) → a ≡ a' → b ≡ b' → c ≡ c' → d ≡ d' → e ≡ e' → f ≡ f' → g ≡ g'
    → a ++ (b ++ (c ++ (d ++ (e ++ (f ++ g))))) ≡ a' ++ (b' ++ (c' ++ (d' ++ (e' ++ (f' ++ g')))))
seven_same a b c d e f g a' b' c' d' e' f' g' e0 e1 e2 e3 e4 e5 e6 = cc

seven_parts : (bs : List ℕ) → part 0 4 bs ++ (part 4 4 bs ++ (part 8 4 bs ++ (part 12 4 bs ++ (part 16 4 bs ++ (part 20 4 bs ++ part 24 4 bs))))) ≡ take 28 bs
seven_parts bs =
    ap (λ x. part 0 4 bs ++ (part 4 4 bs ++ (part 8 4 bs ++ (part 12 4 bs ++ (part 16 4 bs ++ x))))) (part_join 20 4 4 24 bs refl)
    ∙ (ap (λ x. part 0 4 bs ++ (part 4 4 bs ++ (part 8 4 bs ++ (part 12 4 bs ++ x)))) (part_join 16 4 8 20 bs refl)
    ∙ (ap (λ x. part 0 4 bs ++ (part 4 4 bs ++ (part 8 4 bs ++ x))) (part_join 12 4 12 16 bs refl)
    ∙ (ap (λ x. part 0 4 bs ++ (part 4 4 bs ++ x)) (part_join 8 4 16 12 bs refl)
    ∙ (ap (λ x. part 0 4 bs ++ x) (part_join 4 4 20 8 bs refl) ∙ part_join 0 4 24 4 bs refl))))

module _ (bids : Bool) (bs : List ℕ) (bytewise : Bytewise bs) (taken : case_answer bids bs ≡ Ok tt) where
  abbrev found : Case
  found = case_in bs

  abbrev h : CaseHeader
  h = case_header_of bs

  bytes_taken : bytes_answer bids bs ≡ Ok tt
  bytes_taken = and_then_first (bytes_answer bids bs) (records_answer found (direction_known bs)) taken

  end : length bs ≡ end_by h
  end = taken_end bids bs bytes_taken

  word_again : (k : ℕ) → 4 * k + 4 ≤ length bs → bytes_of 4 (word k bs) ≡ part (4 * k) 4 bs
  word_again k fits = bytes_again 4 (part (4 * k) 4 bs) (length_part (4 * k) 4 bs fits) (all_part (4 * k) 4 bs bytewise)

  header_again : case_header (length found.demands) (length found.borders) (length found.bids) ≡ take 28 bs
  header_again =
      let fine = header_taken bids bs bytes_taken in
      let n : length found.demands ≡ word 1 bs = length_table signed_word 4 (word 1 bs) (drop 28 bs) in
      let m : length found.borders ≡ word 3 bs = length_table border_of 12 (word 3 bs) (drop (borders_start h) bs) in
      let o : length found.bids ≡ word 5 bs = length_table bid_of 12 (word 5 bs) (drop (bids_start h) bs) in
      let areas_at : word 2 bs ≡ 28 = eqb-true (word 2 bs) 28 (fine.offsets 2 (omega arith)) in
      let borders_at : word 4 bs ≡ borders_start h = eqb-true (word 4 bs) (borders_start h) (fine.offsets 4 (omega arith)) in
      let bids_at : word 6 bs ≡ bids_start h = eqb-true (word 6 bs) (bids_start h) (fine.offsets 6 (omega arith)) in
      seven_same (bytes_of 4 1) (bytes_of 4 (length found.demands)) (bytes_of 4 28) (bytes_of 4 (length found.borders)) (bytes_of 4 (28 + 4 * length found.demands))
      (bytes_of 4 (length found.bids)) (bytes_of 4 (28 + 4 * length found.demands + 12 * length found.borders))
      (part 0 4 bs) (part 4 4 bs) (part 8 4 bs) (part 12 4 bs) (part 16 4 bs) (part 20 4 bs) (part 24 4 bs)
      (ap (bytes_of 4) (sym fine.kind) ∙ word_again 0 (omega (arith, fine.whole)))
      (ap (bytes_of 4) n ∙ word_again 1 (omega (arith, fine.whole)))
      (ap (bytes_of 4) (sym areas_at) ∙ word_again 2 (omega (arith, fine.whole)))
      (ap (bytes_of 4) m ∙ word_again 3 (omega (arith, fine.whole)))
      (ap (bytes_of 4) (ap (λ x. 28 + 4 * x) n ∙ sym borders_at) ∙ word_again 4 (omega (arith, fine.whole)))
      (ap (bytes_of 4) o ∙ word_again 5 (omega (arith, fine.whole)))
      (ap (bytes_of 4) (ap (λ x. 28 + 4 * x + 12 * length found.borders) n ∙ (ap (λ x. 28 + 4 * word 1 bs + 12 * x) m ∙ sym bids_at)) ∙ word_again 6 (omega (arith, fine.whole)))
      ∙ seven_parts bs

  -- a record of a table within the bytes
  record_long : (offset size count k : ℕ) → offset + size * count ≤ length bs → k < count → offset + (size * k + size) ≤ length bs
  record_long offset size count k fits below = omega (arith, mul-le-mul_left size below, mul-suc size k)

  demands_again : each demand_bytes found.demands ≡ part 28 (4 * h.areas) bs
  demands_again = each_table signed_word demand_bytes 4 h.areas (drop 28 bs) (λ k below.
      let long : length (part (4 * k) 4 (drop 28 bs)) ≡ 4 = length_part (4 * k) 4 (drop 28 bs) (rw length-drop (omega (arith, record_long 28 4 h.areas k (omega (arith, end)) below))) in
      demand_again (part (4 * k) 4 (drop 28 bs)) long (all_part (4 * k) 4 (drop 28 bs) (All-drop (λ b. b < 256) 28 bs bytewise)))

  borders_again : each border_bytes found.borders ≡ part (borders_start h) (12 * h.borders) bs
  borders_again = each_table border_of border_bytes 12 h.borders (drop (borders_start h) bs) (λ k below.
      let long : length (part (12 * k) 12 (drop (borders_start h) bs)) ≡ 12 =
      length_part (12 * k) 12 (drop (borders_start h) bs) (rw length-drop (omega (arith, record_long (borders_start h) 12 h.borders k (omega (arith, end)) below))) in
      border_again (part (12 * k) 12 (drop (borders_start h) bs)) long (all_part (12 * k) 12 (drop (borders_start h) bs) (All-drop (λ b. b < 256) (borders_start h) bs bytewise)))

  bids_again : each bid_bytes found.bids ≡ part (bids_start h) (12 * h.bids) bs
  bids_again = each_table bid_of bid_bytes 12 h.bids (drop (bids_start h) bs) (λ k below.
      let long : length (part (12 * k) 12 (drop (bids_start h) bs)) ≡ 12 =
      length_part (12 * k) 12 (drop (bids_start h) bs) (rw length-drop (omega (arith, record_long (bids_start h) 12 h.bids k (omega (arith, end)) below))) in
      let count : length found.bids ≡ h.bids = length_table bid_of 12 h.bids (drop (bids_start h) bs) in
      let known : direction_known bs k ≡ true =
      both_second (bid_known (areas found) (bid_at found k)) (direction_known bs k)
      ((records_taken found (direction_known bs) (and_then_second (bytes_answer bids bs) (records_answer found (direction_known bs)) taken)).origins k (omega arith)) in
      bid_again (part (12 * k) 12 (drop (bids_start h) bs)) long (all_part (12 * k) 12 (drop (bids_start h) bs) (All-drop (λ b. b < 256) (bids_start h) bs bytewise))
      (ap (λ p. leb (little_endian p) 1) (direction_part bs k (bids_start h)) ∙ known))

  pub bytes_back : written (case_in bs) ≡ bs
  bytes_back =
      ap (λ x. x ++ (each demand_bytes found.demands ++ (each border_bytes found.borders ++ each bid_bytes found.bids))) header_again
      ∙ (ap (λ x. take 28 bs ++ (x ++ (each border_bytes found.borders ++ each bid_bytes found.bids))) demands_again
      ∙ (ap (λ x. take 28 bs ++ (part 28 (4 * h.areas) bs ++ (x ++ each bid_bytes found.bids))) borders_again
      ∙ (ap (λ x. take 28 bs ++ (part 28 (4 * h.areas) bs ++ (part (borders_start h) (12 * h.borders) bs ++ x))) bids_again
      ∙ (ap (λ x. take 28 bs ++ (part 28 (4 * h.areas) bs ++ x)) (part_join (borders_start h) (12 * h.borders) (12 * h.bids) (bids_start h) bs refl)
      ∙ (ap (λ x. take 28 bs ++ x) (part_join 28 (4 * h.areas) (12 * h.borders + 12 * h.bids) (borders_start h) bs refl)
      ∙ (part_join 0 28 (4 * h.areas + (12 * h.borders + 12 * h.bids)) 28 bs refl
      ∙ take_all (28 + (4 * h.areas + (12 * h.borders + 12 * h.bids))) bs (omega (arith, end))))))))

  pub bids_taken : BidsAllowed bids (case_in bs)
  bids_taken =
      let count : length found.bids ≡ word 5 bs = length_table bid_of 12 (word 5 bs) (drop (bids_start h) bs) in
      let fine : bids || eqb (word 5 bs) 0 ≡ true = both_second (leb (word 5 bs) 1024) (bids || eqb (word 5 bs) 0) ((header_taken bids bs bytes_taken).counts 5 (omega arith)) in
      subst T (sym (ap (λ x. bids || eqb x 0) count ∙ fine)) tt

pub case_layout : CaseLayout
case_layout = record {
  exactly = λ bids bs bytewise. (
    (λ taken. (case_in bs, taken_valid bids bs taken, bids_taken bids bs bytewise taken, sym (bytes_back bids bs bytewise taken))),
    (λ (c, valid, allowed, is). subst (λ (x : List ℕ). case_answer bids x ≡ Ok tt) (sym is) (written_taken c valid bids allowed)),
  );
  case_back = case_back;
  bytes_back = bytes_back;
  size = written_size;
}
