-- A selection with its prices and the bytes of a proposal determine each other. Assumes nothing.
use Rattle.std.proofs.Common.{◌≡◌, ℕ, ◌+◌, ◌*◌, ◌/◌, ◌^◌, ◌<◌, ◌≤◌, true, ◌&&◌, eqb, leb, List, [], ◌∷◌, ◌++◌, length, get_or, take, drop, ℤ, Ok, Result, sym, refl, ap, ◌∙◌, append_assoc, mul-le-mul_left, mul-suc, arith, length-append, w32, w64, SFits, eq-eqb, eqb-true, le-leb, leb-true}
use Rattle.std.specs.List.{AllByRecursion}
use Rattle.std.proofs.lemmas.List.{drop-drop, take_at, drop_at, take_all, append-nil}
use Rattle.std.proofs.ByRecursion.{All-weaker, All-get_or}
use Rattle.market.specs.declared.refusal.Refusal.{Refusal}
use Rattle.market.specs.declared.refusal.Refusal.TheVariants.{Header, Kind, Count, Offset}
use Rattle.market.specs.First.{and_then, ask, ask_one}
use Rattle.market.specs.Selections.{Selection}
use Rattle.scale.specs.Levels.{little_endian, numbers}
use Rattle.records.specs.declared.header.ProposalHeader.{ProposalHeader}
use Rattle.layout.specs.declared.proposal.Counts.{Counts}
use Rattle.records.specs.Bytes.{part, word, table, signed_word, bytes_of}
use Rattle.records.specs.Headers.{proposal_header_of}
use Rattle.layout.specs.CaseBytes.{each}
use Rattle.layout.specs.ProposalBytes.{flows_offset, activated_offset, prices_offset, proposal_end, starts, satisfied_part, flows_part, activated_part, prices_part, signed_amounts, unsigned_amounts, selection_in, price_part, count_right, section_right, proposal_answer, amount_bytes, level_bytes, proposal_header, proposal_bytes}
use Rattle.layout.specs.Writing.{counts_in, proposal_written}
use Rattle.layout.specs.Exact.{Bytewise, Writable, prices_in, all_levels, ProposalLayout}
use Rattle.market.proofs.Firsts.{and_then_first, and_then_second, ask_one_yes, all_from_ask, yes_one, ask_all, and_then_both}
use Rattle.layout.proofs.Cases.{both_second}
use Rattle.layout.proofs.Exactly.{pick, both}
use Rattle.layout.proofs.Proposals.{taken_length, selection_same}
use Rattle.layout.proofs.RoundTrips.{number_back, bytes_again, demand_back, demand_again, level_of, level_back, level_again, numbers_table, all_part, length_part, part_join, table_each, part_each, each_table, records_each, length_each}

headers_same : (bs : List ℕ) (k a s b f i t l p : ℕ) → word 0 bs ≡ k → word 1 bs ≡ a → word 2 bs ≡ s → word 3 bs ≡ b → word 4 bs ≡ f → word 5 bs ≡ i → word 6 bs ≡ t → word 7 bs ≡ l → word 8 bs ≡ p
    → proposal_header_of bs ≡ record { kind = k; areas = a; satisfied = s; borders = b; flows = f; bids = i; activated = t; levels = l; prices = p }
headers_same bs k a s b f i t l p e0 e1 e2 e3 e4 e5 e6 e7 e8 = cc

-- the numbers of a price, and back
price_back : (levels : ℕ) (p : List ℤ) → length p ≡ levels → AllByRecursion (SFits w64) p → numbers levels (each level_bytes p) ≡ p
price_back levels p long fits =
    numbers_table levels (each level_bytes p)
    ∙ (ap (λ n. table level_of 8 n (each level_bytes p)) (sym long)
    ∙ (ap (table level_of 8 (length p)) (sym (append-nil (each level_bytes p)))
    ∙ table_each level_of level_bytes 8 p [] (All-weaker (SFits w64) (λ z. (length (level_bytes z) ≡ 8) × (level_of (level_bytes z) ≡ z)) (λ z h. (refl, level_back z h)) p fits)))

price_again : (levels : ℕ) (r : List ℕ) → length r ≡ 8 * levels → Bytewise r → each level_bytes (numbers levels r) ≡ r
price_again levels r long h =
    ap (each level_bytes) (numbers_table levels r)
    ∙ (each_table level_of level_bytes 8 levels r
    (λ k below. level_again (part (8 * k) 8 r) (length_part (8 * k) 8 r (omega (arith, mul-le-mul_left 8 below))) (all_part (8 * k) 8 r h))
    ∙ take_all (8 * levels) r (omega arith))

-- all prices in one run
each_append : {X : Type 0} (f : X → List ℕ) (xs ys : List X) → each f (xs ++ ys) ≡ each f xs ++ each f ys
each_append f [] ys = refl
each_append f (x ∷ xs) ys = ap (λ l. f x ++ l) (each_append f xs ys) ∙ sym (append_assoc (f x) (each f xs) (each f ys))

each_all : (ps : List (List ℤ)) → each (each level_bytes) ps ≡ each level_bytes (all_levels ps)
each_all [] = refl
each_all (p ∷ ps) = ap (λ l. each level_bytes p ++ l) (each_all ps) ∙ sym (each_append level_bytes p (all_levels ps))

length_prices : (levels : ℕ) (ps : List (List ℤ)) → AllByRecursion (λ p. (length p ≡ levels) × AllByRecursion (SFits w64) p) ps → length (each (each level_bytes) ps) ≡ 8 * levels * length ps
length_prices levels [] h = omega arith
length_prices levels (p ∷ ps) ((long, fits), rest) =
    length-append (each level_bytes p) (each (each level_bytes) ps)
    ∙ omega (arith, length_each level_bytes 8 (λ x. refl) p, length_prices levels ps rest, mul-suc (8 * levels) (length ps))

module _ (n : Counts) (levels : ℕ) (s : Selection) (prices : List (List ℤ)) (w : Writable n levels s prices) where
  abbrev bytes : List ℕ
  bytes = proposal_bytes n levels s prices

  abbrev S : List ℕ
  S = each amount_bytes s.satisfied

  abbrev F : List ℕ
  F = each amount_bytes s.flows

  abbrev X : List ℕ
  X = each (bytes_of 4) s.activated

  abbrev P : List ℕ
  P = each (each level_bytes) prices

  s_long : length S ≡ 4 * n.areas
  s_long = length_each amount_bytes 4 (λ x. refl) s.satisfied ∙ ap (λ k. 4 * k) w.satisfied_count

  f_long : length F ≡ 4 * n.borders
  f_long = length_each amount_bytes 4 (λ x. refl) s.flows ∙ ap (λ k. 4 * k) w.flows_count

  x_long : length X ≡ 4 * n.bids
  x_long = length_each (bytes_of 4) 4 (λ x. refl) s.activated ∙ ap (λ k. 4 * k) w.activated_count

  p_long : length P ≡ 8 * levels * n.areas
  p_long = length_prices levels prices w.prices_fit ∙ ap (λ k. 8 * levels * k) w.prices_count

  flows_left : drop (flows_offset n) bytes ≡ F ++ (X ++ P)
  flows_left = sym (drop-drop (4 * n.areas) 36 bytes) ∙ drop_at S (F ++ (X ++ P)) (4 * n.areas) s_long

  activated_left : drop (activated_offset n) bytes ≡ X ++ P
  activated_left = sym (drop-drop (4 * n.borders) (flows_offset n) bytes) ∙ (ap (drop (4 * n.borders)) flows_left ∙ drop_at F (X ++ P) (4 * n.borders) f_long)

  prices_left : drop (prices_offset n) bytes ≡ P
  prices_left = sym (drop-drop (4 * n.bids) (activated_offset n) bytes) ∙ (ap (drop (4 * n.bids)) activated_left ∙ drop_at X P (4 * n.bids) x_long)

  satisfied_is : satisfied_part n bytes ≡ S
  satisfied_is = take_at S (F ++ (X ++ P)) (4 * n.areas) s_long

  flows_is : flows_part n bytes ≡ F
  flows_is = ap (take (4 * n.borders)) flows_left ∙ take_at F (X ++ P) (4 * n.borders) f_long

  activated_is : activated_part n bytes ≡ X
  activated_is = ap (take (4 * n.bids)) activated_left ∙ take_at X P (4 * n.bids) x_long

  prices_is : prices_part n levels bytes ≡ P
  prices_is = ap (take (8 * levels * n.areas)) prices_left ∙ take_all (8 * levels * n.areas) P (omega (arith, p_long))

  amounts_back : (xs : List ℤ) → AllByRecursion (SFits w32) xs → signed_amounts (each amount_bytes xs) ≡ xs
  amounts_back xs fits =
      records_each signed_word amount_bytes 4 xs (omega arith) (All-weaker (SFits w32) (λ z. (length (amount_bytes z) ≡ 4) × (signed_word (amount_bytes z) ≡ z)) (λ z h. (refl, demand_back z h)) xs fits)
      (length_each amount_bytes 4 (λ x. refl) xs)

  pub selection_back : selection_in n bytes ≡ s
  selection_back =
      selection_same (signed_amounts (satisfied_part n bytes)) s.satisfied (signed_amounts (flows_part n bytes)) s.flows (unsigned_amounts (activated_part n bytes)) s.activated
      (ap signed_amounts satisfied_is ∙ amounts_back s.satisfied w.satisfied_fit)
      (ap signed_amounts flows_is ∙ amounts_back s.flows w.flows_fit)
      (ap unsigned_amounts activated_is
      ∙ records_each little_endian (bytes_of 4) 4 s.activated (omega arith)
      (All-weaker (λ x. x < 2 ^ 32) (λ x. (length (bytes_of 4 x) ≡ 4) × (little_endian (bytes_of 4 x) ≡ x)) (λ x h. (refl, number_back 4 x h)) s.activated w.activated_fit)
      (length_each (bytes_of 4) 4 (λ x. refl) s.activated))

  pub prices_back : (area : ℕ) → area < n.areas → numbers levels (price_part levels (prices_part n levels bytes) area) ≡ get_or prices area []
  prices_back area below =
      let inside : area < length prices = omega (arith, w.prices_count) in
      let fine = All-get_or (λ p. (length p ≡ levels) × AllByRecursion (SFits w64) p) prices area [] inside w.prices_fit in
      ap (λ p. numbers levels (part (8 * levels * area) (8 * levels) p)) (prices_is ∙ sym (append-nil P))
      ∙ (ap (numbers levels)
      (part_each (numbers levels) (each level_bytes) (8 * levels) prices area [] []
      (All-weaker (λ p. (length p ≡ levels) × AllByRecursion (SFits w64) p) (λ p. length (each level_bytes p) ≡ 8 * levels) (λ p h. length_each level_bytes 8 (λ x. refl) p ∙ ap (λ k. 8 * k) h.0) prices w.prices_fit)
      inside)
      ∙ price_back levels (get_or prices area []) fine.0 fine.1)

  abbrev header : ProposalHeader
  header = record {
    kind = 2;
    areas = n.areas;
    satisfied = 36;
    borders = n.borders;
    flows = flows_offset n;
    bids = n.bids;
    activated = activated_offset n;
    levels = levels;
    prices = prices_offset n;
  }

  header_written : proposal_header_of bytes ≡ header
  header_written =
      let a = w.few_areas in
      let b = w.few_borders in
      let d = w.few_bids in
      let l = w.few_levels in
      headers_same bytes 2 n.areas 36 n.borders (flows_offset n) n.bids (activated_offset n) levels (prices_offset n) refl (number_back 4 n.areas (omega arith)) refl
      (number_back 4 n.borders (omega arith)) (number_back 4 (flows_offset n) (omega arith)) (number_back 4 n.bids (omega arith)) (number_back 4 (activated_offset n) (omega arith))
      (number_back 4 levels (omega arith)) (number_back 4 (prices_offset n) (omega arith))

  bytes_long : length bytes ≡ proposal_end n levels
  bytes_long =
      length-append (proposal_header n levels) (S ++ (F ++ (X ++ P)))
      ∙ omega (arith, length-append S (F ++ (X ++ P)), length-append F (X ++ P), length-append X P, s_long, f_long, x_long, p_long)

  counts_fine : (k : ℕ) → count_right n levels header k ≡ true
  counts_fine k =
      pick (eqb k 1) (eqb n.areas n.areas) _ (eq-eqb n.areas n.areas refl)
      (pick (eqb k 3) (eqb n.borders n.borders) _ (eq-eqb n.borders n.borders refl)
      (pick (eqb k 5) (eqb n.bids n.bids) _ (eq-eqb n.bids n.bids refl)
      (pick (eqb k 7) (leb levels 16 && eqb levels levels) true (both (leb levels 16) (eqb levels levels) (le-leb levels 16 w.few_levels) (eq-eqb levels levels refl)) refl)))

  sections_fine : (k : ℕ) → section_right (starts n levels) header (length bytes) k ≡ true
  sections_fine k =
      pick (eqb k 2) true _ refl
      (pick (eqb k 4) (eqb (flows_offset n) (flows_offset n)) _ (eq-eqb (flows_offset n) (flows_offset n) refl)
      (pick (eqb k 6) (eqb (activated_offset n) (activated_offset n)) _ (eq-eqb (activated_offset n) (activated_offset n) refl)
      (pick (eqb k 8) (eqb (prices_offset n) (prices_offset n)) _ (eq-eqb (prices_offset n) (prices_offset n) refl)
      (pick (eqb k 9) (eqb (length bytes) (proposal_end n levels)) true (eq-eqb (length bytes) (proposal_end n levels) bytes_long) refl))))

  pub taken : proposal_answer n levels bytes ≡ Ok tt
  taken =
      and_then_both (ask_one (leb 36 (length bytes)) (Header (length bytes))) _
      (yes_one (leb 36 (length bytes)) (Header (length bytes)) (le-leb 36 (length bytes) (omega (arith, bytes_long))))
      (and_then_both (ask (count_right n levels (proposal_header_of bytes)) 9 Count) (ask (section_right (starts n levels) (proposal_header_of bytes) (length bytes)) 10 Offset)
      (ask_all (count_right n levels (proposal_header_of bytes)) 9 Count (λ k below. ap (λ h. count_right n levels h k) header_written ∙ counts_fine k))
      (ask_all (section_right (starts n levels) (proposal_header_of bytes) (length bytes)) 10 Offset
      (λ k below. ap (λ h. section_right (starts n levels) h (length bytes) k) header_written ∙ sections_fine k)))

  pub as_written : bytes ≡ proposal_written levels s (all_levels prices)
  as_written =
      let same : n ≡ counts_in s = counts_same n (length s.satisfied) (length s.flows) (length s.activated) w.satisfied_count w.flows_count w.activated_count in
      ap (λ m. proposal_header m levels ++ (S ++ (F ++ (X ++ P)))) same
      ∙ ap (λ l. proposal_header (counts_in s) levels ++ (S ++ (F ++ (X ++ l)))) (each_all prices)
    where
      counts_same : (n : Counts) (a b c : ℕ) → a ≡ n.areas → b ≡ n.borders → c ≡ n.bids → n ≡ record { areas = a; borders = b; bids = c }
      counts_same n a b c e f g =
          ap (λ x. record { areas = x; borders = n.borders; bids = n.bids }) (sym e)
          ∙ (ap (λ x. record { areas = a; borders = x; bids = n.bids }) (sym f) ∙ ap (λ x. record { areas = a; borders = b; bids = x }) (sym g))

-- and taken bytes are those that what they hold writes
nine_same : (a b c d e f g h i a' b' c' d' e' f' g' h' i' : List ℕ) → a ≡ a' → b ≡ b' → c ≡ c' → d ≡ d' → e ≡ e' → f ≡ f' → g ≡ g' → h ≡ h' → i ≡ i'
    → a ++ (b ++ (c ++ (d ++ (e ++ (f ++ (g ++ (h ++ i))))))) ≡ a' ++ (b' ++ (c' ++ (d' ++ (e' ++ (f' ++ (g' ++ (h' ++ i')))))))
nine_same a b c d e f g h i a' b' c' d' e' f' g' h' i' e0 e1 e2 e3 e4 e5 e6 e7 e8 = cc

nine_parts : (bs : List ℕ)
    → part 0 4 bs ++ (part 4 4 bs ++ (part 8 4 bs ++ (part 12 4 bs ++ (part 16 4 bs ++ (part 20 4 bs ++ (part 24 4 bs ++ (part 28 4 bs ++ part 32 4 bs))))))) ≡ take 36 bs
nine_parts bs =
    ap (λ x. part 0 4 bs ++ (part 4 4 bs ++ (part 8 4 bs ++ (part 12 4 bs ++ (part 16 4 bs ++ (part 20 4 bs ++ (part 24 4 bs ++ x))))))) (part_join 28 4 4 32 bs refl)
    ∙ (ap (λ x. part 0 4 bs ++ (part 4 4 bs ++ (part 8 4 bs ++ (part 12 4 bs ++ (part 16 4 bs ++ (part 20 4 bs ++ x)))))) (part_join 24 4 8 28 bs refl)
    ∙ (ap (λ x. part 0 4 bs ++ (part 4 4 bs ++ (part 8 4 bs ++ (part 12 4 bs ++ (part 16 4 bs ++ x))))) (part_join 20 4 12 24 bs refl)
    ∙ (ap (λ x. part 0 4 bs ++ (part 4 4 bs ++ (part 8 4 bs ++ (part 12 4 bs ++ x)))) (part_join 16 4 16 20 bs refl)
    ∙ (ap (λ x. part 0 4 bs ++ (part 4 4 bs ++ (part 8 4 bs ++ x))) (part_join 12 4 20 16 bs refl)
    ∙ (ap (λ x. part 0 4 bs ++ (part 4 4 bs ++ x)) (part_join 8 4 24 12 bs refl)
    ∙ (ap (λ x. part 0 4 bs ++ x) (part_join 4 4 28 8 bs refl) ∙ part_join 0 4 32 4 bs refl))))))

-- sections of whole records
four_long : (p : List ℕ) (count k : ℕ) → length p ≡ 4 * count → k < length p / 4 → 4 * k + 4 ≤ length p
four_long p count k long below = omega arith

amounts_again : (p : List ℕ) (count : ℕ) → length p ≡ 4 * count → Bytewise p → each amount_bytes (signed_amounts p) ≡ p
amounts_again p count long h =
    each_table signed_word amount_bytes 4 (length p / 4) p
    (λ k below. demand_again (part (4 * k) 4 p) (length_part (4 * k) 4 p (four_long p count k long below)) (all_part (4 * k) 4 p h))
    ∙ take_all (4 * (length p / 4)) p (omega arith)

unsigned_again : (p : List ℕ) (count : ℕ) → length p ≡ 4 * count → Bytewise p → each (bytes_of 4) (unsigned_amounts p) ≡ p
unsigned_again p count long h =
    each_table little_endian (bytes_of 4) 4 (length p / 4) p
    (λ k below. bytes_again 4 (part (4 * k) 4 p) (length_part (4 * k) 4 p (four_long p count k long below)) (all_part (4 * k) 4 p h))
    ∙ take_all (4 * (length p / 4)) p (omega arith)

prices_again : (levels count : ℕ) (p : List ℕ) → length p ≡ 8 * levels * count → Bytewise p → each (each level_bytes) (table (numbers levels) (8 * levels) count p) ≡ p
prices_again levels count p long h =
    each_table (numbers levels) (each level_bytes) (8 * levels) count p
    (λ k below.
    price_again levels (part (8 * levels * k) (8 * levels) p)
    (length_part (8 * levels * k) (8 * levels) p (omega (arith, mul-le-mul_left (8 * levels) below, mul-suc (8 * levels) k)))
    (all_part (8 * levels * k) (8 * levels) p h))
    ∙ take_all (8 * levels * count) p (omega arith)

module _ (n : Counts) (levels : ℕ) (bs : List ℕ) (bytewise : Bytewise bs) (yes_here : proposal_answer n levels bs ≡ Ok tt) where
  abbrev words : ProposalHeader
  words = proposal_header_of bs

  abbrev counts_asked : Result (Unit {0}) Refusal
  counts_asked = ask (count_right n levels words) 9 Count

  abbrev sections_asked : Result (Unit {0}) Refusal
  sections_asked = ask (section_right (starts n levels) words (length bs)) 10 Offset

  kind_on : and_then (ask_one (eqb (word 0 bs) 2) Kind) (and_then counts_asked sections_asked) ≡ Ok tt
  kind_on = and_then_second (ask_one (leb 36 (length bs)) (Header (length bs))) (and_then (ask_one (eqb (word 0 bs) 2) Kind) (and_then counts_asked sections_asked)) yes_here

  questions_on : and_then counts_asked sections_asked ≡ Ok tt
  questions_on = and_then_second (ask_one (eqb (word 0 bs) 2) Kind) (and_then counts_asked sections_asked) kind_on

  whole : 36 ≤ length bs
  whole =
      leb-true 36 (length bs)
      (ask_one_yes (leb 36 (length bs)) (Header (length bs))
      (and_then_first (ask_one (leb 36 (length bs)) (Header (length bs))) (and_then (ask_one (eqb (word 0 bs) 2) Kind) (and_then counts_asked sections_asked)) yes_here))

  kind_is : word 0 bs ≡ 2
  kind_is = eqb-true (word 0 bs) 2 (ask_one_yes (eqb (word 0 bs) 2) Kind (and_then_first (ask_one (eqb (word 0 bs) 2) Kind) (and_then counts_asked sections_asked) kind_on))

  count_is : (k : ℕ) → k < 9 → count_right n levels words k ≡ true
  count_is = all_from_ask (count_right n levels words) 9 Count (and_then_first counts_asked sections_asked questions_on)

  section_is : (k : ℕ) → k < 10 → section_right (starts n levels) words (length bs) k ≡ true
  section_is = all_from_ask (section_right (starts n levels) words (length bs)) 10 Offset (and_then_second counts_asked sections_asked questions_on)

  end : length bs ≡ proposal_end n levels
  end = taken_length n levels bs yes_here

  word_again : (k : ℕ) → 4 * k + 4 ≤ 36 → bytes_of 4 (word k bs) ≡ part (4 * k) 4 bs
  word_again k fits = bytes_again 4 (part (4 * k) 4 bs) (length_part (4 * k) 4 bs (omega (arith, whole))) (all_part (4 * k) 4 bs bytewise)

  header_again : proposal_header n levels ≡ take 36 bs
  header_again =
      nine_same (bytes_of 4 2) (bytes_of 4 n.areas) (bytes_of 4 36) (bytes_of 4 n.borders) (bytes_of 4 (flows_offset n)) (bytes_of 4 n.bids) (bytes_of 4 (activated_offset n))
      (bytes_of 4 levels) (bytes_of 4 (prices_offset n))
      (part 0 4 bs) (part 4 4 bs) (part 8 4 bs) (part 12 4 bs) (part 16 4 bs) (part 20 4 bs) (part 24 4 bs) (part 28 4 bs) (part 32 4 bs)
      (ap (bytes_of 4) (sym kind_is) ∙ word_again 0 (omega arith))
      (ap (bytes_of 4) (sym (eqb-true (word 1 bs) n.areas (count_is 1 (omega arith)))) ∙ word_again 1 (omega arith))
      (ap (bytes_of 4) (sym (eqb-true (word 2 bs) 36 (section_is 2 (omega arith)))) ∙ word_again 2 (omega arith))
      (ap (bytes_of 4) (sym (eqb-true (word 3 bs) n.borders (count_is 3 (omega arith)))) ∙ word_again 3 (omega arith))
      (ap (bytes_of 4) (sym (eqb-true (word 4 bs) (flows_offset n) (section_is 4 (omega arith)))) ∙ word_again 4 (omega arith))
      (ap (bytes_of 4) (sym (eqb-true (word 5 bs) n.bids (count_is 5 (omega arith)))) ∙ word_again 5 (omega arith))
      (ap (bytes_of 4) (sym (eqb-true (word 6 bs) (activated_offset n) (section_is 6 (omega arith)))) ∙ word_again 6 (omega arith))
      (ap (bytes_of 4) (sym (eqb-true (word 7 bs) levels (both_second (leb levels 16) (eqb (word 7 bs) levels) (count_is 7 (omega arith))))) ∙ word_again 7 (omega arith))
      (ap (bytes_of 4) (sym (eqb-true (word 8 bs) (prices_offset n) (section_is 8 (omega arith)))) ∙ word_again 8 (omega arith))
      ∙ nine_parts bs

  pub bytes_back : proposal_bytes n levels (selection_in n bs) (prices_in n levels bs) ≡ bs
  bytes_back =
      let satisfied = amounts_again (satisfied_part n bs) n.areas (length_part 36 (4 * n.areas) bs (omega (arith, end))) (all_part 36 (4 * n.areas) bs bytewise) in
      let flows = amounts_again (flows_part n bs) n.borders (length_part (flows_offset n) (4 * n.borders) bs (omega (arith, end))) (all_part (flows_offset n) (4 * n.borders) bs bytewise) in
      let activated = unsigned_again (activated_part n bs) n.bids (length_part (activated_offset n) (4 * n.bids) bs (omega (arith, end))) (all_part (activated_offset n) (4 * n.bids) bs bytewise) in
      let prices =
      prices_again levels n.areas (prices_part n levels bs) (length_part (prices_offset n) (8 * levels * n.areas) bs (omega (arith, end))) (all_part (prices_offset n) (8 * levels * n.areas) bs bytewise) in
      let s = selection_in n bs in
      ap (λ x. x ++ (each amount_bytes s.satisfied ++ (each amount_bytes s.flows ++ (each (bytes_of 4) s.activated ++ each (each level_bytes) (prices_in n levels bs))))) header_again
      ∙ (ap (λ x. take 36 bs ++ (x ++ (each amount_bytes s.flows ++ (each (bytes_of 4) s.activated ++ each (each level_bytes) (prices_in n levels bs))))) satisfied
      ∙ (ap (λ x. take 36 bs ++ (satisfied_part n bs ++ (x ++ (each (bytes_of 4) s.activated ++ each (each level_bytes) (prices_in n levels bs))))) flows
      ∙ (ap (λ x. take 36 bs ++ (satisfied_part n bs ++ (flows_part n bs ++ (x ++ each (each level_bytes) (prices_in n levels bs))))) activated
      ∙ (ap (λ x. take 36 bs ++ (satisfied_part n bs ++ (flows_part n bs ++ (activated_part n bs ++ x)))) prices
      ∙ (ap (λ x. take 36 bs ++ (satisfied_part n bs ++ (flows_part n bs ++ x))) (part_join (activated_offset n) (4 * n.bids) (8 * levels * n.areas) (prices_offset n) bs refl)
      ∙ (ap (λ x. take 36 bs ++ (satisfied_part n bs ++ x)) (part_join (flows_offset n) (4 * n.borders) (4 * n.bids + 8 * levels * n.areas) (activated_offset n) bs refl)
      ∙ (ap (λ x. take 36 bs ++ x) (part_join 36 (4 * n.areas) (4 * n.borders + (4 * n.bids + 8 * levels * n.areas)) (flows_offset n) bs refl)
      ∙ (part_join 0 36 (4 * n.areas + (4 * n.borders + (4 * n.bids + 8 * levels * n.areas))) 36 bs refl
      ∙ take_all (36 + (4 * n.areas + (4 * n.borders + (4 * n.bids + 8 * levels * n.areas)))) bs (omega (arith, end))))))))))

only_one : (n : Counts) (levels : ℕ) (s : Selection) (prices : List (List ℤ)) (bs : List ℕ) → Bytewise bs → proposal_answer n levels bs ≡ Ok tt
    → selection_in n bs ≡ s → prices_in n levels bs ≡ prices → bs ≡ proposal_bytes n levels s prices
only_one n levels s prices bs bytewise yes_here same prices_same =
    sym (bytes_back n levels bs bytewise yes_here)
    ∙ (ap (λ x. proposal_bytes n levels x (prices_in n levels bs)) same ∙ ap (proposal_bytes n levels s) prices_same)

pub proposal_layout : ProposalLayout
proposal_layout = record {
  taken = taken;
  selection_back = selection_back;
  prices_back = prices_back;
  bytes_back = bytes_back;
  only_one = only_one;
  as_written = as_written;
}
