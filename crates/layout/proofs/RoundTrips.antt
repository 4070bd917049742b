-- Numbers and tables to bytes and back. Assumes nothing.
use Rattle.std.proofs.Common.{◌≡◌, ℕ, zero, suc, ◌+◌, ◌*◌, ◌/◌, ◌%◌, ◌^◌, ◌<◌, ◌≤◌, Bool, true, false, cond, eqb, leb, List, [], ◌∷◌, ◌++◌, length, get_or, take, drop, ℤ, sym, refl, ap, ◌∙◌, subst, append_assoc, add_comm, mul-zero, mul-suc, arith, length-append, length-drop, take-add, w32, w64, SFits, to_z, of_z, eqb-true, leb-true}
use native.Mathlib.Nat.{mul-div_cancel_left}
use borrow.Author.Tests.{eqb-false}
use mir.Facts.{Fits-of_z}
use Rattle.std.specs.List.{AllByRecursion}
use Rattle.std.proofs.lemmas.List.{drop-drop, take_at, drop_at, take_all, length-take-le, append-nil}
use Rattle.std.proofs.ByRecursion.{All-take, All-drop}
use Rattle.std.proofs.lemmas.Int.{to_z-of_z, of_z-to_z}
use Rattle.market.specs.declared.trade.Direction.{Direction}
use Rattle.market.specs.declared.trade.Direction.TheVariants.{Up, Down}
use Rattle.market.specs.declared.trade.Border.{Border}
use Rattle.market.specs.declared.trade.Bid.{Bid}
use Rattle.scale.specs.Levels.{little_endian, numbers}
use Rattle.records.specs.Bytes.{part, signed_word, table, records, bytes_of}
use Rattle.records.specs.Records.{direction_of, direction_number, border_of, bid_of}
use Rattle.layout.specs.CaseBytes.{demand_bytes, border_bytes, bid_bytes, each}
use Rattle.layout.specs.ProposalBytes.{level_bytes}
use Rattle.layout.specs.Exact.{Bytewise}
use Rattle.records.proofs.Tables.{part_later}

-- a number comes back from its bytes, and bytes from their number
pub number_back : (k n : ℕ) → n < 256 ^ k → little_endian (bytes_of k n) ≡ n
number_back zero n h = omega arith
number_back (suc k) n h =
    let low : n / 256 < 256 ^ k = omega arith in
    ap (λ m. n % 256 + 256 * m) (number_back k (n / 256) low) ∙ omega arith

pub bytes_back : (bs : List ℕ) → Bytewise bs → bytes_of (length bs) (little_endian bs) ≡ bs
bytes_back [] h = refl
bytes_back (b ∷ bs) (low, rest) =
    let first : (b + 256 * little_endian bs) % 256 ≡ b = omega arith in
    let later : (b + 256 * little_endian bs) / 256 ≡ little_endian bs = omega arith in
    ap (λ x. x ∷ bytes_of (length bs) ((b + 256 * little_endian bs) / 256)) first
    ∙ ap (λ l. b ∷ l) (ap (bytes_of (length bs)) later ∙ bytes_back bs rest)

below_more : (b l m : ℕ) → b < 256 → l < 256 ^ m → b + 256 * l < 256 ^ suc m
below_more b l m low under = omega arith

pub number_below : (bs : List ℕ) → Bytewise bs → little_endian bs < 256 ^ length bs
number_below [] h = omega arith
number_below (b ∷ bs) (low, rest) = below_more b (little_endian bs) (length bs) low (number_below bs rest)

pub bytes_again : (k : ℕ) (bs : List ℕ) → length bs ≡ k → Bytewise bs → bytes_of k (little_endian bs) ≡ bs
bytes_again k bs long h = ap (λ m. bytes_of m (little_endian bs)) (sym long) ∙ bytes_back bs h

-- signed numbers of four bytes, and of eight
pub demand_back : (z : ℤ) → SFits w32 z → signed_word (demand_bytes z) ≡ z
demand_back z fits = let small = Fits-of_z fits in ap (to_z w32) (number_back 4 (of_z w32 z) small.fits) ∙ to_z-of_z w32 z fits

pub demand_again : (bs : List ℕ) → length bs ≡ 4 → Bytewise bs → demand_bytes (signed_word bs) ≡ bs
demand_again bs long h =
    let small : little_endian bs < 256 ^ 4 = subst (λ (m : ℕ). little_endian bs < 256 ^ m) long (number_below bs h) in
    ap (bytes_of 4) (of_z-to_z w32 (little_endian bs) small) ∙ bytes_again 4 bs long h

abbrev pub level_of : List ℕ → ℤ
level_of bs = to_z w64 (little_endian bs)

pub level_back : (z : ℤ) → SFits w64 z → level_of (level_bytes z) ≡ z
level_back z fits = let small = Fits-of_z fits in ap (to_z w64) (number_back 8 (of_z w64 z) small.fits) ∙ to_z-of_z w64 z fits

pub level_again : (bs : List ℕ) → length bs ≡ 8 → Bytewise bs → level_bytes (level_of bs) ≡ bs
level_again bs long h =
    let small : little_endian bs < 256 ^ 8 = subst (λ (m : ℕ). little_endian bs < 256 ^ m) long (number_below bs h) in
    ap (bytes_of 8) (of_z-to_z w64 (little_endian bs) small) ∙ bytes_again 8 bs long h

pub numbers_table : (n : ℕ) (bs : List ℕ) → numbers n bs ≡ table level_of 8 n bs
numbers_table zero bs = refl
numbers_table (suc n) bs = ap (λ l. level_of (take 8 bs) ∷ l) (numbers_table n (drop 8 bs))

-- parts of bytes
pub all_part : (offset size : ℕ) (bs : List ℕ) → Bytewise bs → Bytewise (part offset size bs)
all_part offset size bs h = All-take (λ b. b < 256) size (drop offset bs) (All-drop (λ b. b < 256) offset bs h)

pub length_part : (offset size : ℕ) (bs : List ℕ) → offset + size ≤ length bs → length (part offset size bs) ≡ size
length_part offset size bs fits = length-take-le size (drop offset bs) (rw length-drop (omega arith))

pub part_join : (offset m n next : ℕ) (bs : List ℕ) → next ≡ offset + m → part offset m bs ++ part next n bs ≡ part offset (m + n) bs
part_join offset m n next bs e =
    ap (λ l. part offset m bs ++ take n l) (ap (λ k. drop k bs) e ∙ sym (drop-drop m offset bs)) ∙ sym (take-add m n (drop offset bs))

-- borders and bids
pub border_back : (b : Border) → b.from < 256 ^ 2 → b.to < 256 ^ 2 → b.forward < 256 ^ 4 → b.backward < 256 ^ 4 → border_of (border_bytes b) ≡ b
border_back b f t w k =
    ap (λ x. record { from = x; to = little_endian (bytes_of 2 b.to); forward = little_endian (bytes_of 4 b.forward); backward = little_endian (bytes_of 4 b.backward) }) (number_back 2 b.from f)
    ∙ (ap (λ x. record { from = b.from; to = x; forward = little_endian (bytes_of 4 b.forward); backward = little_endian (bytes_of 4 b.backward) }) (number_back 2 b.to t)
    ∙ (ap (λ x. record { from = b.from; to = b.to; forward = x; backward = little_endian (bytes_of 4 b.backward) }) (number_back 4 b.forward w)
    ∙ ap (λ x. record { from = b.from; to = b.to; forward = b.forward; backward = x }) (number_back 4 b.backward k)))

direction_back : (d : Direction) → direction_of (little_endian (bytes_of 2 (direction_number d))) ≡ d
direction_back Up = refl
direction_back Down = refl

pub direction_low : (d : Direction) → leb (little_endian (bytes_of 2 (direction_number d))) 1 ≡ true
direction_low Up = refl
direction_low Down = refl

pub bid_back : (b : Bid) → b.area < 256 ^ 2 → b.volume < 256 ^ 4 → SFits w32 b.price → bid_of (bid_bytes b) ≡ b
bid_back b a v p =
    ap (λ x. record { area = x; direction = direction_of (little_endian (bytes_of 2 (direction_number b.direction))); volume = little_endian (bytes_of 4 b.volume); price = signed_word (demand_bytes b.price) }) (number_back 2 b.area a)
    ∙ (ap (λ x. record { area = b.area; direction = x; volume = little_endian (bytes_of 4 b.volume); price = signed_word (demand_bytes b.price) }) (direction_back b.direction)
    ∙ (ap (λ x. record { area = b.area; direction = b.direction; volume = x; price = signed_word (demand_bytes b.price) }) (number_back 4 b.volume v)
    ∙ ap (λ x. record { area = b.area; direction = b.direction; volume = b.volume; price = x }) (demand_back b.price p)))

-- four parts of twelve bytes
twelve_parts : (bs a b c d : List ℕ) → length bs ≡ 12 → a ≡ part 0 2 bs → b ≡ part 2 2 bs → c ≡ part 4 4 bs → d ≡ part 8 4 bs → a ++ (b ++ (c ++ d)) ≡ bs
twelve_parts bs a b c d long e f g h =
    ap (λ x. x ++ (b ++ (c ++ d))) e
    ∙ (ap (λ x. part 0 2 bs ++ (x ++ (c ++ d))) f
    ∙ (ap (λ x. part 0 2 bs ++ (part 2 2 bs ++ (x ++ d))) g
    ∙ (ap (λ x. part 0 2 bs ++ (part 2 2 bs ++ (part 4 4 bs ++ x))) h
    ∙ (ap (λ x. part 0 2 bs ++ (part 2 2 bs ++ x)) (part_join 4 4 4 8 bs refl)
    ∙ (ap (λ x. part 0 2 bs ++ x) (part_join 2 2 8 4 bs refl)
    ∙ (part_join 0 2 10 2 bs refl
    ∙ take_all 12 bs (omega arith)))))))

module _ (bs : List ℕ) (long : length bs ≡ 12) (h : Bytewise bs) where
  part_again : (offset k : ℕ) → offset + k ≤ 12 → bytes_of k (little_endian (part offset k bs)) ≡ part offset k bs
  part_again offset k fits = bytes_again k (part offset k bs) (length_part offset k bs (omega arith)) (all_part offset k bs h)

  pub border_again : border_bytes (border_of bs) ≡ bs
  border_again = twelve_parts bs _ _ _ _ long (part_again 0 2 (omega arith)) (part_again 2 2 (omega arith)) (part_again 4 4 (omega arith)) (part_again 8 4 (omega arith))

  direction_again : (n : ℕ) → leb n 1 ≡ true → direction_number (direction_of n) ≡ n
  direction_again n low = by (eqb n 0) refl
    where
      by : (t : Bool) → eqb n 0 ≡ t → direction_number (cond (eqb n 0) Up Down) ≡ n
      by true e = ap (λ t. direction_number (cond t Up Down)) e ∙ sym (eqb-true n 0 e)
      by false e = ap (λ t. direction_number (cond t Up Down)) e ∙ (let few : n ≤ 1 = leb-true n 1 low in omega (arith, eqb-false n 0 e))

  pub bid_again : leb (little_endian (part 2 2 bs)) 1 ≡ true → bid_bytes (bid_of bs) ≡ bs
  bid_again low =
      twelve_parts bs _ _ _ _ long (part_again 0 2 (omega arith)) (ap (bytes_of 2) (direction_again (little_endian (part 2 2 bs)) low) ∙ part_again 2 2 (omega arith))
      (part_again 4 4 (omega arith)) (demand_again (part 8 4 bs) (length_part 8 4 bs (omega arith)) (all_part 8 4 bs h))

-- tables there and back
module _ {X : Type 0} (f : List ℕ → X) (writes : X → List ℕ) (size : ℕ) where
  first_run : (x : X) (xs : List X) (rest : List ℕ) → length (writes x) ≡ size
      → (take size (each writes (x ∷ xs) ++ rest) ≡ writes x) × (drop size (each writes (x ∷ xs) ++ rest) ≡ each writes xs ++ rest)
  first_run x xs rest long =
      let whole : each writes (x ∷ xs) ++ rest ≡ writes x ++ (each writes xs ++ rest) = append_assoc (writes x) (each writes xs) rest in
      (ap (take size) whole ∙ take_at (writes x) (each writes xs ++ rest) size long, ap (drop size) whole ∙ drop_at (writes x) (each writes xs ++ rest) size long)

  pub table_each : (xs : List X) (rest : List ℕ) → AllByRecursion (λ x. (length (writes x) ≡ size) × (f (writes x) ≡ x)) xs → table f size (length xs) (each writes xs ++ rest) ≡ xs
  table_each [] rest h = refl
  table_each (x ∷ xs) rest (here, later) =
      let run = first_run x xs rest here.0 in
      ap (λ y. y ∷ table f size (length xs) (drop size (each writes (x ∷ xs) ++ rest))) (ap f run.0 ∙ here.1)
      ∙ ap (λ l. x ∷ l) (ap (table f size (length xs)) run.1 ∙ table_each xs rest later)

  pub part_each : (xs : List X) (k : ℕ) (d : X) (rest : List ℕ) → AllByRecursion (λ x. length (writes x) ≡ size) xs → k < length xs → part (size * k) size (each writes xs ++ rest) ≡ writes (get_or xs k d)
  part_each [] k d rest h below = absurd (omega arith)
  part_each (x ∷ xs) zero d rest (here, later) below = ap (λ m. part m size (each writes (x ∷ xs) ++ rest)) (mul-zero size) ∙ (first_run x xs rest here).0
  part_each (x ∷ xs) (suc k) d rest (here, later) below =
      sym (part_later f size k (each writes (x ∷ xs) ++ rest)) ∙ (ap (part (size * k) size) (first_run x xs rest here).1 ∙ part_each xs k d rest later (omega arith))

  pub each_table : (n : ℕ) (bs : List ℕ) → ((k : ℕ) → k < n → writes (f (part (size * k) size bs)) ≡ part (size * k) size bs) → each writes (table f size n bs) ≡ take (size * n) bs
  each_table zero bs h = ap (λ m. take m bs) (sym (mul-zero size))
  each_table (suc n) bs h =
      let first : writes (f (take size bs)) ≡ take size bs = subst (λ (m : ℕ). writes (f (part m size bs)) ≡ part m size bs) (mul-zero size) (h 0 (omega arith)) in
      let wide : size + size * n ≡ size * suc n = add_comm size (size * n) ∙ sym (mul-suc size n) in
      ap (λ l. l ++ each writes (table f size n (drop size bs))) first
      ∙ (ap (λ l. take size bs ++ l)
      (each_table n (drop size bs) (λ k below. subst (λ (p : List ℕ). writes (f p) ≡ p) (sym (part_later f size k bs)) (h (suc k) (omega arith))))
      ∙ (sym (take-add size (size * n) bs) ∙ ap (λ m. take m bs) wide))

  pub records_each : (xs : List X) → 0 < size → AllByRecursion (λ x. (length (writes x) ≡ size) × (f (writes x) ≡ x)) xs → length (each writes xs) ≡ size * length xs → records f size (each writes xs) ≡ xs
  records_each xs positive h long =
      ap (λ m. table f size m (each writes xs)) (ap (λ m. m / size) long ∙ mul-div_cancel_left (length xs) positive)
      ∙ (ap (table f size (length xs)) (sym (append-nil (each writes xs))) ∙ table_each xs [] h)

-- how many bytes records of one size take
pub length_each : {X : Type 0} (writes : X → List ℕ) (size : ℕ) → ((x : X) → length (writes x) ≡ size) → (xs : List X) → length (each writes xs) ≡ size * length xs
length_each writes size sized [] = sym (mul-zero size)
length_each writes size sized (x ∷ xs) = length-append (writes x) (each writes xs) ∙ (omega (arith, sized x, length_each writes size sized xs, mul-suc size (length xs)))
