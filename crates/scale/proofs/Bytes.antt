-- Reading a price from bytes.
--
--   length_numbers   n numbers are n
--   numbers_append   the numbers in bytes are those in the front, then those in the rest
--   read_is          what is read where the levels are at most 16
--   reads            what a pair reads, from what its parts read at the front and behind
--   parts_read       the same of a front of n levels and the rest; none_first, none_second and some_both by the answers of the parts
--   pair_reads       the same of bytes that are split there
--   told             what a call read, once `?` has told which way it went
--   zip_worths       what two answers together stand for
--   eight            eight bytes, as `from_le_bytes` adds them
use Rattle.std.proofs.Common.{◌≡◌, ℕ, zero, suc, ◌+◌, ◌*◌, ◌≤◌, min, Bool, true, false, cond, ◌&&◌, eqb, leb, List, [], ◌∷◌, ◌++◌, length, take, drop, Some, None, Option, sym, refl, ap, ◌∙◌, zero-add, arith, w64, to_z}
use Rattle.std.specs.Int.{from_le_bytes}
use Rattle.std.specs.List.{IsSplitAt}
use Rattle.std.specs.Option.{option_map, option_zip}
use Rattle.std.proofs.lemmas.List.{take_at, drop_at, take-take, drop-drop, drop-take, length-take-le, length-drop}
use Rattle.std.proofs.lemmas.Bool.Decides.{nat_tests}
use Rattle.scale.specs.Meaning.{Meaning}
use Rattle.scale.specs.Pair.{pair}
use Rattle.scale.specs.Levels.{little_endian, numbers, read_bytes}

pub length_numbers : (n : ℕ) (bs : List ℕ) → length (numbers n bs) ≡ n
length_numbers zero bs = refl
length_numbers (suc n) bs = ap suc (length_numbers n (drop 8 bs))

-- the same at two equal counts
counts : (m n : ℕ) (bs : List ℕ) → m ≡ n → numbers m bs ≡ numbers n bs
counts m n bs e = ap (λ k. numbers k bs) e

pub numbers_append : (m n : ℕ) (bs : List ℕ) → numbers (m + n) bs ≡ numbers m (take (8 * m) bs) ++ numbers n (drop (8 * m) bs)
numbers_append zero n bs = counts (0 + n) n bs (zero-add n)
numbers_append (suc m) n bs =
    let e : 8 * suc m ≡ 8 + 8 * m = omega arith in
    let s : suc m + n ≡ suc (m + n) = omega arith in
    let le : 8 ≤ 8 + 8 * m = omega arith in
    let f : take 8 (take (8 * suc m) bs) ≡ take 8 bs = rw e (take-take 8 (8 + 8 * m) bs le) in
    let g : drop 8 (take (8 * suc m) bs) ≡ take (8 * m) (drop 8 bs) = rw e (drop-take 8 (8 * m) bs) in
    let h : drop (8 * suc m) bs ≡ drop (8 * m) (drop 8 bs) = rw e (sym (drop-drop (8 * m) 8 bs)) in
    let rest = numbers_append m n (drop 8 bs) in
    counts (suc m + n) (suc (m + n)) bs s
    ∙ rw (f, g, h) (ap (λ ns. to_z w64 (little_endian (take 8 bs)) ∷ ns) rest)

-- a test that passes may be left out
tidy : {X : Type 0} (long few count range : Bool) (v : Option X) → few ≡ true → count ≡ true → cond long (cond (few && (count && range)) v None) None ≡ cond (long && range) v None
tidy true few count range v e f = λ i. cond (e i && (f i && range)) v None
tidy false few count range v e f = refl

pub read_is : (m : Meaning) (bs : List ℕ) → m.levels ≤ 16 → read_bytes m bs ≡ cond (eqb (length bs) (8 * m.levels) && m.in_range (m.value (numbers m.levels bs))) (Some (m.value (numbers m.levels bs))) None
read_is m bs h =
    let l = length_numbers m.levels bs in
    let few : leb m.levels 16 ≡ true = grind (arith, nat_tests) in
    let count : eqb (length (numbers m.levels bs)) m.levels ≡ true = grind (arith, nat_tests) in
    tidy (eqb (length bs) (8 * m.levels)) (leb m.levels 16) (eqb (length (numbers m.levels bs)) m.levels) (m.in_range (m.value (numbers m.levels bs))) (Some (m.value (numbers m.levels bs))) few count

no_second : {X Y : Type 0} (x : Option X) → None ≡ option_zip {T = X} {U = Y} x None
no_second None = refl
no_second (Some x) = refl

joined : {X Y : Type 0} (long first second : Bool) (x : X) (y : Y) → cond (long && (first && second)) (Some (x, y)) None ≡ option_zip (cond first (Some x) None) (cond (long && second) (Some y) None)
joined true true true x y = refl
joined true true false x y = refl
joined true false second x y = refl
joined false true second x y = refl
joined false false second x y = refl

module _ (a b : Meaning) (bs : List ℕ) (few : a.levels + b.levels ≤ 16) (room : 8 * a.levels ≤ length bs) where
  parts : numbers (min 17 (a.levels + b.levels)) bs ≡ numbers a.levels (take (8 * a.levels) bs) ++ numbers b.levels (drop (8 * a.levels) bs)
  parts = counts (min 17 (a.levels + b.levels)) (a.levels + b.levels) bs (omega arith) ∙ numbers_append a.levels b.levels bs

  first_part : take a.levels (numbers (min 17 (a.levels + b.levels)) bs) ≡ numbers a.levels (take (8 * a.levels) bs)
  first_part = ap (take a.levels) parts ∙ take_at _ _ _ (length_numbers a.levels (take (8 * a.levels) bs))

  second_part : drop a.levels (numbers (min 17 (a.levels + b.levels)) bs) ≡ numbers b.levels (drop (8 * a.levels) bs)
  second_part = ap (drop a.levels) parts ∙ drop_at _ _ _ (length_numbers a.levels (take (8 * a.levels) bs))

  same_test : eqb (length bs) (8 * min 17 (a.levels + b.levels)) ≡ eqb (length (drop (8 * a.levels) bs)) (8 * b.levels)
  same_test =
      let l = length-drop (8 * a.levels) bs in
      grind (arith, nat_tests)

  first_test : eqb (length (take (8 * a.levels) bs)) (8 * a.levels) ≡ true
  first_test =
      let l = length-take-le (8 * a.levels) bs room in
      grind (arith, nat_tests)

  pub reads : read_bytes (pair a b) bs ≡ option_zip (read_bytes a (take (8 * a.levels) bs)) (read_bytes b (drop (8 * a.levels) bs))
  reads =
      let x = a.value (numbers a.levels (take (8 * a.levels) bs)) in
      let y = b.value (numbers b.levels (drop (8 * a.levels) bs)) in
      let of_a = read_is a (take (8 * a.levels) bs) (omega arith) ∙ (λ i. cond (first_test i && a.in_range x) (Some x) None) in
      let of_b = read_is b (drop (8 * a.levels) bs) (omega arith) in
      read_is (pair a b) bs (omega arith)
      ∙ (λ i. cond (same_test i && (a.in_range (a.value (first_part i)) && b.in_range (b.value (second_part i)))) (Some (a.value (first_part i), b.value (second_part i))) None)
      ∙ joined (eqb (length (drop (8 * a.levels) bs)) (8 * b.levels)) (a.in_range x) (b.in_range y) x y
      ∙ (λ i. option_zip (sym of_a i) (sym of_b i))

-- what a pair reads, by what its parts read from a front of n levels and the rest
module _ (a b : Meaning) (n m : ℕ) (bs front back : List ℕ) (e : n ≡ a.levels) (f : m ≡ b.levels) (few : n + m ≤ 16) (room : 8 * n ≤ length bs) (is_front : front ≡ take (8 * n) bs) (is_back : back ≡ drop (8 * n) bs) where
  parts_read : read_bytes (pair a b) bs ≡ option_zip (read_bytes a front) (read_bytes b back)
  parts_read =
      let few' : a.levels + b.levels ≤ 16 = omega arith in
      let room' : 8 * a.levels ≤ length bs = omega arith in
      let front_is : take (8 * a.levels) bs ≡ front = (λ i. take (8 * sym e i) bs) ∙ sym is_front in
      let back_is : drop (8 * a.levels) bs ≡ back = (λ i. drop (8 * sym e i) bs) ∙ sym is_back in
      reads a b bs few' room' ∙ (λ i. option_zip (read_bytes a (front_is i)) (read_bytes b (back_is i)))

  pub none_first : None ≡ read_bytes a front → None ≡ read_bytes (pair a b) bs
  none_first h = sym (parts_read ∙ ap (λ x. option_zip x (read_bytes b back)) (sym h))

  pub none_second : None ≡ read_bytes b back → None ≡ read_bytes (pair a b) bs
  none_second h = no_second (read_bytes a front) ∙ sym (parts_read ∙ ap (option_zip (read_bytes a front)) (sym h))

  pub some_both : (x : a.Value) (y : b.Value) → Some x ≡ read_bytes a front → Some y ≡ read_bytes b back → Some (x, y) ≡ read_bytes (pair a b) bs
  some_both x y h k = sym (parts_read ∙ (λ i. option_zip (sym h i) (sym k i)))

-- a pair reads its first part from a front of n levels, and its second from the rest
pub pair_reads : (a b : Meaning) (n m : ℕ) (bs front back : List ℕ) → n ≡ a.levels → m ≡ b.levels → n + m ≤ 16 → IsSplitAt bs (8 * n) front back → read_bytes (pair a b) bs ≡ option_zip (read_bytes a front) (read_bytes b back)
pair_reads a b n m bs front back e f few split = parts_read a b n m bs front back e f few (omega (arith, split.0)) split.1 split.2

-- what a call read, once `?` has told which way it went
pub told : {K X Y : Type 0} (way : K → Option X) (worth : X → Y) (r : Option X) (f g : K) (v : Option Y) → r ≡ way f → f ≡ g → option_map worth r ≡ v → option_map worth (way g) ≡ v
told way worth r f g v e is h = sym (ap (option_map worth) (e ∙ ap way is)) ∙ h

pub zip_worths : {X Y V W : Type 0} (f : X → V) (g : Y → W) (x : Option X) (y : Option Y) → option_map (λ p. (f p.0, g p.1)) (option_zip x y) ≡ option_zip (option_map f x) (option_map g y)
zip_worths f g None y = refl
zip_worths f g (Some x) None = refl
zip_worths f g (Some x) (Some y) = refl

pub eight : (bs : List ℕ) → length bs ≡ 8 → from_le_bytes w64 bs ≡ little_endian (take 8 bs)
eight [] l = absurd (omega arith)
eight (a ∷ []) l = absurd (omega arith)
eight (a ∷ b ∷ []) l = absurd (omega arith)
eight (a ∷ b ∷ c ∷ []) l = absurd (omega arith)
eight (a ∷ b ∷ c ∷ d ∷ []) l = absurd (omega arith)
eight (a ∷ b ∷ c ∷ d ∷ e ∷ []) l = absurd (omega arith)
eight (a ∷ b ∷ c ∷ d ∷ e ∷ f ∷ []) l = absurd (omega arith)
eight (a ∷ b ∷ c ∷ d ∷ e ∷ f ∷ g ∷ []) l = absurd (omega arith)
eight (a ∷ b ∷ c ∷ d ∷ e ∷ f ∷ g ∷ h ∷ []) l = omega arith
eight (a ∷ b ∷ c ∷ d ∷ e ∷ f ∷ g ∷ h ∷ i ∷ bs) l = absurd (omega arith)
