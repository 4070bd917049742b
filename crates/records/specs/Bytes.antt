-- Numbers and tables in bytes. All numbers are little-endian, signed ones in two's complement.
--
--   part           the bytes of a given length at an offset
--   word           header word k: the four bytes at 4 * k, as a number
--   signed_word    four bytes as a signed number
--   table          so many records of a size, one after the other
--   records        as many whole records as the bytes hold
--   record_at      the record at a place, or none
--   bytes_of       a number as so many bytes
--   placed         a list with bytes put in at a place
use Rattle.std.specs.Prelude.{ℕ, zero, suc, ◌+◌, ◌*◌, ◌/◌, ◌%◌, cond, List, [], ◌∷◌, ◌++◌, length, take, drop, ℤ, Some, None, Option, nat_lt}
use Rattle.std.specs.Int.{w32}
use Rattle.std.proofs.Common.{to_z}
use Rattle.scale.specs.Levels.{little_endian}

abbrev pub part : ℕ → ℕ → List ℕ → List ℕ
part offset size bs = take size (drop offset bs)

abbrev pub word : ℕ → List ℕ → ℕ
word k bs = little_endian (part (4 * k) 4 bs)

abbrev pub signed_word : List ℕ → ℤ
signed_word bs = to_z w32 (little_endian bs)

abbrev pub table : {X : Type 0} → (List ℕ → X) → (size count : ℕ) → List ℕ → List X
table record_of size zero bs = []
table record_of size (suc n) bs = record_of (take size bs) ∷ table record_of size n (drop size bs)

abbrev pub records : {X : Type 0} → (List ℕ → X) → (size : ℕ) → List ℕ → List X
records record_of size bs = table record_of size (length bs / size) bs

abbrev pub record_at : {X : Type 0} → (List ℕ → X) → (size : ℕ) → List ℕ → ℕ → Option X
record_at record_of size bs k = cond (nat_lt k (length bs / size)) (Some (record_of (part (size * k) size bs))) None

abbrev pub bytes_of : (width : ℕ) → ℕ → List ℕ
bytes_of zero n = []
bytes_of (suc k) n = n % 256 ∷ bytes_of k (n / 256)

abbrev pub placed : ℕ → List ℕ → List ℕ → List ℕ
placed at bytes out = take at out ++ (bytes ++ drop (at + length bytes) out)
