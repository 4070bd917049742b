-- The numbers that bytes write: little-endian, signed ones in two's complement; and the price that bytes write.
--
--   little_endian   the number that bytes write, the lowest byte first
--   numbers         the first n 64-bit signed numbers in bytes
--   read_bytes      the price that bytes write, or none
--   level           the number that the first eight bytes write
--   read_level      the number that eight bytes write, within a bound, or none
use Rattle.std.specs.Prelude.{ℕ, zero, suc, ◌+◌, ◌*◌, cond, ◌&&◌, List, [], ◌∷◌, length, take, drop, ℤ, pos, neg_ℤ, Some, None, Option, ◌==◌, int_le}
use Rattle.std.specs.Int.{w64}
use Rattle.std.proofs.Common.{to_z}
use Rattle.scale.specs.Meaning.{Meaning, read_price}

abbrev pub little_endian : List ℕ → ℕ
little_endian [] = 0
little_endian (b ∷ bs) = b + 256 * little_endian bs

abbrev pub numbers : ℕ → List ℕ → List ℤ
numbers zero bs = []
numbers (suc n) bs = to_z w64 (little_endian (take 8 bs)) ∷ numbers n (drop 8 bs)

-- there is one exactly where the bytes are eight to each level, and the numbers in them write a price
abbrev pub read_bytes : (m : Meaning) → List ℕ → Option m.Value
read_bytes m bs = cond (length bs == 8 * m.levels) (read_price m (numbers m.levels bs)) None

-- the number that the first eight bytes write
abbrev pub level : List ℕ → ℤ
level bs = to_z w64 (little_endian (take 8 bs))

-- there is one exactly where the bytes are eight, and the number lies from -most to most
abbrev pub read_level : ℕ → List ℕ → Option ℤ
read_level most bs = cond (length bs == 8 && (int_le (neg_ℤ (pos most)) (level bs) && int_le (level bs) (pos most))) (Some (level bs)) None
