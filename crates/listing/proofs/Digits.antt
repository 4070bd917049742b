-- The digits of a number, by its last one. Assumes nothing.
use Rattle.std.proofs.Common.{◌≡◌, ℕ, ◌+◌, ◌/◌, ◌%◌, ◌^◌, ◌<◌, ◌≤◌, true, false, [], ◌∷◌, length, ℤ, pos, negsuc, nat_abs, decimal, sym, ap, ◌∙◌, arith, length-append}
use lib.Signed.{lt_z}
use Rattle.std.proofs.lemmas.Fmt.{decimal_digit, decimal_step, length-decimal-le}
use Rattle.std.proofs.lemmas.Int.{ints}
use Rattle.std.specs.Fmt.{signed_decimal}

pub one_digit : (n : ℕ) → n < 10 → (48 + n % 10) ∷ [] ≡ decimal n
one_digit n h = let e : 48 + n % 10 ≡ 48 + n = omega arith in ap (λ m. m ∷ []) e ∙ sym (decimal_digit n h)

pub length_digit : (n : ℕ) → n < 10 → length (decimal n) ≡ 1
length_digit n h = ap length (decimal_digit n h)

pub length_step : (n : ℕ) → 10 ≤ n → n < 2 ^ 64 → length (decimal n) ≡ length (decimal (n / 10)) + 1
length_step n h k = ap length (decimal_step n h k) ∙ length-append (decimal (n / 10)) ((48 + n % 10) ∷ [])

pub at_most_20 : (n : ℕ) → n < 2 ^ 64 → length (decimal n) ≤ 20
at_most_20 n h = length-decimal-le 20 n (omega arith) (omega arith) h

pub under_zero : (z : ℤ) (r : ℕ) → lt_z z (pos 0) ≡ true → r ≡ nat_abs z → 45 ∷ decimal r ≡ signed_decimal z
under_zero (pos n) r h e = let no : ⊥ = grind (arith, ints) in absurd no
under_zero (negsuc n) r h e = ap (λ m. 45 ∷ decimal m) e

pub from_zero : (z : ℤ) (r : ℕ) → lt_z z (pos 0) ≡ false → r ≡ nat_abs z → decimal r ≡ signed_decimal z
from_zero (pos n) r h e = ap decimal e
from_zero (negsuc n) r h e = let no : ⊥ = grind (arith, ints) in absurd no
