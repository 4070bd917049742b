-- Numbers as bytes: what the code computes. Assumes nothing.
use Rattle.std.proofs.Common.{◌≡◌, ℕ, ◌/◌, ◌%◌, List, [], ◌∷◌, ◌++◌, get_or, ℤ, sym, ap, ◌∙◌, w32, SFits, to_z, of_z}
use native.Mathlib.Nat.{div-div-eq-div-mul}
use Rattle.std.proofs.lemmas.Int.{to_z-of_z}
use Rattle.records.specs.Bytes.{bytes_of}

-- a number's bytes, as `to_le_bytes` makes them
pub four_bytes : (n : ℕ) → n % 256 ∷ n / 256 % 256 ∷ n / 65536 % 256 ∷ n / 16777216 % 256 ∷ [] ≡ bytes_of 4 n
four_bytes n =
    let third : n / 256 / 256 ≡ n / 65536 = div-div-eq-div-mul n 256 256 in
    let fourth : n / 256 / 256 / 256 ≡ n / 16777216 = ap (λ m. m / 256) third ∙ div-div-eq-div-mul n 65536 256 in
    ap (λ m. n % 256 ∷ n / 256 % 256 ∷ m % 256 ∷ n / 16777216 % 256 ∷ []) (sym third)
    ∙ ap (λ m. n % 256 ∷ n / 256 % 256 ∷ n / 256 / 256 % 256 ∷ m % 256 ∷ []) (sym fourth)

pub signed_four_bytes : (z : ℤ) (l : List ℕ) → SFits w32 z → let n : ℕ = of_z w32 (to_z w32 (of_z w32 z)) in l ≡ n % 256 ∷ n / 256 % 256 ∷ n / 65536 % 256 ∷ n / 16777216 % 256 ∷ []
    → l ≡ bytes_of 4 (of_z w32 z)
signed_four_bytes z l fits e = e ∙ (four_bytes (of_z w32 (to_z w32 (of_z w32 z))) ∙ ap (λ x. bytes_of 4 (of_z w32 x)) (to_z-of_z w32 z fits))

-- twelve bytes from two numbers of two bytes and two of four
abbrev pub twelve : (p q r s : List ℕ) → List ℕ
twelve p q r s =
    get_or p 0 0 ∷ get_or p 1 0 ∷ get_or q 0 0 ∷ get_or q 1 0 ∷ get_or r 0 0 ∷ get_or r 1 0 ∷ get_or r 2 0 ∷ get_or r 3 0 ∷ get_or s 0 0 ∷ get_or s 1 0 ∷ get_or s 2 0 ∷ get_or s 3 0 ∷ []

pub twelve_bytes : (p q r s : List ℕ) (a b c d : ℕ) → p ≡ bytes_of 2 a → q ≡ bytes_of 2 b → r ≡ bytes_of 4 c → s ≡ bytes_of 4 d
    → twelve p q r s ≡ bytes_of 2 a ++ (bytes_of 2 b ++ (bytes_of 4 c ++ bytes_of 4 d))
twelve_bytes p q r s a b c d e f g h =
    ap (λ x. twelve x q r s) e ∙ (ap (λ x. twelve (bytes_of 2 a) x r s) f ∙ (ap (λ x. twelve (bytes_of 2 a) (bytes_of 2 b) x s) g ∙ ap (twelve (bytes_of 2 a) (bytes_of 2 b) (bytes_of 4 c)) h))
