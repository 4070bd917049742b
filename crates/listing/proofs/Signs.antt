-- What the machine's signed numbers are. Assumes nothing.
--
--   widened       a number of 32 bits in 64
--   difference    of two numbers, where it fits
--   unsatisfied   demand minus satisfied
--   exported      up minus down minus satisfied
--   halved        half of a difference
use Rattle.std.proofs.Common.{◌≡◌, ℕ, suc, ◌/◌, ◌^◌, ◌<◌, ℤ, pos, negsuc, ◌-ℤ◌, neg_ℤ, ap, ◌∙◌, arith, w32, w64, SFits, to_z, of_z}
use lib.Signed.{quot_z}
use Rattle.std.proofs.lemmas.Int.{ints, to_z-of_z, to_z_pos}
use Rattle.listing.specs.declared.sums.Activated.{Activated}

pub widened : (x z : ℤ) → SFits w32 z → x ≡ to_z w32 (of_z w32 z) → to_z w64 (of_z w64 x) ≡ z
widened x z fits e = omega (arith, ints)

pub difference : (a b x y : ℤ) → a ≡ x → b ≡ y → SFits w64 (x -ℤ y) → to_z w64 (of_z w64 (a -ℤ b)) ≡ x -ℤ y
difference a b x y p q fits = ap (λ z. to_z w64 (of_z w64 z)) (λ i. p i -ℤ q i) ∙ to_z-of_z w64 (x -ℤ y) fits

pub unsatisfied : (d s x y : ℤ) → SFits w32 d → SFits w32 s → x ≡ to_z w32 (of_z w32 d) → y ≡ to_z w32 (of_z w32 s) → to_z w64 (of_z w64 (to_z w64 (of_z w64 x) -ℤ to_z w64 (of_z w64 y))) ≡ d -ℤ s
unsatisfied d s x y fits_d fits_s is_d is_s = omega (arith, ints)

pub exported : (a : Activated) (s y : ℤ) → SFits w32 s → y ≡ to_z w32 (of_z w32 s) → to_z w64 (of_z w64 (to_z w64 (of_z w64 (to_z w64 a.up -ℤ to_z w64 a.down)) -ℤ to_z w64 (of_z w64 y))) ≡ (pos a.up -ℤ pos a.down) -ℤ s
exported a s y fits is = let small = a.small in omega (arith, ints)

pub fits_unsatisfied : (x y : ℤ) → SFits w32 x → SFits w32 y → SFits w64 (x -ℤ y)
fits_unsatisfied x y f g = omega (arith, ints)

pub fits_net : (m n : ℕ) → m < 2 ^ 62 → n < 2 ^ 62 → SFits w64 (pos m -ℤ pos n)
fits_net m n f g = omega (arith, ints)

pub fits_export : (m n : ℕ) (y : ℤ) → m < 2 ^ 62 → n < 2 ^ 62 → SFits w32 y → SFits w64 ((pos m -ℤ pos n) -ℤ y)
fits_export m n y f g h = omega (arith, ints)

pub as_signed : (n : ℕ) → n < 2 ^ 62 → to_z w64 n ≡ pos n
as_signed n h = to_z_pos w64 n (omega arith)

net_is : (m n : ℕ) → m < 2 ^ 62 → n < 2 ^ 62 → to_z w64 (of_z w64 (to_z w64 m -ℤ to_z w64 n)) ≡ pos m -ℤ pos n
net_is m n f g = omega (arith, ints)

fits_opposite : (n : ℕ) → n < 2 ^ 63 → SFits w64 (neg_ℤ (pos n))
fits_opposite n h = omega (arith, ints)

fits_half : (z : ℤ) → SFits w64 z → SFits w64 (quot_z z (pos 2))
fits_half (pos n) f = record { sfits = omega arith }
fits_half (negsuc n) f = fits_opposite (suc n / 2) (omega arith)

pub halved : (m n : ℕ) → m < 2 ^ 62 → n < 2 ^ 62 → to_z w64 (of_z w64 (quot_z (to_z w64 (of_z w64 (to_z w64 m -ℤ to_z w64 n))) (pos 2))) ≡ quot_z (pos m -ℤ pos n) (pos 2)
halved m n f g =
    let z = pos m -ℤ pos n in
    ap (λ y. to_z w64 (of_z w64 (quot_z y (pos 2)))) (net_is m n f g) ∙ to_z-of_z w64 (quot_z z (pos 2)) (fits_half z (fits_net m n f g))
