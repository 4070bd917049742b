-- What an amount is paid fits its bounds. Assumes nothing.
--
--   Small n z      z lies from -n to n
--   price_small    a price in range
--   product_is     the machine's product of a price and an amount is the product
--   Worth          the same for a bid in range, and that the product is small
use Rattle.std.proofs.Common.{◌≡◌, ℕ, suc, ◌*◌, ◌≤◌, ◌&&◌, T, leb, ℤ, pos, negsuc, ◌-ℤ◌, ◌*ℤ◌, neg_ℤ, ◌≤ℤ◌, sym, ap, ◌∙◌, subst, mul-le-mul, arith, w32, w64, SFits, to_z, of_z}
use lib.Signed.{le_z, le_z_yes}
use Rattle.std.proofs.lemmas.Int.{ints, to_z-of_z}
use Rattle.market.specs.declared.trade.Bid.{Bid}
use Rattle.market.specs.Cases.{bid_in_range}
use Rattle.listing.proofs.Both.{first_of, second_of}

pub record Small (n : ℕ) (z : ℤ) : Type 0 where
  pub least : neg_ℤ (pos n) ≤ℤ z
  pub most : z ≤ℤ pos n

pub price_small : (b : Bid) → T (bid_in_range b) → Small 9999900 b.price
price_small b h =
    let low = le_z (negsuc 9999899) b.price in
    let high = le_z b.price (pos 9999900) in
    let both = second_of (leb b.volume 9999000) (low && high) h in
    record { least = le_z_yes (first_of low high both); most = le_z_yes (second_of low high both) }

small_pos : (n m : ℕ) → m ≤ n → Small n (pos m)
small_pos n m h = record { least = omega (arith, ints); most = omega (arith, ints) }

small_opposite : (n : ℕ) (z : ℤ) → Small n z → Small n (neg_ℤ z)
small_opposite n z h = record { least = omega (arith, ints); most = omega (arith, ints) }

small_product : (p : ℤ) (x : ℕ) → Small 9999900 p → x ≤ 9999000 → Small 99989000100000 (p *ℤ pos x)
small_product (pos n) x h le =
    let k : n ≤ 9999900 = omega (arith, ints) in
    small_pos 99989000100000 (n * x) (mul-le-mul k le)
small_product (negsuc n) x h le =
    let k : suc n ≤ 9999900 = omega (arith, ints) in
    small_opposite 99989000100000 (pos (suc n * x)) (small_pos 99989000100000 (suc n * x) (mul-le-mul k le))

small_fits : (z : ℤ) → Small 99989000100000 z → SFits w64 z
small_fits z h = omega (arith, ints)

price_is : (p m : ℤ) → Small 9999900 p → m ≡ to_z w32 (of_z w32 p) → to_z w64 (of_z w64 m) ≡ p
price_is p m h e = let fits : SFits w32 p = omega (arith, ints) in omega (arith, ints)

amount_is : (x : ℕ) (n : ℤ) → x ≤ 9999000 → n ≡ pos x → to_z w64 (of_z w64 n) ≡ pos x
amount_is x n h e = omega (arith, ints)

opposite_is : (z : ℤ) → pos 0 -ℤ z ≡ neg_ℤ z
opposite_is z = omega (arith, ints)

-- p is the price and x the amount; m and n are those in the machine
module _ (p : ℤ) (x : ℕ) (m n : ℤ) (price : Small 9999900 p) (amount : x ≤ 9999000) (is_price : m ≡ to_z w32 (of_z w32 p)) (is_amount : n ≡ pos x) where
  product : to_z w64 (of_z w64 m) *ℤ to_z w64 (of_z w64 n) ≡ p *ℤ pos x
  product = λ i. price_is p m price is_price i *ℤ amount_is x n amount is_amount i

  pub product_fits : SFits w64 (to_z w64 (of_z w64 m) *ℤ to_z w64 (of_z w64 n))
  product_fits = subst (SFits w64) (sym product) (small_fits (p *ℤ pos x) (small_product p x price amount))

  pub product_is : to_z w64 (of_z w64 (to_z w64 (of_z w64 m) *ℤ to_z w64 (of_z w64 n))) ≡ p *ℤ pos x
  product_is = to_z-of_z w64 (to_z w64 (of_z w64 m) *ℤ to_z w64 (of_z w64 n)) product_fits ∙ product

  pub product_small : Small 99989000100000 (p *ℤ pos x)
  product_small = small_product p x price amount

  opposite : pos 0 -ℤ to_z w64 (of_z w64 (to_z w64 (of_z w64 m) *ℤ to_z w64 (of_z w64 n))) ≡ neg_ℤ (p *ℤ pos x)
  opposite = ap (λ z. pos 0 -ℤ z) product_is ∙ opposite_is (p *ℤ pos x)

  pub opposite_small : Small 99989000100000 (neg_ℤ (p *ℤ pos x))
  opposite_small = small_opposite 99989000100000 (p *ℤ pos x) product_small

  pub opposite_fits : SFits w64 (pos 0 -ℤ to_z w64 (of_z w64 (to_z w64 (of_z w64 m) *ℤ to_z w64 (of_z w64 n))))
  opposite_fits = subst (SFits w64) (sym opposite) (small_fits (neg_ℤ (p *ℤ pos x)) opposite_small)

  pub opposite_product_is : to_z w64 (of_z w64 (pos 0 -ℤ to_z w64 (of_z w64 (to_z w64 (of_z w64 m) *ℤ to_z w64 (of_z w64 n))))) ≡ neg_ℤ (p *ℤ pos x)
  opposite_product_is = to_z-of_z w64 (pos 0 -ℤ to_z w64 (of_z w64 (to_z w64 (of_z w64 m) *ℤ to_z w64 (of_z w64 n)))) opposite_fits ∙ opposite

-- m and n are the price and the amount in the machine
pub record Worth (b : Bid) (x : ℕ) (m n : ℤ) : Type 0 where
  pub is : to_z w64 (of_z w64 m) *ℤ to_z w64 (of_z w64 n) ≡ b.price *ℤ pos x
  pub least : neg_ℤ (pos 99989000100000) ≤ℤ (b.price *ℤ pos x)
  pub most : (b.price *ℤ pos x) ≤ℤ pos 99989000100000

pub worth : (b : Bid) (x : ℕ) (m n : ℤ) → T (bid_in_range b) → x ≤ 9999000 → m ≡ to_z w32 (of_z w32 b.price) → n ≡ pos x → Worth b x m n
worth b x m n h le is_price is_amount =
    let price = price_small b h in
    let small = small_product b.price x price le in
    record { is = product b.price x m n price le is_price is_amount; least = small.least; most = small.most }

-- a result is a payment within its bounds
pub record Paid (r z : ℤ) : Type 0 where
  pub value : r ≡ z
  pub least : neg_ℤ (pos 99989000100000) ≤ℤ r
  pub most : r ≤ℤ pos 99989000100000

pub paid : (r z y : ℤ) → r ≡ y → y ≡ z → Small 99989000100000 y → Paid r z
paid r z y e f h = record { value = e ∙ f; least = omega (arith, ints); most = omega (arith, ints) }
