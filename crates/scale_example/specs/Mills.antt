-- What the scale of this crate means.
--
--   mills_most    the largest price
--   mills         an up bid costs ten times its price, a down bid the opposite, satisfaction nothing; prices from -799,992,000 to 799,992,000; bids take part
use Rattle.std.specs.Prelude.{ℕ, true, pos, ◌*ℤ◌, neg_ℤ}
use Rattle.scale.specs.Meaning.{Meaning}
use Rattle.scale.specs.Single.{single}

abbrev pub mills_most : ℕ
mills_most = 799992000

abbrev pub mills : Meaning
mills = single (pos 0) (λ price. pos 10 *ℤ price) (λ price. neg_ℤ (pos 10 *ℤ price)) mills_most true
