-- The three single scales: whole numbers, one level each.
--
--   single           a scale of one level on the whole numbers, from its unit costs, its largest price and whether bids take part
--   satisfaction_most, volume_most, money_most    the largest price on each of the three
--   satisfaction     a satisfied kilowatt costs -1, a bid nothing; prices from -8 to 8; bids take no part
--   volume           an activated kilowatt costs 1, satisfaction nothing; prices from -8 to 8; bids take part
--   money            an up bid costs its price, a down bid the opposite, satisfaction nothing; prices from -79,999,200 to 79,999,200; bids take part
use Rattle.std.specs.Prelude.{ℕ, Bool, true, false, ◌&&◌, [], ◌∷◌, ℤ, pos, negsuc, ◌+ℤ◌, neg_ℤ, int_le, slice_index_or}
use Rattle.std.specs.Int.Signed.{lt_z}
use Rattle.scale.specs.Meaning.{Meaning}

abbrev pub single : ℤ → (ℤ → ℤ) → (ℤ → ℤ) → ℕ → Bool → Meaning
single satisfied up down most bids = record {
  Value = ℤ;
  zero = pos 0;
  plus = λ x y. x +ℤ y;
  opposite = neg_ℤ;
  less = lt_z;
  satisfied = satisfied;
  up = up;
  down = down;
  in_range = λ v. int_le (neg_ℤ (pos most)) v && int_le v (pos most);
  levels = 1;
  bids = bids;
  written = λ v. v ∷ [];
  value = λ ns. slice_index_or ns 0 (pos 0);
}

abbrev pub satisfaction_most : ℕ
satisfaction_most = 8

abbrev pub satisfaction : Meaning
satisfaction = single (negsuc 0) (λ _. pos 0) (λ _. pos 0) satisfaction_most false

abbrev pub volume_most : ℕ
volume_most = 8

abbrev pub volume : Meaning
volume = single (pos 0) (λ _. pos 1) (λ _. pos 1) volume_most true

abbrev pub money_most : ℕ
money_most = 79999200

abbrev pub money : Meaning
money = single (pos 0) (λ price. price) neg_ℤ money_most true
