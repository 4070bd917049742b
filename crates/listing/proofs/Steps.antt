-- The steps of the loops that sum over bids and their amounts. Assumes nothing.
--
--   both_more, both_all     a function of what is left of two lists, one step on and at the end
--   more, at_end            a sum of numbers, one step on and at the end
--   counted_all             the amounts of an area, at the end
--   payable_first           the first bid can be paid for, and so can the others
--   sum_fits, sum_more      a cost so far and one more payment
--   cost_fits, cost_more    the same for the bids in hand
--   cost_end                at the end
use Rattle.std.proofs.Common.{◌≡◌, ℕ, suc, ◌+◌, ◌-◌, ◌*◌, ◌<◌, ◌≤◌, T, List, [], ◌∷◌, length, get_or, drop, ◌⊎◌, inl, inr, ℤ, pos, ◌+ℤ◌, neg_ℤ, ◌≤ℤ◌, refl, ap, ◌∙◌, subst, arith, w64, SFits, to_z, of_z}
use Rattle.std.proofs.lemmas.List.{drop_more, drop_all}
use Rattle.std.proofs.lemmas.Int.{ints, to_z-of_z}
use Rattle.market.specs.declared.trade.Bid.{Bid}
use Rattle.market.specs.declared.trade.Direction.{Direction}
use Rattle.market.specs.Cases.{bid_in_range}
use Rattle.listing.specs.Figures.{sum_in, payment, payments}
use Rattle.listing.specs.Payable.{Payable}

pub both_more : {Y : Type 0} (F : List Bid → List ℕ → Y) (bs : List Bid) (xs : List ℕ) (k : ℕ) (d : Bid) → k < length bs → length xs ≡ length bs → F (drop k bs) (drop k xs) ≡ F (get_or bs k d ∷ drop (k + 1) bs) (get_or xs k 0 ∷ drop (k + 1) xs)
both_more F bs xs k d h e = λ i. F (drop_more bs k d h i) (drop_more xs k 0 (omega arith) i)

pub both_all : {Y : Type 0} (F : List Bid → List ℕ → Y) (bs : List Bid) (xs : List ℕ) (k : ℕ) → length bs ≤ k → length xs ≡ length bs → F (drop k bs) (drop k xs) ≡ F [] []
both_all F bs xs k h e = λ i. F (drop_all k bs h i) (drop_all k xs (omega arith) i)

pub more : (s x y rest before whole : ℕ) → s + before ≡ whole → x ≡ y → before ≡ y + rest → s + x + rest ≡ whole
more s x y rest before whole e f g = omega arith

pub at_end : (s before whole : ℕ) → s + before ≡ whole → before ≡ 0 → s ≡ whole
at_end s before whole e f = omega arith

module _ (f : Direction → ℕ → ℕ) (area : ℕ) {bs : List Bid} {xs : List ℕ} where
  none_left : (bs ≡ []) ⊎ (xs ≡ []) → sum_in f area bs xs ≡ 0
  none_left (inl e) = ap (λ zs. sum_in f area zs xs) e
  none_left (inr e) = ap (sum_in f area bs) e ∙ no_amounts bs where
    no_amounts : (zs : List Bid) → sum_in f area zs [] ≡ 0
    no_amounts [] = refl
    no_amounts (z ∷ zs) = refl

  pub counted_all : (s whole : ℕ) → s + sum_in f area bs xs ≡ whole → (bs ≡ []) ⊎ (xs ≡ []) → s ≡ whole
  counted_all s whole so_far e = omega (arith, none_left e)

pub payable_first : {bs cs : List Bid} {xs ys : List ℕ} (b : Bid) (x : ℕ) → Payable bs xs → (bs ≡ b ∷ cs) × (xs ≡ x ∷ ys) → T (bid_in_range b) × (x ≤ 9999000) × Payable cs ys
payable_first {bs} {cs} {xs} {ys} b x h next =
    first (subst (λ (zs : List Bid). Payable zs (x ∷ ys)) next.0 (subst (Payable bs) next.1 h)) where
      first : Payable (b ∷ cs) (x ∷ ys) → T (bid_in_range b) × (x ≤ 9999000) × Payable cs ys
      first p = (
        p.prices 0 b (omega arith),
        p.volumes 0 (omega arith),
        record {
          counts = let e = p.counts in omega arith;
          few = let e = p.few in omega arith;
          prices = λ k d h. p.prices (suc k) d (omega arith);
          volumes = λ k h. p.volumes (suc k) (omega arith);
        },
      )

pub sum_fits : (a p : ℤ) (k : ℕ) → k < 1024 → neg_ℤ (pos (99989000100000 * k)) ≤ℤ a → a ≤ℤ pos (99989000100000 * k) → neg_ℤ (pos 99989000100000) ≤ℤ p → p ≤ℤ pos 99989000100000 → to_z w64 (of_z w64 (a +ℤ to_z w64 (of_z w64 p))) ≡ a +ℤ p
sum_fits a p k few least most low high =
    let one : SFits w64 p = omega (arith, ints) in
    let both : SFits w64 (a +ℤ p) = omega (arith, ints) in
    ap (λ z. to_z w64 (of_z w64 (a +ℤ z))) (to_z-of_z w64 p one) ∙ to_z-of_z w64 (a +ℤ p) both

pub sum_more : (a p q z rest before whole : ℤ) (k : ℕ) → z ≡ a +ℤ p → a +ℤ before ≡ whole → p ≡ q → before ≡ q +ℤ rest → neg_ℤ (pos (99989000100000 * k)) ≤ℤ a → a ≤ℤ pos (99989000100000 * k) → neg_ℤ (pos 99989000100000) ≤ℤ p → p ≤ℤ pos 99989000100000
    → (z +ℤ rest ≡ whole) × (neg_ℤ (pos (99989000100000 * (k + 1))) ≤ℤ z) × (z ≤ℤ pos (99989000100000 * (k + 1)))
sum_more a p q z rest before whole k e f g h least most low high = (omega (arith, ints), omega (arith, ints), omega (arith, ints))

module _ {bs cs : List Bid} {xs ys : List ℕ} (a p : ℤ) (b : Bid) (x : ℕ) (next : (bs ≡ b ∷ cs) × (xs ≡ x ∷ ys)) (few : length bs ≤ 1024)
    (least : neg_ℤ (pos (99989000100000 * (1024 - length bs))) ≤ℤ a) (most : a ≤ℤ pos (99989000100000 * (1024 - length bs)))
    (low : neg_ℤ (pos 99989000100000) ≤ℤ p) (high : p ≤ℤ pos 99989000100000) where
  pub cost_fits : to_z w64 (of_z w64 (a +ℤ to_z w64 (of_z w64 p))) ≡ a +ℤ p
  cost_fits = sum_fits a p (1024 - length bs) (omega (arith, ap length next.0)) least most low high

  pub cost_more : (z whole : ℤ) → z ≡ a +ℤ p → p ≡ payment b.direction b.price x → a +ℤ payments bs xs ≡ whole
      → (z +ℤ payments cs ys ≡ whole) × (neg_ℤ (pos (99989000100000 * (1024 - length cs))) ≤ℤ z) × (z ≤ℤ pos (99989000100000 * (1024 - length cs)))
  cost_more z whole e paid so_far =
      let left = ap length next.0 in
      let step : payments bs xs ≡ payment b.direction b.price x +ℤ payments cs ys = λ i. payments (next.0 i) (next.1 i) in
      (omega (arith, ints), omega (arith, ints), omega (arith, ints))

pub cost_end : (a before whole : ℤ) → a +ℤ before ≡ whole → before ≡ pos 0 → a ≡ whole
cost_end a before whole e f = omega (arith, ints)
