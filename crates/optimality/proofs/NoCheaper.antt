-- Prices that fit every item of a family leave no cheaper amounts with the same balances. Assumes nothing.
--
--     Allowed      an amount lies between the item's two bounds
--     reduced      the item's unit cost, less what its effect on the balances is worth at the prices
--     Priced      below the upper bound the reduced cost is at least zero, above the lower bound at most
--
-- For any allowed amounts y, (reduced cost) times (y - x) is at least zero item by item: where y > x, x is below its
-- upper bound; where y < x, above its lower bound. Added up, the total of y less the total of x is at least what the change of the
-- balances is worth, which is zero.
use Rattle.std.proofs.Common.{◌≡◌, ℕ, zero, suc, ◌<◌, List, [], ◌∷◌, ℤ, pos, ◌+ℤ◌, neg_ℤ, nat_abs, ◌≤ℤ◌, ◌<ℤ◌, sym, ap, ◌∙◌, subst, subst₂, arith}
use borrow.Author.Differences.{ints}
use Rattle.std.proofs.lemmas.Int.{by_lt_z}
use Rattle.optimality.proofs.Groups.{Group, Leq, leq_refl, leq_same, leq_plus, leq_shift}
use Rattle.optimality.proofs.Multiples.{times, scaled, scaled_plus, scaled_times, weigh, weigh_same, nil, var, ◌⊕◌, neg, solve}
use Rattle.optimality.proofs.Families.{whole, gather, gather_of_sum, gather_of_opposite, weigh_gather, Each}

abbrev pub Allowed : {I : Type 0} → (low high : I → ℤ) → I → ℤ → Type 0
Allowed low high i z = (low i ≤ℤ z) × (z ≤ℤ high i)

abbrev pub reduced : (G : Group) {I : Type 0} → (I → G.Value) → (I → ℕ → ℤ) → (ℕ → G.Value) → ℕ → I → G.Value
reduced G cost effect p n i = G.plus (cost i) (G.opposite (weigh G p n (effect i)))

abbrev pub Priced : (G : Group) {I : Type 0} → (low high : I → ℤ) → (I → G.Value) → I → ℤ → Type 0
Priced G low high r i z = (z <ℤ high i → Leq G G.zero (r i)) × (low i <ℤ z → Leq G (r i) G.zero)

gap : (x y : ℤ) → x ≤ℤ y → y ≡ x +ℤ pos (nat_abs (y +ℤ neg_ℤ x))
gap x y h = omega (arith, ints)

module _ (G : Group) where
  open G use {Value, plus, opposite}

  times_least : (n : ℕ) (v : Value) → Leq G G.zero v → Leq G G.zero (times G n v)
  times_least zero v h = leq_refl G G.zero
  times_least (suc n) v h =
      leq_shift G (plus G.zero G.zero) (plus v (times G n v)) G.zero (plus v (times G n v))
      (leq_plus G G.zero v G.zero (times G n v) h (times_least n v h))
      (solve G (v ∷ times G n v ∷ []) (nil ⊕ (var 0 ⊕ var 1)) ((nil ⊕ nil) ⊕ (var 0 ⊕ var 1)) tt)

  times_most : (n : ℕ) (v : Value) → Leq G v G.zero → Leq G (times G n v) G.zero
  times_most zero v h = leq_refl G G.zero
  times_most (suc n) v h =
      leq_shift G (plus v (times G n v)) (plus G.zero G.zero) (plus v (times G n v)) G.zero
      (leq_plus G v G.zero (times G n v) G.zero h (times_most n v h))
      (solve G (v ∷ times G n v ∷ []) ((var 0 ⊕ var 1) ⊕ (nil ⊕ nil)) ((var 0 ⊕ var 1) ⊕ nil) tt)

  -- y is x and some more
  more : (x y : ℤ) (v : Value) → x ≤ℤ y → scaled G y v ≡ plus (scaled G x v) (times G (nat_abs (y +ℤ neg_ℤ x)) v)
  more x y v h =
      ap (λ z. scaled G z v) (gap x y h) ∙ scaled_plus G x (pos (nat_abs (y +ℤ neg_ℤ x))) v
      ∙ ap (plus (scaled G x v)) (scaled_times G (nat_abs (y +ℤ neg_ℤ x)) v)

  scaled_rises : (x y : ℤ) (v : Value) → x ≤ℤ y → Leq G G.zero v → Leq G (scaled G x v) (scaled G y v)
  scaled_rises x y v h l =
      let n : ℕ = nat_abs (y +ℤ neg_ℤ x) in
      subst (Leq G (scaled G x v)) (sym (more x y v h))
      (leq_shift G G.zero (times G n v) (scaled G x v) (plus (scaled G x v) (times G n v)) (times_least n v l)
      (solve G (scaled G x v ∷ times G n v ∷ []) (var 0 ⊕ var 1) (nil ⊕ (var 0 ⊕ var 1)) tt))

  scaled_falls : (x y : ℤ) (v : Value) → x ≤ℤ y → Leq G v G.zero → Leq G (scaled G y v) (scaled G x v)
  scaled_falls x y v h l =
      let n : ℕ = nat_abs (y +ℤ neg_ℤ x) in
      subst (λ t. Leq G t (scaled G x v)) (sym (more x y v h))
      (leq_shift G (times G n v) G.zero (plus (scaled G x v) (times G n v)) (scaled G x v) (times_most n v l)
      (solve G (scaled G x v ∷ times G n v ∷ []) ((var 0 ⊕ var 1) ⊕ nil) (var 1 ⊕ var 0) tt))

  module _ {I : Type 0} (low high : I → ℤ) (r : I → Value) where
    one_item : (i : I) (x y : ℤ) → Priced G low high r i x → Allowed low high i y → Leq G (scaled G x (r i)) (scaled G y (r i))
    one_item i x y fits within =
        by_lt_z x y
        (λ l. scaled_rises x y (r i) (omega (arith, ints)) (fits.0 (omega (arith, ints, within.1))))
        (λ h. by_lt_z y x
        (λ l. scaled_falls y x (r i) h (fits.1 (omega (arith, ints, within.0))))
        (λ k. let e : x ≡ y = omega (arith, ints) in leq_same G (scaled G x (r i)) (scaled G y (r i)) (ap (λ z. scaled G z (r i)) e)))

    all_items : (is : List I) (x y : ℕ → ℤ) → Each (Priced G low high r) is x → Each (Allowed low high) is y → Leq G (gather G r is x) (gather G r is y)
    all_items [] x y fits within = leq_refl G G.zero
    all_items (i ∷ is) x y fits within =
        leq_plus G (scaled G (x 0) (r i)) (scaled G (y 0) (r i)) (gather G r is (λ k. x (suc k))) (gather G r is (λ k. y (suc k)))
        (one_item i (x 0) (y 0) (fits 0 i (omega arith)) (within 0 i (omega arith)))
        (all_items is (λ k. x (suc k)) (λ k. y (suc k)) (λ k d h. fits (suc k) d (omega arith)) (λ k d h. within (suc k) d (omega arith)))

  module _ {I : Type 0} (low high : I → ℤ) (cost : I → Value) (effect : I → ℕ → ℤ) (p : ℕ → Value) (n : ℕ) where
    parted : (is : List I) (x : ℕ → ℤ) → gather G (reduced G cost effect p n) is x ≡ plus (gather G cost is x) (opposite (weigh G p n (λ v. gather whole (λ i. effect i v) is x)))
    parted is x =
        gather_of_sum G cost (λ i. opposite (weigh G p n (effect i))) is x
        ∙ ap (plus (gather G cost is x)) (gather_of_opposite G (λ i. weigh G p n (effect i)) is x ∙ ap opposite (sym (weigh_gather G p n effect is x)))

    pub fitting_is_cheapest : (is : List I) (x y : ℕ → ℤ) → Each (Priced G low high (reduced G cost effect p n)) is x → Each (Allowed low high) is y →
        ((v : ℕ) → v < n → scaled G (gather whole (λ i. effect i v) is x) (p v) ≡ scaled G (gather whole (λ i. effect i v) is y) (p v)) →
        Leq G (gather G cost is x) (gather G cost is y)
    fitting_is_cheapest is x y fits within same =
        let bx : ℕ → ℤ = λ v. gather whole (λ i. effect i v) is x in
        let by : ℕ → ℤ = λ v. gather whole (λ i. effect i v) is y in
        let w = weigh G p n by in
        let cx = gather G cost is x in
        let cy = gather G cost is y in
        leq_shift G (plus cx (opposite w)) (plus cy (opposite w)) cx cy
        (subst₂ (Leq G) (parted is x ∙ ap (λ t. plus cx (opposite t)) (weigh_same G p n bx by same)) (parted is y)
        (all_items low high (reduced G cost effect p n) is x y fits within))
        (solve G (cx ∷ cy ∷ w ∷ []) (var 0 ⊕ (var 1 ⊕ neg (var 2))) ((var 0 ⊕ neg (var 2)) ⊕ var 1) tt)
