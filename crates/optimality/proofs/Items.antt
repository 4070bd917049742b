-- Items with two ends: one kilowatt more takes one from the tail and brings one to the head. The node 0 is the ground. Assumes nothing.
--
--     effect      what one kilowatt of an item adds to the balance of a node
--     net_at      the balance of a node
--     InBounds      an amount lies between the item's bounds
--     Fitting      below the upper bound the head is worth at most the tail and the cost, above the lower bound at least that
--     Known      both ends are nodes below n
use Rattle.std.proofs.Common.{◌≡◌, ℕ, zero, suc, ◌<◌, Bool, true, false, cond, eqb, List, [], ◌∷◌, ◌++◌, length, get_or, ℤ, pos, negsuc, ◌+ℤ◌, neg_ℤ, ◌≤ℤ◌, ◌<ℤ◌, sym, refl, ap, ◌∙◌, subst, ap₂, arith}
use borrow.Author.Differences.{up, down, ints}
use Rattle.std.specs.List.{AllByRecursion}
use Rattle.std.proofs.ByRecursion.{All-get_or}
use Rattle.optimality.proofs.Groups.{Group, Leq, leq_shift}
use Rattle.optimality.proofs.Multiples.{times, scaled, scaled_of_sum, scaled_of_zero, scaled_of_opposite, scaled_one, scaled_minus_one, weigh, weigh_plus, weigh_at, nil, var, ◌⊕◌, neg, solve}
use Rattle.optimality.proofs.Families.{whole, gather, Each, shift}
use Rattle.optimality.proofs.NoCheaper.{reduced, Priced, fitting_is_cheapest}

pub record Item (V : Type 0) : Type 0 where
  pub low : ℤ
  pub high : ℤ
  pub cost : V
  pub tail : ℕ
  pub head : ℕ

abbrev pub effect : {V : Type 0} → Item V → ℕ → ℤ
effect i v = cond (eqb i.head v) (pos 1) (pos 0) +ℤ cond (eqb i.tail v) (negsuc 0) (pos 0)

abbrev pub net_at : {V : Type 0} → List (Item V) → (ℕ → ℤ) → ℕ → ℤ
net_at is x v = gather whole (λ i. effect i v) is x

abbrev pub InBounds : {V : Type 0} → Item V → ℤ → Type 0
InBounds i z = (i.low ≤ℤ z) × (z ≤ℤ i.high)

abbrev pub Fitting : (G : Group) → (ℕ → G.Value) → Item G.Value → ℤ → Type 0
Fitting G p i z =
    (z <ℤ i.high → Leq G (p i.head) (G.plus (p i.tail) i.cost))
    × (i.low <ℤ z → Leq G (G.plus (p i.tail) i.cost) (p i.head))

abbrev pub Known : {V : Type 0} → ℕ → Item V → Type 0
Known n i = (i.head < n) × (i.tail < n)

-- ---- whole multiples of whole numbers
ones : (n : ℕ) → times whole n (pos 1) ≡ pos n
ones zero = refl
ones (suc n) = ap (λ z. pos 1 +ℤ z) (ones n) ∙ omega (arith, ints)

pub whole_one : (z : ℤ) → scaled whole z (pos 1) ≡ z
unfolding scaled
whole_one z = ap₂ (λ a b. a +ℤ neg_ℤ b) (ones (up z)) (ones (down z)) ∙ omega (arith, ints)

pub whole_minus_one : (z : ℤ) → scaled whole z (negsuc 0) ≡ neg_ℤ z
whole_minus_one z = scaled_of_opposite whole z (pos 1) ∙ ap neg_ℤ (whole_one z)

whole_if : (t : Bool) (z e : ℤ) → scaled whole z (cond t e (pos 0)) ≡ cond t (scaled whole z e) (pos 0)
whole_if true z e = refl
whole_if false z e = scaled_of_zero whole z

-- what an amount of an item adds to a node
pub moved_by : {V : Type 0} (i : Item V) (z : ℤ) (v : ℕ) → scaled whole z (effect i v) ≡ cond (eqb i.head v) z (pos 0) +ℤ cond (eqb i.tail v) (neg_ℤ z) (pos 0)
moved_by i z v =
    scaled_of_sum whole z (cond (eqb i.head v) (pos 1) (pos 0)) (cond (eqb i.tail v) (negsuc 0) (pos 0))
    ∙ ap₂ (λ a b. a +ℤ b)
    (whole_if (eqb i.head v) z (pos 1) ∙ ap (λ a. cond (eqb i.head v) a (pos 0)) (whole_one z))
    (whole_if (eqb i.tail v) z (negsuc 0) ∙ ap (λ a. cond (eqb i.tail v) a (pos 0)) (whole_minus_one z))

-- ---- what holds of two families one after the other
pub each_append : {I : Type 0} (P : I → ℤ → Type 0) (is js : List I) (x : ℕ → ℤ) → Each P is x → Each P js (shift is x) → Each P (is ++ js) x
each_append P [] js x a b k d h = b k d h
each_append P (i ∷ is) js x a b zero d h = a 0 i (omega arith)
each_append P (i ∷ is) js x a b (suc k) d h =
    each_append P is js (λ j. x (suc j)) (λ j e l. a (suc j) e (omega arith)) b k d (omega arith)

pub each_left : {I : Type 0} (P : I → ℤ → Type 0) (is js : List I) (x : ℕ → ℤ) → Each P (is ++ js) x → Each P is x
each_left P [] js x a k d h = absurd (omega arith)
each_left P (i ∷ is) js x a zero d h = a 0 i (omega arith)
each_left P (i ∷ is) js x a (suc k) d h = each_left P is js (λ j. x (suc j)) (λ j e l. a (suc j) e (omega arith)) k d (omega arith)

pub each_right : {I : Type 0} (P : I → ℤ → Type 0) (is js : List I) (x : ℕ → ℤ) → Each P (is ++ js) x → Each P js (shift is x)
each_right P [] js x a = a
each_right P (i ∷ is) js x a = each_right P is js (λ j. x (suc j)) (λ j e l. a (suc j) e (omega arith))

pub each_same : {I : Type 0} (P : I → ℤ → Type 0) (is : List I) (x y : ℕ → ℤ) → ((k : ℕ) → k < length is → x k ≡ y k) → Each P is x → Each P is y
each_same P is x y e a k d h = subst (P (get_or is k d)) (e k h) (a k d h)

-- ---- prices that fit leave nothing cheaper
module _ (G : Group) where
  open G use {Value, plus, opposite}

  worth_of : (p : ℕ → Value) (n : ℕ) (i : Item Value) → Known n i → weigh G p n (effect i) ≡ plus (p i.head) (opposite (p i.tail))
  worth_of p n i k =
      weigh_plus G p n (λ v. cond (eqb i.head v) (pos 1) (pos 0)) (λ v. cond (eqb i.tail v) (negsuc 0) (pos 0))
      ∙ ap₂ plus (weigh_at G p n i.head (pos 1) k.0 ∙ scaled_one G (p i.head)) (weigh_at G p n i.tail (negsuc 0) k.1 ∙ scaled_minus_one G (p i.tail))

  priced : (p : ℕ → Value) (n : ℕ) (i : Item Value) (z : ℤ) → Known n i → Fitting G p i z → Priced G (λ j. j.low) (λ j. j.high) (reduced G (λ j. j.cost) effect p n) i z
  priced p n i z k f =
      let h = p i.head in
      let t = p i.tail in
      let c = i.cost in
      let r : reduced G (λ j. j.cost) effect p n i ≡ plus c (opposite (plus h (opposite t))) = ap (λ w. plus c (opposite w)) (worth_of p n i k) in (
        λ l. subst (Leq G G.zero) (sym r)
            (leq_shift G h (plus t c) G.zero (plus c (opposite (plus h (opposite t)))) (f.0 l)
            (solve G (h ∷ t ∷ c ∷ []) (nil ⊕ (var 1 ⊕ var 2)) (var 0 ⊕ (var 2 ⊕ neg (var 0 ⊕ neg (var 1)))) tt)),
        λ l. subst (λ w. Leq G w G.zero) (sym r)
            (leq_shift G (plus t c) h (plus c (opposite (plus h (opposite t)))) G.zero (f.1 l)
            (solve G (h ∷ t ∷ c ∷ []) ((var 2 ⊕ neg (var 0 ⊕ neg (var 1))) ⊕ var 0) ((var 1 ⊕ var 2) ⊕ nil) tt)),
      )

  pub no_cheaper : (is : List (Item Value)) (n : ℕ) (p : ℕ → Value) (x y : ℕ → ℤ) → AllByRecursion (Known n) is → p 0 ≡ G.zero →
      Each (Fitting G p) is x → Each InBounds is y → ((v : ℕ) → suc v < n → net_at is x (suc v) ≡ net_at is y (suc v)) →
      Leq G (gather G (λ i. i.cost) is x) (gather G (λ i. i.cost) is y)
  no_cheaper is n p x y known ground fits within balanced =
      fitting_is_cheapest G (λ i. i.low) (λ i. i.high) (λ i. i.cost) effect p n is x y
      (λ k d h. priced p n (get_or is k d) (x k) (All-get_or (Known n) is k d h known) (fits k d h)) within same
    where
      same : (v : ℕ) → v < n → scaled G (net_at is x v) (p v) ≡ scaled G (net_at is y v) (p v)
      same zero h =
          ap (scaled G (net_at is x 0)) ground ∙ scaled_of_zero G (net_at is x 0)
          ∙ sym (ap (scaled G (net_at is y 0)) ground ∙ scaled_of_zero G (net_at is y 0))
      same (suc v) h = ap (λ z. scaled G z (p (suc v))) (balanced v h)
