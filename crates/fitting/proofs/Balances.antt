-- The sums over borders and bids, record by record. Assumes nothing.
use Rattle.std.proofs.Common.{◌≡◌, ℕ, zero, suc, ◌+◌, ◌<◌, Bool, true, false, cond, eqb, List, [], ◌∷◌, length, get_or, take, ℤ, pos, ◌+ℤ◌, neg_ℤ, refl, ap, add-one, arith}
use Rattle.std.proofs.lemmas.Int.{ints}
use Rattle.market.specs.declared.trade.Direction.{Direction}
use Rattle.market.specs.declared.trade.Direction.TheVariants.{Up, Down}
use Rattle.market.specs.declared.trade.Border.{Border}
use Rattle.market.specs.declared.trade.Bid.{Bid}
use Rattle.market.specs.Cases.{no_border, no_bid}
use Rattle.market.specs.Selections.{injected, brought, activated_in, flows_into}

-- the sum of f over pairs, as far as both lists go
abbrev sum_over : {X Y : Type 0} → (X → Y → ℤ) → List X → List Y → ℤ
sum_over f [] ys = pos 0
sum_over f (x ∷ xs) [] = pos 0
sum_over f (x ∷ xs) (y ∷ ys) = f x y +ℤ sum_over f xs ys

-- one pair more; past the end of ys stands d, of which f makes nothing
sum_over_more : {X Y : Type 0} (f : X → Y → ℤ) (e : X) (d : Y) → ((x : X) → f x d ≡ pos 0) → (xs : List X) (ys : List Y) (k : ℕ) → k < length xs → sum_over f (take (suc k) xs) ys ≡ sum_over f (take k xs) ys +ℤ f (get_or xs k e) (get_or ys k d)
sum_over_more f e d none [] ys k h = absurd (omega arith)
sum_over_more f e d none (x ∷ xs) [] zero h = let z = none x in omega (arith, ints)
sum_over_more f e d none (x ∷ xs) [] (suc k) h = let z = none (get_or xs k e) in omega (arith, ints)
sum_over_more f e d none (x ∷ xs) (y ∷ ys) zero h = omega (arith, ints)
sum_over_more f e d none (x ∷ xs) (y ∷ ys) (suc k) h =
    let more = sum_over_more f e d none xs ys k (omega arith) in omega (arith, ints, more)

-- what a bid, and a border, adds to an area
abbrev pub added_by_bid : ℕ → Bid → ℕ → ℤ
added_by_bid a b x = cond (eqb b.area a) (injected b.direction x) (pos 0)

abbrev pub added_by_border : ℕ → Border → ℤ → ℤ
added_by_border a b x = brought b x a

activated_is : (a : ℕ) (bs : List Bid) (xs : List ℕ) → activated_in a bs xs ≡ sum_over (added_by_bid a) bs xs
activated_is a [] xs = refl
activated_is a (b ∷ bs) [] = refl
activated_is a (b ∷ bs) (x ∷ xs) = ap (λ z. added_by_bid a b x +ℤ z) (activated_is a bs xs)

flows_is : (a : ℕ) (bs : List Border) (xs : List ℤ) → flows_into a bs xs ≡ sum_over (added_by_border a) bs xs
flows_is a [] xs = refl
flows_is a (b ∷ bs) [] = refl
flows_is a (b ∷ bs) (x ∷ xs) = ap (λ z. added_by_border a b x +ℤ z) (flows_is a bs xs)

nothing_activated : (b : Bool) (d : Direction) → cond b (injected d 0) (pos 0) ≡ pos 0
nothing_activated true Up = refl
nothing_activated true Down = refl
nothing_activated false Up = refl
nothing_activated false Down = refl

nothing_flows : (p q : Bool) → cond p (pos 0) (pos 0) +ℤ cond q (neg_ℤ (pos 0)) (pos 0) ≡ pos 0
nothing_flows true true = refl
nothing_flows true false = refl
nothing_flows false true = refl
nothing_flows false false = refl

pub activated_more : (a : ℕ) (bs : List Bid) (xs : List ℕ) (k : ℕ) → k < length bs → activated_in a (take (k + 1) bs) xs ≡ activated_in a (take k bs) xs +ℤ added_by_bid a (get_or bs k no_bid) (get_or xs k 0)
activated_more a bs xs k h =
    rw (add-one, activated_is a (take (suc k) bs) xs, activated_is a (take k bs) xs)
    (sum_over_more (added_by_bid a) no_bid 0 (λ b. nothing_activated (eqb b.area a) b.direction) bs xs k h)

pub flows_more : (a : ℕ) (bs : List Border) (xs : List ℤ) (k : ℕ) → k < length bs → flows_into a (take (k + 1) bs) xs ≡ flows_into a (take k bs) xs +ℤ added_by_border a (get_or bs k no_border) (get_or xs k (pos 0))
flows_more a bs xs k h =
    rw (add-one, flows_is a (take (suc k) bs) xs, flows_is a (take k bs) xs)
    (sum_over_more (added_by_border a) no_border (pos 0) (λ b. nothing_flows (eqb b.to a) (eqb b.from a)) bs xs k h)
