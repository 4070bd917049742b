-- Netted is whole: satisfied by size and activated differ by an even number, since every area balances. Assumes nothing.
--
--   sum_to          a function of the areas, summed over the first n
--   total           a list's sum
--   injections      what all bids inject
--   Apart x y       x and y differ by an even number
--   whole           twice netted is satisfied minus activated
use Rattle.std.proofs.Common.{◌≡◌, ℕ, zero, suc, ◌+◌, ◌/◌, ◌<◌, false, cond, T, eqb, ltb, List, [], ◌∷◌, length, get_or, ℤ, pos, negsuc, ◌+ℤ◌, ◌-ℤ◌, neg_ℤ, nat_abs, sum, sum_by, sym, refl, ap, ◌∙◌, subst, arith, ltb→lt}
use mathlib.Core.Logic.{∥∥₁_elim}
use lib.IntN.{ℤ_set}
use lib.Signed.{quot_z}
use Rattle.std.specs.List.{AllByRecursion}
use Rattle.std.proofs.lemmas.List.Sums.{sum_by-cons}
use Rattle.std.proofs.lemmas.Int.{ints}
use Rattle.std.proofs.lemmas.Bool.Decides.{nat_tests}
use Rattle.market.specs.declared.trade.Direction.{Direction}
use Rattle.market.specs.declared.trade.Direction.TheVariants.{Up, Down}
use Rattle.market.specs.declared.trade.Border.{Border}
use Rattle.market.specs.declared.trade.Bid.{Bid}
use Rattle.market.specs.Cases.{Case, Valid, areas, ends_known, bid_known}
use Rattle.market.specs.Selections.{Selection, WithinLimits, injected, brought, flows_into, activated_in, net}
use Rattle.listing.specs.Figures.{satisfied_sum, activated_sum, netted}
use Rattle.listing.proofs.Both.{first_of, second_of}

abbrev sum_to : (ℕ → ℤ) → ℕ → ℤ
sum_to f zero = pos 0
sum_to f (suc n) = f 0 +ℤ sum_to (λ a. f (suc a)) n

abbrev total : List ℤ → ℤ
total [] = pos 0
total (x ∷ xs) = x +ℤ total xs

abbrev injections : List Bid → List ℕ → ℤ
injections [] xs = pos 0
injections (b ∷ bs) [] = pos 0
injections (b ∷ bs) (x ∷ xs) = injected b.direction x +ℤ injections bs xs

-- ---- sums over the areas

four : (a b c d : ℤ) → (a +ℤ b) +ℤ (c +ℤ d) ≡ (a +ℤ c) +ℤ (b +ℤ d)
four a b c d = omega (arith, ints)

no_more : (z : ℤ) → z +ℤ pos 0 ≡ z
no_more z = omega (arith, ints)

none_before : (z : ℤ) → pos 0 +ℤ z ≡ z
none_before z = omega (arith, ints)

sum_plus : (f g : ℕ → ℤ) (n : ℕ) → sum_to (λ a. f a +ℤ g a) n ≡ sum_to f n +ℤ sum_to g n
sum_plus f g zero = refl
sum_plus f g (suc n) =
    ap (λ z. (f 0 +ℤ g 0) +ℤ z) (sum_plus (λ a. f (suc a)) (λ a. g (suc a)) n)
    ∙ four (f 0) (g 0) (sum_to (λ a. f (suc a)) n) (sum_to (λ a. g (suc a)) n)

sum_same : (f g : ℕ → ℤ) (n : ℕ) → ((a : ℕ) → a < n → f a ≡ g a) → sum_to f n ≡ sum_to g n
sum_same f g zero h = refl
sum_same f g (suc n) h = λ i. h 0 (omega arith) i +ℤ sum_same (λ a. f (suc a)) (λ a. g (suc a)) n (λ a k. h (suc a) (omega arith)) i

sum_none : (n : ℕ) → sum_to (λ _. pos 0) n ≡ pos 0
sum_none zero = refl
sum_none (suc n) = none_before (sum_to (λ _. pos 0) n) ∙ sum_none n

not_zero : (z : ℤ) (a : ℕ) → cond (eqb 0 (suc a)) z (pos 0) ≡ pos 0
not_zero z a = let e : eqb 0 (suc a) ≡ false = grind (arith, nat_tests) in ap (λ t. cond t z (pos 0)) e

one_less : (z : ℤ) (b a : ℕ) → cond (eqb (suc b) (suc a)) z (pos 0) ≡ cond (eqb b a) z (pos 0)
one_less z b a = grind (arith, nat_tests)

zero_not : (z : ℤ) (b : ℕ) → cond (eqb (suc b) 0) z (pos 0) ≡ pos 0
zero_not z b = let e : eqb (suc b) 0 ≡ false = grind (arith, nat_tests) in ap (λ t. cond t z (pos 0)) e

-- one area of the n has it
sum_one : (b : ℕ) (z : ℤ) (n : ℕ) → b < n → sum_to (λ a. cond (eqb b a) z (pos 0)) n ≡ z
sum_one b z zero h = let no : ⊥ = omega arith in absurd no
sum_one zero z (suc n) h =
    ap (λ y. z +ℤ y) (sum_same (λ a. cond (eqb 0 (suc a)) z (pos 0)) (λ _. pos 0) n (λ a _. not_zero z a) ∙ sum_none n) ∙ no_more z
sum_one (suc b) z (suc n) h =
    ap (λ y. y +ℤ sum_to (λ a. cond (eqb (suc b) (suc a)) z (pos 0)) n) (zero_not z b)
    ∙ none_before (sum_to (λ a. cond (eqb (suc b) (suc a)) z (pos 0)) n)
    ∙ sum_same (λ a. cond (eqb (suc b) (suc a)) z (pos 0)) (λ a. cond (eqb b a) z (pos 0)) n (λ a _. one_less z b a)
    ∙ sum_one b z n (omega arith)

-- each bid is in one area
sum_activated : (n : ℕ) (bs : List Bid) (xs : List ℕ) → AllByRecursion (λ b. T (bid_known n b)) bs → sum_to (λ a. activated_in a bs xs) n ≡ injections bs xs
sum_activated n [] xs h = sum_none n
sum_activated n (b ∷ bs) [] h = sum_none n
sum_activated n (b ∷ bs) (x ∷ xs) h =
    sum_plus (λ a. cond (eqb b.area a) (injected b.direction x) (pos 0)) (λ a. activated_in a bs xs) n
    ∙ (λ i. sum_one b.area (injected b.direction x) n (ltb→lt b.area n h.0) i +ℤ sum_activated n bs xs h.1 i)

cancels : (x : ℤ) → (x +ℤ neg_ℤ x) +ℤ pos 0 ≡ pos 0
cancels x = omega (arith, ints)

-- each flow leaves one area and enters one
sum_brought : (n : ℕ) (b : Border) (x : ℤ) → T (ends_known n b) → sum_to (brought b x) n ≡ x +ℤ neg_ℤ x
sum_brought n b x h =
    let from = ltb→lt b.from n (first_of (ltb b.from n) _ h) in
    let to = ltb→lt b.to n (first_of (ltb b.to n) _ (second_of (ltb b.from n) _ h)) in
    sum_plus (λ a. cond (eqb b.to a) x (pos 0)) (λ a. cond (eqb b.from a) (neg_ℤ x) (pos 0)) n
    ∙ (λ i. sum_one b.to x n to i +ℤ sum_one b.from (neg_ℤ x) n from i)

sum_flows : (n : ℕ) (bs : List Border) (xs : List ℤ) → AllByRecursion (λ b. T (ends_known n b)) bs → sum_to (λ a. flows_into a bs xs) n ≡ pos 0
sum_flows n [] xs h = sum_none n
sum_flows n (b ∷ bs) [] h = sum_none n
sum_flows n (b ∷ bs) (x ∷ xs) h =
    sum_plus (brought b x) (λ a. flows_into a bs xs) n
    ∙ (λ i. sum_brought n b x h.0 i +ℤ sum_flows n bs xs h.1 i)
    ∙ cancels x

sum_list : (xs : List ℤ) → sum_to (λ a. get_or xs a (pos 0)) (length xs) ≡ total xs
sum_list [] = refl
sum_list (x ∷ xs) = ap (λ z. x +ℤ z) (sum_list xs)

-- what is satisfied over all areas is what the bids inject
all_balanced : (c : Case) (s : Selection) → Valid c → WithinLimits c s → total s.satisfied ≡ injections c.bids s.activated
all_balanced c s v w =
    sym (sum_list s.satisfied)
    ∙ ap (sum_to (λ a. get_or s.satisfied a (pos 0))) w.satisfied_count
    ∙ sum_same (λ a. get_or s.satisfied a (pos 0)) (net c s) (areas c) (λ a h. sym (w.balanced a h))
    ∙ sum_plus (λ a. activated_in a c.bids s.activated) (λ a. flows_into a c.borders s.flows) (areas c)
    ∙ (λ i. sum_activated (areas c) c.bids s.activated v.bids_known i +ℤ sum_flows (areas c) c.borders s.flows v.borders_known i)
    ∙ no_more (injections c.bids s.activated)

-- ---- even differences

record Apart (x y : ℤ) : Type 0 where
  half : ℤ
  twice : x ≡ y +ℤ (half +ℤ half)

apart_plus : (x y z w : ℤ) → Apart x y → Apart z w → Apart (x +ℤ z) (y +ℤ w)
apart_plus x y z w p q =
    let h = p.half in
    let k = q.half in
    let e = p.twice in
    let f = q.twice in
    record { half = h +ℤ k; twice = omega (arith, ints) }

size_apart : (x : ℤ) → Apart (pos (nat_abs x)) x
size_apart (pos n) = record { half = pos 0; twice = omega (arith, ints) }
size_apart (negsuc n) = record { half = pos (suc n); twice = omega (arith, ints) }

sizes_apart : (xs : List ℤ) → Apart (pos (sum_by nat_abs xs)) (total xs)
sizes_apart [] = record { half = pos 0; twice = refl }
sizes_apart (x ∷ xs) =
    subst (λ (n : ℕ). Apart (pos n) (x +ℤ total xs)) (sym (sum_by-cons nat_abs x xs))
    (apart_plus (pos (nat_abs x)) x (pos (sum_by nat_abs xs)) (total xs) (size_apart x) (sizes_apart xs))

amount_apart : (d : Direction) (x : ℕ) → Apart (pos x) (injected d x)
amount_apart Up x = record { half = pos 0; twice = omega (arith, ints) }
amount_apart Down x = record { half = pos x; twice = omega (arith, ints) }

amounts_apart : (bs : List Bid) (xs : List ℕ) → length xs ≡ length bs → Apart (pos (sum xs)) (injections bs xs)
amounts_apart [] [] e = record { half = pos 0; twice = refl }
amounts_apart [] (x ∷ xs) e = let no : ⊥ = omega arith in absurd no
amounts_apart (b ∷ bs) [] e = record { half = pos 0; twice = refl }
amounts_apart (b ∷ bs) (x ∷ xs) e =
    subst (λ (n : ℕ). Apart (pos n) (injected b.direction x +ℤ injections bs xs)) (sym (sum_by-cons (λ n. n) x xs))
    (apart_plus (pos x) (injected b.direction x) (pos (sum xs)) (injections bs xs) (amount_apart b.direction x) (amounts_apart bs xs (omega arith)))

half_of_twice : (h : ℤ) → quot_z (h +ℤ h) (pos 2) ≡ h
half_of_twice (pos n) = let e : (n + n) / 2 ≡ n = omega arith in ap pos e
half_of_twice (negsuc n) = let e : suc (suc (n + n)) / 2 ≡ suc n = omega arith in ap (λ m. neg_ℤ (pos m)) e

-- both differ from the same sum by an even number
halved : (x y t : ℤ) → Apart x t → Apart y t → quot_z (x -ℤ y) (pos 2) +ℤ quot_z (x -ℤ y) (pos 2) ≡ x -ℤ y
halved x y t p q =
    let h = p.half -ℤ q.half in
    let e = p.twice in
    let f = q.twice in
    let twice : x -ℤ y ≡ h +ℤ h = omega (arith, ints) in
    let half : quot_z (x -ℤ y) (pos 2) ≡ h = ap (λ z. quot_z z (pos 2)) twice ∙ half_of_twice h in
    (λ i. half i +ℤ half i) ∙ sym twice

apart_at : (x y z : ℤ) → y ≡ z → Apart x y → Apart x z
apart_at x y z e p = record { half = p.half; twice = p.twice ∙ ap (λ t. t +ℤ (p.half +ℤ p.half)) e }

pub whole : (c : Case) (s : Selection) → ∥ Valid c ∥₁ → ∥ WithinLimits c s ∥₁ → netted s +ℤ netted s ≡ pos (satisfied_sum s) -ℤ pos (activated_sum s)
whole c s valid within =
    ∥∥₁_elim valid (ℤ_set _ _) (λ v. ∥∥₁_elim within (ℤ_set _ _) (λ w.
    halved (pos (satisfied_sum s)) (pos (activated_sum s)) (injections c.bids s.activated)
    (apart_at (pos (satisfied_sum s)) (total s.satisfied) (injections c.bids s.activated) (all_balanced c s v w) (sizes_apart s.satisfied))
    (amounts_apart c.bids s.activated w.activated_count)))
