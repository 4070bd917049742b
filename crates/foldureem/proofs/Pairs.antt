-- Counting pairs of files one by one. Assumes nothing.
use Rattle.std.proofs.Common.{◌≡◌, ℕ, suc, ◌+◌, ◌-◌, ◌/◌, ◌<◌, ◌≤◌, Bool, true, false, cond, List, [], ◌∷◌, length, get_or, take, drop, sym, ap, ◌∙◌, refl, arith}
use Rattle.std.proofs.Math.Nat.{add-div_left}
use Rattle.std.proofs.lemmas.List.{at_drop_more, take_all}
use Rattle.std.specs.Simd.{first_chunks}
use Rattle.foldureem.specs.Told.{cut, is_taken, taken_among}

abbrev pub pair_taken : (files : List ℕ) → (start : ℕ) → (pair : List ℕ) → Bool
pair_taken files start pair = is_taken (cut files start (get_or pair 0 0)) (cut files (get_or pair 0 0) (get_or pair 1 0))

-- the same count over ends that lie in pairs
abbrev pub among_pairs : (files : List ℕ) → (start : ℕ) → (pairs : List (List ℕ)) → ℕ
among_pairs files start [] = 0
among_pairs files start (pair ∷ more) = cond (pair_taken files start pair) 1 0 + among_pairs files (get_or pair 1 0) more

pub in_pairs : (files : List ℕ) (start : ℕ) (ends : List ℕ) → among_pairs files start (first_chunks 2 (length ends / 2) ends) ≡ taken_among files start ends
in_pairs files start [] = refl
in_pairs files start (middle ∷ []) = refl
in_pairs files start (middle ∷ (end ∷ more)) =
    let one_more : length (middle ∷ (end ∷ more)) / 2 ≡ suc (length more / 2) = half (length more) in
    ap (λ (k : ℕ). among_pairs files start (first_chunks 2 k (middle ∷ (end ∷ more)))) one_more
    ∙ ap (λ (n : ℕ). cond (is_taken (cut files start middle) (cut files middle end)) 1 0 + n) (in_pairs files end more)
  where
    half : (n : ℕ) → suc (suc n) / 2 ≡ suc (n / 2)
    half n = ap (λ (k : ℕ). k / 2) (omega arith) ∙ (add-div_left n (omega arith) ∙ omega arith)

-- one pair more: what was counted and what is left still make all
pub counted : (files : List ℕ) (start i : ℕ) (pairs : List (List ℕ)) (before after all : ℕ) (b : Bool) → i < length pairs
    → b ≡ pair_taken files start (get_or pairs i []) → after ≡ before + cond b 1 0 → before + among_pairs files start (drop i pairs) ≡ all → before ≤ i
    → (after + among_pairs files (get_or (get_or pairs i []) 1 0) (drop (i + 1) pairs) ≡ all) × (after ≤ i + 1)
counted files start i pairs before after all b h e more sum small =
    let one = cond (pair_taken files start (get_or pairs i [])) 1 0 in
    let left = among_pairs files (get_or (get_or pairs i []) 1 0) (drop (i + 1) pairs) in
    let next : among_pairs files start (drop i pairs) ≡ one + left = at_drop_more (among_pairs files start) pairs i [] h in
    let same : cond b 1 0 ≡ one = ap (λ (b : Bool). cond b 1 0) e in
    (add before after (cond b 1 0) one left _ all more same next sum, bound before after (cond b 1 0) i more (at_most b) small)
  where
    at_most : (b : Bool) → cond b 1 0 ≤ 1
    at_most true = omega arith
    at_most false = omega arith

    add : (before after k l t u all : ℕ) → after ≡ before + k → k ≡ l → u ≡ l + t → before + u ≡ all → after + t ≡ all
    add before after k l t u all p q r s = omega arith

    bound : (before after k i : ℕ) → after ≡ before + k → k ≤ 1 → before ≤ i → after ≤ i + 1
    bound before after k i p q r = omega arith

-- the same over ends in a row, with a bound on what is counted
pub record Counted (files : List ℕ) (rest : List ℕ) (taken all most : ℕ) : Type 0 where
  pub sum : taken + taken_among files (get_or rest 1 0) (take (length rest - 2) (drop 2 rest)) ≡ all
  pub small : taken + length (take (length rest - 2) (drop 2 rest)) ≤ most

pub counted_in_row : (files : List ℕ) (start : ℕ) (rest : List ℕ) (before after all most : ℕ) (b : Bool) → 2 ≤ length rest
    → b ≡ is_taken (cut files start (get_or rest 0 0)) (cut files (get_or rest 0 0) (get_or rest 1 0)) → after ≡ before + cond b 1 0
    → before + taken_among files start rest ≡ all → before + length rest ≤ most → Counted files rest after all most
counted_in_row files start [] before after all most b long e more sum small = absurd (omega arith)
counted_in_row files start (x ∷ []) before after all most b long e more sum small = absurd (omega arith)
counted_in_row files start (x ∷ (y ∷ rest)) before after all most b long e more sum small =
    let k = length (x ∷ (y ∷ rest)) - 2 in
    let whole : take k rest ≡ rest = take_all k rest (omega arith) in
    let one : cond (is_taken (cut files start x) (cut files x y)) 1 0 ≡ cond b 1 0 = ap (λ (b : Bool). cond b 1 0) (sym e) in
    let left : taken_among files y (take k rest) ≡ taken_among files y rest = ap (taken_among files y) whole in
    let short : length (take k rest) ≡ length rest = ap length whole in
    let at_most_one : cond b 1 0 ≤ 1 = at_most b in
    record { sum = add _ _ _ _ _ _ _ more one left sum; small = bound before after _ (length (x ∷ (y ∷ rest))) (length rest) most more at_most_one short (omega arith) small }
  where
    at_most : (b : Bool) → cond b 1 0 ≤ 1
    at_most true = omega arith
    at_most false = omega arith

    add : (before after k l t u all : ℕ) → after ≡ before + k → l ≡ k → t ≡ u → before + (l + u) ≡ all → after + t ≡ all
    add before after k l t u all p q r s = omega arith

    bound : (before after k w n most : ℕ) {m : ℕ} → after ≡ before + k → k ≤ 1 → m ≡ n → w ≡ 2 + n → before + w ≤ most → after + m ≤ most
    bound before after k w n most p q r h s = omega arith
