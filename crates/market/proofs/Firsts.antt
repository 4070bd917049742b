-- The first place that fails is the one that `first_no` finds, and no other. Assumes nothing.
use Rattle.std.proofs.Common.{◌≡◌, ℕ, zero, suc, ◌+◌, ◌<◌, ◌≤◌, Bool, true, false, cond, Some, None, Ok, Err, Option, Result, sym, refl, ap, ◌∙◌, subst, arith}
use native.Mathlib.Decide.{ℕ_discrete}
use Rattle.market.specs.First.{first_no, FirstNo, ask, refused_at, and_then, ask_one}

pub first_no_none : (ok : ℕ → Bool) (i n : ℕ) → ((k : ℕ) → i ≤ k → k < i + n → ok k ≡ true) → first_no ok i n ≡ None
first_no_none ok i zero all = refl
first_no_none ok i (suc n) all =
    ap (λ b. cond b (first_no ok (suc i) n) (Some i)) (all i (omega arith) (omega arith))
    ∙ first_no_none ok (suc i) n (λ k low high. all k (omega arith) (omega arith))

pub first_no_some : (ok : ℕ → Bool) (i n j : ℕ) → i ≤ j → j < i + n → ok j ≡ false → ((k : ℕ) → i ≤ k → k < j → ok k ≡ true) → first_no ok i n ≡ Some j
first_no_some ok i zero j low high fails all = absurd (omega arith)
first_no_some ok i (suc n) j low high fails all = elim (ℕ_discrete i j) [
  | yes e ↦ ap (λ b. cond b (first_no ok (suc i) n) (Some i)) (ap ok e ∙ fails) ∙ ap Some e
  | no ne ↦
      ap (λ b. cond b (first_no ok (suc i) n) (Some i)) (all i (omega arith) (omega arith))
      ∙ first_no_some ok (suc i) n j (omega arith) (omega arith) fails (λ k l h. all k (omega arith) h)
]

-- the answer is unique
pub first_no_is : (ok : ℕ → Bool) (n : ℕ) (r : Option ℕ) → FirstNo ok n r → r ≡ first_no ok 0 n
first_no_is ok n None all = sym (first_no_none ok 0 n (λ k low high. all k (omega arith)))
first_no_is ok n (Some i) (below, fails, all) = sym (first_no_some ok 0 n i (omega arith) (omega arith) fails (λ k low high. all k high))

-- where no place fails, each passes
some_none : (x : ℕ) → ◌≡◌ {A = Option ℕ} (Some x) None → ⊥
some_none x p = let z : ◌≡◌ {A = ℕ} 0 1 = cc in omega arith

first_passes : (b : Bool) (r : Option ℕ) (i : ℕ) → cond b r (Some i) ≡ None → b ≡ true
first_passes true r i e = refl
first_passes false r i e = absurd (some_none i e)

pub all_from_first_no : (ok : ℕ → Bool) (i n : ℕ) → first_no ok i n ≡ None → (k : ℕ) → i ≤ k → k < i + n → ok k ≡ true
all_from_first_no ok i zero e k low high = absurd (omega arith)
all_from_first_no ok i (suc n) e k low high =
    let here : ok i ≡ true = first_passes (ok i) (first_no ok (suc i) n) i e in
    let rest : first_no ok (suc i) n ≡ None = sym (ap (λ b. cond b (first_no ok (suc i) n) (Some i)) here) ∙ e in
    elim (ℕ_discrete i k) [
      | yes same ↦ ap ok (sym same) ∙ here
      | no other ↦ all_from_first_no ok (suc i) n rest k (omega arith) (omega arith)
    ]

-- a question that gets a yes passes at each place, and the other way round
pub all_from_ask : {E : Type 0} (ok : ℕ → Bool) (n : ℕ) (refusal : ℕ → E) → ask ok n refusal ≡ Ok tt → (k : ℕ) → k < n → ok k ≡ true
all_from_ask {E} ok n refusal e k h = all_from_first_no ok 0 n (none (first_no ok 0 n) e) k (omega arith) (omega arith)
  where
    none : (r : Option ℕ) → refused_at refusal r ≡ Ok tt → r ≡ None
    none None p = refl
    none (Some i) p = absurd (let z : ◌≡◌ {A = ℕ} 0 1 = cc in omega arith)

pub ask_all : {E : Type 0} (ok : ℕ → Bool) (n : ℕ) (refusal : ℕ → E) → ((k : ℕ) → k < n → ok k ≡ true) → ask ok n refusal ≡ Ok tt
ask_all ok n refusal all = ap (refused_at refusal) (first_no_none ok 0 n (λ k low high. all k (omega arith)))

-- two questions in a row get a yes where both do
module _ {E : Type 0} where
  pub and_then_first : (a b : Result (Unit {0}) E) → and_then a b ≡ Ok tt → a ≡ Ok tt
  and_then_first (Ok u) b h = refl
  and_then_first (Err e) b h = h

  pub and_then_second : (a b : Result (Unit {0}) E) → and_then a b ≡ Ok tt → b ≡ Ok tt
  and_then_second (Ok u) b h = h
  and_then_second (Err e) b h = let z : ◌≡◌ {A = ℕ} 0 1 = cc in absurd (omega arith)

  -- one test
  pub ask_one_yes : (t : Bool) (refusal : E) → ask_one t refusal ≡ Ok tt → t ≡ true
  ask_one_yes true refusal h = refl
  ask_one_yes false refusal h = cc

  pub yes_one : (t : Bool) (e : E) → t ≡ true → ask_one t e ≡ Ok tt
  yes_one t e h = ap (λ x. ask_one x e) h

pub both_from_and_then : {E : Type 0} (a b : Result (Unit {0}) E) → and_then a b ≡ Ok tt → (a ≡ Ok tt) × (b ≡ Ok tt)
both_from_and_then a b e = (and_then_first a b e, and_then_second a b e)

pub and_then_both : {E : Type 0} (a b : Result (Unit {0}) E) → a ≡ Ok tt → b ≡ Ok tt → and_then a b ≡ Ok tt
and_then_both a b p q = ap (λ x. and_then x b) p ∙ q

-- the place that `first_no` finds is the first that fails
found_from : (ok : ℕ → Bool) (i n : ℕ) → ((k : ℕ) → k < i → ok k ≡ true) → FirstNo ok (i + n) (first_no ok i n)
found_from ok i zero before = λ k below. before k (omega arith)
found_from ok i (suc n) before = at (ok i) refl (λ more. subst (λ (m : ℕ). FirstNo ok m (first_no ok (suc i) n)) (omega arith) (found_from ok (suc i) n more))
  where
    at : (t : Bool) → ok i ≡ t → (((k : ℕ) → k < suc i → ok k ≡ true) → FirstNo ok (i + suc n) (first_no ok (suc i) n)) → FirstNo ok (i + suc n) (cond t (first_no ok (suc i) n) (Some i))
    at true e later = later (λ k below. elim (ℕ_discrete k i) [ yes same ↦ ap ok same ∙ e | no other ↦ before k (omega arith) ])
    at false e later = (omega arith, e, before)

pub first_no_found : (ok : ℕ → Bool) (n : ℕ) → FirstNo ok n (first_no ok 0 n)
first_no_found ok n = subst (λ (m : ℕ). FirstNo ok m (first_no ok 0 n)) (omega arith) (found_from ok 0 n (λ k below. absurd (omega arith)))

-- tests that agree at the places asked get the same answer
first_no_same : (ok other : ℕ → Bool) (i n : ℕ) → ((k : ℕ) → i ≤ k → k < i + n → ok k ≡ other k) → first_no ok i n ≡ first_no other i n
first_no_same ok other i zero same = refl
first_no_same ok other i (suc n) same =
    ap (λ b. cond b (first_no ok (suc i) n) (Some i)) (same i (omega arith) (omega arith))
    ∙ ap (λ r. cond (other i) r (Some i)) (first_no_same ok other (suc i) n (λ k low high. same k (omega arith) (omega arith)))

pub ask_same : {E : Type 0} (ok other : ℕ → Bool) (n : ℕ) (refusal : ℕ → E) → ((k : ℕ) → k < n → ok k ≡ other k) → ask ok n refusal ≡ ask other n refusal
ask_same ok other n refusal same = ap (refused_at refusal) (first_no_same ok other 0 n (λ k low high. same k (omega arith)))
