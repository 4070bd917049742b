-- The first place at which a test fails, and questions in a row.
--
--   first_no     the first of the places i, i + 1, .. (n of them) that fails the test, or none
--   FirstNo      what it means to be that place
--   FirstFails   the same of a test that answers by a relation
--   and_then     the second answer, where the first is a yes
--   ask_one      one test: a yes, or the refusal
--   ask          a test at each place: a yes, or the refusal at the first place that fails
--   Computes     what is answered at each place is what a function says
use Rattle.std.specs.Prelude.{◌≡◌, ℕ, zero, suc, ◌<◌, Bool, true, false, cond, Some, None, Ok, Err, Option, Result}

abbrev pub first_no : (ℕ → Bool) → ℕ → ℕ → Option ℕ
first_no ok i zero = None
first_no ok i (suc n) = cond (ok i) (first_no ok (suc i) n) (Some i)

-- of the places below n: none fails, or this one does and no lower one
abbrev pub FirstNo : (ℕ → Bool) → ℕ → Option ℕ → Type 0
FirstNo ok n None = (k : ℕ) → k < n → ok k ≡ true
FirstNo ok n (Some i) = (i < n) × (ok i ≡ false) × ((k : ℕ) → k < i → ok k ≡ true)

abbrev pub and_then : {E : Type 0} → Result (Unit {0}) E → Result (Unit {0}) E → Result (Unit {0}) E
and_then (Ok u) b = b
and_then (Err e) b = Err e

-- one test, and a test at each of n places: a yes, or the refusal at the first place that fails
abbrev pub ask_one : {E : Type 0} → Bool → E → Result (Unit {0}) E
ask_one ok refusal = cond ok (Ok tt) (Err refusal)

abbrev pub refused_at : {E : Type 0} → (ℕ → E) → Option ℕ → Result (Unit {0}) E
refused_at refusal None = Ok tt
refused_at refusal (Some i) = Err (refusal i)

abbrev pub ask : {E : Type 0} → (ℕ → Bool) → ℕ → (ℕ → E) → Result (Unit {0}) E
ask ok n refusal = refused_at refusal (first_no ok 0 n)

-- the same of a test that answers by a relation
abbrev pub FirstFails : (ℕ → Bool → Type 0) → ℕ → Option ℕ → Type 0
FirstFails answers n None = (k : ℕ) → k < n → answers k true
FirstFails answers n (Some i) = (i < n) × answers i false × ((k : ℕ) → k < i → answers k true)

-- what is answered at each of n places is what a function says
abbrev pub Computes : {X : Type 0} → (ℕ → X → Type 0) → ℕ → (ℕ → X) → Type 0
Computes answers n says = (k : ℕ) → (x : _) → k < n → answers k x → x ≡ says k
