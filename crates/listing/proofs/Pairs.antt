-- A loop over the pairs of two lists, numbered from 0. Assumes nothing.
--
--   pair_turn    the pair in hand
--   pair_end     how many there were
use Rattle.std.proofs.Common.{◌≡◌, ℕ, ◌<◌, min, List, length, get_or, Option, None, Some, Iter, Bor, ap, ◌∙◌, zero-add, arith}
use Rattle.std.specs.List.{zip, enumerate_from}
use Rattle.std.specs.Iterator.{Yields}
use Rattle.std.specs.Iterator.Adapters.{zip_first, zip_second, enumerate_source, enumerate_count, enumerate_steps}
use Rattle.std.specs.Slice.Iter.{iter_rest}
use Rattle.std.specs.declared.iter.Enumerate.{Enumerate}
use Rattle.std.specs.declared.iter.Zip.{Zip}
use Rattle.std.proofs.iter.Yields.{fronts}
use Rattle.std.proofs.lemmas.Iterator.{YieldsList, YieldsList-from_slice, YieldsList-from_zip, zips}
use Rattle.std.proofs.lemmas.Iterator.Consumers.{YieldsList-from_enumerate, YieldsList-turn, YieldsList-end}
use Rattle.std.proofs.lemmas.List.{get_or_default}
use Rattle.std.proofs.lemmas.List.FromFn.{get_or-enumerate_from, length-enumerate_from}
use Rattle.std.proofs.lemmas.Slice.Zip.{get_or-zip, length-zip}

module _ {A B : Type 0} (xs : List A) (ys : List B) (s : Enumerate (Zip (Iter A) (Iter B))) (first : iter_rest (zip_first (enumerate_source s)) ≡ xs) (second : iter_rest (zip_second (enumerate_source s)) ≡ ys) (start : enumerate_count s ≡ 0) where
  pairs : YieldsList (enumerate_steps (zips fronts fronts)) (λ p. (p.0, (p.1.0.now, p.1.1.now))) s (enumerate_from 0 (zip xs ys))
  pairs = YieldsList-from_enumerate (YieldsList-from_zip (YieldsList-from_slice xs first) (YieldsList-from_slice ys second)) start

  module _ (t u : Enumerate (Zip (Iter A) (Iter B))) (r : Option (ℕ × (Bor A × Bor B))) (so_far : List (ℕ × (Bor A × Bor B)))
      (y : Yields (enumerate_steps (zips fronts fronts)) s so_far t) (steps : enumerate_steps (zips fronts fronts) t r u) where
    pub pair_turn : (p : ℕ × (Bor A × Bor B)) → r ≡ Some p → (length so_far < length xs) × (p.0 ≡ length so_far) × ((d : A) → p.1.0.now ≡ get_or xs (length so_far) d) × ((d : B) → p.1.1.now ≡ get_or ys (length so_far) d)
    pair_turn p e =
        let k = length so_far in
        let all = zip xs ys in
        let turn = YieldsList-turn pairs so_far t y r u p e steps in
        let inside : k < length all = omega (arith, turn.0, length-enumerate_from 0 all) in
        let in_xs : k < length xs = omega (arith, inside, length-zip xs ys) in
        let in_ys : k < length ys = omega (arith, inside, length-zip xs ys) in
        let at = turn.1 ∙ get_or-enumerate_from 0 all k _ inside in
        let pair = ap (λ (q : ℕ × (A × B)). q.1) at ∙ get_or-zip xs ys k _ in_xs in_ys in (
          in_xs,
          ap (λ (q : ℕ × (A × B)). q.0) at ∙ zero-add k,
          λ d. ap (λ (q : A × B). q.0) pair ∙ get_or_default xs k _ d in_xs,
          λ d. ap (λ (q : A × B). q.1) pair ∙ get_or_default ys k _ d in_ys,
        )

    pub pair_end : r ≡ None → length so_far ≡ min (length xs) (length ys)
    pair_end e = (YieldsList-end pairs so_far t y r u e steps).1 ∙ length-enumerate_from 0 (zip xs ys) ∙ length-zip xs ys
