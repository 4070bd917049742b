-- A sum of a chain, bounded by how many numbers it adds. Assumes nothing.
use Rattle.std.proofs.Common.{◌≡◌, ℕ, ◌-◌, ◌/◌, ◌<◌, ◌≤◌, ◌+◌, Option, fold, arith}
use denote.Param.Members.{Mut}
use Rattle.std.specs.Fn.{Called}
use Rattle.std.specs.Iterator.Adapters.{map_source, map_callee, map_steps}
use Rattle.std.specs.Iterator.Runs.{WholeRun}
use Rattle.std.specs.declared.iter.Map.{Map}
use Rattle.std.proofs.lemmas.Iterator.Adapters.{YieldsAtMost, fits_from_length}

-- at most n numbers, each of which the closure bounds
pub sum_below : {S A F : Type 0} {steps : S → Option A → S → Type 0} {s : Map S F} {g : Mut F (A × Unit {0}) ℕ} {f : F} {sum : ℕ} (n top : ℕ) → WholeRun (map_steps steps g) s (λ p. sum ≡ fold (λ a x. a + x) 0 p.items) → YieldsAtMost steps (map_source s) n → map_callee s ≡ f → 0 < top → ((x : A) (r : ℕ) (q : F) → Called g f (x, tt) r q → (q ≡ f) × (r ≤ (top - 1) / n)) → sum < top
sum_below {g = g} {f = f} n top run few same some each = omega (arith, fits_from_length g f n top few same some each run.0 run.0.seen run.1, run.3)
