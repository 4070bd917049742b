-- A selection that passes the fitting test is unbeaten. Assumes nothing.
use Rattle.std.proofs.Common.{◌≡◌, ℕ, ◌*◌, Bool, true, false, cond, ◌&&◌, T, eqb, leb, List, length, Some, None, Ok, Option, refl, subst, arith}
use Rattle.scale.specs.Meaning.{Meaning, Laws}
use Rattle.scale.specs.Levels.{numbers, read_bytes}
use Rattle.market.specs.Cases.{Case, Valid, areas}
use Rattle.market.specs.Selections.{Selection}
use Rattle.market.specs.Totals.{Unbeaten}
use Rattle.optimality.proofs.FittingIsUnbeaten.{fitting_is_unbeaten}
use Rattle.fitting.specs.Judged.{OneForEach, prices_of, judged}
use Rattle.fitting.proofs.Passed.{so, passed_from_judged, within_from_passed, fits_from_passed}

-- a price that is read is in range
chosen : {V : Type 0} (a b c : Bool) (x v : V) → cond (a && (b && c)) (Some x) None ≡ Some v → (c ≡ true) × (x ≡ v)
chosen true true true x v e = (refl, (cc))
chosen true true false x v e = absurd (let z : ◌≡◌ {A = ℕ} 0 1 = cc in omega arith)
chosen true false c x v e = absurd (let z : ◌≡◌ {A = ℕ} 0 1 = cc in omega arith)
chosen false b c x v e = absurd (let z : ◌≡◌ {A = ℕ} 0 1 = cc in omega arith)

long_enough : {V : Type 0} (b : Bool) (o : Option V) (v : V) → cond b o None ≡ Some v → o ≡ Some v
long_enough true o v e = e
long_enough false o v e = absurd (let z : ◌≡◌ {A = ℕ} 0 1 = cc in omega arith)

pub read_in_range : (m : Meaning) (bs : List ℕ) (v : m.Value) → read_bytes m bs ≡ Some v → T (m.in_range v)
read_in_range m bs v e =
    let price = chosen (leb m.levels 16) (eqb (length (numbers m.levels bs)) m.levels) (m.in_range (m.value (numbers m.levels bs))) (m.value (numbers m.levels bs)) v
    (long_enough (eqb (length bs) (8 * m.levels)) _ v e) in
    subst (λ (x : m.Value). T (m.in_range x)) price.1 (so _ price.0)

pub judged_unbeaten : (m : Meaning) → Laws m → (c : Case) → Valid c → (s : Selection) (bytes : ℕ → List ℕ) → OneForEach c s → judged m c s (λ a. read_bytes m (bytes a)) ≡ Ok tt → Unbeaten m c s
judged_unbeaten m laws c valid s bytes counts e =
    let passed = passed_from_judged m c s (λ a. read_bytes m (bytes a)) e in
    fitting_is_unbeaten m laws c valid s (within_from_passed m c s (λ a. read_bytes m (bytes a)) counts passed) (prices_of m (λ a. read_bytes m (bytes a)) (areas c))
    (fits_from_passed m c s (λ a. read_bytes m (bytes a)) (λ a v r. read_in_range m (bytes a) v r) valid passed)
