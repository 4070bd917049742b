-- One test in front of the rest, a question that finds no place, and what a `?` leaves. Assumes nothing.
use Rattle.std.proofs.Common.{◌≡◌, ℕ, Bool, true, false, IfOk, Some, None, Ok, Err, Option, Result, sym, refl, subst}
use Rattle.market.specs.declared.refusal.Refusal.{Refusal}
use Rattle.market.specs.First.{and_then, ask_one, refused_at}
use Rattle.layout.specs.Sections.{forget}

module _ {E : Type 0} where
  pub passed : (t : Bool) (e : E) (rest : Result (Unit {0}) E) → t ≡ true → and_then (ask_one t e) rest ≡ rest
  passed true e rest h = refl
  passed false e rest h = cc

  pub stopped : (t : Bool) (e : E) (rest : Result (Unit {0}) E) → t ≡ false → and_then (ask_one t e) rest ≡ Err e
  stopped true e rest h = cc
  stopped false e rest h = refl

  refused_at_none : (refusal : ℕ → E) (o : Option ℕ) → refused_at refusal o ≡ Ok tt → o ≡ None
  refused_at_none refusal None h = refl
  refused_at_none refusal (Some i) h = cc

-- the exit of a `?`: the answer is the refusal, and nothing was made
pub residual : {X : Type 0} (P : X → Type 0) (r : Result X Refusal) (e : Refusal) (a : Result (Unit {0}) Refusal) → r ≡ Err e → Err e ≡ a → (forget r ≡ a) × IfOk r P
residual P r e a is no_here = subst (λ (x : Result _ Refusal). (forget x ≡ a) × IfOk x P) (sym is) (no_here, tt)
