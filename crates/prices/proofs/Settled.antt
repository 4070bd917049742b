-- One comparison settles both requirements of an amount. Assumes nothing.
use Rattle.std.proofs.Common.{◌≡◌, Bool, true, false, cond, not, T, Less, Equal, Greater, refl}
use Rattle.scale.specs.Meaning.{Meaning, Laws, order}
use Rattle.market.specs.Prices.{at_limits, at_least, at_most}
use Rattle.prices.specs.Limits.{settles}

by_tests : (below above p q : Bool) → (T p → T q → ⊥) → settles below above (cond p Less (cond q Greater Equal)) ≡ at_limits below above (not p) (not q)
by_tests below above true true h = absurd (h tt tt)
by_tests true true true false h = refl
by_tests true false true false h = refl
by_tests false true true false h = refl
by_tests false false true false h = refl
by_tests true true false true h = refl
by_tests true false false true h = refl
by_tests false true false true h = refl
by_tests false false false true h = refl
by_tests true true false false h = refl
by_tests true false false false h = refl
by_tests false true false false h = refl
by_tests false false false false h = refl

pub settles_order : (m : Meaning) → Laws m → (below above : Bool) (x y : m.Value) → settles below above (order m x y) ≡ at_limits below above (at_least m x y) (at_most m x y)
settles_order m laws below above x y =
    by_tests below above (m.less x y) (m.less y x) (λ p q. laws.less_irrefl x (laws.less_trans x y x p q))
