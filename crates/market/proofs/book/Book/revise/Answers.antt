use Rattle.std.proofs.Common.{◌≡◌, true, T, ℤ, sym, subst, w32, rules}
use Rattle.std.proofs.lemmas.Int.{to_z-of_z}
use Rattle.market.specs.Cases.{demand_in_range}
use Rattle.market.proofs.Changed.{truncated, valid_revised}
use Rattle.market.proofs.book.Book.revise.Goals as goal

pub invariant_of-self-clause-valid : goal.invariant_of-self-clause-valid
invariant_of-self-clause-valid c =
    let ok : demand_in_range c.args.demand ≡ true = search rules in
    let same = to_z-of_z w32 c.args.demand c.ranges.demand in
    (truncated (valid_revised _ _ _ c.args.area _ (subst (λ (z : ℤ). T (demand_in_range z)) (sym same) (subst T (sym ok) tt))) c.args.self.now.valid)
