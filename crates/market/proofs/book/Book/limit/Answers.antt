use Rattle.std.proofs.Common.{◌≡◌, ◌<◌, true, ◌&&◌, T, leb, length, get_or, set, vec_items, sym, subst, rules}
use Rattle.market.specs.declared.trade.Border.{Border}
use Rattle.market.specs.Cases.{Valid, case_of, no_border}
use Rattle.market.specs.Changes.{with_limits}
use Rattle.market.proofs.Changed.{truncated, valid_limited}
use Rattle.market.proofs.book.Book.limit.Goals as goal

pub invariant_of-self-clause-valid : goal.invariant_of-self-clause-valid
invariant_of-self-clause-valid c =
    let ok : (leb c.args.forward 20000000 && leb c.args.backward 20000000) ≡ true = search rules in
    let old : get_or (vec_items c.args.self.now.borders) c.args.border no_border ≡ c.in-Some.old = search rules in
    let within : c.args.border < length (vec_items c.args.self.now.borders) = search rules in
    truncated (λ v. subst (λ (b : Border). Valid (case_of (vec_items c.args.self.now.demands) (set (vec_items c.args.self.now.borders) c.args.border (with_limits b c.args.forward c.args.backward)) (vec_items c.args.self.now.bids))) old
    (valid_limited _ _ _ c.args.border c.args.forward c.args.backward within (subst T (sym ok) tt) v)) c.args.self.now.valid
