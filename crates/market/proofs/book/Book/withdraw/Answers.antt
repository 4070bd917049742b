use Rattle.std.proofs.Common.{◌≡◌, ◌<◌, length, get_or, set, ℤ, vec_items, sym, ap, ◌∙◌, subst, w32, SFits, to_z, of_z, rules}
use Rattle.std.proofs.lemmas.Int.{to_z-of_z}
use Rattle.market.specs.declared.trade.Bid.{Bid}
use Rattle.market.specs.Cases.{Valid, case_of, no_bid}
use Rattle.market.specs.Changes.{emptied}
use Rattle.market.proofs.Changed.{truncated, valid_withdrawn}
use Rattle.market.proofs.book.Book.withdraw.Goals as goal

abbrev priced_at : Bid → ℤ → Bid
priced_at b q = record { area = b.area; direction = b.direction; volume = 0; price = q }

priced : (b : Bid) (p : ℤ) → p ≡ b.price → emptied b ≡ record { area = b.area; direction = b.direction; volume = 0; price = p }
priced b p e = ap (priced_at b) (sym e)

pub invariant_of-self-clause-valid : goal.invariant_of-self-clause-valid
invariant_of-self-clause-valid c =
    let within : c.args.bid < length (vec_items c.args.self.now.bids) = search rules in
    let old : get_or (vec_items c.args.self.now.bids) c.args.bid no_bid ≡ c.in-Some.old = search rules in
    let fits : SFits w32 c.in-Some.old.price = search rules in
    truncated (λ v. subst (λ (b : Bid). Valid (case_of (vec_items c.args.self.now.demands) (vec_items c.args.self.now.borders) (set (vec_items c.args.self.now.bids) c.args.bid b)))
    (ap emptied old ∙ priced c.in-Some.old (to_z w32 (of_z w32 c.in-Some.old.price)) (to_z-of_z w32 c.in-Some.old.price fits))
    (valid_withdrawn _ _ _ c.args.bid within v)) c.args.self.now.valid
