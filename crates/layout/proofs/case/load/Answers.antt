use Rattle.std.proofs.Common.{vec_items, arith}
use Rattle.layout.proofs.Cases.{few_demands, few_borders, few_bids, valid_held}
use Rattle.layout.proofs.case.load.Goals as goal

pub fill-requires : goal.fill-requires
fill-requires c =
    let few = few_demands c.args.bids c.args.bytes.now c.in_ok-case.case c.in_ok-case.ensures.answer c.in_ok-case.ensures.holds in
    omega (arith, c.args.book.now.reserved.0)

pub fill-requires-2 : goal.fill-requires-2
fill-requires-2 c =
    let few = few_borders c.args.bids c.args.bytes.now c.in_ok-case.case c.in_ok-case.ensures.answer c.in_ok-case.ensures.holds in
    omega (arith, c.args.book.now.reserved.1)

pub fill-requires-3 : goal.fill-requires-3
fill-requires-3 c =
    let few = few_bids c.args.bids c.args.bytes.now c.in_ok-case.case c.in_ok-case.ensures.answer c.in_ok-case.ensures.holds in
    omega (arith, c.args.book.now.reserved.2)

pub invariant_of-book-clause-valid : goal.invariant_of-book-clause-valid
invariant_of-book-clause-valid c =
    ∣ valid_held c.args.bids c.args.bytes.now c.in_ok-case.case c.in_ok-case.ensures.answer c.in_ok-case.ensures.holds
    (vec_items c.fill.new.table) (vec_items c.fill-2.new.table) (vec_items c.fill-3.new.table) c.fill.ensures.items c.fill-2.ensures.items c.fill-3.ensures.items ∣₁
