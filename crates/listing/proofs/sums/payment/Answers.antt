use Rattle.std.proofs.Common.{ap, arith}
use Rattle.std.proofs.lemmas.Int.{ints}
use Rattle.listing.specs.Figures.{payment}
use Rattle.listing.proofs.Prices.{worth}
use Rattle.listing.proofs.sums.payment.Goals as goal

pub overflow_mul-price : goal.overflow_mul-price
overflow_mul-price c =
    let w = worth c.args.bid c.args.amount c.from.result c.from-2.result c.requires.price c.requires.volume c.from.ensures c.from-2.ensures in
    omega (arith, ints)

pub overflow_sub-result : goal.overflow_sub-result
overflow_sub-result c =
    let w = worth c.args.bid c.args.amount c.from.result c.from-2.result c.requires.price c.requires.volume c.from.ensures c.from-2.ensures in
    omega (arith, ints)

pub returns-in-Up : goal.returns-in-Up
returns-in-Up c =
    let w = worth c.args.bid c.args.amount c.from.result c.from-2.result c.requires.price c.requires.volume c.from.ensures c.from-2.ensures in
    let paid = ap (λ d. payment d c.args.bid.price c.args.amount) c.in-Up.is in
    record {
      value = omega (arith, ints);
      least = omega (arith, ints);
      most = omega (arith, ints);
    }

pub returns-in-Down : goal.returns-in-Down
returns-in-Down c =
    let w = worth c.args.bid c.args.amount c.from.result c.from-2.result c.requires.price c.requires.volume c.from.ensures c.from-2.ensures in
    let paid = ap (λ d. payment d c.args.bid.price c.args.amount) c.in-Down.is in
    record {
      value = omega (arith, ints);
      least = omega (arith, ints);
      most = omega (arith, ints);
    }
