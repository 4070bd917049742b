use Rattle.std.proofs.Common.{◌+◌, ◌*◌, ◌^◌, arith, rules}
use borrow.Author.Tests.{tests}
use Rattle.std.proofs.lemmas.Iterator.{YieldsList-from_slice}
use Rattle.std.proofs.lemmas.Iterator.Adapters.{at_most_from_yields_List}
use Rattle.std.proofs.lemmas.Iterator.Consumers.{YieldsList-at}
use Rattle.listing.proofs.Chains.{sum_below}
use Rattle.listing.proofs.sums.sum_of_amounts.Goals as goal

pub returns-clause-small : goal.returns-clause-small
returns-clause-small c =
    let few = at_most_from_yields_List (YieldsList-at c.map.ensures.source (YieldsList-from_slice c.args.amounts.now cc)) c.requires in
    omega (arith, sum_below 1024 (1024 * 2 ^ 32 + 1) (c.sum.ensures.runs tt) few c.map.ensures.closure (omega arith) (λ x r q k. search (rules, tests)))
