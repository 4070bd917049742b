use Rattle.listing.proofs.Steps.{payable_first, cost_fits, cost_more}
use Rattle.listing.proofs.sums.cost_of.Goals as goal

pub loop-bid-preserved : goal.loop-bid-preserved
loop-bid-preserved c =
    let i = c.loop-bid.invariant in
    let b = c.in-Some.bid.now in
    let x = c.in-Some.amount.now in
    let next = c.in-Some.ensures.steps in
    let p = c.payment-cost.ensures in
    let fits = cost_fits _ _ b x next i.0.few i.2 i.3 p.least p.most in
    let more = cost_more _ _ b x next i.0.few i.2 i.3 p.least p.most _ _ fits p.value i.1 in
    ((payable_first b x i.0 next).2, more.0, more.1, more.2)
