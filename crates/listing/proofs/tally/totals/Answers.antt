use Rattle.std.proofs.Common.{pos, ◌+ℤ◌, ◌-ℤ◌, sum, sum_by, nat_abs, sym, ap, ◌∙◌, arith}
use lib.Signed.{quot_z}
use Rattle.listing.proofs.Signs.{halved}
use Rattle.listing.proofs.Standing.{known, payable_at}
use Rattle.listing.proofs.tally.totals.Goals as goal

pub cost_of-requires : goal.cost_of-requires
cost_of-requires c = payable_at c.as_slice-3.ensures.value c.as_slice-4.ensures.value (known c.args.standing.now).payable

pub returns-clause-whole : goal.returns-clause-whole
returns-clause-whole c =
    let satisfied = c.sum_of_sizes-satisfied.ensures.value ∙ ap (sum_by nat_abs) c.as_slice.ensures.value in
    let activated = c.sum_of_amounts-activated.ensures.value ∙ ap sum c.as_slice-2.ensures.value in
    let half =
    halved c.sum_of_sizes-satisfied.result c.sum_of_amounts-activated.result (omega arith) (omega arith)
    ∙ (λ i. quot_z (pos (satisfied i) -ℤ pos (activated i)) (pos 2)) in
    (λ i. half i +ℤ half i) ∙ (known c.args.standing.now).whole ∙ sym (λ i. pos (satisfied i) -ℤ pos (activated i))
