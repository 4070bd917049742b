use Rattle.std.proofs.Common.{◌≡◌, ◌-◌, ◌*◌, length, pos, ◌+ℤ◌, neg_ℤ, ◌≤ℤ◌}
use Rattle.std.specs.Iterator.Adapters.{zip_first, zip_second}
use Rattle.std.specs.Slice.Iter.{iter_rest}
use Rattle.listing.specs.Figures.{payments}
use Rattle.listing.specs.Payable.{Payable}
use Rattle.listing.proofs.sums.cost_of.Given as goal

abbrev pub invariant-loop-bid : goal.invariant-loop-bid
invariant-loop-bid l =
    let bids = iter_rest (zip_first l.bid-iterator) in
    let amounts = iter_rest (zip_second l.bid-iterator) in
    Payable bids amounts
    × (l.cost +ℤ payments bids amounts ≡ payments l.bids l.amounts)
    × (neg_ℤ (pos (99989000100000 * (1024 - length bids))) ≤ℤ l.cost)
    × (l.cost ≤ℤ pos (99989000100000 * (1024 - length bids)))
