use Rattle.std.proofs.Common.{◌≡◌, ◌+◌, ◌*◌, ◌^◌, ◌≤◌, length}
use Rattle.std.specs.Iterator.Adapters.{zip_first, zip_second}
use Rattle.std.specs.Slice.Iter.{iter_rest}
use Rattle.listing.specs.Figures.{if_up, if_down, sum_in}
use Rattle.listing.proofs.sums.activated_in.Given as goal

abbrev pub invariant-loop-bid : goal.invariant-loop-bid
invariant-loop-bid l =
    let bids = iter_rest (zip_first l.bid-iterator) in
    let amounts = iter_rest (zip_second l.bid-iterator) in
    (l.up + sum_in if_up l.area bids amounts ≡ sum_in if_up l.area l.bids l.amounts)
    × (l.down + sum_in if_down l.area bids amounts ≡ sum_in if_down l.area l.bids l.amounts)
    × (l.up + 2 ^ 32 * length bids ≤ 2 ^ 32 * length l.bids)
    × (l.down + 2 ^ 32 * length bids ≤ 2 ^ 32 * length l.bids)
