use Rattle.std.proofs.Common.{[], ◌∷◌, get_or, codes, decimal, refl, ap}
use Rattle.listing.specs.Growth.{bid_room}
use Rattle.listing.specs.Lines.{spaced, bid_line}
use Rattle.listing.specs.View.{selection_in}
use Rattle.listing.proofs.Rows.{row_more}
use Rattle.listing.proofs.text.Text.push_bids.Goals as goal

pub loop-bid-preserved : goal.loop-bid-preserved
loop-bid-preserved c =
    let k = c.loop-bid.bid in
    row_more bid_room (bid_line (selection_in c.args.standing.now)) k c.loop-bid.invariant _ refl
    (ap (λ xs. spaced (codes "bid" ∷ (decimal k ∷ (decimal (get_or xs k 0) ∷ [])))) c.deref-amount-items.ensures.value) c.push_bid.ensures
