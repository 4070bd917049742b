use Rattle.std.proofs.Common.{◌*◌}
use Rattle.listing.specs.Growth.{Wrote, bid_room}
use Rattle.listing.specs.Lines.{bid_line, lines}
use Rattle.listing.specs.View.{selection_in}
use Rattle.listing.proofs.text.Text.push_bids.Given as goal

abbrev pub invariant-loop-bid : goal.invariant-loop-bid
invariant-loop-bid l = Wrote (bid_room * l.bid) l.initial.self l.self (lines (bid_line (selection_in l.standing)) 0 l.bid)
