use Rattle.std.proofs.lemmas.Slice.Zip.{either_empty_from_Zip}
use Rattle.listing.specs.Figures.{if_up, if_down}
use Rattle.listing.proofs.Steps.{counted_all}
use Rattle.listing.proofs.sums.activated_in.Goals as goal

pub returns : goal.returns
returns c =
    let i = c.loop-bid.invariant in
    let none = either_empty_from_Zip c.loop-bid.bid-iterator c.next.new.self _ c.in-None.is c.next.ensures.steps in
    record {
      up = counted_all if_up c.args.area _ _ i.0 none;
      down = counted_all if_down c.args.area _ _ i.1 none;
    }
