use Rattle.std.proofs.Common.{◌*◌, length}
use Rattle.listing.specs.Growth.{Wrote, area_room}
use Rattle.listing.specs.Lines.{area_line, lines}
use Rattle.listing.specs.View.{case_in, selection_in}
use Rattle.listing.proofs.text.Text.push_areas.Given as goal

abbrev pub invariant-loop-area : goal.invariant-loop-area
invariant-loop-area l =
    Wrote (area_room * length l.yielded) l.initial.self l.self (lines (area_line (case_in l.standing) (selection_in l.standing)) 0 (length l.yielded))
