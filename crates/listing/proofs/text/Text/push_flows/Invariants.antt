use Rattle.std.proofs.Common.{◌*◌}
use Rattle.listing.specs.Growth.{Wrote, flow_room}
use Rattle.listing.specs.Lines.{flow_line, lines}
use Rattle.listing.specs.View.{selection_in}
use Rattle.listing.proofs.text.Text.push_flows.Given as goal

abbrev pub invariant-loop-border : goal.invariant-loop-border
invariant-loop-border l = Wrote (flow_room * l.border) l.initial.self l.self (lines (flow_line (selection_in l.standing)) 0 l.border)
