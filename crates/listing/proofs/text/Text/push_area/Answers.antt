use Rattle.std.proofs.Common.{append_assoc, arith}
use Rattle.listing.proofs.Grown.{next, as_piece}
use Rattle.listing.proofs.Signs.{unsatisfied, exported}
use Rattle.std.proofs.lemmas.Int.{to_z-of_z}
use Rattle.listing.proofs.text.Text.push_area.Goals as goal

pub returns : goal.returns
returns c =
    let d = c.args.demand in
    let s = c.args.satisfied in
    let missing = unsatisfied d s c.from.result c.from-2.result c.ranges.demand c.ranges.satisfied c.from.ensures c.from-2.ensures in
    let export = exported c.args.activated s c.from-3.result c.ranges.satisfied c.from-3.ensures in
    as_piece (simp (append_assoc, to_z-of_z, c.ranges.demand, c.ranges.satisfied, missing, export)) (omega arith)
    (next c.push_number.ensures (next c.push_number-2.ensures (next c.push_number-3.ensures (next c.push_number-4.ensures
    (next c.push_number-5.ensures (next c.push_number-6.ensures c.push_number-7.ensures))))))
