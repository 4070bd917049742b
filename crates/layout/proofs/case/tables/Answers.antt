use Rattle.std.proofs.Common.{◌*◌, take, drop, sym, ap, ◌∙◌, arith, length-drop}
use Rattle.std.proofs.lemmas.List.{drop-drop, take_all}
use Rattle.records.specs.Headers.{borders_start, bids_start}
use Rattle.layout.proofs.case.tables.Goals as goal

pub returns : goal.returns
returns c =
    let h = c.args.header in
    let bs = c.args.bytes.now in
    let left1 = c.split_at.ensures.back in
    let left2 = c.split_at-2.ensures.back ∙ (ap (drop (4 * h.areas)) left1 ∙ drop-drop (4 * h.areas) 28 bs) in
    let left3 = c.split_at-3.ensures.back ∙ (ap (drop (12 * h.borders)) left2 ∙ drop-drop (12 * h.borders) (borders_start h) bs) in
    record {
      demands = c.split_at-2.ensures.front ∙ ap (take (4 * h.areas)) left1;
      borders = c.split_at-3.ensures.front ∙ ap (take (12 * h.borders)) left2;
      bids = left3 ∙ sym (take_all (12 * h.bids) (drop (bids_start h) bs) (rw length-drop (omega (arith, c.requires))));
    }
