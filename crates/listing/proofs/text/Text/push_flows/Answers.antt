use Rattle.std.proofs.Common.{[], ◌∷◌, get_or, pos, codes, decimal, refl, ap, ◌∙◌, w32, SFits, rules}
use Rattle.std.proofs.lemmas.Int.{to_z-of_z}
use Rattle.std.specs.Fmt.{signed_decimal}
use Rattle.listing.specs.Growth.{flow_room}
use Rattle.listing.specs.Lines.{spaced, flow_line}
use Rattle.listing.specs.View.{selection_in}
use Rattle.listing.proofs.Rows.{row_more}
use Rattle.listing.proofs.text.Text.push_flows.Goals as goal

pub loop-border-preserved : goal.loop-border-preserved
loop-border-preserved c =
    let k = c.loop-border.border in
    let xs = c.deref-flow-items.result.now in
    let fits : SFits w32 (get_or xs k (pos 0)) = search rules in
    let flow = to_z-of_z w32 (get_or xs k (pos 0)) fits ∙ ap (λ ys. get_or ys k (pos 0)) c.deref-flow-items.ensures.value in
    row_more flow_room (flow_line (selection_in c.args.standing.now)) k c.loop-border.invariant _ refl
    (ap (λ z. spaced (codes "flow" ∷ (decimal k ∷ (signed_decimal z ∷ [])))) flow) c.push_flow.ensures
