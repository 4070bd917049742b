use Rattle.std.proofs.Common.{◌+◌, List, get_or, set, ℤ, pos, ◌+ℤ◌, ◌-ℤ◌, vec_items, sym, refl, subst, arith, w64, SFits, to_z, of_z}
use Rattle.layout.specs.Sections.{selection_held}
use Rattle.fitting.proofs.Sheets.{Flowing, Flowed, flowed, small_flow, inflow_is, outflow_is}
use Rattle.fitting.proofs.candidate.Candidate.add_flows.Goals as goal

pub add-requires : goal.add-requires
add-requires c =
    let turn : Flowed c.args.activations (vec_items c.args.self.book.now.borders) (selection_held c.args.self.proposal.now).flows c.loop-place.place c.loop-place.sums c.from.result _ (to_z w64 (of_z w64 (pos 0 -ℤ to_z w64 (of_z w64 c.from-flow.result)))) (to_z w64 (of_z w64 c.from-flow.result)) =
    flowed _ _ _ c.args.self.book.now.valid c.deref-border-items.result.now c.deref-border-items.ensures.value c.args.activations
    (selection_held c.args.self.proposal.now).flows c.loop-place.place c.loop-place.sums c.from.result _ c.flow.result _ _
    (omega arith) c.from.ensures refl (small_flow c.flow.result c.flow.type_inv) c.flow.ensures
    (outflow_is c.flow.result c.from-flow.result c.flow.type_inv c.from-flow.type_inv c.from-flow.ensures)
    (inflow_is c.flow.result c.from-flow.result c.flow.type_inv c.from-flow.type_inv c.from-flow.ensures) c.loop-place.invariant in
    record { known = turn.from_known; fits = turn.out_fits }

pub add-requires-in-loop-place : goal.add-requires-in-loop-place
add-requires-in-loop-place c =
    let turn : Flowed c.args.activations (vec_items c.args.self.book.now.borders) (selection_held c.args.self.proposal.now).flows c.loop-place.place c.loop-place.sums c.from.result c.from-in-loop-place.result (to_z w64 (of_z w64 (pos 0 -ℤ to_z w64 (of_z w64 c.from-flow.result)))) (to_z w64 (of_z w64 c.from-flow.result)) =
    flowed _ _ _ c.args.self.book.now.valid c.deref-border-items.result.now c.deref-border-items.ensures.value c.args.activations
    (selection_held c.args.self.proposal.now).flows c.loop-place.place c.loop-place.sums c.from.result c.from-in-loop-place.result c.flow.result _ _
    (omega arith) c.from.ensures c.from-in-loop-place.ensures (small_flow c.flow.result c.flow.type_inv) c.flow.ensures
    (outflow_is c.flow.result c.from-flow.result c.flow.type_inv c.from-flow.type_inv c.from-flow.ensures)
    (inflow_is c.flow.result c.from-flow.result c.flow.type_inv c.from-flow.type_inv c.from-flow.ensures) c.loop-place.invariant in
    record {
      known = turn.to_known;
      fits = subst (λ (l : List ℤ). SFits w64 (get_or l c.from-in-loop-place.result (pos 0) +ℤ to_z w64 (of_z w64 c.from-flow.result))) (sym c.add.ensures) turn.in_fits;
    }

pub loop-place-preserved : goal.loop-place-preserved
loop-place-preserved c =
    let turn : Flowed c.args.activations (vec_items c.args.self.book.now.borders) (selection_held c.args.self.proposal.now).flows c.loop-place.place c.loop-place.sums c.from.result c.from-in-loop-place.result (to_z w64 (of_z w64 (pos 0 -ℤ to_z w64 (of_z w64 c.from-flow.result)))) (to_z w64 (of_z w64 c.from-flow.result)) =
    flowed _ _ _ c.args.self.book.now.valid c.deref-border-items.result.now c.deref-border-items.ensures.value c.args.activations
    (selection_held c.args.self.proposal.now).flows c.loop-place.place c.loop-place.sums c.from.result c.from-in-loop-place.result c.flow.result _ _
    (omega arith) c.from.ensures c.from-in-loop-place.ensures (small_flow c.flow.result c.flow.type_inv) c.flow.ensures
    (outflow_is c.flow.result c.from-flow.result c.flow.type_inv c.from-flow.type_inv c.from-flow.ensures)
    (inflow_is c.flow.result c.from-flow.result c.flow.type_inv c.from-flow.type_inv c.from-flow.ensures) c.loop-place.invariant in
    subst (λ (l : List ℤ). Flowing c.args.activations (vec_items c.args.self.book.now.borders) (selection_held c.args.self.proposal.now).flows (c.loop-place.place + 1) l) (sym c.add-in-loop-place.ensures)
    (subst (λ (l : List ℤ). Flowing c.args.activations (vec_items c.args.self.book.now.borders) (selection_held c.args.self.proposal.now).flows (c.loop-place.place + 1) (set l c.from-in-loop-place.result (get_or l c.from-in-loop-place.result (pos 0) +ℤ to_z w64 (of_z w64 c.from-flow.result)))) (sym c.add.ensures)
    turn.more)
