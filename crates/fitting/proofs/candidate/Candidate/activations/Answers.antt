use Rattle.std.proofs.Common.{◌+◌, List, length, ℤ, vec_items, sym, ap, ◌∙◌, subst, arith, w64, to_z, of_z}
use Rattle.std.proofs.lemmas.Int.{to_z-of_z}
use Rattle.layout.specs.Sections.{selection_held}
use Rattle.fitting.proofs.Sheets.{Activations, Turned, turned, activations_none, activations_all}
use Rattle.fitting.proofs.candidate.Candidate.activations.Goals as goal

pub loop-place-init : goal.loop-place-init
loop-place-init c = activations_none _ _

pub add-requires : goal.add-requires
add-requires c =
    let turn : Turned (vec_items c.args.self.book.now.bids) (selection_held c.args.self.proposal.now).activated c.loop-place.place c.loop-place.sums c.from.result (to_z w64 (of_z w64 c.injection.result)) =
    turned _ _ _ c.args.self.book.now.valid c.deref-bid-items.result.now c.deref-bid-items.ensures.value
    (selection_held c.args.self.proposal.now).activated c.loop-place.place c.loop-place.sums c.from.result c.activated.result _
    (omega arith) c.from.ensures c.activated.type_inv c.activated.ensures
    (to_z-of_z w64 c.injection.result (record { sfits = c.injection.type_inv }) ∙ c.injection.ensures) c.loop-place.invariant in
    record { known = turn.known; fits = turn.fits }

pub loop-place-preserved : goal.loop-place-preserved
loop-place-preserved c =
    let turn : Turned (vec_items c.args.self.book.now.bids) (selection_held c.args.self.proposal.now).activated c.loop-place.place c.loop-place.sums c.from.result (to_z w64 (of_z w64 c.injection.result)) =
    turned _ _ _ c.args.self.book.now.valid c.deref-bid-items.result.now c.deref-bid-items.ensures.value
    (selection_held c.args.self.proposal.now).activated c.loop-place.place c.loop-place.sums c.from.result c.activated.result _
    (omega arith) c.from.ensures c.activated.type_inv c.activated.ensures
    (to_z-of_z w64 c.injection.result (record { sfits = c.injection.type_inv }) ∙ c.injection.ensures) c.loop-place.invariant in
    subst (λ (l : List ℤ). Activations (vec_items c.args.self.book.now.bids) (selection_held c.args.self.proposal.now).activated (c.loop-place.place + 1) l) (sym c.add.ensures) turn.more

pub returns-clause-small : goal.returns-clause-small
returns-clause-small c =
    (activations_all _ _ _ c.args.self.book.now.valid (selection_held c.args.self.proposal.now).activated c.loop-place.place c.loop-place.sums
    (omega (arith, ap length c.deref-bid-items.ensures.value)) c.loop-place.invariant).1
