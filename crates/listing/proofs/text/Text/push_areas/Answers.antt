use Rattle.std.proofs.Common.{◌≡◌, [], ◌∷◌, length, ℤ, ℕ, List, pos, ◌-ℤ◌, decimal, ap, ◌∙◌, arith, w32, SFits, rules}
use Rattle.std.proofs.lemmas.Int.{to_z-of_z}
use Rattle.std.proofs.lemmas.List.{length_push}
use Rattle.std.specs.Fmt.{signed_decimal}
use Rattle.listing.specs.Figures.{if_up, if_down, sum_in}
use Rattle.listing.specs.Growth.{area_room}
use Rattle.listing.specs.Lines.{spaced, area_line}
use Rattle.listing.specs.View.{case_in, selection_in}
use Rattle.listing.proofs.Pairs.{pair_turn, pair_end}
use Rattle.listing.proofs.Rows.{row_more, rows_all}
use Rattle.listing.proofs.Standing.{known}
use Rattle.listing.proofs.text.Text.push_areas.Goals as goal

-- the line of an area from its number and its four figures
abbrev written : ℕ → ℤ → ℤ → ℕ → ℕ → List ℕ
written a d s u w =
    spaced (decimal a ∷ (signed_decimal d ∷ (signed_decimal s ∷ (signed_decimal (d -ℤ s) ∷ (decimal u ∷ (decimal w ∷ (signed_decimal ((pos u -ℤ pos w) -ℤ s) ∷ [])))))))

pub activated_in-requires : goal.activated_in-requires
activated_in-requires c = omega (arith, ap length c.as_slice-bids.ensures.value, (known c.args.standing.now).few_bids)

pub push_area-requires : goal.push_area-requires
push_area-requires c =
    let k = known c.args.standing.now in
    let i = c.loop-area.invariant in
    let turn =
    pair_turn (case_in c.args.standing.now).demands (selection_in c.args.standing.now).satisfied c.into_iter-area-iterator.result (cc) (cc) (cc)
    c.loop-area.area-iterator c.next.new.self c.next.result c.loop-area.yielded c.loop-area.yielded_by c.next.ensures.steps _ c.in-Some.is in
    omega (arith, turn.0, k.few_areas, i.short, i.memory)

pub loop-area-preserved : goal.loop-area-preserved
loop-area-preserved c =
    let x = case_in c.args.standing.now in
    let s = selection_in c.args.standing.now in
    let n = length c.loop-area.yielded in
    let turn =
    pair_turn x.demands s.satisfied c.into_iter-area-iterator.result (cc) (cc) (cc)
    c.loop-area.area-iterator c.next.new.self c.next.result c.loop-area.yielded c.loop-area.yielded_by c.next.ensures.steps _ c.in-Some.is in
    let fits_demand : SFits w32 c.in-Some.demand.now = search rules in
    let fits_satisfied : SFits w32 c.in-Some.satisfied.now = search rules in
    let area : c.in-Some.area ≡ n = turn.1 in
    let demand = to_z-of_z w32 c.in-Some.demand.now fits_demand ∙ turn.2 (pos 0) in
    let satisfied = to_z-of_z w32 c.in-Some.satisfied.now fits_satisfied ∙ turn.3 (pos 0) in
    let up = c.activated_in.ensures.up ∙ (λ i. sum_in if_up (area i) (c.as_slice-bids.ensures.value i) (c.as_slice-amounts.ensures.value i)) in
    let down = c.activated_in.ensures.down ∙ (λ i. sum_in if_down (area i) (c.as_slice-bids.ensures.value i) (c.as_slice-amounts.ensures.value i)) in
    row_more area_room (area_line x s) n c.loop-area.invariant _ (length_push c.loop-area.yielded _)
    (λ i. written (area i) (demand i) (satisfied i) (up i) (down i)) c.push_area.ensures

pub returns : goal.returns
returns c =
    let k = known c.args.standing.now in
    let end =
    pair_end (case_in c.args.standing.now).demands (selection_in c.args.standing.now).satisfied c.into_iter-area-iterator.result (cc) (cc) (cc)
    c.loop-area.area-iterator c.next.new.self c.next.result c.loop-area.yielded c.loop-area.yielded_by c.next.ensures.steps c.in-None.is in
    let few = k.few_areas in
    let count = k.satisfied_count in
    rows_all area_room (area_line (case_in c.args.standing.now) (selection_in c.args.standing.now)) (length c.loop-area.yielded) c.loop-area.invariant _ _ (omega arith) (omega arith)
