use Rattle.std.proofs.Common.{◌≤◌, length, vec_items, ap, ◌∙◌, rules}
use Rattle.layout.specs.Writing.{proposal_size, proposal_write_after}
use Rattle.layout.proofs.Proposals.{selection_from, selection_same}
use Rattle.writing.proofs.Buffers.{proposal_put}
use Rattle.writing.proofs.write.write_proposal.Goals as goal

pub returns-clause-after : goal.returns-clause-after
returns-clause-after c =
    let ss = c.as_slice-satisfied.result.now in
    let fs = c.as_slice-flows.result.now in
    let xs = c.as_slice-activated.result.now in
    let prices = c.args.prices.now in
    let out = c.args.out.now in
    let same = selection_same ss (vec_items c.args.amounts.now.satisfied) fs (vec_items c.args.amounts.now.flows) xs (vec_items c.args.amounts.now.activated)
    c.as_slice-satisfied.ensures.value c.as_slice-flows.ensures.value c.as_slice-activated.ensures.value in
    let fits : proposal_size (selection_from ss fs xs) prices ≤ length out = search rules in
    proposal_put c.args.levels ss fs xs prices out c.put_table.new.out c.put_table-2.new.out c.put_table-3.new.out c.put_table-4.new.out c.put_table-5.new.out c.from.result c.from.ensures fits
    c.put_table.ensures c.put_table-2.ensures c.put_table-3.ensures c.put_table-4.ensures c.put_table-5.ensures
    ∙ ap (λ x. proposal_write_after c.args.levels x prices out) same
