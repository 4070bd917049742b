use Rattle.std.proofs.Common.{◌≤◌, length, ◌∙◌, rules}
use Rattle.market.specs.Cases.{case_of}
use Rattle.layout.specs.CaseBytes.{case_size}
use Rattle.writing.proofs.Buffers.{case_put}
use Rattle.writing.proofs.write.write_case.Goals as goal

pub returns-clause-after : goal.returns-clause-after
returns-clause-after c =
    let ds = c.as_slice-demands.result.now in
    let bs = c.as_slice-borders.result.now in
    let os = c.as_slice-bids.result.now in
    let fits : case_size (case_of ds bs os) ≤ length c.args.out.now = search rules in
    case_put ds bs os c.args.out.now c.put_table.new.out c.put_table-2.new.out c.put_table-3.new.out c.put_table-4.new.out c.from.result c.from.ensures fits
    c.put_table.ensures c.put_table-2.ensures c.put_table-3.ensures c.put_table-4.ensures ∙ search rules
