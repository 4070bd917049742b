use Rattle.std.proofs.Common.{◌≤◌, ◌++◌, length, vec_items, append-nil, sym, ap, ◌∙◌, arith, rules}
use Rattle.records.proofs.Tables.{records_none, fill_more, fill_room}
use Rattle.layout.proofs.table.fill.Goals as goal

pub push_reserved-requires : goal.push_reserved-requires
push_reserved-requires g c =
    let more : g.R.Record.SIZE ≤ length c.loop-record.rest.now = omega (arith, c.in-Some.ensures.2) in
    let room =
    fill_room g.R.Record.reads g.R.Record.SIZE c.args.bytes.now c.loop-record.rest.now (vec_items c.loop-record.table) g.met.R.Record.positive c.loop-record.invariant.0 more in
    search rules

pub loop-record-preserved : goal.loop-record-preserved
loop-record-preserved g c = (
  fill_more g.R.Record.reads g.R.Record.SIZE c.args.bytes.now c.loop-record.rest.now c.in-Some.behind.now (vec_items c.loop-record.table) (vec_items c.push_reserved.new.self) c.in-Some.record
      g.met.R.Record.positive c.loop-record.invariant.0 c.in-Some.ensures c.push_reserved.ensures.items,
  search rules,
)

pub returns-clause-items : goal.returns-clause-items
returns-clause-items g c =
    let none = records_none g.R.Record.reads g.R.Record.SIZE c.loop-record.rest.now c.in_default.ensures in
    sym (append-nil (vec_items c.loop-record.table)) ∙ (ap (λ l. vec_items c.loop-record.table ++ l) (sym none) ∙ c.loop-record.invariant.0)
