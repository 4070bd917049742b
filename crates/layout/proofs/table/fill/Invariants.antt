use Rattle.std.proofs.Common.{◌≡◌, ◌++◌, length, vec_items, vec_capacity}
use Rattle.records.specs.Bytes.{records}
use Rattle.layout.proofs.table.fill.Given as goal

-- what the table holds, and behind it the records that are left, are all the records
abbrev pub invariant-loop-record : goal.invariant-loop-record
invariant-loop-record g l =
    (vec_items l.table ++ records g.R.Record.reads g.R.Record.SIZE l.rest ≡ records g.R.Record.reads g.R.Record.SIZE l.bytes)
    × (vec_capacity l.table ≡ vec_capacity l.initial.table)

abbrev pub decreases-loop-record : goal.decreases-loop-record
decreases-loop-record g l = length l.rest
