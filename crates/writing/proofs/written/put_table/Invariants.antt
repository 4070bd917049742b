use Rattle.std.proofs.Common.{◌≡◌, ◌*◌, ◌++◌, take, drop}
use Rattle.layout.specs.CaseBytes.{each}
use Rattle.writing.proofs.written.put_table.Given as goal

-- the buffer begins with the records so far, and keeps the rest
abbrev pub invariant-loop-place : goal.invariant-loop-place
invariant-loop-place g l = l.out ≡ each g.T.Written.writes (take l.place l.table) ++ drop (g.T.Written.SIZE * l.place) l.initial.out
