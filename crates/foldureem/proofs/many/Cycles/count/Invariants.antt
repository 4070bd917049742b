use Rattle.std.proofs.Common.{◌≡◌, ◌+◌, ◌≤◌, drop}
use Rattle.foldureem.specs.Told.{taken_among}
use Rattle.foldureem.proofs.Pairs.{among_pairs}
use Rattle.foldureem.proofs.many.Cycles.count.Given as goal

-- counting the rest from here gives what counting all from the start gives
abbrev pub invariant-loop-middle : goal.invariant-loop-middle
invariant-loop-middle l =
    (l.taken + among_pairs l.files l.start (drop l.middle-index l.pairs) ≡ taken_among l.files 0 l.fn.ends) × (l.taken ≤ l.middle-index)
