use Rattle.std.proofs.Common.{◌≤◌, length, vec_items, vec_capacity}
use Rattle.cycle.specs.View.{view}
use Rattle.history.proofs.Replayed.{Replaying}
use Rattle.history.proofs.replay.replay_calls.Given as goal

abbrev pub invariant-loop-call : goal.invariant-loop-call
invariant-loop-call g l = Replaying g.S.Scale.meaning l.calls (vec_items l.answers) l.call-index (view l.cycle) × (length l.calls ≤ vec_capacity l.answers)
