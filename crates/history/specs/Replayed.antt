-- The history of a replay.
--
--   history_of     the history that calls and their answers add to earlier steps
--   state_after    what a cycle holds after a history: the case in force, and what stands
use Rattle.std.specs.Prelude.{List, [], ◌∷◌}
use Rattle.cycle.specs.declared.calls.Call.{Call}
use Rattle.cycle.specs.Sent.{Answer, sent}
use Rattle.cycle.specs.States.{State}
use Rattle.history.specs.Histories.{Step, History, in_force, standing}

abbrev pub step : Call → Answer → Step
step call answer = record { call = sent call; answer = answer }

abbrev pub history_of : History → List Call → List Answer → History
history_of earlier [] answers = earlier
history_of earlier (call ∷ calls) [] = earlier
history_of earlier (call ∷ calls) (answer ∷ answers) = history_of (step call answer ∷ earlier) calls answers

abbrev pub state_after : History → State
state_after h = record { case = in_force h; standing = standing h }
