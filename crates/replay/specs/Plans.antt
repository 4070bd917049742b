-- Planned calls, and what they are to send.
--
--   intended   what a planned call is to send
use Rattle.std.specs.Prelude.{vec_items}
use Rattle.cycle.specs.Sent.{Sent, load, revise, limit, withdraw, submit, read}
use Rattle.replay.specs.declared.Planned.{Planned}
use Rattle.replay.specs.declared.Planned.TheVariants.{Load, Submit, Revise, Limit, Withdraw, Read}

abbrev pub intended : Planned → Sent
intended (Load bytes) = load (vec_items bytes)
intended (Submit bytes) = submit (vec_items bytes)
intended (Revise area demand) = revise area demand
intended (Limit border forward backward) = limit border forward backward
intended (Withdraw bid) = withdraw bid
intended (Read item) = read item
