use Rattle.std.proofs.Common.{vec_items, arith}
use Rattle.cycle.specs.View.{view}
use Rattle.history.proofs.Replayed.{replaying_more, replaying_all}
use Rattle.history.proofs.replay.replay_calls.Goals as goal

pub loop-call-preserved : goal.loop-call-preserved
loop-call-preserved g c = (
  replaying_more g.S.Scale.meaning c.args.calls.now (vec_items c.loop-call.answers) (vec_items c.push_reserved.new.self) c.loop-call.call-index
      (view c.loop-call.cycle) (view c.make.new.self) _ c.make.result (omega arith) c.make.ensures.answer c.make.ensures.after c.push_reserved.ensures.items c.loop-call.invariant.0,
  omega arith,
)

pub returns-clause-kept : goal.returns-clause-kept
returns-clause-kept g c =
    replaying_all g.S.Scale.meaning g.met.S.Scale.lawful c.args.calls.now (vec_items c.loop-call.answers) c.loop-call.call-index _ (omega arith) c.loop-call.invariant.0
