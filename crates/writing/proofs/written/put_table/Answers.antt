use Rattle.std.proofs.Common.{◌*◌, ap}
use Rattle.writing.proofs.Placed.{put_next}
use Rattle.writing.proofs.written.put_table.Goals as goal

pub loop-place-preserved : goal.loop-place-preserved
loop-place-preserved g c =
    put_next g.T.Written.writes g.T.Written.SIZE g.met.T.Written.long c.args.table.now c.loop-place.place (c.SIZE.result * c.loop-place.place) c.index-table-place.result c.args.out.now c.loop-place.out c.put.new.out
    c.loop-place-test.true c.index-table-place.is c.requires (ap (λ s. s * c.loop-place.place) c.SIZE.ensures) c.loop-place.invariant c.put.ensures
