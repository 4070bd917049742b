use Rattle.std.proofs.Common.{refl}
use Rattle.layout.specs.CaseReaders.{no_direction}
use Rattle.records.specs.Records.{raw_direction}
use Rattle.records.proofs.Tables.{read}
use Rattle.layout.proofs.reader.CaseReader.direction.Goals as goal

pub returns : goal.returns
returns c = read raw_direction 12 c.args.self.now.bids.now _ c.args.bid _ no_direction _ refl c.record_at.ensures c.unwrap_or.ensures
