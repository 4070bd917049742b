use Rattle.std.proofs.Common.{◌/◌, length, sym}
use Rattle.records.specs.Records.{bid_of}
use Rattle.records.proofs.Tables.{length_table}
use Rattle.layout.proofs.reader.CaseReader.bids.Goals as goal

pub returns : goal.returns
returns c = sym (length_table bid_of 12 (length c.args.self.now.bids.now / 12) c.args.self.now.bids.now)
