use Rattle.std.proofs.Common.{◌≡◌, refl, unwrap_or, rules}
use Rattle.market.specs.Cases.{no_bid}
use Rattle.records.specs.Records.{bid_of}
use Rattle.records.proofs.Tables.{read}
use Rattle.layout.proofs.reader.CaseReader.bid.Goals as goal

pub returns : goal.returns
returns c =
    let is : c.unwrap_or_default.result ≡ unwrap_or c.record_at.result no_bid = search rules in
    read bid_of 12 c.args.self.now.bids.now _ c.args.bid _ no_bid _ refl c.record_at.ensures is
