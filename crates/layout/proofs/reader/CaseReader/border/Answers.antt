use Rattle.std.proofs.Common.{◌≡◌, refl, unwrap_or, rules}
use Rattle.market.specs.Cases.{no_border}
use Rattle.records.specs.Records.{border_of}
use Rattle.records.proofs.Tables.{read}
use Rattle.layout.proofs.reader.CaseReader.border.Goals as goal

pub returns : goal.returns
returns c =
    let is : c.unwrap_or_default.result ≡ unwrap_or c.record_at.result no_border = search rules in
    read border_of 12 c.args.self.now.borders.now _ c.args.border _ no_border _ refl c.record_at.ensures is
