use Rattle.std.proofs.Common.{◌≡◌, unwrap_or, rules}
use Rattle.scale.specs.Levels.{little_endian}
use Rattle.layout.specs.Sections.{activated_bytes}
use Rattle.records.proofs.Tables.{read}
use Rattle.layout.proofs.proposal.Proposal.activated.Goals as goal

pub returns : goal.returns
returns c =
    let is : c.unwrap_or_default.result ≡ unwrap_or c.record_at.result 0 = search rules in
    read little_endian 4 (activated_bytes c.args.self.now) _ c.args.bid _ 0 _ c.bytes.ensures c.record_at.ensures is
