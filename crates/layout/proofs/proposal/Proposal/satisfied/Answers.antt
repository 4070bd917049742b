use Rattle.std.proofs.Common.{◌≡◌, pos, unwrap_or, w32, SFits, rules}
use Rattle.records.specs.Bytes.{signed_word}
use Rattle.layout.specs.Sections.{satisfied_bytes}
use Rattle.records.proofs.Tables.{signed_read}
use Rattle.layout.proofs.proposal.Proposal.satisfied.Goals as goal

pub returns : goal.returns
returns c =
    let fits : SFits w32 c.unwrap_or_default.result = search rules in
    let is : c.unwrap_or_default.result ≡ unwrap_or c.record_at.result (pos 0) = search rules in
    signed_read signed_word 4 (satisfied_bytes c.args.self.now) _ c.args.area _ (pos 0) _ fits c.bytes.ensures c.record_at.ensures is
