use Rattle.std.proofs.Common.{◌/◌, length, sym}
use Rattle.records.specs.Bytes.{signed_word}
use Rattle.records.proofs.Tables.{length_table}
use Rattle.layout.proofs.reader.CaseReader.areas.Goals as goal

pub returns : goal.returns
returns c = sym (length_table signed_word 4 (length c.args.self.now.demands.now / 4) c.args.self.now.demands.now)
