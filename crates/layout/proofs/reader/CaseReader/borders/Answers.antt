use Rattle.std.proofs.Common.{◌/◌, length, sym}
use Rattle.records.specs.Records.{border_of}
use Rattle.records.proofs.Tables.{length_table}
use Rattle.layout.proofs.reader.CaseReader.borders.Goals as goal

pub returns : goal.returns
returns c = sym (length_table border_of 12 (length c.args.self.now.borders.now / 12) c.args.self.now.borders.now)
