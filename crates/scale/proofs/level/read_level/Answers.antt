use Rattle.std.proofs.Common.{rules}
use Rattle.scale.proofs.Bytes.{eight}
use Rattle.scale.proofs.level.read_level.Goals as goal

pub returns : goal.returns
returns c = search (rules, eight)
