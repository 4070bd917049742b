use Rattle.layout.proofs.Exactly.{case_layout}
use Rattle.layout.proofs.exact.case_layout.Goals as goal

pub returns : goal.returns
returns c = case_layout
