use Rattle.layout.proofs.ExactlyProposals.{proposal_layout}
use Rattle.layout.proofs.exact.proposal_layout.Goals as goal

pub returns : goal.returns
returns c = proposal_layout
