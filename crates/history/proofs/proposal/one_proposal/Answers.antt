use Rattle.history.proofs.OneProposal.{one_proposal}
use Rattle.history.proofs.proposal.one_proposal.Goals as goal

pub returns : goal.returns
returns g c = one_proposal g.S.Scale.meaning g.met.S.Scale.lawful
