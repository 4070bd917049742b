use Rattle.std.proofs.Common.{vec_items}
use Rattle.layout.specs.Sections.{selection_held}
use Rattle.fitting.proofs.Sheets.{Activations}
use Rattle.fitting.proofs.candidate.Candidate.activations.Given as goal

abbrev pub invariant-loop-place : goal.invariant-loop-place
invariant-loop-place l = Activations (vec_items l.self.book.now.bids) (selection_held l.self.proposal.now).activated l.place l.sums
