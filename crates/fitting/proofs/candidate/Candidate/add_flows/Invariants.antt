use Rattle.std.proofs.Common.{vec_items}
use Rattle.layout.specs.Sections.{selection_held}
use Rattle.fitting.proofs.Sheets.{Flowing}
use Rattle.fitting.proofs.candidate.Candidate.add_flows.Given as goal

abbrev pub invariant-loop-place : goal.invariant-loop-place
invariant-loop-place l = Flowing l.initial.sums (vec_items l.self.book.now.borders) (selection_held l.self.proposal.now).flows l.place l.sums
