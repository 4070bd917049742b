use Rattle.std.proofs.Common.{false, sym, ◌∙◌}
use mathlib.Core.Logic.{∥∥₁_elim}
use lib.Dec.{T_prop}
use Rattle.layout.specs.ProposalBytes.{price_part}
use Rattle.layout.specs.Sections.{selection_held, levels_of, prices_bytes}
use Rattle.market.specs.Held.{held}
use Rattle.fitting.specs.Priced.{price_held}
use Rattle.fitting.proofs.Best.{judged_unbeaten}
use Rattle.fitting.proofs.Passed.{passed_from_judged, within_from_passed}
use Rattle.fitting.proofs.verdict.judge.Goals as goal

pub returns-clause-unbeaten : goal.returns-clause-unbeaten
returns-clause-unbeaten g c = λ yes-it-is counts.
    let e = sym c.ask_all.ensures ∙ yes-it-is in
    record {
      within = within_from_passed g.S.Scale.meaning (held c.args.book.now) (selection_held c.args.proposal.now) (price_held g.S.Scale.meaning c.args.proposal.now) counts
          (passed_from_judged g.S.Scale.meaning (held c.args.book.now) (selection_held c.args.proposal.now) (price_held g.S.Scale.meaning c.args.proposal.now) e);
      best = λ y beats. ∥∥₁_elim c.args.book.now.valid (T_prop false) (λ valid.
          (judged_unbeaten g.S.Scale.meaning g.met.S.Scale.lawful (held c.args.book.now) valid (selection_held c.args.proposal.now)
          (λ a. price_part (levels_of c.args.proposal.now) (prices_bytes c.args.proposal.now) a) counts e).best y beats);
    }
