use Rattle.std.proofs.Common.{Some, ap, ◌∙◌}
use Rattle.market.specs.Held.{held}
use Rattle.listing.specs.View.{selection_in}
use Rattle.cycle.specs.Calls.{put, released}
use Rattle.cycle.proofs.closed.Closed+S.release.Goals as goal

pub returns-clause-out : goal.returns-clause-out
returns-clause-out g c =
    let buffer = c.args.out.now in
    c.copy_out.ensures.out
    ∙ ap (λ text. put text buffer) (c.as_slice.ensures ∙ c.render.ensures.text)
    ∙ ap (λ case. released case (Some (selection_in c.in-Some.standing)) buffer) c.in-Some.ensures.case
    ∙ ap (λ standing. released (held c.args.self.now.holdings.book) standing buffer) c.in-Some.ensures.selection
