use Rattle.std.proofs.Common.{refl, rules}
use Rattle.records.proofs.Words.{next}
use Rattle.records.proofs.header.proposal_header.Goals as goal

pub returns : goal.returns
returns c =
    let bs = c.args.bytes.now in
    let kind = next 0 bs _ _ _ refl c.in_ok-kind.ensures in
    let areas = next 1 bs _ _ _ kind.1 c.in_ok-areas.ensures in
    let satisfied = next 2 bs _ _ _ areas.1 c.in_ok-satisfied.ensures in
    let borders = next 3 bs _ _ _ satisfied.1 c.in_ok-borders.ensures in
    let flows = next 4 bs _ _ _ borders.1 c.in_ok-flows.ensures in
    let bids = next 5 bs _ _ _ flows.1 c.in_ok-bids.ensures in
    let activated = next 6 bs _ _ _ bids.1 c.in_ok-activated.ensures in
    let levels = next 7 bs _ _ _ activated.1 c.in_ok-levels.ensures in
    let prices = next 8 bs _ _ _ levels.1 c.in_ok-prices.ensures in
    search rules
