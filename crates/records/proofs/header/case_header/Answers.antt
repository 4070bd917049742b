use Rattle.std.proofs.Common.{refl, rules}
use Rattle.records.proofs.Words.{next}
use Rattle.records.proofs.header.case_header.Goals as goal

pub returns : goal.returns
returns c =
    let bs = c.args.bytes.now in
    let kind = next 0 bs _ _ _ refl c.in_ok-kind.ensures in
    let areas = next 1 bs _ _ _ kind.1 c.in_ok-areas.ensures in
    let areas_at = next 2 bs _ _ _ areas.1 c.in_ok-areas_at.ensures in
    let borders = next 3 bs _ _ _ areas_at.1 c.in_ok-borders.ensures in
    let borders_at = next 4 bs _ _ _ borders.1 c.in_ok-borders_at.ensures in
    let bids = next 5 bs _ _ _ borders_at.1 c.in_ok-bids.ensures in
    let bids_at = next 6 bs _ _ _ bids.1 c.in_ok-bids_at.ensures in
    search rules
