use Rattle.std.proofs.Common.{◌≡◌, ◌*◌, length, take, drop, sym, refl, ap, ◌∙◌, arith}
use Rattle.layout.specs.ProposalBytes.{proposal_end}
use Rattle.layout.proofs.Proposals.{taken_length, flows_split, activated_split, prices_split}
use Rattle.layout.proofs.proposal.read_proposal.Goals as goal

pub split_at-requires-4 : goal.split_at-requires-4
split_at-requires-4 c =
    let end : length c.args.bytes.now ≡ proposal_end c.args.counts c.args.levels = taken_length _ _ _ (sym c.in_ok-check_proposal.ensures) in
    omega (arith, c.split_at.ensures.back_len, c.split_at-2.ensures.back_len, c.split_at-3.ensures.back_len)

pub returns-clause-parts : goal.returns-clause-parts
returns-clause-parts c =
    let n = c.args.counts in
    let bs = c.args.bytes.now in
    let left1 = c.split_at.ensures.back in
    let left2 = c.split_at-2.ensures.back ∙ ap (drop (4 * n.areas)) left1 in
    let left3 = c.split_at-3.ensures.back ∙ ap (drop (4 * n.borders)) left2 in
    let left4 = c.split_at-4.ensures.back ∙ ap (drop (4 * n.bids)) left3 in
    record {
      satisfied = c.split_at-2.ensures.front ∙ ap (take (4 * n.areas)) left1;
      flows = c.split_at-3.ensures.front ∙ (ap (take (4 * n.borders)) left2 ∙ flows_split n c.args.levels bs);
      activated = c.split_at-4.ensures.front ∙ (ap (take (4 * n.bids)) left3 ∙ activated_split n c.args.levels bs);
      prices = left4 ∙ prices_split n c.args.levels bs (taken_length n c.args.levels bs (sym c.in_ok-check_proposal.ensures));
      levels_same = refl;
    }
