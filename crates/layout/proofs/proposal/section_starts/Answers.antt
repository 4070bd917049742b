use Rattle.std.proofs.Common.{◌*◌, ◌≤◌, mul-le-mul_right, arith}
use Rattle.layout.proofs.proposal.section_starts.Goals as goal

pub overflow_add-result : goal.overflow_add-result
overflow_add-result c =
    let few : c.args.levels * c.args.counts.areas ≤ 16 * c.args.counts.areas = mul-le-mul_right c.args.counts.areas c.requires.3 in
    record { fits = omega arith }
