use Rattle.std.proofs.Common.{◌≡◌, ℕ, ◌+◌, Bool, true, false, cond, List, [], get_or, sym, ap, ◌∙◌, zero-add, add-zero, arith, rules}
use Rattle.foldureem.specs.Told.{cut, is_taken, taken_among}
use Rattle.foldureem.proofs.Pairs.{among_pairs, pair_taken, in_pairs, counted}
use Rattle.foldureem.proofs.many.Cycles.count.Goals as goal
use Rattle.foldureem.proofs.many.Cycles.count.Goals.{then-takes, else-takes}

pub loop-middle-init : goal.loop-middle-init
loop-middle-init c =
    (zero-add _ ∙ (ap (among_pairs c.args.files.now 0) c.as_chunks.ensures.front ∙ in_pairs c.args.files.now 0 c.args.ends.now), omega arith)

pub loop-middle-preserved : goal.loop-middle-preserved
loop-middle-preserved c =
    let files = c.args.files.now in
    let start = c.loop-middle.start in
    let pair = get_or c.as_chunks.result.0.now c.loop-middle.middle-index [] in
    let e : c.takes.result ≡ pair_taken files start pair = c.takes.ensures
    ∙ (ap (λ (f : List ℕ). is_taken f c.cut-in-loop-middle.result.now) c.cut.ensures ∙ ap (is_taken (cut files start (get_or pair 0 0))) c.cut-in-loop-middle.ensures) in
    let step : (b : Bool) → c.takes.result ≡ b → c.if-takes.taken ≡ c.loop-middle.taken + cond b 1 0 → _ = λ b is more.
    counted files start c.loop-middle.middle-index c.as_chunks.result.0.now c.loop-middle.taken c.if-takes.taken (taken_among files 0 c.args.ends.now) b
    c.loop-middle-test.true (sym is ∙ e) more c.loop-middle.invariant.0 c.loop-middle.invariant.1 in
    elim c.if-takes.branch [
      | then-takes w ↦ step true (search rules) w.taken-is
      | else-takes w ↦ step false (search rules) (w.taken-is ∙ sym (add-zero _))
    ]
