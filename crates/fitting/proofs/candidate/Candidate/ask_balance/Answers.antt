use Rattle.std.proofs.Common.{◌≤◌, ◌&&◌, length, vec_items, slice_index_or, pos, ap, ◌∙◌, arith, rules, ℕ, Bool}
use Rattle.market.specs.First.{ask}
use mathlib.Core.Logic.{∥∥₁_elim}
use native.Mathlib.Bridge.{le_prop}
use lib.Signed.{le_z}
use Rattle.market.specs.declared.refusal.Refusal.TheVariants.{Balance}
use Rattle.market.proofs.Firsts.{ask_same}
use Rattle.fitting.specs.Judged.{satisfied_at}
use Rattle.fitting.specs.Candidates.{selection}
use Rattle.fitting.proofs.candidate.Candidate.ask_balance.Goals as goal

pub returns : goal.returns
returns c =
    let few : length (vec_items c.args.self.book.now.demands) ≤ 48 = ∥∥₁_elim c.args.self.book.now.valid le_prop (λ v. v.few_areas) in
    let ok : ℕ → Bool = λ a. le_z (slice_index_or c.balance_sheet-sums.result a (pos 0)) (satisfied_at (selection c.args.self) a) && le_z (satisfied_at (selection c.args.self) a) (slice_index_or c.balance_sheet-sums.result a (pos 0)) in
    c.ask.ensures ok Balance (λ k b below says. search rules) (λ k e below says. search rules)
    ∙ ap (λ n. ask ok n Balance) (search rules)
    ∙ ask_same _ _ _ _ (λ a h.
    ap (λ z. le_z z (satisfied_at (selection c.args.self) a) && le_z (satisfied_at (selection c.args.self) a) z) (c.balance_sheet-sums.ensures a (omega arith)))
