-- The lines of a table, one after another. Assumes nothing.
--
--   row_more    one more line
--   rows_all    all lines
use Rattle.std.proofs.Common.{◌≡◌, ℕ, zero, suc, ◌+◌, ◌*◌, ◌≤◌, List, ◌++◌, sym, ap, ◌∙◌, subst, append_assoc, append-nil, arith}
use Rattle.listing.specs.declared.text.Text.{Text}
use Rattle.listing.specs.Growth.{Wrote}
use Rattle.listing.specs.Lines.{lines}
use Rattle.listing.proofs.Grown.{next, as_piece}

lines_after : (line : ℕ → List ℕ) (i n k : ℕ) → i + n ≡ k → lines line i (suc n) ≡ lines line i n ++ line k
lines_after line i zero k e = let j : i ≡ k = omega arith in append-nil (line i) ∙ ap line j
lines_after line i (suc n) k e =
    ap (λ t. line i ++ t) (lines_after line (suc i) n k (omega arith)) ∙ sym (append_assoc (line i) (lines line (suc i) n) (line k))

lines_more : (line : ℕ → List ℕ) (n : ℕ) → lines line 0 n ++ line n ≡ lines line 0 (n + 1)
lines_more line n =
    let e : suc n ≡ n + 1 = omega arith in
    sym (lines_after line 0 n n (omega arith)) ∙ ap (lines line 0) e

module _ {u v : Text} (bound : ℕ) (line : ℕ → List ℕ) (n : ℕ) (before : Wrote (bound * n) u v (lines line 0 n)) where
  pub row_more : {w : Text} {p : List ℕ} (m : ℕ) → m ≡ n + 1 → p ≡ line n → Wrote bound v w p → Wrote (bound * m) u w (lines line 0 m)
  row_more {w} m more e one =
      subst (λ (k : ℕ). Wrote (bound * k) u w (lines line 0 k)) (sym more)
      (as_piece (ap (λ t. lines line 0 n ++ t) e ∙ lines_more line n) (omega arith) (next before one))

  pub rows_all : (m most : ℕ) → n ≡ m → bound * n ≤ most → Wrote most u v (lines line 0 m)
  rows_all m most e le = as_piece (ap (lines line 0) e) le before
