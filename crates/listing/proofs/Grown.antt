-- Pieces written one after another. Assumes nothing.
--
--   none       nothing is written
--   one        one byte is written
--   next       one piece, then another
--   renamed    the text after it by another name
--   as_piece   the same piece and a larger bound
use Rattle.std.proofs.Common.{◌≡◌, ℕ, ◌+◌, ◌≤◌, List, [], ◌∷◌, ◌++◌, vec_len, sym, refl, ap, ◌∙◌, subst, append_assoc, append-nil, arith}
use Rattle.listing.specs.declared.text.Text.{Text}
use Rattle.listing.specs.Growth.{Wrote}
use Rattle.listing.specs.View.{text_of, room_of}

pub one : {u v : Text} {x : ℕ} → text_of v ≡ text_of u ++ (x ∷ []) → vec_len v.bytes ≡ vec_len u.bytes + 1 → room_of v ≡ room_of u → Wrote 1 u v (x ∷ [])
one items len memory = record { items = items; memory = memory; short = omega arith }

pub next : {a b : ℕ} {u v w : Text} {p q : List ℕ} → Wrote a u v p → Wrote b v w q → Wrote (a + b) u w (p ++ q)
next {a} {b} {u} {v} {w} {p} {q} f g = record {
  items = g.items ∙ ap (λ xs. xs ++ q) f.items ∙ append_assoc (text_of u) p q;
  memory = g.memory ∙ f.memory;
  short = omega arith;
}

pub renamed : {a : ℕ} {u v w : Text} {p : List ℕ} → w ≡ v → Wrote a u v p → Wrote a u w p
renamed {a} {u} {v} {w} {p} e f = subst (λ (x : Text). Wrote a u x p) (sym e) f

pub none : {u v : Text} → v ≡ u → Wrote 0 u v []
none {u} e = renamed e (record { items = sym (append-nil (text_of u)); memory = refl; short = omega arith })

pub as_piece : {a b : ℕ} {u v : Text} {p q : List ℕ} → p ≡ q → a ≤ b → Wrote a u v p → Wrote b u v q
as_piece {u = u} e le f = record {
  items = f.items ∙ ap (λ xs. text_of u ++ xs) e;
  memory = f.memory;
  short = omega arith;
}
