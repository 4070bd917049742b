-- Words as numbers, and read one behind the other. Assumes nothing.
use Rattle.std.proofs.Common.{◌≡◌, ℕ, suc, ◌+◌, ◌*◌, ◌≤◌, List, [], ◌∷◌, length, get_or, take, drop, ap, ◌∙◌, arith}
use Rattle.std.proofs.lemmas.List.{drop-drop}
use Rattle.scale.specs.Levels.{little_endian}
use Rattle.records.specs.Bytes.{word}

-- four bytes, as `from_le_bytes` adds them
pub four : (bs : List ℕ) → 4 ≤ length bs → get_or bs 0 0 + get_or bs 1 0 * 256 + get_or bs 2 0 * 65536 + get_or bs 3 0 * 16777216 ≡ little_endian (take 4 bs)
four [] h = absurd (omega arith)
four (a ∷ []) h = absurd (omega arith)
four (a ∷ b ∷ []) h = absurd (omega arith)
four (a ∷ b ∷ c ∷ []) h = absurd (omega arith)
four (a ∷ b ∷ c ∷ d ∷ bs) h = omega arith

-- what stands behind the first k words begins with word k
pub next : (k : ℕ) (bs rest later : List ℕ) (n : ℕ) → rest ≡ drop (4 * k) bs → (n ≡ little_endian (take 4 rest)) × (later ≡ drop 4 rest) × (length later + 4 ≡ length rest)
    → (n ≡ word k bs) × (later ≡ drop (4 * suc k) bs)
next k bs rest later n at read =
    (read.0 ∙ ap (λ x. little_endian (take 4 x)) at, read.1 ∙ (ap (drop 4) at ∙ (drop-drop 4 (4 * k) bs ∙ ap (λ m. drop m bs) (omega arith))))
