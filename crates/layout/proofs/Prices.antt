-- The part of a price, cut with products that stop at the largest number. Assumes nothing.
use Rattle.std.proofs.Common.{◌≡◌, ℕ, zero, suc, ◌+◌, ◌-◌, ◌*◌, ◌^◌, ◌<◌, ◌≤◌, min, List, length, take, drop, sym, ap, ◌∙◌, mul-zero, mul-suc, arith, length-drop}
use native.Mathlib.Decide.{dec_le}
use Rattle.std.proofs.lemmas.List.{take_all, drop_all}
use Rattle.layout.specs.ProposalBytes.{price_part}

-- stopping at M changes no place within size
stops : (size levels area M width : ℕ) → size ≤ M → width ≡ min (levels * 8) M → min (min (width * area) M) size ≡ min (8 * levels * area) size
stops size levels zero M width short is = omega (arith, mul-zero width, mul-zero (8 * levels))
stops size levels (suc k) M width short is = elim (dec_le (levels * 8) M) [
  | yes h ↦
      let same : width ≡ 8 * levels = omega arith in
      omega (arith, ap (λ w. w * suc k) same)
  | no h ↦ omega (arith, mul-suc width k, mul-suc (8 * levels) k)
]

drop_stops : (prices : List ℕ) (start place : ℕ) → start ≡ min place (length prices) → drop start prices ≡ drop place prices
drop_stops prices start place is = elim (dec_le place (length prices)) [
  | yes h ↦ ap (λ n. drop n prices) (omega arith)
  | no h ↦ drop_all start prices (omega arith) ∙ sym (drop_all place prices (omega arith))
]

take_stops : (rest : List ℕ) (count wide : ℕ) → min count (length rest) ≡ min wide (length rest) → take count rest ≡ take wide rest
take_stops rest count wide is = elim (dec_le wide (length rest)) [
  | yes h ↦ elim (dec_le count (length rest)) [
    | yes h' ↦ ap (λ n. take n rest) (omega arith)
    | no h' ↦ take_all count rest (omega arith) ∙ sym (take_all wide rest (omega arith))
  ]
  | no h ↦ take_all count rest (omega arith) ∙ sym (take_all wide rest (omega arith))
]

pub price_cut : (prices given : List ℕ) (levels area width product start count : ℕ) → length prices < 2 ^ 64 → prices ≡ given → width ≡ min (levels * 8) (2 ^ 64 - 1)
    → product ≡ min (width * area) (2 ^ 64 - 1) → start ≡ min product (length prices) → count ≡ min width (length prices - start)
    → take (start + count - start) (drop start prices) ≡ price_part levels given area
price_cut prices given levels area width product start count short same width_is product_is start_is count_is =
    let at : start ≡ min (8 * levels * area) (length prices) =
    start_is ∙ (ap (λ p. min p (length prices)) product_is ∙ stops (length prices) levels area (2 ^ 64 - 1) width (omega arith) width_is) in
    let long : length (drop start prices) ≡ length prices - start = length-drop start prices in
    take_stops (drop start prices) (start + count - start) (8 * levels) (omega arith)
    ∙ (ap (take (8 * levels)) (drop_stops prices start (8 * levels * area) at) ∙ ap (λ p. price_part levels p area) same)
