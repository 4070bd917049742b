-- Tables of records: how one grows, and what stands at a place. Assumes nothing.
use Rattle.std.proofs.Common.{◌≡◌, ℕ, zero, suc, ◌+◌, ◌-◌, ◌*◌, ◌/◌, ◌%◌, ◌<◌, ◌≤◌, cond, leb, List, [], ◌∷◌, ◌++◌, length, get_or, take, drop, ℤ, Some, None, Option, unwrap_or, sym, refl, ap, ◌∙◌, add_comm, append_assoc, mul-le-mul_left, mul-zero, mul-suc, add-one, arith, length-append, length-drop, w32, SFits, to_z, of_z, le-ltb, lt-ltb, le-leb}
use native.Mathlib.Nat.{div-add-mod, div-eq-sub-div, div-eq_of_lt, mul-div_cancel_left}
use native.Mathlib.Decide.{dec_lt}
use Rattle.std.proofs.lemmas.List.{drop-drop, drop-take, take-take, take_rest, length-take-le}
use Rattle.std.proofs.lemmas.Int.{to_z-of_z}
use Rattle.records.specs.Bytes.{part, table, records, record_at}

-- a record at a place of n / s lies within n bytes
pub within : (n s k : ℕ) → k < n / s → s * k + s ≤ n
within n s k h =
    let m : s * suc k ≤ s * (n / s) = mul-le-mul_left s h in
    let e : s * (n / s) + n % s ≡ n = div-add-mod n s in
    let f : s * suc k ≡ s * k + s = mul-suc s k in
    omega arith

module _ {X : Type 0} (f : List ℕ → X) (s : ℕ) where
  pub part_later : (k : ℕ) (bs : List ℕ) → part (s * k) s (drop s bs) ≡ part (s * suc k) s bs
  part_later k bs =
      ap (take s) (drop-drop (s * k) s bs ∙ ap (λ n. drop n bs) (add_comm s (s * k) ∙ sym (mul-suc s k)))

  pub table_push : (k : ℕ) (bs : List ℕ) → table f s (suc k) bs ≡ table f s k bs ++ (f (part (s * k) s bs) ∷ [])
  table_push zero bs = ap (λ n. f (part n s bs) ∷ []) (sym (mul-zero s))
  table_push (suc k) bs =
      ap (λ t. f (take s bs) ∷ t) (table_push k (drop s bs) ∙ ap (λ p. table f s k (drop s bs) ++ (f p ∷ [])) (part_later k bs))

  -- a table needs no more bytes than its records take
  pub table_take : (n : ℕ) (bs : List ℕ) → table f s n (take (s * n) bs) ≡ table f s n bs
  table_take zero bs = refl
  table_take (suc n) bs =
      let size : s * suc n ≡ s + s * n = mul-suc s n ∙ add_comm (s * n) s in
      let head : take s (take (s * suc n) bs) ≡ take s bs = take-take s (s * suc n) bs (omega arith) in
      let rest : drop s (take (s * suc n) bs) ≡ take (s * n) (drop s bs) = ap (λ m. drop s (take m bs)) size ∙ drop-take s (s * n) bs in
      ap (λ x. f x ∷ table f s n (drop s (take (s * suc n) bs))) head
      ∙ ap (λ x. f (take s bs) ∷ x) (ap (table f s n) rest ∙ table_take n (drop s bs))

  -- the whole records of a part of the bytes
  pub records_part : (n offset : ℕ) (bs : List ℕ) → 0 < s → offset + s * n ≤ length bs → records f s (part offset (s * n) bs) ≡ table f s n (drop offset bs)
  records_part n offset bs positive fits =
      let long : length (part offset (s * n) bs) ≡ s * n = length-take-le (s * n) (drop offset bs) (rw length-drop (omega arith)) in
      ap (λ m. table f s m (part offset (s * n) bs)) (ap (λ m. m / s) long ∙ mul-div_cancel_left n positive) ∙ table_take n (drop offset bs)

  pub length_table : (n : ℕ) (bs : List ℕ) → length (table f s n bs) ≡ n
  length_table zero bs = refl
  length_table (suc n) bs = ap suc (length_table n (drop s bs))

  pub getD_table : (n k : ℕ) (bs : List ℕ) (d : X) → k < n → get_or (table f s n bs) k d ≡ f (part (s * k) s bs)
  getD_table zero k bs d h = absurd (omega arith)
  getD_table (suc n) zero bs d h = ap (λ m. f (part m s bs)) (sym (mul-zero s))
  getD_table (suc n) (suc k) bs d h = getD_table n k (drop s bs) d (omega arith) ∙ ap f (part_later k bs)

  pub getD_table_past : (n k : ℕ) (bs : List ℕ) (d : X) → n ≤ k → get_or (table f s n bs) k d ≡ d
  getD_table_past zero k bs d h = refl
  getD_table_past (suc n) zero bs d h = absurd (omega arith)
  getD_table_past (suc n) (suc k) bs d h = getD_table_past n k (drop s bs) d (omega arith)

  -- the record at a place, with a default, is the list's
  record_at_within : (bs : List ℕ) (k : ℕ) → k < length bs / s → record_at f s bs k ≡ Some (f (part (s * k) s bs))
  record_at_within bs k h = ap (λ t. cond t (Some (f (part (s * k) s bs))) None) (lt-ltb k (length bs / s) h)

  record_at_past : (bs : List ℕ) (k : ℕ) → length bs / s ≤ k → record_at f s bs k ≡ None
  record_at_past bs k h = ap (λ t. cond t (Some (f (part (s * k) s bs))) None) (le-ltb k (length bs / s) h)

  pub valueOr_record_at : (bs : List ℕ) (k : ℕ) (d : X) → unwrap_or (record_at f s bs k) d ≡ get_or (records f s bs) k d
  valueOr_record_at bs k d = elim (dec_lt k (length bs / s)) [
    | yes h ↦ ap (λ o. unwrap_or o d) (record_at_within bs k h) ∙ sym (getD_table (length bs / s) k bs d h)
    | no h ↦ ap (λ o. unwrap_or o d) (record_at_past bs k (omega arith)) ∙ sym (getD_table_past (length bs / s) k bs d (omega arith))
  ]

  -- the first record of what stands from a place on is the record at that place
  pub record_at_first : (bs : List ℕ) (k size : ℕ) (r : Option X) → size ≡ s → k < length bs / size
      → r ≡ cond (leb s (length (take (length bs - size * k) (drop (size * k) bs)))) (Some (f (take s (take (length bs - size * k) (drop (size * k) bs))))) None
      → r ≡ record_at f s bs k
  record_at_first bs k size r e h is =
      let inside : s * k + s ≤ length bs = within (length bs) s k (rw e at h) in
      let long : s ≤ length (drop (s * k) bs) = rw length-drop (omega arith) in
      is
      ∙ (ap (λ z. cond (leb s (length (take (length bs - z * k) (drop (z * k) bs)))) (Some (f (take s (take (length bs - z * k) (drop (z * k) bs))))) None) e
      ∙ (ap (λ q. cond (leb s (length q)) (Some (f (take s q))) None) (take_rest bs (s * k))
      ∙ (ap (λ t. cond t (Some (f (part (s * k) s bs))) None) (le-leb s (length (drop (s * k) bs)) long)
      ∙ sym (record_at_within bs k (rw e at h)))))

  -- what a reader answers, from what its calls answer
  pub read : (bs q : List ℕ) (k : ℕ) (o : Option X) (d r : X) → q ≡ bs → o ≡ record_at f s q k → r ≡ unwrap_or o d → r ≡ get_or (records f s bs) k d
  read bs q k o d r e is out = out ∙ (ap (λ x. unwrap_or x d) (is ∙ ap (λ x. record_at f s x k) e) ∙ valueOr_record_at bs k d)

  -- one record more
  pub table_next : (bs : List ℕ) (items later : List X) (n k m : ℕ) (x : X) → items ≡ table f s n bs → k ≡ n → Some x ≡ record_at f s bs k → later ≡ items ++ (x ∷ []) → m ≡ n + 1
      → (later ≡ table f s m bs) × (m ≤ length bs / s)
  table_next bs items later n k m x e at is more up = elim (dec_lt n (length bs / s)) [
    | yes h ↦ (
      let same : x ≡ f (part (s * n) s bs) = cc (record_at_within bs n h, ap (record_at f s bs) at) in
          more ∙ (ap (λ l. l ++ (x ∷ [])) e ∙ (ap (λ y. table f s n bs ++ (y ∷ [])) same ∙ (sym (table_push n bs) ∙ ap (λ k. table f s k bs) (sym (up ∙ add-one n))))),
      omega arith,
    )
    | no h ↦ let z : ◌≡◌ {A = ℕ} 0 1 = cc (record_at_past bs n (omega arith), ap (record_at f s bs) at) in absurd (omega arith)
  ]

  -- the records of bytes that begin with a whole one, and of bytes that do not
  pub records_more : (bs : List ℕ) → 0 < s → s ≤ length bs → records f s bs ≡ f (take s bs) ∷ records f s (drop s bs)
  records_more bs positive fits =
      ap (λ n. table f s n bs) (div-eq-sub-div positive fits ∙ add-one ((length bs - s) / s))
      ∙ ap (λ n. f (take s bs) ∷ table f s (n / s) (drop s bs)) (sym (length-drop s bs))

  pub records_none : (bs : List ℕ) → length bs < s → records f s bs ≡ []
  records_none bs short = ap (λ n. table f s n bs) (div-eq_of_lt short)

  -- with the first record of the rest behind the items, the items and the rest are the same records
  pub fill_more : (bs rest behind : List ℕ) (items later : List X) (x : X) → 0 < s → items ++ records f s rest ≡ records f s bs
      → (x ≡ f (take s rest)) × (behind ≡ drop s rest) × (length behind + s ≡ length rest) → later ≡ items ++ (x ∷ []) → later ++ records f s behind ≡ records f s bs
  fill_more bs rest behind items later x positive all first more =
      let split : records f s rest ≡ x ∷ records f s behind =
      records_more rest positive (omega (arith, first.2)) ∙ (ap (λ y. y ∷ records f s (drop s rest)) (sym first.0) ∙ ap (λ r. x ∷ records f s r) (sym first.1)) in
      ap (λ l. l ++ records f s behind) more ∙ (append_assoc items (x ∷ []) (records f s behind) ∙ (ap (λ l. items ++ l) (sym split) ∙ all))

  -- and there are more records than the items
  pub fill_room : (bs rest : List ℕ) (items : List X) → 0 < s → items ++ records f s rest ≡ records f s bs → s ≤ length rest → length items < length bs / s
  fill_room bs rest items positive all fits =
      let count : length items + length rest / s ≡ length bs / s =
      ap (λ n. length items + n) (sym (length_table (length rest / s) rest)) ∙ (sym (length-append items (records f s rest)) ∙ (ap length all ∙ length_table (length bs / s) bs)) in
      omega (arith, div-eq-sub-div positive fits)

pub signed_read : (f : List ℕ → ℤ) (s : ℕ) (bs q : List ℕ) (k : ℕ) (o : Option ℤ) (d r : ℤ) → SFits w32 r → q ≡ bs → o ≡ record_at f s q k → r ≡ unwrap_or o d
    → to_z w32 (of_z w32 r) ≡ get_or (records f s bs) k d
signed_read f s bs q k o d r fits e is out = to_z-of_z w32 r fits ∙ read f s bs q k o d r e is out
