-- Bytes put into a buffer, each run behind the one before it. Assumes nothing.
use Rattle.std.proofs.Common.{◌≡◌, ℕ, ◌+◌, ◌-◌, ◌*◌, ◌<◌, ◌≤◌, List, [], ◌∷◌, ◌++◌, length, get_or, take, drop, sym, ap, ◌∙◌, append_assoc, append-nil, mul-le-mul_left, mul-suc, arith, length-append, length-drop, length-take}
use borrow.Rule.Slice.PartMut.{put_mid}
use Rattle.std.proofs.lemmas.List.{drop-drop, take_at, take_rest, drop_at, take_more, drop_more, drop_all, length-take-le, take-append-drop}
use Rattle.records.specs.Bytes.{placed}
use Rattle.layout.specs.CaseBytes.{each}
use Rattle.layout.proofs.RoundTrips.{length_each}

-- bytes put in at a place leave a buffer as long as it is
pub length_placed : (at : ℕ) (bytes out : List ℕ) → at + length bytes ≤ length out → length (placed at bytes out) ≡ length out
length_placed at bytes out fits = simp (length-append, length-take, length-drop) (omega arith)

-- a part of a buffer, written over, is put in
pub placed_part : (at : ℕ) (bytes out part : List ℕ) → part ≡ bytes → put_mid at (at + length bytes - at) out part ≡ placed at bytes out
placed_part at bytes out part e =
    ap (λ p. take at out ++ (p ++ drop (at + length bytes - at) (drop at out))) e
    ∙ ap (λ d. take at out ++ (bytes ++ d)) (drop-drop (at + length bytes - at) at out ∙ ap (λ n. drop n out) (omega arith))

pub placed_none : (at : ℕ) (out : List ℕ) → at ≤ length out → placed at [] out ≡ out
placed_none at out fits = ap (λ n. take at out ++ drop n out) (omega arith) ∙ take-append-drop at out

-- two runs of bytes, one behind the other, are one
pub placed_more : (at next : ℕ) (first second out : List ℕ) → at + length first ≤ length out → next ≡ at + length first
    → placed next second (placed at first out) ≡ placed at (first ++ second) out
placed_more at next first second out fits e =
    let long : length (take at out ++ first) ≡ next = length-append (take at out) first ∙ (ap (λ n. n + length first) (length-take-le at out (omega arith)) ∙ sym e) in
    let rest = drop (at + length first) out in
    let whole : placed at first out ≡ (take at out ++ first) ++ rest = sym (append_assoc (take at out) first rest) in
    let front : take next (placed at first out) ≡ take at out ++ first = ap (take next) whole ∙ take_at (take at out ++ first) rest next long in
    let back : drop (next + length second) (placed at first out) ≡ drop (at + length (first ++ second)) out =
    sym (drop-drop (length second) next (placed at first out))
    ∙ (ap (drop (length second)) (ap (drop next) whole ∙ drop_at (take at out ++ first) rest next long)
    ∙ (drop-drop (length second) (at + length first) out ∙ ap (λ n. drop n out) (omega (arith, length-append first second)))) in
    ap (λ f. f ++ (second ++ drop (next + length second) (placed at first out))) front
    ∙ (ap (λ b. (take at out ++ first) ++ (second ++ b)) back
    ∙ (append_assoc (take at out) first (second ++ drop (at + length (first ++ second)) out)
    ∙ ap (λ l. take at out ++ l) (sym (append_assoc first second (drop (at + length (first ++ second)) out)))))

-- a buffer whose end, from a place on, was lent and came back as a part
abbrev pub ended : ℕ → List ℕ → List ℕ → List ℕ
ended n buffer part = put_mid n (length buffer - n) buffer part

-- the part begins with these bytes, and keeps the rest
abbrev pub Begun : ℕ → List ℕ → (more : List ℕ) → (size : ℕ) → List ℕ → Type 0
Begun n buffer more size part = part ≡ more ++ drop size (take (length buffer - n) (drop n buffer))

-- behind what a buffer begins with, these bytes come next
pub put_behind : (front more out buffer part : List ℕ) (n size : ℕ) → buffer ≡ front ++ drop n out → length front ≡ n → length more ≡ size → n + size ≤ length out → Begun n buffer more size part
    → (ended n buffer part ≡ (front ++ more) ++ drop (n + size) out) × (length (front ++ more) ≡ n + size)
put_behind front more out buffer part n size begins long size_is fits begun =
    let kept : take n buffer ≡ front = ap (take n) begins ∙ take_at front (drop n out) n long in
    let rest : drop n buffer ≡ drop n out = ap (drop n) begins ∙ drop_at front (drop n out) n long in
    let none : drop (length buffer - n) (drop n buffer) ≡ [] = drop_all (length buffer - n) (drop n buffer) (rw length-drop (omega arith)) in
    let next : part ≡ more ++ drop (n + size) out =
    begun ∙ (ap (λ l. more ++ drop size l) (take_rest buffer n ∙ rest) ∙ ap (λ l. more ++ l) (drop-drop size n out)) in (
      ap (λ l. take n buffer ++ (part ++ l)) none
          ∙ (ap (λ l. take n buffer ++ l) (append-nil part ∙ next)
          ∙ (ap (λ l. l ++ (more ++ drop (n + size) out)) kept ∙ sym (append_assoc front more (drop (n + size) out)))),
      length-append front more ∙ omega (arith, long, size_is),
    )

-- where a loop stands in a table that fits
pub place_within : (size i n at place long now : ℕ) → place ≡ at + size * i → i < n → at + size * n ≤ long → now ≡ long → place + size ≤ now
place_within size i n at place long now is below fits same = omega (arith, mul-le-mul_left size below, mul-suc size i)

pub place_end : (size i n at place long now : ℕ) → place ≡ at + size * i → i ≤ n → at + size * n ≤ long → now ≡ long → place ≤ now
place_end size i n at place long now is below fits same = omega (arith, mul-le-mul_left size below)

pub place_more : (size i at place size_is : ℕ) → place ≡ at + size * i → size_is ≡ size → place + size_is ≡ at + size * (i + 1)
place_more size i at place size_is is e = omega arith

-- a loop that puts in one record after the other
module _ {X : Type 0} (writes : X → List ℕ) (size : ℕ) (sized : (x : X) → length (writes x) ≡ size) where
  each_more : (front : List X) (x : X) → each writes front ++ writes x ≡ each writes (front ++ (x ∷ []))
  each_more [] x = sym (append-nil (writes x))
  each_more (y ∷ front) x = append_assoc (writes y) (each writes front) (writes x) ∙ ap (λ l. writes y ++ l) (each_more front x)

  -- record i comes behind the first i
  pub put_next : (table : List X) (i at : ℕ) (x : X) (out buffer part : List ℕ) → i < length table → x ≡ get_or table i x → size * length table ≤ length out → at ≡ size * i
      → buffer ≡ each writes (take i table) ++ drop (size * i) out → Begun at buffer (writes x) size part
      → ended at buffer part ≡ each writes (take (i + 1) table) ++ drop (size * (i + 1)) out
  put_next table i at x out buffer part below is fits e begins begun =
      let front = each writes (take i table) in
      let here : buffer ≡ front ++ drop at out = begins ∙ ap (λ n. front ++ drop n out) (sym e) in
      let long : length front ≡ at = length_each writes size sized (take i table) ∙ (ap (λ n. size * n) (length-take-le i table (omega arith)) ∙ sym e) in
      let next = put_behind front (writes x) out buffer part at size here long (sized x) (omega (arith, mul-le-mul_left size below)) begun in
      let more : take i table ++ (x ∷ []) ≡ take (i + 1) table = ap (λ y. take i table ++ (y ∷ [])) is ∙ sym (take_more table i x below) in
      next.0
      ∙ (ap (λ l. l ++ drop (at + size) out) (each_more (take i table) x ∙ ap (each writes) more) ∙ ap (λ m. each writes (take (i + 1) table) ++ drop m out) (omega arith))

  -- what is put in from record i on
  pub placed_next : (table : List X) (i at size_is : ℕ) (x : X) (out later : List ℕ) → i < length table → x ≡ get_or table i x → size_is ≡ size → at + size ≤ length out
      → later ≡ placed at (writes x) out → placed (at + size_is) (each writes (drop (i + 1) table)) later ≡ placed at (each writes (drop i table)) out
  placed_next table i at size_is x out later below is e fits put_in =
      let more : drop i table ≡ x ∷ drop (i + 1) table = drop_more table i x below ∙ ap (λ y. y ∷ drop (i + 1) table) (sym is) in
      let wide : at + size_is ≡ at + length (writes x) = ap (λ n. at + n) (e ∙ sym (sized x)) in
      ap (placed (at + size_is) (each writes (drop (i + 1) table))) put_in
      ∙ (placed_more at (at + size_is) (writes x) (each writes (drop (i + 1) table)) out (omega (arith, sized x)) wide
      ∙ ap (λ l. placed at (each writes l) out) (sym more))

  pub placed_last : (table : List X) (n at : ℕ) (out : List ℕ) → length table ≤ n → at ≤ length out → placed at (each writes (drop n table)) out ≡ out
  placed_last table n at out past fits = ap (λ l. placed at (each writes l) out) (drop_all n table past) ∙ placed_none at out fits
