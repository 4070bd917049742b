-- The laws of a single scale, from the sizes of its unit costs.
--
--   Within n v     v lies from -n to n
--   Bounded        no unit cost is larger than a quarter of the range, and the range fits a level
--   single_laws    then a single scale keeps the laws
use Rattle.std.specs.Prelude.{◌≡◌, ℕ, ◌*◌, ◌/◌, ◌^◌, ◌<◌, ◌≤◌, Bool, T, ◌⊎◌, List, [], ◌∷◌, length, ℤ, pos, ◌+ℤ◌, neg_ℤ, ◌≤ℤ◌, ◌<ℤ◌, FitsSigned, int_le, int_lt, slice_index_or, refl}
use Rattle.std.proofs.Common.{inl, inr, arith, mul-le-mul_left}
use Rattle.std.proofs.Math.IntN.{+ℤ_comm, +ℤ_assoc, +ℤ_idl, +ℤ_invr}
use Rattle.std.specs.Int.Signed.{le_z_yes, lt_z_yes, <ℤ_irrefl}
use Rattle.std.specs.Int.{w64}
use Rattle.std.specs.List.{AllByRecursion}
use Rattle.std.proofs.lemmas.Int.{ints, by_lt_z}
use Rattle.scale.specs.Meaning.{Meaning, Laws, UnitCost, SignedCost, BidPrice, sum}
use Rattle.scale.specs.Meaning.UnitCost.{of_satisfied, of_up, of_down}
use Rattle.scale.specs.Meaning.SignedCost.{cost, gain}
use Rattle.scale.specs.Single.{single}
use Rattle.scale.specs.Both.{both, first_of, second_of}

pub record Within (n : ℕ) (v : ℤ) : Type 0 where
  pub least : neg_ℤ (pos n) ≤ℤ v
  pub most : v ≤ℤ pos n

pub record Bounded (most : ℕ) (satisfied : ℤ) (up down : ℤ → ℤ) : Type 0 where
  pub of_satisfied : Within (most / 4) satisfied
  pub of_up : (p : ℤ) → BidPrice p → Within (most / 4) (up p)
  pub of_down : (p : ℤ) → BidPrice p → Within (most / 4) (down p)
  pub fits : most < 2 ^ 63

-- of a number that is written out, `tt` shows both
pub within : {n : ℕ} {v : ℤ} → T (int_le (neg_ℤ (pos n)) v) → T (int_le v (pos n)) → Within n v
within p q = record { least = record { le = p }; most = record { le = q } }

less_trans : (x y z : ℤ) → T (int_lt x y) → T (int_lt y z) → T (int_lt x z)
less_trans x y z p q = let r : x <ℤ z = omega (arith, ints) in r.lt

less_total : (x y : ℤ) → (x ≡ y) ⊎ (T (int_lt x y) ⊎ T (int_lt y x))
less_total x y =
    by_lt_z x y (λ p. inr (inl p.lt))
    (λ p. by_lt_z y x (λ q. inr (inr q.lt)) (λ q. inl (omega (arith, ints))))

less_plus : (x y z : ℤ) → T (int_lt x y) → T (int_lt (x +ℤ z) (y +ℤ z))
less_plus x y z p = let r : (x +ℤ z) <ℤ (y +ℤ z) = omega (arith, ints) in r.lt

one_number : (ns : List ℤ) → length ns ≡ 1 → slice_index_or ns 0 (pos 0) ∷ [] ≡ ns
one_number [] h = absurd (omega arith)
one_number (x ∷ []) h = refl
one_number (x ∷ y ∷ ns) h = absurd (omega arith)

module _ (satisfied : ℤ) (up down : ℤ → ℤ) (most : ℕ) (bids : Bool) (bounded : Bounded most satisfied up down) where
  abbrev scale : Meaning
  scale = single satisfied up down most bids

  of_unit : (v : ℤ) → UnitCost scale v → Within (most / 4) v
  of_unit _ of_satisfied = bounded.of_satisfied
  of_unit _ (of_up p h) = bounded.of_up p h
  of_unit _ (of_down p h) = bounded.of_down p h

  of_signed : (v : ℤ) → SignedCost scale v → Within (most / 4) v
  of_signed _ (cost v h) = of_unit v h
  of_signed _ (gain v h) =
      let w = of_unit v h in
      record { least = omega (arith, ints); most = omega (arith, ints) }

  of_sum : (vs : List ℤ) → AllByRecursion (SignedCost scale) vs → Within (most / 4 * length vs) (sum scale vs)
  of_sum [] h = record { least = omega (arith, ints); most = omega (arith, ints) }
  of_sum (v ∷ vs) h =
      let first = of_signed v h.0 in
      let rest = of_sum vs h.1 in
      record { least = omega (arith, ints); most = omega (arith, ints) }

  in_range : (vs : List ℤ) → AllByRecursion (SignedCost scale) vs → length vs ≤ 4 → T (scale.in_range (sum scale vs))
  in_range vs h few =
      let w = of_sum vs h in
      let room : most / 4 * length vs ≤ most / 4 * 4 = mul-le-mul_left (most / 4) few in
      let low : neg_ℤ (pos most) ≤ℤ sum scale vs = omega (arith, ints) in
      let high : sum scale vs ≤ℤ pos most = omega (arith, ints) in
      both _ _ low.le high.le

  fits_level : (v : ℤ) → T (scale.in_range v) → AllByRecursion (FitsSigned w64) (v ∷ [])
  fits_level v h =
      let low : neg_ℤ (pos most) ≤ℤ v = le_z_yes (first_of (int_le (neg_ℤ (pos most)) v) (int_le v (pos most)) h) in
      let high : v ≤ℤ pos most = le_z_yes (second_of (int_le (neg_ℤ (pos most)) v) (int_le v (pos most)) h) in
      let small = bounded.fits in
      (omega (arith, ints), tt)

  pub single_laws : Laws scale
  single_laws = record {
    plus_comm = +ℤ_comm;
    plus_assoc = +ℤ_assoc;
    zero_plus = +ℤ_idl;
    plus_opposite = +ℤ_invr;
    less_irrefl = λ x p. <ℤ_irrefl {a = x} (lt_z_yes p);
    less_trans = less_trans;
    less_total = less_total;
    less_plus = less_plus;
    sums_in_range = in_range;
    few_levels = omega arith;
    written_count = λ _ _ _. refl;
    written_fits = λ _. fits_level;
    value_written = λ _ _ _. refl;
    written_value = λ _ ns h _ _. one_number ns h;
  }
