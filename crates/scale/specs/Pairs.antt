-- The pair of two scales keeps the laws, where both do.
--
--   Part           f takes a scale to a part of it: unit costs to unit costs, and sums to sums
--   Below          the first parts decide, and the second ones where the firsts are equal
--   pair_laws      the laws of the pair
use Rattle.std.specs.Prelude.{◌≡◌, suc, ◌+◌, ◌≤◌, min, Bool, true, false, not, ◌&&◌, ◌||◌, T, ◌⊎◌, List, [], ◌∷◌, ◌++◌, map, length, take, drop, ℤ, FitsSigned, refl}
use Rattle.std.proofs.Common.{sym, ◌∙◌, ap, subst, inl, inr, arith, length-append}
use Rattle.std.specs.Int.{w64}
use Rattle.std.specs.List.{AllByRecursion}
use Rattle.std.proofs.lemmas.List.{take_at, drop_at, take-append-drop, length-take-le, length-drop}
use Rattle.std.proofs.ByRecursion.{All-append, All-take, All-drop}
use Rattle.scale.specs.Meaning.{Meaning, Laws, UnitCost, SignedCost, sum}
use Rattle.scale.specs.Meaning.UnitCost.{of_satisfied, of_up, of_down}
use Rattle.scale.specs.Meaning.SignedCost.{cost, gain}
use Rattle.scale.specs.Pair.{pair}
use Rattle.scale.specs.Both.{both, first_of, second_of}

record Part (m n : Meaning) (f : m.Value → n.Value) : Type 0 where
  zeros : f m.zero ≡ n.zero
  sums : (x y : m.Value) → f (m.plus x y) ≡ n.plus (f x) (f y)
  opposites : (x : m.Value) → f (m.opposite x) ≡ n.opposite (f x)
  satisfieds : f m.satisfied ≡ n.satisfied
  ups : (p : ℤ) → f (m.up p) ≡ n.up p
  downs : (p : ℤ) → f (m.down p) ≡ n.down p

module _ (m n : Meaning) (f : m.Value → n.Value) (part : Part m n f) where
  unit_part : (v : m.Value) → UnitCost m v → UnitCost n (f v)
  unit_part _ of_satisfied = subst (UnitCost n) (sym part.satisfieds) of_satisfied
  unit_part _ (of_up p h) = subst (UnitCost n) (sym (part.ups p)) (of_up p h)
  unit_part _ (of_down p h) = subst (UnitCost n) (sym (part.downs p)) (of_down p h)

  signed_part : (v : m.Value) → SignedCost m v → SignedCost n (f v)
  signed_part _ (cost v h) = cost (f v) (unit_part v h)
  signed_part _ (gain v h) = subst (SignedCost n) (sym (part.opposites v)) (gain (f v) (unit_part v h))

  signed_parts : (vs : List m.Value) → AllByRecursion (SignedCost m) vs → AllByRecursion (SignedCost n) (map f vs)
  signed_parts [] h = tt
  signed_parts (v ∷ vs) h = (signed_part v h.0, signed_parts vs h.1)

  sum_part : (vs : List m.Value) → f (sum m vs) ≡ sum n (map f vs)
  sum_part [] = part.zeros
  sum_part (v ∷ vs) = part.sums v (sum m vs) ∙ ap (n.plus (f v)) (sum_part vs)

  length_part : (vs : List m.Value) → length (map f vs) ≡ length vs
  length_part [] = refl
  length_part (v ∷ vs) = ap suc (length_part vs)

  in_range_part : Laws n → (vs : List m.Value) → AllByRecursion (SignedCost m) vs → length vs ≤ 4 → T (n.in_range (f (sum m vs)))
  in_range_part laws vs h few =
      let k : length (map f vs) ≤ 4 = rw length_part few in
      subst (λ v. T (n.in_range v)) (sym (sum_part vs)) (laws.sums_in_range (map f vs) (signed_parts vs h) k)

module _ (a b : Meaning) where
  -- x is smaller than y
  abbrev Below : (pair a b).Value → (pair a b).Value → Type 0
  Below x y = T (a.less x.0 y.0) ⊎ ((x.0 ≡ y.0) × T (b.less x.1 y.1))

  firsts : Part (pair a b) a (λ v. v.0)
  firsts = record { zeros = refl; sums = λ _ _. refl; opposites = λ _. refl; satisfieds = refl; ups = λ _. refl; downs = λ _. refl }

  seconds : Part (pair a b) b (λ v. v.1)
  seconds = record { zeros = refl; sums = λ _ _. refl; opposites = λ _. refl; satisfieds = refl; ups = λ _. refl; downs = λ _. refl }

decided : (less more second : Bool) → T (less || (not more && second)) → T less ⊎ ((T more → ⊥) × T second)
decided true more second h = inl tt
decided false true second h = absurd h
decided false false second h = inr (λ e. e, h)

first_decides : (less more second : Bool) → T less → T (less || (not more && second))
first_decides true more second h = tt
first_decides false more second h = absurd h

second_decides : (less more second : Bool) → (T more → ⊥) → T second → T (less || (not more && second))
second_decides true more second n h = tt
second_decides false true second n h = absurd (n tt)
second_decides false false second n h = h

module _ (a b : Meaning) (la : Laws a) (lb : Laws b) where
  to_below : (x y : (pair a b).Value) → T ((pair a b).less x y) → Below a b x y
  to_below x y h =
      elim (decided (a.less x.0 y.0) (a.less y.0 x.0) (b.less x.1 y.1) h) [
        | inl p ↦ inl p
        | inr (m, q) ↦
            elim (la.less_total x.0 y.0) [ inl e ↦ inr (e, q) | inr (inl p) ↦ inl p | inr (inr p) ↦ absurd (m p) ]
      ]

  from_below : (x y : (pair a b).Value) → Below a b x y → T ((pair a b).less x y)
  from_below x y (inl p) = first_decides (a.less x.0 y.0) (a.less y.0 x.0) (b.less x.1 y.1) p
  from_below x y (inr (e, q)) =
      second_decides (a.less x.0 y.0) (a.less y.0 x.0) (b.less x.1 y.1) (λ p. la.less_irrefl x.0 (subst (λ v. T (a.less v x.0)) (sym e) p)) q

  irrefl : (x : (pair a b).Value) → Below a b x x → ⊥
  irrefl x (inl p) = la.less_irrefl x.0 p
  irrefl x (inr (e, q)) = lb.less_irrefl x.1 q

  chain : (x y z : (pair a b).Value) → Below a b x y → Below a b y z → Below a b x z
  chain x y z (inl p) (inl q) = inl (la.less_trans x.0 y.0 z.0 p q)
  chain x y z (inl p) (inr (e, q)) = inl (subst (λ v. T (a.less x.0 v)) e p)
  chain x y z (inr (e, p)) (inl q) = inl (subst (λ v. T (a.less v z.0)) (sym e) q)
  chain x y z (inr (e, p)) (inr (f, q)) = inr (e ∙ f, lb.less_trans x.1 y.1 z.1 p q)

  total : (x y : (pair a b).Value) → (x ≡ y) ⊎ (Below a b x y ⊎ Below a b y x)
  total x y =
      elim (la.less_total x.0 y.0) [
        | inl e ↦
            elim (lb.less_total x.1 y.1) [
              | inl f ↦ inl (λ i. (e i, f i))
              | inr (inl q) ↦ inr (inl (inr (e, q)))
              | inr (inr q) ↦ inr (inr (inr (sym e, q)))
            ]
        | inr (inl p) ↦ inr (inl (inl p))
        | inr (inr p) ↦ inr (inr (inl p))
      ]

  shifted : (x y z : (pair a b).Value) → Below a b x y → Below a b ((pair a b).plus x z) ((pair a b).plus y z)
  shifted x y z (inl p) = inl (la.less_plus x.0 y.0 z.0 p)
  shifted x y z (inr (e, q)) = inr (ap (λ v. a.plus v z.0) e, lb.less_plus x.1 y.1 z.1 q)

  all_levels : min 17 (a.levels + b.levels) ≤ 16 → min 17 (a.levels + b.levels) ≡ a.levels + b.levels
  all_levels h = omega arith

  few_first : min 17 (a.levels + b.levels) ≤ 16 → a.levels ≤ 16
  few_first h = omega arith

  few_second : min 17 (a.levels + b.levels) ≤ 16 → b.levels ≤ 16
  few_second h = omega arith

  module _ (h : min 17 (a.levels + b.levels) ≤ 16) where
    count : (v : (pair a b).Value) → T ((pair a b).in_range v) → length ((pair a b).written v) ≡ (pair a b).levels
    count v r =
        let p = la.written_count (few_first h) v.0 (first_of _ _ r) in
        let q = lb.written_count (few_second h) v.1 (second_of (a.in_range v.0) _ r) in
        simp (length-append, p, q) (sym (all_levels h))

    back : (v : (pair a b).Value) → T ((pair a b).in_range v) → (pair a b).value ((pair a b).written v) ≡ v
    back v r =
        let p = la.written_count (few_first h) v.0 (first_of _ _ r) in
        let e = ap a.value (take_at (a.written v.0) (b.written v.1) a.levels p) ∙ la.value_written (few_first h) v.0 (first_of _ _ r) in
        let f = ap b.value (drop_at (a.written v.0) (b.written v.1) a.levels p) ∙ lb.value_written (few_second h) v.1 (second_of (a.in_range v.0) _ r) in
        λ i. (e i, f i)

    forth : (ns : List ℤ) → length ns ≡ (pair a b).levels → AllByRecursion (FitsSigned w64) ns → T ((pair a b).in_range ((pair a b).value ns)) → (pair a b).written ((pair a b).value ns) ≡ ns
    forth ns l fits r =
        let room : a.levels ≤ length ns = omega (arith, all_levels h) in
        let p : length (take a.levels ns) ≡ a.levels = length-take-le a.levels ns room in
        let q : length (drop a.levels ns) ≡ b.levels = omega (arith, all_levels h, length-drop a.levels ns) in
        let e = la.written_value (few_first h) (take a.levels ns) p (All-take (FitsSigned w64) a.levels ns fits) (first_of _ _ r) in
        let f = lb.written_value (few_second h) (drop a.levels ns) q (All-drop (FitsSigned w64) a.levels ns fits) (second_of (a.in_range (a.value (take a.levels ns))) _ r) in
        (λ i. e i ++ f i) ∙ take-append-drop a.levels ns

  pub pair_laws : Laws (pair a b)
  pair_laws = record {
    plus_comm = λ x y i. (la.plus_comm x.0 y.0 i, lb.plus_comm x.1 y.1 i);
    plus_assoc = λ x y z i. (la.plus_assoc x.0 y.0 z.0 i, lb.plus_assoc x.1 y.1 z.1 i);
    zero_plus = λ x i. (la.zero_plus x.0 i, lb.zero_plus x.1 i);
    plus_opposite = λ x i. (la.plus_opposite x.0 i, lb.plus_opposite x.1 i);
    less_irrefl = λ x p. irrefl x (to_below x x p);
    less_trans = λ x y z p q. from_below x z (chain x y z (to_below x y p) (to_below y z q));
    less_total = λ x y. elim (total x y) [ inl e ↦ inl e | inr (inl p) ↦ inr (inl (from_below x y p)) | inr (inr p) ↦ inr (inr (from_below y x p)) ];
    less_plus = λ x y z p. from_below _ _ (shifted x y z (to_below x y p));
    sums_in_range = λ vs h few. both _ _ (in_range_part (pair a b) a (λ v. v.0) (firsts a b) la vs h few) (in_range_part (pair a b) b (λ v. v.1) (seconds a b) lb vs h few);
    few_levels = omega arith;
    written_count = count;
    written_fits = λ h v r. All-append (FitsSigned w64) (a.written v.0) (b.written v.1) (la.written_fits (few_first h) v.0 (first_of _ _ r)) (lb.written_fits (few_second h) v.1 (second_of (a.in_range v.0) _ r));
    value_written = back;
    written_value = forth;
  }
