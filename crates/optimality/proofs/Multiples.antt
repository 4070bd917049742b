-- Whole multiples of a value, and a solver for equations that hold in every commutative group. Assumes nothing.
--
--     times, scaled      a value times a natural number, and times a whole number
--     weigh      the sum of the first values of a row, each times a whole number of its own
--     Sum, worth      an expression over the variables 0, 1, .., and its value
--     solve      two expressions in which every variable stands equally often have one value
use Rattle.std.proofs.Common.{◌≡◌, ℕ, zero, suc, ◌+◌, ◌<◌, ◌≤◌, Bool, true, false, cond, ◌&&◌, T, eqb, ◌⊎◌, List, length, get_or, ℤ, pos, negsuc, ◌+ℤ◌, neg_ℤ, sym, refl, ap, ◌∙◌, ap₂, inl, inr, suc-add, zero-add, arith}
use lib.Signed.{le_z}
use borrow.Author.Differences.{up, down, ints, sum_is_lem, neg_is}
use Rattle.std.proofs.lemmas.Bool.{cases_eq, cases_lt, eq-eqb, ne_eqb}
use Rattle.std.proofs.lemmas.List.{get_or_past}
use Rattle.optimality.proofs.Groups.{Group, plus_zero, opposite_plus, plus_cross, plus_cancel}

abbrev pub times : (G : Group) → ℕ → G.Value → G.Value
times G zero v = G.zero
times G (suc n) v = G.plus v (times G n v)

-- a value times a whole number
unfoldable pub scaled : (G : Group) → ℤ → G.Value → G.Value
scaled G z v = G.plus (times G (up z) v) (G.opposite (times G (down z) v))

module _ (G : Group) where
  open G use {Value, plus, opposite, less, plus_comm, plus_assoc, zero_plus, plus_opposite}

  times_add : (n k : ℕ) (v : Value) → times G (n + k) v ≡ plus (times G n v) (times G k v)
  times_add zero k v = ap (λ i. times G i v) (zero-add k) ∙ sym (zero_plus (times G k v))
  times_add (suc n) k v =
      ap (λ i. times G i v) (suc-add n k) ∙ ap (plus v) (times_add n k v) ∙ sym (plus_assoc v (times G n v) (times G k v))

  -- a + d ≡ c + b gives a - b ≡ c - d
  differ : (a b c d : Value) → plus a d ≡ plus c b → plus a (opposite b) ≡ plus c (opposite d)
  differ a b c d e =
      plus_cancel G (plus a (opposite b)) (plus c (opposite d)) (plus b d)
      (plus_cross G a (opposite b) b d ∙ ap₂ plus (refl {a = plus a b}) (refl {a = plus (opposite b) d}) ∙ left ∙ e ∙ right)
    where
      left : plus (plus a b) (plus (opposite b) d) ≡ plus a d
      left =
          plus_assoc a b (plus (opposite b) d) ∙ ap (plus a) (sym (plus_assoc b (opposite b) d) ∙ ap (λ x. plus x d) (plus_opposite b) ∙ zero_plus d)

      right : plus c b ≡ plus (plus c (opposite d)) (plus b d)
      right =
          sym (plus_zero G (plus c b)) ∙ ap (plus (plus c b)) (sym (opposite_plus G d)) ∙ plus_cross G c b (opposite d) d

  times_differ : (n k n' k' : ℕ) (v : Value) → n + k' ≡ n' + k → plus (times G n v) (opposite (times G k v)) ≡ plus (times G n' v) (opposite (times G k' v))
  times_differ n k n' k' v e =
      differ (times G n v) (times G k v) (times G n' v) (times G k' v)
      (sym (times_add n k' v) ∙ ap (λ i. times G i v) e ∙ times_add n' k v)

  pub opposite_of_sum : (a b : Value) → opposite (plus a b) ≡ plus (opposite a) (opposite b)
  opposite_of_sum a b =
      plus_cancel G (opposite (plus a b)) (plus (opposite a) (opposite b)) (plus a b)
      (opposite_plus G (plus a b)
      ∙ sym (plus_cross G (opposite a) (opposite b) a b ∙ ap₂ plus (opposite_plus G a) (opposite_plus G b) ∙ zero_plus G.zero))

  pub opposite_twice : (a : Value) → opposite (opposite a) ≡ a
  opposite_twice a = plus_cancel G (opposite (opposite a)) a (opposite a) (opposite_plus G (opposite a) ∙ sym (plus_opposite a))

  pub opposite_zero : opposite G.zero ≡ G.zero
  opposite_zero = sym (zero_plus (opposite G.zero)) ∙ plus_opposite G.zero

  pub scaled_plus : (a b : ℤ) (v : Value) → scaled G (a +ℤ b) v ≡ plus (scaled G a v) (scaled G b v)
  unfolding scaled
  scaled_plus a b v =
      times_differ (up (a +ℤ b)) (down (a +ℤ b)) (up a + up b) (down a + down b) v (omega (arith, sum_is_lem a b))
      ∙ ap₂ (λ x y. plus x (opposite y)) (times_add (up a) (up b) v) (times_add (down a) (down b) v)
      ∙ ap (plus (plus (times G (up a) v) (times G (up b) v))) (opposite_of_sum (times G (down a) v) (times G (down b) v))
      ∙ plus_cross G (times G (up a) v) (times G (up b) v) (opposite (times G (down a) v)) (opposite (times G (down b) v))

  pub scaled_neg : (a : ℤ) (v : Value) → scaled G (neg_ℤ a) v ≡ opposite (scaled G a v)
  unfolding scaled
  scaled_neg a v =
      ap₂ (λ i j. plus (times G i v) (opposite (times G j v))) (neg_is a).0 (neg_is a).1
      ∙ plus_comm (times G (down a) v) (opposite (times G (up a) v))
      ∙ sym (opposite_of_sum (times G (up a) v) (opposite (times G (down a) v)) ∙ ap (plus (opposite (times G (up a) v))) (opposite_twice (times G (down a) v)))

  pub scaled_zero : (v : Value) → scaled G (pos 0) v ≡ G.zero
  unfolding scaled
  scaled_zero v = plus_opposite G.zero

  pub scaled_times : (n : ℕ) (v : Value) → scaled G (pos n) v ≡ times G n v
  unfolding scaled
  scaled_times n v = ap (plus (times G n v)) opposite_zero ∙ plus_zero G (times G n v)

  pub scaled_one : (v : Value) → scaled G (pos 1) v ≡ v
  scaled_one v = scaled_times 1 v ∙ plus_zero G v

  pub scaled_minus_one : (v : Value) → scaled G (negsuc 0) v ≡ opposite v
  scaled_minus_one v = scaled_neg (pos 1) v ∙ ap opposite (scaled_one v)

  times_of_sum : (n : ℕ) (v w : Value) → times G n (plus v w) ≡ plus (times G n v) (times G n w)
  times_of_sum zero v w = sym (zero_plus G.zero)
  times_of_sum (suc n) v w = ap (plus (plus v w)) (times_of_sum n v w) ∙ plus_cross G v w (times G n v) (times G n w)

  pub scaled_of_sum : (z : ℤ) (v w : Value) → scaled G z (plus v w) ≡ plus (scaled G z v) (scaled G z w)
  unfolding scaled
  scaled_of_sum z v w =
      ap₂ (λ x y. plus x (opposite y)) (times_of_sum (up z) v w) (times_of_sum (down z) v w)
      ∙ ap (plus (plus (times G (up z) v) (times G (up z) w))) (opposite_of_sum (times G (down z) v) (times G (down z) w))
      ∙ plus_cross G (times G (up z) v) (times G (up z) w) (opposite (times G (down z) v)) (opposite (times G (down z) w))

  times_of_opposite : (n : ℕ) (v : Value) → times G n (opposite v) ≡ opposite (times G n v)
  times_of_opposite zero v = sym opposite_zero
  times_of_opposite (suc n) v = ap (plus (opposite v)) (times_of_opposite n v) ∙ sym (opposite_of_sum v (times G n v))

  pub scaled_of_opposite : (z : ℤ) (v : Value) → scaled G z (opposite v) ≡ opposite (scaled G z v)
  unfolding scaled
  scaled_of_opposite z v =
      ap₂ (λ x y. plus x (opposite y)) (times_of_opposite (up z) v) (times_of_opposite (down z) v)
      ∙ sym (opposite_of_sum (times G (up z) v) (opposite (times G (down z) v)))

  times_of_zero : (n : ℕ) → times G n G.zero ≡ G.zero
  times_of_zero zero = refl
  times_of_zero (suc n) = zero_plus (times G n G.zero) ∙ times_of_zero n

  pub scaled_of_zero : (z : ℤ) → scaled G z G.zero ≡ G.zero
  unfolding scaled
  scaled_of_zero z =
      ap₂ (λ x y. plus x (opposite y)) (times_of_zero (up z)) (times_of_zero (down z)) ∙ plus_opposite G.zero

-- ---- the sum over v below n of f v times p v
abbrev pub weigh : (G : Group) → (ℕ → G.Value) → ℕ → (ℕ → ℤ) → G.Value
weigh G p zero f = G.zero
weigh G p (suc n) f = G.plus (scaled G (f n) (p n)) (weigh G p n f)

module _ (G : Group) (p : ℕ → G.Value) where
  open G use {Value, plus, opposite, zero_plus}

  pub weigh_plus : (n : ℕ) (f g : ℕ → ℤ) → weigh G p n (λ v. f v +ℤ g v) ≡ plus (weigh G p n f) (weigh G p n g)
  weigh_plus zero f g = sym (zero_plus G.zero)
  weigh_plus (suc n) f g =
      ap₂ plus (scaled_plus G (f n) (g n) (p n)) (weigh_plus n f g)
      ∙ plus_cross G (scaled G (f n) (p n)) (scaled G (g n) (p n)) (weigh G p n f) (weigh G p n g)

  pub weigh_neg : (n : ℕ) (f : ℕ → ℤ) → weigh G p n (λ v. neg_ℤ (f v)) ≡ opposite (weigh G p n f)
  weigh_neg zero f = sym (opposite_zero G)
  weigh_neg (suc n) f =
      ap₂ plus (scaled_neg G (f n) (p n)) (weigh_neg n f) ∙ sym (opposite_of_sum G (scaled G (f n) (p n)) (weigh G p n f))

  pub weigh_none : (n : ℕ) → weigh G p n (λ v. pos 0) ≡ G.zero
  weigh_none zero = refl
  weigh_none (suc n) = ap₂ plus (scaled_zero G (p n)) (weigh_none n) ∙ zero_plus G.zero

  -- two rows of numbers that weigh the same at each place
  pub weigh_same : (n : ℕ) (f g : ℕ → ℤ) → ((v : ℕ) → v < n → scaled G (f v) (p v) ≡ scaled G (g v) (p v)) → weigh G p n f ≡ weigh G p n g
  weigh_same zero f g h = refl
  weigh_same (suc n) f g h =
      ap₂ plus (h n (omega arith)) (weigh_same n f g (λ v k. h v (omega arith)))

  weigh_past : (n k : ℕ) (z : ℤ) → n ≤ k → weigh G p n (λ v. cond (eqb k v) z (pos 0)) ≡ G.zero
  weigh_past n k z h =
      weigh_same n (λ v. cond (eqb k v) z (pos 0)) (λ v. pos 0)
      (λ v l. ap (λ t. scaled G (cond t z (pos 0)) (p v)) (ne_eqb k v (λ e. omega arith)))
      ∙ weigh_none n

  -- a row that is zero but at one place
  pub weigh_at : (n k : ℕ) (z : ℤ) → k < n → weigh G p n (λ v. cond (eqb k v) z (pos 0)) ≡ scaled G z (p k)
  weigh_at zero k z h = absurd (omega arith)
  weigh_at (suc n) k z h = go (cases_eq k n) (weigh_at n k z)
    where
      go : (k ≡ n) ⊎ (k ≡ n → ⊥) → (k < n → weigh G p n (λ v. cond (eqb k v) z (pos 0)) ≡ scaled G z (p k)) → weigh G p (suc n) (λ v. cond (eqb k v) z (pos 0)) ≡ scaled G z (p k)
      go (inl e) below =
          ap₂ plus (ap (λ t. scaled G (cond t z (pos 0)) (p n)) (eq-eqb k n e)) (weigh_past n k z (omega arith))
          ∙ plus_zero G (scaled G z (p n))
          ∙ ap (λ i. scaled G z (p i)) (sym e)
      go (inr d) below =
          ap₂ plus (ap (λ t. scaled G (cond t z (pos 0)) (p n)) (ne_eqb k n d) ∙ scaled_zero G (p n)) (below (omega arith))
          ∙ zero_plus (scaled G z (p k))

-- ---- the solver
infixl 6 ◌⊕◌
pub data Sum : Type 0 where
  nil : Sum
  var : ℕ → Sum
  ◌⊕◌ : Sum → Sum → Sum
  neg : Sum → Sum

abbrev pub worth : (G : Group) → List G.Value → Sum → G.Value
worth G vs nil = G.zero
worth G vs (var n) = get_or vs n G.zero
worth G vs (a ⊕ b) = G.plus (worth G vs a) (worth G vs b)
worth G vs (neg a) = G.opposite (worth G vs a)

-- how often a variable stands in an expression
abbrev often : Sum → ℕ → ℤ
often nil i = pos 0
often (var n) i = cond (eqb n i) (pos 1) (pos 0)
often (a ⊕ b) i = often a i +ℤ often b i
often (neg a) i = neg_ℤ (often a i)

abbrev same : ℤ → ℤ → Bool
same a b = le_z a b && le_z b a

abbrev pub balanced : ℕ → Sum → Sum → Bool
balanced zero a b = true
balanced (suc n) a b = same (often a n) (often b n) && balanced n a b

T_and : (a b : Bool) → T (a && b) → T a × T b
T_and true b h = (tt, h)
T_and false b h = elim h [ ]

same_is : (a b : ℤ) → T (same a b) → a ≡ b
same_is a b h =
    let l : T (le_z a b) = (T_and (le_z a b) (le_z b a) h).0 in
    let r : T (le_z b a) = (T_and (le_z a b) (le_z b a) h).1 in
    omega (arith, ints)

module _ (G : Group) (vs : List G.Value) where
  counted : (e : Sum) → worth G vs e ≡ weigh G (λ i. get_or vs i G.zero) (length vs) (often e)
  counted nil = sym (weigh_none G (λ i. get_or vs i G.zero) (length vs))
  counted (var n) = go (cases_lt n (length vs))
    where
      go : (n < length vs) ⊎ (length vs ≤ n) → get_or vs n G.zero ≡ weigh G (λ i. get_or vs i G.zero) (length vs) (λ i. cond (eqb n i) (pos 1) (pos 0))
      go (inl h) = sym (weigh_at G (λ i. get_or vs i G.zero) (length vs) n (pos 1) h ∙ scaled_one G (get_or vs n G.zero))
      go (inr h) = get_or_past vs n G.zero h ∙ sym (weigh_past G (λ i. get_or vs i G.zero) (length vs) n (pos 1) h)
  counted (a ⊕ b) =
      ap₂ G.plus (counted a) (counted b) ∙ sym (weigh_plus G (λ i. get_or vs i G.zero) (length vs) (often a) (often b))
  counted (neg a) = ap G.opposite (counted a) ∙ sym (weigh_neg G (λ i. get_or vs i G.zero) (length vs) (often a))

  balanced_same : (n : ℕ) (a b : Sum) → T (balanced n a b) → weigh G (λ i. get_or vs i G.zero) n (often a) ≡ weigh G (λ i. get_or vs i G.zero) n (often b)
  balanced_same zero a b h = refl
  balanced_same (suc n) a b h =
      let both = T_and (same (often a n) (often b n)) (balanced n a b) h in
      ap₂ G.plus (ap (λ z. scaled G z (get_or vs n G.zero)) (same_is (often a n) (often b n) both.0)) (balanced_same n a b both.1)

  pub solve : (a b : Sum) → T (balanced (length vs) a b) → worth G vs a ≡ worth G vs b
  solve a b h = counted a ∙ balanced_same (length vs) a b h ∙ sym (counted b)
