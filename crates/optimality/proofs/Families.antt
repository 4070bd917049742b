-- A finite family of items: a list, with an amount at each place. Assumes nothing.
--
--     whole      the whole numbers as an ordered group
--     gather      the sum over the places of the amount times what the item there counts for
--     shift      the amounts behind those of a list
--     Each      what holds of every item with its amount
--     at      the amounts that are zero but at one place
use Rattle.std.proofs.Common.{◌≡◌, ℕ, zero, suc, ◌+◌, ◌<◌, T, ◌⊎◌, List, [], ◌∷◌, ◌++◌, length, get_or, ℤ, pos, ◌+ℤ◌, neg_ℤ, sym, refl, ap, ◌∙◌, ap₂, inl, inr, arith}
use lib.Signed.{lt_z}
use borrow.Author.Differences.{up, down, ints, same_in, lt_in}
use Rattle.std.proofs.lemmas.Bool.{cases_order}
use Rattle.optimality.proofs.Groups.{Group, plus_zero, plus_cross}
use Rattle.optimality.proofs.Multiples.{times, scaled, scaled_plus, scaled_neg, scaled_zero, scaled_of_sum, scaled_of_opposite, scaled_of_zero, weigh, weigh_plus, weigh_none, opposite_zero, opposite_of_sum}

pub whole_total : (x y : ℤ) → (x ≡ y) ⊎ (T (lt_z x y) ⊎ T (lt_z y x))
whole_total x y = go (cases_order (up x + down y) (up y + down x))
  where
    go : (up x + down y ≡ up y + down x) ⊎ ((up x + down y < up y + down x) ⊎ (up y + down x < up x + down y)) → (x ≡ y) ⊎ (T (lt_z x y) ⊎ T (lt_z y x))
    go (inl e) = inl (same_in x y e)
    go (inr (inl h)) = inr (inl (lt_in x y h))
    go (inr (inr h)) = inr (inr (lt_in y x h))

abbrev pub whole : Group
whole = record {
  Value = ℤ;
  zero = pos 0;
  plus = λ x y. x +ℤ y;
  opposite = neg_ℤ;
  less = lt_z;
  plus_comm = λ x y. omega (arith, ints);
  plus_assoc = λ x y z. omega (arith, ints);
  zero_plus = λ x. omega (arith, ints);
  plus_opposite = λ x. omega (arith, ints);
  less_irrefl = λ x h. omega (arith, ints);
  less_trans = λ x y z h k. omega (arith, ints);
  less_total = whole_total;
  less_plus = λ x y z h. omega (arith, ints);
}

abbrev pub gather : (G : Group) {I : Type 0} → (I → G.Value) → List I → (ℕ → ℤ) → G.Value
gather G f [] x = G.zero
gather G f (i ∷ is) x = G.plus (scaled G (x 0) (f i)) (gather G f is (λ k. x (suc k)))

abbrev pub shift : {I : Type 0} → List I → (ℕ → ℤ) → ℕ → ℤ
shift [] x = x
shift (i ∷ is) x = shift is (λ k. x (suc k))

abbrev pub Each : {I : Type 0} → (I → ℤ → Type 0) → List I → (ℕ → ℤ) → Type 0
Each {I} P is x = (k : ℕ) (d : I) → k < length is → P (get_or is k d) (x k)

-- z at the place j, and zero elsewhere
abbrev pub at : ℕ → ℤ → ℕ → ℤ
at zero z zero = z
at zero z (suc k) = pos 0
at (suc j) z zero = pos 0
at (suc j) z (suc k) = at j z k

module _ (G : Group) {I : Type 0} where
  open G use {Value, plus, opposite, zero_plus, plus_assoc}

  pub gather_plus : (f : I → Value) (is : List I) (x y : ℕ → ℤ) → gather G f is (λ k. x k +ℤ y k) ≡ plus (gather G f is x) (gather G f is y)
  gather_plus f [] x y = sym (zero_plus G.zero)
  gather_plus f (i ∷ is) x y =
      ap₂ plus (scaled_plus G (x 0) (y 0) (f i)) (gather_plus f is (λ k. x (suc k)) (λ k. y (suc k)))
      ∙ plus_cross G (scaled G (x 0) (f i)) (scaled G (y 0) (f i)) (gather G f is (λ k. x (suc k))) (gather G f is (λ k. y (suc k)))

  pub gather_of_sum : (f g : I → Value) (is : List I) (x : ℕ → ℤ) → gather G (λ i. plus (f i) (g i)) is x ≡ plus (gather G f is x) (gather G g is x)
  gather_of_sum f g [] x = sym (zero_plus G.zero)
  gather_of_sum f g (i ∷ is) x =
      ap₂ plus (scaled_of_sum G (x 0) (f i) (g i)) (gather_of_sum f g is (λ k. x (suc k)))
      ∙ plus_cross G (scaled G (x 0) (f i)) (scaled G (x 0) (g i)) (gather G f is (λ k. x (suc k))) (gather G g is (λ k. x (suc k)))

  pub gather_of_opposite : (f : I → Value) (is : List I) (x : ℕ → ℤ) → gather G (λ i. opposite (f i)) is x ≡ opposite (gather G f is x)
  gather_of_opposite f [] x = sym (opposite_zero G)
  gather_of_opposite f (i ∷ is) x =
      ap₂ plus (scaled_of_opposite G (x 0) (f i)) (gather_of_opposite f is (λ k. x (suc k)))
      ∙ sym (opposite_of_sum G (scaled G (x 0) (f i)) (gather G f is (λ k. x (suc k))))

  pub gather_none : (f : I → Value) (is : List I) → gather G f is (λ k. pos 0) ≡ G.zero
  gather_none f [] = refl
  gather_none f (i ∷ is) = ap₂ plus (scaled_zero G (f i)) (gather_none f is) ∙ zero_plus G.zero

  pub gather_at : (f : I → Value) (is : List I) (j : ℕ) (z : ℤ) (d : I) → j < length is → gather G f is (at j z) ≡ scaled G z (f (get_or is j d))
  gather_at f [] j z d h = absurd (omega arith)
  gather_at f (i ∷ is) zero z d h = ap (plus (scaled G z (f i))) (gather_none f is) ∙ plus_zero G (scaled G z (f i))
  gather_at f (i ∷ is) (suc j) z d h =
      ap₂ plus (scaled_zero G (f i)) (gather_at f is j z d (omega arith)) ∙ zero_plus (scaled G z (f (get_or is j d)))

  pub gather_append : (f : I → Value) (is js : List I) (x : ℕ → ℤ) → gather G f (is ++ js) x ≡ plus (gather G f is x) (gather G f js (shift is x))
  gather_append f [] js x = sym (zero_plus (gather G f js x))
  gather_append f (i ∷ is) js x =
      ap (plus (scaled G (x 0) (f i))) (gather_append f is js (λ k. x (suc k)))
      ∙ sym (plus_assoc (scaled G (x 0) (f i)) (gather G f is (λ k. x (suc k))) (gather G f js (shift is (λ k. x (suc k)))))

  -- amounts that agree at every place of the list gather alike
  pub gather_same : (f : I → Value) (is : List I) (x y : ℕ → ℤ) → ((k : ℕ) → k < length is → x k ≡ y k) → gather G f is x ≡ gather G f is y
  gather_same f [] x y h = refl
  gather_same f (i ∷ is) x y h =
      ap₂ plus (ap (λ z. scaled G z (f i)) (h 0 (omega arith))) (gather_same f is (λ k. x (suc k)) (λ k. y (suc k)) (λ k l. h (suc k) (omega arith)))

module _ (G : Group) where
  open G use {Value, plus, opposite, zero_plus}

  times_scaled : (n : ℕ) (e : ℤ) (v : Value) → scaled G (times whole n e) v ≡ times G n (scaled G e v)
  times_scaled zero e v = scaled_zero G v
  times_scaled (suc n) e v = scaled_plus G e (times whole n e) v ∙ ap (plus (scaled G e v)) (times_scaled n e v)

  pub scaled_scaled : (z e : ℤ) (v : Value) → scaled G (scaled whole z e) v ≡ scaled G z (scaled G e v)
  unfolding scaled
  scaled_scaled z e v =
      scaled_plus G (times whole (up z) e) (neg_ℤ (times whole (down z) e)) v
      ∙ ap₂ plus (times_scaled (up z) e v) (scaled_neg G (times whole (down z) e) v ∙ ap opposite (times_scaled (down z) e v))

  weigh_scaled : (p : ℕ → Value) (n : ℕ) (z : ℤ) (f : ℕ → ℤ) → weigh G p n (λ v. scaled whole z (f v)) ≡ scaled G z (weigh G p n f)
  weigh_scaled p zero z f = sym (scaled_of_zero G z)
  weigh_scaled p (suc n) z f =
      ap₂ plus (scaled_scaled z (f n) (p n)) (weigh_scaled p n z f) ∙ sym (scaled_of_sum G z (scaled G (f n) (p n)) (weigh G p n f))

  -- to weigh what is gathered is to gather what is weighed
  pub weigh_gather : {I : Type 0} (p : ℕ → Value) (n : ℕ) (effect : I → ℕ → ℤ) (is : List I) (x : ℕ → ℤ) →
      weigh G p n (λ v. gather whole (λ i. effect i v) is x) ≡ gather G (λ i. weigh G p n (effect i)) is x
  weigh_gather p n effect [] x = weigh_none G p n
  weigh_gather p n effect (i ∷ is) x =
      weigh_plus G p n (λ v. scaled whole (x 0) (effect i v)) (λ v. gather whole (λ j. effect j v) is (λ k. x (suc k)))
      ∙ ap₂ plus (weigh_scaled p n (x 0) (effect i)) (weigh_gather p n effect is (λ k. x (suc k)))
