-- An ordered commutative group, its order with equality allowed, and how an order moves along an equation. Assumes nothing.
use Rattle.std.proofs.Common.{◌≡◌, Bool, T, ◌⊎◌, sym, ap, ◌∙◌, subst, subst₂, inl, inr}

pub record Group : Type 1 where
  pub Value : Type 0
  pub zero : Value
  pub plus : Value → Value → Value
  pub opposite : Value → Value
  pub less : Value → Value → Bool
  pub plus_comm : (x y : Value) → plus x y ≡ plus y x
  pub plus_assoc : (x y z : Value) → plus (plus x y) z ≡ plus x (plus y z)
  pub zero_plus : (x : Value) → plus zero x ≡ x
  pub plus_opposite : (x : Value) → plus x (opposite x) ≡ zero
  pub less_irrefl : (x : Value) → T (less x x) → ⊥
  pub less_trans : (x y z : Value) → T (less x y) → T (less y z) → T (less x z)
  pub less_total : (x y : Value) → (x ≡ y) ⊎ (T (less x y) ⊎ T (less y x))
  pub less_plus : (x y z : Value) → T (less x y) → T (less (plus x z) (plus y z))

abbrev pub Less : (G : Group) → G.Value → G.Value → Type 0
Less G x y = T (G.less x y)

-- x is at most y
abbrev pub Leq : (G : Group) → G.Value → G.Value → Type 0
Leq G x y = T (G.less y x) → ⊥

module _ (G : Group) where
  open G use {Value, zero, plus, opposite, less, plus_comm, plus_assoc, zero_plus, plus_opposite, less_irrefl, less_trans, less_total, less_plus}

  pub plus_zero : (x : Value) → plus x zero ≡ x
  plus_zero x = plus_comm x zero ∙ zero_plus x

  pub opposite_plus : (x : Value) → plus (opposite x) x ≡ zero
  opposite_plus x = plus_comm (opposite x) x ∙ plus_opposite x

  -- (a + b) + (c + d) with the middle two exchanged
  pub plus_cross : (a b c d : Value) → plus (plus a b) (plus c d) ≡ plus (plus a c) (plus b d)
  plus_cross a b c d =
      plus_assoc a b (plus c d) ∙ ap (plus a) (sym (plus_assoc b c d) ∙ ap (λ x. plus x d) (plus_comm b c) ∙ plus_assoc c b d)
      ∙ sym (plus_assoc a c (plus b d))

  pub plus_cancel : (a b c : Value) → plus a c ≡ plus b c → a ≡ b
  plus_cancel a b c e = sym (back a) ∙ ap (λ x. plus x (opposite c)) e ∙ back b
    where
      back : (x : Value) → plus (plus x c) (opposite c) ≡ x
      back x = plus_assoc x c (opposite c) ∙ ap (plus x) (plus_opposite c) ∙ plus_zero x

  pub less_cancel : (a b c : Value) → Less G (plus a c) (plus b c) → Less G a b
  less_cancel a b c h = subst₂ (Less G) (back a) (back b) (less_plus (plus a c) (plus b c) (opposite c) h)
    where
      back : (x : Value) → plus (plus x c) (opposite c) ≡ x
      back x = plus_assoc x c (opposite c) ∙ ap (plus x) (plus_opposite c) ∙ plus_zero x

  pub leq_refl : (x : Value) → Leq G x x
  leq_refl x = less_irrefl x

  pub leq_same : (x y : Value) → x ≡ y → Leq G x y
  leq_same x y e = subst (Leq G x) e (less_irrefl x)

  pub leq_less_trans : (x y z : Value) → Leq G x y → Less G y z → Less G x z
  leq_less_trans x y z h l = go (less_total x y)
    where
      go : (x ≡ y) ⊎ (T (less x y) ⊎ T (less y x)) → Less G x z
      go (inl e) = subst (λ t. Less G t z) (sym e) l
      go (inr (inl k)) = less_trans x y z k l
      go (inr (inr k)) = absurd (h k)

  pub less_leq_trans : (x y z : Value) → Less G x y → Leq G y z → Less G x z
  less_leq_trans x y z l h = go (less_total y z)
    where
      go : (y ≡ z) ⊎ (T (less y z) ⊎ T (less z y)) → Less G x z
      go (inl e) = subst (λ t. Less G x t) e l
      go (inr (inl k)) = less_trans x y z l k
      go (inr (inr k)) = absurd (h k)

  pub leq_trans : (x y z : Value) → Leq G x y → Leq G y z → Leq G x z
  leq_trans x y z h k l = h (leq_less_trans y z x k l)

  pub less_leq : (x y : Value) → Less G x y → Leq G x y
  less_leq x y h k = less_irrefl x (less_trans x y x h k)

  -- either x is at most y, or y is less
  pub leq_or_less : (x y : Value) → Leq G x y ⊎ Less G y x
  leq_or_less x y = go (less_total x y)
    where
      go : (x ≡ y) ⊎ (T (less x y) ⊎ T (less y x)) → Leq G x y ⊎ Less G y x
      go (inl e) = inl (leq_same x y e)
      go (inr (inl k)) = inl (less_leq x y k)
      go (inr (inr k)) = inr k

  pub leq_plus_right : (x y z : Value) → Leq G x y → Leq G (plus x z) (plus y z)
  leq_plus_right x y z h k = h (less_cancel y x z k)

  pub leq_plus : (a b c d : Value) → Leq G a b → Leq G c d → Leq G (plus a c) (plus b d)
  leq_plus a b c d h k =
      leq_trans (plus a c) (plus b c) (plus b d) (leq_plus_right a b c h)
      (subst₂ (Leq G) (plus_comm c b) (plus_comm d b) (leq_plus_right c d b k))

  -- the same difference has the same sign
  pub less_shift : (a b c d : Value) → Less G a b → plus c b ≡ plus a d → Less G c d
  less_shift a b c d h e = less_cancel c d b (subst₂ (Less G) (sym e) (plus_comm b d) (less_plus a b d h))

  pub leq_shift : (a b c d : Value) → Leq G a b → plus c b ≡ plus a d → Leq G c d
  leq_shift a b c d h e k = h (less_shift d c b a k (plus_comm b c ∙ e ∙ plus_comm a d))
