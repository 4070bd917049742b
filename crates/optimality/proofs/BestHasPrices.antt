-- Amounts of a family of items have prices that fit, made of few costs, or there are better amounts. Assumes nothing.
--
--     open_steps      the steps that the bounds leave room for
--     Costs      P holds of an item's cost at the ground and of its opposite, R of those of an item between other nodes
--     Fitted      prices that fit every item, zero at the ground, each made of at most one cost at the ground and of costs between other nodes
use Rattle.std.proofs.Common.{◌≡◌, ℕ, zero, suc, ◌+◌, ◌<◌, Bool, true, false, T, ◌⊎◌, List, [], ◌∷◌, length, get_or, ℤ, sym, refl, subst, inl, inr, arith}
use lib.Signed.{lt_z}
use Rattle.std.specs.List.{AllByRecursion}
use Rattle.std.proofs.lemmas.Bool.{cases_eq}
use Rattle.std.proofs.lemmas.List.{get_or_default}
use Rattle.std.proofs.ByRecursion.{All-get_or, All-weaker}
use Rattle.optimality.proofs.Groups.{Group, leq_shift}
use Rattle.optimality.proofs.Multiples.{opposite_twice, var, ◌⊕◌, neg, solve}
use Rattle.optimality.proofs.Families.{Each}
use Rattle.optimality.proofs.Items.{Item, InBounds, Fitting, Known}
use Rattle.optimality.proofs.Walks.{Arcs, In}
use Rattle.optimality.proofs.Moves.{Step, raise, lower, place, residual, Open, Better, better}
use Rattle.optimality.proofs.Grounded.{Made, Tight, Loop, tight_or_loop}

pub record Costs (G : Group) (P R : G.Value → Type 0) (i : Item G.Value) : Type 0 where
  pub at_tail : i.tail ≡ 0 → P i.cost × P (G.opposite i.cost)
  pub at_head : i.head ≡ 0 → P i.cost × P (G.opposite i.cost)
  pub between : (i.tail ≡ 0 → ⊥) → (i.head ≡ 0 → ⊥) → R i.cost × R (G.opposite i.cost)

pub record Fitted (G : Group) (P R : G.Value → Type 0) (is : List (Item G.Value)) (n : ℕ) (x : ℕ → ℤ) : Type 0 where
  pub price : ℕ → G.Value
  pub at_ground : price 0 ≡ G.zero
  pub fitting : Each (Fitting G price) is x
  pub made : (v : ℕ) → v < suc n → Made G P R (n + n) (price v)

abbrev keep_if : Bool → Step → List Step → List Step
keep_if true s rest = s ∷ rest
keep_if false s rest = rest

keep_here : (b : Bool) (s : Step) (rest : List Step) → T b → In s (keep_if b s rest)
keep_here true s rest h = inl refl
keep_here false s rest h = elim h [ ]

keep_there : (b : Bool) (s t : Step) (rest : List Step) → In t rest → In t (keep_if b s rest)
keep_there true s t rest i = inr i
keep_there false s t rest i = i

keep_cases : (b : Bool) (s t : Step) (rest : List Step) (P : Step → Type 0) → (T b → P s) → (In t rest → P t) → In t (keep_if b s rest) → P t
keep_cases true s t rest P f g (inl e) = subst P (sym e) (f tt)
keep_cases true s t rest P f g (inr i) = g i
keep_cases false s t rest P f g i = g i

module _ (G : Group) (is : List (Item G.Value)) (d : Item G.Value) (x : ℕ → ℤ) where
  abbrev up_test : ℕ → Bool
  up_test k = lt_z (x k) (get_or is k d).high

  abbrev down_test : ℕ → Bool
  down_test k = lt_z (get_or is k d).low (x k)

  abbrev open_steps : ℕ → List Step
  open_steps zero = []
  open_steps (suc n) = keep_if (up_test n) (raise n) (keep_if (down_test n) (lower n) (open_steps n))

  -- what holds of every step that has room
  among : (P : Step → Type 0) (n : ℕ) → ((s : Step) → place s < n → Open G is d x s → P s) → (s : Step) → In s (open_steps n) → P s
  among P zero f s i = elim i [ ]
  among P (suc n) f s i =
      keep_cases (up_test n) (raise n) s (keep_if (down_test n) (lower n) (open_steps n)) P (λ t. f (raise n) (omega arith) (record { lt = t }))
      (λ j. keep_cases (down_test n) (lower n) s (open_steps n) P (λ t. f (lower n) (omega arith) (record { lt = t }))
      (λ k. among P n (λ u l o. f u (omega arith) o) s k) j)
      i

  opened : (n : ℕ) (s : Step) → place s < n → Open G is d x s → In s (open_steps n)
  opened zero s h o = absurd (omega arith)
  opened (suc n) (raise k) h o = go (cases_eq k n) (opened n (raise k))
    where
      rest : List Step
      rest = keep_if (down_test n) (lower n) (open_steps n)

      go : (k ≡ n) ⊎ (k ≡ n → ⊥) → (k < n → Open G is d x (raise k) → In (raise k) (open_steps n)) → In (raise k) (keep_if (up_test n) (raise n) rest)
      go (inl e) f = subst (λ j. In (raise j) (keep_if (up_test n) (raise n) rest)) (sym e) (keep_here (up_test n) (raise n) rest (subst (λ j. T (up_test j)) e o.lt))
      go (inr c) f = keep_there (up_test n) (raise n) (raise k) rest (keep_there (down_test n) (lower n) (raise k) (open_steps n) (f (omega arith) o))
  opened (suc n) (lower k) h o = go (cases_eq k n) (opened n (lower k))
    where
      rest : List Step
      rest = keep_if (down_test n) (lower n) (open_steps n)

      go : (k ≡ n) ⊎ (k ≡ n → ⊥) → (k < n → Open G is d x (lower k) → In (lower k) (open_steps n)) → In (lower k) (keep_if (up_test n) (raise n) rest)
      go (inl e) f =
          keep_there (up_test n) (raise n) (lower k) rest
          (subst (λ j. In (lower j) rest) (sym e) (keep_here (down_test n) (lower n) (open_steps n) (subst (λ j. T (down_test j)) e o.lt)))
      go (inr c) f = keep_there (up_test n) (raise n) (lower k) rest (keep_there (down_test n) (lower n) (lower k) (open_steps n) (f (omega arith) o))

  abbrev len : ℕ
  len = length is

  abbrev N : Arcs G Step
  N = residual G is d

  -- a fact of every item, at the place of a step
  here : (P : Item G.Value → Type 0) → AllByRecursion P is → (k : ℕ) → k < len → P (get_or is k d)
  here P all k h = All-get_or P is k d h all

  module _ (P R : G.Value → Type 0) (n : ℕ) (costs : AllByRecursion (Costs G P R) is) (known : AllByRecursion (Known (suc n)) is) where
    out : (s : Step) → place s < len → N.from s ≡ 0 → P (N.cost s)
    out (raise k) h e = ((here (Costs G P R) costs k h).at_tail e).0
    out (lower k) h e = ((here (Costs G P R) costs k h).at_head e).1

    into : (s : Step) → place s < len → N.to s ≡ 0 → P (G.opposite (N.cost s))
    into (raise k) h e = ((here (Costs G P R) costs k h).at_head e).1
    into (lower k) h e = subst P (sym (opposite_twice G (get_or is k d).cost)) ((here (Costs G P R) costs k h).at_tail e).0

    inner : (s : Step) → place s < len → (N.from s ≡ 0 → ⊥) → (N.to s ≡ 0 → ⊥) → R (N.cost s) × R (G.opposite (N.cost s))
    inner (raise k) h a b = (here (Costs G P R) costs k h).between a b
    inner (lower k) h a b =
        let r = (here (Costs G P R) costs k h).between b a in
        (r.1, subst R (sym (opposite_twice G (get_or is k d).cost)) r.0)

    source : (s : Step) → place s < len → N.from s < suc n
    source (raise k) h = (here (Known (suc n)) known k h).1
    source (lower k) h = (here (Known (suc n)) known k h).0

    target : (s : Step) → place s < len → N.to s < suc n
    target (raise k) h = (here (Known (suc n)) known k h).0
    target (lower k) h = (here (Known (suc n)) known k h).1

    fitted : Tight G N P R (open_steps len) n → Fitted G P R is n x
    fitted t =
        record {
          price = t.price;
          at_ground = t.at_ground;
          fitting = λ k e h.
              subst (λ i. Fitting G t.price i (x k)) (get_or_default is k d e h) (
                λ l. t.fits (raise k) (opened len (raise k) h l),
                λ l.
                    let a = t.price (get_or is k d).tail in
                    let b = t.price (get_or is k d).head in
                    let c = (get_or is k d).cost in
                    leq_shift G a (G.plus b (G.opposite c)) (G.plus a c) b (t.fits (lower k) (opened len (lower k) h l))
                    (solve G (a ∷ b ∷ c ∷ []) ((var 0 ⊕ var 2) ⊕ (var 1 ⊕ neg (var 2))) (var 0 ⊕ var 1) tt),
              );
          made = t.made;
        }

    pub fitted_or_better : Each InBounds is x → Fitted G P R is n x ⊎ Better G is x
    fitted_or_better within =
        go (tight_or_loop G N P R (open_steps len) n
        (among (λ s. N.from s ≡ 0 → P (N.cost s)) len (λ s h o. out s h))
        (among (λ s. N.to s ≡ 0 → P (G.opposite (N.cost s))) len (λ s h o. into s h))
        (among (λ s. (N.from s ≡ 0 → ⊥) → (N.to s ≡ 0 → ⊥) → R (N.cost s) × R (G.opposite (N.cost s))) len (λ s h o. inner s h))
        (among (λ s. N.from s < suc n) len (λ s h o. source s h))
        (among (λ s. N.to s < suc n) len (λ s h o. target s h)))
      where
        go : Tight G N P R (open_steps len) n ⊎ Loop G N (open_steps len) → Fitted G P R is n x ⊎ Better G is x
        go (inl t) = inl (fitted t)
        go (inr l) =
            inr
            (better G is d x l.start l.walk l.ends l.simple
            (All-weaker (λ s. In s (open_steps len)) (Open G is d x) (among (Open G is d x) len (λ s h o. o)) l.walk l.inside)
            (All-weaker (λ s. In s (open_steps len)) (λ s. place s < len) (among (λ s. place s < len) len (λ s h o. h)) l.walk l.inside)
            l.negative within)
