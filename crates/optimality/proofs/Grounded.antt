-- Prices made of few costs: every node gets one more arc from the ground, at the largest lower bound in play. Assumes nothing.
--
--     Made      a value that is the sum of at most one cost at the ground and of some costs between other nodes, opposites allowed
--     Tight      prices that no arc undercuts, each so made
--     Loop      a closed simple walk of negative cost
--     Into      a simple walk that comes from another node into the ground, the node 0
--     Floor      a bound that no walk into the ground asks more of
--     wide      the arcs, and one more from the ground to each of the nodes 1 to n, at the bound
--
-- The added arcs make no cycle of negative cost: such a cycle would leave the ground by an added arc and come back by a walk that asks
-- no more than the bound. So each price is the cost of a simple walk from the ground: its first arc costs one cost at the ground, or the
-- bound, which is zero or the opposite of what one walk into the ground costs; its other arcs lie between other nodes.
use Rattle.std.proofs.Common.{◌≡◌, ℕ, zero, suc, ◌+◌, ◌<◌, ◌≤◌, ◌⊎◌, List, [], ◌∷◌, map, length, sym, refl, ap, ◌∙◌, subst, ap₂, inl, inr, arith}
use Rattle.std.specs.List.{AllByRecursion}
use Rattle.std.proofs.lemmas.Bool.{cases_eq}
use Rattle.std.proofs.ByRecursion.{All-weaker}
use Rattle.optimality.proofs.Groups.{Group, Less, Leq, leq_shift, plus_zero}
use Rattle.optimality.proofs.Multiples.{opposite_zero, opposite_of_sum, nil, var, ◌⊕◌, neg, solve}
use Rattle.optimality.proofs.Walks.{Arcs, In, Ends, Off, Simple, spent, Walk, few, rows, in_rows, rows_inside, in_map, Least, None, find_least}
use Rattle.optimality.proofs.Potentials.{both, apart, dec_off, dec_simple, Cycle, Prices, prices_or_cycle}

abbrev pub sum_of : (G : Group) → List G.Value → G.Value
sum_of G [] = G.zero
sum_of G (v ∷ vs) = G.plus v (sum_of G vs)

-- P holds of the costs at the ground, R of those between other nodes
pub record Made (G : Group) (P R : G.Value → Type 0) (k : ℕ) (v : G.Value) : Type 0 where
  pub outer : List G.Value
  pub inner : List G.Value
  pub is : v ≡ G.plus (sum_of G outer) (sum_of G inner)
  pub few_outer : length outer ≤ 1
  pub few_inner : length inner ≤ k
  pub outer_costs : AllByRecursion P outer
  pub inner_costs : AllByRecursion R inner

module _ (G : Group) {A : Type 0} (N : Arcs G A) where
  pub record Tight (P R : G.Value → Type 0) (arcs : List A) (n : ℕ) : Type 0 where
    pub price : ℕ → G.Value
    pub at_ground : price 0 ≡ G.zero
    pub fits : (a : A) → In a arcs → Leq G (price (N.to a)) (G.plus (price (N.from a)) (N.cost a))
    pub made : (v : ℕ) → v < suc n → Made G P R (n + n) (price v)

  pub record Loop (arcs : List A) : Type 0 where
    pub start : ℕ
    pub walk : List A
    pub ends : Ends G N start start walk
    pub simple : Simple G N walk
    pub inside : AllByRecursion (λ a. In a arcs) walk
    pub negative : Less G (spent G N walk) G.zero

  -- ---- walks into the ground
  -- a walk to v that starts away from the ground
  abbrev Inward : ℕ → List A → Type 0
  Inward v [] = v ≡ 0 → ⊥
  Inward v (a ∷ w) = (N.to a ≡ v) × Inward (N.from a) w

  abbrev Into : List A → Type 0
  Into [] = ⊥
  Into (a ∷ w) = (N.to a ≡ 0) × (Inward (N.from a) w × (Off G N 0 w × Simple G N w))

  dec_inward : (v : ℕ) (w : List A) → Inward v w ⊎ (Inward v w → ⊥)
  dec_inward v [] = apart (cases_eq v 0)
  dec_inward v (a ∷ w) = both (cases_eq (N.to a) v) (dec_inward (N.from a) w)

  dec_into : (w : List A) → Into w ⊎ (Into w → ⊥)
  dec_into [] = inr (λ h. h)
  dec_into (a ∷ w) = both (cases_eq (N.to a) 0) (both (dec_inward (N.from a) w) (both (dec_off G N 0 w) (dec_simple G N w)))

  inward_away : (v : ℕ) (w : List A) → Inward v w → Off G N 0 w → v ≡ 0 → ⊥
  inward_away v [] h o e = h e
  inward_away v (a ∷ w) h o e = o.0 (h.0 ∙ e)

  off_least : (w : List A) → Off G N 0 w → AllByRecursion (λ a. 1 ≤ N.to a) w
  off_least [] o = tt
  off_least (a ∷ w) o = (least (N.to a) o.0, off_least w o.1)
    where
      least : (k : ℕ) → (k ≡ 0 → ⊥) → 1 ≤ k
      least zero d = absurd (d refl)
      least (suc k) d = omega arith

  record Floor (P R : G.Value → Type 0) (arcs : List A) (n : ℕ) : Type 0 where
    bound : G.Value
    made : Made G P R n bound
    above : (w : List A) → Into w → AllByRecursion (λ a. In a arcs) w → Leq G (G.opposite (spent G N w)) bound

  module _ (P R : G.Value → Type 0) (arcs : List A) (n : ℕ)
      (outs : (a : A) → In a arcs → N.from a ≡ 0 → P (N.cost a))
      (ins : (a : A) → In a arcs → N.to a ≡ 0 → P (G.opposite (N.cost a)))
      (between : (a : A) → In a arcs → (N.from a ≡ 0 → ⊥) → (N.to a ≡ 0 → ⊥) → R (N.cost a) × R (G.opposite (N.cost a)))
      (targets : (a : A) → In a arcs → N.to a < suc n) where
    -- a simple walk that keeps off the ground has at most n arcs
    short : (w : List A) → Simple G N w → Off G N 0 w → AllByRecursion (λ a. In a arcs) w → length w ≤ n
    short w s o i =
        few G N 1 n w s (off_least w o) (All-weaker (λ a. In a arcs) (λ a. N.to a < 1 + n) (λ a j. omega (arith, targets a j)) w i)

    undone : (v : ℕ) (w : List A) → Inward v w → Off G N 0 w → AllByRecursion (λ a. In a arcs) w → (xs : List G.Value) × (G.opposite (spent G N w) ≡ sum_of G xs) × (length xs ≡ length w) × AllByRecursion R xs
    undone v [] h o i = ([], opposite_zero G, refl, tt)
    undone v (a ∷ w) h o i =
        let r = undone (N.from a) w h.1 o.1 i.1 in (
          G.opposite (N.cost a) ∷ r.0,
          opposite_of_sum G (N.cost a) (spent G N w) ∙ ap (G.plus (G.opposite (N.cost a))) r.1,
          ap suc r.2,
          ((between a i.0 (inward_away (N.from a) w h.1 o.1) o.0).1, r.3),
        )

    made_into : (w : List A) → Into w → AllByRecursion (λ a. In a arcs) w → Made G P R n (G.opposite (spent G N w))
    made_into [] h i = elim h [ ]
    made_into (a ∷ w) h i =
        let r = undone (N.from a) w h.1.0 h.1.1.0 i.1 in
        let c = G.opposite (N.cost a) in
        record {
          outer = c ∷ [];
          inner = r.0;
          is = opposite_of_sum G (N.cost a) (spent G N w) ∙ ap₂ G.plus (sym (plus_zero G c)) r.1;
          few_outer = omega arith;
          few_inner = omega (arith, r.2, short w h.1.1.1 h.1.1.0 i.1);
          outer_costs = (ins a i.0 h.0, tt);
          inner_costs = r.3;
        }

    into_listed : (w : List A) → Into w → AllByRecursion (λ a. In a arcs) w → In w (rows (suc n) arcs)
    into_listed [] h i = elim h [ ]
    into_listed (a ∷ w) h i = in_rows (suc n) arcs (a ∷ w) i (omega (arith, short w h.1.1.1 h.1.1.0 i.1))

    floor : Floor P R arcs n
    floor = go (find_least G Into dec_into (spent G N) (rows (suc n) arcs))
      where
        go : None Into (rows (suc n) arcs) ⊎ Least G Into (spent G N) (rows (suc n) arcs) → Floor P R arcs n
        go (inl none) =
            record {
              bound = G.zero;
              made = record { outer = []; inner = []; is = sym (G.zero_plus G.zero); few_outer = omega arith; few_inner = omega arith; outer_costs = tt; inner_costs = tt };
              above = λ w h i. absurd (none w (into_listed w h i) h);
            }
        go (inr l) =
            let b = spent G N l.best in
            record {
              bound = G.opposite b;
              made = made_into l.best l.holds (rows_inside (λ a. In a arcs) (suc n) arcs l.best (λ a i. i) l.member);
              above = λ w h i.
                  let c = spent G N w in
                  leq_shift G b c (G.opposite c) (G.opposite b) (l.least w (into_listed w h i) h) (solve G (b ∷ c ∷ []) (neg (var 1) ⊕ var 1) (var 0 ⊕ neg (var 0)) tt);
            }

  -- ---- the added arcs
  abbrev wide_from : ℕ ⊎ A → ℕ
  wide_from (inl a) = 0
  wide_from (inr a) = N.from a

  abbrev wide_to : ℕ ⊎ A → ℕ
  wide_to (inl a) = suc a
  wide_to (inr a) = N.to a

  abbrev wide_cost : G.Value → ℕ ⊎ A → G.Value
  wide_cost bound (inl a) = bound
  wide_cost bound (inr a) = N.cost a

  abbrev widened : G.Value → Arcs G (ℕ ⊎ A)
  widened bound = record { from = wide_from; to = wide_to; cost = wide_cost bound }

  abbrev wide : ℕ → List A → List (ℕ ⊎ A)
  wide zero arcs = map inr arcs
  wide (suc n) arcs = inl n ∷ wide n arcs

  wide_extra : (n : ℕ) (arcs : List A) (a : ℕ) → a < n → In (inl a) (wide n arcs)
  wide_extra zero arcs a h = absurd (omega arith)
  wide_extra (suc n) arcs a h = go (cases_eq a n) (wide_extra n arcs a)
    where
      go : (a ≡ n) ⊎ (a ≡ n → ⊥) → (a < n → In (inl a) (wide n arcs)) → In (inl a) (wide (suc n) arcs)
      go (inl e) f = inl (ap inl e)
      go (inr d) f = inr (f (omega arith))

  wide_real : (n : ℕ) (arcs : List A) (a : A) → In a arcs → In (inr a) (wide n arcs)
  wide_real zero arcs a i = in_map inr a arcs i
  wide_real (suc n) arcs a i = inr (wide_real n arcs a i)

  mapped : (Q : ℕ ⊎ A → Type 0) (arcs : List A) → ((a : A) → In a arcs → Q (inr a)) → (s : ℕ ⊎ A) → In s (map inr arcs) → Q s
  mapped Q [] h s i = elim i [ ]
  mapped Q (a ∷ arcs) h s (inl e) = subst Q (sym e) (h a (inl refl))
  mapped Q (a ∷ arcs) h s (inr i) = mapped Q arcs (λ b j. h b (inr j)) s i

  -- what holds of each added arc and of each arc holds of all
  wide_cases : (Q : ℕ ⊎ A → Type 0) (n : ℕ) (arcs : List A) → ((a : ℕ) → a < n → Q (inl a)) → ((a : A) → In a arcs → Q (inr a)) → (s : ℕ ⊎ A) → In s (wide n arcs) → Q s
  wide_cases Q zero arcs f h s i = mapped Q arcs h s i
  wide_cases Q (suc n) arcs f h s (inl e) = subst Q (sym e) (f n (omega arith))
  wide_cases Q (suc n) arcs f h s (inr i) = wide_cases Q n arcs (λ a l. f a (omega arith)) h s i

  abbrev Real : List A → ℕ ⊎ A → Type 0
  Real arcs (inl a) = Unit {0}
  Real arcs (inr a) = In a arcs

  real : (n : ℕ) (arcs : List A) (s : ℕ ⊎ A) → In s (wide n arcs) → Real arcs s
  real n arcs s i = wide_cases (Real arcs) n arcs (λ a l. tt) (λ a j. j) s i

  module _ (arcs : List A) (n : ℕ) (bound : G.Value) where
    abbrev W : Arcs G (ℕ ⊎ A)
    W = widened bound

    -- ---- walks over the arcs alone, seen among all arcs
    plain_ends : (u v : ℕ) (w : List A) → Ends G W u v (map inr w) → Ends G N u v w
    plain_ends u v [] e = e
    plain_ends u v (a ∷ w) e = (e.0, plain_ends u (N.from a) w e.1)

    plain_off : (v : ℕ) (w : List A) → Off G W v (map inr w) → Off G N v w
    plain_off v [] o = tt
    plain_off v (a ∷ w) o = (o.0, plain_off v w o.1)

    plain_simple : (w : List A) → Simple G W (map inr w) → Simple G N w
    plain_simple [] s = tt
    plain_simple (a ∷ w) s = (plain_off (N.to a) w s.0, plain_simple w s.1)

    plain_inside : (w : List A) → AllByRecursion (λ s. In s (wide n arcs)) (map inr w) → AllByRecursion (λ a. In a arcs) w
    plain_inside [] i = tt
    plain_inside (a ∷ w) i = (real n arcs (inr a) i.0, plain_inside w i.1)

    plain_spent : (w : List A) → spent G W (map inr w) ≡ spent G N w
    plain_spent [] = refl
    plain_spent (a ∷ w) = ap (G.plus (N.cost a)) (plain_spent w)

    abbrev Plain : List (ℕ ⊎ A) → Type 0
    Plain w = (v : List A) × (map inr v ≡ w)

    -- a walk from the ground that begins with an added arc, and goes on by the arcs alone
    record Detour (v : ℕ) (w : List (ℕ ⊎ A)) : Type 0 where
      rest : List A
      inward : Inward v rest
      off : Off G N 0 rest
      simple : Simple G N rest
      inside : AllByRecursion (λ a. In a arcs) rest
      kept : (x : ℕ) → Off G W x w → Off G N x rest
      costs : spent G W w ≡ G.plus bound (spent G N rest)

    -- a walk that never meets the ground has no added arc
    away : (u v : ℕ) (w : List (ℕ ⊎ A)) → (u ≡ 0 → ⊥) → Ends G W u v w → Off G W 0 w → Plain w × (v ≡ 0 → ⊥)
    away u v [] d e o = (([], refl), λ z. d (e ∙ z))
    away u v (inl a ∷ w) d e o = absurd ((away u 0 w d e.1 o.1).1 refl)
    away u v (inr a ∷ w) d e o =
        let r = away u (N.from a) w d e.1 o.1 in
        ((a ∷ r.0.0, ap (λ t. inr a ∷ t) r.0.1), λ z. o.0 (e.0 ∙ z))

    -- a walk from the ground has no added arc, or begins with one
    out : (v : ℕ) (w : List (ℕ ⊎ A)) → Ends G W 0 v w → Off G W 0 w → Simple G W w → AllByRecursion (λ s. In s (wide n arcs)) w → Detour v w ⊎ Plain w
    out v [] e o s i = inr ([], refl)
    out v (inl a ∷ []) e o s i =
        inl (record { rest = []; inward = λ z. o.0 (e.0 ∙ z); off = tt; simple = tt; inside = tt; kept = λ x p. tt; costs = refl })
    out v (inr a ∷ []) e o s i = inr (a ∷ [], refl)
    out v (inl a ∷ (t ∷ w)) e o s i = absurd (o.1.0 e.1.0)
    out v (inr a ∷ (t ∷ w)) e o s i = go (out (N.from a) (t ∷ w) e.1 o.1 s.1 i.1)
      where
        go : Detour (N.from a) (t ∷ w) ⊎ Plain (t ∷ w) → Detour v (inr a ∷ (t ∷ w)) ⊎ Plain (inr a ∷ (t ∷ w))
        go (inl r) =
            let c = N.cost a in
            let m = spent G N r.rest in
            inl
            (record {
              rest = a ∷ r.rest;
              inward = (e.0, r.inward);
              off = (o.0, r.off);
              simple = (r.kept (N.to a) s.0, r.simple);
              inside = (real n arcs (inr a) i.0, r.inside);
              kept = λ x p. (p.0, r.kept x p.1);
              costs = ap (G.plus c) r.costs ∙ solve G (c ∷ bound ∷ m ∷ []) (var 0 ⊕ (var 1 ⊕ var 2)) (var 1 ⊕ (var 0 ⊕ var 2)) tt;
            })
        go (inr p) = inr (a ∷ p.0, ap (λ x. inr a ∷ x) p.1)

    module _ (above : (w : List A) → Into w → AllByRecursion (λ a. In a arcs) w → Leq G (G.opposite (spent G N w)) bound) where
      loop : (a : A) (back : List (ℕ ⊎ A)) → Plain back → Ends G W (N.to a) (N.from a) back → Off G W (N.to a) back → Simple G W back → AllByRecursion (λ s. In s (wide n arcs)) (inr a ∷ back) → Less G (spent G W (inr a ∷ back)) G.zero → Loop arcs
      loop a back p ends off simple inside negative =
          let w = p.0 in
          record {
            start = N.to a;
            walk = a ∷ w;
            ends = (refl, plain_ends (N.to a) (N.from a) w (subst (Ends G W (N.to a) (N.from a)) (sym p.1) ends));
            simple = (plain_off (N.to a) w (subst (Off G W (N.to a)) (sym p.1) off), plain_simple w (subst (Simple G W) (sym p.1) simple));
            inside = (real n arcs (inr a) inside.0, plain_inside w (subst (AllByRecursion (λ s. In s (wide n arcs))) (sym p.1) inside.1));
            negative = subst (λ t. Less G (G.plus (N.cost a) t) G.zero) (ap (spent G W) (sym p.1) ∙ plain_spent w) negative;
          }

      -- a cycle of negative cost has no added arc
      closed : (s : ℕ ⊎ A) (back : List (ℕ ⊎ A)) → Ends G W (W.to s) (W.from s) back → Off G W (W.to s) back → Simple G W back → Off G W 0 back → AllByRecursion (λ t. In t (wide n arcs)) (s ∷ back) → Less G (spent G W (s ∷ back)) G.zero → Loop arcs
      closed (inl x) back ends off simple clear inside negative = absurd ((away (suc x) 0 back (λ z. omega arith) ends clear).1 refl)
      closed (inr a) back ends off simple clear inside negative = go (cases_eq (N.to a) 0)
        where
          grounded : N.to a ≡ 0 → Detour (N.from a) back ⊎ Plain back → Loop arcs
          grounded e (inl r) =
              let c = N.cost a in
              let m = spent G N r.rest in
              absurd
              (leq_shift G (G.opposite (G.plus c m)) bound G.zero (G.plus c (G.plus bound m))
              (above (a ∷ r.rest) (e, (r.inward, (r.off, r.simple))) (real n arcs (inr a) inside.0, r.inside))
              (solve G (c ∷ m ∷ bound ∷ []) (nil ⊕ var 2) (neg (var 0 ⊕ var 1) ⊕ (var 0 ⊕ (var 2 ⊕ var 1))) tt)
              (subst (λ t. Less G (G.plus c t) G.zero) r.costs negative))
          grounded e (inr p) = loop a back p ends off simple inside negative

          go : (N.to a ≡ 0) ⊎ (N.to a ≡ 0 → ⊥) → Loop arcs
          go (inl e) = grounded e (out (N.from a) back (subst (λ u. Ends G W u (N.from a) back) e ends) clear simple inside.1)
          go (inr d) = loop a back (away (N.to a) (N.from a) back d ends clear).0 ends off simple inside negative

    -- ---- what a walk from the ground is made of
    module _ (P R : G.Value → Type 0)
        (outs : (a : A) → In a arcs → N.from a ≡ 0 → P (N.cost a))
        (between : (a : A) → In a arcs → (N.from a ≡ 0 → ⊥) → (N.to a ≡ 0 → ⊥) → R (N.cost a) × R (G.opposite (N.cost a)))
        (made : Made G P R n bound) where
      walk_made : (v : ℕ) (w : List (ℕ ⊎ A)) → Ends G W 0 v w → Off G W 0 w → AllByRecursion (λ s. In s (wide n arcs)) w → Made G P R (n + length w) (spent G W w)
      walk_made v [] e o i =
          record { outer = []; inner = []; is = sym (G.zero_plus G.zero); few_outer = omega arith; few_inner = omega arith; outer_costs = tt; inner_costs = tt }
      walk_made v (inl a ∷ []) e o i =
          record {
            outer = made.outer;
            inner = made.inner;
            is = plus_zero G bound ∙ made.is;
            few_outer = made.few_outer;
            few_inner = omega (arith, made.few_inner);
            outer_costs = made.outer_costs;
            inner_costs = made.inner_costs;
          }
      walk_made v (inr a ∷ []) e o i =
          record {
            outer = N.cost a ∷ [];
            inner = [];
            is = sym (plus_zero G (G.plus (N.cost a) G.zero));
            few_outer = omega arith;
            few_inner = omega arith;
            outer_costs = (outs a (real n arcs (inr a) i.0) (sym e.1), tt);
            inner_costs = tt;
          }
      walk_made v (inl a ∷ (t ∷ w)) e o i = absurd (o.1.0 e.1.0)
      walk_made v (inr a ∷ (t ∷ w)) e o i =
          let r = walk_made (N.from a) (t ∷ w) e.1 o.1 i.1 in
          let c = N.cost a in
          let x = sum_of G r.outer in
          let y = sum_of G r.inner in
          record {
            outer = r.outer;
            inner = c ∷ r.inner;
            is = ap (G.plus c) r.is ∙ solve G (c ∷ x ∷ y ∷ []) (var 0 ⊕ (var 1 ⊕ var 2)) (var 1 ⊕ (var 0 ⊕ var 2)) tt;
            few_outer = r.few_outer;
            few_inner = omega (arith, r.few_inner);
            outer_costs = r.outer_costs;
            inner_costs = ((between a (real n arcs (inr a) i.0) (λ z. o.1.0 (e.1.0 ∙ z)) o.0).0, r.inner_costs);
          }

  wide_least : (bound : G.Value) (w : List (ℕ ⊎ A)) → Off G (widened bound) 0 w → AllByRecursion (λ s. 1 ≤ wide_to s) w
  wide_least bound [] o = tt
  wide_least bound (s ∷ w) o = (least (wide_to s) o.0, wide_least bound w o.1)
    where
      least : (k : ℕ) → (k ≡ 0 → ⊥) → 1 ≤ k
      least zero d = absurd (d refl)
      least (suc k) d = omega arith

  made_weaker : (P R : G.Value → Type 0) (j k : ℕ) (v : G.Value) → j ≤ k → Made G P R j v → Made G P R k v
  made_weaker P R j k v h r =
      record { outer = r.outer; inner = r.inner; is = r.is; few_outer = r.few_outer; few_inner = omega (arith, r.few_inner); outer_costs = r.outer_costs; inner_costs = r.inner_costs }

  pub tight_or_loop : (P R : G.Value → Type 0) (arcs : List A) (n : ℕ) →
      ((a : A) → In a arcs → N.from a ≡ 0 → P (N.cost a)) →
      ((a : A) → In a arcs → N.to a ≡ 0 → P (G.opposite (N.cost a))) →
      ((a : A) → In a arcs → (N.from a ≡ 0 → ⊥) → (N.to a ≡ 0 → ⊥) → R (N.cost a) × R (G.opposite (N.cost a))) →
      ((a : A) → In a arcs → N.from a < suc n) → ((a : A) → In a arcs → N.to a < suc n) → Tight P R arcs n ⊎ Loop arcs
  tight_or_loop P R arcs n outs ins between sources targets =
      go (prices_or_cycle G W' (wide n arcs) 0 (suc n) into reach (wide_cases (λ s. wide_from s < suc n) n arcs (λ a l. omega arith) sources) (omega arith))
    where
      f : Floor P R arcs n
      f = floor P R arcs n outs ins between targets

      W' : Arcs G (ℕ ⊎ A)
      W' = widened f.bound

      into : (s : ℕ ⊎ A) → In s (wide n arcs) → wide_to s < suc n
      into = wide_cases (λ s. wide_to s < suc n) n arcs (λ a l. omega arith) targets

      reach : (v : ℕ) → v < suc n → (w : List (ℕ ⊎ A)) × Walk G W' (wide n arcs) 0 v w
      reach zero l = ([], record { ends = refl; off = tt; simple = tt; inside = tt })
      reach (suc a) l = (inl a ∷ [], record { ends = (refl, refl); off = (λ z. omega arith, tt); simple = (tt, tt); inside = (wide_extra n arcs a (omega arith), tt) })

      brief : (w : List (ℕ ⊎ A)) → Simple G W' w → Off G W' 0 w → AllByRecursion (λ s. In s (wide n arcs)) w → length w ≤ n
      brief w s o i = few G W' 1 n w s (wide_least f.bound w o) (All-weaker (λ t. In t (wide n arcs)) (λ t. wide_to t < 1 + n) (λ t j. omega (arith, into t j)) w i)

      go : Prices G W' (wide n arcs) 0 (suc n) ⊎ Cycle G W' (wide n arcs) 0 → Tight P R arcs n ⊎ Loop arcs
      go (inl p) =
          inl
          (record {
            price = p.price;
            at_ground = p.at_ground;
            fits = λ a i. p.fits (inr a) (wide_real n arcs a i);
            made = λ v l.
                let w = p.walked v l in
                subst (Made G P R (n + n)) (sym w.2)
                (made_weaker P R (n + length w.0) (n + n) (spent G W' w.0) (omega (arith, brief w.0 w.1.simple w.1.off w.1.inside))
                (walk_made arcs n f.bound P R outs between f.made v w.0 w.1.ends w.1.off w.1.inside));
          })
      go (inr c) = inr (closed arcs n f.bound f.above c.closing c.back c.ends c.off c.simple c.clear c.inside c.negative)
