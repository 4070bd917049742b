-- Prices for nodes from arcs that each bound one price by another, or a simple cycle of negative cost. Assumes nothing.
--
--     price      the least cost of a simple walk from the ground
--     Prices      no arc undercuts them, and each is the cost of a simple walk
--     Cycle      a closing arc and a simple walk back, of negative cost together
--
-- If an arc from u to v undercuts the price of v, take the best simple walk to u. Where v is not on it, the walk with the arc added is
-- simple and cheaper than the best one to v, which cannot be. Where v is on it, part the walk at v: its early part is a simple walk to
-- v, so it costs at least the price of v, and its late part with the arc is a closed walk of negative cost, simple already.
use Rattle.std.proofs.Common.{◌≡◌, ℕ, ◌+◌, ◌<◌, ◌≤◌, ◌⊎◌, List, [], ◌∷◌, sym, refl, ap, ◌∙◌, subst, inl, inr, arith}
use Rattle.std.specs.List.{AllByRecursion}
use Rattle.std.proofs.lemmas.Bool.{cases_eq}
use Rattle.std.proofs.ByRecursion.{All-weaker}
use Rattle.optimality.proofs.Groups.{Group, Less, Leq, leq_or_less, less_leq_trans, less_shift}
use Rattle.optimality.proofs.Multiples.{nil, var, ◌⊕◌, solve}
use Rattle.optimality.proofs.Walks.{Arcs, In, Ends, Off, Simple, spent, Walk, Part, part, few, rows, in_rows, rows_inside, Least, None, find_least}

pub both : {P Q : Type 0} → P ⊎ (P → ⊥) → Q ⊎ (Q → ⊥) → (P × Q) ⊎ (P × Q → ⊥)
both (inl p) (inl q) = inl (p, q)
both (inl p) (inr q) = inr (λ h. q h.1)
both (inr p) q = inr (λ h. p h.0)

pub apart : {P : Type 0} → P ⊎ (P → ⊥) → (P → ⊥) ⊎ ((P → ⊥) → ⊥)
apart (inl p) = inr (λ f. f p)
apart (inr f) = inl f

module _ (G : Group) {A : Type 0} (N : Arcs G A) where
  dec_ends : (u v : ℕ) (w : List A) → Ends G N u v w ⊎ (Ends G N u v w → ⊥)
  dec_ends u v [] = cases_eq u v
  dec_ends u v (a ∷ w) = both (cases_eq (N.to a) v) (dec_ends u (N.from a) w)

  pub dec_off : (v : ℕ) (w : List A) → Off G N v w ⊎ (Off G N v w → ⊥)
  dec_off v [] = inl tt
  dec_off v (a ∷ w) = both (apart (cases_eq (N.to a) v)) (dec_off v w)

  pub dec_simple : (w : List A) → Simple G N w ⊎ (Simple G N w → ⊥)
  dec_simple [] = inl tt
  dec_simple (a ∷ w) = both (dec_off (N.to a) w) (dec_simple w)

  abbrev Good : ℕ → ℕ → List A → Type 0
  Good g v w = Ends G N g v w × (Off G N g w × Simple G N w)

  dec_good : (g v : ℕ) (w : List A) → Good g v w ⊎ (Good g v w → ⊥)
  dec_good g v w = both (dec_ends g v w) (both (dec_off g w) (dec_simple w))

  -- the closing arc enters the walk's start; the walk back never enters the ground
  pub record Cycle (arcs : List A) (g : ℕ) : Type 0 where
    pub closing : A
    pub back : List A
    pub ends : Ends G N (N.to closing) (N.from closing) back
    pub off : Off G N (N.to closing) back
    pub simple : Simple G N back
    pub clear : Off G N g back
    pub inside : AllByRecursion (λ a. In a arcs) (closing ∷ back)
    pub negative : Less G (spent G N (closing ∷ back)) G.zero

  pub record Prices (arcs : List A) (g n : ℕ) : Type 0 where
    pub price : ℕ → G.Value
    pub at_ground : price g ≡ G.zero
    pub fits : (a : A) → In a arcs → Leq G (price (N.to a)) (G.plus (price (N.from a)) (N.cost a))
    pub walked : (v : ℕ) → v < n → (w : List A) × Walk G N arcs g v w × (price v ≡ spent G N w)

  module _ (arcs : List A) (g n : ℕ) where
    found : (v : ℕ) → None (Good g v) (rows n arcs) ⊎ Least G (Good g v) (spent G N) (rows n arcs)
    found v = find_least G (Good g v) (dec_good g v) (spent G N) (rows n arcs)

    abbrev value : (v : ℕ) → None (Good g v) (rows n arcs) ⊎ Least G (Good g v) (spent G N) (rows n arcs) → G.Value
    value v (inl none) = G.zero
    value v (inr l) = spent G N l.best

    price : ℕ → G.Value
    price v = value v (found v)

    record Reached (v : ℕ) : Type 0 where
      best : List A
      walk : Walk G N arcs g v best
      is : price v ≡ spent G N best
      least : (w : List A) → Walk G N arcs g v w → Leq G (price v) (spent G N w)

    module _ (targets : (a : A) → In a arcs → N.to a < n) where
      listed : (v : ℕ) (w : List A) → Walk G N arcs g v w → In w (rows n arcs)
      listed v w walk =
          in_rows n arcs w walk.inside
          (few G N 0 n w walk.simple (All-weaker (λ a. In a arcs) (λ a. 0 ≤ N.to a) (λ a i. omega arith) w walk.inside)
          (All-weaker (λ a. In a arcs) (λ a. N.to a < 0 + n) (λ a i. omega (arith, targets a i)) w walk.inside))

      reached : (v : ℕ) (w : List A) → Walk G N arcs g v w → Reached v
      unfolding price
      reached v w walk = go (found v) refl
        where
          go : (f : None (Good g v) (rows n arcs) ⊎ Least G (Good g v) (spent G N) (rows n arcs)) → found v ≡ f → Reached v
          go (inl none) e = absurd (none w (listed v w walk) (walk.ends, (walk.off, walk.simple)))
          go (inr l) e =
              record {
                best = l.best;
                walk = record {
                  ends = l.holds.0;
                  off = l.holds.1.0;
                  simple = l.holds.1.1;
                  inside = rows_inside (λ a. In a arcs) n arcs l.best (λ a i. i) l.member;
                };
                is = ap (value v) e;
                least = λ x other. subst (λ t. Leq G t (spent G N x)) (sym (ap (value v) e)) (l.least x (listed v x other) (other.ends, (other.off, other.simple)));
              }

      -- one arc: it does not undercut, or there is a cycle
      one_arc : (a : A) → In a arcs → Reached (N.from a) → Reached (N.to a) → Leq G (price (N.to a)) (G.plus (price (N.from a)) (N.cost a)) ⊎ Cycle arcs g
      one_arc a i ru rv = go (leq_or_less G pv (G.plus pu c)) (part G N arcs g v u w ru.walk)
        where
          u : ℕ
          u = N.from a

          v : ℕ
          v = N.to a

          c : G.Value
          c = N.cost a

          pu : G.Value
          pu = price u

          pv : G.Value
          pv = price v

          w : List A
          w = ru.best

          go : Leq G pv (G.plus pu c) ⊎ Less G (G.plus pu c) pv → (Off G N v w × (v ≡ g → ⊥)) ⊎ Part G N arcs g v u w → Leq G pv (G.plus pu c) ⊎ Cycle arcs g
          go (inl h) s = inl h
          go (inr h) (inl o) =
              inl
              (subst (Leq G pv) (ap (G.plus c) (sym ru.is) ∙ G.plus_comm c pu)
              (rv.least (a ∷ w) (record { ends = (refl, ru.walk.ends); off = (o.1, ru.walk.off); simple = (o.0, ru.walk.simple); inside = (i, ru.walk.inside) })))
          go (inr h) (inr p) =
              let late = spent G N p.late in
              let early = spent G N p.early in
              let under : Less G (G.plus (G.plus late early) c) early = less_leq_trans G (G.plus (G.plus late early) c) pv early (subst (λ t. Less G (G.plus t c) pv) (ru.is ∙ p.costs) h) (rv.least p.early p.early_walk) in
              inr
              (record {
                closing = a;
                back = p.late;
                ends = p.late_ends;
                off = p.late_off;
                simple = p.late_simple;
                clear = p.late_kept g ru.walk.off;
                inside = (i, p.late_inside);
                negative = less_shift G (G.plus (G.plus late early) c) early (G.plus c late) G.zero under (solve G (late ∷ early ∷ c ∷ []) ((var 2 ⊕ var 0) ⊕ var 1) (((var 0 ⊕ var 1) ⊕ var 2) ⊕ nil) tt);
              })

      module _ (reach : (v : ℕ) → v < n → (w : List A) × Walk G N arcs g v w) (sources : (a : A) → In a arcs → N.from a < n) where
        abbrev Held : A → Type 0
        Held a = Leq G (price (N.to a)) (G.plus (price (N.from a)) (N.cost a))

        at_node : (v : ℕ) → v < n → Reached v
        at_node v h = reached v (reach v h).0 (reach v h).1

        all_arcs : (ps : List A) → ((a : A) → In a ps → In a arcs) → ((a : A) → In a ps → Held a) ⊎ Cycle arcs g
        all_arcs [] sub = inl (λ a i. elim i [ ])
        all_arcs (b ∷ ps) sub = go (one_arc b (sub b (inl refl)) (at_node (N.from b) (sources b (sub b (inl refl)))) (at_node (N.to b) (targets b (sub b (inl refl))))) (all_arcs ps (λ a i. sub a (inr i)))
          where
            cons : Held b → ((a : A) → In a ps → Held a) → (a : A) → In a (b ∷ ps) → Held a
            cons h f a (inl e) = subst Held (sym e) h
            cons h f a (inr i) = f a i

            go : Held b ⊎ Cycle arcs g → ((a : A) → In a ps → Held a) ⊎ Cycle arcs g → ((a : A) → In a (b ∷ ps) → Held a) ⊎ Cycle arcs g
            go (inl h) (inl f) = inl (cons h f)
            go (inl h) (inr c) = inr c
            go (inr c) s = inr c

        home : (w : List A) → Walk G N arcs g g w → spent G N w ≡ G.zero
        home [] walk = refl
        home (a ∷ w) walk = absurd (walk.off.0 walk.ends.0)

        pub prices_or_cycle : g < n → Prices arcs g n ⊎ Cycle arcs g
        prices_or_cycle h = go (all_arcs arcs (λ a i. i))
          where
            go : ((a : A) → In a arcs → Held a) ⊎ Cycle arcs g → Prices arcs g n ⊎ Cycle arcs g
            go (inl f) =
                inl
                (record {
                  price = price;
                  at_ground = (at_node g h).is ∙ home (at_node g h).best (at_node g h).walk;
                  fits = f;
                  walked = λ v l. ((at_node v l).best, (at_node v l).walk, (at_node v l).is);
                })
            go (inr c) = inr c
