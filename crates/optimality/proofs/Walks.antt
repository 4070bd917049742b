-- Walks over arcs, as lists of arcs, last arc first, so that the early part of a walk is a suffix. Assumes nothing.
--
--     Arcs      where each arc starts and ends, and what it costs
--     Ends      a walk from u to v
--     Off      no arc of the walk enters the node
--     Simple      no node is entered twice
--     spent      what the walk costs
--     In      membership that keeps its place
--     Walk      a simple walk over given arcs that does not come back to where it starts
--     Part      a walk parted at a node
use Rattle.std.proofs.Common.{◌≡◌, ℕ, zero, suc, ◌+◌, ◌<◌, ◌≤◌, ◌⊎◌, List, [], ◌∷◌, ◌++◌, map, length, sym, refl, ap, ◌∙◌, subst, inl, inr, arith}
use Rattle.std.specs.List.{AllByRecursion}
use Rattle.std.proofs.lemmas.Bool.{cases_eq}
use Rattle.optimality.proofs.Groups.{Group, Less, Leq, leq_refl, leq_trans, less_leq, leq_or_less}

pub record Arcs (G : Group) (A : Type 0) : Type 0 where
  pub from : A → ℕ
  pub to : A → ℕ
  pub cost : A → G.Value

abbrev pub In : {X : Type 0} → X → List X → Type 0
In x [] = ⊥
In x (y ∷ ys) = (x ≡ y) ⊎ In x ys

module _ (G : Group) {A : Type 0} (N : Arcs G A) where
  abbrev pub Ends : ℕ → ℕ → List A → Type 0
  Ends u v [] = u ≡ v
  Ends u v (a ∷ w) = (N.to a ≡ v) × Ends u (N.from a) w

  abbrev pub Off : ℕ → List A → Type 0
  Off v [] = Unit {0}
  Off v (a ∷ w) = (N.to a ≡ v → ⊥) × Off v w

  abbrev pub Simple : List A → Type 0
  Simple [] = Unit {0}
  Simple (a ∷ w) = Off (N.to a) w × Simple w

  abbrev pub spent : List A → G.Value
  spent [] = G.zero
  spent (a ∷ w) = G.plus (N.cost a) (spent w)

  pub record Walk (arcs : List A) (g v : ℕ) (w : List A) : Type 0 where
    pub ends : Ends g v w
    pub off : Off g w
    pub simple : Simple w
    pub inside : AllByRecursion (λ a. In a arcs) w

  pub record Part (arcs : List A) (g v u : ℕ) (w : List A) : Type 0 where
    pub late : List A
    pub early : List A
    pub late_ends : Ends v u late
    pub late_off : Off v late
    pub late_simple : Simple late
    pub late_kept : (x : ℕ) → Off x w → Off x late
    pub late_inside : AllByRecursion (λ a. In a arcs) late
    pub early_walk : Walk arcs g v early
    pub costs : spent w ≡ G.plus (spent late) (spent early)

  -- v is not on the walk, or the walk is parted there
  pub part : (arcs : List A) (g v u : ℕ) (w : List A) → Walk arcs g u w → (Off v w × (v ≡ g → ⊥)) ⊎ Part arcs g v u w
  part arcs g v u [] walk = go (cases_eq v g)
    where
      go : (v ≡ g) ⊎ (v ≡ g → ⊥) → (Unit {0} × (v ≡ g → ⊥)) ⊎ Part arcs g v u []
      go (inl e) =
          inr
          (record {
            late = [];
            early = [];
            late_ends = e ∙ walk.ends;
            late_off = tt;
            late_simple = tt;
            late_kept = λ x o. tt;
            late_inside = tt;
            early_walk = record { ends = sym e; off = tt; simple = tt; inside = tt };
            costs = sym (G.zero_plus G.zero);
          })
      go (inr d) = inl (tt, d)
  part arcs g v u (a ∷ w) walk =
      go (cases_eq (N.to a) v)
      (part arcs g v (N.from a) w
      (record { ends = walk.ends.1; off = walk.off.1; simple = walk.simple.1; inside = walk.inside.1 }))
    where
      go : (N.to a ≡ v) ⊎ (N.to a ≡ v → ⊥) → (Off v w × (v ≡ g → ⊥)) ⊎ Part arcs g v (N.from a) w → (Off v (a ∷ w) × (v ≡ g → ⊥)) ⊎ Part arcs g v u (a ∷ w)
      go (inl e) rest =
          inr
          (record {
            late = [];
            early = a ∷ w;
            late_ends = sym e ∙ walk.ends.0;
            late_off = tt;
            late_simple = tt;
            late_kept = λ x o. tt;
            late_inside = tt;
            early_walk = record { ends = (e, walk.ends.1); off = walk.off; simple = walk.simple; inside = walk.inside };
            costs = sym (G.zero_plus (spent (a ∷ w)));
          })
      go (inr d) (inl o) = inl ((d, o.0), o.1)
      go (inr d) (inr p) =
          inr
          (record {
            late = a ∷ p.late;
            early = p.early;
            late_ends = (walk.ends.0, p.late_ends);
            late_off = (d, p.late_off);
            late_simple = (p.late_kept (N.to a) walk.simple.0, p.late_simple);
            late_kept = λ x o. (o.0, p.late_kept x o.1);
            late_inside = (walk.inside.0, p.late_inside);
            early_walk = p.early_walk;
            costs = ap (G.plus (N.cost a)) p.costs ∙ sym (G.plus_assoc (N.cost a) (spent p.late) (spent p.early));
          })

  -- ---- a simple walk that enters only nodes from low to low + n - 1 has at most n arcs
  record Thin (low n : ℕ) (w : List A) : Type 0 where
    rest : List A
    simple : Simple rest
    above : AllByRecursion (λ a. low ≤ N.to a) rest
    below : AllByRecursion (λ a. N.to a < low + n) rest
    kept : (x : ℕ) → Off x w → Off x rest
    short : length w ≤ suc (length rest)
    same : Off (low + n) w → length w ≤ length rest

  thin : (low n : ℕ) (w : List A) → Simple w → AllByRecursion (λ a. low ≤ N.to a) w → AllByRecursion (λ a. N.to a < low + suc n) w → Thin low n w
  thin low n [] s l b = record { rest = []; simple = tt; above = tt; below = tt; kept = λ x o. tt; short = omega arith; same = λ o. omega arith }
  thin low n (a ∷ w) s l b = go (cases_eq (N.to a) (low + n)) (thin low n w s.1 l.1 b.1)
    where
      go : (N.to a ≡ low + n) ⊎ (N.to a ≡ low + n → ⊥) → Thin low n w → Thin low n (a ∷ w)
      go (inl e) t =
          let k : length w ≤ length t.rest = t.same (subst (λ x. Off x w) e s.0) in
          record { rest = t.rest; simple = t.simple; above = t.above; below = t.below; kept = λ x o. t.kept x o.1; short = omega arith; same = λ o. absurd (o.0 e) }
      go (inr d) t =
          let k : N.to a < low + suc n = b.0 in
          record {
            rest = a ∷ t.rest;
            simple = (t.kept (N.to a) s.0, t.simple);
            above = (l.0, t.above);
            below = (omega arith, t.below);
            kept = λ x o. (o.0, t.kept x o.1);
            short = omega (arith, t.short);
            same = λ o. omega (arith, t.same o.1);
          }

  pub few : (low n : ℕ) (w : List A) → Simple w → AllByRecursion (λ a. low ≤ N.to a) w → AllByRecursion (λ a. N.to a < low + n) w → length w ≤ n
  few low zero [] s l b = omega arith
  few low zero (a ∷ w) s l b = absurd (omega (arith, l.0, b.0))
  few low (suc n) w s l b = let t = thin low n w s l b in omega (arith, t.short, few low n t.rest t.simple t.above t.below)

-- ---- all rows of at most k things
module _ {A : Type 0} where
  extend : List A → List (List A) → List (List A)
  extend [] ws = []
  extend (a ∷ ps) ws = map (λ w. a ∷ w) ws ++ extend ps ws

  pub rows : ℕ → List A → List (List A)
  unfolding extend
  rows zero ps = [] ∷ []
  rows (suc k) ps = [] ∷ extend ps (rows k ps)

in_left : {X : Type 0} (x : X) (xs ys : List X) → In x xs → In x (xs ++ ys)
in_left x [] ys i = elim i [ ]
in_left x (y ∷ xs) ys (inl e) = inl e
in_left x (y ∷ xs) ys (inr i) = inr (in_left x xs ys i)

in_right : {X : Type 0} (x : X) (xs ys : List X) → In x ys → In x (xs ++ ys)
in_right x [] ys i = i
in_right x (y ∷ xs) ys i = inr (in_right x xs ys i)

in_cases : {X : Type 0} (x : X) (xs ys : List X) → In x (xs ++ ys) → In x xs ⊎ In x ys
in_cases x [] ys i = inr i
in_cases x (y ∷ xs) ys (inl e) = inl (inl e)
in_cases x (y ∷ xs) ys (inr i) = go (in_cases x xs ys i)
  where
    go : In x xs ⊎ In x ys → In x (y ∷ xs) ⊎ In x ys
    go (inl j) = inl (inr j)
    go (inr j) = inr j

pub in_map : {X Y : Type 0} (f : X → Y) (x : X) (xs : List X) → In x xs → In (f x) (map f xs)
in_map f x [] i = elim i [ ]
in_map f x (y ∷ xs) (inl e) = inl (ap f e)
in_map f x (y ∷ xs) (inr i) = inr (in_map f x xs i)

pub in_all : {X : Type 0} (P : X → Type 0) (x : X) (xs : List X) → AllByRecursion P xs → In x xs → P x
in_all P x [] a i = elim i [ ]
in_all P x (y ∷ xs) a (inl e) = subst P (sym e) a.0
in_all P x (y ∷ xs) a (inr i) = in_all P x xs a.1 i

module _ {A : Type 0} where
  in_extend : (a : A) (w : List A) (ps : List A) (ws : List (List A)) → In a ps → In w ws → In (a ∷ w) (extend ps ws)
  unfolding extend
  in_extend a w [] ws i j = elim i [ ]
  in_extend a w (b ∷ ps) ws (inl e) j =
      in_left (a ∷ w) (map (λ v. b ∷ v) ws) (extend ps ws) (subst (λ x. In (x ∷ w) (map (λ v. b ∷ v) ws)) (sym e) (in_map (λ v. b ∷ v) w ws j))
  in_extend a w (b ∷ ps) ws (inr i) j = in_right (a ∷ w) (map (λ v. b ∷ v) ws) (extend ps ws) (in_extend a w ps ws i j)

  pub in_rows : (k : ℕ) (ps w : List A) → AllByRecursion (λ a. In a ps) w → length w ≤ k → In w (rows k ps)
  unfolding rows
  in_rows zero ps [] i l = inl refl
  in_rows zero ps (a ∷ w) i l = absurd (omega arith)
  in_rows (suc k) ps [] i l = inl refl
  in_rows (suc k) ps (a ∷ w) i l = inr (in_extend a w ps (rows k ps) i.0 (in_rows k ps w i.1 (omega arith)))

  mapped_inside : (P : A → Type 0) (a : A) (w : List A) (ws : List (List A)) → P a → ((v : List A) → In v ws → AllByRecursion P v) → In w (map (λ v. a ∷ v) ws) → AllByRecursion P w
  mapped_inside P a w [] pa h i = elim i [ ]
  mapped_inside P a w (v ∷ ws) pa h (inl e) = subst (AllByRecursion P) (sym e) (pa, h v (inl refl))
  mapped_inside P a w (v ∷ ws) pa h (inr i) = mapped_inside P a w ws pa (λ u j. h u (inr j)) i

  extended_inside : (P : A → Type 0) (w : List A) (ps : List A) (ws : List (List A)) → ((a : A) → In a ps → P a) → ((v : List A) → In v ws → AllByRecursion P v) → In w (extend ps ws) → AllByRecursion P w
  unfolding extend
  extended_inside P w [] ws pa h i = elim i [ ]
  extended_inside P w (a ∷ ps) ws pa h i = go (in_cases w (map (λ v. a ∷ v) ws) (extend ps ws) i) (extended_inside P w ps ws (λ b j. pa b (inr j)) h)
    where
      go : In w (map (λ v. a ∷ v) ws) ⊎ In w (extend ps ws) → (In w (extend ps ws) → AllByRecursion P w) → AllByRecursion P w
      go (inl j) rest = mapped_inside P a w ws (pa a (inl refl)) h j
      go (inr j) rest = rest j

  pub rows_inside : (P : A → Type 0) (k : ℕ) (ps w : List A) → ((a : A) → In a ps → P a) → In w (rows k ps) → AllByRecursion P w
  unfolding rows
  rows_inside P zero ps w pa (inl e) = subst (AllByRecursion P) (sym e) tt
  rows_inside P zero ps w pa (inr i) = elim i [ ]
  rows_inside P (suc k) ps w pa (inl e) = subst (AllByRecursion P) (sym e) tt
  rows_inside P (suc k) ps w pa (inr i) = extended_inside P w ps (rows k ps) pa (λ v j. rows_inside P k ps v pa j) i

-- ---- the least of a list, among those that keep a decidable condition
pub record Least (G : Group) {X : Type 0} (P : X → Type 0) (cost : X → G.Value) (xs : List X) : Type 0 where
  pub best : X
  pub member : In best xs
  pub holds : P best
  pub least : (y : X) → In y xs → P y → Leq G (cost best) (cost y)

abbrev pub None : {X : Type 0} → (X → Type 0) → List X → Type 0
None {X} P xs = (y : X) → In y xs → P y → ⊥

module _ (G : Group) {X : Type 0} (P : X → Type 0) (dec : (x : X) → P x ⊎ (P x → ⊥)) (cost : X → G.Value) where
  -- x first, then the rest
  cons : (Q : X → Type 0) (x : X) (xs : List X) → Q x → ((y : X) → In y xs → Q y) → (y : X) → In y (x ∷ xs) → Q y
  cons Q x xs q f y (inl e) = subst Q (sym e) q
  cons Q x xs q f y (inr i) = f y i

  pub find_least : (xs : List X) → None P xs ⊎ Least G P cost xs
  find_least [] = inl (λ y i. elim i [ ])
  find_least (x ∷ xs) = go (dec x) (find_least xs)
    where
      better : P x → (l : Least G P cost xs) → Leq G (cost x) (cost l.best) ⊎ Less G (cost l.best) (cost x) → Least G P cost (x ∷ xs)
      better h l (inl k) =
          record {
            best = x;
            member = inl refl;
            holds = h;
            least = cons (λ y. P y → Leq G (cost x) (cost y)) x xs (λ _. leq_refl G (cost x)) (λ y i q. leq_trans G (cost x) (cost l.best) (cost y) k (l.least y i q));
          }
      better h l (inr k) =
          record {
            best = l.best;
            member = inr l.member;
            holds = l.holds;
            least = cons (λ y. P y → Leq G (cost l.best) (cost y)) x xs (λ _. less_leq G (cost l.best) (cost x) k) l.least;
          }

      go : P x ⊎ (P x → ⊥) → None P xs ⊎ Least G P cost xs → None P (x ∷ xs) ⊎ Least G P cost (x ∷ xs)
      go (inl h) (inl none) =
          inr
          (record {
            best = x;
            member = inl refl;
            holds = h;
            least = cons (λ y. P y → Leq G (cost x) (cost y)) x xs (λ _. leq_refl G (cost x)) (λ y i q. absurd (none y i q));
          })
      go (inl h) (inr l) = inr (better h l (leq_or_less G (cost x) (cost l.best)))
      go (inr d) (inl none) = inl (cons (λ y. P y → ⊥) x xs d none)
      go (inr d) (inr l) =
          inr
          (record {
            best = l.best;
            member = inr l.member;
            holds = l.holds;
            least = cons (λ y. P y → Leq G (cost l.best) (cost y)) x xs (λ h. absurd (d h)) l.least;
          })
