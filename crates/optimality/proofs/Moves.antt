-- One kilowatt moved along a simple cycle of negative cost gives cheaper amounts with the same balances. Assumes nothing.
--
--     Step      one kilowatt more of the item at a place, or one less
--     residual      the arcs that steps are: a step up goes from tail to head at the cost, a step down back at its opposite
--     Open      the bounds leave room for the step
--     moved      what the steps of a walk add to each amount
--     Better      other amounts within the bounds, with the same balances, that cost less
--
-- A simple cycle enters no node twice, so it takes no step twice. A step up and a step down of one item cancel.
use Rattle.std.proofs.Common.{◌≡◌, ℕ, zero, suc, ◌+◌, ◌<◌, Bool, true, false, cond, eqb, ◌⊎◌, List, [], ◌∷◌, length, get_or, ℤ, pos, negsuc, ◌+ℤ◌, neg_ℤ, ◌≤ℤ◌, ◌<ℤ◌, sym, refl, ap, ◌∙◌, subst, ap₂, inl, inr, arith}
use lib.IntN.{+ℤ_idr, +ℤ_invr}
use borrow.Author.Differences.{ints}
use Rattle.std.specs.List.{AllByRecursion}
use Rattle.std.proofs.lemmas.List.{get_or_default}
use Rattle.optimality.proofs.Groups.{Group, Less, less_shift}
use Rattle.optimality.proofs.Multiples.{scaled_one, scaled_minus_one, nil, var, ◌⊕◌, solve}
use Rattle.optimality.proofs.Families.{whole, gather, gather_plus, gather_none, gather_at, at, Each}
use Rattle.optimality.proofs.Items.{Item, effect, net_at, InBounds, moved_by}
use Rattle.optimality.proofs.Walks.{Arcs, Ends, Off, Simple, spent}

pub data Step : Type 0 where
  raise : ℕ → Step
  lower : ℕ → Step

abbrev pub place : Step → ℕ
place (raise k) = k
place (lower k) = k

abbrev signed : Step → ℤ
signed (raise k) = pos 1
signed (lower k) = negsuc 0

abbrev pub moved : List Step → ℕ → ℤ
moved [] k = pos 0
moved (s ∷ w) k = at (place s) (signed s) k +ℤ moved w k

pub record Better (G : Group) (is : List (Item G.Value)) (x : ℕ → ℤ) : Type 0 where
  pub amount : ℕ → ℤ
  pub within : Each InBounds is amount
  pub balanced : (v : ℕ) → net_at is amount v ≡ net_at is x v
  pub cheaper : Less G (gather G (λ i. i.cost) is amount) (gather G (λ i. i.cost) is x)

-- ---- how often a step is taken
abbrev one : ℕ → ℕ → ℕ
one zero zero = 1
one zero (suc k) = 0
one (suc j) zero = 0
one (suc j) (suc k) = one j k

one_cases : (j k : ℕ) → (one j k ≡ 0) ⊎ ((one j k ≡ 1) × (j ≡ k))
one_cases zero zero = inr (refl, refl)
one_cases zero (suc k) = inl refl
one_cases (suc j) zero = inl refl
one_cases (suc j) (suc k) = go (one_cases j k)
  where
    go : (one j k ≡ 0) ⊎ ((one j k ≡ 1) × (j ≡ k)) → (one j k ≡ 0) ⊎ ((one j k ≡ 1) × (suc j ≡ suc k))
    go (inl e) = inl e
    go (inr e) = inr (e.0, ap suc e.1)

abbrev alike : Step → Step → ℕ
alike (raise j) (raise k) = one j k
alike (raise j) (lower k) = 0
alike (lower j) (raise k) = 0
alike (lower j) (lower k) = one j k

alike_cases : (s t : Step) → (alike s t ≡ 0) ⊎ ((alike s t ≡ 1) × (s ≡ t))
alike_cases (raise j) (raise k) = go (one_cases j k)
  where
    go : (one j k ≡ 0) ⊎ ((one j k ≡ 1) × (j ≡ k)) → (one j k ≡ 0) ⊎ ((one j k ≡ 1) × (raise j ≡ raise k))
    go (inl e) = inl e
    go (inr e) = inr (e.0, ap raise e.1)
alike_cases (raise j) (lower k) = inl refl
alike_cases (lower j) (raise k) = inl refl
alike_cases (lower j) (lower k) = go (one_cases j k)
  where
    go : (one j k ≡ 0) ⊎ ((one j k ≡ 1) × (j ≡ k)) → (one j k ≡ 0) ⊎ ((one j k ≡ 1) × (lower j ≡ lower k))
    go (inl e) = inl e
    go (inr e) = inr (e.0, ap lower e.1)

abbrev uses : Step → List Step → ℕ
uses s [] = 0
uses s (t ∷ w) = alike t s + uses s w

at_up : (j k : ℕ) → at j (pos 1) k ≡ pos (one j k)
at_up zero zero = refl
at_up zero (suc k) = refl
at_up (suc j) zero = refl
at_up (suc j) (suc k) = at_up j k

at_down : (j k : ℕ) → at j (negsuc 0) k ≡ neg_ℤ (pos (one j k))
at_down zero zero = refl
at_down zero (suc k) = refl
at_down (suc j) zero = refl
at_down (suc j) (suc k) = at_down j k

up_sum : (a u d : ℕ) (z m : ℤ) → z ≡ pos a → m ≡ pos u +ℤ neg_ℤ (pos d) → z +ℤ m ≡ pos (a + u) +ℤ neg_ℤ (pos (0 + d))
up_sum a u d z m e f = omega (arith, ints)

down_sum : (a u d : ℕ) (z m : ℤ) → z ≡ neg_ℤ (pos a) → m ≡ pos u +ℤ neg_ℤ (pos d) → z +ℤ m ≡ pos (0 + u) +ℤ neg_ℤ (pos (a + d))
down_sum a u d z m e f = omega (arith, ints)

moved_uses : (w : List Step) (k : ℕ) → moved w k ≡ pos (uses (raise k) w) +ℤ neg_ℤ (pos (uses (lower k) w))
moved_uses [] k = refl
moved_uses (raise j ∷ w) k =
    up_sum (one j k) (uses (raise k) w) (uses (lower k) w) (at j (pos 1) k) (moved w k) (at_up j k) (moved_uses w k)
moved_uses (lower j ∷ w) k =
    down_sum (one j k) (uses (raise k) w) (uses (lower k) w) (at j (negsuc 0) k) (moved w k) (at_down j k) (moved_uses w k)

-- an amount with room up where it grows, and down where it falls, stays within its bounds
stays : (low high x : ℤ) (u d : ℕ) (m : ℤ) → low ≤ℤ x → x ≤ℤ high → m ≡ pos u +ℤ neg_ℤ (pos d) → (u ≡ 0) ⊎ ((u ≡ 1) × (x <ℤ high)) → (d ≡ 0) ⊎ ((d ≡ 1) × (low <ℤ x)) → (low ≤ℤ (x +ℤ m)) × ((x +ℤ m) ≤ℤ high)
stays low high x u d m l h e (inl a) (inl b) = (omega (arith, ints), omega (arith, ints))
stays low high x u d m l h e (inl a) (inr b) = (omega (arith, ints, b.0, b.1), omega (arith, ints, b.0, b.1))
stays low high x u d m l h e (inr a) (inl b) = (omega (arith, ints, a.0, a.1), omega (arith, ints, a.0, a.1))
stays low high x u d m l h e (inr a) (inr b) = (omega (arith, ints, a.0, b.0), omega (arith, ints, a.0, b.0))

module _ (G : Group) (is : List (Item G.Value)) (d : Item G.Value) where
  abbrev from : Step → ℕ
  from (raise k) = (get_or is k d).tail
  from (lower k) = (get_or is k d).head

  abbrev to : Step → ℕ
  to (raise k) = (get_or is k d).head
  to (lower k) = (get_or is k d).tail

  abbrev cost : Step → G.Value
  cost (raise k) = (get_or is k d).cost
  cost (lower k) = G.opposite (get_or is k d).cost

  abbrev pub residual : Arcs G Step
  residual = record { from = from; to = to; cost = cost }

  -- ---- balances and costs
  step_cost : (s : Step) → place s < length is → gather G (λ i. i.cost) is (at (place s) (signed s)) ≡ cost s
  step_cost (raise k) h = gather_at G (λ i. i.cost) is k (pos 1) d h ∙ scaled_one G (get_or is k d).cost
  step_cost (lower k) h = gather_at G (λ i. i.cost) is k (negsuc 0) d h ∙ scaled_minus_one G (get_or is k d).cost

  pub walk_cost : (w : List Step) → AllByRecursion (λ s. place s < length is) w → gather G (λ i. i.cost) is (moved w) ≡ spent G residual w
  walk_cost [] h = gather_none G (λ i. i.cost) is
  walk_cost (s ∷ w) h =
      gather_plus G (λ i. i.cost) is (at (place s) (signed s)) (moved w) ∙ ap₂ G.plus (step_cost s h.0) (walk_cost w h.1)

  -- one at the node v
  abbrev here : ℕ → ℕ → ℤ
  here u v = cond (eqb u v) (pos 1) (pos 0)

  down_here : (t : Bool) → cond t (negsuc 0) (pos 0) ≡ neg_ℤ (cond t (pos 1) (pos 0))
  down_here true = refl
  down_here false = refl

  step_net : (s : Step) (v : ℕ) → place s < length is → net_at is (at (place s) (signed s)) v ≡ here (to s) v +ℤ neg_ℤ (here (from s) v)
  step_net (raise k) v h =
      gather_at whole (λ i. effect i v) is k (pos 1) d h ∙ moved_by (get_or is k d) (pos 1) v
      ∙ ap (λ z. here (get_or is k d).head v +ℤ z) (down_here (eqb (get_or is k d).tail v))
  step_net (lower k) v h =
      gather_at whole (λ i. effect i v) is k (negsuc 0) d h ∙ moved_by (get_or is k d) (negsuc 0) v
      ∙ ap (λ z. z +ℤ here (get_or is k d).tail v) (down_here (eqb (get_or is k d).head v))
      ∙ turn (here (get_or is k d).head v) (here (get_or is k d).tail v)
    where
      turn : (a b : ℤ) → neg_ℤ a +ℤ b ≡ b +ℤ neg_ℤ a
      turn a b = omega (arith, ints)

  pub walk_net : (u z : ℕ) (w : List Step) (v : ℕ) → Ends G residual u z w → AllByRecursion (λ s. place s < length is) w → net_at is (moved w) v ≡ here z v +ℤ neg_ℤ (here u v)
  walk_net u z [] v e h =
      gather_none whole (λ i. effect i v) is
      ∙ sym (ap (λ t. here t v +ℤ neg_ℤ (here u v)) (sym e) ∙ +ℤ_invr (here u v))
  walk_net u z (s ∷ w) v e h =
      gather_plus whole (λ i. effect i v) is (at (place s) (signed s)) (moved w)
      ∙ ap₂ (λ a b. a +ℤ b) (step_net s v h.0) (walk_net u (from s) w v e.1 h.1)
      ∙ join (here (to s) v) (here (from s) v) (here u v)
      ∙ ap (λ t. here t v +ℤ neg_ℤ (here u v)) e.0
    where
      join : (a b c : ℤ) → (a +ℤ neg_ℤ b) +ℤ (b +ℤ neg_ℤ c) ≡ a +ℤ neg_ℤ c
      join a b c = omega (arith, ints)

  -- ---- bounds
  module _ (x : ℕ → ℤ) where
    abbrev pub Open : Step → Type 0
    Open (raise k) = x k <ℤ (get_or is k d).high
    Open (lower k) = (get_or is k d).low <ℤ x k

    never : (w : List Step) (s : Step) → Off G residual (to s) w → uses s w ≡ 0
    never [] s o = refl
    never (t ∷ w) s o = go (alike_cases t s) (never w s o.1)
      where
        go : (alike t s ≡ 0) ⊎ ((alike t s ≡ 1) × (t ≡ s)) → uses s w ≡ 0 → alike t s + uses s w ≡ 0
        go (inl e) r = omega arith
        go (inr e) r = absurd (o.0 (ap to e.1))

    once : (w : List Step) (s : Step) → Simple G residual w → AllByRecursion Open w → (uses s w ≡ 0) ⊎ ((uses s w ≡ 1) × Open s)
    once [] s p o = inl refl
    once (t ∷ w) s p o = go (alike_cases t s) (once w s p.1 o.1)
      where
        go : (alike t s ≡ 0) ⊎ ((alike t s ≡ 1) × (t ≡ s)) → (uses s w ≡ 0) ⊎ ((uses s w ≡ 1) × Open s) → (alike t s + uses s w ≡ 0) ⊎ ((alike t s + uses s w ≡ 1) × Open s)
        go (inl e) (inl r) = inl (omega arith)
        go (inl e) (inr r) = inr (omega (arith, r.0), r.1)
        go (inr e) r =
            let n : uses s w ≡ 0 = never w s (subst (λ t. Off G residual (to t) w) e.1 p.0) in
            inr (omega (arith, e.0), subst Open e.1 o.0)

    kept : (w : List Step) → Simple G residual w → AllByRecursion Open w → Each InBounds is x → Each InBounds is (λ k. x k +ℤ moved w k)
    kept w p o within k e h =
        let b = within k d h in
        subst (λ i. InBounds i (x k +ℤ moved w k)) (get_or_default is k d e h)
        (stays (get_or is k d).low (get_or is k d).high (x k) (uses (raise k) w) (uses (lower k) w) (moved w k) b.0 b.1 (moved_uses w k) (once w (raise k) p o) (once w (lower k) p o))

    pub better : (u : ℕ) (w : List Step) → Ends G residual u u w → Simple G residual w → AllByRecursion Open w → AllByRecursion (λ s. place s < length is) w → Less G (spent G residual w) G.zero → Each InBounds is x → Better G is x
    better u w ends simple room below negative within =
        let c = gather G (λ i. i.cost) is x in
        let m = spent G residual w in
        record {
          amount = λ k. x k +ℤ moved w k;
          within = kept w simple room within;
          balanced = λ v.
              gather_plus whole (λ i. effect i v) is x (moved w) ∙ ap (λ z. net_at is x v +ℤ z) (walk_net u u w v ends below ∙ +ℤ_invr (here u v))
              ∙ +ℤ_idr (net_at is x v);
          cheaper =
              subst (λ t. Less G t c) (sym (gather_plus G (λ i. i.cost) is x (moved w) ∙ ap (G.plus c) (walk_cost w below)))
              (less_shift G m G.zero (G.plus c m) c negative (solve G (c ∷ m ∷ []) ((var 0 ⊕ var 1) ⊕ nil) (var 1 ⊕ var 0) tt));
        }
