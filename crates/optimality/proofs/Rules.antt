-- The limits and the fitting rules of a case, as those of its items. Assumes nothing.
--
--     demand_bounds, flow_bounds, bid_bounds      an amount is allowed exactly when it is within the item's bounds
--     demand_fitting, border_fitting, bid_fitting      a price fits exactly when it fits the item
--     items_known      both ends of every item of a valid case are nodes
use Rattle.std.proofs.Common.{◌≡◌, ℕ, zero, suc, ◌+◌, ◌<◌, ◌≤◌, Bool, true, false, cond, not, ◌&&◌, ◌||◌, T, eqb, ltb, leb, List, [], ◌∷◌, ◌++◌, map, length, ℤ, pos, negsuc, neg_ℤ, nat_abs, ◌<ℤ◌, sym, refl, ap, ◌∙◌, subst, subst₂, arith, ltb→lt, T_not}
use lib.Dec.{leb-zero, leb-suc-zero, not_T}
use lib.Signed.{lt_z, le_z}
use borrow.Author.Differences.{ints}
use Rattle.std.specs.Int.{int_max, int_min}
use Rattle.std.specs.List.{AllByRecursion}
use Rattle.std.proofs.ByRecursion.{All-append, All-map, All-weaker}
use Rattle.scale.specs.Meaning.{Meaning, Laws}
use Rattle.market.specs.declared.trade.Direction.{Direction}
use Rattle.market.specs.declared.trade.Direction.TheVariants.{Up, Down}
use Rattle.market.specs.declared.trade.Border.{Border}
use Rattle.market.specs.declared.trade.Bid.{Bid}
use Rattle.market.specs.Cases.{Case, areas, ends_known, bid_known, Valid}
use Rattle.market.specs.Selections.{satisfied_allowed, flow_allowed, activated_allowed}
use Rattle.market.specs.Totals.{bid_cost}
use Rattle.market.specs.Prices.{at_limits, at_least, at_most, demand_fits, border_fits, bid_priced}
use Rattle.optimality.proofs.Groups.{Group, Leq, leq_shift, plus_zero}
use Rattle.optimality.proofs.Multiples.{nil, var, ◌⊕◌, neg, solve}
use Rattle.optimality.proofs.Items.{InBounds, Fitting, Known}
use Rattle.optimality.proofs.Book.{of_meaning, demand_item, demand_items, border_item, bid_item_of, bid_item, items}

pub T_and : (a b : Bool) → T (a && b) → T a × T b
T_and true b h = (tt, h)
T_and false b h = elim h [ ]

pub and_T : (a b : Bool) → T a → T b → T (a && b)
and_T true b h k = k
and_T false b h k = elim h [ ]

or_out : (a b : Bool) → T (not a || b) → T a → T b
or_out true b h k = h
or_out false b h k = elim k [ ]

or_in : (a b : Bool) → (T a → T b) → T (not a || b)
or_in true b h = h tt
or_in false b h = tt

-- ---- limits
least_zero : (n : ℕ) → int_min (pos 0) (pos n) ≡ pos 0
least_zero n = ap (λ t. cond t (pos n) (pos 0)) (leb-suc-zero n)

most_zero : (n : ℕ) → int_max (pos 0) (pos n) ≡ pos n
most_zero n = ap (λ t. cond t (pos 0) (pos n)) (leb-suc-zero n)

module _ (m : Meaning) where
  pub demand_bounds : (a : ℕ) (d x : ℤ) → T (satisfied_allowed d x) → InBounds (demand_item m a d) x
  demand_bounds a (pos n) x h =
      let both = T_and (le_z (int_min (pos 0) (pos n)) x) (le_z x (int_max (pos 0) (pos n))) h in
      (record { le = subst (λ z. T (le_z z x)) (least_zero n) both.0 }, record { le = subst (λ z. T (le_z x z)) (most_zero n) both.1 })
  demand_bounds a (negsuc n) x h =
      let both = T_and (le_z (negsuc n) x) (le_z x (pos 0)) h in (record { le = both.0 }, record { le = both.1 })

  pub bounds_demand : (a : ℕ) (d x : ℤ) → InBounds (demand_item m a d) x → T (satisfied_allowed d x)
  bounds_demand a (pos n) x h =
      and_T (le_z (int_min (pos 0) (pos n)) x) (le_z x (int_max (pos 0) (pos n))) (subst (λ z. T (le_z z x)) (sym (least_zero n)) h.0.le) (subst (λ z. T (le_z x z)) (sym (most_zero n)) h.1.le)
  bounds_demand a (negsuc n) x h = and_T (le_z (negsuc n) x) (le_z x (pos 0)) h.0.le h.1.le

  pub flow_bounds : (b : Border) (x : ℤ) → T (flow_allowed b x) → InBounds (border_item m b) x
  flow_bounds b x h =
      let both = T_and (le_z (neg_ℤ (pos b.backward)) x) (le_z x (pos b.forward)) h in (record { le = both.0 }, record { le = both.1 })

  pub bounds_flow : (b : Border) (x : ℤ) → InBounds (border_item m b) x → T (flow_allowed b x)
  bounds_flow b x h = and_T (le_z (neg_ℤ (pos b.backward)) x) (le_z x (pos b.forward)) h.0.le h.1.le

  bid_bounds_of : (d : Direction) (area volume : ℕ) (price : ℤ) (x : ℕ) → T (leb x volume) → InBounds (bid_item_of m d area volume price) (pos x)
  bid_bounds_of Up area volume price x h = (record { le = subst T (sym (leb-zero x)) tt }, record { le = h })
  bid_bounds_of Down area volume price x h = (record { le = subst T (sym (leb-zero x)) tt }, record { le = h })

  pub bid_bounds : (b : Bid) (x : ℕ) → T (activated_allowed b x) → InBounds (bid_item m b) (pos x)
  bid_bounds b x h = bid_bounds_of b.direction b.area b.volume b.price x h

  bounds_bid_of : (d : Direction) (area volume : ℕ) (price : ℤ) (x : ℕ) → InBounds (bid_item_of m d area volume price) (pos x) → T (leb x volume)
  bounds_bid_of Up area volume price x h = h.1.le
  bounds_bid_of Down area volume price x h = h.1.le

  pub bounds_bid : (b : Bid) (x : ℕ) → InBounds (bid_item m b) (pos x) → T (activated_allowed b x)
  bounds_bid b x h = bounds_bid_of b.direction b.area b.volume b.price x h

  bid_least_of : (d : Direction) (area volume : ℕ) (price z : ℤ) → InBounds (bid_item_of m d area volume price) z → z ≡ pos (nat_abs z)
  bid_least_of Up area volume price (pos k) h = refl
  bid_least_of Up area volume price (negsuc k) h = absurd (omega (arith, ints, h.0))
  bid_least_of Down area volume price (pos k) h = refl
  bid_least_of Down area volume price (negsuc k) h = absurd (omega (arith, ints, h.0))

  -- an amount within a bid's bounds is not negative
  pub bid_least : (b : Bid) (z : ℤ) → InBounds (bid_item m b) z → z ≡ pos (nat_abs z)
  bid_least b z h = bid_least_of b.direction b.area b.volume b.price z h

  -- ---- the ends of the items
  demands_known : (n a : ℕ) (ds : List ℤ) → a + length ds ≤ n → AllByRecursion (Known (suc n)) (demand_items m a ds)
  demands_known n a [] h = tt
  demands_known n a (pos d ∷ ds) h = ((omega arith, omega arith), demands_known n (suc a) ds (omega arith))
  demands_known n a (negsuc d ∷ ds) h = ((omega arith, omega arith), demands_known n (suc a) ds (omega arith))

  border_known : (n : ℕ) (b : Border) → T (ends_known n b) → Known (suc n) (border_item m b)
  border_known n b h =
      let ends = T_and (ltb b.from n) (ltb b.to n && not (eqb b.from b.to)) h in
      let f : b.from < n = ltb→lt b.from n ends.0 in
      let t : b.to < n = ltb→lt b.to n (T_and (ltb b.to n) (not (eqb b.from b.to)) ends.1).0 in
      (omega arith, omega arith)

  bid_known_of : (n : ℕ) (d : Direction) (area volume : ℕ) (price : ℤ) → area < n → Known (suc n) (bid_item_of m d area volume price)
  bid_known_of n Up area volume price h = (omega arith, omega arith)
  bid_known_of n Down area volume price h = (omega arith, omega arith)

  pub items_known : (c : Case) → Valid c → AllByRecursion (Known (suc (areas c))) (items m c)
  items_known c valid =
      All-append (Known (suc (areas c))) (demand_items m 0 c.demands) (map (border_item m) c.borders ++ map (bid_item m) c.bids)
      (demands_known (areas c) 0 c.demands (omega arith))
      (All-append (Known (suc (areas c))) (map (border_item m) c.borders) (map (bid_item m) c.bids)
      (All-map (Known (suc (areas c))) (border_item m) c.borders
      (All-weaker (λ b. T (ends_known (areas c) b)) (λ b. Known (suc (areas c)) (border_item m b)) (border_known (areas c)) c.borders valid.borders_known))
      (All-map (Known (suc (areas c))) (bid_item m) c.bids
      (All-weaker (λ b. T (bid_known (areas c) b)) (λ b. Known (suc (areas c)) (bid_item m b))
      (λ b h. bid_known_of (areas c) b.direction b.area b.volume b.price (ltb→lt b.area (areas c) h)) c.bids valid.bids_known)))

-- ---- fitting
limits_out : (low high x : ℤ) (wb wa : Bool) (P Q : Type 0) → (T wb → P) → (T wa → Q) → T (at_limits (lt_z x high) (lt_z low x) wb wa) → (x <ℤ high → P) × (low <ℤ x → Q)
limits_out low high x wb wa P Q f g h =
    let both = T_and (not (lt_z x high) || wb) (not (lt_z low x) || wa) h in
    (λ l. f (or_out (lt_z x high) wb both.0 l.lt), λ l. g (or_out (lt_z low x) wa both.1 l.lt))

limits_in : (low high x : ℤ) (wb wa : Bool) (P Q : Type 0) → (P → T wb) → (Q → T wa) → (x <ℤ high → P) × (low <ℤ x → Q) → T (at_limits (lt_z x high) (lt_z low x) wb wa)
limits_in low high x wb wa P Q f g h =
    and_T (not (lt_z x high) || wb) (not (lt_z low x) || wa) (or_in (lt_z x high) wb (λ t. f (h.0 (record { lt = t })))) (or_in (lt_z low x) wa (λ t. g (h.1 (record { lt = t }))))

-- p is the price of each node, and the ground's is zero
module _ (m : Meaning) (laws : Laws m) (p : ℕ → m.Value) (ground : p 0 ≡ m.zero) where
  abbrev G : Group
  G = of_meaning m laws

  -- at the ground: zero ≤ u + q and u + q ≤ zero
  gives : (u q : m.Value) → T (at_least m (m.plus u q) m.zero) → Leq G (p 0) (m.plus q u)
  gives u q h = subst₂ (Leq G) (sym ground) (laws.plus_comm u q) (T_not (m.less (m.plus u q) m.zero) h)

  gives_back : (u q : m.Value) → Leq G (p 0) (m.plus q u) → T (at_least m (m.plus u q) m.zero)
  gives_back u q h = not_T (m.less (m.plus u q) m.zero) (subst₂ (Leq G) ground (laws.plus_comm q u) h)

  takes : (u q : m.Value) → T (at_most m (m.plus u q) m.zero) → Leq G (m.plus q u) (p 0)
  takes u q h = subst₂ (Leq G) (laws.plus_comm u q) (sym ground) (T_not (m.less m.zero (m.plus u q)) h)

  takes_back : (u q : m.Value) → Leq G (m.plus q u) (p 0) → T (at_most m (m.plus u q) m.zero)
  takes_back u q h = not_T (m.less m.zero (m.plus u q)) (subst₂ (Leq G) (laws.plus_comm q u) ground h)

  onto : (u : m.Value) → m.plus (p 0) u ≡ u
  onto u = ap (λ t. m.plus t u) ground ∙ laws.zero_plus u

  less_of : (t q : m.Value) → m.plus (m.plus q (m.opposite t)) t ≡ m.plus q m.zero
  less_of t q = solve G (t ∷ q ∷ []) ((var 1 ⊕ neg (var 0)) ⊕ var 0) (var 1 ⊕ nil) tt

  more_of : (t q : m.Value) → m.plus m.zero q ≡ m.plus t (m.plus q (m.opposite t))
  more_of t q = solve G (t ∷ q ∷ []) (nil ⊕ var 1) (var 0 ⊕ (var 1 ⊕ neg (var 0))) tt

  back_less : (t q : m.Value) → m.plus q m.zero ≡ m.plus (m.plus q (m.opposite t)) t
  back_less t q = sym (less_of t q)

  pub demand_fitting : (a : ℕ) (d x : ℤ) → InBounds (demand_item m a d) x → T (demand_fits m d x (p (suc a))) → Fitting G p (demand_item m a d) x
  demand_fitting a (pos zero) x b h = (λ l. absurd (omega (arith, ints, b.0)), λ l. absurd (omega (arith, ints, b.1)))
  demand_fitting a (pos (suc d)) x b h =
      limits_out (pos 0) (pos (suc d)) x (at_least m (m.plus m.satisfied (p (suc a))) m.zero) (at_most m (m.plus m.satisfied (p (suc a))) m.zero)
      (Leq G (p 0) (m.plus (p (suc a)) m.satisfied)) (Leq G (m.plus (p (suc a)) m.satisfied) (p 0)) (gives m.satisfied (p (suc a))) (takes m.satisfied (p (suc a))) h
  demand_fitting a (negsuc d) x b h =
      let t = m.satisfied in
      let q = p (suc a) in
      let both = T_and (not (lt_z (negsuc d) x) || at_least m t q) (not (lt_z x (pos 0)) || at_most m t q) h in (
        λ l. subst (λ v. Leq G v (m.plus q (m.opposite t))) (sym ground)
            (leq_shift G t q m.zero (m.plus q (m.opposite t)) (T_not (m.less q t) (or_out (lt_z x (pos 0)) (at_most m t q) both.1 l.lt)) (more_of t q)),
        λ l. subst (Leq G (m.plus q (m.opposite t))) (sym ground)
            (leq_shift G q t (m.plus q (m.opposite t)) m.zero (T_not (m.less t q) (or_out (lt_z (negsuc d) x) (at_least m t q) both.0 l.lt)) (less_of t q)),
      )

  pub fitting_demand : (a : ℕ) (d x : ℤ) → Fitting G p (demand_item m a d) x → T (demand_fits m d x (p (suc a)))
  fitting_demand a (pos zero) x h = tt
  fitting_demand a (pos (suc d)) x h =
      limits_in (pos 0) (pos (suc d)) x (at_least m (m.plus m.satisfied (p (suc a))) m.zero) (at_most m (m.plus m.satisfied (p (suc a))) m.zero)
      (Leq G (p 0) (m.plus (p (suc a)) m.satisfied)) (Leq G (m.plus (p (suc a)) m.satisfied) (p 0)) (gives_back m.satisfied (p (suc a))) (takes_back m.satisfied (p (suc a))) h
  fitting_demand a (negsuc d) x h =
      let t = m.satisfied in
      let q = p (suc a) in
      and_T (not (lt_z (negsuc d) x) || at_least m t q) (not (lt_z x (pos 0)) || at_most m t q)
      (or_in (lt_z (negsuc d) x) (at_least m t q)
      (λ l. not_T (m.less t q) (leq_shift G (m.plus q (m.opposite t)) m.zero q t (subst (Leq G (m.plus q (m.opposite t))) ground (h.1 (record { lt = l }))) (back_less t q))))
      (or_in (lt_z x (pos 0)) (at_most m t q)
      (λ l. not_T (m.less q t) (leq_shift G m.zero (m.plus q (m.opposite t)) t q (subst (λ v. Leq G v (m.plus q (m.opposite t))) ground (h.0 (record { lt = l }))) (sym (more_of t q)))))

  pub border_fitting : (b : Border) (x : ℤ) → T (border_fits m b x (p (suc b.from)) (p (suc b.to))) → Fitting G p (border_item m b) x
  border_fitting b x h =
      let f = p (suc b.from) in
      let t = p (suc b.to) in
      limits_out (neg_ℤ (pos b.backward)) (pos b.forward) x (at_least m f t) (at_most m f t) (Leq G t (m.plus f m.zero)) (Leq G (m.plus f m.zero) t)
      (λ k. subst (Leq G t) (sym (plus_zero G f)) (T_not (m.less f t) k)) (λ k. subst (λ v. Leq G v t) (sym (plus_zero G f)) (T_not (m.less t f) k)) h

  pub fitting_border : (b : Border) (x : ℤ) → Fitting G p (border_item m b) x → T (border_fits m b x (p (suc b.from)) (p (suc b.to)))
  fitting_border b x h =
      let f = p (suc b.from) in
      let t = p (suc b.to) in
      limits_in (neg_ℤ (pos b.backward)) (pos b.forward) x (at_least m f t) (at_most m f t) (Leq G t (m.plus f m.zero)) (Leq G (m.plus f m.zero) t)
      (λ k. not_T (m.less f t) (subst (Leq G t) (plus_zero G f) k)) (λ k. not_T (m.less t f) (subst (λ v. Leq G v t) (plus_zero G f) k)) h

  pub bid_fitting : (d : Direction) (area volume : ℕ) (price : ℤ) (x : ℕ) → T (bid_priced m d (bid_cost m d price) (p (suc area)) (ltb x volume) (ltb 0 x)) → Fitting G p (bid_item_of m d area volume price) (pos x)
  bid_fitting Up area volume price x h =
      let u = m.up price in
      let q = p (suc area) in
      limits_out (pos 0) (pos volume) (pos x) (at_least m u q) (at_most m u q) (Leq G q (m.plus (p 0) u)) (Leq G (m.plus (p 0) u) q)
      (λ k. subst (Leq G q) (sym (onto u)) (T_not (m.less u q) k)) (λ k. subst (λ v. Leq G v q) (sym (onto u)) (T_not (m.less q u) k)) h
  bid_fitting Down area volume price x h =
      let u = m.down price in
      let q = p (suc area) in
      limits_out (pos 0) (pos volume) (pos x) (at_least m (m.plus u q) m.zero) (at_most m (m.plus u q) m.zero) (Leq G (p 0) (m.plus q u)) (Leq G (m.plus q u) (p 0))
      (gives u q) (takes u q) h

  pub fitting_bid : (d : Direction) (area volume : ℕ) (price : ℤ) (x : ℕ) → Fitting G p (bid_item_of m d area volume price) (pos x) → T (bid_priced m d (bid_cost m d price) (p (suc area)) (ltb x volume) (ltb 0 x))
  fitting_bid Up area volume price x h =
      let u = m.up price in
      let q = p (suc area) in
      limits_in (pos 0) (pos volume) (pos x) (at_least m u q) (at_most m u q) (Leq G q (m.plus (p 0) u)) (Leq G (m.plus (p 0) u) q)
      (λ k. not_T (m.less u q) (subst (Leq G q) (onto u) k)) (λ k. not_T (m.less q u) (subst (λ v. Leq G v q) (onto u) k)) h
  fitting_bid Down area volume price x h =
      let u = m.down price in
      let q = p (suc area) in
      limits_in (pos 0) (pos volume) (pos x) (at_least m (m.plus u q) m.zero) (at_most m (m.plus u q) m.zero) (Leq G (p 0) (m.plus q u)) (Leq G (m.plus q u) (p 0))
      (gives_back u q) (takes_back u q) h
