-- Every unbeaten selection has prices, in range, that fit it. Assumes nothing.
--
-- Nodes are the areas and the ground. Each item that can still grow by a kilowatt is an arc from its tail to its head at its unit cost,
-- each that can fall an arc back at the opposite, and an arc wishes that its end be worth at most its start and the cost.
-- Let the price of a node be the least cost of a walk from the ground that enters no node twice. If an arc undercuts a price, the best
-- walk to the arc's start passes the arc's end, and what it does after that closes with the arc into a cycle of negative cost that
-- enters no node twice. One kilowatt moved along that cycle stays within the limits, keeps every balance, and costs less: a
-- selection that beats this one. So in an unbeaten selection no arc undercuts, and that is what fitting means.
-- In range: give every area one more arc from the ground, at the largest lower bound that a walk into the ground asks. It makes no
-- negative cycle, and borders cost nothing, so each price is zero, one unit cost, or the opposite of one.
use Rattle.std.proofs.Common.{◌≡◌, ℕ, zero, suc, ◌+◌, ◌<◌, not, ◌&&◌, T, eqb, ltb, leb, ◌⊎◌, List, [], ◌∷◌, ◌++◌, map, length, get_or, ℤ, pos, negsuc, nat_abs, sym, refl, ap, ◌∙◌, subst, ap₂, subst₂, inl, inr, arith, ltb→lt}
use lib.Signed.{le_z}
use Rattle.std.specs.List.{range_with_len, AllByRecursion}
use Rattle.std.proofs.lemmas.List.{length-map}
use Rattle.std.proofs.lemmas.List.FromFn.{length-map-range_with_len, get_or-map-range_with_len}
use Rattle.std.proofs.ByRecursion.{All-append, All-map, All-weaker, All-get_or}
use Rattle.scale.specs.Meaning.{Meaning, Laws, BidPrice, UnitCost, of_satisfied, of_up, of_down, SignedCost, cost, gain, sum}
use Rattle.market.specs.declared.trade.Direction.{Direction}
use Rattle.market.specs.declared.trade.Direction.TheVariants.{Up, Down}
use Rattle.market.specs.declared.trade.Border.{Border}
use Rattle.market.specs.declared.trade.Bid.{Bid}
use Rattle.market.specs.Cases.{Case, areas, Valid, ends_known, bid_known, bid_in_range}
use Rattle.market.specs.Selections.{Selection, WithinLimits}
use Rattle.market.specs.Totals.{bid_cost, Beats}
use Rattle.market.specs.Prices.{Fits, demand_fits, border_fits, bid_priced}
use Rattle.optimality.specs.Theorem.{UnbeatenHasPrices}
use Rattle.optimality.proofs.Groups.{Group, Less, plus_zero}
use Rattle.optimality.proofs.Multiples.{opposite_twice, opposite_zero}
use Rattle.optimality.proofs.Families.{whole, gather_same, Each, shift}
use Rattle.optimality.proofs.Items.{Item, effect, net_at, InBounds, Fitting, each_right, each_same}
use Rattle.optimality.proofs.Book.{of_meaning, demand_item, demand_items, border_item, bid_item_of, bid_item, items, listed, amounts}
use Rattle.optimality.proofs.Sums.{Sized, total_is, net_none, net_balances, length_demand_items}
use Rattle.optimality.proofs.Rules.{T_and, bounds_demand, bounds_flow, bounds_bid, bid_least, fitting_demand, fitting_border, fitting_bid, items_known}
use Rattle.optimality.proofs.Records.{to_records}
use Rattle.optimality.proofs.Moves.{Better}
use Rattle.optimality.proofs.Grounded.{Made, sum_of}
use Rattle.optimality.proofs.BestHasPrices.{Costs, Fitted, fitted_or_better}
use Rattle.optimality.proofs.FittingIsUnbeaten.{sized, in_bounds}

-- ---- a list of the amounts at the places of a list
abbrev spread : {I : Type 0} → List I → (ℕ → ℤ) → List ℤ
spread [] x = []
spread (i ∷ is) x = x 0 ∷ spread is (λ k. x (suc k))

length_spread : {I : Type 0} (is : List I) (x : ℕ → ℤ) → length (spread is x) ≡ length is
length_spread [] x = refl
length_spread (i ∷ is) x = ap suc (length_spread is (λ k. x (suc k)))

spread_append : {I : Type 0} (is js : List I) (x : ℕ → ℤ) → spread (is ++ js) x ≡ spread is x ++ spread js (shift is x)
spread_append [] js x = refl
spread_append (i ∷ is) js x = ap (λ t. x 0 ∷ t) (spread_append is js (λ k. x (suc k)))

listed_spread : {I : Type 0} (is : List I) (x : ℕ → ℤ) (k : ℕ) → k < length is → listed (spread is x) k ≡ x k
listed_spread [] x k h = absurd (omega arith)
listed_spread (i ∷ is) x zero h = refl
listed_spread (i ∷ is) x (suc k) h = listed_spread is (λ j. x (suc j)) k (omega arith)

-- ---- the selection that has given amounts
module _ (m : Meaning) (c : Case) (x : ℕ → ℤ) where
  abbrev ds : List (Item m.Value)
  ds = demand_items m 0 c.demands

  abbrev bs : List (Item m.Value)
  bs = map (border_item m) c.borders

  abbrev us : List (Item m.Value)
  us = map (bid_item m) c.bids

  abbrev chosen : Selection
  chosen =
      record {
        satisfied = spread ds x;
        flows = spread bs (shift ds x);
        activated = map nat_abs (spread us (shift bs (shift ds x)));
      }

  chosen_sized : Sized c chosen
  chosen_sized =
      record {
        satisfied_count = length_spread ds x ∙ length_demand_items m 0 c.demands;
        flows_count = length_spread bs (shift ds x) ∙ length-map c.borders (border_item m);
        activated_count =
            length-map (spread us (shift bs (shift ds x))) nat_abs ∙ length_spread us (shift bs (shift ds x)) ∙ length-map c.bids (bid_item m);
      }

module _ (m : Meaning) where
  back_again : (us : List Bid) (x : ℕ → ℤ) → Each InBounds (map (bid_item m) us) x → map pos (map nat_abs (spread (map (bid_item m) us) x)) ≡ spread (map (bid_item m) us) x
  back_again [] x h = refl
  back_again (u ∷ us) x h =
      ap₂ (λ a b. a ∷ b) (sym (bid_least m u (x 0) (h 0 (bid_item m u) (omega arith)))) (back_again us (λ k. x (suc k)) (λ k d l. h (suc k) d (omega arith)))

  chosen_amounts : (c : Case) (x : ℕ → ℤ) → Each InBounds (items m c) x → amounts (chosen m c x) ≡ listed (spread (items m c) x)
  chosen_amounts c x h =
      ap (λ t. listed (spread (ds m c x) x ++ (spread (bs m c x) (shift (ds m c x) x) ++ t)))
      (back_again c.bids (shift (bs m c x) (shift (ds m c x) x)) (each_right InBounds (bs m c x) (us m c x) (shift (ds m c x) x) (each_right InBounds (ds m c x) (bs m c x ++ us m c x) x h)))
      ∙ ap listed (sym (spread_append (ds m c x) (bs m c x ++ us m c x) x ∙ ap (λ t. spread (ds m c x) x ++ t) (spread_append (bs m c x) (us m c x) (shift (ds m c x) x))))

  -- the selection has those amounts
  chosen_at : (c : Case) (x : ℕ → ℤ) → Each InBounds (items m c) x → (k : ℕ) → k < length (items m c) → amounts (chosen m c x) k ≡ x k
  chosen_at c x h k l = ap (λ f. f k) (chosen_amounts c x h) ∙ listed_spread (items m c) x k l

  chosen_within : (c : Case) (x : ℕ → ℤ) → Each InBounds (items m c) x → ((a : ℕ) → a < areas c → net_at (items m c) x (suc a) ≡ pos 0) → WithinLimits c (chosen m c x)
  chosen_within c x h net =
      let y = chosen m c x in
      let fits = chosen_sized m c x in
      let r = to_records m InBounds c y fits (each_same InBounds (items m c) x (amounts y) (λ k l. sym (chosen_at c x h k l)) h) in
      record {
        satisfied_count = fits.satisfied_count;
        flows_count = fits.flows_count;
        activated_count = fits.activated_count;
        satisfied_ok = λ a l. bounds_demand m a (get_or c.demands a (pos 0)) (get_or y.satisfied a (pos 0)) (r.demands a l);
        flows_ok = λ k d l. bounds_flow m (get_or c.borders k d) (get_or y.flows k (pos 0)) (r.borders k d l);
        activated_ok = λ k d l. bounds_bid m (get_or c.bids k d) (get_or y.activated k 0) (r.bids k d l);
        balanced = λ a l.
            net_balances m c y a fits l (gather_same whole (λ i. effect i (suc a)) (items m c) (amounts y) x (chosen_at c x h) ∙ net a l);
      }

module _ (m : Meaning) (laws : Laws m) where
  abbrev G : Group
  G = of_meaning m laws

  -- better amounts make a selection that beats
  beats : (c : Case) (s : Selection) → WithinLimits c s → (b : Better G (items m c) (amounts s)) → Beats m c (chosen m c b.amount) s
  beats c s within b =
      let y = chosen m c b.amount in
      let same = chosen_at m c b.amount b.within in
      record {
        within = chosen_within m c b.amount b.within (λ a l. b.balanced (suc a) ∙ net_none m c s a (sized c s within) l (within.balanced a l));
        smaller =
            subst₂ (Less G)
            (sym (total_is m laws c y (chosen_sized m c b.amount) (each_same InBounds (items m c) b.amount (amounts y) (λ k l. sym (same k l)) b.within)
            ∙ gather_same G (λ i. i.cost) (items m c) (amounts y) b.amount same))
            (sym (total_is m laws c s (sized c s within) (in_bounds m c s within))) b.cheaper;
      }

  -- ---- the costs of the items: unit costs at the ground, zero at borders
  abbrev Zero : m.Value → Type 0
  Zero v = v ≡ m.zero

  abbrev Ok : Item m.Value → Type 0
  Ok = Costs G (SignedCost m) Zero

  unit_both : (v : m.Value) → UnitCost m v → SignedCost m v × SignedCost m (m.opposite v)
  unit_both v u = (cost v u, gain v u)

  gain_both : (v : m.Value) → UnitCost m v → SignedCost m (m.opposite v) × SignedCost m (m.opposite (m.opposite v))
  gain_both v u = (gain v u, subst (SignedCost m) (sym (opposite_twice G v)) (cost v u))

  demand_costs : (a : ℕ) (ds : List ℤ) → AllByRecursion Ok (demand_items m a ds)
  demand_costs a [] = tt
  demand_costs a (pos d ∷ ds) = (
    record { at_tail = λ e. unit_both m.satisfied of_satisfied; at_head = λ e. unit_both m.satisfied of_satisfied; between = λ t h. absurd (h refl) },
    demand_costs (suc a) ds,
  )
  demand_costs a (negsuc d ∷ ds) = (
    record { at_tail = λ e. gain_both m.satisfied of_satisfied; at_head = λ e. gain_both m.satisfied of_satisfied; between = λ t h. absurd (h refl) },
    demand_costs (suc a) ds,
  )

  border_costs : (b : Border) → Ok (border_item m b)
  border_costs b = record { at_tail = λ e. absurd (omega arith); at_head = λ e. absurd (omega arith); between = λ t h. (refl, opposite_zero G) }

  bid_costs_of : (d : Direction) (area volume : ℕ) (price : ℤ) → BidPrice price → Ok (bid_item_of m d area volume price)
  bid_costs_of Up area volume price h =
      record { at_tail = λ e. unit_both (m.up price) (of_up price h); at_head = λ e. unit_both (m.up price) (of_up price h); between = λ t k. absurd (t refl) }
  bid_costs_of Down area volume price h =
      record { at_tail = λ e. unit_both (m.down price) (of_down price h); at_head = λ e. unit_both (m.down price) (of_down price h); between = λ t k. absurd (k refl) }

  bid_costs : (b : Bid) → T (bid_in_range b) → Ok (bid_item m b)
  bid_costs b h =
      let p = T_and (le_z (negsuc 9999899) b.price) (le_z b.price (pos 9999900)) (T_and (leb b.volume 9999000) (le_z (negsuc 9999899) b.price && le_z b.price (pos 9999900)) h).1 in
      bid_costs_of b.direction b.area b.volume b.price (record { least = record { le = p.0 }; most = record { le = p.1 } })

  items_costs : (c : Case) → Valid c → AllByRecursion Ok (items m c)
  items_costs c valid =
      All-append Ok (demand_items m 0 c.demands) (map (border_item m) c.borders ++ map (bid_item m) c.bids) (demand_costs 0 c.demands)
      (All-append Ok (map (border_item m) c.borders) (map (bid_item m) c.bids)
      (All-map Ok (border_item m) c.borders (All-weaker (λ b. T (ends_known (areas c) b)) (λ b. Ok (border_item m b)) (λ b _. border_costs b) c.borders valid.borders_known))
      (All-map Ok (bid_item m) c.bids (All-weaker (λ b. T (bid_in_range b)) (λ b. Ok (bid_item m b)) bid_costs c.bids valid.bids_in_range)))

  -- a value so made is in range
  sum_is : (vs : List m.Value) → sum_of G vs ≡ sum m vs
  sum_is [] = refl
  sum_is (v ∷ vs) = ap (m.plus v) (sum_is vs)

  sum_zero : (vs : List m.Value) → AllByRecursion Zero vs → sum_of G vs ≡ m.zero
  sum_zero [] h = refl
  sum_zero (v ∷ vs) h = ap₂ m.plus h.0 (sum_zero vs h.1) ∙ laws.zero_plus m.zero

  ranged : (k : ℕ) (v : m.Value) → Made G (SignedCost m) Zero k v → T (m.in_range v)
  ranged k v r =
      subst (λ x. T (m.in_range x)) (sym (r.is ∙ ap₂ m.plus (sum_is r.outer) (sum_zero r.inner r.inner_costs) ∙ plus_zero G (sum m r.outer)))
      (laws.sums_in_range r.outer r.outer_costs (omega (arith, r.few_outer)))

  -- ---- the prices
  abbrev priced : (c : Case) → (ℕ → m.Value) → List m.Value
  priced c p = map (λ a. p (suc a)) (range_with_len 0 (areas c))

  price_of : (c : Case) (p : ℕ → m.Value) (a : ℕ) → a < areas c → get_or (priced c p) a m.zero ≡ p (suc a)
  price_of c p a h = get_or-map-range_with_len (λ i. p (suc i)) 0 (areas c) a a m.zero h (omega arith)

  from_known : (n : ℕ) (b : Border) → T (ends_known n b) → b.from < n
  from_known n b h = ltb→lt b.from n (T_and (ltb b.from n) (ltb b.to n && not (eqb b.from b.to)) h).0

  to_known : (n : ℕ) (b : Border) → T (ends_known n b) → b.to < n
  to_known n b h = ltb→lt b.to n (T_and (ltb b.to n) (not (eqb b.from b.to)) (T_and (ltb b.from n) (ltb b.to n && not (eqb b.from b.to)) h).1).0

  fits : (c : Case) → Valid c → (s : Selection) → WithinLimits c s → (f : Fitted G (SignedCost m) Zero (items m c) (areas c) (amounts s)) → Fits m c s (priced c f.price)
  fits c valid s within f =
      let p = f.price in
      let r = to_records m (Fitting G p) c s (sized c s within) f.fitting in
      record {
        prices_count = length-map-range_with_len (λ a. p (suc a)) 0 (areas c);
        in_range = λ a h. subst (λ x. T (m.in_range x)) (sym (price_of c p a h)) (ranged (areas c + areas c) (p (suc a)) (f.made (suc a) (omega arith)));
        demands = λ a h.
            subst (λ q. T (demand_fits m (get_or c.demands a (pos 0)) (get_or s.satisfied a (pos 0)) q)) (sym (price_of c p a h))
            (fitting_demand m laws p f.at_ground a (get_or c.demands a (pos 0)) (get_or s.satisfied a (pos 0)) (r.demands a h));
        borders = λ k d h.
            let b = get_or c.borders k d in
            let known = All-get_or (λ b. T (ends_known (areas c) b)) c.borders k d h valid.borders_known in
            subst₂ (λ q t. T (border_fits m b (get_or s.flows k (pos 0)) q t)) (sym (price_of c p b.from (from_known (areas c) b known))) (sym (price_of c p b.to (to_known (areas c) b known)))
            (fitting_border m laws p f.at_ground b (get_or s.flows k (pos 0)) (r.borders k d h));
        bids = λ k d h.
            let b = get_or c.bids k d in
            let x = get_or s.activated k 0 in
            let known = ltb→lt b.area (areas c) (All-get_or (λ b. T (bid_known (areas c) b)) c.bids k d h valid.bids_known) in
            subst (λ q. T (bid_priced m b.direction (bid_cost m b.direction b.price) q (ltb x b.volume) (ltb 0 x))) (sym (price_of c p b.area known))
            (fitting_bid m laws p f.at_ground b.direction b.area b.volume b.price x (r.bids k d h));
      }

  pub unbeaten_has_prices : UnbeatenHasPrices m
  unbeaten_has_prices c valid s best =
      go (fitted_or_better G (items m c) (demand_item m 0 (pos 0)) (amounts s) (SignedCost m) Zero (areas c) (items_costs c valid) (items_known m c valid) (in_bounds m c s best.within))
    where
      go : Fitted G (SignedCost m) Zero (items m c) (areas c) (amounts s) ⊎ Better G (items m c) (amounts s) → (prices : List m.Value) × Fits m c s prices
      go (inl f) = (priced c f.price, fits c valid s best.within f)
      go (inr b) = absurd (best.best (chosen m c b.amount) (beats c s best.within b))
