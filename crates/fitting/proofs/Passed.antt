-- What a yes of the fitting test means: the selection is within the limits and the prices fit it; and the other way round. Assumes nothing.
use Rattle.std.proofs.Common.{◌≡◌, ℕ, ◌<◌, Bool, true, false, ◌&&◌, T, List, length, get_or, ℤ, ◌≤ℤ◌, is_some, Some, None, Ok, Option, unwrap_or, sym, refl, ap, ◌∙◌, subst, arith, ltb→lt}
use lib.Signed.{le_z}
use Rattle.std.proofs.lemmas.List.FromFn.{length-map-range_with_len, get_or-map-range_with_len}
use Rattle.std.proofs.ByRecursion.{All-get_or}
use Rattle.std.proofs.lemmas.List.{get_or_default}
use Rattle.std.proofs.lemmas.Int.{ints}
use Rattle.std.proofs.lemmas.Bool.{and_parts}
use Rattle.scale.specs.Meaning.{Meaning}
use Rattle.market.specs.declared.trade.Border.{Border}
use Rattle.market.specs.declared.trade.Bid.{Bid}
use Rattle.market.specs.Cases.{Case, Valid, areas, demand_at, border_at, bid_at, no_border, no_bid, ends_known, bid_known}
use Rattle.market.specs.Selections.{Selection, WithinLimits, satisfied_allowed, flow_allowed, activated_allowed}
use Rattle.market.specs.Prices.{Fits, demand_fits, border_fits, bid_fits}
use Rattle.market.proofs.Firsts.{all_from_ask, ask_all, both_from_and_then, and_then_both}
use Rattle.fitting.specs.Judged.{OneForEach, satisfied_at, flow_at, activated_at, balances, demand_priced, border_priced, bid_priced, prices_of, judged}

-- a test that is true
pub so : (b : Bool) → b ≡ true → T b
so true e = tt
so false e = absurd (let z : ◌≡◌ {A = ℕ} 0 1 = cc in omega arith)

pub yes_so : (b : Bool) → T b → b ≡ true
yes_so true t = refl
yes_so false t = absurd t

-- the eight questions, each by what it passes
pub record Passed (m : Meaning) (c : Case) (s : Selection) (price : ℕ → Option m.Value) : Type 0 where
  pub satisfied : (a : ℕ) → a < areas c → satisfied_allowed (demand_at c a) (satisfied_at s a) ≡ true
  pub flows : (k : ℕ) → k < length c.borders → flow_allowed (border_at c k) (flow_at s k) ≡ true
  pub activated : (k : ℕ) → k < length c.bids → activated_allowed (bid_at c k) (activated_at s k) ≡ true
  pub balanced : (a : ℕ) → a < areas c → balances c s a ≡ true
  pub priced : (a : ℕ) → a < areas c → is_some (price a) ≡ true
  pub demands : (a : ℕ) → a < areas c → demand_priced m (demand_at c a) (satisfied_at s a) (price a) ≡ true
  pub borders : (k : ℕ) → k < length c.borders → border_priced m (border_at c k) (flow_at s k) (price (border_at c k).from) (price (border_at c k).to) ≡ true
  pub bids : (k : ℕ) → k < length c.bids → bid_priced m (bid_at c k) (activated_at s k) (price (bid_at c k).area) ≡ true

pub passed_from_judged : (m : Meaning) (c : Case) (s : Selection) (price : ℕ → Option m.Value) → judged m c s price ≡ Ok tt → Passed m c s price
passed_from_judged m c s price e =
    let q10 = both_from_and_then _ _ e in
    let q11 = both_from_and_then _ _ q10.1 in
    let q12 = both_from_and_then _ _ q11.1 in
    let q13 = both_from_and_then _ _ q12.1 in
    let q14 = both_from_and_then _ _ q13.1 in
    let q15 = both_from_and_then _ _ q14.1 in
    let q16 = both_from_and_then _ _ q15.1 in
    record {
      satisfied = all_from_ask _ _ _ q10.0;
      flows = all_from_ask _ _ _ q11.0;
      activated = all_from_ask _ _ _ q12.0;
      balanced = all_from_ask _ _ _ q13.0;
      priced = all_from_ask _ _ _ q14.0;
      demands = all_from_ask _ _ _ q15.0;
      borders = all_from_ask _ _ _ q16.0;
      bids = all_from_ask _ _ _ q16.1;
    }

pub judged_passed : (m : Meaning) (c : Case) (s : Selection) (price : ℕ → Option m.Value) → Passed m c s price → judged m c s price ≡ Ok tt
judged_passed m c s price p =
    and_then_both _ _ (ask_all _ _ _ p.satisfied)
    (and_then_both _ _ (ask_all _ _ _ p.flows)
    (and_then_both _ _ (ask_all _ _ _ p.activated)
    (and_then_both _ _ (ask_all _ _ _ p.balanced)
    (and_then_both _ _ (ask_all _ _ _ p.priced)
    (and_then_both _ _ (ask_all _ _ _ p.demands)
    (and_then_both _ _ (ask_all _ _ _ p.borders)
    (ask_all _ _ _ p.bids)))))))

-- two whole numbers that are at most each other are the same
same_by_order : (x y : ℤ) → (le_z x y && le_z y x) ≡ true → x ≡ y
same_by_order x y e = let t = so _ e in both (le_z x y) (le_z y x) refl refl t
  where
    both : (p q : Bool) → le_z x y ≡ p → le_z y x ≡ q → T (p && q) → x ≡ y
    both true true a b t =
        let le : x ≤ℤ y = record { le = so _ a } in
        let ge : y ≤ℤ x = record { le = so _ b } in
        omega (arith, ints)
    both true false a b t = absurd t
    both false q a b t = absurd t

order_of_same : (x y : ℤ) → x ≡ y → (le_z x y && le_z y x) ≡ true
order_of_same x y e = grind (arith, ints)

pub within_from_passed : (m : Meaning) (c : Case) (s : Selection) (price : ℕ → Option m.Value) → OneForEach c s → Passed m c s price → WithinLimits c s
within_from_passed m c s price counts p = record {
  satisfied_count = counts.satisfied_count;
  flows_count = counts.flows_count;
  activated_count = counts.activated_count;
  satisfied_ok = λ a h. so _ (p.satisfied a h);
  flows_ok = λ k d h. subst (λ (b : Border). T (flow_allowed b (flow_at s k))) (get_or_default c.borders k no_border d h) (so _ (p.flows k h));
  activated_ok = λ k d h. subst (λ (b : Bid). T (activated_allowed b (activated_at s k))) (get_or_default c.bids k no_bid d h) (so _ (p.activated k h));
  balanced = λ a h. same_by_order _ _ (p.balanced a h);
}

-- the areas that a border and a bid name are areas of the case
pub ends_within : (c : Case) → Valid c → (k : ℕ) → k < length c.borders → ((border_at c k).from < areas c) × ((border_at c k).to < areas c)
ends_within c valid k h =
    let known = All-get_or (λ b. T (ends_known (areas c) b)) c.borders k no_border h valid.borders_known in
    let tests = and_parts _ _ (yes_so _ known) in
    (ltb→lt _ _ (so _ tests.0), ltb→lt _ _ (so _ (and_parts _ _ tests.1).0))

pub bid_within : (c : Case) → Valid c → (k : ℕ) → k < length c.bids → (bid_at c k).area < areas c
bid_within c valid k h = ltb→lt _ _ (All-get_or (λ b. T (bid_known (areas c) b)) c.bids k no_bid h valid.bids_known)

module _ (m : Meaning) (c : Case) (s : Selection) where
  demand_valued : (d x : ℤ) (o : Option m.Value) → demand_priced m d x o ≡ true → T (demand_fits m d x (unwrap_or o m.zero))
  demand_valued d x None e = absurd (so false e)
  demand_valued d x (Some p) e = so _ e

  border_valued : (b : Border) (x : ℤ) (o q : Option m.Value) → border_priced m b x o q ≡ true → T (border_fits m b x (unwrap_or o m.zero) (unwrap_or q m.zero))
  border_valued b x None q e = absurd (so false e)
  border_valued b x (Some p) None e = absurd (so false e)
  border_valued b x (Some p) (Some q) e = so _ e

  bid_valued : (b : Bid) (x : ℕ) (o : Option m.Value) → bid_priced m b x o ≡ true → T (bid_fits m b x (unwrap_or o m.zero))
  bid_valued b x None e = absurd (so false e)
  bid_valued b x (Some p) e = so _ e

  some_valued : (o : Option m.Value) → is_some o ≡ true → o ≡ Some (unwrap_or o m.zero)
  some_valued None e = absurd (so false e)
  some_valued (Some p) e = refl

  price_listed : (price : ℕ → Option m.Value) (a : ℕ) → a < areas c → unwrap_or (price a) m.zero ≡ get_or (prices_of m price (areas c)) a m.zero
  price_listed price a h = sym (get_or-map-range_with_len (λ k. unwrap_or (price k) m.zero) 0 (areas c) a a m.zero h (omega arith))

  pub fits_from_passed : (price : ℕ → Option m.Value) → ((a : ℕ) (v : m.Value) → price a ≡ Some v → T (m.in_range v)) → Valid c → Passed m c s price → Fits m c s (prices_of m price (areas c))
  fits_from_passed price ranged valid p = record {
    prices_count = length-map-range_with_len (λ a. unwrap_or (price a) m.zero) 0 (areas c);
    in_range = λ a h. subst (λ (v : m.Value). T (m.in_range v)) (price_listed price a h) (ranged a _ (some_valued (price a) (p.priced a h)));
    demands = λ a h. subst (λ (v : m.Value). T (demand_fits m (demand_at c a) (satisfied_at s a) v)) (price_listed price a h) (demand_valued (demand_at c a) (satisfied_at s a) (price a) (p.demands a h));
    borders = λ k d h.
        let ends = ends_within c valid k h in
        subst (λ (b : Border). T (border_fits m b (flow_at s k) (get_or (prices_of m price (areas c)) b.from m.zero) (get_or (prices_of m price (areas c)) b.to m.zero)))
        (get_or_default c.borders k no_border d h)
        (subst (λ (v : m.Value). T (border_fits m (border_at c k) (flow_at s k) v (get_or (prices_of m price (areas c)) (border_at c k).to m.zero)))
        (price_listed price (border_at c k).from ends.0)
        (subst (λ (v : m.Value). T (border_fits m (border_at c k) (flow_at s k) (unwrap_or (price (border_at c k).from) m.zero) v))
        (price_listed price (border_at c k).to ends.1)
        (border_valued (border_at c k) (flow_at s k) (price (border_at c k).from) (price (border_at c k).to) (p.borders k h))));
    bids = λ k d h.
        subst (λ (b : Bid). T (bid_fits m b (activated_at s k) (get_or (prices_of m price (areas c)) b.area m.zero)))
        (get_or_default c.bids k no_bid d h)
        (subst (λ (v : m.Value). T (bid_fits m (bid_at c k) (activated_at s k) v))
        (price_listed price (bid_at c k).area (bid_within c valid k h))
        (bid_valued (bid_at c k) (activated_at s k) (price (bid_at c k).area) (p.bids k h)));
  }

  -- and back: prices that fit, as they are read, pass
  pub passed_from_fits : (price : ℕ → Option m.Value) (prices : List m.Value) → ((a : ℕ) → a < areas c → price a ≡ Some (get_or prices a m.zero)) → Valid c → WithinLimits c s → Fits m c s prices → Passed m c s price
  passed_from_fits price prices reads valid within fits = record {
    satisfied = λ a h. yes_so _ (within.satisfied_ok a h);
    flows = λ k h. yes_so _ (within.flows_ok k no_border h);
    activated = λ k h. yes_so _ (within.activated_ok k no_bid h);
    balanced = λ a h. order_of_same _ _ (within.balanced a h);
    priced = λ a h. ap is_some (reads a h);
    demands = λ a h. ap (demand_priced m (demand_at c a) (satisfied_at s a)) (reads a h) ∙ yes_so _ (fits.demands a h);
    borders = λ k h.
        let ends = ends_within c valid k h in
        ap (λ o. border_priced m (border_at c k) (flow_at s k) o (price (border_at c k).to)) (reads (border_at c k).from ends.0)
        ∙ ap (λ o. border_priced m (border_at c k) (flow_at s k) (Some (get_or prices (border_at c k).from m.zero)) o) (reads (border_at c k).to ends.1)
        ∙ yes_so _ (fits.borders k no_border h);
    bids = λ k h. ap (bid_priced m (bid_at c k) (activated_at s k)) (reads (bid_at c k).area (bid_within c valid k h)) ∙ yes_so _ (fits.bids k no_bid h);
  }
