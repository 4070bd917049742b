-- A valid case stays valid when a demand, limits or a volume change within their ranges. Assumes nothing.
use Rattle.std.proofs.Common.{ℕ, ◌<◌, ◌≤◌, Bool, true, false, ◌&&◌, T, leb, List, length, get_or, set, ℤ, sym, subst, length-set}
use mathlib.Core.Logic.{∥∥₁_elim, ∥∥₁_prop}
use Rattle.std.specs.List.{AllByRecursion}
use Rattle.std.proofs.ByRecursion.{All-set, All-get_or}
use Rattle.market.specs.declared.trade.Border.{Border}
use Rattle.market.specs.declared.trade.Bid.{Bid}
use Rattle.market.specs.Cases.{Valid, case_of, no_border, no_bid, demand_in_range, ends_known, limits_in_range, bid_known, bid_in_range}
use Rattle.market.specs.Changes.{with_limits, emptied}

pub valid_revised : (ds : List ℤ) (bs : List Border) (os : List Bid) (a : ℕ) (d : ℤ) → T (demand_in_range d) → Valid (case_of ds bs os) → Valid (case_of (set ds a d) bs os)
valid_revised ds bs os a d ok v = record {
  few_areas = subst (λ (n : ℕ). n ≤ 48) (sym (length-set ds a d)) v.few_areas;
  few_borders = v.few_borders;
  few_bids = v.few_bids;
  demands_in_range = All-set (λ x. T (demand_in_range x)) ds a d ok v.demands_in_range;
  borders_known = subst (λ (n : ℕ). AllByRecursion (λ b. T (ends_known n b)) bs) (sym (length-set ds a d)) v.borders_known;
  borders_in_range = v.borders_in_range;
  bids_known = subst (λ (n : ℕ). AllByRecursion (λ b. T (bid_known n b)) os) (sym (length-set ds a d)) v.bids_known;
  bids_in_range = v.bids_in_range;
}

pub valid_limited : (ds : List ℤ) (bs : List Border) (os : List Bid) (k f b : ℕ) → k < length bs → T (leb f 20000000 && leb b 20000000) → Valid (case_of ds bs os) → Valid (case_of ds (set bs k (with_limits (get_or bs k no_border) f b)) os)
valid_limited ds bs os k f b h ok v = record {
  few_areas = v.few_areas;
  few_borders = subst (λ (n : ℕ). n ≤ 128) (sym (length-set bs k _)) v.few_borders;
  few_bids = v.few_bids;
  demands_in_range = v.demands_in_range;
  borders_known = All-set (λ x. T (ends_known (length ds) x)) bs k _ (All-get_or (λ x. T (ends_known (length ds) x)) bs k no_border h v.borders_known) v.borders_known;
  borders_in_range = All-set (λ x. T (limits_in_range x)) bs k _ ok v.borders_in_range;
  bids_known = v.bids_known;
  bids_in_range = v.bids_in_range;
}

pub valid_withdrawn : (ds : List ℤ) (bs : List Border) (os : List Bid) (k : ℕ) → k < length os → Valid (case_of ds bs os) → Valid (case_of ds bs (set os k (emptied (get_or os k no_bid))))
valid_withdrawn ds bs os k h v = record {
  few_areas = v.few_areas;
  few_borders = v.few_borders;
  few_bids = subst (λ (n : ℕ). n ≤ 1024) (sym (length-set os k _)) v.few_bids;
  demands_in_range = v.demands_in_range;
  borders_known = v.borders_known;
  borders_in_range = v.borders_in_range;
  bids_known = All-set (λ x. T (bid_known (length ds) x)) os k _ (All-get_or (λ x. T (bid_known (length ds) x)) os k no_bid h v.bids_known) v.bids_known;
  bids_in_range = All-set (λ x. T (bid_in_range x)) os k _ (priced (All-get_or (λ x. T (bid_in_range x)) os k no_bid h v.bids_in_range)) v.bids_in_range;
}
  where
    second : (p q : Bool) → T (p && q) → T q
    second true q t = t
    second false q t = absurd t

    priced : T (bid_in_range (get_or os k no_bid)) → T (bid_in_range (emptied (get_or os k no_bid)))
    priced t = second (leb (get_or os k no_bid).volume 9999000) _ t

pub truncated : {A B : Type 0} → (A → B) → ∥ A ∥₁ → ∥ B ∥₁
truncated f e = ∥∥₁_elim e ∥∥₁_prop (λ a. ∣ f a ∣₁)
