-- What is known of what stands. Assumes nothing.
--
--   few_areas, few_borders, few_bids                   the bounds of the case
--   satisfied_count, flows_count, activated_count      one amount for each record
--   payable                                            the amounts can be paid for
--   Known                                              all of these, and that netted is whole
use Rattle.std.proofs.Common.{◌≡◌, ℕ, ◌<◌, ◌≤◌, T, leb, List, length, get_or, pos, ◌+ℤ◌, ◌-ℤ◌, sym, subst, le_trans, leb→le}
use mathlib.Core.Logic.{∥∥₁_elim}
use native.Mathlib.Bridge.{le_prop}
use native.Mathlib.Nat.{ℕ_set}
use lib.Dec.{T_prop}
use Rattle.std.proofs.ByRecursion.{All-get_or}
use Rattle.market.specs.declared.settled.Settled.{Settled}
use Rattle.market.specs.declared.trade.Bid.{Bid}
use Rattle.market.specs.Cases.{Case, Valid, bid_in_range, no_bid}
use Rattle.market.specs.Selections.{Selection, WithinLimits}
use Rattle.listing.specs.Payable.{Payable}
use Rattle.listing.specs.Figures.{netted, satisfied_sum, activated_sum}
use Rattle.listing.specs.View.{case_in, selection_in}
use Rattle.listing.proofs.Whole.{whole}
use Rattle.listing.proofs.Both.{first_of}

module _ (c : Case) (valid : ∥ Valid c ∥₁) where
  pub few_areas : length c.demands ≤ 48
  few_areas = ∥∥₁_elim valid le_prop (λ v. v.few_areas)

  pub few_borders : length c.borders ≤ 128
  few_borders = ∥∥₁_elim valid le_prop (λ v. v.few_borders)

  pub few_bids : length c.bids ≤ 1024
  few_bids = ∥∥₁_elim valid le_prop (λ v. v.few_bids)

  in_range : (k : ℕ) (d : Bid) → k < length c.bids → T (bid_in_range (get_or c.bids k d))
  in_range k d h = ∥∥₁_elim valid (T_prop (bid_in_range (get_or c.bids k d))) (λ v. All-get_or (λ b. T (bid_in_range b)) c.bids k d h v.bids_in_range)

module _ (c : Case) (s : Selection) (within : ∥ WithinLimits c s ∥₁) where
  pub satisfied_count : length s.satisfied ≡ length c.demands
  satisfied_count = ∥∥₁_elim within (ℕ_set _ _) (λ w. w.satisfied_count)

  pub flows_count : length s.flows ≡ length c.borders
  flows_count = ∥∥₁_elim within (ℕ_set _ _) (λ w. w.flows_count)

  pub activated_count : length s.activated ≡ length c.bids
  activated_count = ∥∥₁_elim within (ℕ_set _ _) (λ w. w.activated_count)

  within_volume : (k : ℕ) (d : Bid) → k < length c.bids → get_or s.activated k 0 ≤ (get_or c.bids k d).volume
  within_volume k d h = ∥∥₁_elim within le_prop (λ w. leb→le (get_or s.activated k 0) (get_or c.bids k d).volume (w.activated_ok k d h))

volume_small : (b : Bid) → T (bid_in_range b) → b.volume ≤ 9999000
volume_small b h = leb→le b.volume 9999000 (first_of (leb b.volume 9999000) _ h)

pub payable : (c : Case) (s : Selection) → ∥ Valid c ∥₁ → ∥ WithinLimits c s ∥₁ → Payable c.bids s.activated
payable c s valid within = record {
  counts = activated_count c s within;
  few = few_bids c valid;
  prices = in_range c valid;
  volumes = λ k h. le_trans (within_volume c s within k no_bid h) (volume_small (get_or c.bids k no_bid) (in_range c valid k no_bid h));
}

pub record Known (c : Case) (s : Selection) : Type 0 where
  pub few_areas : length c.demands ≤ 48
  pub few_borders : length c.borders ≤ 128
  pub few_bids : length c.bids ≤ 1024
  pub satisfied_count : length s.satisfied ≡ length c.demands
  pub flows_count : length s.flows ≡ length c.borders
  pub activated_count : length s.activated ≡ length c.bids
  pub payable : Payable c.bids s.activated
  pub whole : netted s +ℤ netted s ≡ pos (satisfied_sum s) -ℤ pos (activated_sum s)

pub known : (x : Settled) → Known (case_in x) (selection_in x)
known x =
    let c = case_in x in
    let s = selection_in x in
    let valid = x.book.now.valid in
    let within = x.within in
    record {
      few_areas = few_areas c valid;
      few_borders = few_borders c valid;
      few_bids = few_bids c valid;
      satisfied_count = satisfied_count c s within;
      flows_count = flows_count c s within;
      activated_count = activated_count c s within;
      payable = payable c s valid within;
      whole = whole c s valid within;
    }

pub payable_at : {bs cs : List Bid} {xs ys : List ℕ} → bs ≡ cs → xs ≡ ys → Payable cs ys → Payable bs xs
payable_at {bs} {cs} {xs} {ys} p q h = subst (λ (b : List Bid). Payable b xs) (sym p) (subst (Payable cs) (sym q) h)
