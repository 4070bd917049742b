-- What holds of every item of a case, said of its demands, borders and bids one by one. Assumes nothing.
use Rattle.std.proofs.Common.{◌≡◌, ℕ, zero, suc, ◌+◌, ◌<◌, List, [], ◌∷◌, map, length, get_or, ℤ, pos, sym, ap, subst, subst₂, arith}
use Rattle.std.proofs.lemmas.List.{length-map, get_or-map}
use Rattle.scale.specs.Meaning.{Meaning}
use Rattle.market.specs.declared.trade.Direction.TheVariants.{Up}
use Rattle.market.specs.declared.trade.Border.{Border}
use Rattle.market.specs.declared.trade.Bid.{Bid}
use Rattle.market.specs.Cases.{Case, areas}
use Rattle.market.specs.Selections.{Selection}
use Rattle.optimality.proofs.Families.{Each}
use Rattle.optimality.proofs.Items.{Item}
use Rattle.optimality.proofs.Book.{demand_item, demand_items, border_item, bid_item, items, listed, amounts}
use Rattle.optimality.proofs.Sums.{Sized, from_parts, to_parts, length_demand_items}

pub record ByRecord (m : Meaning) (P : Item m.Value → ℤ → Type 0) (c : Case) (s : Selection) : Type 0 where
  pub demands : (a : ℕ) → a < areas c → P (demand_item m a (get_or c.demands a (pos 0))) (get_or s.satisfied a (pos 0))
  pub borders : (k : ℕ) (d : Border) → k < length c.borders → P (border_item m (get_or c.borders k d)) (get_or s.flows k (pos 0))
  pub bids : (k : ℕ) (d : Bid) → k < length c.bids → P (bid_item m (get_or c.bids k d)) (pos (get_or s.activated k 0))

pub any_border : Border
any_border = record { from = 0; to = 0; forward = 0; backward = 0 }

pub any_bid : Bid
any_bid = record { area = 0; direction = Up; volume = 0; price = pos 0 }

module _ (m : Meaning) where
  demand_at : (a : ℕ) (ds : List ℤ) (k j : ℕ) (d : Item m.Value) → a + k ≡ j → k < length ds → get_or (demand_items m a ds) k d ≡ demand_item m j (get_or ds k (pos 0))
  demand_at a [] k j d e h = absurd (omega arith)
  demand_at a (x ∷ ds) zero j d e h = let l : a ≡ j = omega arith in ap (λ i. demand_item m i x) l
  demand_at a (x ∷ ds) (suc k) j d e h = demand_at (suc a) ds k j d (omega arith) (omega arith)

  module _ (P : Item m.Value → ℤ → Type 0) (c : Case) (s : Selection) (sized : Sized c s) where
    listed_pos : (k : ℕ) → k < length c.bids → listed (map pos s.activated) k ≡ pos (get_or s.activated k 0)
    listed_pos k h = let l : k < length s.activated = subst (λ n. k < n) (sym sized.activated_count) h in get_or-map pos s.activated k 0 (pos 0) l

    pub from_records : ByRecord m P c s → Each P (items m c) (amounts s)
    from_records r =
        from_parts m c s sized P
        (record {
          demands = λ k d h.
              let l : k < areas c = subst (λ n. k < n) (length_demand_items m 0 c.demands) h in
              subst (λ i. P i (listed s.satisfied k)) (sym (demand_at 0 c.demands k k d (omega arith) l)) (r.demands k l);
          borders = λ k d h.
              let l : k < length c.borders = subst (λ n. k < n) (length-map c.borders (border_item m)) h in
              subst (λ i. P i (listed s.flows k)) (sym (get_or-map (border_item m) c.borders k any_border d l)) (r.borders k any_border l);
          bids = λ k d h.
              let l : k < length c.bids = subst (λ n. k < n) (length-map c.bids (bid_item m)) h in
              subst₂ P (sym (get_or-map (bid_item m) c.bids k any_bid d l)) (sym (listed_pos k l)) (r.bids k any_bid l);
        })

    pub to_records : Each P (items m c) (amounts s) → ByRecord m P c s
    to_records each =
        let parts = to_parts m c s sized P each in
        record {
          demands = λ a h.
              subst (λ i. P i (listed s.satisfied a)) (demand_at 0 c.demands a a (demand_item m 0 (pos 0)) (omega arith) h)
              (parts.demands a (demand_item m 0 (pos 0)) (subst (λ n. a < n) (sym (length_demand_items m 0 c.demands)) h));
          borders = λ k d h.
              subst (λ i. P i (listed s.flows k)) (get_or-map (border_item m) c.borders k d (border_item m any_border) h)
              (parts.borders k (border_item m any_border) (subst (λ n. k < n) (sym (length-map c.borders (border_item m))) h));
          bids = λ k d h.
              subst₂ P (get_or-map (bid_item m) c.bids k d (bid_item m any_bid) h) (listed_pos k h)
              (parts.bids k (bid_item m any_bid) (subst (λ n. k < n) (sym (length-map c.bids (bid_item m))) h));
        }
