-- A selection within the limits that some prices fit is unbeaten. Assumes nothing.
--
-- See every demand, border and bid as an item: an amount between two bounds, a unit cost, and one kilowatt taken from its tail and
-- brought to its head (an area, or the ground, whose price is zero). All fitting rules say one thing: below its upper bound an
-- item's head is worth at most its tail and the cost, above its lower bound at least that. The difference is the item's reduced cost.
-- Take any other selection within the limits. Item by item, the reduced cost times the change of the amount is at least zero,
-- since an amount can grow only from below its upper bound, and fall only from above its lower bound. Added up over
-- the items, the prices count each area's change of balance, and there is none: both selections balance every area.
-- What is left is the difference of the two totals, and it is at least zero. So nothing beats the selection.
use Rattle.std.proofs.Common.{ℕ, zero, suc, ◌<◌, List, get_or, pos, sym, refl, ◌∙◌, subst₂, arith}
use Rattle.scale.specs.Meaning.{Meaning, Laws}
use Rattle.market.specs.Cases.{Case, areas, Valid}
use Rattle.market.specs.Selections.{Selection, WithinLimits}
use Rattle.market.specs.Totals.{total}
use Rattle.market.specs.Prices.{Fits}
use Rattle.optimality.specs.Theorem.{FittingIsUnbeaten}
use Rattle.optimality.proofs.Groups.{Leq}
use Rattle.optimality.proofs.Families.{Each}
use Rattle.optimality.proofs.Items.{InBounds, Fitting, no_cheaper}
use Rattle.optimality.proofs.Book.{of_meaning, items, amounts}
use Rattle.optimality.proofs.Sums.{Sized, total_is, net_none}
use Rattle.optimality.proofs.Rules.{demand_bounds, flow_bounds, bid_bounds, demand_fitting, border_fitting, bid_fitting, items_known}
use Rattle.optimality.proofs.Records.{from_records}

-- the ground's price is zero
abbrev pub node_price : (m : Meaning) → List m.Value → ℕ → m.Value
node_price m prices zero = m.zero
node_price m prices (suc a) = get_or prices a m.zero

pub sized : (c : Case) (s : Selection) → WithinLimits c s → Sized c s
sized c s within =
    record { satisfied_count = within.satisfied_count; flows_count = within.flows_count; activated_count = within.activated_count }

pub in_bounds : (m : Meaning) (c : Case) (s : Selection) → WithinLimits c s → Each InBounds (items m c) (amounts s)
in_bounds m c s within =
    from_records m InBounds c s (sized c s within)
    (record {
      demands = λ a h. demand_bounds m a (get_or c.demands a (pos 0)) (get_or s.satisfied a (pos 0)) (within.satisfied_ok a h);
      borders = λ k d h. flow_bounds m (get_or c.borders k d) (get_or s.flows k (pos 0)) (within.flows_ok k d h);
      bids = λ k d h. bid_bounds m (get_or c.bids k d) (get_or s.activated k 0) (within.activated_ok k d h);
    })

module _ (m : Meaning) (laws : Laws m) where
  fitting : (c : Case) (s : Selection) (within : WithinLimits c s) (prices : List m.Value) → Fits m c s prices → Each (Fitting (of_meaning m laws) (node_price m prices)) (items m c) (amounts s)
  fitting c s within prices fits =
      let p = node_price m prices in
      from_records m (Fitting (of_meaning m laws) p) c s (sized c s within)
      (record {
        demands = λ a h.
            demand_fitting m laws p refl a (get_or c.demands a (pos 0)) (get_or s.satisfied a (pos 0))
            (demand_bounds m a (get_or c.demands a (pos 0)) (get_or s.satisfied a (pos 0)) (within.satisfied_ok a h)) (fits.demands a h);
        borders = λ k d h. border_fitting m laws p refl (get_or c.borders k d) (get_or s.flows k (pos 0)) (fits.borders k d h);
        bids = λ k d h.
            let b = get_or c.bids k d in
            bid_fitting m laws p refl b.direction b.area b.volume b.price (get_or s.activated k 0) (fits.bids k d h);
      })

  least : (c : Case) → Valid c → (s : Selection) (within : WithinLimits c s) (prices : List m.Value) → Fits m c s prices → (y : Selection) → WithinLimits c y → Leq (of_meaning m laws) (total m c s) (total m c y)
  least c valid s within prices fits y other =
      subst₂ (Leq (of_meaning m laws))
      (sym (total_is m laws c s (sized c s within) (in_bounds m c s within)))
      (sym (total_is m laws c y (sized c y other) (in_bounds m c y other)))
      (no_cheaper (of_meaning m laws) (items m c) (suc (areas c)) (node_price m prices) (amounts s) (amounts y) (items_known m c valid) refl
      (fitting c s within prices fits) (in_bounds m c y other)
      (λ a h.
      let l : a < areas c = omega arith in
      net_none m c s a (sized c s within) l (within.balanced a l) ∙ sym (net_none m c y a (sized c y other) l (other.balanced a l))))

  pub fitting_is_unbeaten : FittingIsUnbeaten m
  fitting_is_unbeaten c valid s within prices fits =
      record { within = within; best = λ y beats. least c valid s within prices fits y beats.within beats.smaller }
