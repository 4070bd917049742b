-- A case as a family of items: its demands, then its borders, then its bids. Assumes nothing.
--
--     of_meaning      a scale's values as an ordered group
--     demand_item, border_item, bid_item      each record as an item; the area a is the node a + 1
--     items      all of a case
--     amounts      a selection's amounts, in the same order
use Rattle.std.proofs.Common.{ℕ, suc, List, [], ◌∷◌, ◌++◌, map, get_or, ℤ, pos, negsuc, neg_ℤ}
use Rattle.scale.specs.Meaning.{Meaning, Laws}
use Rattle.market.specs.declared.trade.Direction.{Direction}
use Rattle.market.specs.declared.trade.Direction.TheVariants.{Up, Down}
use Rattle.market.specs.declared.trade.Border.{Border}
use Rattle.market.specs.declared.trade.Bid.{Bid}
use Rattle.market.specs.Cases.{Case}
use Rattle.market.specs.Selections.{Selection}
use Rattle.optimality.proofs.Groups.{Group}
use Rattle.optimality.proofs.Items.{Item}

abbrev pub of_meaning : (m : Meaning) → Laws m → Group
of_meaning m laws = record {
  Value = m.Value;
  zero = m.zero;
  plus = m.plus;
  opposite = m.opposite;
  less = m.less;
  plus_comm = laws.plus_comm;
  plus_assoc = laws.plus_assoc;
  zero_plus = laws.zero_plus;
  plus_opposite = laws.plus_opposite;
  less_irrefl = laws.less_irrefl;
  less_trans = laws.less_trans;
  less_total = laws.less_total;
  less_plus = laws.less_plus;
}

-- satisfaction takes from the area; the size of a negative amount falls as the amount grows, so its cost is the opposite
abbrev pub demand_item : (m : Meaning) → ℕ → ℤ → Item m.Value
demand_item m a (pos n) = record { low = pos 0; high = pos n; cost = m.satisfied; tail = suc a; head = 0 }
demand_item m a (negsuc n) = record { low = negsuc n; high = pos 0; cost = m.opposite m.satisfied; tail = suc a; head = 0 }

abbrev pub demand_items : (m : Meaning) → ℕ → List ℤ → List (Item m.Value)
demand_items m a [] = []
demand_items m a (d ∷ ds) = demand_item m a d ∷ demand_items m (suc a) ds

abbrev pub border_item : (m : Meaning) → Border → Item m.Value
border_item m b =
    record { low = neg_ℤ (pos b.backward); high = pos b.forward; cost = m.zero; tail = suc b.from; head = suc b.to }

abbrev pub bid_item_of : (m : Meaning) → Direction → (area volume : ℕ) → ℤ → Item m.Value
bid_item_of m Up area volume price = record { low = pos 0; high = pos volume; cost = m.up price; tail = 0; head = suc area }
bid_item_of m Down area volume price = record { low = pos 0; high = pos volume; cost = m.down price; tail = suc area; head = 0 }

abbrev pub bid_item : (m : Meaning) → Bid → Item m.Value
bid_item m b = bid_item_of m b.direction b.area b.volume b.price

abbrev pub items : (m : Meaning) → Case → List (Item m.Value)
items m c = demand_items m 0 c.demands ++ (map (border_item m) c.borders ++ map (bid_item m) c.bids)

abbrev pub listed : List ℤ → ℕ → ℤ
listed xs k = get_or xs k (pos 0)

abbrev pub amounts : Selection → ℕ → ℤ
amounts s = listed (s.satisfied ++ (s.flows ++ map pos s.activated))
