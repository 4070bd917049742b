-- What a selection costs on a scale, and when one beats another.
--
--   times       a value times a whole number
--   bid_cost    the unit cost of a bid
--   total       the cost of a selection
--   Beats       within the limits, and its total is smaller
--   Unbeaten    within the limits, and nothing beats it
use Rattle.std.specs.Prelude.{ℕ, zero, suc, T, List, [], ◌∷◌, ℤ, unsigned_abs}
use Rattle.scale.specs.Meaning.{Meaning}
use Rattle.market.specs.declared.trade.Direction.{Direction}
use Rattle.market.specs.declared.trade.Direction.TheVariants.{Up, Down}
use Rattle.market.specs.declared.trade.Bid.{Bid}
use Rattle.market.specs.Cases.{Case}
use Rattle.market.specs.Selections.{Selection, WithinLimits}

-- a value times n is its n-fold sum
abbrev pub times : (m : Meaning) → ℕ → m.Value → m.Value
times m zero v = m.zero
times m (suc n) v = m.plus v (times m n v)

-- the unit cost of an activated kilowatt of a bid
abbrev pub bid_cost : (m : Meaning) → Direction → ℤ → m.Value
bid_cost m Up price = m.up price
bid_cost m Down price = m.down price

-- the size of each satisfied amount times the unit cost of satisfaction
abbrev pub satisfied_total : (m : Meaning) → List ℤ → m.Value
satisfied_total m [] = m.zero
satisfied_total m (x ∷ xs) = m.plus (times m (unsigned_abs x) m.satisfied) (satisfied_total m xs)

-- each activated amount times the bid's unit cost
abbrev pub activated_total : (m : Meaning) → List Bid → List ℕ → m.Value
activated_total m [] xs = m.zero
activated_total m (b ∷ bs) [] = m.zero
activated_total m (b ∷ bs) (x ∷ xs) = m.plus (times m x (bid_cost m b.direction b.price)) (activated_total m bs xs)

abbrev pub total : (m : Meaning) → Case → Selection → m.Value
total m c s = m.plus (satisfied_total m s.satisfied) (activated_total m c.bids s.activated)

-- y is within the limits, and its total is smaller than x's
pub record Beats (m : Meaning) (c : Case) (y x : Selection) : Type 0 where
  pub within : WithinLimits c y
  pub smaller : T (m.less (total m c y) (total m c x))

-- x is within the limits, and nothing beats it
pub record Unbeaten (m : Meaning) (c : Case) (x : Selection) : Type 0 where
  pub within : WithinLimits c x
  pub best : (y : Selection) → Beats m c y x → ⊥
