-- The figures of a release.
--
--   up_in, down_in    what is activated up, and down, in an area
--   unsatisfied       demand minus satisfied
--   export            up minus down minus satisfied
--   satisfied_sum     what is satisfied over the whole case, by size
--   activated_sum     what is activated over the whole case
--   netted            half of satisfied minus activated
--   cost              price times amount over the up bids, less that over the down bids
use Rattle.std.specs.Prelude.{ℕ, ◌+◌, cond, List, [], ◌∷◌, ℤ, pos, ◌+ℤ◌, ◌-ℤ◌, ◌*ℤ◌, neg_ℤ, ◌==◌, int_div, slice_index_or, sum, sum_by, unsigned_abs}
use Rattle.market.specs.declared.trade.Direction.{Direction}
use Rattle.market.specs.declared.trade.Direction.TheVariants.{Up, Down}
use Rattle.market.specs.declared.trade.Bid.{Bid}
use Rattle.market.specs.Cases.{Case, demand_at}
use Rattle.market.specs.Selections.{Selection}

-- an amount where the bid's direction is up, else nothing; and the other way round
abbrev pub if_up : Direction → ℕ → ℕ
if_up Up x = x
if_up Down x = 0

abbrev pub if_down : Direction → ℕ → ℕ
if_down Up x = 0
if_down Down x = x

-- the sum over the bids of an area
abbrev pub sum_in : (Direction → ℕ → ℕ) → ℕ → List Bid → List ℕ → ℕ
sum_in counted area [] xs = 0
sum_in counted area (b ∷ bs) [] = 0
sum_in counted area (b ∷ bs) (x ∷ xs) = cond (b.area == area) (counted b.direction x) 0 + sum_in counted area bs xs

abbrev pub up_in : Case → Selection → ℕ → ℕ
up_in c s area = sum_in if_up area c.bids s.activated

abbrev pub down_in : Case → Selection → ℕ → ℕ
down_in c s area = sum_in if_down area c.bids s.activated

abbrev pub unsatisfied : Case → Selection → ℕ → ℤ
unsatisfied c s area = demand_at c area -ℤ slice_index_or s.satisfied area (pos 0)

abbrev pub export : Case → Selection → ℕ → ℤ
export c s area = (pos (up_in c s area) -ℤ pos (down_in c s area)) -ℤ slice_index_or s.satisfied area (pos 0)

abbrev pub satisfied_sum : Selection → ℕ
satisfied_sum s = sum_by unsigned_abs s.satisfied

abbrev pub activated_sum : Selection → ℕ
activated_sum s = sum s.activated

abbrev pub netted : Selection → ℤ
netted s = int_div (pos (satisfied_sum s) -ℤ pos (activated_sum s)) (pos 2)

-- what an amount of a bid is paid: an up bid is paid its price, a down bid pays it
abbrev pub payment : Direction → ℤ → ℕ → ℤ
payment Up price x = price *ℤ pos x
payment Down price x = neg_ℤ (price *ℤ pos x)

abbrev pub payments : List Bid → List ℕ → ℤ
payments [] xs = pos 0
payments (b ∷ bs) [] = pos 0
payments (b ∷ bs) (x ∷ xs) = payment b.direction b.price x +ℤ payments bs xs

abbrev pub cost : Case → Selection → ℤ
cost c s = payments c.bids s.activated
