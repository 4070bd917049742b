-- What a scale of cost is: an ordered commutative group, unit costs in it, a range of prices, and the levels that write a price.
--
--   Meaning       the data of a scale
--   sum           the sum of a list of values
--   UnitCost      a unit cost of the scale
--   SignedCost    a unit cost, or the opposite of one
--   Laws          what every scale owes
--   order         how two values stand to each other
--   read_price    the price that a list of numbers writes, or none
use Rattle.std.specs.Prelude.{◌≡◌, ℕ, ◌≤◌, Bool, cond, ◌&&◌, T, ◌⊎◌, List, [], ◌∷◌, length, ℤ, pos, negsuc, ◌≤ℤ◌, Some, None, Option, FitsSigned, ◌==◌, nat_le}
use Rattle.std.specs.declared.cmp.Ordering.TheVariants.{Less, Equal, Greater}
use Rattle.std.specs.declared.cmp.Ordering.{Ordering}
use Rattle.std.specs.Int.{w64}
use Rattle.std.specs.List.{AllByRecursion}

-- the data of a scale
pub record Meaning : Type 1 where
  -- what a cost can be, with its sum and its order
  pub Value : Type 0
  pub zero : Value
  pub plus : Value → Value → Value
  pub opposite : Value → Value
  pub less : Value → Value → Bool
  -- what one kilowatt costs: satisfied; activated of an up bid or of a down bid at a price in cents per MWh
  pub satisfied : Value
  pub up : ℤ → Value
  pub down : ℤ → Value
  -- which values may stand as the price of an area
  pub in_range : Value → Bool
  -- how many numbers write a price, and whether a case may have bids
  pub levels : ℕ
  pub bids : Bool
  -- the numbers that write a value, and the value that a list of numbers writes
  pub written : Value → List ℤ
  pub value : List ℤ → Value

-- the sum of a list of values
abbrev pub sum : (m : Meaning) → List m.Value → m.Value
sum m [] = m.zero
sum m (v ∷ vs) = m.plus v (sum m vs)

-- a bid's price may lie from -9,999,900 to 9,999,900 cents per MWh
pub record BidPrice (p : ℤ) : Type 0 where
  pub least : negsuc 9999899 ≤ℤ p
  pub most : p ≤ℤ pos 9999900

-- v is a unit cost of the scale
pub data UnitCost (m : Meaning) : m.Value → Type 0 where
  of_satisfied : UnitCost m m.satisfied
  of_up : (p : ℤ) → BidPrice p → UnitCost m (m.up p)
  of_down : (p : ℤ) → BidPrice p → UnitCost m (m.down p)

-- v is a unit cost of the scale, or the opposite of one
pub data SignedCost (m : Meaning) : m.Value → Type 0 where
  cost : (v : m.Value) → UnitCost m v → SignedCost m v
  gain : (v : m.Value) → UnitCost m v → SignedCost m (m.opposite v)

-- what every scale owes
pub record Laws (m : Meaning) : Type 0 where
  -- the sum
  pub plus_comm : (x y : m.Value) → m.plus x y ≡ m.plus y x
  pub plus_assoc : (x y z : m.Value) → m.plus (m.plus x y) z ≡ m.plus x (m.plus y z)
  pub zero_plus : (x : m.Value) → m.plus m.zero x ≡ x
  pub plus_opposite : (x : m.Value) → m.plus x (m.opposite x) ≡ m.zero
  -- the order
  pub less_irrefl : (x : m.Value) → T (m.less x x) → ⊥
  pub less_trans : (x y z : m.Value) → T (m.less x y) → T (m.less y z) → T (m.less x z)
  pub less_total : (x y : m.Value) → (x ≡ y) ⊎ (T (m.less x y) ⊎ T (m.less y x))
  pub less_plus : (x y z : m.Value) → T (m.less x y) → T (m.less (m.plus x z) (m.plus y z))
  -- the range holds every sum of at most four unit costs or their opposites
  pub sums_in_range : (vs : List m.Value) → AllByRecursion (SignedCost m) vs → length vs ≤ 4 → T (m.in_range (sum m vs))
  -- at most 16 levels, or 17 where the pair is too large to be a scale
  pub few_levels : m.levels ≤ 17
  -- a price in range has exactly one list of 64-bit signed numbers
  pub written_count : m.levels ≤ 16 → (v : m.Value) → T (m.in_range v) → length (m.written v) ≡ m.levels
  pub written_fits : m.levels ≤ 16 → (v : m.Value) → T (m.in_range v) → AllByRecursion (FitsSigned w64) (m.written v)
  pub value_written : m.levels ≤ 16 → (v : m.Value) → T (m.in_range v) → m.value (m.written v) ≡ v
  pub written_value : m.levels ≤ 16 → (ns : List ℤ) → length ns ≡ m.levels → AllByRecursion (FitsSigned w64) ns → T (m.in_range (m.value ns)) → m.written (m.value ns) ≡ ns

-- how x stands to y
abbrev pub order : (m : Meaning) → m.Value → m.Value → Ordering
order m x y = cond (m.less x y) Less (cond (m.less y x) Greater Equal)

-- the price that the numbers write: there is one exactly where the levels are at most 16, the numbers as many, and in range
abbrev pub read_price : (m : Meaning) → List ℤ → Option m.Value
read_price m ns = cond (nat_le m.levels 16 && (length ns == m.levels && m.in_range (m.value ns))) (Some (m.value ns)) None
