-- A selection, and when it is within the limits of a case.
--
--   Selection            a satisfied amount for each area, a flow for each border, an activated amount for each bid
--   satisfied_allowed    from 0 to the demand, with the demand's sign
--   flow_allowed         from minus the backward limit to the forward limit
--   activated_allowed    from 0 to the volume
--   net                  up minus down plus flows in minus flows out of an area
--   WithinLimits         all amounts are allowed and every area balances
use Rattle.std.specs.Prelude.{◌≡◌, ℕ, ◌<◌, Bool, cond, ◌&&◌, T, List, [], ◌∷◌, length, ℤ, pos, ◌+ℤ◌, neg_ℤ, ◌==◌, int_le, nat_le, slice_index, slice_index_or}
use Rattle.std.specs.Int.{int_max, int_min}
use Rattle.market.specs.declared.trade.Direction.{Direction}
use Rattle.market.specs.declared.trade.Direction.TheVariants.{Up, Down}
use Rattle.market.specs.declared.trade.Border.{Border}
use Rattle.market.specs.declared.trade.Bid.{Bid}
use Rattle.market.specs.Cases.{Case, areas}

pub record Selection : Type 0 where
  pub satisfied : List ℤ
  pub flows : List ℤ
  pub activated : List ℕ

-- a satisfied amount lies from 0 to the demand, with the demand's sign
abbrev pub satisfied_allowed : ℤ → ℤ → Bool
satisfied_allowed demand x = int_le (int_min (pos 0) demand) x && int_le x (int_max (pos 0) demand)

-- a flow lies from minus the backward limit to the forward limit
abbrev pub flow_allowed : Border → ℤ → Bool
flow_allowed b x = int_le (neg_ℤ (pos b.backward)) x && int_le x (pos b.forward)

-- an activated amount lies from 0 to the volume
abbrev pub activated_allowed : Bid → ℕ → Bool
activated_allowed b x = nat_le x b.volume

-- what a bid's activation adds to its area: an up bid's amount, or minus a down bid's
abbrev pub injected : Direction → ℕ → ℤ
injected Up x = pos x
injected Down x = neg_ℤ (pos x)

-- what a flow adds to an area: it leaves the from area and enters the to area
abbrev pub brought : Border → ℤ → ℕ → ℤ
brought b x area = cond (b.to == area) x (pos 0) +ℤ cond (b.from == area) (neg_ℤ x) (pos 0)

-- the sums over all borders and over all bids
abbrev pub flows_into : ℕ → List Border → List ℤ → ℤ
flows_into area [] xs = pos 0
flows_into area (b ∷ bs) [] = pos 0
flows_into area (b ∷ bs) (x ∷ xs) = brought b x area +ℤ flows_into area bs xs

abbrev pub activated_in : ℕ → List Bid → List ℕ → ℤ
activated_in area [] xs = pos 0
activated_in area (b ∷ bs) [] = pos 0
activated_in area (b ∷ bs) (x ∷ xs) = cond (b.area == area) (injected b.direction x) (pos 0) +ℤ activated_in area bs xs

-- up minus down plus flows in minus flows out
abbrev pub net : Case → Selection → ℕ → ℤ
net c s area = activated_in area c.bids s.activated +ℤ flows_into area c.borders s.flows

-- one amount for each record, all allowed, and every area balances
pub record WithinLimits (c : Case) (s : Selection) : Type 0 where
  pub satisfied_count : length s.satisfied ≡ areas c
  pub flows_count : length s.flows ≡ length c.borders
  pub activated_count : length s.activated ≡ length c.bids
  pub satisfied_ok : (a : ℕ) → a < areas c → T (satisfied_allowed (slice_index_or c.demands a (pos 0)) (slice_index_or s.satisfied a (pos 0)))
  pub flows_ok : (k : ℕ) (d : Border) → k < length c.borders → T (flow_allowed (slice_index_or c.borders k d) (slice_index_or s.flows k (pos 0)))
  pub activated_ok : (k : ℕ) (d : Bid) → k < length c.bids → T (activated_allowed (slice_index_or c.bids k d) (slice_index s.activated k))
  pub balanced : (a : ℕ) → a < areas c → net c s a ≡ slice_index_or s.satisfied a (pos 0)
