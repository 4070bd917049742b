-- The case with no records is valid. Assumes nothing.
use Rattle.std.proofs.Common.{◌≡◌, List, [], ℤ, sym, subst, zero-le}
use Rattle.market.specs.declared.trade.Border.{Border}
use Rattle.market.specs.declared.trade.Bid.{Bid}
use Rattle.market.specs.Cases.{Valid, case_of}

pub valid_none : Valid (case_of [] [] [])
valid_none = record {
  few_areas = zero-le;
  few_borders = zero-le;
  few_bids = zero-le;
  demands_in_range = tt;
  borders_known = tt;
  borders_in_range = tt;
  bids_known = tt;
  bids_in_range = tt;
}

pub valid_empty : (ds : List ℤ) (bs : List Border) (os : List Bid) → ds ≡ [] → bs ≡ [] → os ≡ [] → Valid (case_of ds bs os)
valid_empty ds bs os d b o =
    subst (λ (x : List ℤ). Valid (case_of x bs os)) (sym d)
    (subst (λ (x : List Border). Valid (case_of [] x os)) (sym b)
    (subst (λ (x : List Bid). Valid (case_of [] [] x)) (sym o) valid_none))
