-- The worked case is valid, and its selection is within the limits. Assumes nothing.
use Rattle.std.proofs.Common.{◌≡◌, ℕ, zero, suc, ◌<◌, T, get_or, pos, sym, refl, subst, arith, lit≤}
use Rattle.market.specs.declared.trade.Border.{Border}
use Rattle.market.specs.declared.trade.Bid.{Bid}
use Rattle.market.specs.Cases.{Case, Valid}
use Rattle.market.specs.Selections.{Selection, WithinLimits, satisfied_allowed, flow_allowed, activated_allowed, net}
use Rattle.listing.specs.Example.{example_case, example_selection}

pub example_valid : Valid example_case
example_valid = record {
  few_areas = lit≤ tt;
  few_borders = lit≤ tt;
  few_bids = lit≤ tt;
  demands_in_range = (tt, (tt, tt));
  borders_known = (tt, tt);
  borders_in_range = (tt, tt);
  bids_known = (tt, (tt, tt));
  bids_in_range = (tt, (tt, tt));
}

satisfied : (a : ℕ) → a < 2 → T (satisfied_allowed (get_or example_case.demands a (pos 0)) (get_or example_selection.satisfied a (pos 0)))
satisfied zero h = tt
satisfied (suc zero) h = tt
satisfied (suc (suc a)) h = let no : ⊥ = omega arith in absurd no

flows : (k : ℕ) (d : Border) → k < 1 → T (flow_allowed (get_or example_case.borders k d) (get_or example_selection.flows k (pos 0)))
flows zero d h = tt
flows (suc k) d h = let no : ⊥ = omega arith in absurd no

activated : (k : ℕ) (d : Bid) → k < 2 → T (activated_allowed (get_or example_case.bids k d) (get_or example_selection.activated k 0))
activated zero d h = tt
activated (suc zero) d h = tt
activated (suc (suc k)) d h = let no : ⊥ = omega arith in absurd no

balanced : (a : ℕ) → a < 2 → net example_case example_selection a ≡ get_or example_selection.satisfied a (pos 0)
balanced zero h = refl
balanced (suc zero) h = refl
balanced (suc (suc a)) h = let no : ⊥ = omega arith in absurd no

pub example_within : WithinLimits example_case example_selection
example_within = record {
  satisfied_count = refl;
  flows_count = refl;
  activated_count = refl;
  satisfied_ok = satisfied;
  flows_ok = flows;
  activated_ok = activated;
  balanced = balanced;
}

-- the same under other names
pub valid_as : (c : Case) → c ≡ example_case → Valid c
valid_as c e = subst Valid (sym e) example_valid

pub within_as : (c : Case) (s : Selection) → c ≡ example_case → s ≡ example_selection → WithinLimits c s
within_as c s e f = subst (λ (k : Case). WithinLimits k s) (sym e) (subst (WithinLimits example_case) (sym f) example_within)
