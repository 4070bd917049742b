-- One bid, or one border, more in the sums of what enters each area. Assumes nothing.
use Rattle.std.proofs.Common.{◌≡◌, ℕ, ◌+◌, ◌*◌, ◌<◌, ◌≤◌, Bool, true, false, cond, T, eqb, List, length, get_or, take, set, replicate, ℤ, pos, negsuc, ◌+ℤ◌, ◌-ℤ◌, neg_ℤ, ◌≤ℤ◌, sym, refl, ap, ◌∙◌, subst, arith, ltb→lt, length-set, get_or-set_other, get_or-set_same, w32, w64, SFits, to_z, of_z}
use mathlib.Core.Logic.{∥∥₁_elim}
use native.Mathlib.Bridge.{le_prop}
use native.Mathlib.Decide.{ℕ_discrete}
use lib.ListN.{get_or-replicate}
use lib.Signed.{mag}
use Rattle.std.proofs.ByRecursion.{All-get_or}
use Rattle.std.proofs.lemmas.List.{get_or_default, take_all}
use Rattle.std.proofs.lemmas.Int.{ints, to_z-of_z}
use Rattle.std.proofs.lemmas.Bool.{eq-eqb, ne_eqb, and_parts}
use Rattle.market.specs.declared.trade.Direction.{Direction}
use Rattle.market.specs.declared.trade.Direction.TheVariants.{Up, Down}
use Rattle.market.specs.declared.trade.Border.{Border}
use Rattle.market.specs.declared.trade.Bid.{Bid}
use Rattle.market.specs.Cases.{Valid, case_of, no_bid, no_border, bid_known, ends_known}
use Rattle.market.specs.Selections.{injected, activated_in, flows_into}
use Rattle.fitting.proofs.Balances.{activated_more, flows_more, added_by_bid, added_by_border}
use Rattle.fitting.proofs.Passed.{so, yes_so}

-- z is at most n in size
pub record Small (n : ℕ) (z : ℤ) : Type 0 where
  pub least : neg_ℤ (pos n) ≤ℤ z
  pub most : z ≤ℤ pos n

-- the areas that records name
module _ (ds : List ℤ) (bs : List Border) (os : List Bid) (valid : ∥ Valid (case_of ds bs os) ∥₁) where
  pub bid_area_below : (k : ℕ) (d : Bid) → k < length os → (get_or os k d).area < 48
  bid_area_below k d h =
      ∥∥₁_elim valid le_prop (λ v.
      let known = ltb→lt _ _ (All-get_or (λ b. T (bid_known (length ds) b)) os k d h v.bids_known) in
      let few = v.few_areas in
      omega arith)

  pub from_below : (k : ℕ) (d : Border) → k < length bs → (get_or bs k d).from < 48
  from_below k d h =
      ∥∥₁_elim valid le_prop (λ v.
      let tests = and_parts _ _ (yes_so _ (All-get_or (λ b. T (ends_known (length ds) b)) bs k d h v.borders_known)) in
      let known : (get_or bs k d).from < length ds = ltb→lt _ _ (so _ tests.0) in
      let few = v.few_areas in
      omega arith)

  pub to_below : (k : ℕ) (d : Border) → k < length bs → (get_or bs k d).to < 48
  to_below k d h =
      ∥∥₁_elim valid le_prop (λ v.
      let tests = and_parts _ _ (yes_so _ (All-get_or (λ b. T (ends_known (length ds) b)) bs k d h v.borders_known)) in
      let known : (get_or bs k d).to < length ds = ltb→lt _ _ (so _ (and_parts _ _ tests.1).0) in
      let few = v.few_areas in
      omega arith)

  pub few_bids : length os ≤ 1024
  few_bids = ∥∥₁_elim valid le_prop (λ v. v.few_bids)

  pub few_borders : length bs ≤ 128
  few_borders = ∥∥₁_elim valid le_prop (λ v. v.few_borders)

-- what an activated amount adds is small
pub small_injected : (d : Direction) (x : ℕ) → x < 4294967296 → Small 4294967296 (injected d x)
small_injected Up x h = record { least = omega (arith, ints); most = omega (arith, ints) }
small_injected Down x h = record { least = omega (arith, ints); most = omega (arith, ints) }

-- adding z at one place adds it there and nowhere else
set_added : (sums : List ℤ) (i a : ℕ) (v z : ℤ) → i < length sums → v ≡ get_or sums i (pos 0) +ℤ z → get_or (set sums i v) a (pos 0) ≡ get_or sums a (pos 0) +ℤ cond (eqb i a) z (pos 0)
set_added sums i a v z h is = elim (ℕ_discrete i a) [
  | yes e ↦ subst (λ (t : ℕ). get_or (set sums i v) t (pos 0) ≡ get_or sums t (pos 0) +ℤ cond (eqb i t) z (pos 0)) e
      (get_or-set_same sums i v (pos 0) h ∙ is ∙ ap (λ t. get_or sums i (pos 0) +ℤ cond t z (pos 0)) (sym (eq-eqb i i refl)))
  | no ne ↦ get_or-set_other sums i a v (pos 0) (λ e. ne (sym e)) ∙ sym (plus_zero _) ∙ ap (λ t. get_or sums a (pos 0) +ℤ cond t z (pos 0)) (sym (ne_eqb i a ne))
]
  where
    plus_zero : (z : ℤ) → z +ℤ pos 0 ≡ z
    plus_zero z = omega (arith, ints)

small_plus : (n k : ℕ) (y z : ℤ) → Small n y → Small k z → Small (n + k) (y +ℤ z)
small_plus n k y z p q = record { least = omega (arith, ints, p.least, q.least); most = omega (arith, ints, p.most, q.most) }

small_if : (n : ℕ) (b : Bool) (z : ℤ) → Small n z → Small n (cond b z (pos 0))
small_if n true z p = p
small_if n false z p = record { least = omega (arith, ints); most = omega (arith, ints) }

small_set : (n k : ℕ) (sums : List ℤ) (i a : ℕ) (v z : ℤ) → i < length sums → v ≡ get_or sums i (pos 0) +ℤ z → Small n (get_or sums a (pos 0)) → Small k z → Small (n + k) (get_or (set sums i v) a (pos 0))
small_set n k sums i a v z h is p q =
    subst (λ (t : ℤ). Small (n + k) t) (sym (set_added sums i a v z h is)) (small_plus n k _ _ p (small_if k (eqb i a) z q))

pub fits_small : (n : ℕ) (z : ℤ) → n < 9223372036854775808 → Small n z → SFits w64 z
fits_small n (pos x) h p = record { sfits = omega (arith, ints, p.most) }
fits_small n (negsuc x) h p = record { sfits = omega (arith, ints, p.least) }

-- the sums after k bids
pub record Activations (bids : List Bid) (xs : List ℕ) (k : ℕ) (sums : List ℤ) : Type 0 where
  pub long : length sums ≡ 48
  pub sum : (a : ℕ) → a < 48 → get_or sums a (pos 0) ≡ activated_in a (take k bids) xs
  pub small : (a : ℕ) → a < 48 → Small (4294967296 * k) (get_or sums a (pos 0))

pub activations_none : (bids : List Bid) (xs : List ℕ) → Activations bids xs 0 (replicate 48 (pos 0))
activations_none bids xs = record {
  long = refl;
  sum = λ a h. get_or-replicate 48 a (pos 0) (pos 0) h;
  small = λ a h. subst (λ (z : ℤ). Small 0 z) (sym (get_or-replicate 48 a (pos 0) (pos 0) h)) (record { least = omega (arith, ints); most = omega (arith, ints) });
}

pub activations_more : (bids : List Bid) (xs : List ℕ) (k : ℕ) (sums : List ℤ) (d : Bid) (x : ℕ) (v : ℤ) →
    length sums ≡ 48 → k < length bids → (get_or bids k d).area < 48 → x < 4294967296 → x ≡ get_or xs k 0 →
    v ≡ get_or sums (get_or bids k d).area (pos 0) +ℤ injected (get_or bids k d).direction x →
    Activations bids xs k sums → Activations bids xs (k + 1) (set sums (get_or bids k d).area v)
activations_more bids xs k sums d x v len h below fits read is inv = record {
  long = length-set sums (get_or bids k d).area v ∙ len;
  sum = λ a low.
      set_added sums (get_or bids k d).area a v (injected (get_or bids k d).direction x) (omega arith) is
      ∙ ap (λ z. z +ℤ added_by_bid a (get_or bids k d) x) (inv.sum a low) ∙ sym (more a);
  small = λ a low.
      subst (λ (n : ℕ). Small n (get_or (set sums (get_or bids k d).area v) a (pos 0))) (omega arith)
      (small_set (4294967296 * k) 4294967296 sums (get_or bids k d).area a v (injected (get_or bids k d).direction x) (omega arith) is (inv.small a low)
      (small_injected (get_or bids k d).direction x fits));
}
  where
    more : (a : ℕ) → activated_in a (take (k + 1) bids) xs ≡ activated_in a (take k bids) xs +ℤ added_by_bid a (get_or bids k d) x
    more a =
        activated_more a bids xs k h
        ∙ ap (λ b. activated_in a (take k bids) xs +ℤ added_by_bid a b (get_or xs k 0)) (get_or_default bids k no_bid d h)
        ∙ ap (λ y. activated_in a (take k bids) xs +ℤ added_by_bid a (get_or bids k d) y) (sym read)

-- the sums after k borders, from those of the bids
pub record Flowing (base : List ℤ) (borders : List Border) (xs : List ℤ) (k : ℕ) (sums : List ℤ) : Type 0 where
  pub long : length sums ≡ 48
  pub sum : (a : ℕ) → a < 48 → get_or sums a (pos 0) ≡ get_or base a (pos 0) +ℤ flows_into a (take k borders) xs
  pub small : (a : ℕ) → a < 48 → Small (4398046511104 + 4294967296 * k) (get_or sums a (pos 0))

regroup : (base so_far out in' : ℤ) → ((base +ℤ so_far) +ℤ out) +ℤ in' ≡ base +ℤ (so_far +ℤ (in' +ℤ out))
regroup base so_far out in' = omega (arith, ints)

pub flowing_more : (base : List ℤ) (borders : List Border) (xs : List ℤ) (k : ℕ) (sums : List ℤ) (d : Border) (x u v : ℤ) →
    length sums ≡ 48 → k < length borders → (get_or borders k d).from < 48 → (get_or borders k d).to < 48 → Small 2147483648 x → x ≡ get_or xs k (pos 0) →
    u ≡ get_or sums (get_or borders k d).from (pos 0) +ℤ neg_ℤ x →
    v ≡ get_or (set sums (get_or borders k d).from u) (get_or borders k d).to (pos 0) +ℤ x →
    Flowing base borders xs k sums → Flowing base borders xs (k + 1) (set (set sums (get_or borders k d).from u) (get_or borders k d).to v)
flowing_more base borders xs k sums d x u v len h from_low to_low fits read is_u is_v inv = record {
  long = length-set (set sums (get_or borders k d).from u) (get_or borders k d).to v ∙ (length-set sums (get_or borders k d).from u ∙ len);
  sum = λ a low.
      set_added (set sums (get_or borders k d).from u) (get_or borders k d).to a v x to_in is_v
      ∙ ap (λ z. z +ℤ cond (eqb (get_or borders k d).to a) x (pos 0)) (set_added sums (get_or borders k d).from a u (neg_ℤ x) from_in is_u ∙ ap (λ z. z +ℤ cond (eqb (get_or borders k d).from a) (neg_ℤ x) (pos 0)) (inv.sum a low))
      ∙ regroup (get_or base a (pos 0)) (flows_into a (take k borders) xs) (cond (eqb (get_or borders k d).from a) (neg_ℤ x) (pos 0)) (cond (eqb (get_or borders k d).to a) x (pos 0))
      ∙ ap (λ z. get_or base a (pos 0) +ℤ z) (sym (more a));
  small = λ a low.
      subst (λ (n : ℕ). Small n (get_or (set (set sums (get_or borders k d).from u) (get_or borders k d).to v) a (pos 0))) (omega arith)
      (small_set (4398046511104 + 4294967296 * k + 2147483648) 2147483648 (set sums (get_or borders k d).from u) (get_or borders k d).to a v x to_in is_v
      (small_set (4398046511104 + 4294967296 * k) 2147483648 sums (get_or borders k d).from a u (neg_ℤ x) from_in is_u (inv.small a low) (small_negℤ x fits)) fits);
}
  where
    from_in : (get_or borders k d).from < length sums
    from_in = omega arith

    to_in : (get_or borders k d).to < length (set sums (get_or borders k d).from u)
    to_in = simp length-set (omega arith)

    small_negℤ : (z : ℤ) → Small 2147483648 z → Small 2147483648 (neg_ℤ z)
    small_negℤ z p = record { least = omega (arith, ints, p.most); most = omega (arith, ints, p.least) }

    more : (a : ℕ) → flows_into a (take (k + 1) borders) xs ≡ flows_into a (take k borders) xs +ℤ added_by_border a (get_or borders k d) x
    more a =
        flows_more a borders xs k h
        ∙ ap (λ b. flows_into a (take k borders) xs +ℤ added_by_border a b (get_or xs k (pos 0))) (get_or_default borders k no_border d h)
        ∙ ap (λ y. flows_into a (take k borders) xs +ℤ added_by_border a (get_or borders k d) y) (sym read)

-- one turn over the bids: the area is known, the sum fits, and the sums are those of one bid more
pub record Turned (bids : List Bid) (xs : List ℕ) (k : ℕ) (sums : List ℤ) (area : ℕ) (amount : ℤ) : Type 0 where
  pub known : area < 48
  pub fits : SFits w64 (get_or sums area (pos 0) +ℤ amount)
  pub more : Activations bids xs (k + 1) (set sums area (get_or sums area (pos 0) +ℤ amount))

pub turned : (ds : List ℤ) (bs : List Border) (os : List Bid) → ∥ Valid (case_of ds bs os) ∥₁ → (items : List Bid) → items ≡ os →
    (xs : List ℕ) (k : ℕ) (sums : List ℤ) (area x : ℕ) (amount : ℤ) → k < length items →
    area ≡ (get_or items k no_bid).area → x < 4294967296 → x ≡ get_or xs k 0 → amount ≡ injected (get_or items k no_bid).direction x →
    Activations os xs k sums → Turned os xs k sums area amount
turned ds bs os valid items same xs k sums area x amount h area_at small_x read amount_at inv =
    let within : k < length os = omega (arith, ap length same) in
    let area_is : area ≡ (get_or os k no_bid).area = area_at ∙ ap (λ (l : List Bid). (get_or l k no_bid).area) same in
    let amount_is : amount ≡ injected (get_or os k no_bid).direction x = amount_at ∙ ap (λ (l : List Bid). injected (get_or l k no_bid).direction x) same in
    let below : (get_or os k no_bid).area < 48 = bid_area_below ds bs os valid k no_bid within in
    let few : length os ≤ 1024 = few_bids ds bs os valid in
    let len : length sums ≡ 48 = inv.long in
    let low : area < 48 = omega (arith, area_is, below) in
    record {
      known = low;
      fits = fits_small (4294967296 * k + 4294967296) _ (omega arith)
          (small_plus (4294967296 * k) 4294967296 _ _ (inv.small area low)
          (subst (λ (z : ℤ). Small 4294967296 z) (sym amount_is) (small_injected (get_or os k no_bid).direction x small_x)));
      more = subst (λ (t : ℕ). Activations os xs (k + 1) (set sums t (get_or sums area (pos 0) +ℤ amount))) (sym area_is)
          (activations_more os xs k sums no_bid x (get_or sums area (pos 0) +ℤ amount) inv.long within below small_x read
          (ap (λ t. get_or sums t (pos 0) +ℤ amount) area_is ∙ ap (λ z. get_or sums (get_or os k no_bid).area (pos 0) +ℤ z) amount_is) inv);
    }

-- one turn over the borders: both areas are known, both sums fit, and the sums are those of one border more
pub record Flowed (base : List ℤ) (borders : List Border) (xs : List ℤ) (k : ℕ) (sums : List ℤ) (from to : ℕ) (out in' : ℤ) : Type 0 where
  pub from_known : from < 48
  pub to_known : to < 48
  pub out_fits : SFits w64 (get_or sums from (pos 0) +ℤ out)
  pub in_fits : SFits w64 (get_or (set sums from (get_or sums from (pos 0) +ℤ out)) to (pos 0) +ℤ in')
  pub more : Flowing base borders xs (k + 1) (set (set sums from (get_or sums from (pos 0) +ℤ out)) to (get_or (set sums from (get_or sums from (pos 0) +ℤ out)) to (pos 0) +ℤ in'))

pub flowed : (ds : List ℤ) (bs : List Border) (os : List Bid) → ∥ Valid (case_of ds bs os) ∥₁ → (items : List Border) → items ≡ bs →
    (base : List ℤ) (xs : List ℤ) (k : ℕ) (sums : List ℤ) (from to : ℕ) (x out in' : ℤ) → k < length items →
    from ≡ (get_or items k no_border).from → to ≡ (get_or items k no_border).to → Small 2147483648 x → x ≡ get_or xs k (pos 0) → out ≡ neg_ℤ x → in' ≡ x →
    Flowing base bs xs k sums → Flowed base bs xs k sums from to out in'
flowed ds bs os valid items same base xs k sums from to x out in' h from_at to_at small_x read out_is in_is inv =
    let within : k < length bs = omega (arith, ap length same) in
    let from_is : from ≡ (get_or bs k no_border).from = from_at ∙ ap (λ (l : List Border). (get_or l k no_border).from) same in
    let to_is : to ≡ (get_or bs k no_border).to = to_at ∙ ap (λ (l : List Border). (get_or l k no_border).to) same in
    let from_below' : (get_or bs k no_border).from < 48 = from_below ds bs os valid k no_border within in
    let to_below' : (get_or bs k no_border).to < 48 = to_below ds bs os valid k no_border within in
    let few : length bs ≤ 128 = few_borders ds bs os valid in
    let len : length sums ≡ 48 = inv.long in
    let from_low : from < 48 = omega (arith, from_is, from_below') in
    let to_low : to < 48 = omega (arith, to_is, to_below') in
    let small_out : Small 2147483648 out = record { least = omega (arith, ints, small_x.most); most = omega (arith, ints, small_x.least) } in
    let small_in : Small 2147483648 in' = subst (λ (z : ℤ). Small 2147483648 z) (sym in_is) small_x in
    record {
      from_known = from_low;
      to_known = to_low;
      out_fits = fits_small (4398046511104 + 4294967296 * k + 2147483648) _ (omega arith)
          (small_plus (4398046511104 + 4294967296 * k) 2147483648 _ _ (inv.small from from_low) small_out);
      in_fits = fits_small (4398046511104 + 4294967296 * k + 2147483648 + 2147483648) _ (omega arith)
          (small_plus (4398046511104 + 4294967296 * k + 2147483648) 2147483648 _ _
          (small_set (4398046511104 + 4294967296 * k) 2147483648 sums from to _ out (omega arith) refl (inv.small to to_low) small_out) small_in);
      more =
          subst (λ (p : ℕ). Flowing base bs xs (k + 1) (set (set sums p (get_or sums from (pos 0) +ℤ out)) to (get_or (set sums from (get_or sums from (pos 0) +ℤ out)) to (pos 0) +ℤ in'))) (sym from_is)
          (subst (λ (q : ℕ). Flowing base bs xs (k + 1) (set (set sums (get_or bs k no_border).from (get_or sums from (pos 0) +ℤ out)) q (get_or (set sums from (get_or sums from (pos 0) +ℤ out)) to (pos 0) +ℤ in'))) (sym to_is)
          (flowing_more base bs xs k sums no_border x (get_or sums from (pos 0) +ℤ out) (get_or (set sums from (get_or sums from (pos 0) +ℤ out)) to (pos 0) +ℤ in')
          inv.long within from_below' to_below' small_x read
          (ap (λ t. get_or sums t (pos 0) +ℤ out) from_is ∙ ap (λ z. get_or sums (get_or bs k no_border).from (pos 0) +ℤ z) out_is)
          (ap (λ t. get_or (set sums t (get_or sums from (pos 0) +ℤ out)) to (pos 0) +ℤ in') from_is
          ∙ ap (λ t. get_or (set sums (get_or bs k no_border).from (get_or sums from (pos 0) +ℤ out)) t (pos 0) +ℤ in') to_is
          ∙ ap (λ z. get_or (set sums (get_or bs k no_border).from (get_or sums from (pos 0) +ℤ out)) (get_or bs k no_border).to (pos 0) +ℤ z) in_is)
          inv));
    }

pub flowing_none : (base : List ℤ) (borders : List Border) (xs : List ℤ) → length base ≡ 48 → ((a : ℕ) → a < 48 → (neg_ℤ (pos 4398046511104) ≤ℤ get_or base a (pos 0)) × (get_or base a (pos 0) ≤ℤ pos 4398046511104)) → Flowing base borders xs 0 base
flowing_none base borders xs len small = record {
  long = len;
  sum = λ a h. omega (arith, ints);
  small = λ a h. record { least = (small a h).0; most = (small a h).1 };
}

-- at the end of the bids: the sums over all of them, none past 2^42
pub activations_all : (ds : List ℤ) (bs : List Border) (os : List Bid) → ∥ Valid (case_of ds bs os) ∥₁ → (xs : List ℕ) (k : ℕ) (sums : List ℤ) → k ≡ length os → Activations os xs k sums →
    ((a : ℕ) → a < 48 → get_or sums a (pos 0) ≡ activated_in a os xs) × ((a : ℕ) → a < 48 → (neg_ℤ (pos 4398046511104) ≤ℤ get_or sums a (pos 0)) × (get_or sums a (pos 0) ≤ℤ pos 4398046511104))
activations_all ds bs os valid xs k sums e inv =
    let few : length os ≤ 1024 = few_bids ds bs os valid in (
      λ a h. inv.sum a h ∙ ap (λ l. activated_in a l xs) (take_all k os (omega arith)),
      λ a h. (omega (arith, ints, (inv.small a h).least), omega (arith, ints, (inv.small a h).most)),
    )

pub flowing_all : (base : List ℤ) (bs : List Border) (xs : List ℤ) (k : ℕ) (sums : List ℤ) → k ≡ length bs → Flowing base bs xs k sums → (a : ℕ) → a < 48 → get_or sums a (pos 0) ≡ get_or base a (pos 0) +ℤ flows_into a bs xs
flowing_all base bs xs k sums e inv a h = inv.sum a h ∙ ap (λ l. get_or base a (pos 0) +ℤ flows_into a l xs) (take_all k bs (omega arith))

-- a flow of 32 bits, as the code has it in 64
pub small_flow : (x : ℤ) → mag x < 2147483648 → Small 2147483648 x
small_flow (pos n) h = record { least = omega (arith, ints); most = omega (arith, ints) }
small_flow (negsuc n) h = record { least = omega (arith, ints); most = omega (arith, ints) }

pub inflow_is : (x y : ℤ) → mag x < 2147483648 → mag y < 9223372036854775808 → y ≡ to_z w32 (of_z w32 x) → to_z w64 (of_z w64 y) ≡ x
inflow_is x y small fits e = to_z-of_z w64 y (record { sfits = fits }) ∙ (e ∙ to_z-of_z w32 x (record { sfits = small }))

pub outflow_is : (x y : ℤ) → mag x < 2147483648 → mag y < 9223372036854775808 → y ≡ to_z w32 (of_z w32 x) → to_z w64 (of_z w64 (pos 0 -ℤ to_z w64 (of_z w64 y))) ≡ neg_ℤ x
outflow_is x y small fits e =
    ap (λ z. to_z w64 (of_z w64 (pos 0 -ℤ z))) (inflow_is x y small fits e)
    ∙ (to_z-of_z w64 (pos 0 -ℤ x) (fits_small 2147483648 (pos 0 -ℤ x) (omega arith) minus) ∙ omega (arith, ints))
  where
    flow : Small 2147483648 x
    flow = small_flow x small

    minus : Small 2147483648 (pos 0 -ℤ x)
    minus = record { least = omega (arith, ints, flow.most); most = omega (arith, ints, flow.least) }
