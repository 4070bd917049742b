-- What the items of a case come to: their total is the selection's total, and the net of a node is the balance of its area. Assumes nothing.
--
--     Sized      a selection has one amount for each record
--     Parts      what holds of every demand, border and bid with its amount
use Rattle.std.proofs.Common.{◌≡◌, ℕ, zero, suc, ◌+◌, ◌<◌, cond, eqb, List, [], ◌∷◌, ◌++◌, map, length, get_or, ℤ, pos, negsuc, ◌+ℤ◌, neg_ℤ, nat_abs, sym, refl, ap, ◌∙◌, subst, ap₂, arith}
use lib.Dec.{eqb-suc-suc, eqb-zero-suc}
use lib.IntN.{+ℤ_idl, +ℤ_idr, +ℤ_invr}
use borrow.Author.Differences.{ints}
use Rattle.std.proofs.lemmas.Bool.{eq-eqb, ne_eqb}
use Rattle.std.proofs.lemmas.List.{length-map, get_or_append_left}
use Rattle.scale.specs.Meaning.{Meaning, Laws}
use Rattle.market.specs.declared.trade.Direction.{Direction}
use Rattle.market.specs.declared.trade.Direction.TheVariants.{Up, Down}
use Rattle.market.specs.declared.trade.Border.{Border}
use Rattle.market.specs.declared.trade.Bid.{Bid}
use Rattle.market.specs.Cases.{Case, areas}
use Rattle.market.specs.Selections.{Selection, injected, brought, flows_into, activated_in, net}
use Rattle.market.specs.Totals.{bid_cost, satisfied_total, activated_total, total}
use Rattle.market.specs.Totals as Totals
use Rattle.optimality.proofs.Groups.{Group}
use Rattle.optimality.proofs.Multiples.{times, scaled, scaled_neg, scaled_times, scaled_of_opposite, scaled_of_zero}
use Rattle.optimality.proofs.Families.{whole, gather, gather_append, gather_same, Each, shift}
use Rattle.optimality.proofs.Items.{Item, effect, net_at, InBounds, moved_by, each_append, each_left, each_right, each_same}
use Rattle.optimality.proofs.Book.{of_meaning, demand_item, demand_items, border_item, bid_item_of, bid_item, items, listed, amounts}

pub record Sized (c : Case) (s : Selection) : Type 0 where
  pub satisfied_count : length s.satisfied ≡ areas c
  pub flows_count : length s.flows ≡ length c.borders
  pub activated_count : length s.activated ≡ length c.bids

shift_listed : {I : Type 0} (is : List I) (xs ys : List ℤ) → length xs ≡ length is → shift is (listed (xs ++ ys)) ≡ listed ys
shift_listed [] [] ys e = refl
shift_listed [] (x ∷ xs) ys e = absurd (omega arith)
shift_listed (i ∷ is) [] ys e = absurd (omega arith)
shift_listed (i ∷ is) (x ∷ xs) ys e = shift_listed is xs ys (omega arith)

listed_left : (xs ys : List ℤ) (k : ℕ) → k < length xs → listed (xs ++ ys) k ≡ listed xs k
listed_left xs ys k h = get_or_append_left xs ys (pos 0) k h

pub length_demand_items : (m : Meaning) (a : ℕ) (ds : List ℤ) → length (demand_items m a ds) ≡ length ds
length_demand_items m a [] = refl
length_demand_items m a (d ∷ ds) = ap suc (length_demand_items m (suc a) ds)

-- the three families of a case, each with its amounts
pub record Parts (m : Meaning) (P : Item m.Value → ℤ → Type 0) (c : Case) (s : Selection) : Type 0 where
  pub demands : Each P (demand_items m 0 c.demands) (listed s.satisfied)
  pub borders : Each P (map (border_item m) c.borders) (listed s.flows)
  pub bids : Each P (map (bid_item m) c.bids) (listed (map pos s.activated))

module _ (m : Meaning) (c : Case) (s : Selection) (sized : Sized c s) where
  ds : List (Item m.Value)
  ds = demand_items m 0 c.demands

  bs : List (Item m.Value)
  bs = map (border_item m) c.borders

  rest : List ℤ
  rest = s.flows ++ map pos s.activated

  ds_long : length s.satisfied ≡ length (demand_items m 0 c.demands)
  ds_long = sized.satisfied_count ∙ sym (length_demand_items m 0 c.demands)

  bs_long : length s.flows ≡ length (map (border_item m) c.borders)
  bs_long = sized.flows_count ∙ sym (length-map c.borders (border_item m))

  pub from_parts : (P : Item m.Value → ℤ → Type 0) → Parts m P c s → Each P (items m c) (amounts s)
  unfolding rest ds bs
  from_parts P parts =
      each_append P ds (bs ++ map (bid_item m) c.bids) (amounts s)
      (each_same P ds (listed s.satisfied) (amounts s) (λ k h. sym (listed_left s.satisfied rest k (subst (λ n. k < n) (sym ds_long) h))) parts.demands)
      (subst (Each P (bs ++ map (bid_item m) c.bids)) (sym (shift_listed ds s.satisfied rest ds_long))
      (each_append P bs (map (bid_item m) c.bids) (listed rest)
      (each_same P bs (listed s.flows) (listed rest) (λ k h. sym (listed_left s.flows (map pos s.activated) k (subst (λ n. k < n) (sym bs_long) h))) parts.borders)
      (subst (Each P (map (bid_item m) c.bids)) (sym (shift_listed bs s.flows (map pos s.activated) bs_long)) parts.bids)))

  pub to_parts : (P : Item m.Value → ℤ → Type 0) → Each P (items m c) (amounts s) → Parts m P c s
  unfolding rest ds bs
  to_parts P each =
      let behind : Each P (bs ++ map (bid_item m) c.bids) (listed rest) = subst (Each P (bs ++ map (bid_item m) c.bids)) (shift_listed ds s.satisfied rest ds_long) (each_right P ds (bs ++ map (bid_item m) c.bids) (amounts s) each) in
      record {
        demands =
            each_same P ds (amounts s) (listed s.satisfied) (λ k h. listed_left s.satisfied rest k (subst (λ n. k < n) (sym ds_long) h))
            (each_left P ds (bs ++ map (bid_item m) c.bids) (amounts s) each);
        borders =
            each_same P bs (listed rest) (listed s.flows) (λ k h. listed_left s.flows (map pos s.activated) k (subst (λ n. k < n) (sym bs_long) h))
            (each_left P bs (map (bid_item m) c.bids) (listed rest) behind);
        bids =
            subst (Each P (map (bid_item m) c.bids)) (shift_listed bs s.flows (map pos s.activated) bs_long)
            (each_right P bs (map (bid_item m) c.bids) (listed rest) behind);
      }

  pub gather_parts : (H : Group) (f : Item m.Value → H.Value) →
      gather H f (items m c) (amounts s)
      ≡ H.plus (gather H f (demand_items m 0 c.demands) (listed s.satisfied))
      (H.plus (gather H f (map (border_item m) c.borders) (listed s.flows)) (gather H f (map (bid_item m) c.bids) (listed (map pos s.activated))))
  unfolding rest ds bs
  gather_parts H f =
      gather_append H f ds (bs ++ map (bid_item m) c.bids) (amounts s)
      ∙ ap₂ H.plus
      (gather_same H f ds (amounts s) (listed s.satisfied) (λ k h. listed_left s.satisfied rest k (subst (λ n. k < n) (sym ds_long) h)))
      (ap (gather H f (bs ++ map (bid_item m) c.bids)) (shift_listed ds s.satisfied rest ds_long)
      ∙ gather_append H f bs (map (bid_item m) c.bids) (listed rest)
      ∙ ap₂ H.plus
      (gather_same H f bs (listed rest) (listed s.flows) (λ k h. listed_left s.flows (map pos s.activated) k (subst (λ n. k < n) (sym bs_long) h)))
      (ap (gather H f (map (bid_item m) c.bids)) (shift_listed bs s.flows (map pos s.activated) bs_long)))

-- ---- totals
module _ (m : Meaning) (laws : Laws m) where
  abbrev G : Group
  G = of_meaning m laws

  times_is : (n : ℕ) (v : m.Value) → Totals.times m n v ≡ times G n v
  times_is zero v = refl
  times_is (suc n) v = ap (m.plus v) (times_is n v)

  demand_cost : (a : ℕ) (d x : ℤ) → InBounds (demand_item m a d) x → Totals.times m (nat_abs x) m.satisfied ≡ scaled G x (demand_item m a d).cost
  demand_cost a (pos n) (pos k) b = times_is k m.satisfied ∙ sym (scaled_times G k m.satisfied)
  demand_cost a (pos n) (negsuc k) b = absurd (omega (arith, ints, b.0))
  demand_cost a (negsuc n) (pos zero) b = sym (scaled_times G 0 (m.opposite m.satisfied))
  demand_cost a (negsuc n) (pos (suc k)) b = absurd (omega (arith, ints, b.1))
  demand_cost a (negsuc n) (negsuc k) b =
      times_is (suc k) m.satisfied
      ∙ sym (scaled_times G (suc k) m.satisfied)
      ∙ scaled_neg G (negsuc k) m.satisfied
      ∙ sym (scaled_of_opposite G (negsuc k) m.satisfied)

  satisfied_is : (a : ℕ) (ds xs : List ℤ) → length xs ≡ length ds → Each InBounds (demand_items m a ds) (listed xs) → satisfied_total m xs ≡ gather G (λ i. i.cost) (demand_items m a ds) (listed xs)
  satisfied_is a [] [] e b = refl
  satisfied_is a [] (x ∷ xs) e b = absurd (omega arith)
  satisfied_is a (d ∷ ds) [] e b = absurd (omega arith)
  satisfied_is a (d ∷ ds) (x ∷ xs) e b =
      ap₂ m.plus (demand_cost a d x (b 0 (demand_item m a d) (omega arith)))
      (satisfied_is (suc a) ds xs (omega arith) (λ k i h. b (suc k) i (omega arith)))

  bid_cost_is : (d : Direction) (area volume : ℕ) (price : ℤ) → bid_cost m d price ≡ (bid_item_of m d area volume price).cost
  bid_cost_is Up area volume price = refl
  bid_cost_is Down area volume price = refl

  activated_is : (bs : List Bid) (xs : List ℕ) → length xs ≡ length bs → activated_total m bs xs ≡ gather G (λ i. i.cost) (map (bid_item m) bs) (listed (map pos xs))
  activated_is [] xs e = refl
  activated_is (b ∷ bs) [] e = absurd (omega arith)
  activated_is (b ∷ bs) (x ∷ xs) e =
      ap₂ m.plus
      (times_is x (bid_cost m b.direction b.price) ∙ sym (scaled_times G x (bid_cost m b.direction b.price))
      ∙ ap (scaled G (pos x)) (bid_cost_is b.direction b.area b.volume b.price))
      (activated_is bs xs (omega arith))

  borders_free : (bs : List Border) (x : ℕ → ℤ) → gather G (λ i. i.cost) (map (border_item m) bs) x ≡ m.zero
  borders_free [] x = refl
  borders_free (b ∷ bs) x = ap₂ m.plus (scaled_of_zero G (x 0)) (borders_free bs (λ k. x (suc k))) ∙ laws.zero_plus m.zero

  pub total_is : (c : Case) (s : Selection) → Sized c s → Each InBounds (items m c) (amounts s) → total m c s ≡ gather G (λ i. i.cost) (items m c) (amounts s)
  total_is c s sized b =
      ap₂ m.plus (satisfied_is 0 c.demands s.satisfied sized.satisfied_count (to_parts m c s sized InBounds b).demands)
      (activated_is c.bids s.activated sized.activated_count
      ∙ sym (laws.zero_plus (gather G (λ i. i.cost) (map (bid_item m) c.bids) (listed (map pos s.activated))))
      ∙ ap (λ v. m.plus v (gather G (λ i. i.cost) (map (bid_item m) c.bids) (listed (map pos s.activated)))) (sym (borders_free c.borders (listed s.flows))))
      ∙ sym (gather_parts m c s sized G (λ i. i.cost))

-- ---- balances
module _ (m : Meaning) where
  bid_moves : (d : Direction) (area volume : ℕ) (price : ℤ) (x a : ℕ) → scaled whole (pos x) (effect (bid_item_of m d area volume price) (suc a)) ≡ cond (eqb area a) (injected d x) (pos 0)
  bid_moves Up area volume price x a =
      moved_by (bid_item_of m Up area volume price) (pos x) (suc a)
      ∙ ap₂ (λ s t. cond s (pos x) (pos 0) +ℤ cond t (neg_ℤ (pos x)) (pos 0)) (eqb-suc-suc area a) (eqb-zero-suc a)
      ∙ +ℤ_idr (cond (eqb area a) (pos x) (pos 0))
  bid_moves Down area volume price x a =
      moved_by (bid_item_of m Down area volume price) (pos x) (suc a)
      ∙ ap₂ (λ s t. cond s (pos x) (pos 0) +ℤ cond t (neg_ℤ (pos x)) (pos 0)) (eqb-zero-suc a) (eqb-suc-suc area a)
      ∙ +ℤ_idl (cond (eqb area a) (neg_ℤ (pos x)) (pos 0))

  border_moves : (b : Border) (x : ℤ) (a : ℕ) → scaled whole x (effect (border_item m b) (suc a)) ≡ brought b x a
  border_moves b x a =
      moved_by (border_item m b) x (suc a)
      ∙ ap₂ (λ s t. cond s x (pos 0) +ℤ cond t (neg_ℤ x) (pos 0)) (eqb-suc-suc b.to a) (eqb-suc-suc b.from a)

  demand_moves : (b : ℕ) (d x : ℤ) (a : ℕ) → scaled whole x (effect (demand_item m b d) (suc a)) ≡ cond (eqb b a) (neg_ℤ x) (pos 0)
  demand_moves b (pos n) x a =
      moved_by (demand_item m b (pos n)) x (suc a)
      ∙ ap₂ (λ s t. cond s x (pos 0) +ℤ cond t (neg_ℤ x) (pos 0)) (eqb-zero-suc a) (eqb-suc-suc b a)
      ∙ +ℤ_idl (cond (eqb b a) (neg_ℤ x) (pos 0))
  demand_moves b (negsuc n) x a =
      moved_by (demand_item m b (negsuc n)) x (suc a)
      ∙ ap₂ (λ s t. cond s x (pos 0) +ℤ cond t (neg_ℤ x) (pos 0)) (eqb-zero-suc a) (eqb-suc-suc b a)
      ∙ +ℤ_idl (cond (eqb b a) (neg_ℤ x) (pos 0))

  activated_in_is : (bs : List Bid) (xs : List ℕ) (a : ℕ) → length xs ≡ length bs → net_at (map (bid_item m) bs) (listed (map pos xs)) (suc a) ≡ activated_in a bs xs
  activated_in_is [] xs a e = refl
  activated_in_is (b ∷ bs) [] a e = absurd (omega arith)
  activated_in_is (b ∷ bs) (x ∷ xs) a e =
      ap₂ (λ s t. s +ℤ t) (bid_moves b.direction b.area b.volume b.price x a) (activated_in_is bs xs a (omega arith))

  flows_into_is : (bs : List Border) (xs : List ℤ) (a : ℕ) → length xs ≡ length bs → net_at (map (border_item m) bs) (listed xs) (suc a) ≡ flows_into a bs xs
  flows_into_is [] xs a e = refl
  flows_into_is (b ∷ bs) [] a e = absurd (omega arith)
  flows_into_is (b ∷ bs) (x ∷ xs) a e = ap₂ (λ s t. s +ℤ t) (border_moves b x a) (flows_into_is bs xs a (omega arith))

  demands_below : (b : ℕ) (ds : List ℤ) (x : ℕ → ℤ) (a : ℕ) → a < b → net_at (demand_items m b ds) x (suc a) ≡ pos 0
  demands_below b [] x a h = refl
  demands_below b (d ∷ ds) x a h =
      ap₂ (λ s t. s +ℤ t) (demand_moves b d (x 0) a ∙ ap (λ t. cond t (neg_ℤ (x 0)) (pos 0)) (ne_eqb b a (λ e. omega arith)))
      (demands_below (suc b) ds (λ k. x (suc k)) a (omega arith))

  demands_at : (b : ℕ) (ds : List ℤ) (x : ℕ → ℤ) (k a : ℕ) → b + k ≡ a → k < length ds → net_at (demand_items m b ds) x (suc a) ≡ neg_ℤ (x k)
  demands_at b [] x k a e h = absurd (omega arith)
  demands_at b (d ∷ ds) x zero a e h =
      ap₂ (λ s t. s +ℤ t) (demand_moves b d (x 0) a ∙ ap (λ t. cond t (neg_ℤ (x 0)) (pos 0)) (eq-eqb b a (omega arith)))
      (demands_below (suc b) ds (λ k. x (suc k)) a (omega arith))
      ∙ +ℤ_idr (neg_ℤ (x 0))
  demands_at b (d ∷ ds) x (suc k) a e h =
      ap₂ (λ s t. s +ℤ t) (demand_moves b d (x 0) a ∙ ap (λ t. cond t (neg_ℤ (x 0)) (pos 0)) (ne_eqb b a (λ l. omega arith)))
      (demands_at (suc b) ds (λ j. x (suc j)) k a (omega arith) (omega arith))
      ∙ +ℤ_idl (neg_ℤ (x (suc k)))

  regroup : (s f a : ℤ) → neg_ℤ s +ℤ (f +ℤ a) ≡ (a +ℤ f) +ℤ neg_ℤ s
  regroup s f a = omega (arith, ints)

  pub net_is : (c : Case) (s : Selection) (a : ℕ) → Sized c s → a < areas c → net_at (items m c) (amounts s) (suc a) ≡ net c s a +ℤ neg_ℤ (get_or s.satisfied a (pos 0))
  net_is c s a sized h =
      gather_parts m c s sized whole (λ i. effect i (suc a))
      ∙ ap₂ (λ x y. x +ℤ y) (demands_at 0 c.demands (listed s.satisfied) a a (omega arith) h)
      (ap₂ (λ x y. x +ℤ y) (flows_into_is c.borders s.flows a sized.flows_count) (activated_in_is c.bids s.activated a sized.activated_count))
      ∙ regroup (get_or s.satisfied a (pos 0)) (flows_into a c.borders s.flows) (activated_in a c.bids s.activated)

  pub net_none : (c : Case) (s : Selection) (a : ℕ) → Sized c s → a < areas c → net c s a ≡ get_or s.satisfied a (pos 0) → net_at (items m c) (amounts s) (suc a) ≡ pos 0
  net_none c s a sized h e = net_is c s a sized h ∙ ap (λ z. z +ℤ neg_ℤ (get_or s.satisfied a (pos 0))) e ∙ +ℤ_invr (get_or s.satisfied a (pos 0))

  balances : (n s t : ℤ) → t ≡ n +ℤ neg_ℤ s → t ≡ pos 0 → n ≡ s
  balances n s t e z = omega (arith, ints)

  pub net_balances : (c : Case) (s : Selection) (a : ℕ) → Sized c s → a < areas c → net_at (items m c) (amounts s) (suc a) ≡ pos 0 → net c s a ≡ get_or s.satisfied a (pos 0)
  net_balances c s a sized h e = balances (net c s a) (get_or s.satisfied a (pos 0)) (net_at (items m c) (amounts s) (suc a)) (net_is c s a sized h) e
