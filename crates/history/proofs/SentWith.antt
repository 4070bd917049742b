-- A selection within the limits, sent with prices in range, is read back as it was sent. Assumes nothing.
use Rattle.std.proofs.Common.{◌≡◌, ℕ, suc, ◌+◌, ◌*◌, ◌^◌, ◌<◌, ◌≤◌, true, cond, ◌&&◌, T, eqb, leb, List, [], ◌∷◌, map, length, get_or, take, drop, ℤ, pos, negsuc, neg_ℤ, ◌≤ℤ◌, Some, None, Ok, ap, ◌∙◌, mul-le-mul_left, mul-suc, arith, length-drop, length-take, w32, w64, SFits}
use lib.Signed.{le_z}
use Rattle.std.specs.Int.{int_min, int_max}
use Rattle.std.specs.List.{AllByRecursion}
use Rattle.std.proofs.ByRecursion.{All-get_or, All-from_get_or}
use Rattle.std.proofs.lemmas.List.{length-map, get_or-map}
use Rattle.std.proofs.lemmas.Int.{ints, clamps}
use Rattle.std.proofs.lemmas.Bool.{and_parts, and_from, le-leb, eq-eqb, leb-true}
use Rattle.scale.specs.Meaning.{Meaning, Laws}
use Rattle.scale.specs.Levels.{numbers, read_bytes}
use Rattle.market.specs.declared.trade.Border.{Border}
use Rattle.market.specs.declared.trade.Bid.{Bid}
use Rattle.market.specs.Cases.{Case, Valid, areas, demand_at, border_at, bid_at, no_border, no_bid, demand_in_range, limits_in_range, bid_in_range}
use Rattle.market.specs.Selections.{Selection, WithinLimits, satisfied_allowed, flow_allowed, activated_allowed}
use Rattle.market.specs.Prices.{Fits}
use Rattle.market.proofs.Firsts.{and_then_both}
use Rattle.layout.specs.ProposalBytes.{counts_of, prices_part, price_part, proposal_end, prices_offset}
use Rattle.layout.specs.Exact.{Writable}
use Rattle.layout.proofs.ExactlyProposals.{proposal_layout}
use Rattle.layout.proofs.Proposals.{taken_length}
use Rattle.fitting.specs.Judged.{judged}
use Rattle.fitting.proofs.Passed.{so, yes_so, passed_from_fits, judged_passed}
use Rattle.cycle.specs.Calls.{submit_answer, proposed, price_in}
use Rattle.history.specs.Histories.{sent_with}
use Rattle.history.specs.Proposals.{Proposes}

-- amounts within the limits fit 32 bits
at_most : (a b : ℤ) → le_z a b ≡ true → a ≤ℤ b
at_most a b e = record { le = so _ e }

fits_32 : (x : ℤ) → negsuc 19999999 ≤ℤ x → x ≤ℤ pos 20000000 → SFits w32 x
fits_32 (pos n) low high = record { sfits = omega (arith, ints) }
fits_32 (negsuc n) low high = record { sfits = omega (arith, ints) }

satisfied_fits : (d x : ℤ) → T (demand_in_range d) → T (satisfied_allowed d x) → SFits w32 x
satisfied_fits d x range ok =
    let r = and_parts (le_z (negsuc 19999999) d) (le_z d (pos 20000000)) (yes_so _ range) in
    let a = and_parts (le_z (int_min (pos 0) d) x) (le_z x (int_max (pos 0) d)) (yes_so _ ok) in
    let low : negsuc 19999999 ≤ℤ d = at_most _ _ r.0 in
    let high : d ≤ℤ pos 20000000 = at_most _ _ r.1 in
    let least : int_min (pos 0) d ≤ℤ x = at_most _ _ a.0 in
    let most : x ≤ℤ int_max (pos 0) d = at_most _ _ a.1 in
    fits_32 x (omega (arith, ints, clamps)) (omega (arith, ints, clamps))

flow_fits : (b : Border) (x : ℤ) → T (limits_in_range b) → T (flow_allowed b x) → SFits w32 x
flow_fits b x range ok =
    let r = and_parts (leb b.forward 20000000) (leb b.backward 20000000) (yes_so _ range) in
    let a = and_parts (le_z (neg_ℤ (pos b.backward)) x) (le_z x (pos b.forward)) (yes_so _ ok) in
    let forward : b.forward ≤ 20000000 = leb-true _ _ r.0 in
    let backward : b.backward ≤ 20000000 = leb-true _ _ r.1 in
    let least : neg_ℤ (pos b.backward) ≤ℤ x = at_most _ _ a.0 in
    let most : x ≤ℤ pos b.forward = at_most _ _ a.1 in
    fits_32 x (omega (arith, ints)) (omega (arith, ints))

activated_fits : (b : Bid) (x : ℕ) → T (bid_in_range b) → T (activated_allowed b x) → x < 2 ^ 32
activated_fits b x range ok =
    let low : x ≤ b.volume = leb-true x b.volume (yes_so _ ok) in
    let volume : b.volume ≤ 9999000 = leb-true b.volume 9999000 (and_parts (leb b.volume 9999000) _ (yes_so _ range)).0 in
    omega arith

written_all : (m : Meaning) → Laws m → m.levels ≤ 16 → (prices : List m.Value) → AllByRecursion (λ v. T (m.in_range v)) prices → AllByRecursion (λ p. (length p ≡ m.levels) × AllByRecursion (SFits w64) p) (map m.written prices)
written_all m laws few [] ok = tt
written_all m laws few (v ∷ vs) ok = ((laws.written_count few v ok.0, laws.written_fits few v ok.0), written_all m laws few vs ok.1)

-- a price that is written is read as it was
reads_back : (m : Meaning) → Laws m → m.levels ≤ 16 → (v : m.Value) → T (m.in_range v) → (bs : List ℕ) → length bs ≡ 8 * m.levels → numbers m.levels bs ≡ m.written v → read_bytes m bs ≡ Some v
reads_back m laws few v ok bs long e =
    let same : m.value (numbers m.levels bs) ≡ v = ap m.value e ∙ laws.value_written few v ok in
    let counted : length (numbers m.levels bs) ≡ m.levels = ap length e ∙ laws.written_count few v ok in
    let test : (leb m.levels 16 && (eqb (length (numbers m.levels bs)) m.levels && m.in_range (m.value (numbers m.levels bs)))) ≡ true =
    and_from _ _ (le-leb _ _ few) (and_from _ _ (eq-eqb _ _ counted) (ap m.in_range same ∙ yes_so _ ok)) in
    ap (λ b. cond b (cond (leb m.levels 16 && (eqb (length (numbers m.levels bs)) m.levels && m.in_range (m.value (numbers m.levels bs)))) (Some (m.value (numbers m.levels bs))) None) None) (eq-eqb _ _ long)
    ∙ (ap (λ b. cond b (Some (m.value (numbers m.levels bs))) None) test ∙ ap Some same)

-- a part of known bytes has its length
part_long : (offset size : ℕ) (bs : List ℕ) → offset + size ≤ length bs → length (take size (drop offset bs)) ≡ size
part_long offset size bs h = simp (length-take, length-drop) (omega arith)

slot_within : (width a n : ℕ) → a < n → width * a + width ≤ width * n
slot_within width a n h =
    let e = mul-suc width a in
    let l : width * suc a ≤ width * n = mul-le-mul_left width h in
    omega (arith, e, l)

module _ (m : Meaning) (laws : Laws m) (few : m.levels ≤ 16) (c : Case) (valid : Valid c) (s : Selection) (within : WithinLimits c s) (prices : List m.Value) (count : length prices ≡ areas c) (ranged : AllByRecursion (λ v. T (m.in_range v)) prices) where
  writable : Writable (counts_of c) m.levels s (map m.written prices)
  writable = record {
    few_areas = valid.few_areas;
    few_borders = valid.few_borders;
    few_bids = valid.few_bids;
    few_levels = few;
    satisfied_count = within.satisfied_count;
    flows_count = within.flows_count;
    activated_count = within.activated_count;
    prices_count = length-map prices m.written ∙ count;
    satisfied_fit = All-from_get_or (SFits w32) s.satisfied (pos 0) (λ k h.
        let low : k < areas c = omega (arith, within.satisfied_count) in
        satisfied_fits (demand_at c k) _ (All-get_or (λ d. T (demand_in_range d)) c.demands k (pos 0) low valid.demands_in_range) (within.satisfied_ok k low));
    flows_fit = All-from_get_or (SFits w32) s.flows (pos 0) (λ k h.
        let low : k < length c.borders = omega (arith, within.flows_count) in
        flow_fits (border_at c k) _ (All-get_or (λ b. T (limits_in_range b)) c.borders k no_border low valid.borders_in_range) (within.flows_ok k no_border low));
    activated_fit = All-from_get_or (λ x. x < 2 ^ 32) s.activated 0 (λ k h.
        let low : k < length c.bids = omega (arith, within.activated_count) in
        activated_fits (bid_at c k) _ (All-get_or (λ b. T (bid_in_range b)) c.bids k no_bid low valid.bids_in_range) (within.activated_ok k no_bid low));
    prices_fit = written_all m laws few prices ranged;
  }

  pub read_sent : proposed c (sent_with m c s prices) ≡ s
  read_sent = proposal_layout.selection_back (counts_of c) m.levels s (map m.written prices) writable

  price_sent : (a : ℕ) → a < areas c → price_in m c (sent_with m c s prices) a ≡ Some (get_or prices a m.zero)
  price_sent a h =
      let taken = proposal_layout.taken (counts_of c) m.levels s (map m.written prices) writable in
      let end : length (sent_with m c s prices) ≡ proposal_end (counts_of c) m.levels = taken_length (counts_of c) m.levels (sent_with m c s prices) taken in
      let section : length (prices_part (counts_of c) m.levels (sent_with m c s prices)) ≡ 8 * m.levels * areas c =
      part_long (prices_offset (counts_of c)) (8 * m.levels * areas c) (sent_with m c s prices) (omega (arith, end)) in
      let slot : 8 * m.levels * a + 8 * m.levels ≤ 8 * m.levels * areas c = slot_within (8 * m.levels) a (areas c) h in
      let inside : a < length prices = omega (arith, count) in
      reads_back m laws few (get_or prices a m.zero) (All-get_or (λ v. T (m.in_range v)) prices a m.zero inside ranged)
      (price_part m.levels (prices_part (counts_of c) m.levels (sent_with m c s prices)) a)
      (part_long (8 * m.levels * a) (8 * m.levels) (prices_part (counts_of c) m.levels (sent_with m c s prices)) (omega (arith, section, slot)))
      (proposal_layout.prices_back (counts_of c) m.levels s (map m.written prices) writable a h ∙ get_or-map m.written prices a m.zero [] inside)

  pub proposes : Proposes m c s prices (sent_with m c s prices)
  proposes = record {
    taken = proposal_layout.taken (counts_of c) m.levels s (map m.written prices) writable;
    selection = read_sent;
    each_price = price_sent;
  }

  pub taken_sent : Fits m c s prices → submit_answer m c (sent_with m c s prices) ≡ Ok tt
  taken_sent fits =
      and_then_both _ _ (proposal_layout.taken (counts_of c) m.levels s (map m.written prices) writable)
      (ap (λ (x : Selection). judged m c x (price_in m c (sent_with m c s prices))) read_sent
      ∙ judged_passed m c s (price_in m c (sent_with m c s prices))
      (passed_from_fits m c s (price_in m c (sent_with m c s prices)) prices price_sent valid within fits))
