-- Bytes that hold a selection and prices in range are those that write them. Assumes nothing.
use Rattle.std.proofs.Common.{◌≡◌, ℕ, zero, suc, ◌*◌, ◌^◌, ◌<◌, ◌≤◌, Bool, true, false, cond, ◌&&◌, eqb, leb, List, [], map, length, get_or, take, drop, Some, None, sym, refl, ap, ◌∙◌, arith, length-take, w64, SFits, eqb-true}
use native.Mathlib.Nat.{pow-le-pow_right}
use mir.ValLaws.{to_z-Fits}
use Rattle.std.specs.List.{AllByRecursion}
use Rattle.std.proofs.ByRecursion.{All-take, All-drop}
use Rattle.std.proofs.lemmas.List.{length-map, get_or-map, ext_get_or}
use Rattle.std.proofs.lemmas.Bool.{and_parts}
use Rattle.scale.specs.Meaning.{Meaning, Laws}
use Rattle.scale.specs.Levels.{numbers, read_bytes, little_endian}
use Rattle.market.specs.Cases.{Case, areas}
use Rattle.market.specs.Selections.{Selection}
use Rattle.fitting.proofs.Passed.{so}
use Rattle.layout.specs.Exact.{Bytewise, prices_in}
use Rattle.layout.specs.ProposalBytes.{counts_of, prices_offset, prices_part, price_part}
use Rattle.layout.proofs.ExactlyProposals.{proposal_layout}
use Rattle.layout.proofs.RoundTrips.{number_below, all_part}
use Rattle.records.proofs.Tables.{length_table, getD_table}
use Rattle.history.specs.Histories.{sent_with}
use Rattle.history.specs.Proposals.{Proposes, OneProposal}
use Rattle.history.proofs.SentWith.{proposes}

-- the numbers in bytes have 64 bits
below_64 : (bs : List ℕ) → Bytewise bs → little_endian (take 8 bs) < 2 ^ 64
below_64 bs h =
    let low : little_endian (take 8 bs) < 256 ^ length (take 8 bs) = number_below (take 8 bs) (All-take (λ b. b < 256) 8 bs h) in
    let few : length (take 8 bs) ≤ 8 = simp length-take (omega arith) in
    let most : 256 ^ length (take 8 bs) ≤ 256 ^ 8 = pow-le-pow_right (omega arith) few in
    omega (arith, low, most)

numbers_fit : (n : ℕ) (bs : List ℕ) → Bytewise bs → AllByRecursion (SFits w64) (numbers n bs)
numbers_fit zero bs h = tt
numbers_fit (suc n) bs h = (to_z-Fits w64 (little_endian (take 8 bs)) (record { fits = below_64 bs h }), numbers_fit n (drop 8 bs) (All-drop (λ b. b < 256) 8 bs h))

-- both tests are passed where something is read
both_passed : {X : Type 0} (t u : Bool) (x v : X) → cond t (cond u (Some x) None) None ≡ Some v → (u ≡ true) × (x ≡ v)
both_passed true true x v e = (refl, cc)
both_passed true false x v e = cc
both_passed false u x v e = cc

-- bytes that read as a price hold the numbers that write it
numbers_of_price : (m : Meaning) → Laws m → m.levels ≤ 16 → (bs : List ℕ) → Bytewise bs → (v : m.Value) → read_bytes m bs ≡ Some v → numbers m.levels bs ≡ m.written v
numbers_of_price m laws few bs h v e =
    let ns = numbers m.levels bs in
    let counted = eqb (length ns) m.levels in
    let ranged = m.in_range (m.value ns) in
    let read = both_passed (eqb (length bs) (8 * m.levels)) (leb m.levels 16 && (counted && ranged)) (m.value ns) v e in
    let tests = and_parts counted ranged (and_parts (leb m.levels 16) (counted && ranged) read.0).1 in
    sym (laws.written_value few ns (eqb-true _ _ tests.0) (numbers_fit m.levels bs h) (so _ tests.1)) ∙ ap m.written read.1

module _ (m : Meaning) (laws : Laws m) (few : m.levels ≤ 16) (c : Case) (s : Selection) (prices : List m.Value) (count : length prices ≡ areas c) (bs : List ℕ) (bytes : Bytewise bs) (held : Proposes m c s prices bs) where
  prices_same : prices_in (counts_of c) m.levels bs ≡ map m.written prices
  prices_same =
      let section = prices_part (counts_of c) m.levels bs in
      let long : length (prices_in (counts_of c) m.levels bs) ≡ areas c = length_table (numbers m.levels) (8 * m.levels) (areas c) section in
      ext_get_or [] (prices_in (counts_of c) m.levels bs) (map m.written prices) (long ∙ (sym count ∙ sym (length-map prices m.written)))
      (λ a low.
      let known : a < areas c = omega (arith, long) in
      getD_table (numbers m.levels) (8 * m.levels) (areas c) a section [] known
      ∙ (numbers_of_price m laws few (price_part m.levels section a) (all_part (8 * m.levels * a) (8 * m.levels) section (all_part (prices_offset (counts_of c)) (8 * m.levels * areas c) bs bytes)) (get_or prices a m.zero) (held.each_price a known)
      ∙ sym (get_or-map m.written prices a m.zero [] (omega (arith, count)))))

  no_other : bs ≡ sent_with m c s prices
  no_other = proposal_layout.only_one (counts_of c) m.levels s (map m.written prices) bs bytes held.taken held.selection prices_same

pub one_proposal : (m : Meaning) → Laws m → OneProposal m
one_proposal m laws = record {
  there_is_one = λ few c valid s within prices count ranged. proposes m laws few c valid s within prices count ranged;
  no_other = λ few c s prices count bs bytes held. no_other m laws few c s prices count bs bytes held;
}
