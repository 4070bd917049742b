-- A case and a proposal, put into a buffer table by table. Assumes nothing.
use Rattle.std.proofs.Common.{◌≡◌, ℕ, ◌+◌, ◌-◌, ◌*◌, ◌^◌, ◌≤◌, min, true, cond, leb, List, [], ◌∷◌, ◌++◌, length, drop, ℤ, Ok, Err, sym, refl, ap, ◌∙◌, append_assoc, arith, length-append, le-leb, leb-true}
use mathlib.Core.Bool.{Bool-set}
use mathlib.Core.Logic.{∥∥₁_elim}
use Rattle.market.specs.declared.refusal.Refusal.TheVariants.{Room}
use Rattle.market.specs.declared.trade.Border.{Border}
use Rattle.market.specs.declared.trade.Bid.{Bid}
use Rattle.market.specs.Cases.{Case, Valid, case_of}
use Rattle.records.specs.Bytes.{bytes_of, placed}
use Rattle.layout.specs.CaseBytes.{each, demand_bytes, border_bytes, bid_bytes, case_header, written, case_size}
use Rattle.layout.specs.ProposalBytes.{amount_bytes, level_bytes, proposal_header}
use Rattle.layout.specs.Writing.{case_write_answer, case_write_after, counts_in, proposal_size, proposal_written, proposal_write_answer, proposal_write_after}
use Rattle.layout.proofs.Proposals.{selection_from}
use Rattle.layout.proofs.RoundTrips.{length_each}
use Rattle.writing.proofs.Placed.{ended, Begun, put_behind, placed_more}

-- one run more, behind what is there
put_then : (front more out mid late : List ℕ) (n : ℕ) → mid ≡ placed 0 front out → late ≡ placed n more mid → length front ≡ n → n ≤ length out
    → (late ≡ placed 0 (front ++ more) out) × (length (front ++ more) ≡ n + length more)
put_then front more out mid late n e f long fits =
    (f ∙ (ap (placed n more) e ∙ placed_more 0 n front more out (omega arith) (omega arith)), length-append front more ∙ ap (λ m. m + length more) long)

-- what stands at the start, and the rest of the buffer
put_all : (front shown out late : List ℕ) (n : ℕ) → late ≡ placed 0 front out → length front ≡ n → front ≡ shown → late ≡ shown ++ drop n out
put_all front shown out late n e long same = e ∙ (ap (λ m. front ++ drop m out) (omega arith) ∙ ap (λ l. l ++ drop n out) same)

-- four runs of bytes, and five, each behind the one before it
pub put_four : (h d b o out o1 o2 o3 o4 : List ℕ) (n1 n2 n3 n4 : ℕ) → o1 ≡ placed 0 h out → o2 ≡ placed n1 d o1 → o3 ≡ placed n2 b o2 → o4 ≡ placed n3 o o3
    → length h ≡ n1 → n1 + length d ≡ n2 → n2 + length b ≡ n3 → n3 + length o ≡ n4 → n4 ≤ length out → o4 ≡ (h ++ (d ++ (b ++ o))) ++ drop n4 out
put_four h d b o out o1 o2 o3 o4 n1 n2 n3 n4 e1 e2 e3 e4 l1 l2 l3 l4 fits =
    let f2 = put_then h d out o1 o2 n1 e1 e2 l1 (omega arith) in
    let f3 = put_then (h ++ d) b out o2 o3 n2 f2.0 e3 (f2.1 ∙ l2) (omega arith) in
    let f4 = put_then ((h ++ d) ++ b) o out o3 o4 n3 f3.0 e4 (f3.1 ∙ l3) (omega arith) in
    put_all (((h ++ d) ++ b) ++ o) (h ++ (d ++ (b ++ o))) out o4 n4 f4.0 (f4.1 ∙ l4) (append_assoc (h ++ d) b o ∙ append_assoc h d (b ++ o))

pub put_five : (h d b o p out o1 o2 o3 o4 o5 : List ℕ) (n1 n2 n3 n4 n5 : ℕ) → o1 ≡ placed 0 h out → o2 ≡ placed n1 d o1 → o3 ≡ placed n2 b o2 → o4 ≡ placed n3 o o3 → o5 ≡ placed n4 p o4
    → length h ≡ n1 → n1 + length d ≡ n2 → n2 + length b ≡ n3 → n3 + length o ≡ n4 → n4 + length p ≡ n5 → n5 ≤ length out → o5 ≡ (h ++ (d ++ (b ++ (o ++ p)))) ++ drop n5 out
put_five h d b o p out o1 o2 o3 o4 o5 n1 n2 n3 n4 n5 e1 e2 e3 e4 e5 l1 l2 l3 l4 l5 fits =
    let f2 = put_then h d out o1 o2 n1 e1 e2 l1 (omega arith) in
    let f3 = put_then (h ++ d) b out o2 o3 n2 f2.0 e3 (f2.1 ∙ l2) (omega arith) in
    let f4 = put_then ((h ++ d) ++ b) o out o3 o4 n3 f3.0 e4 (f3.1 ∙ l3) (omega arith) in
    let f5 = put_then (((h ++ d) ++ b) ++ o) p out o4 o5 n4 f4.0 e5 (f4.1 ∙ l4) (omega arith) in
    put_all ((((h ++ d) ++ b) ++ o) ++ p) (h ++ (d ++ (b ++ (o ++ p)))) out o5 n5 f5.0 (f5.1 ∙ l5)
    (append_assoc ((h ++ d) ++ b) o p ∙ (append_assoc (h ++ d) b (o ++ p) ∙ append_assoc h d (b ++ (o ++ p))))

pub case_same : (ds es : List ℤ) (bs cs : List Border) (os ps : List Bid) → ds ≡ es → bs ≡ cs → os ≡ ps → case_of ds bs os ≡ case_of es cs ps
case_same ds es bs cs os ps d b o = ap (λ x. case_of x bs os) d ∙ (ap (λ x. case_of es x os) b ∙ ap (case_of es cs) o)

-- where a case fits, it is written, and the rest of the buffer stays
module _ (ds : List ℤ) (bs : List Border) (os : List Bid) (out o1 p2 p3 p4 : List ℕ) where
  abbrev borders_at : ℕ
  borders_at = 28 + 4 * length ds

  abbrev bids_at : ℕ
  bids_at = borders_at + 12 * length bs

  abbrev o2 : List ℕ
  o2 = ended 28 o1 p2

  abbrev o3 : List ℕ
  o3 = ended borders_at o2 p3

  pub case_put : (kind : ℕ) → kind ≡ 1 → case_size (case_of ds bs os) ≤ length out
      → o1 ≡ each (bytes_of 4) (kind ∷ length ds ∷ 28 ∷ length bs ∷ borders_at ∷ length os ∷ bids_at ∷ []) ++ drop 28 out
      → Begun 28 o1 (each demand_bytes ds) (4 * length ds) p2
      → Begun borders_at o2 (each border_bytes bs) (12 * length bs) p3
      → Begun bids_at o3 (each bid_bytes os) (12 * length os) p4
      → ended bids_at o3 p4 ≡ case_write_after (case_of ds bs os) out
  case_put kind is_case fits e0 e2 e3 e4 =
      let e1 = e0 ∙ ap (λ k. each (bytes_of 4) (k ∷ length ds ∷ 28 ∷ length bs ∷ borders_at ∷ length os ∷ bids_at ∷ []) ++ drop 28 out) is_case in
      let h = case_header (length ds) (length bs) (length os) in
      let d = each demand_bytes ds in
      let b = each border_bytes bs in
      let o = each bid_bytes os in
      let f2 = put_behind h d out o1 p2 28 (4 * length ds) e1 refl (length_each demand_bytes 4 (λ x. refl) ds) (omega arith) e2 in
      let f3 = put_behind (h ++ d) b out o2 p3 borders_at (12 * length bs) f2.0 f2.1 (length_each border_bytes 12 (λ x. refl) bs) (omega arith) e3 in
      let f4 = put_behind ((h ++ d) ++ b) o out o3 p4 bids_at (12 * length os) f3.0 f3.1 (length_each bid_bytes 12 (λ x. refl) os) fits e4 in
      f4.0
      ∙ (ap (λ l. l ++ drop (case_size (case_of ds bs os)) out) (append_assoc (h ++ d) b o ∙ append_assoc h d (b ++ o))
      ∙ ap (λ t. cond t (written (case_of ds bs os) ++ drop (case_size (case_of ds bs os)) out) out) (sym (le-leb (case_size (case_of ds bs os)) (length out) fits)))

-- and so a proposal
module _ (levels : ℕ) (ss fs : List ℤ) (xs : List ℕ) (prices : List ℤ) (out o1 p2 p3 p4 p5 : List ℕ) where
  abbrev flows_at : ℕ
  flows_at = 36 + 4 * length ss

  abbrev activated_at : ℕ
  activated_at = flows_at + 4 * length fs

  abbrev prices_at : ℕ
  prices_at = activated_at + 4 * length xs

  abbrev q2 : List ℕ
  q2 = ended 36 o1 p2

  abbrev q3 : List ℕ
  q3 = ended flows_at q2 p3

  abbrev q4 : List ℕ
  q4 = ended activated_at q3 p4

  pub proposal_put : (kind : ℕ) → kind ≡ 2 → proposal_size (selection_from ss fs xs) prices ≤ length out
      → o1 ≡ each (bytes_of 4) (kind ∷ length ss ∷ 36 ∷ length fs ∷ flows_at ∷ length xs ∷ activated_at ∷ levels ∷ prices_at ∷ []) ++ drop 36 out
      → Begun 36 o1 (each amount_bytes ss) (4 * length ss) p2
      → Begun flows_at q2 (each amount_bytes fs) (4 * length fs) p3
      → Begun activated_at q3 (each (bytes_of 4) xs) (4 * length xs) p4
      → Begun prices_at q4 (each level_bytes prices) (8 * length prices) p5
      → ended prices_at q4 p5 ≡ proposal_write_after levels (selection_from ss fs xs) prices out
  proposal_put kind is_proposal fits e0 e2 e3 e4 e5 =
      let e1 = e0 ∙ ap (λ k. each (bytes_of 4) (k ∷ length ss ∷ 36 ∷ length fs ∷ flows_at ∷ length xs ∷ activated_at ∷ levels ∷ prices_at ∷ []) ++ drop 36 out) is_proposal in
      let h = proposal_header (counts_in (selection_from ss fs xs)) levels in
      let s = each amount_bytes ss in
      let f = each amount_bytes fs in
      let x = each (bytes_of 4) xs in
      let p = each level_bytes prices in
      let full = proposal_size (selection_from ss fs xs) prices in
      let f2 = put_behind h s out o1 p2 36 (4 * length ss) e1 refl (length_each amount_bytes 4 (λ x. refl) ss) (omega arith) e2 in
      let f3 = put_behind (h ++ s) f out q2 p3 flows_at (4 * length fs) f2.0 f2.1 (length_each amount_bytes 4 (λ x. refl) fs) (omega arith) e3 in
      let f4 = put_behind ((h ++ s) ++ f) x out q3 p4 activated_at (4 * length xs) f3.0 f3.1 (length_each (bytes_of 4) 4 (λ x. refl) xs) (omega arith) e4 in
      let f5 = put_behind (((h ++ s) ++ f) ++ x) p out q4 p5 prices_at (8 * length prices) f4.0 f4.1 (length_each level_bytes 8 (λ x. refl) prices) fits e5 in
      f5.0
      ∙ (ap (λ l. l ++ drop full out) (append_assoc ((h ++ s) ++ f) x p ∙ (append_assoc (h ++ s) f (x ++ p) ∙ append_assoc h s (f ++ (x ++ p))))
      ∙ ap (λ t. cond t (proposal_written levels (selection_from ss fs xs) prices ++ drop full out) out) (sym (le-leb full (length out) fits)))

-- the same of a case whose tables are put in one after the other
module _ (ds : List ℤ) (bs : List Border) (os : List Bid) (out o1 o2 o3 o4 : List ℕ)
    (fits : case_size (case_of ds bs os) ≤ length out)
    (e1 : o1 ≡ placed 0 (each (bytes_of 4) (1 ∷ length ds ∷ 28 ∷ length bs ∷ (28 + 4 * length ds) ∷ length os ∷ (28 + 4 * length ds + 12 * length bs) ∷ [])) out)
    (e2 : o2 ≡ placed 28 (each demand_bytes ds) o1)
    (e3 : o3 ≡ placed (28 + 4 * length ds) (each border_bytes bs) o2)
    (e4 : o4 ≡ placed (28 + 4 * length ds + 12 * length bs) (each bid_bytes os) o3) where
  pub case_put_answer : Ok (case_size (case_of ds bs os)) ≡ case_write_answer (case_of ds bs os) out
  case_put_answer = ap (λ t. cond t (Ok (case_size (case_of ds bs os))) (Err (Room (case_size (case_of ds bs os))))) (sym (le-leb (case_size (case_of ds bs os)) (length out) fits))

  pub case_put_after : o4 ≡ case_write_after (case_of ds bs os) out
  case_put_after =
      let d = length_each demand_bytes 4 (λ x. refl) ds in
      let b = length_each border_bytes 12 (λ x. refl) bs in
      let o = length_each bid_bytes 12 (λ x. refl) os in
      put_four (case_header (length ds) (length bs) (length os)) (each demand_bytes ds) (each border_bytes bs) (each bid_bytes os) out o1 o2 o3 o4
      28 (28 + 4 * length ds) (28 + 4 * length ds + 12 * length bs) (case_size (case_of ds bs os)) e1 e2 e3 e4 refl (omega arith) (omega arith) (omega arith) fits
      ∙ ap (λ t. cond t (written (case_of ds bs os) ++ drop (case_size (case_of ds bs os)) out) out) (sym (le-leb (case_size (case_of ds bs os)) (length out) fits))

-- and of a proposal
module _ (levels : ℕ) (ss fs : List ℤ) (xs : List ℕ) (prices : List ℤ) (out o1 o2 o3 o4 o5 : List ℕ)
    (fits : proposal_size (selection_from ss fs xs) prices ≤ length out)
    (e1 : o1 ≡ placed 0 (each (bytes_of 4) (2 ∷ length ss ∷ 36 ∷ length fs ∷ (36 + 4 * length ss) ∷ length xs ∷ (36 + 4 * length ss + 4 * length fs) ∷ levels ∷ (36 + 4 * length ss + 4 * length fs + 4 * length xs) ∷ [])) out)
    (e2 : o2 ≡ placed 36 (each amount_bytes ss) o1)
    (e3 : o3 ≡ placed (36 + 4 * length ss) (each amount_bytes fs) o2)
    (e4 : o4 ≡ placed (36 + 4 * length ss + 4 * length fs) (each (bytes_of 4) xs) o3)
    (e5 : o5 ≡ placed (36 + 4 * length ss + 4 * length fs + 4 * length xs) (each level_bytes prices) o4) where
  pub proposal_put_answer : (size : ℕ) → size ≡ proposal_size (selection_from ss fs xs) prices → Ok size ≡ proposal_write_answer (selection_from ss fs xs) prices out
  proposal_put_answer size is =
      let full = proposal_size (selection_from ss fs xs) prices in
      ap Ok is ∙ ap (λ t. cond t (Ok full) (Err (Room (min full (2 ^ 64 - 1))))) (sym (le-leb full (length out) fits))

  pub proposal_put_after : o5 ≡ proposal_write_after levels (selection_from ss fs xs) prices out
  proposal_put_after =
      let full = proposal_size (selection_from ss fs xs) prices in
      let s = length_each amount_bytes 4 (λ x. refl) ss in
      let f = length_each amount_bytes 4 (λ x. refl) fs in
      let x = length_each (bytes_of 4) 4 (λ x. refl) xs in
      let p = length_each level_bytes 8 (λ x. refl) prices in
      put_five (proposal_header (counts_in (selection_from ss fs xs)) levels) (each amount_bytes ss) (each amount_bytes fs) (each (bytes_of 4) xs) (each level_bytes prices) out o1 o2 o3 o4 o5
      36 (36 + 4 * length ss) (36 + 4 * length ss + 4 * length fs) (36 + 4 * length ss + 4 * length fs + 4 * length xs) full e1 e2 e3 e4 e5 refl (omega arith) (omega arith) (omega arith) (omega arith) fits
      ∙ ap (λ t. cond t (proposal_written levels (selection_from ss fs xs) prices ++ drop full out) out) (sym (le-leb full (length out) fits))

-- the tables of a book are short
few_from : (c : Case) (n bound : ℕ) → ∥ Valid c ∥₁ → (Valid c → n ≤ bound) → n ≤ bound
few_from c n bound valid short = leb-true n bound (∥∥₁_elim valid (Bool-set (leb n bound) true) (λ v. le-leb n bound (short v)))

pub few_held : (c : Case) → ∥ Valid c ∥₁ → (length c.demands ≤ 48) × (length c.borders ≤ 128) × (length c.bids ≤ 1024)
few_held c valid =
    (few_from c (length c.demands) 48 valid (λ v. v.few_areas), few_from c (length c.borders) 128 valid (λ v. v.few_borders), few_from c (length c.bids) 1024 valid (λ v. v.few_bids))
