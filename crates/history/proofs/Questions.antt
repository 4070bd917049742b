-- A submit asks its questions one after the other. Assumes nothing.
use Rattle.std.proofs.Common.{◌≡◌, ℕ, List, [], ◌∷◌, ◌++◌, length, is_some, Ok, Option, Result, sym, refl, ap, ◌∙◌}
use Rattle.scale.specs.Meaning.{Meaning}
use Rattle.market.specs.declared.refusal.Refusal.{Refusal}
use Rattle.market.specs.declared.refusal.Refusal.TheVariants.{Satisfied, Flow, Activated, Balance, Price, DemandFit, BorderFit, BidFit}
use Rattle.market.specs.Cases.{Case, areas, demand_at, border_at, bid_at}
use Rattle.market.specs.Selections.{Selection, satisfied_allowed, flow_allowed, activated_allowed}
use Rattle.market.specs.First.{and_then, ask}
use Rattle.layout.specs.InOrder.{Asked, asked, proposal_questions}
use Rattle.layout.specs.ProposalBytes.{counts_of}
use Rattle.layout.proofs.Orders.{and_then_assoc, and_then_last, questions_in_order}
use Rattle.fitting.specs.Judged.{satisfied_at, flow_at, activated_at, balances, demand_priced, border_priced, bid_priced, judged}
use Rattle.cycle.specs.Calls.{submit_answer, proposed, price_in}
use Rattle.history.specs.Questions.{selection_questions, submit_questions, SubmitInOrder}

abbrev Answer : Type 0
Answer = Result (Unit {0}) Refusal

-- questions after questions
asked_more : (ps qs : List Asked) → and_then (asked ps) (asked qs) ≡ asked (ps ++ qs)
asked_more [] qs = refl
asked_more (p ∷ ps) qs =
    and_then_assoc (ask p.passes p.places p.refusal) (asked ps) (asked qs) ∙ ap (and_then (ask p.passes p.places p.refusal)) (asked_more ps qs)

-- eight answers in a row
eight : (a b c d e f g h : Answer) → and_then a (and_then b (and_then c (and_then d (and_then e (and_then f (and_then g h))))))
    ≡ and_then a (and_then b (and_then c (and_then d (and_then e (and_then f (and_then g (and_then h (Ok tt))))))))
eight a b c d e f g h = ap (λ x. and_then a (and_then b (and_then c (and_then d (and_then e (and_then f (and_then g x))))))) (and_then_last h)

judged_asked : (m : Meaning) (c : Case) (s : Selection) (price : ℕ → Option m.Value) → judged m c s price ≡ asked (selection_questions m c s price)
judged_asked m c s price =
    eight (ask (λ a. satisfied_allowed (demand_at c a) (satisfied_at s a)) (areas c) Satisfied) (ask (λ k. flow_allowed (border_at c k) (flow_at s k)) (length c.borders) Flow)
    (ask (λ k. activated_allowed (bid_at c k) (activated_at s k)) (length c.bids) Activated) (ask (balances c s) (areas c) Balance)
    (ask (λ a. is_some (price a)) (areas c) Price) (ask (λ a. demand_priced m (demand_at c a) (satisfied_at s a) (price a)) (areas c) DemandFit)
    (ask (λ k. border_priced m (border_at c k) (flow_at s k) (price (border_at c k).from) (price (border_at c k).to)) (length c.borders) BorderFit)
    (ask (λ k. bid_priced m (bid_at c k) (activated_at s k) (price (bid_at c k).area)) (length c.bids) BidFit)

submit_asked : (m : Meaning) (c : Case) (bs : List ℕ) → submit_answer m c bs ≡ asked (submit_questions m c bs)
submit_asked m c bs =
    ap (λ a. and_then a (judged m c (proposed c bs) (price_in m c bs))) (questions_in_order.proposal_asked (counts_of c) m.levels bs)
    ∙ (ap (and_then (asked (proposal_questions (counts_of c) m.levels bs))) (judged_asked m c (proposed c bs) (price_in m c bs))
    ∙ asked_more (proposal_questions (counts_of c) m.levels bs) (selection_questions m c (proposed c bs) (price_in m c bs)))

pub submit_in_order : (m : Meaning) → SubmitInOrder m
submit_in_order m = record {
  taken = λ c bs.
      let e = submit_asked m c bs in
      let all = questions_in_order.taken (submit_questions m c bs) in
      ((λ h. all.0 (sym e ∙ h)), (λ h. e ∙ all.1 h));
  refused = λ c bs no.
      let e = submit_asked m c bs in
      let first = questions_in_order.refused (submit_questions m c bs) no in
      ((λ h. first.0 (sym e ∙ h)), (λ h. e ∙ first.1 h));
}
