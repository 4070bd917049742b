-- A replay, call by call. Assumes nothing.
use Rattle.std.proofs.Common.{◌≡◌, ℕ, zero, suc, ◌+◌, ◌<◌, List, [], ◌∷◌, ◌++◌, length, get_or, take, None, Ok, Err, Result, sym, refl, ap, ◌∙◌, subst, add-one, arith, length-append}
use Rattle.std.proofs.lemmas.List.{take_all}
use Rattle.scale.specs.Meaning.{Meaning, Laws}
use Rattle.market.specs.Changes.{revise_answer, revised, limit_answer, limited, withdraw_answer, withdrawn}
use Rattle.market.specs.declared.refusal.Refusal.{Refusal}
use Rattle.cycle.specs.declared.calls.Call.{Call}
use Rattle.cycle.specs.States.{State, fresh}
use Rattle.cycle.specs.Sent.{Sent, Answer, sent, load, revise, limit, withdraw, submit, read, told, told_amount, read_answer}
use Rattle.cycle.specs.Calls.{after, loaded, changed, submitted, answer_to, next, load_answer, submit_answer}
use Rattle.history.specs.Histories.{Step, History, in_force, standing, Lawful, Kept}
use Rattle.history.specs.Replayed.{step, history_of, state_after}
use Rattle.history.proofs.Kept.{kept_from_lawful}

-- one call and its answer more
history_push : (earlier : History) (calls : List Call) (answers : List Answer) (i : ℕ) (d : Call) (a : Answer) → length answers ≡ i → i < length calls → history_of earlier (take (suc i) calls) (answers ++ (a ∷ [])) ≡ step (get_or calls i d) a ∷ history_of earlier (take i calls) answers
history_push earlier [] answers i d a e h = absurd (omega arith)
history_push earlier (c ∷ cs) [] zero d a e h = refl
history_push earlier (c ∷ cs) [] (suc i) d a e h = absurd (omega arith)
history_push earlier (c ∷ cs) (x ∷ xs) zero d a e h = absurd (omega arith)
history_push earlier (c ∷ cs) (x ∷ xs) (suc i) d a e h = history_push (step c x ∷ earlier) cs xs i d a (omega arith) (omega arith)

-- what a cycle holds after a call is what the longer history says
module _ (m : Meaning) (h : History) where
  after_told : (call : Sent) (new : State) (r : Result (Unit {0}) Refusal) → new ≡ state_after (record { call = call; answer = Ok None } ∷ h) → after r (state_after h) new ≡ state_after (record { call = call; answer = told r } ∷ h)
  after_told call new (Ok u) e = e
  after_told call new (Err refusal) e = refl

  told_step : Sent → Result (Unit {0}) Refusal → Step
  told_step call r = record { call = call; answer = told r }

  after_load : (bs : List ℕ) (r : Result (Unit {0}) Refusal) → after r (state_after h) (loaded bs) ≡ state_after (record { call = load bs; answer = told r } ∷ h)
  after_load bs r = after_told (load bs) (loaded bs) r refl

  after_submit : (bs : List ℕ) (r : Result (Unit {0}) Refusal) → after r (state_after h) (submitted (in_force h) bs) ≡ state_after (record { call = submit bs; answer = told r } ∷ h)
  after_submit bs r = after_told (submit bs) (submitted (in_force h) bs) r refl

  after_revise : (area : ℕ) (demand : _) (r : Result (Unit {0}) Refusal) → after r (state_after h) (changed (revised (in_force h) area demand)) ≡ state_after (record { call = revise area demand; answer = told r } ∷ h)
  after_revise area demand r = after_told (revise area demand) (changed (revised (in_force h) area demand)) r refl

  after_limit : (border forward backward : ℕ) (r : Result (Unit {0}) Refusal) → after r (state_after h) (changed (limited (in_force h) border forward backward)) ≡ state_after (record { call = limit border forward backward; answer = told r } ∷ h)
  after_limit border forward backward r = after_told (limit border forward backward) (changed (limited (in_force h) border forward backward)) r refl

  after_withdraw : (bid : ℕ) (r : Result (Unit {0}) Refusal) → after r (state_after h) (changed (withdrawn (in_force h) bid)) ≡ state_after (record { call = withdraw bid; answer = told r } ∷ h)
  after_withdraw bid r = after_told (withdraw bid) (changed (withdrawn (in_force h) bid)) r refl

  after_read : (item : _) (r : Result _ Refusal) → state_after h ≡ state_after (record { call = read item; answer = told_amount r } ∷ h)
  after_read item (Ok x) = refl
  after_read item (Err refusal) = refl

  next_is : (call : Sent) → next m (state_after h) call ≡ state_after (record { call = call; answer = answer_to m (state_after h) call } ∷ h)
  next_is (load bs) = after_load bs (load_answer m bs)
  next_is (revise area demand) = after_revise area demand (revise_answer (in_force h) area demand)
  next_is (limit border forward backward) = after_limit border forward backward (limit_answer (in_force h) border forward backward)
  next_is (withdraw bid) = after_withdraw bid (withdraw_answer (in_force h) bid)
  next_is (submit bs) = after_submit bs (submit_answer m (in_force h) bs)
  next_is (read item) = after_read item (read_answer (in_force h) (standing h) item)

-- after i calls
pub record Replaying (m : Meaning) (calls : List Call) (answers : List Answer) (i : ℕ) (st : State) : Type 0 where
  pub counted : length answers ≡ i
  pub state : st ≡ state_after (history_of [] (take i calls) answers)
  pub lawful : Lawful m (history_of [] (take i calls) answers)

pub replaying_none : (m : Meaning) (calls : List Call) (answers : List Answer) (st : State) → answers ≡ [] → st ≡ fresh → Replaying m calls answers 0 st
replaying_none m calls answers st e is = subst (λ (l : List Answer). Replaying m calls l 0 st) (sym e) (record { counted = refl; state = is; lawful = tt })

pub replaying_more : (m : Meaning) (calls : List Call) (answers later : List Answer) (i : ℕ) (st st' : State) (d : Call) (a : Answer) → i < length calls →
    a ≡ answer_to m st (sent (get_or calls i d)) → st' ≡ next m st (sent (get_or calls i d)) → later ≡ answers ++ (a ∷ []) →
    Replaying m calls answers i st → Replaying m calls later (i + 1) st'
replaying_more m calls answers later i st st' d a low answered moved pushed inv =
    let h : History = history_of [] (take i calls) answers in
    let call : Sent = sent (get_or calls i d) in
    let rule : a ≡ answer_to m (state_after h) call = answered ∙ ap (λ (x : State). answer_to m x call) inv.state in
    let longer : history_of [] (take (i + 1) calls) later ≡ step (get_or calls i d) a ∷ h =
    ap (λ (n : ℕ). history_of [] (take n calls) later) (add-one i) ∙ (ap (λ (l : List Answer). history_of [] (take (suc i) calls) l) pushed ∙ history_push [] calls answers i d a inv.counted low) in
    let held : st' ≡ state_after (step (get_or calls i d) a ∷ h) =
    moved ∙ (ap (λ (x : State). next m x call) inv.state
    ∙ (next_is m h call
    ∙ ap (λ (x : Answer). state_after (step (get_or calls i d) x ∷ h)) (sym rule))) in
    record {
      counted = ap length pushed ∙ (length-append answers (a ∷ []) ∙ omega (arith, inv.counted));
      state = held ∙ ap state_after (sym longer);
      lawful = subst (Lawful m) (sym longer) (rule, inv.lawful);
    }

-- after all calls
pub record Replayed (m : Meaning) (calls : List Call) (answers : List Answer) (st : State) : Type 0 where
  pub one_for_each : length answers ≡ length calls
  pub state : st ≡ state_after (history_of [] calls answers)
  pub kept : Kept m (history_of [] calls answers)

pub replayed : (m : Meaning) → Laws m → (calls : List Call) (answers : List Answer) (i : ℕ) (st : State) → i ≡ length calls → Replaying m calls answers i st → Replayed m calls answers st
replayed m laws calls answers i st e inv =
    let all : take i calls ≡ calls = take_all i calls (omega arith) in
    record {
      one_for_each = inv.counted ∙ e;
      state = inv.state ∙ ap (λ (cs : List Call). state_after (history_of [] cs answers)) all;
      kept = subst (λ (cs : List Call). Kept m (history_of [] cs answers)) all (kept_from_lawful m laws (history_of [] (take i calls) answers) inv.lawful);
    }

pub replaying_all : (m : Meaning) → Laws m → (calls : List Call) (answers : List Answer) (i : ℕ) (st : State) → i ≡ length calls → Replaying m calls answers i st → Kept m (history_of [] calls answers)
replaying_all m laws calls answers i st e inv = (replayed m laws calls answers i st e inv).kept
