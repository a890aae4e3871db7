-- A pump raises no tokens: what is offered was counted while it waited.
use Rattle.std.proofs.Common.{◌≡◌, ℕ, ◌+◌, ◌≤◌, eqb, ltb, Bool, true, false, cond, List, [], ◌∷◌, ◌++◌, sum_by, Option, Some, None, inl, inr, refl, sym, ◌∙◌, ap, arith}
use Rattle.std.specs.Prelude.{nat_le}
use Rattle.std.proofs.lemmas.Bool.{cond-true, cond-false, cases_eq, eq-eqb, ne_eqb}
use Rattle.std.proofs.lemmas.List.Sums.{sum_by_push, sum_by-cons}
use Rattle.sc_base.specs.Definitions.{client_actor}
use Rattle.sc_node_table.specs.Values.{Draw, Op, Command, Call, AnswerBody, Mail, MailBody, Accept, Answer, Flight}
use Rattle.sc_words.specs.declared.paxos.answers.Must.TheVariants.{Value, Gap, Free as Open}
use Rattle.sc_words.specs.paxos.PaxosDefinitions.{must, flight_at, without_flight, with_voters}
use Rattle.sc_node_table.specs.NodeDefinitions.{sent, sent_all, sent_others, answered, offered, pumped, queued_number, is_request_of, without_request, ReplicaState, Place, name_of, next, refused_at, queued, requested, request_row, at_slot, with_slot, without_slot}
use Rattle.sc_law_walks.proofs.WalkLemmas.{TableOffers, pump_keeps}
use Rattle.sc_live_answers.specs.AnswerDefinitions.{command_token, body_token, mail_token, flight_tokens, ready_tokens, place_tokens}

-- no report binds the leader from the next slot on
abbrev pub IsFree : ReplicaState → Type 0
IsFree r = (slot : ℕ) → next r ≤ slot → must slot r.leader ≡ Open

module _ (c : ℕ) where
  -- ---- mail

  pub sent_token : (me to : ℕ) (body : MailBody) (mails : List Mail) → sum_by (mail_token c) (sent me to body mails) ≡ sum_by (mail_token c) mails + body_token c to body
  sent_token me to body mails = sum_by_push (mail_token c) mails (record { from = me; to = to; body = body })

  pub all_token : (me : ℕ) (body : MailBody) → ((to : ℕ) → body_token c to body ≡ 0) → (nodes : List ℕ) (mails : List Mail) → sum_by (mail_token c) (sent_all me nodes body mails) ≡ sum_by (mail_token c) mails
  unfolding sent_all
  all_token me body none [] mails = refl
  all_token me body none (node ∷ nodes) mails =
      let more = all_token me body none nodes (sent me node body mails) in
      let one = sent_token me node body mails in
      let zero_ = none node in
      omega (arith, more, one, zero_)

  pub others_token : (me : ℕ) (body : MailBody) → ((to : ℕ) → body_token c to body ≡ 0) → (nodes : List ℕ) (mails : List Mail) → sum_by (mail_token c) (sent_others me nodes body mails) ≡ sum_by (mail_token c) mails
  unfolding sent_others
  others_token me body none [] mails = refl
  others_token me body none (node ∷ nodes) mails =
      let more = others_token me body none nodes (cond (eqb node me) mails (sent me node body mails)) in
      let zero_ = none node in
      let one = by node mails (none node) (eqb node me) in
      omega (arith, more, one, zero_)
    where
      by : (node : ℕ) (mails : List Mail) → body_token c node body ≡ 0 → (b : Bool) → sum_by (mail_token c) (cond b mails (sent me node body mails)) ≡ sum_by (mail_token c) mails
      by node mails zero_ true = refl
      by node mails zero_ false = (let one = sent_token me node body mails in omega (arith, one, zero_))

  -- an answer to a client counts as its call
  pub answer_token : (client : ℕ) (group : Draw) (seq : ℕ) (answer : AnswerBody) → body_token c (client_actor client) (Answer group seq answer) ≡ cond (eqb client c) 1 0
  answer_token client group seq answer = elim (cases_eq client c) [
    | inl same ↦ cond-true (eqb (client_actor client) (client_actor c)) 1 0 (eq-eqb (client_actor client) (client_actor c) (ap client_actor same)) ∙ sym (cond-true (eqb client c) 1 0 (eq-eqb client c same))
    | inr ne ↦ cond-false (eqb (client_actor client) (client_actor c)) 1 0 (ne_eqb (client_actor client) (client_actor c) (λ e. ne (omega (arith, e)))) ∙ sym (cond-false (eqb client c) 1 0 (ne_eqb client c ne))
  ]

  -- ---- what is in flight or ready

  pub without_flight_tokens : (slot : ℕ) (flights : List (Flight Command)) → flight_tokens c (without_flight slot flights) ≤ flight_tokens c flights
  without_flight_tokens slot [] = omega arith
  without_flight_tokens slot (flight ∷ flights) = by (eqb flight.slot slot) (without_flight_tokens slot flights)
    where
      by : (b : Bool) → flight_tokens c (without_flight slot flights) ≤ flight_tokens c flights → flight_tokens c (cond b flights (flight ∷ without_flight slot flights)) ≤ flight_tokens c (flight ∷ flights)
      by true le = let s = sum_by-cons (λ (f : Flight Command). command_token c f.value) flight flights in omega (arith, s)
      by false le =
          let s = sum_by-cons (λ (f : Flight Command). command_token c f.value) flight flights in
          let t = sum_by-cons (λ (f : Flight Command). command_token c f.value) flight (without_flight slot flights) in
          omega (arith, le, s, t)

  pub taken_flight_tokens : (slot : ℕ) (flights : List (Flight Command)) (flight : Flight Command) → flight_at slot flights ≡ Some flight → flight_tokens c (without_flight slot flights) + command_token c flight.value ≡ flight_tokens c flights
  taken_flight_tokens slot [] flight e = cc
  taken_flight_tokens slot (f ∷ fs) flight e = by (eqb f.slot slot) e (taken_flight_tokens slot fs flight)
    where
      by : (b : Bool) → cond b (Some f) (flight_at slot fs) ≡ Some flight → (flight_at slot fs ≡ Some flight → flight_tokens c (without_flight slot fs) + command_token c flight.value ≡ flight_tokens c fs) →
          flight_tokens c (cond b fs (f ∷ without_flight slot fs)) + command_token c flight.value ≡ flight_tokens c (f ∷ fs)
      by true fact more =
          let same : f ≡ flight = cc in
          let s = sum_by-cons (λ (x : Flight Command). command_token c x.value) f fs in
          let t = ap (λ (x : Flight Command). command_token c x.value) same in
          omega (arith, s, t)
      by false fact more =
          let le = more fact in
          let s = sum_by-cons (λ (x : Flight Command). command_token c x.value) f fs in
          let t = sum_by-cons (λ (x : Flight Command). command_token c x.value) f (without_flight slot fs) in
          omega (arith, le, s, t)

  pub with_voters_tokens : (slot : ℕ) (voters : Option (List ℕ)) (flights : List (Flight Command)) → flight_tokens c (with_voters slot voters flights) ≡ flight_tokens c flights
  with_voters_tokens slot voters [] = refl
  with_voters_tokens slot voters (flight ∷ flights) = by (eqb flight.slot slot) (with_voters_tokens slot voters flights)
    where
      by : (b : Bool) → flight_tokens c (with_voters slot voters flights) ≡ flight_tokens c flights →
          flight_tokens c (cond b (record flight { voters = voters } ∷ flights) (flight ∷ with_voters slot voters flights)) ≡ flight_tokens c (flight ∷ flights)
      by true same =
          let s = sum_by-cons (λ (f : Flight Command). command_token c f.value) flight flights in
          let t = sum_by-cons (λ (f : Flight Command). command_token c f.value) (record flight { voters = voters }) flights in
          omega (arith, s, t)
      by false same =
          let s = sum_by-cons (λ (f : Flight Command). command_token c f.value) flight flights in
          let t = sum_by-cons (λ (f : Flight Command). command_token c f.value) flight (with_voters slot voters flights) in
          omega (arith, same, s, t)

  pub taken_slot_tokens : (slot : ℕ) (ready : List (ℕ × Command)) (command : Command) → at_slot ready slot ≡ Some command → ready_tokens c (without_slot ready slot) + command_token c command ≡ ready_tokens c ready
  taken_slot_tokens slot [] command e = cc
  taken_slot_tokens slot (e ∷ es) command at = by (eqb e.0 slot) at (taken_slot_tokens slot es command)
    where
      by : (b : Bool) → cond b (Some e.1) (at_slot es slot) ≡ Some command → (at_slot es slot ≡ Some command → ready_tokens c (without_slot es slot) + command_token c command ≡ ready_tokens c es) →
          ready_tokens c (cond b es (e ∷ without_slot es slot)) + command_token c command ≡ ready_tokens c (e ∷ es)
      by true fact more =
          let same : e.1 ≡ command = cc in
          let s = sum_by-cons (λ (x : ℕ × Command). command_token c x.1) e es in
          let t = ap (command_token c) same in
          omega (arith, s, t)
      by false fact more =
          let le = more fact in
          let s = sum_by-cons (λ (x : ℕ × Command). command_token c x.1) e es in
          let t = sum_by-cons (λ (x : ℕ × Command). command_token c x.1) e (without_slot es slot) in
          omega (arith, le, s, t)

  pub with_slot_tokens : (slot : ℕ) (command : Command) (ready : List (ℕ × Command)) → ready_tokens c (with_slot ready slot command) ≤ ready_tokens c ready + command_token c command
  with_slot_tokens slot command [] = let s = sum_by-cons (λ (x : ℕ × Command). command_token c x.1) (slot, command) [] in omega (arith, s)
  with_slot_tokens slot command (e ∷ es) = by (eqb e.0 slot) (ltb slot e.0) (with_slot_tokens slot command es)
    where
      by : (b d : Bool) → ready_tokens c (with_slot es slot command) ≤ ready_tokens c es + command_token c command →
          ready_tokens c (cond b ((slot, command) ∷ es) (cond d ((slot, command) ∷ e ∷ es) (e ∷ with_slot es slot command))) ≤ ready_tokens c (e ∷ es) + command_token c command
      by true d le =
          let s = sum_by-cons (λ (x : ℕ × Command). command_token c x.1) e es in
          let t = sum_by-cons (λ (x : ℕ × Command). command_token c x.1) (slot, command) es in
          omega (arith, s, t)
      by false true le =
          let t = sum_by-cons (λ (x : ℕ × Command). command_token c x.1) (slot, command) (e ∷ es) in
          omega (arith, t)
      by false false le =
          let s = sum_by-cons (λ (x : ℕ × Command). command_token c x.1) e es in
          let t = sum_by-cons (λ (x : ℕ × Command). command_token c x.1) e (with_slot es slot command) in
          omega (arith, le, s, t)

  without_call_tokens : (client : ℕ) (backlog : List Command) → sum_by (command_token c) (without_request backlog client) ≤ sum_by (command_token c) backlog
  without_call_tokens client [] = omega arith
  without_call_tokens client (command ∷ backlog) = by (is_request_of client command) (without_call_tokens client backlog)
    where
      by : (b : Bool) → sum_by (command_token c) (without_request backlog client) ≤ sum_by (command_token c) backlog → sum_by (command_token c) (cond b backlog (command ∷ without_request backlog client)) ≤ sum_by (command_token c) (command ∷ backlog)
      by true le = let s = sum_by-cons (command_token c) command backlog in omega (arith, s)
      by false le =
          let s = sum_by-cons (command_token c) command backlog in
          let t = sum_by-cons (command_token c) command (without_request backlog client) in
          omega (arith, le, s, t)

  -- a call that is turned down is answered
  turned_tokens : (me : ℕ) (group : Draw) (command : Command) (answer : AnswerBody) (mails : List Mail) → sum_by (mail_token c) (answered me group answer command mails) ≤ sum_by (mail_token c) mails + command_token c command
  unfolding answered
  turned_tokens me group (Call client seq op) answer mails = (let one = sent_token me (client_actor client) (Answer group seq answer) mails in let same = answer_token client group seq answer in omega (arith, one, same))
  turned_tokens me group _ answer mails = omega arith

  -- ---- what is offered

  offering : (slot : ℕ) (set : List ℕ) (command : Command) (r : ReplicaState) (mails : List Mail) → place_tokens c (offered slot set command (r, mails)) ≤ place_tokens c (r, mails) + command_token c command
  unfolding offered
  offering slot set command r mails =
      let flight : Flight Command = record { slot = slot; value = command; voters = None } in
      let one = sum_by_push (λ (f : Flight Command). command_token c f.value) r.leader.flights flight in
      let all = all_token r.me (Accept (name_of r) r.leader.ballot slot command) (λ node. refl) set mails in
      omega (arith, one, all)

  -- ---- the pump

  abbrev Holds : ℕ → Place → Type 0
  Holds most place = (place_tokens c place ≤ most) × IsFree place.0

  still : (slot : ℕ) (set : List ℕ) (command : Command) (r : ReplicaState) (mails : List Mail) → IsFree r → IsFree (offered slot set command (r, mails)).0
  unfolding offered
  still slot set command r mails free = free

  -- one that waited, and waits no more
  offers_one : (most slot : ℕ) (set : List ℕ) (command : Command) (r : ReplicaState) (mails : List Mail) → place_tokens c (r, mails) + command_token c command ≤ most → IsFree r → Holds most (offered slot set command (r, mails))
  offers_one most slot set command r mails low free = (let one = offering slot set command r mails in omega (arith, one, low), still slot set command r mails free)

  offers_tokens : (most : ℕ) → TableOffers (Holds most)
  offers_tokens most = record {
    turned = λ command answer backlog r mails on e no k. (
        let turned = turned_tokens r.me r.group.core.id command answer mails in
        let s = sum_by-cons (command_token c) command backlog in
        let same = ap (sum_by (command_token c)) e in
        let low = k.0 in
        (omega (arith, turned, s, same, low), k.1));
    offers_value = λ slot set command r mails on at free e k. absurd (let bad : Open ≡ Value command = sym (k.1 slot at.low) ∙ e in cc);
    offers_noop = λ slot set r mails on at free gap k. absurd (let bad : Open ≡ Gap = sym (k.1 slot at.low) ∙ gap in cc);
    offers_act = λ slot set act acts r mails on at free e k. (
        let s = sum_by-cons (command_token c) act acts in
        let same = ap (sum_by (command_token c)) e in
        let low = k.0 in
        offers_one most slot set act (record r { acts = acts }) mails (omega (arith, s, same, low)) k.1);
    offers_call = λ slot set command backlog r mails on at free e k. (
        let s = sum_by-cons (command_token c) command backlog in
        let same = ap (sum_by (command_token c)) e in
        let low = k.0 in
        offers_one most slot set command (record r { backlog = backlog }) mails (omega (arith, s, same, low)) k.1);
  }

  pub pump_tokens : (place : Place) → IsFree place.0 → place_tokens c (pumped place) ≤ place_tokens c place
  pump_tokens place free = (pump_keeps (Holds (place_tokens c place)) (offers_tokens (place_tokens c place)) place (omega arith, free)).0.0

  -- ---- a request

  call_tokens : (o : Option ℕ) (client seq : ℕ) (op : Op) (r : ReplicaState) (mails : List Mail) → IsFree r → place_tokens c (queued o client seq op (r, mails)) ≤ place_tokens c (r, mails) + cond (eqb client c) 1 0
  unfolding queued
  call_tokens None client seq op r mails may =
      let le = pump_tokens (record r { backlog = r.backlog ++ Call client seq op ∷ [] }, mails) may in
      let s = sum_by_push (command_token c) r.backlog (Call client seq op) in
      omega (arith, le, s)
  call_tokens (Some other) client seq op r mails may = by (nat_le seq other)
    where
      by : (b : Bool) → place_tokens c (cond {A = Place} b (r, mails) (pumped (record r { backlog = without_request r.backlog client ++ Call client seq op ∷ [] }, mails))) ≤ place_tokens c (r, mails) + cond (eqb client c) 1 0
      by true = omega arith
      by false =
          let le = pump_tokens (record r { backlog = without_request r.backlog client ++ Call client seq op ∷ [] }, mails) may in
          let s = sum_by_push (command_token c) (without_request r.backlog client) (Call client seq op) in
          let w = without_call_tokens client r.backlog in
          omega (arith, le, s, w)

  pub request_tokens : (client seq : ℕ) (op : Op) (r : ReplicaState) (mails : List Mail) → IsFree r → place_tokens c (request_row client seq op (r, mails)) ≤ place_tokens c (r, mails) + cond (eqb client c) 1 0
  unfolding request_row requested
  request_tokens client seq op r mails may = by (refused_at r.group.core.gone op r)
    where
      by : (o : Option AnswerBody) → place_tokens c (requested o client seq op (r, mails)) ≤ place_tokens c (r, mails) + cond (eqb client c) 1 0
      by (Some answer) = (let one = sent_token r.me (client_actor client) (Answer (name_of r) seq answer) mails in let same = answer_token client (name_of r) seq answer in omega (arith, one, same))
      by None = call_tokens (queued_number r.backlog client) client seq op r mails may
