-- What more mail and more commands owe.
use Rattle.std.proofs.Common.{◌≡◌, ℕ, suc, ◌+◌, ◌*◌, ◌≤◌, eqb, ltb, Bool, true, false, cond, List, [], ◌∷◌, length, sum_by, Some, ap, arith}
use Rattle.std.proofs.lemmas.List.Sums.{sum_by_push, sum_by-cons}
use Rattle.std.proofs.Math.Nat.{suc-mul}
use Rattle.sc_node_table.specs.Values.{Command, Noop, Route, Mail, MailBody, Flight}
use Rattle.sc_words.specs.paxos.PaxosDefinitions.{without_flight}
use Rattle.sc_node_table.specs.NodeDefinitions.{sent, sent_all, at_slot, with_slot, without_slot}
use Rattle.sc_live_steps.specs.calm.CalmDefinitions.{idle_owes, election, Ways, command_owes, offered_owes, body_owes, mail_owes, flights_owe, ready_owes}
use Rattle.std.specs.Prelude.{Option, Some, None}

-- each command owes a round of agreement and an answer at least
pub command_most : (most : ℕ) (command : Command) → 27 ≤ command_owes most command
command_most most Noop = omega arith
command_most most _ = omega arith

-- one that does not run owes an election at most
pub idle_most : (b : Bool) (gone : Option Route) → idle_owes b gone ≤ election
idle_most true went = omega arith
idle_most false None = omega arith
idle_most false (Some into) = omega arith

module _ (ways : Ways) (me : ℕ) where
  -- one mail more
  pub sent_owes : (to : ℕ) (body : MailBody) (mails : List Mail) → sum_by (mail_owes ways) (sent me to body mails) ≡ sum_by (mail_owes ways) mails + body_owes ways to body
  sent_owes to body mails = sum_by_push (mail_owes ways) mails (record { from = me; to = to; body = body })

  -- the same to each, where it owes no more than so much to any
  pub all_owe : (body : MailBody) (each : ℕ) → ((node : ℕ) → body_owes ways node body ≤ each) → (nodes : List ℕ) (mails : List Mail) →
      sum_by (mail_owes ways) (sent_all me nodes body mails) ≤ sum_by (mail_owes ways) mails + length nodes * each
  unfolding sent_all
  all_owe body each most [] mails = omega arith
  all_owe body each most (node ∷ nodes) mails =
      let more = all_owe body each most nodes (sent me node body mails) in
      let one = sent_owes node body mails in
      let le = most node in
      let double : suc (length nodes) * each ≡ length nodes * each + each = suc-mul (length nodes) each in
      omega (arith, more, one, le, double)

-- ---- what is in flight or ready

pub without_flight_owes : (most slot : ℕ) (flights : List (Flight Command)) → flights_owe most (without_flight slot flights) ≤ flights_owe most flights
without_flight_owes most slot [] = omega arith
without_flight_owes most slot (flight ∷ flights) = by (eqb flight.slot slot) (without_flight_owes most slot flights)
  where
    owes : Flight Command → ℕ
    owes f = offered_owes most f.value

    by : (b : Bool) → flights_owe most (without_flight slot flights) ≤ flights_owe most flights → flights_owe most (cond b flights (flight ∷ without_flight slot flights)) ≤ flights_owe most (flight ∷ flights)
    by true le = let s = sum_by-cons (λ (f : Flight Command). offered_owes most f.value) flight flights in omega (arith, s)
    by false le =
        let s = sum_by-cons (λ (f : Flight Command). offered_owes most f.value) flight flights in
        let t = sum_by-cons (λ (f : Flight Command). offered_owes most f.value) flight (without_flight slot flights) in
        omega (arith, le, s, t)

pub without_slot_owes : (most slot : ℕ) (ready : List (ℕ × Command)) → ready_owes most (without_slot ready slot) ≤ ready_owes most ready
without_slot_owes most slot [] = omega arith
without_slot_owes most slot (e ∷ es) = by (eqb e.0 slot) (without_slot_owes most slot es)
  where
    by : (b : Bool) → ready_owes most (without_slot es slot) ≤ ready_owes most es → ready_owes most (cond b es (e ∷ without_slot es slot)) ≤ ready_owes most (e ∷ es)
    by true le = let s = sum_by-cons (λ (x : ℕ × Command). offered_owes most x.1) e es in omega (arith, s)
    by false le =
        let s = sum_by-cons (λ (x : ℕ × Command). offered_owes most x.1) e es in
        let t = sum_by-cons (λ (x : ℕ × Command). offered_owes most x.1) e (without_slot es slot) in
        omega (arith, le, s, t)

-- what was ready at a slot is not owed any more
pub taken_slot_owes : (most slot : ℕ) (ready : List (ℕ × Command)) (command : Command) → at_slot ready slot ≡ Some command → ready_owes most (without_slot ready slot) + offered_owes most command ≡ ready_owes most ready
taken_slot_owes most slot [] command e = cc
taken_slot_owes most slot (e ∷ es) command at = by (eqb e.0 slot) at (taken_slot_owes most slot es command)
  where
    by : (b : Bool) → cond b (Some e.1) (at_slot es slot) ≡ Some command → (at_slot es slot ≡ Some command → ready_owes most (without_slot es slot) + offered_owes most command ≡ ready_owes most es) →
        ready_owes most (cond b es (e ∷ without_slot es slot)) + offered_owes most command ≡ ready_owes most (e ∷ es)
    by true fact more =
        let same : e.1 ≡ command = cc in
        let s = sum_by-cons (λ (x : ℕ × Command). offered_owes most x.1) e es in
        let t = ap (offered_owes most) same in
        omega (arith, s, t)
    by false fact more =
        let le = more fact in
        let s = sum_by-cons (λ (x : ℕ × Command). offered_owes most x.1) e es in
        let t = sum_by-cons (λ (x : ℕ × Command). offered_owes most x.1) e (without_slot es slot) in
        omega (arith, le, s, t)

-- one that becomes ready
pub with_slot_owes : (most slot : ℕ) (command : Command) (ready : List (ℕ × Command)) → ready_owes most (with_slot ready slot command) ≤ ready_owes most ready + offered_owes most command
with_slot_owes most slot command [] = let s = sum_by-cons (λ (x : ℕ × Command). offered_owes most x.1) (slot, command) [] in omega (arith, s)
with_slot_owes most slot command (e ∷ es) = by (eqb e.0 slot) (ltb slot e.0) (with_slot_owes most slot command es)
  where
    by : (b c : Bool) → ready_owes most (with_slot es slot command) ≤ ready_owes most es + offered_owes most command →
        ready_owes most (cond b ((slot, command) ∷ es) (cond c ((slot, command) ∷ e ∷ es) (e ∷ with_slot es slot command))) ≤ ready_owes most (e ∷ es) + offered_owes most command
    by true c le =
        let s = sum_by-cons (λ (x : ℕ × Command). offered_owes most x.1) e es in
        let t = sum_by-cons (λ (x : ℕ × Command). offered_owes most x.1) (slot, command) es in
        omega (arith, s, t)
    by false true le =
        let t = sum_by-cons (λ (x : ℕ × Command). offered_owes most x.1) (slot, command) (e ∷ es) in
        omega (arith, t)
    by false false le =
        let s = sum_by-cons (λ (x : ℕ × Command). offered_owes most x.1) e es in
        let t = sum_by-cons (λ (x : ℕ × Command). offered_owes most x.1) e (with_slot es slot command) in
        omega (arith, le, s, t)
