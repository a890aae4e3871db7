-- What is answered from what a replica has, and what comes too late, leaves the replica.
use Rattle.std.proofs.Common.{◌≡◌, ℕ, zero, suc, ◌+◌, ◌-◌, ◌<◌, ◌||◌, ◌&&◌, not, nat_lt, eqb, length, Bool, true, false, cond, List, [], Option, Some, None, refl, sym, ◌∙◌, ap, subst, arith}
use Rattle.std.proofs.lemmas.Bool.{cond-false, eqb-true, lt-ltb, le-ltb}
use Rattle.sc_node_table.specs.Values.{Ballot, Draw, Command, Base, Mail, Ask, Accepted, Promise, Nack, Learn, Install, Report, Counted, NotYet}
use Rattle.sc_base.specs.Definitions.{same_ballot}
use Rattle.sc_law_walks.proofs.WalkLemmas.{either_way}
use Rattle.sc_group_table.specs.machine.MachineDefinitions.{base_of}
use Rattle.sc_node_table.specs.NodeDefinitions.{executed, install_to, sent, pumped, ReplicaState, Place, Executed, childless, name_of, next, set_at, last_slot, mailed, ask_row, ask_answered, taught, most_taught, learn_row, install_row, took_over, accepted_row, promise_row, leads, voted, vote_tallied}
use Rattle.sc_words.specs.paxos.PaxosDefinitions.{LeaderState, flight_at, promise_counted, entry_at, counted, vote_at}
use Rattle.sc_live_steps.specs.orders.OrderDefinitions.{works, errands_for, Works}
use Rattle.sc_live_steps.proofs.OrderStepsProofs.OrderStepLemmas.{errands-none, tables-rest}
use Rattle.sc_live_journals.specs.scenes.SceneDefinitions.{AskedKeep}
use Rattle.sc_live_journals.proofs.ScenesProofs.OrderRows.{lead_rests, aside_rests}

-- a row leaves the replica, and sends no errand
module _ (r : ReplicaState) where
  abbrev Untouched : Place → Type 0
  Untouched place = (place.0 ≡ r) × ((name : Draw) → errands_for name place.1 ≡ [])

  abbrev Leaves : Executed → Type 0
  Leaves done = Untouched done.0

  pub untouched : (place : Place) → Untouched place → Works (works r) [] r place
  untouched place u = record {
    group = ap (λ (q : ReplicaState). q.group) u.0;
    me = ap (λ (q : ReplicaState). q.me) u.0;
    running = ap (λ (q : ReplicaState). q.running) u.0;
    work = ap works u.0;
    sends = (tt, λ name none. u.1 name);
  }

  itself : Untouched (r, [])
  itself = (refl, λ name. refl)

  -- ---- what is asked for

  taught_none : (count from slot : ℕ) (mails : List Mail) → ((name : Draw) → errands_for name mails ≡ []) → (name : Draw) → errands_for name (taught count r from slot mails) ≡ []
  unfolding taught
  taught_none zero from slot mails none = none
  taught_none (suc count) from slot mails none =
      by (entry_at slot r.log) (λ command. taught_none count from (slot + 1) (sent r.me from (Learn (name_of r) slot command) mails) (λ name. errands-none name r.me from (Learn (name_of r) slot command) mails refl ∙ none name))
    where
      by : (o : Option Command) → ((command : Command) (name : Draw) → errands_for name (taught count r from (slot + 1) (sent r.me from (Learn (name_of r) slot command) mails)) ≡ []) → (name : Draw)
          → errands_for name (elim o [ None ↦ mails | Some command ↦ taught count r from (slot + 1) (sent r.me from (Learn (name_of r) slot command) mails) ]) ≡ []
      by None more = none
      by (Some command) more = more command

  state_sent : (from : ℕ) → Untouched (install_to from (r, []))
  unfolding install_to
  state_sent from = (refl, λ name. errands-none name r.me from (Install (name_of r) (next r - 1) (base_of r.group) r.sets) [] refl)

  answered : (from slot : ℕ) (o : Option Command) → Untouched (ask_answered o from slot (r, []))
  answered from slot None = state_sent from
  answered from slot (Some command) = (refl, taught_none most_taught from slot [] (λ name. refl))

  pub asks_leave : (from : ℕ) (group : Draw) (slot : ℕ) → Leaves (mailed from (Ask group slot) (r, []))
  unfolding mailed ask_row
  asks_leave from group slot = either_way Untouched (nat_lt slot (next r)) (ask_answered (entry_at slot r.log) from slot (r, [])) (r, []) (answered from slot (entry_at slot r.log)) itself

  -- ---- votes and promises

  late_by : (from : ℕ) (ballot : Ballot) (slot : ℕ) → flight_at slot r.leader.flights ≡ None → (set : Option (List ℕ)) → Leaves (voted from ballot slot set (r, []))
  late_by from ballot slot none None = itself
  late_by from ballot slot none (Some set) = subst (λ (c : Counted Command × LeaderState Command). Leaves (vote_tallied slot c (r, []))) (sym same) itself
    where
      same : counted from ballot slot set r.leader ≡ (NotYet 0, r.leader)
      same = either_way (λ (c : Counted Command × LeaderState Command). c ≡ (NotYet 0, r.leader)) (same_ballot ballot r.leader.ballot) (vote_at from slot set (flight_at slot r.leader.flights) r.leader) (NotYet 0, r.leader)
          (ap (λ o. vote_at from slot set o r.leader) none) refl

  pub votes_late : (from : ℕ) (group : Draw) (ballot : Ballot) (slot : ℕ) → flight_at slot r.leader.flights ≡ None → Leaves (mailed from (Accepted group ballot slot) (r, []))
  unfolding mailed accepted_row
  votes_late from group ballot slot none = either_way Leaves (leads ballot r) (voted from ballot slot (set_at slot r) (r, [])) (childless (r, [])) (late_by from ballot slot none (set_at slot r)) itself

  halted : (ballot : Ballot) → r.running ≡ false → leads ballot r ≡ false
  halted ballot e = ap (λ b. b && same_ballot ballot r.leader.ballot) e

  votes_beside : (from : ℕ) (group : Draw) (ballot : Ballot) (slot : ℕ) → r.running ≡ false → Leaves (mailed from (Accepted group ballot slot) (r, []))
  unfolding mailed accepted_row
  votes_beside from group ballot slot e = subst Leaves (sym (cond-false (leads ballot r) (voted from ballot slot (set_at slot r) (r, [])) (childless (r, [])) (halted ballot e))) itself

  promises_beside : (from : ℕ) (group : Draw) (ballot : Ballot) (reports : List (Report Command)) → r.running ≡ false → Leaves (mailed from (Promise group ballot reports) (r, []))
  unfolding mailed promise_row
  promises_beside from group ballot reports e =
      subst Untouched (sym (cond-false (leads ballot r) (pumped (record r { leader = (promise_counted from ballot reports r.leader).1 }, [])) (r, []) (halted ballot e))) itself

  -- ---- what the replica has

  pub learnt_late : (from : ℕ) (group : Draw) (slot : ℕ) (command : Command) → slot < next r → Leaves (mailed from (Learn group slot command) (r, []))
  unfolding mailed learn_row
  learnt_late from group slot command low = by (nat_lt last_slot slot) (eqb slot (next r)) refl (nat_lt (next r) slot) (le-ltb (next r) slot (omega (arith, low)))
    where
      by : (b c : Bool) → eqb slot (next r) ≡ c → (d : Bool) → d ≡ false
          → Leaves (cond b (childless (r, [])) (cond c (executed false command (r, [])) (cond d (childless (r, sent r.me from (Ask (name_of r) (next r)) [])) (childless (r, [])))))
      by true c e d f = itself
      by false true e d f = (let fact = eqb-true slot (next r) e in absurd (omega (arith, fact, low)))
      by false false e true f = absurd cc
      by false false e false f = itself

  pub sent_late : (from : ℕ) (group : Draw) (slot : ℕ) (base : Base) (sets : List (List ℕ)) → slot < next r → Leaves (mailed from (Install group slot base sets) (r, []))
  unfolding mailed install_row
  sent_late from group slot base sets low = by (not (eqb (length sets) (length r.sets))) (nat_lt last_slot slot) (nat_lt slot (next r)) (lt-ltb slot (next r) low)
    where
      by : (a b c : Bool) → c ≡ true → Untouched (cond (a || (b || c)) (r, []) (took_over from slot base sets (r, [])))
      by true b c e = itself
      by false true c e = itself
      by false false true e = itself
      by false false false e = absurd cc

-- An order stays under way where a replica is asked for entries, where a vote, a promise or a refusal comes that its replica does not count, and where the leader is sent what it has.
pub asked_keep : AskedKeep
asked_keep = record {
  ask = λ words births rows seat number mail group r named slot c e.
      lead_rests words births rows seat number mail group r c (Ask named slot) e refl (untouched r (mailed mail.from (Ask named slot) (r, [])).0 (asks_leave r mail.from named slot));
  ask_beside = λ words births rows seat number mail group r named slot c e.
      aside_rests words births rows seat number mail group r c (Ask named slot) e refl (tt, λ name none. (asks_leave r mail.from named slot).1 name);
  vote_late = λ words births rows seat number mail group r named ballot slot c e none.
      lead_rests words births rows seat number mail group r c (Accepted named ballot slot) e refl (untouched r (mailed mail.from (Accepted named ballot slot) (r, [])).0 (votes_late r mail.from named ballot slot none));
  vote_beside = λ words births rows seat number mail group r named ballot slot c e stopped.
      aside_rests words births rows seat number mail group r c (Accepted named ballot slot) e refl (tt, λ name none. (votes_beside r mail.from named ballot slot stopped).1 name);
  promise_beside = λ words births rows seat number mail group r named ballot reports c e stopped.
      aside_rests words births rows seat number mail group r c (Promise named ballot reports) e refl (tt, λ name none. (promises_beside r mail.from named ballot reports stopped).1 name);
  nack_beside = λ words births rows seat number mail group r named ballot c e goes.
      aside_rests words births rows seat number mail group r c (Nack named ballot) e refl (tables-rest.nack mail.from named ballot r goes).sends;
  learn_late = λ words births rows seat number mail group r named slot command c e low.
      lead_rests words births rows seat number mail group r c (Learn named slot command) e refl (untouched r (mailed mail.from (Learn named slot command) (r, [])).0 (learnt_late r mail.from named slot command low));
  install_late = λ words births rows seat number mail group r named slot base sets c e low.
      lead_rests words births rows seat number mail group r c (Install named slot base sets) e refl (untouched r (mailed mail.from (Install named slot base sets) (r, [])).0 (sent_late r mail.from named slot base sets low));
}
