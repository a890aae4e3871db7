-- No mail makes a replica run that does not, where its group is not reshaped: it knows a member that leads.
use Rattle.std.proofs.Common.{◌≡◌, ℕ, ◌||◌, not, nat_lt, eqb, true, false, true≢false, List, length, Option, Some, None, refl, sym, ◌∙◌, ap, subst}
use Rattle.std.specs.Option.{option_map}
use Rattle.std.proofs.lemmas.Bool.{cond_both, cond-true, cond-false, and_parts}
use Rattle.sc_base.specs.Definitions.{is_member, same_ballot}
use Rattle.sc_node_table.specs.Values.{Ballot, Op, Base, Command, Core, Free, Route, AnswerBody, Mail, Flight, Report}
use Rattle.sc_words.specs.paxos.PaxosDefinitions.{flight_at, promise_counted, entry_at}
use Rattle.sc_node_table.specs.NodeDefinitions.{slot_lost, landed, left_gone, left, is_among, looked_for, looked, executed_one, all_ready, executed, install_to, entered, pumped, ReplicaState, Place, Executed, childless, next, members, forgotten, set_at, flying, last_slot, refused_at, requested, request_row, learn_row, ask_answered, ask_row, took_over, install_row, promised, prepare_row, took, accept_row, leads, promise_row, voted, accepted_row, nack_row}
use Rattle.sc_law_walks.proofs.WalkLemmas.{either_way, cleared, idle_ready, idle_pump, taken_runs}
use Rattle.sc_live_healed.specs.HealedDefinitions.{IsFixedCommand, IsFixedReplica, IsFixedBase, IsFollower}
use Rattle.sc_live_healed.proofs.ExecutedSlots.{core_after, entry_says}
use Rattle.sc_live_healed.proofs.ServedRows.{seen_by, promised_runs, took_runs, took_over_off}

-- one that does not run stays as it is where it knows who leads
looked_none : (P : Place → Type 0) (gone : Option Route) (r : ReplicaState) (mails : List Mail) → gone ≡ None → is_among (members r) r.hint ≡ true → P (r, mails) → P (looked_for gone (r, mails))
looked_none P None r mails g m p = subst P (sym (cond-true (is_among (members r) r.hint) (r, mails) _ m)) p
looked_none P (Some into) r mails g m p = cc

knows : (P : Place → Type 0) (r : ReplicaState) (mails : List Mail) → r.running ≡ false → r.group.core.gone ≡ None → is_among (members r) r.hint ≡ true → P (r, mails) → P (looked (left (r, mails)))
unfolding left looked
knows P r mails off g m p =
    subst (λ (place : Place). P (looked place)) (sym (cond-false r.running (left_gone r.group.core.gone (r, mails)) (r, mails) off))
    (subst P (sym (cond-false r.running (r, mails) (looked_for r.group.core.gone (r, mails)) off)) (looked_none P r.group.core.gone r mails g m p))

module _ (base : Base) (free : base.core.lock ≡ Free) (stands : base.core.gone ≡ None) (r : ReplicaState) (member : is_member base.core.members r.me ≡ true) (fixed : IsFixedReplica base r) (off : r.running ≡ false) (follows : IsFollower base r) where
  abbrev Off : Place → Type 0
  Off place = place.0.running ≡ false

  abbrev OffAfter : Executed → Type 0
  OffAfter step = Off step.0

  requests_by : (o : Option AnswerBody) (client seq : ℕ) (op : Op) (mails : List Mail) → refused_at r.group.core.gone op r ≡ o → Off (requested o client seq op (r, mails))
  unfolding requested
  requests_by (Some answer) client seq op mails e = off
  requests_by None client seq op mails e = absurd (true≢false (sym (taken_runs r.group.core.gone r.group.core r.running r.hint op e) ∙ off))

  pub stopped_requests : (client seq : ℕ) (op : Op) (mails : List Mail) → Off (request_row client seq op (r, mails))
  unfolding request_row
  stopped_requests client seq op mails = requests_by (refused_at r.group.core.gone op r) client seq op mails refl

  pub stopped_prepares : (from : ℕ) (seen : Ballot) (from_slot : ℕ) (mails : List Mail) → Off (prepare_row from seen from_slot (r, mails))
  unfolding prepare_row
  stopped_prepares from seen from_slot mails =
      seen_by (λ (place : Place). Off (promised from seen from_slot place)) seen r mails (λ place o. promised_runs from seen from_slot place ∙ o) (λ top f. promised_runs from seen from_slot (record r { top = top }, mails) ∙ off)

  pub stopped_accepts : (from : ℕ) (seen : Ballot) (slot : ℕ) (command : Command) (mails : List Mail) → Off (accept_row from seen slot command (r, mails))
  unfolding accept_row
  stopped_accepts from seen slot command mails =
      let report : Report Command = record { slot = slot; ballot = seen; value = command } in
      seen_by (λ (place : Place). Off (took from report place)) seen r mails (λ place o. took_runs from report place ∙ o) (λ top f. took_runs from report (record r { top = top }, mails) ∙ off)

  pub stopped_nacks : (seen : Ballot) (mails : List Mail) → Off (nack_row seen (r, mails))
  unfolding nack_row
  stopped_nacks seen mails = seen_by Off seen r mails (λ place o. o) (λ top f. off)

  leads_not : (seen : Ballot) → leads seen r ≡ true → ⊥
  leads_not seen t = true≢false (sym (and_parts r.running (same_ballot seen r.leader.ballot) t).0 ∙ off)

  pub stopped_promises : (from : ℕ) (seen : Ballot) (reports : List (Report Command)) (mails : List Mail) → Off (promise_row from seen reports (r, mails))
  unfolding promise_row
  stopped_promises from seen reports mails =
      cond_both (leads seen r) (pumped (record r { leader = (promise_counted from seen reports r.leader).1 }, mails)) (r, mails) Off (λ t. absurd (leads_not seen t)) (λ _. off)

  pub stopped_votes : (from : ℕ) (seen : Ballot) (slot : ℕ) (mails : List Mail) → OffAfter (accepted_row from seen slot (r, mails))
  unfolding accepted_row
  stopped_votes from seen slot mails = cond_both (leads seen r) (voted from seen slot (set_at slot r) (r, mails)) (childless (r, mails)) OffAfter (λ t. absurd (leads_not seen t)) (λ _. off)

  -- ---- Learn

  none_flies : (command : Command) → flying (entered command r) (next r) ≡ None
  unfolding entered forgotten
  none_flies command = ap (λ (fs : List (Flight Command)). option_map (λ (flight : Flight Command). flight.value) (flight_at (next r) fs)) follows.flights

  -- what is left of it after an entry
  record IsLeft (after : ReplicaState) : Type 0 where
    stopped : after.running ≡ false
    core : after.group.core ≡ base.core
    hint : after.hint ≡ r.hint

  cleared_left : (command : Command) (more : List Mail) → IsFixedCommand base command → IsLeft (cleared (next r) (entered command r, more)).0
  unfolding entered forgotten
  cleared_left command more good = record { stopped = off; core = core_after base r.me r.leader.ballot (λ flight. Unit {0}) free stands member command r.group good fixed.group; hint = refl }

  -- it knows a member that leads
  knows_lead : (after : ReplicaState) → IsLeft after → is_among (members after) after.hint ≡ true
  knows_lead after l =
      ap (λ (core : Core). is_among core.members after.hint) l.core ∙ ap (is_among base.core.members) (l.hint ∙ follows.hint) ∙ follows.member

  entered_off : (command : Command) (mails : List Mail) → IsFixedCommand base command → Off (executed_one false command (r, mails))
  unfolding executed_one landed
  entered_off command mails good =
      let said = entry_says base r.me r.leader.ballot (λ flight. Unit {0}) free stands member false command r mails good fixed.group in
      let after : ReplicaState = (cleared (next r) (entered command r, said.0)).0 in
      let l : IsLeft after = cleared_left command said.0 good in
      subst (λ (p : Place). Off (looked (left (landed false (next r) command p)))) (sym said.1)
      (subst (λ (o : Option Command). Off (looked (left (slot_lost false command o after, said.0)))) (sym (none_flies command))
      (knows Off after said.0 l.stopped (ap (λ (core : Core). core.gone) l.core ∙ stands) (knows_lead after l) l.stopped))

  executed_off : (command : Command) (mails : List Mail) → IsFixedCommand base command → OffAfter (executed false command (r, mails))
  unfolding executed
  executed_off command mails good =
      let place : Place = executed_one false command (r, mails) in
      let idle = entered_off command mails good in
      let rest : Off (all_ready place).0 = ap (λ (step : Executed). step.0.0.running) (idle_ready place.0.ready place idle) ∙ idle in
      ap (λ (p : Place). p.0.running) (idle_pump (all_ready place).0 rest) ∙ rest

  pub stopped_learns : (from slot : ℕ) (command : Command) (mails : List Mail) → IsFixedCommand base command → OffAfter (learn_row from slot command (r, mails))
  unfolding learn_row
  stopped_learns from slot command mails good =
      either_way OffAfter (nat_lt last_slot slot) (childless (r, mails)) _ off
      (either_way OffAfter (eqb slot (next r)) (executed false command (r, mails)) _ (executed_off command mails good) (either_way OffAfter (nat_lt (next r) slot) _ (childless (r, mails)) off off))

  -- ---- Ask and Install

  answers_by : (o : Option Command) (from slot : ℕ) (mails : List Mail) → Off (ask_answered o from slot (r, mails))
  unfolding install_to
  answers_by None from slot mails = off
  answers_by (Some command) from slot mails = off

  pub stopped_asks : (from slot : ℕ) (mails : List Mail) → Off (ask_row from slot (r, mails))
  unfolding ask_row
  stopped_asks from slot mails = either_way Off (nat_lt slot (next r)) (ask_answered (entry_at slot r.log) from slot (r, mails)) (r, mails) (answers_by (entry_at slot r.log) from slot mails) off

  pub stopped_installs : (from slot : ℕ) (sent : Base) (sets : List (List ℕ)) (mails : List Mail) → IsFixedBase base sent → is_member base.core.members from ≡ true → Off (install_row from slot sent sets (r, mails))
  unfolding install_row
  stopped_installs from slot sent sets mails same m =
      either_way Off (not (eqb (length sets) (length r.sets)) || (nat_lt last_slot slot || nat_lt slot (next r))) (r, mails) (took_over from slot sent sets (r, mails)) off (took_over_off base from slot sent sets (r, mails) same m)
