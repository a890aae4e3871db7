-- A replica that does not run takes an entry that it learns as the entry's mark says, and so the table follows.
use Rattle.std.proofs.Common.{◌≡◌, ℕ, max, ◌≤◌, eqb, ltb, Bool, true, false, true≢false, cond, List, [], Option, Some, None, inl, inr, refl, sym, ◌∙◌, ap, subst, arith}
use Rattle.std.specs.Option.{option_map}
use Rattle.std.proofs.lemmas.Bool.{eqb-true, eq-eqb, le-ltb}
use Rattle.sc_node_table.specs.Values.{Draw, Command, Effect, Route, OrderResult, Mail, Ask, Told, Flight}
use Rattle.sc_base.specs.Definitions.{least_of}
use Rattle.sc_group_table.specs.policy.PolicyDefinitions.{is_reported}
use Rattle.sc_words.specs.paxos.PaxosDefinitions.{LeaderState, flight_at, without_flight_at}
use Rattle.sc_group_table.specs.machine.MachineDefinitions.{applied}
use Rattle.sc_node_table.specs.declared.Before.{Before}
use Rattle.sc_node_table.specs.NodeDefinitions.{elected, entered, order_result, effect_reported, announced, learnt_to, welcomed, slot_lost, landed, left_gone, left, is_among, looked_for, looked, executed_one, executed_ready, executed, sent, order_reported, result_sent, order_number, pumped, ReplicaState, Place, Executed, childless, name_of, next, members, last_slot, floor_of, forgotten, learn_row, mailed, without_slot, before_of, begun_result, spoken_number, result_reported, begun_reported, spoken_mails, spoken}
use Rattle.sc_live_steps.specs.following.FollowingDefinitions.{Teaches, marks_for, StepsBy, IsInTime, Stays, TablesFollow}
use Rattle.sc_live_steps.proofs.FollowingProofs.MailTables.{marks-push, floor_low, accept_steps, prepare_steps, install_steps}
use Rattle.sc_law_walks.proofs.WalkLemmas.{entered_next, idle_ready, idle_pump}

-- ---- what the desk is sent is nothing to a group

module _ (name : Draw) (who : ℕ) where
  pub desk_marks : (me number : ℕ) (result : OrderResult) (mails : List Mail) → marks_for name who (order_reported me number result mails) ≡ marks_for name who mails
  unfolding order_reported
  desk_marks me number result mails = by (is_reported number)
    where
      by : (b : Bool) → marks_for name who (cond b (result_sent me number result mails) mails) ≡ marks_for name who mails
      by true = marks-push name who mails (record { from = me; to = 0; body = Told number result }) refl
      by false = refl

  effect_marks : (o : Option OrderResult) (command : Command) (r : ReplicaState) (mails : List Mail) →
      ((effect_reported o command (r, mails)).0 ≡ r) × (marks_for name who (effect_reported o command (r, mails)).1 ≡ marks_for name who mails)
  unfolding effect_reported
  effect_marks None command r mails = (refl, refl)
  effect_marks (Some result) command r mails = (refl, desk_marks r.me (order_number command) result mails)

  announced_marks : (effect : Effect) (command : Command) (r : ReplicaState) (mails : List Mail) →
      ((announced false effect command (r, mails)).0 ≡ r) × (marks_for name who (announced false effect command (r, mails)).1 ≡ marks_for name who mails)
  unfolding announced
  announced_marks effect command r mails = effect_marks (order_result command effect) command r mails

  pub begun_marks : (me : ℕ) (before : Before) (effect : Effect) (command : Command) (mails : List Mail) → marks_for name who (begun_reported me before effect command mails) ≡ marks_for name who mails
  unfolding begun_reported
  begun_marks me before effect command mails = by (begun_result before.alone effect command)
    where
      by : (o : Option OrderResult) → marks_for name who (result_reported me o (spoken_number before.order command) mails) ≡ marks_for name who mails
      by None = refl
      by (Some result) = desk_marks me (spoken_number before.order command) result mails

  spoken_marks : (before : Before) (effect : Effect) (command : Command) (r : ReplicaState) (mails : List Mail) →
      ((spoken false before effect command (r, mails)).0 ≡ r) × (marks_for name who (spoken false before effect command (r, mails)).1 ≡ marks_for name who mails)
  unfolding spoken spoken_mails
  spoken_marks before effect command r mails = (refl, begun_marks r.me before effect command mails)

-- ---- the parts of an entry that is learnt

pub learnt_same : (before : List ℕ) (slot : ℕ) (command : Command) (r : ReplicaState) (mails : List Mail) → learnt_to false before slot command (r, mails) ≡ (r, mails)
unfolding learnt_to
learnt_same before slot command r mails = refl

pub welcomed_same : (before : List ℕ) (r : ReplicaState) (mails : List Mail) → welcomed false before (r, mails) ≡ (r, mails)
unfolding welcomed
welcomed_same before r mails = refl

-- where nothing is in flight, the slot is over
landed_same : (slot : ℕ) (command : Command) (r : ReplicaState) (mails : List Mail) → r.leader.flights ≡ [] → landed false slot command (r, mails) ≡ (record r { leader = without_flight_at slot r.leader; ready = without_slot r.ready slot }, mails)
unfolding landed
landed_same slot command r mails none =
    ap (λ (o : Option Command). (slot_lost false command o (record r { leader = without_flight_at slot r.leader; ready = without_slot r.ready slot }), mails))
    (ap (λ (fs : List (Flight Command)). option_map (λ (flight : Flight Command). flight.value) (flight_at slot fs)) none)

pub left_same : (r : ReplicaState) (mails : List Mail) → r.running ≡ false → left (r, mails) ≡ (r, mails)
unfolding left
left_same r mails off = ap (λ b. cond {A = Place} b (left_gone r.group.core.gone (r, mails)) (r, mails)) off

-- one that does not elect itself takes some node for the leader
pub looked_same : (P : Place → Type 0) (r : ReplicaState) (mails : List Mail) → r.running ≡ false → Stays r → ((hint : Option ℕ) → P (record r { hint = hint }, mails)) → P (looked (r, mails))
unfolding looked
looked_same P r mails off stays p = subst (λ b. P (cond {A = Place} b (r, mails) (looked_for r.group.core.gone (r, mails)))) (sym off) (by_gone r.group.core.gone refl)
  where
    by_hint : (b c : Bool) → is_among (members r) r.hint ≡ b → eqb (least_of (members r)) r.me ≡ c → r.group.core.gone ≡ None
        → P (cond {A = Place} b (r, mails) (cond c (elected (record r { hint = Some r.me }, mails)) (record r { hint = Some (least_of (members r)) }, mails)))
    by_hint true c hinted least stands = p r.hint
    by_hint false false hinted least stands = p (Some (least_of (members r)))
    by_hint false true hinted least stands = elim stays [
      | inl t ↦ absurd (true≢false (sym t ∙ hinted))
      | inr (inl apart) ↦ absurd (apart (eqb-true (least_of (members r)) r.me least))
      | inr (inr went) ↦ (let bad : None ≡ Some went.0 = sym stands ∙ went.1 in cc)
    ]

    by_gone : (gone : Option Route) → r.group.core.gone ≡ gone → P (looked_for gone (r, mails))
    by_gone (Some into) e = p r.hint
    by_gone None e = by_hint (is_among (members r) r.hint) (eqb (least_of (members r)) r.me) refl refl e

-- what an entry leaves
pub entered_keeps : (command : Command) (r : ReplicaState) → ((entered command r).acceptor.promised ≡ r.acceptor.promised) × ((entered command r).running ≡ r.running) × ((entered command r).leader ≡ r.leader)
unfolding entered forgotten
entered_keeps command r = (refl, refl, refl)

pub entered_floor : (command : Command) (r : ReplicaState) → (entered command r).acceptor.floor ≡ max r.acceptor.floor (floor_of (next r))
unfolding entered forgotten
entered_floor command r = refl

-- ---- the whole

module _ (command : Command) (r : ReplicaState) (off : r.running ≡ false) (none : r.leader.flights ≡ []) where
  abbrev pub place1 : Place
  place1 = announced false (applied r.group command).1 command (entered command r, [])

  abbrev pub place2 : Place
  place2 = spoken false (before_of r.group.core) (applied r.group command).1 command place1

  abbrev pub place4 : Place
  place4 = welcomed false (members r) (learnt_to false (members r) (next r) command place2)

  abbrev pub over : ReplicaState
  over = record (entered command r) { leader = without_flight_at (next r) (entered command r).leader; ready = without_slot (entered command r).ready (next r) }

  state : place2.0 ≡ entered command r
  state = (spoken_marks (name_of r) 0 (before_of r.group.core) (applied r.group command).1 command place1.0 place1.1).0 ∙ (announced_marks (name_of r) 0 (applied r.group command).1 command (entered command r) []).0

  pub silent : (who : ℕ) → marks_for (name_of r) who place2.1 ≡ []
  silent who = (spoken_marks (name_of r) who (before_of r.group.core) (applied r.group command).1 command place1.0 place1.1).1 ∙ (announced_marks (name_of r) who (applied r.group command).1 command (entered command r) []).1

  there : place4 ≡ (entered command r, place2.1)
  there =
      ap (welcomed false (members r)) (learnt_same (members r) (next r) command place2.0 place2.1)
      ∙ (welcomed_same (members r) place2.0 place2.1 ∙ ap (λ (q : ReplicaState). (q, place2.1)) state)

  landed_is : landed false (next r) command place4 ≡ (over, place2.1)
  landed_is = ap (landed false (next r) command) there ∙ landed_same (next r) command (entered command r) place2.1 (ap (λ (l : LeaderState Command). l.flights) (entered_keeps command r).2 ∙ none)

  pub over_off : over.running ≡ false
  over_off = (entered_keeps command r).1 ∙ off

  -- what holds where it looks for a leader holds after the entry
  pub looks : (P : Place → Type 0) → P (looked (over, place2.1)) → P (executed_one false command (r, []))
  unfolding executed_one
  looks P p = subst (λ (q : Place). P (looked (left q))) (sym landed_is) (subst (λ (q : Place). P (looked q)) (sym (left_same over place2.1 over_off)) p)

  module _ (slot : ℕ) (at : slot ≡ next r) (stays : Stays (entered command r)) where
    steps : (hint : Option ℕ) → StepsBy (Teaches slot) r (record over { hint = hint }, place2.1)
    steps hint = record {
      reaches = (let up = entered_next command r in omega (arith, up, at));
      promises = (entered_keeps command r).0;
      runs = (entered_keeps command r).1;
      leads = λ on. absurd (true≢false (sym on ∙ off));
      answers = silent;
      low = λ l. (let floor = entered_floor command r in let up = entered_next command r in let most = floor_low (next r) in omega (arith, floor, up, most, l));
    }

    entry_steps : StepsBy (Teaches slot) r (executed_one false command (r, []))
    entry_steps = looks (StepsBy (Teaches slot) r) (looked_same (StepsBy (Teaches slot) r) over place2.1 over_off stays steps)

    executed_steps : StepsBy (Teaches slot) r (executed false command (r, [])).0
    unfolding executed
    executed_steps =
        let place : Place = executed_one false command (r, []) in
        let still : place.0.running ≡ false = entry_steps.runs ∙ off in
        let same : pumped (executed_ready place.0.ready place).0 ≡ place = ap (λ (step : Executed). pumped step.0) (idle_ready place.0.ready place still) ∙ idle_pump place still in
        subst (StepsBy (Teaches slot) r) (sym same) entry_steps

-- an entry that is learnt at its slot is executed
pub told_is : (P : Place → Type 0) (from slot : ℕ) (command : Command) (r : ReplicaState) → slot ≡ next r → slot ≤ last_slot → P (executed false command (r, [])).0 → P (learn_row from slot command (r, [])).0
unfolding learn_row
told_is P from slot command r at low p =
    subst (λ b. P (cond {A = Executed} b (childless (r, [])) (cond (eqb slot (next r)) (executed false command (r, [])) (cond (ltb (next r) slot) (childless (r, sent r.me from (Ask (name_of r) (next r)) [])) (childless (r, []))))).0)
    (sym (le-ltb last_slot slot low))
    (subst (λ b. P (cond {A = Executed} b (executed false command (r, [])) (cond (ltb (next r) slot) (childless (r, sent r.me from (Ask (name_of r) (next r)) [])) (childless (r, [])))).0) (sym (eq-eqb slot (next r) at)) p)

learn_steps : (from slot : ℕ) (command : Command) (r : ReplicaState) → IsInTime (Teaches slot) r → r.running ≡ false → r.leader.flights ≡ [] → slot ≤ last_slot → Stays (entered command r) → StepsBy (Teaches slot) r (learn_row from slot command (r, [])).0
learn_steps from slot command r fit off none low stays = told_is (StepsBy (Teaches slot) r) from slot command r fit.1 low (executed_steps command r off none slot fit.1 stays)

-- What a replica's table does by an Accept, a Prepare, a Learn or an Install of its group that comes in time is what its mark says: where its next slot goes, what it promises, and what it answers.
pub tables : TablesFollow
unfolding mailed
tables = record {
  accept = accept_steps;
  prepare = prepare_steps;
  learn = learn_steps;
  install = install_steps;
}
