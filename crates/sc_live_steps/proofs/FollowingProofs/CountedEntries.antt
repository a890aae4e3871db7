-- A leader that has counted an entry sends what `reported_of` says of it, and leads on where it is a member of a group that stands.
use Rattle.std.proofs.Common.{◌≡◌, ℕ, not, eqb, Bool, true, false, cond, List, [], ◌∷◌, ◌++◌, Option, Some, None, ◌⊎◌, inl, inr, refl, sym, ◌∙◌, ap, subst}
use Rattle.std.specs.List.{filter}
use Rattle.sc_node_table.specs.Values.{Command, Route, AnswerBody, Mail}
use Rattle.sc_mail.specs.declared.bodies.AnswerBody.TheVariants as Says
use Rattle.sc_group_table.specs.machine.MachineDefinitions.{applied}
use Rattle.sc_base.specs.Definitions.{IsRoster, is_member, least_of}
use Rattle.sc_words.specs.paxos.PaxosDefinitions.{new_leader, without_flight_at}
use Rattle.sc_node_table.specs.NodeDefinitions.{elected, ended, stopped, entered, learnt_to, welcomed, slot_lost, landed, left_gone, left, looked_for, looked, executed_one, install_to, welcomed_all, ReplicaState, Place, name_of, next, members, flying, forgotten, without_slot, before_of, spoken}
use Rattle.sc_live_steps.specs.following.FollowingDefinitions.{Course, Sets, IsLed, IsNext, led_on, led_off, LeadsPast, EntriesLead, marks_for, IsLeader, reported_of}
use Rattle.sc_live_steps.proofs.FollowingProofs.EntryMail.{with_state, with_both, entries_report}
use Rattle.sc_live_steps.proofs.FollowingProofs.LeaderRows.{least_in}
use Rattle.sc_live_steps.proofs.FollowingProofs.OutsideMail.{spoken_same, ended_same, announced_keeps}
use Rattle.sc_law_walks.proofs.WalkLemmas.{entered_next}

-- ---- the parts that leave the replica as it is

welcomed_state : (nodes : List ℕ) (r : ReplicaState) (mails : List Mail) → (welcomed_all nodes (r, mails)).0 ≡ r
unfolding welcomed_all install_to
welcomed_state [] r mails = refl
welcomed_state (node ∷ nodes) r mails = by (λ more. welcomed_state nodes r more) r.leader.is_first
  where
    by : ((more : List Mail) → (welcomed_all nodes (r, more)).0 ≡ r) → (b : Bool) → (welcomed_all nodes (cond {A = Place} b (r, with_state 0 r node mails) (r, with_both 0 r node mails))).0 ≡ r
    by rest true = rest (with_state 0 r node mails)
    by rest false = rest (with_both 0 r node mails)

pub taught_state : (before : List ℕ) (slot : ℕ) (command : Command) (r : ReplicaState) (mails : List Mail) → (welcomed true before (learnt_to true before slot command (r, mails))).0 ≡ r
unfolding welcomed learnt_to
taught_state before slot command r mails = welcomed_state (filter (λ node. not (is_member before node)) (members r)) r _

pub landed_is : (slot : ℕ) (command : Command) (r : ReplicaState) (mails : List Mail) → landed true slot command (r, mails) ≡ (record r { leader = without_flight_at slot r.leader; ready = without_slot r.ready slot }, mails)
unfolding landed
landed_is slot command r mails = by (flying r slot)
  where
    by : (o : Option Command) → ◌≡◌ {A = Place} (slot_lost true command o (record r { leader = without_flight_at slot r.leader; ready = without_slot r.ready slot }), mails)
        (record r { leader = without_flight_at slot r.leader; ready = without_slot r.ready slot }, mails)
    by None = refl
    by (Some other) = refl

-- so lands a place that was told of an entry
pub landed_taught : (before : List ℕ) (slot : ℕ) (command : Command) (r : ReplicaState) (mails : List Mail) → landed true slot command (welcomed true before (learnt_to true before slot command (r, mails)))
    ≡ (record r { leader = without_flight_at slot r.leader; ready = without_slot r.ready slot }, (welcomed true before (learnt_to true before slot command (r, mails))).1)
landed_taught before slot command r mails =
    let after : List Mail = (welcomed true before (learnt_to true before slot command (r, mails))).1 in
    ap (λ (q : ReplicaState). landed true slot command (q, after)) (taught_state before slot command r mails) ∙ landed_is slot command r after

-- what an entry leaves
pub entered_keeps : (command : Command) (r : ReplicaState) → ((entered command r).running ≡ r.running) × ((entered command r).leader ≡ r.leader) × ((entered command r).ready ≡ r.ready) × ((entered command r).me ≡ r.me)
unfolding entered forgotten
entered_keeps command r = (refl, refl, refl, refl)

-- ---- whether it leads on

module _ (P : Place → Type 0) (r : ReplicaState) (mails : List Mail) (running : r.running ≡ true) (some : IsRoster (members r))
    (on : r.group.core.gone ≡ None → is_member (members r) r.me ≡ true → P (r, mails))
    (off : ((into : Route) × (r.group.core.gone ≡ Some into)) ⊎ ((r.group.core.gone ≡ None) × (is_member (members r) r.me ≡ false)) → (hint : Option ℕ) (answer : AnswerBody) → P (ended hint answer (r, mails))) where
  looked_gone : (hint : Option ℕ) (answer : AnswerBody) (into : Route) → r.group.core.gone ≡ Some into → looked (ended hint answer (r, mails)) ≡ ended hint answer (r, mails)
  unfolding looked ended
  looked_gone hint answer into e = ap (λ gone. looked_for gone (ended hint answer (r, mails))) e

  looked_stopped : (answer : AnswerBody) → r.group.core.gone ≡ None → looked (ended (Some (least_of (members r))) answer (r, mails)) ≡ ended (Some (least_of (members r))) answer (r, mails)
  unfolding looked ended
  looked_stopped answer e =
      let place : Place = ended (Some (least_of (members r))) answer (r, mails) in
      ap (λ gone. looked_for gone place) e
      ∙ ap (λ b. cond {A = Place} b place (cond (eqb (least_of (members r)) r.me) (elected (record place.0 { hint = Some r.me }, place.1)) (record place.0 { hint = Some (least_of (members r)) }, place.1))) (least_in (members r) some.some)

  looked_on : looked (r, mails) ≡ (r, mails)
  unfolding looked
  looked_on = ap (λ c. cond c (r, mails) (looked_for r.group.core.gone (r, mails))) running

  pub ends : P (looked (left (r, mails)))
  unfolding left
  ends = subst (λ b. P (looked (cond {A = Place} b (left_gone r.group.core.gone (r, mails)) (r, mails)))) (sym running) (by_gone r.group.core.gone refl)
    where
      by_member : r.group.core.gone ≡ None → (b : Bool) → is_member (members r) r.me ≡ b → P (looked (cond {A = Place} b (r, mails) (stopped (Some (least_of (members r))) (r, mails))))
      by_member e true m = subst P (sym looked_on) (on e m)
      by_member e false m = subst P (sym (looked_stopped (Says.NotLeader (Some (least_of (members r)))) e)) (off (inr (e, m)) (Some (least_of (members r))) (Says.NotLeader (Some (least_of (members r)))))

      by_gone : (o : Option Route) → r.group.core.gone ≡ o → P (looked (left_gone o (r, mails)))
      by_gone (Some into) e = subst P (sym (looked_gone None (Says.Gone into) into e)) (off (inl (into, e)) None (Says.Gone into))
      by_gone None e = by_member e (is_member (members r) r.me) refl

-- ---- the whole

module _ (at : Sets) (course : Course) (command : Command) (r : ReplicaState) (mails : List Mail) (led : IsLed at course r) (is_next : IsNext at command r) where
  -- with these queues, once it has said so much
  module _ (acts backlog : List Command) (more : List Mail) (same : (who : ℕ) → marks_for (name_of r) who more ≡ marks_for (name_of r) who mails) where
    abbrev pub here : ReplicaState
    here = record (entered command r) { acts = acts; backlog = backlog }

    leads_here : IsLeader at course (members r) (next r) here
    leads_here = record {
      executed = entered_next command r;
      ballot = ap (λ l. l.ballot) (entered_keeps command r).1 ∙ led.may.ballot;
      first = ap (λ l. l.is_first) (entered_keeps command r).1 ∙ led.first;
      mine = led.mine ∙ sym (entered_keeps command r).3;
      member = ap (is_member (members r)) (entered_keeps command r).3 ∙ led.member;
      was = led.was;
      fact = is_next.fact;
      rosters = (led.roster, is_next.roster);
    }

    abbrev pub told : Place
    told = welcomed true (members r) (learnt_to true (members r) (next r) command (here, more))

    tells : (who : ℕ) → marks_for (name_of r) who told.1 ≡ marks_for (name_of r) who mails ++ reported_of at course (next r) who
    tells who =
        subst (λ n. marks_for n who told.1 ≡ marks_for n who more ++ reported_of at course (next r) who) is_next.named (entries_report at course (members r) (next r) command here more leads_here who)
        ∙ ap (λ l. l ++ reported_of at course (next r) who) (same who)

    abbrev pub over : ReplicaState
    over = record here { leader = without_flight_at (next r) (entered command r).leader; ready = without_slot (entered command r).ready (next r) }

    over_is : over ≡ led_on command acts backlog r
    over_is =
        ap (λ l. record here { leader = without_flight_at (next r) l; ready = without_slot (entered command r).ready (next r) }) (entered_keeps command r).1
        ∙ ap (λ es. record here { leader = without_flight_at (next r) r.leader; ready = without_slot es (next r) }) (entered_keeps command r).2

    goes_on : (entered command r).group.core.gone ≡ None → is_member (members (entered command r)) (entered command r).me ≡ true → LeadsPast at course command (r, mails) (over, told.1)
    goes_on stands stays = record {
      sends = tells;
      state = inl (record { stands = stands; stays = ap (is_member (members (entered command r))) (sym (entered_keeps command r).3) ∙ stays; acts = acts; backlog = backlog; fact = over_is });
    }

    off_is : (hint : Option ℕ) (answer : AnswerBody) → (ended hint answer (over, told.1)).0 ≡ led_off command hint r
    unfolding ended
    off_is hint answer = ap (λ l. record (entered command r) { running = false; leader = new_leader l.ballot (next (entered command r)); ready = []; acts = []; backlog = []; hint = hint }) (entered_keeps command r).1

    ends_off : ((into : Route) × ((entered command r).group.core.gone ≡ Some into)) ⊎ (((entered command r).group.core.gone ≡ None) × (is_member (members (entered command r)) (entered command r).me ≡ false))
        → (hint : Option ℕ) (answer : AnswerBody) → LeadsPast at course command (r, mails) (ended hint answer (over, told.1))
    ends_off why hint answer = record {
      sends = λ who. ended_same (name_of r) who hint answer over told.1 ∙ tells who;
      state = inr (record { over = own why; hint = hint; fact = off_is hint answer });
    }
      where
        own : ((into : Route) × ((entered command r).group.core.gone ≡ Some into)) ⊎ (((entered command r).group.core.gone ≡ None) × (is_member (members (entered command r)) (entered command r).me ≡ false))
            → ((into : Route) × ((entered command r).group.core.gone ≡ Some into)) ⊎ (((entered command r).group.core.gone ≡ None) × (is_member (members (entered command r)) r.me ≡ false))
        own (inl went) = inl went
        own (inr leaves) = inr (leaves.0, ap (is_member (members (entered command r))) (sym (entered_keeps command r).3) ∙ leaves.1)

    past : LeadsPast at course command (r, mails) (looked (left (landed true (next r) command told)))
    past =
        subst (λ (p : Place). LeadsPast at course command (r, mails) (looked (left p))) (sym (landed_taught (members r) (next r) command here more))
        (ends (LeadsPast at course command (r, mails)) over told.1 ((entered_keeps command r).0 ∙ led.running) is_next.roster goes_on ends_off)

  -- what follows once clients and the desk have their answers
  abbrev pub then_on : Place → Place
  then_on place1 = looked (left (landed true (next r) command (welcomed true (members r) (learnt_to true (members r) (next r) command (spoken true (before_of r.group.core) (applied r.group command).1 command place1)))))

  pub leads_past : LeadsPast at course command (r, mails) (executed_one true command (r, mails))
  unfolding executed_one
  leads_past =
      announced_keeps (name_of r) (λ place. LeadsPast at course command (r, mails) (then_on place)) (entered command r) mails
      (λ acts backlog more same.
      let q : ReplicaState = record (entered command r) { acts = acts; backlog = backlog } in
      let said : Place = spoken true (before_of r.group.core) (applied r.group command).1 command (q, more) in
      subst (λ (x : ReplicaState). LeadsPast at course command (r, mails) (looked (left (landed true (next r) command (welcomed true (members r) (learnt_to true (members r) (next r) command (x, said.1)))))))
      (sym (spoken_same (name_of r) 0 (before_of r.group.core) (applied r.group command).1 command q more).0)
      (past acts backlog said.1 (λ who. (spoken_same (name_of r) who (before_of r.group.core) (applied r.group command).1 command q more).1 ∙ same who)))
      (applied r.group command).1 command

-- A leader that has counted an entry sends no other mail of agreement than what `reported_of` says of it, and leads on where it is a member of a group that stands, with the entry's slot over; else it runs no longer.
pub entries_lead : EntriesLead
entries_lead at course command (r, mails) led is_next = leads_past at course command r mails led is_next
