-- A tick's mails stand behind those that were sent before it, whichever they are.
use Rattle.std.proofs.Common.{◌≡◌, ℕ, ◌+◌, ◌-◌, ◌^◌, ◌&&◌, ◌||◌, not, nat_le, eqb, Bool, true, false, cond, List, [], ◌∷◌, ◌++◌, Option, Some, None, refl, ap, ◌∙◌, append_assoc}
use Rattle.std.specs.Prelude.{is_some}
use Rattle.std.specs.List.{list_any}
use Rattle.sc_base.specs.Definitions.{Drawer, is_member}
use Rattle.sc_node_table.specs.Values.{Ballot, Draw, Command, Call, Core, Lock, Free, Coordinating, Promised, Watching, AnswerBody, Mail, MailBody, Answer, Prepare, Accept, Learn, TxVote, TxWatched, Must, Gap}
use Rattle.sc_words.specs.declared.commands.votes.Past.TheVariants as Cast
use Rattle.sc_words.specs.declared.commands.votes.Vote.TheVariants as Vows
use Rattle.sc_group_table.specs.machine.MachineDefinitions.{Group, frozen_of}
use Rattle.sc_words.specs.declared.paxos.answers.Must.TheVariants.{Value, Free as Open}
use Rattle.sc_words.specs.paxos.PaxosDefinitions.{must, new_leader, with_flight_at, entry_at}
use Rattle.sc_node_table.specs.NodeDefinitions.{open_nodes, elected, sent, sent_all, sent_others, answered, wishing, Found, is_act, waits, turned_down, next_queued, from_backlog, from_acts, from_queues, found_by, found_for, offered, pumped_from, pumped, asked_link, question, waited_in, reminders, reminded, ReplicaState, Place, name_of, next, members, settled, may_offer, taken_at, flying, under_way, is_idle, last_slot, uncounted, asked_again, last_entry_sent, tick_row}

-- a choice between two of one kind
either_of : {A B : Type 0} (f : A → B) (b : Bool) (x y : A) (p q : B) → p ≡ f x → q ≡ f y → cond b p q ≡ f (cond b x y)
either_of f true x y p q d e = d
either_of f false x y p q d e = e

module _ (before : List Mail) where
  -- these mails, and then more
  abbrev pub onto : List Mail → List Mail
  onto mails = before ++ mails

  -- these mails, and then those of a place
  abbrev pub behind : Place → Place
  behind place = (place.0, onto place.1)

  -- ---- mails

  sent_onto : (me to : ℕ) (body : MailBody) (mails : List Mail) → sent me to body (onto mails) ≡ onto (sent me to body mails)
  sent_onto me to body mails = append_assoc before mails (record { from = me; to = to; body = body } ∷ [])

  all_onto : (me : ℕ) (nodes : List ℕ) (body : MailBody) (mails : List Mail) → sent_all me nodes body (onto mails) ≡ onto (sent_all me nodes body mails)
  unfolding sent_all
  all_onto me [] body mails = refl
  all_onto me (node ∷ nodes) body mails = ap (λ ms. sent_all me nodes body ms) (sent_onto me node body mails) ∙ all_onto me nodes body (sent me node body mails)

  others_onto : (me : ℕ) (nodes : List ℕ) (body : MailBody) (mails : List Mail) → sent_others me nodes body (onto mails) ≡ onto (sent_others me nodes body mails)
  unfolding sent_others
  others_onto me [] body mails = refl
  others_onto me (node ∷ nodes) body mails =
      ap (λ ms. sent_others me nodes body ms) (either_of onto (eqb node me) mails (sent me node body mails) (onto mails) (sent me node body (onto mails)) refl (sent_onto me node body mails))
      ∙ others_onto me nodes body (cond (eqb node me) mails (sent me node body mails))

  last_onto : (o : Option Command) (r : ReplicaState) (mails : List Mail) → last_entry_sent o r (onto mails) ≡ onto (last_entry_sent o r mails)
  unfolding last_entry_sent
  last_onto None r mails = refl
  last_onto (Some command) r mails = others_onto r.me (members r) (Learn (name_of r) (next r - 1) command) mails

  again_by : (r : ReplicaState) (slot : ℕ) (set : List ℕ) (sets : List (List ℕ)) (o : Option Command) (mails : List Mail) → ((ms : List Mail) → asked_again r (slot + 1) sets (onto ms) ≡ onto (asked_again r (slot + 1) sets ms))
      → elim o as (λ _. List Mail) [ None ↦ asked_again r (slot + 1) sets (onto mails) | Some command ↦ asked_again r (slot + 1) sets (sent_all r.me (uncounted r slot set) (Accept (name_of r) r.leader.ballot slot command) (onto mails)) ]
      ≡ onto (elim o as (λ _. List Mail) [ None ↦ asked_again r (slot + 1) sets mails | Some command ↦ asked_again r (slot + 1) sets (sent_all r.me (uncounted r slot set) (Accept (name_of r) r.leader.ballot slot command) mails) ])
  again_by r slot set sets None mails more = more mails
  again_by r slot set sets (Some command) mails more =
      let body : MailBody = Accept (name_of r) r.leader.ballot slot command in
      ap (λ ms. asked_again r (slot + 1) sets ms) (all_onto r.me (uncounted r slot set) body mails) ∙ more (sent_all r.me (uncounted r slot set) body mails)

  again_onto : (r : ReplicaState) (slot : ℕ) (sets : List (List ℕ)) (mails : List Mail) → asked_again r slot sets (onto mails) ≡ onto (asked_again r slot sets mails)
  unfolding asked_again
  again_onto r slot [] mails = refl
  again_onto r slot (set ∷ sets) mails = again_by r slot set sets (flying r slot) mails (λ ms. again_onto r (slot + 1) sets ms)

  reminders_onto : (lock : Lock) (me : ℕ) (group : Group) (mails : List Mail) → reminders lock me group (onto mails) ≡ onto (reminders lock me group mails)
  reminders_onto Free me group mails = refl
  reminders_onto (Coordinating tx body order heard) me group mails = all_onto me (asked_link group.core body heard).members (question me group.core tx body heard) mails
  reminders_onto (Promised tx offer) me group mails = all_onto me offer.members (TxVote tx offer.coord offer.part (Vows.Yes (frozen_of group))) mails
  reminders_onto (Watching tx watch) me group mails = all_onto me watch.members (TxWatched tx watch.coord watch.part Cast.Yes) mails

  reminded_behind : (place : Place) → reminded (behind place) ≡ behind (reminded place)
  unfolding reminded
  reminded_behind (r, mails) = ap (λ ms. (waited_in r.group.core.lock r, ms)) (reminders_onto r.group.core.lock r.me r.group mails)

  wishing_behind : (on : Bool) (drawer : Drawer) (place : Place) → wishing on drawer (behind place) ≡ behind (wishing on drawer place)
  unfolding wishing
  wishing_behind on drawer (r, mails) = refl

  elected_behind : (place : Place) → elected (behind place) ≡ behind (elected place)
  unfolding elected
  elected_behind (r, mails) =
      let ballot : Ballot = record { round = r.top.round + 1; node = r.me } in
      let after : ReplicaState = record r { top = ballot; hint = Some r.me; running = true; leader = new_leader ballot (next r); ready = []; waits = 0 } in
      either_of behind (eqb r.top.round (2 ^ 32 - 1)) (r, mails) (after, sent_all r.me (open_nodes r.sets) (Prepare (name_of r) ballot (next r)) mails) _ _ refl
      (ap (λ ms. (after, ms)) (all_onto r.me (open_nodes r.sets) (Prepare (name_of r) ballot (next r)) mails))

  -- ---- the pump

  answered_onto : (me : ℕ) (group : Draw) (answer : AnswerBody) (command : Command) (mails : List Mail) → answered me group answer command (onto mails) ≡ onto (answered me group answer command mails)
  unfolding answered
  answered_onto me group answer (Call client seq op) mails = sent_onto me _ (Answer group seq answer) mails
  answered_onto me group answer _ mails = refl

  abbrev Queue : Type 0
  Queue = Option Command × List Command × List Mail

  abbrev left_onto : Queue → Queue
  left_onto found = (found.0, found.1, onto found.2)

  next_by : (me : ℕ) (idle : Bool) (core : Core) (command : Command) (backlog : List Command) (mails : List Mail) (o : Option AnswerBody)
      → ((ms : List Mail) → next_queued me idle core backlog (onto ms) ≡ left_onto (next_queued me idle core backlog ms))
      → elim o as (λ _. Queue) [ None ↦ (Some command, backlog, onto mails) | Some answer ↦ next_queued me idle core backlog (answered me core.id answer command (onto mails)) ]
      ≡ left_onto (elim o as (λ _. Queue) [ None ↦ (Some command, backlog, mails) | Some answer ↦ next_queued me idle core backlog (answered me core.id answer command mails) ])
  next_by me idle core command backlog mails None more = refl
  next_by me idle core command backlog mails (Some answer) more = ap (λ ms. next_queued me idle core backlog ms) (answered_onto me core.id answer command mails) ∙ more (answered me core.id answer command mails)

  next_onto : (me : ℕ) (idle : Bool) (core : Core) (backlog : List Command) (mails : List Mail) → next_queued me idle core backlog (onto mails) ≡ left_onto (next_queued me idle core backlog mails)
  unfolding next_queued
  next_onto me idle core [] mails = refl
  next_onto me idle core (command ∷ backlog) mails =
      either_of left_onto (waits idle core.lock command) (None, command ∷ backlog, mails)
      (elim (turned_down core command) as (λ _. Queue) [ None ↦ (Some command, backlog, mails) | Some answer ↦ next_queued me idle core backlog (answered me core.id answer command mails) ]) _ _ refl
      (next_by me idle core command backlog mails (turned_down core command) (λ ms. next_onto me idle core backlog ms))

  abbrev found_behind : Found → Found
  found_behind found = (found.0, behind found.1)

  calls_behind : (place : Place) → from_backlog (behind place) ≡ found_behind (from_backlog place)
  unfolding from_backlog
  calls_behind (r, mails) = ap (λ (found : Queue). (found.0, (record r { backlog = found.1 }, found.2))) (next_onto r.me (is_idle r) r.group.core r.backlog mails)

  acts_behind : (acts : List Command) (place : Place) → from_acts acts (behind place) ≡ found_behind (from_acts acts place)
  acts_behind [] place = calls_behind place
  acts_behind (act ∷ acts) (r, mails) = either_of found_behind (is_idle r) (Some act, (record r { acts = acts }, mails)) (None, (r, mails)) _ _ refl refl

  queues_behind : (place : Place) → from_queues (behind place) ≡ found_behind (from_queues place)
  unfolding from_queues
  queues_behind (r, mails) = either_of found_behind (list_any is_act (under_way r)) (None, (r, mails)) (from_acts r.acts (r, mails)) _ _ refl (acts_behind r.acts (r, mails))

  by_behind : (what : Must Command) (place : Place) → found_by what (behind place) ≡ found_behind (found_by what place)
  by_behind (Value command) place = refl
  by_behind Gap place = refl
  by_behind Open place = queues_behind place

  for_behind : (slot : ℕ) (place : Place) → found_for slot (behind place) ≡ found_behind (found_for slot place)
  unfolding found_for
  for_behind slot (r, mails) = by_behind (must slot r.leader) (r, mails)

  offered_behind : (slot : ℕ) (set : List ℕ) (command : Command) (place : Place) → offered slot set command (behind place) ≡ behind (offered slot set command place)
  unfolding offered
  offered_behind slot set command (r, mails) = ap (λ ms. (record r { leader = with_flight_at slot command r.leader }, ms)) (all_onto r.me set (Accept (name_of r) r.leader.ballot slot command) mails)

  -- what is made of what is found for a slot
  abbrev put : ℕ → List ℕ → List (List ℕ) → Found → Place
  put slot set sets found = elim (found.0) [ None ↦ found.1 | Some command ↦ pumped_from (slot + 1) sets (offered slot set command found.1) ]

  put_behind : (slot : ℕ) (set : List ℕ) (sets : List (List ℕ)) (found : Found) → ((p : Place) → pumped_from (slot + 1) sets (behind p) ≡ behind (pumped_from (slot + 1) sets p)) → put slot set sets (found_behind found) ≡ behind (put slot set sets found)
  put_behind slot set sets (None, place) more = refl
  put_behind slot set sets (Some command, place) more = ap (λ p. pumped_from (slot + 1) sets p) (offered_behind slot set command place) ∙ more (offered slot set command place)

  from_behind : (slot : ℕ) (sets : List (List ℕ)) (place : Place) → pumped_from slot sets (behind place) ≡ behind (pumped_from slot sets place)
  unfolding pumped_from
  from_behind slot [] place = refl
  from_behind slot (set ∷ sets) place =
      either_of behind (is_some (taken_at place.0 slot)) (pumped_from (slot + 1) sets place) _ _ _ (from_behind (slot + 1) sets place)
      (either_of behind (may_offer place.0 set) (put slot set sets (found_for slot place)) place _ _
      (ap (λ (found : Found). put slot set sets found) (for_behind slot place) ∙ put_behind slot set sets (found_for slot place) (λ p. from_behind (slot + 1) sets p)) refl)

  pumped_behind : (place : Place) → pumped (behind place) ≡ behind (pumped place)
  unfolding pumped
  pumped_behind place = either_of behind (settled place.0 && nat_le (next place.0) last_slot) (pumped_from (next place.0) place.0.sets place) place _ _ (from_behind (next place.0) place.0.sets place) refl

  -- ---- a tick

  -- a settled replica reminds, orders what a policy wishes, and pumps
  abbrev reminding : Bool → Drawer → Place → Place
  reminding on drawer place = pumped (wishing on drawer (reminded place))

  reminding_behind : (on : Bool) (drawer : Drawer) (place : Place) → reminding on drawer (behind place) ≡ behind (reminding on drawer place)
  reminding_behind on drawer place =
      ap (λ (p : Place). pumped (wishing on drawer p)) (reminded_behind place) ∙ ap (λ (p : Place). pumped p) (wishing_behind on drawer (reminded place)) ∙ pumped_behind (wishing on drawer (reminded place))

  pub tick_behind : (on : Bool) (drawer : Drawer) (r : ReplicaState) (mails : List Mail) → tick_row on drawer (r, onto mails) ≡ behind (tick_row on drawer (r, mails))
  unfolding tick_row
  tick_behind on drawer r mails =
      let last : List Mail = last_entry_sent (entry_at (next r - 1) r.log) r mails in
      let again : List Mail = asked_again r (next r) r.sets mails in
      let reported : reminding on drawer (r, last_entry_sent (entry_at (next r - 1) r.log) r (onto mails)) ≡ behind (reminding on drawer (r, last)) =
      ap (λ (ms : List Mail). reminding on drawer (r, ms)) (last_onto (entry_at (next r - 1) r.log) r mails) ∙ reminding_behind on drawer (r, last) in
      let asked : reminding on drawer (r, asked_again r (next r) r.sets (onto mails)) ≡ behind (reminding on drawer (r, again)) =
      ap (λ (ms : List Mail). reminding on drawer (r, ms)) (again_onto r (next r) r.sets mails) ∙ reminding_behind on drawer (r, again) in
      either_of behind (is_some r.group.core.gone || not (is_member (members r) r.me)) (r, mails) _ _ _ refl
      (either_of behind (not (settled r)) (elected (r, mails)) _ _ _ (elected_behind (r, mails))
      (either_of behind (is_idle r) (reminding on drawer (r, last)) (reminding on drawer (r, again)) _ _ reported asked))
