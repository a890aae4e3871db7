-- No replica of a group that is not reshaped knows a request of a client with a greater number than those that were heard: neither in its queue nor in flight, ready, reported, accepted, executed or noted.
use Rattle.std.proofs.Common.{◌≡◌, ℕ, ◌-◌, ◌≤◌, nat_le, nat_lt, eqb, Bool, true, false, List, [], ◌∷◌, ◌++◌, Option, Some, None, sym, ◌∙◌, ap, subst, arith, inl, inr}
use Rattle.std.specs.Prelude.{slice_get}
use Rattle.std.specs.Cmp.{nat_cmp_total, unsigned_tied}
use Rattle.std.specs.FinMap.{get, get-insert}
use Rattle.std.proofs.lemmas.Bool.{cond_both, eqb-true}
use Rattle.sc_base.specs.Definitions.{Each, client_actor}
use Rattle.sc_node_table.specs.Values.{Ballot, Noted, Op, Command, Noop, Call, Base, Lock, Free, Coordinating, Promised, Watching, Route, Effect, AnswerBody, NotLeader, Mail, MailBody, Request, Answer, Promise, Accept, Accepted, Learn, Install, Flight, Report}
use Rattle.sc_words.specs.ideal.IdealDefinitions.{holds_key, key_of, reply_of}
use Rattle.sc_words.proofs.PaxosProofs.PaxosLemmas.{Each-append, Each-filter}
use Rattle.sc_group_table.specs.machine.MachineDefinitions.{Group, group_of, base_of, done, served_by_note, served, called, applied}
use Rattle.sc_words.specs.paxos.PaxosDefinitions.{LeaderState, LogState, AcceptorState, entry_at, promise_counted, counted, reports_from, after_promise, after_accept, below, with_flight_at}
use Rattle.sc_node_table.specs.NodeDefinitions.{ReplicaState, Place, next, name_of, flying, sent, sent_all, stopped, ended, offered, answered, entered, forgotten, floor_of, jumped, hinted, put_back, without_request, with_slot, at_slot, under_way, with_entry}
use Rattle.sc_law_entries.specs.names.NameDefinitions.{Opt}
use Rattle.sc_law_entries.proofs.NamesProofs.EachFound.{Each-drop, opt_get, opt_slot, slot_with, slot_without, flight_without, report_with}
use Rattle.sc_group_table.proofs.MachineProofs.Parts.{group_again}
use Rattle.sc_law_entries.proofs.NamesProofs.HeldCommands as held
use Rattle.sc_law_walks.proofs.Talks.{all_sent, one_answered, all_answered, all_dismissed}
use Rattle.sc_law_walks.proofs.WalkLemmas.{Talk, either_way, back_any, entered_group, TableEntry, entry_holds, entered_place, entry_is}
use Rattle.sc_live_healed.specs.HealedDefinitions.{IsFixedCommand}
use Rattle.sc_live_healed.proofs.FixedEntries.{unreported, unspoken, none_joined}
use Rattle.sc_live_healed.proofs.FixedParts.{opt_some, ready_fixed, applied_core}
use Rattle.sc_live_healed.proofs.FixedBesides.{FixedFacts, FixedStates}
use Rattle.sc_live_healed.proofs.TakenRequests.{IsAtMost}

module _ (client bound : ℕ) where
  abbrev pub C : Command → Type 0
  C command = IsAtMost client bound command

  -- no greater number is noted of the client
  abbrev pub HasNoted : Group → Type 0
  HasNoted group = (note : Noted) → get group.clients client ≡ Some note → note.seq ≤ bound

  -- what a mail brings
  abbrev pub IsFewBody : MailBody → Type 0
  IsFewBody (Request group who seq op) = who ≡ client → seq ≤ bound
  IsFewBody (Promise group ballot reports) = Each (λ (report : Report Command). C report.value) reports
  IsFewBody (Accept group ballot slot command) = C command
  IsFewBody (Learn group slot command) = C command
  IsFewBody (Install group slot base sets) = HasNoted (group_of base)
  IsFewBody _ = Unit {0}

  abbrev pub Said : List Mail → Type 0
  Said mails = Each (λ (mail : Mail). IsFewBody mail.body) mails

  -- a replica with the mails of its row knows no request of the client with a greater number
  pub record IsFewPlace (place : Place) : Type 0 where
    pub held : held.Held C place.0
    pub accepted : Each (λ (report : Report Command). C report.value) place.0.acceptor.accepted
    pub entries : Each C place.0.log.entries
    pub noted : HasNoted place.0.group
    pub said : Said place.1

  -- ---- the executed state

  done_noted : (group : Group) (who seq : ℕ) (op : Op) → (who ≡ client → seq ≤ bound) → HasNoted group → HasNoted (done group who seq op).0
  done_noted group who seq op low k note e =
      cond_both _ (Some (record { seq = seq; reply = reply_of op group.pairs })) (get group.clients client) (λ o. o ≡ Some note → note.seq ≤ bound)
      (λ t h. (let at : who ≡ client = sym (eqb-true client who (sym (unsigned_tied client who) ∙ t)) in let same : seq ≡ note.seq = number_of h in let most = low at in omega (arith, same, most))) (λ _ h. k note h)
      (sym (get-insert nat_cmp_total group.clients who (record { seq = seq; reply = reply_of op group.pairs }) client) ∙ e)
    where
      number_of : Some (record { seq = seq; reply = reply_of op group.pairs }) ≡ Some note → seq ≡ note.seq
      number_of h = cc

  served_noted : (o : Option Noted) (group : Group) (who seq : ℕ) (op : Op) → (who ≡ client → seq ≤ bound) → HasNoted group → HasNoted (served_by_note o group who seq op).0
  served_noted None group who seq op low k = done_noted group who seq op low k
  served_noted (Some note) group who seq op low k =
      either_way (λ (x : Group × Effect). HasNoted x.0) (nat_lt note.seq seq) _ _ (done_noted group who seq op low k) (either_way (λ (x : Group × Effect). HasNoted x.0) (eqb note.seq seq) _ _ k k)

  all_noted : (group : Group) (who seq : ℕ) (op : Op) → (who ≡ client → seq ≤ bound) → HasNoted group → HasNoted (served group who seq op).0
  all_noted group who seq op low k = either_way (λ (x : Group × Effect). HasNoted x.0) (holds_key group.core.arc (key_of op)) _ _ (served_noted (get group.clients who) group who seq op low k) k

  called_noted : (gone : Option Route) (lock : Lock) (group : Group) (who seq : ℕ) (op : Op) → (who ≡ client → seq ≤ bound) → HasNoted group → HasNoted (called gone lock group who seq op).0
  called_noted (Some into) lock group who seq op low k = k
  called_noted None Free group who seq op low k = all_noted group who seq op low k
  called_noted None (Watching tx watch) group who seq op low k = all_noted group who seq op low k
  called_noted None (Coordinating tx body order heard) group who seq op low k = k
  called_noted None (Promised tx offer) group who seq op low k = k

  applied_noted : (base : Base) (command : Command) (group : Group) → IsFixedCommand base command → C command → HasNoted group → HasNoted (applied group command).0
  applied_noted base (Call who seq op) group f c k = called_noted group.core.gone group.core.lock group who seq op c k
  applied_noted base Noop group f c k = k
  applied_noted base command group (inr e) c k = subst (λ (x : Command). HasNoted (applied group x).0) (sym e) k
  applied_noted base _ group (inl f) c k = absurd f

  logged_few : (command : Command) (log : LogState Command) → C command → Each C log.entries → Each C (with_entry command log).entries
  logged_few command log c f = subst (λ (l : LogState Command). Each C l.entries) (sym (entry_is command log)) (Each-append C log.entries (command ∷ []) f (c, tt))

  -- an entry is applied and logged
  entered_few : (base : Base) (command : Command) (r : ReplicaState) (mails : List Mail) → IsFixedCommand base command → C command → IsFewPlace (r, mails) → IsFewPlace (entered command r, mails)
  unfolding entered forgotten
  entered_few base command r mails f c k = record {
    held = k.held;
    accepted = Each-filter (λ (report : Report Command). C report.value) (λ (report : Report Command). nat_lt (floor_of (next r)) report.slot) r.acceptor.accepted k.accepted;
    entries = Each-drop C (floor_of (next r) - (with_entry command r.log).base) (with_entry command r.log).entries (logged_few command r.log c k.entries);
    noted = applied_noted base command r.group f c k.noted;
    said = k.said;
  }

  -- ---- parts of rows

  -- with other queues, another leader's state, and other commands ready
  held_few : (r : ReplicaState) (mails : List Mail) (backlog acts : List Command) (leader : LeaderState Command) (ready : List (ℕ × Command)) → held.HeldAs C backlog acts leader ready → IsFewPlace (r, mails) → IsFewPlace (record r { backlog = backlog; acts = acts; leader = leader; ready = ready }, mails)
  held_few r mails backlog acts leader ready h k = record { held = h; accepted = k.accepted; entries = k.entries; noted = k.noted; said = k.said }

  -- what is kept in one place alone
  pub said_few : (r : ReplicaState) (mails : List Mail) (to : ℕ) (body : MailBody) → IsFewBody body → IsFewPlace (r, mails) → IsFewPlace (r, sent r.me to body mails)
  said_few r mails to body b k = record { held = k.held; accepted = k.accepted; entries = k.entries; noted = k.noted; said = Each-append (λ (mail : Mail). IsFewBody mail.body) mails (record { from = r.me; to = to; body = body } ∷ []) k.said (b, tt) }

  all_few : (r : ReplicaState) (mails : List Mail) (nodes : List ℕ) (body : MailBody) → IsFewBody body → IsFewPlace (r, mails) → IsFewPlace (r, sent_all r.me nodes body mails)
  all_few r mails nodes body b k = all_sent r.me (λ ms. IsFewPlace (r, ms)) body (λ to ms q. said_few r ms to body b q) nodes mails k

  back_few : (command : Command) (r : ReplicaState) (mails : List Mail) → C command → IsFewPlace (r, mails) → IsFewPlace (put_back command r, mails)
  back_few command r mails c k =
      let rest = back_any (λ x. Each (λ (report : Report Command). C report.value) x.acceptor.accepted × Each C x.log.entries × HasNoted x.group) (λ x acts backlog q. q) command r (k.accepted, k.entries, k.noted) in
      record { held = held.back_held C command r c k.held; accepted = rest.0; entries = rest.1; noted = rest.2; said = k.said }

  -- mail to clients, to the desk and to parties of a transaction brings no request
  push_said : (mail : Mail) → IsFewBody mail.body → (mails : List Mail) → Said mails → Said (mails ++ mail ∷ [])
  push_said mail b mails m = Each-append (λ (x : Mail). IsFewBody x.body) mails (mail ∷ []) m (b, tt)

  talks_few : (me : ℕ) → Talk me (λ mails. Said mails)
  talks_few me = record {
    tells = λ number result mails m. push_said _ tt mails m;
    answers = λ who group seq answer mails m. push_said _ tt mails m;
    offers = λ to tx offer mails own m. push_said _ tt mails m;
    watches = λ to tx watch mails own m. push_said _ tt mails m;
    casts = λ to tx coord part vote mails m. push_said _ tt mails m;
    sees = λ to tx coord part vote mails m. push_said _ tt mails m;
    ends = λ to tx part outcome mails m. push_said _ tt mails m;
    sends_on = λ to tx coord hint mails m. push_said _ tt mails m;
  }

  -- one that stops says nothing but answers
  stops_few : (hint : Option ℕ) (r : ReplicaState) (mails : List Mail) → IsFewPlace (r, mails) → IsFewPlace (stopped hint (r, mails))
  unfolding ended
  stops_few hint r mails k = record {
    held = (tt, tt, tt, tt, tt);
    accepted = k.accepted;
    entries = k.entries;
    noted = k.noted;
    said =
        let more = talks_few r.me in
        all_dismissed r.me (λ ms. Said ms) more (name_of r) hint (NotLeader hint) r.backlog _ (all_answered r.me (λ ms. Said ms) more (name_of r) (NotLeader hint) (under_way r) mails k.said);
  }

  hinted_few : (ballot : Ballot) (r : ReplicaState) (mails : List Mail) → IsFewPlace (r, mails) → IsFewPlace (hinted ballot r, mails)
  hinted_few ballot r mails k = either_way (λ (x : ReplicaState). IsFewPlace (x, mails)) r.running r (record r { hint = Some ballot.node }) k (record { held = k.held; accepted = k.accepted; entries = k.entries; noted = k.noted; said = k.said })

  offers_few : (slot : ℕ) (set : List ℕ) (command : Command) (r : ReplicaState) (mails : List Mail) → C command → IsFewPlace (r, mails) → IsFewPlace (offered slot set command (r, mails))
  unfolding offered
  offers_few slot set command r mails c k =
      all_few (record r { leader = with_flight_at slot command r.leader }) mails set (Accept (name_of r) r.leader.ballot slot command) c
      (record { held = (k.held.0, k.held.1, Each-append (λ (flight : Flight Command). C flight.value) r.leader.flights _ k.held.2 (c, tt), k.held.3, k.held.4); accepted = k.accepted; entries = k.entries; noted = k.noted; said = k.said })

  module _ (base : Base) (me : ℕ) where
    abbrev pub few_facts : FixedFacts
    few_facts = record { E = λ place. IsFewPlace place; HeardSo = λ from body. IsFewBody body; SeenSo = λ ballot. Unit {0} }

    abbrev Q : Place → Type 0
    Q place = (place.0.group.core ≡ base.core) × IsFewPlace place

    entry_parts : (counted_ : Bool) (command : Command) (start : ReplicaState) → IsFixedCommand base command → start.group.core ≡ base.core → C command → TableEntry counted_ command start (λ place. IsFewPlace place) Q
    entry_parts counted_ command start f same c = record {
      Lost = λ other. C other;
      entered = λ mails k. (ap (λ (g : Group). g.core) (entered_group command start) ∙ applied_core base command start.group f ∙ same, entered_few base command start mails f c k);
      answers = λ who seq op answer r mails t fact e q. (q.0, said_few r mails (client_actor who) (Answer (name_of r) seq answer) tt q.1);
      returned = λ r mails t q. (back_any (λ x. x.group.core ≡ base.core) (λ x acts backlog p. p) command r q.0, back_few command r mails c q.1);
      reports = λ result r mails fact q. absurd (unreported base counted_ command start f same result fact);
      speaks = λ r mails q. unspoken base counted_ command start f same Q r mails q;
      teaches = λ to r mails t a q. (q.0, said_few r mails to (Learn (name_of r) (next start) command) c q.1);
      installs = λ to r mails t new q. absurd (none_joined base counted_ command start f same r q.0 to new);
      repolls = λ to r mails t new q. absurd (none_joined base counted_ command start f same r q.0 to new);
      flies = λ other r mails e q. opt_some C (flying r (next start)) other e (held.flying_held C r (next start) q.1.held);
      landed = λ place q. (
        q.0,
        record {
          held = (q.1.held.0, q.1.held.1, flight_without C (next start) place.0.leader.flights q.1.held.2, q.1.held.3, slot_without C place.0.ready (next start) q.1.held.4);
          accepted = q.1.accepted;
          entries = q.1.entries;
          noted = q.1.noted;
          said = q.1.said;
        },
      );
      back = λ other r mails l q. (back_any (λ x. x.group.core ≡ base.core) (λ x acts backlog p. p) other r q.0, back_few other r mails l q.1);
    }

    enters_few : (counted_ : Bool) (command : Command) (r : ReplicaState) (mails : List Mail) → IsFixedCommand base command → C command → r.group.core ≡ base.core → IsFewPlace (r, mails) → IsFewPlace (entered_place counted_ command (r, mails))
    enters_few counted_ command r mails f c same k =
        (entry_holds counted_ command r (λ place. IsFewPlace place) Q (entry_parts counted_ command r f same c) mails k).1

    head_few : (command : Command) (backlog : List Command) (r : ReplicaState) → r.backlog ≡ command ∷ backlog → held.Held C r → C command × Each C backlog
    head_few command backlog r e h = subst (Each C) e h.0

    reports_few : (from_slot : ℕ) (acceptor : AcceptorState Command) → Each (λ (report : Report Command). C report.value) acceptor.accepted → Each (λ (report : Report Command). C report.value) (reports_from from_slot acceptor.accepted)
    reports_few from_slot acceptor k = Each-filter (λ (report : Report Command). C report.value) (λ (report : Report Command). nat_le from_slot report.slot) acceptor.accepted k

    pub entry_few : (slot : ℕ) (log : LogState Command) (command : Command) → entry_at slot log ≡ Some command → Each C log.entries → C command
    entry_few slot log command e f = opt_some C (entry_at slot log) command e (either_way (λ (o : Option Command). Opt C o) (nat_lt log.base slot) (slice_get log.entries (slot - log.base - 1)) None (opt_get C log.entries (slot - log.base - 1) f) tt)

    jumps_few : (slot : ℕ) (sent_ : Base) (sets : List (List ℕ)) (r : ReplicaState) (mails : List Mail) (hint : Option ℕ) → HasNoted (group_of sent_) → IsFewPlace (r, mails) → IsFewPlace (record (jumped slot sent_ sets r) { hint = hint }, mails)
    unfolding jumped forgotten
    jumps_few slot sent_ sets r mails hint n k = record {
      held = k.held;
      accepted = Each-filter (λ (report : Report Command). C report.value) (λ (report : Report Command). nat_lt (floor_of slot) report.slot) r.acceptor.accepted k.accepted;
      entries = Each-drop C (floor_of slot - slot) [] tt;
      noted = n;
      said = k.said;
    }

    turned_few : (command : Command) (answer : AnswerBody) (backlog : List Command) (r : ReplicaState) (mails : List Mail) → r.running ≡ true → r.backlog ≡ command ∷ backlog → IsFewPlace (r, mails) → IsFewPlace (record r { backlog = backlog }, answered r.me r.group.core.id answer command mails)
    turned_few command answer backlog r mails on e k =
        let head = head_few command backlog r e k.held in
        record { held = (head.1, k.held.1, k.held.2, k.held.3, k.held.4); accepted = k.accepted; entries = k.entries; noted = k.noted; said = one_answered r.me (λ ms. Said ms) (talks_few r.me) r.group.core.id answer command mails k.said }

    pub few_states : FixedStates base me few_facts
    few_states = record {
      prepare_seen = λ from group ballot from_slot h. tt;
      accept_seen = λ from group ballot slot command h. tt;
      nack_seen = λ from group promised h. tt;
      turned = λ command answer backlog r mails on e turn f k. turned_few command answer backlog r mails on e k;
      offers_value = λ slot set command r mails on low near none e of f k. offers_few slot set command r mails (held.must_held C slot r.leader command e (k.held.2, k.held.3)) k;
      offers_noop = λ slot set r mails on low near none gap of f k. offers_few slot set Noop r mails tt k;
      offers_call = λ slot set command backlog r mails on low near none e of f k. (let head = head_few command backlog r e k.held in
          offers_few slot set command (record r { backlog = backlog }) mails head.0 (held_few r mails backlog r.acts r.leader r.ready (head.1, k.held.1, k.held.2, k.held.3, k.held.4) k));
      counted_entry = λ command r mails on e f k. enters_few true command r mails (ready_fixed base r.ready (next r) command e f.fixed.ready) (opt_some C (at_slot r.ready (next r)) command e (opt_slot C r.ready (next r) k.held.4)) f.fixed.group k;
      learnt_entry = λ from group command r mails h f k. enters_few false command r mails h.0.2 h.1 f.fixed.group k;
      seen = λ ballot r mails s up goes f k. record { held = k.held; accepted = k.accepted; entries = k.entries; noted = k.noted; said = k.said };
      overtaken = λ ballot r mails s on low f k. either_way (λ (x : ReplicaState). IsFewPlace (stopped (Some ballot.node) (x, mails))) (below r.top ballot) (record r { top = ballot }) r
          (stops_few (Some ballot.node) (record r { top = ballot }) mails (record { held = k.held; accepted = k.accepted; entries = k.entries; noted = k.noted; said = k.said })) (stops_few (Some ballot.node) r mails k);
      polled = λ from group ballot reports r mails on h f k. (let p = held.polled_held C from ballot reports r.leader h.1 (k.held.2, k.held.3) in
          held_few r mails r.backlog r.acts (promise_counted from ballot reports r.leader).1 r.ready (k.held.0, k.held.1, p.0, p.1, k.held.4) k);
      counts = λ from group ballot slot set count r mails on h e f k. (let p = held.counted_held C from ballot slot set r.leader (k.held.2, k.held.3) in
          held_few r mails r.backlog r.acts (counted from ballot slot set r.leader).1 r.ready (k.held.0, k.held.1, p.0, p.1, k.held.4) k);
      chosen = λ from group ballot slot set command r mails on h e f k. (let p = held.counted_held C from ballot slot set r.leader (k.held.2, k.held.3) in
          let c = held.chosen_held C from ballot slot set r.leader (k.held.2, k.held.3) command e in
          held_few r mails r.backlog r.acts (counted from ballot slot set r.leader).1 (with_slot r.ready slot command) (k.held.0, k.held.1, p.0, p.1, slot_with C r.ready slot command c k.held.4) k);
      promised = λ from group ballot from_slot r mails h top goes may f k. hinted_few ballot (record r { acceptor = after_promise ballot r.acceptor }) _
          (said_few (record r { acceptor = after_promise ballot r.acceptor }) mails from (Promise (name_of r) ballot (reports_from from_slot r.acceptor.accepted)) (reports_few from_slot r.acceptor k.accepted)
          (record { held = k.held; accepted = k.accepted; entries = k.entries; noted = k.noted; said = k.said }));
      accepted = λ from group report r mails h top goes may f k. hinted_few report.ballot (record r { acceptor = after_accept report r.acceptor }) _
          (said_few (record r { acceptor = after_accept report r.acceptor }) mails from (Accepted (name_of r) report.ballot report.slot) tt
          (record { held = k.held; accepted = report_with C report r.acceptor.accepted h.1 k.accepted; entries = k.entries; noted = k.noted; said = k.said }));
      nacks = λ to r mails m f k. said_few r mails to _ tt k;
      installs = λ to r mails m f k. said_few r mails to (Install (name_of r) (next r - 1) (base_of r.group) r.sets) (subst HasNoted (sym (group_again r.group)) k.noted) k;
      recalls = λ to from_slot slot group command r mails h m e f k. said_few r mails to (Learn (name_of r) slot command) (entry_few slot r.log command e k.entries) k;
      wants = λ to slot group command r mails h m low f k. said_few r mails to _ tt k;
      stops = λ from r mails m on f k. stops_few (Some from) r mails k;
      jumps = λ from group slot sent_ sets r mails h later off f k. jumps_few slot sent_ sets r mails (Some from) h.1 k;
      refuses = λ who seq op answer r mails e f k. said_few r mails (client_actor who) (Answer (name_of r) seq answer) tt k;
      requested = λ from group who seq op r mails h e none f k. held_few r mails (r.backlog ++ Call who seq op ∷ []) r.acts r.leader r.ready (held.last_held C r.backlog (Call who seq op) h.1 k.held.0, k.held.1, k.held.2, k.held.3, k.held.4) k;
      requested_again = λ from group who seq other op r mails h e some more f k. held_few r mails (without_request r.backlog who ++ Call who seq op ∷ []) r.acts r.leader r.ready
          (held.last_held C (without_request r.backlog who) (Call who seq op) h.1 (held.without_held C r.backlog who k.held.0), k.held.1, k.held.2, k.held.3, k.held.4) k;
    }
