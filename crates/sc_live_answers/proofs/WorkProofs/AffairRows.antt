-- What an order makes of a replica is kept by each row of its table.
use Rattle.std.proofs.Common.{◌≡◌, ℕ, ◌+◌, ◌<◌, ◌&&◌, not, nat_le, eqb, Bool, true, false, true≢false, cond, List, [], ◌∷◌, ◌++◌, Option, Some, None, refl, sym, ◌∙◌, ap, subst}
use Rattle.std.proofs.lemmas.Bool.{lt-leb}
use Rattle.sc_base.specs.Definitions.{same_ballot, is_member, is_majority}
use Rattle.sc_node_table.specs.Values.{Ballot, Draw, Command, Base, Mail, MailBody, Request, Answer, Prepare, Promise, Accept, Accepted, Nack, Learn, Ask, Install, TxPrepare, TxVote, TxOutcome, TxElsewhere, TxWatch, TxWatched, Told, Refused, Counted, Chosen, NotYet, Flight, Report}
use Rattle.sc_mail.specs.declared.bodies.AnswerBody.TheVariants.{Gone}
use Rattle.sc_law_entries.specs.names.NameDefinitions.{Opt}
use Rattle.sc_law_entries.proofs.NamesProofs.NameLemmas.{opt_find, opt_slot, slot_with, flight_without, voters_with}
use Rattle.sc_words.specs.declared.paxos.answers.Must.TheVariants.{Value, Gap, Free as Open}
use Rattle.sc_words.specs.paxos.PaxosDefinitions.{AcceptorState, below, LeaderState, must, reports_from, flight_at, promise_counted, counted, tallied, vote_at, voters_after, kept_voters}
use Rattle.sc_words.proofs.PaxosProofs.PaxosLemmas.{Each-append}
use Rattle.sc_node_table.specs.NodeDefinitions.{open_nodes, named, jumped, ReplicaState, name_of, next, forgotten, installed_replica, mailed, made_by, with_slot}
use Rattle.sc_law_walks.proofs.WalkLemmas.{either_way, TableFacts, TableStates, TableSays, TableWalk, MayEnter}
use Rattle.sc_law_walks.proofs.TableWalks.{AsFound}
use Rattle.sc_law_walks.proofs.TableRows as rows
use Rattle.sc_live_answers.proofs.WorkProofs.Affairs.{Affair}
use Rattle.sc_live_answers.proofs.WorkProofs.WorkMail.{one_sent, all_sent, next_one_asked, vote_reported, watch_reported, outcome_said}
use Rattle.sc_live_answers.proofs.WorkProofs.AffairParts.{Does, AllDo, Fly, Held, Fine, Kids, must_open, slot_offered, entry_fine, ended_fine, stopped_fine}

-- What a mail must say to a replica, and find there: what may be said then; no promise has reports; nothing is asked from where the acceptor has forgotten, or other groups have a part; an entry that is learnt next finds nothing in flight; and nobody asks for entries.
abbrev pub Hears : Affair → ReplicaState → MailBody → Type 0
Hears a r (Request group client seq op) = ⊥
Hears a r (Answer group seq answer) = ⊥
Hears a r (Prepare group ballot from_slot) = r.acceptor.floor < from_slot
Hears a r (Promise group ballot reports) = reports ≡ []
Hears a r (Accept group ballot slot command) = r.acceptor.floor < slot
Hears a r (Accepted group ballot slot) = Unit {0}
Hears a r (Nack group promised) = Unit {0}
Hears a r (Learn group slot command) = a.Does (name_of r) command × (slot ≡ next r → r.leader.flights ≡ [])
Hears a r (Ask group from_slot) = ⊥
Hears a r (Install group slot base sets) = a.Is (name_of r) base.core
Hears a r (TxPrepare tx offer) = a.Parts
Hears a r (TxVote tx coord part vote) = a.Parts
Hears a r (TxOutcome tx part outcome) = Unit {0}
Hears a r (TxElsewhere tx coord hint) = Unit {0}
Hears a r (TxWatch tx watch) = Unit {0}
Hears a r (TxWatched tx coord part vote) = Unit {0}
Hears a r (Told order result) = Unit {0}

module _ (a : Affair) (g : Draw) where
  -- ---- what a leader counts

  -- what a leader has in flight, and that it counted no reports where it runs
  abbrev Leads : Bool → LeaderState Command → Type 0
  Leads running leader = (running ≡ true → leader.reports ≡ []) × Fly a g leader.flights

  with_leader : (r : ReplicaState) (leader : LeaderState Command) → Leads r.running leader → Held a g r → Held a g (record r { leader = leader })
  with_leader r leader l k = (k.0, k.1, k.2, l.1, k.4, k.5, l.0)

  both_none : (xs ys : List (Report Command)) → xs ≡ [] → ys ≡ [] → xs ++ ys ≡ []
  both_none xs ys x y = ap (λ (zs : List (Report Command)). zs ++ ys) x ∙ y

  counted_leads : (running : Bool) (node : ℕ) (ballot : Ballot) (reports : List (Report Command)) (leader : LeaderState Command) → reports ≡ [] → Leads running leader → Leads running (promise_counted node ballot reports leader).1
  counted_leads running node ballot reports leader none l =
      either_way (λ (p : Bool × LeaderState Command). Leads running p.1) (same_ballot ballot leader.ballot && not (is_member leader.promisers node)) _ _
      ((λ on. both_none leader.reports reports (l.0 on) none), l.1) l

  abbrev CountOf : Counted Command → Type 0
  CountOf (Chosen command) = Does a g command
  CountOf (NotYet count) = Unit {0}

  abbrev Counts : Bool → Counted Command × LeaderState Command → Type 0
  Counts running p = CountOf p.0 × Leads running p.1

  tallied_counts : (running : Bool) (slot : ℕ) (value : Command) (set : List ℕ) (voters : Option (List ℕ)) (leader : LeaderState Command) → Does a g value → Leads running leader → Counts running (tallied slot value set voters leader)
  tallied_counts running slot value set voters leader c l =
      either_way (Counts running) (is_majority set (kept_voters voters)) _ _
      (c, (l.0, flight_without (Does a g) slot leader.flights l.1)) (tt, (l.0, voters_with (Does a g) slot voters leader.flights l.1))

  vote_at_counts : (running : Bool) (node slot : ℕ) (set : List ℕ) (o : Option (Flight Command)) (leader : LeaderState Command) → Opt (λ (flight : Flight Command). Does a g flight.value) o → Leads running leader → Counts running (vote_at node slot set o leader)
  vote_at_counts running node slot set None leader c l = (tt, l)
  vote_at_counts running node slot set (Some flight) leader c l = tallied_counts running slot flight.value set (voters_after set node flight.voters) leader c l

  vote_counts : (running : Bool) (node : ℕ) (ballot : Ballot) (slot : ℕ) (set : List ℕ) (leader : LeaderState Command) → Leads running leader → Counts running (counted node ballot slot set leader)
  vote_counts running node ballot slot set leader l =
      either_way (Counts running) (same_ballot ballot leader.ballot) (vote_at node slot set (flight_at slot leader.flights) leader) (NotYet 0, leader)
      (vote_at_counts running node slot set (flight_at slot leader.flights) leader (opt_find (λ (flight : Flight Command). Does a g flight.value) (λ (flight : Flight Command). eqb flight.slot slot) leader.flights l.1) l) (tt, l)

  with_ready : (r : ReplicaState) (slot : ℕ) (command : Command) → Does a g command → Held a g r → Held a g (record r { ready = with_slot r.ready slot command })
  with_ready r slot command c k = (k.0, k.1, k.2, k.3, slot_with (Does a g) r.ready slot command c k.4, k.5, k.6)

  chosen_does : (p : Counted Command) (command : Command) → p ≡ Chosen command → CountOf p → Does a g command
  chosen_does p command e c = subst CountOf e c

  -- ---- a state that is taken over, and of which a replica is made

  jumped_held : (slot : ℕ) (base : Base) (sets : List (List ℕ)) (r : ReplicaState) → a.Is g base.core → Held a g r → Held a g (jumped slot base sets r)
  unfolding jumped forgotten
  jumped_held slot base sets r s k = (k.0, k.1, k.2, k.3, k.4, a.renamed g (name_of r) base.core s, k.6)

  installed_held : (me slot : ℕ) (base : Base) (sets : List (List ℕ)) → a.Is g base.core → Held a g (installed_replica me slot (named g base) sets)
  unfolding forgotten
  installed_held me slot base sets s = (refl, refl, tt, tt, tt, a.renamed g g base.core s, (λ on. refl))

  -- nothing is asked from where the acceptor has forgotten, no request waits, and nothing was reported that must be proposed
  remembered : {P : Type 0} (slot floor : ℕ) → floor < slot → nat_le slot floor ≡ true → P
  remembered slot floor low behind = absurd (true≢false (sym behind ∙ lt-leb slot floor low))

  none_waits : {P : Type 0} (r : ReplicaState) (command : Command) (backlog : List Command) → Held a g r → r.backlog ≡ command ∷ backlog → P
  none_waits r command backlog k e = absurd (let bad : [] ≡ command ∷ backlog = sym k.1 ∙ e in cc)

  none_must : {P : Type 0} (slot : ℕ) (command : Command) (r : ReplicaState) → r.running ≡ true → Held a g r → must slot r.leader ≡ Value command → P
  none_must slot command r on k e = absurd (let bad : Open ≡ Value command = sym (must_open a g slot r.leader (k.6 on)) ∙ e in cc)

  no_gap : {P : Type 0} (slot : ℕ) (r : ReplicaState) → r.running ≡ true → Held a g r → must slot r.leader ≡ Gap → P
  no_gap slot r on k e = absurd (let bad : Open ≡ Gap = sym (must_open a g slot r.leader (k.6 on)) ∙ e in cc)

  -- ---- the rows of a replica that the row finds

  module _ (start : ReplicaState) (same : name_of start ≡ g) where
    abbrev affair_facts : TableFacts
    affair_facts = record {
      First = λ r. r ≡ start;
      Early = λ place. Fine a g place;
      Late = λ place. Fine a g place;
      Hears = λ from body. Hears a start body;
      Round = λ ballot. Unit {0};
      Entry = λ slot command. Does a g command;
      Files = λ act. Does a g act;
      Orders = λ order. ⊥;
      Given = λ drawer line. Unit {0};
      Child = λ base. a.Creates g base;
    }

    -- an entry that is learnt stands there, and finds nothing in flight
    learnt_does : (command : Command) → a.Does (name_of start) command → Does a g command
    learnt_does command d = subst (λ n. a.Does n command) same d

    may_do : (counted : Bool) (command : Command) (r : ReplicaState) → MayEnter affair_facts counted command r → Does a g command
    may_do true command r may = may.2
    may_do false command r may = learnt_does command may.2.0

    floor_is : (r : ReplicaState) (slot : ℕ) → AsFound affair_facts r → start.acceptor.floor < slot → r.acceptor.floor < slot
    floor_is r slot found low = subst (λ (x : AcceptorState Command). x.floor < slot) (sym (found.2 ∙ ap (λ (x : ReplicaState). x.acceptor) found.1)) low

    affair_states : TableStates affair_facts
    affair_states = record {
      late = λ place k. k;
      again = λ command r mails on e k. (k, subst (Opt (Does a g)) e (opt_slot (Does a g) r.ready (next r) k.0.4));
      counted_entry = λ command r mails on e d k. entry_fine a g true command r mails d (λ bad. absurd (true≢false bad)) k;
      learnt_entry = λ from group command r mails h first k. entry_fine a g false command r mails (learnt_does command h.0) (λ _. ap (λ (x : ReplicaState). x.leader.flights) first ∙ h.1 (ap next first)) k;
      children = λ counted command r mails child may own k. a.creation g r.group command child k.0.5 (may_do counted command r may) own.made;
      jumped = λ from group slot base sets r mails h many later off k. (jumped_held slot base sets r (subst (λ n. a.Is n base.core) same h) k.0, k.1);
      hinted = λ hint r mails off k. k;
      stops = λ hint r mails on k. stopped_fine a g hint (r, mails) k;
      goes = λ into r mails on e k. ended_fine a g None (Gone into) (r, mails) k;
      overtaken = λ ballot r mails good on t k. stopped_fine a g (Some ballot.node) (cond (below r.top ballot) (record r { top = ballot }) r, mails) (either_way (Held a g) (below r.top ballot) (record r { top = ballot }) r k.0 k.0, k.1);
      elected = λ r mails k. ((k.0.0, k.0.1, k.0.2, tt, tt, k.0.5, (λ on. refl)), all_sent a r.me (open_nodes r.sets) (Prepare (name_of r) (record { round = r.top.round + 1; node = r.me }) (next r)) mails tt k.1);
      seen = λ ballot r mails good t on k. k;
      polled = λ from group ballot reports r mails on h k. (with_leader r (promise_counted from ballot reports r.leader).1 (counted_leads r.running from ballot reports r.leader h (k.0.6, k.0.3)) k.0, k.1);
      counts = λ from ballot slot set count r mails vote e k. (with_leader r (counted from ballot slot set r.leader).1 (vote_counts r.running from ballot slot set r.leader (k.0.6, k.0.3)).1 k.0, k.1);
      chosen = λ from group ballot slot set command r mails vote e h k. (
          let c = vote_counts r.running from ballot slot set r.leader (k.0.6, k.0.3) in
          let d = chosen_does (counted from ballot slot set r.leader).0 command e c.0 in
          (d, (with_ready (record r { leader = (counted from ballot slot set r.leader).1 }) slot command d (with_leader r (counted from ballot slot set r.leader).1 c.1 k.0), k.1)));
      promised = λ from group ballot from_slot r mails h top t k. (k.0, one_sent a r.me from (Promise (name_of r) ballot (reports_from from_slot r.acceptor.accepted)) mails tt k.1);
      accepted = λ from group report r mails h top t k. (k.0, one_sent a r.me from (Accepted (name_of r) report.ballot report.slot) mails tt k.1);
      filed = λ act r mails on good e d k. ((k.0.0, k.0.1, Each-append (Does a g) r.acts (act ∷ []) k.0.2 (d, tt), k.0.3, k.0.4, k.0.5, k.0.6), k.1);
      ordered = λ order r mails on asked given k. absurd given;
      requested = λ client seq op r mails request e k. absurd request.brought;
      requested_again = λ client seq other op r mails request e f k. absurd request.brought;
      turned = λ command answer backlog r mails on e no k. none_waits r command backlog k.0 e;
      offers_value = λ slot set command r mails on at free e k. none_must slot command r on k.0 e;
      offers_noop = λ slot set r mails on at free gap k. no_gap slot r on k.0 gap;
      offers_act = λ slot set act acts r mails on at free e k. (let d : AllDo a g (act ∷ acts) = subst (AllDo a g) e k.0.2 in
          (slot_offered a g slot set act (record r { acts = acts }, mails) d.0 (((k.0.0, k.0.1, d.1, k.0.3, k.0.4, k.0.5, k.0.6), k.1), k.0.6 on)).0);
      offers_call = λ slot set command backlog r mails on at free e k. none_waits r command backlog k.0 e;
    }

    affair_says : TableSays affair_facts
    affair_says = record {
      refuses = λ from group client seq op answer r mails h e k. absurd h;
      tells = λ drawer line why r mails given e k. (k.0, one_sent a r.me 0 (Told line.number (Refused why)) mails tt k.1);
      votes = λ from tx offer vote r mails h e k. (k.0, vote_reported a r.me r.group from tx offer vote mails h k.1);
      sees = λ from tx watch vote r mails h e k. (k.0, watch_reported a r.me from tx watch vote mails k.1);
      vote_ends = λ from tx coord part vote outcome r mails h e k. (k.0, outcome_said a r.me from tx part outcome mails k.1);
      watch_ends = λ from tx coord part vote outcome r mails h e k. (k.0, outcome_said a r.me from tx part outcome mails k.1);
      offer_sent_on = λ from tx offer r mails h k. (k.0, one_sent a r.me from (TxElsewhere tx offer.coord r.hint) mails tt k.1);
      watch_sent_on = λ from tx watch r mails h k. (k.0, one_sent a r.me from (TxElsewhere tx watch.coord r.hint) mails tt k.1);
      asks_next = λ from tx coord hint r mails h k. (k.0, next_one_asked a r.me g r.group.core.lock r.group.core from tx hint mails refl k.0.5 k.1);
      prepare_behind = λ from group ballot from_slot r mails h found behind k. remembered from_slot r.acceptor.floor (floor_is r from_slot found h) behind;
      accept_behind = λ from group report r mails h found behind k. remembered report.slot r.acceptor.floor (floor_is r report.slot found h) behind;
      ask_behind = λ from group slot r mails h k. absurd h;
      recalls = λ from group asked slot command r mails h e k. absurd h;
      wants = λ from group slot command r mails h low k. (k.0, one_sent a r.me from (Ask (name_of r) (next r)) mails tt k.1);
      prepare_nacked = λ from group ballot from_slot r mails h found no k. (k.0, one_sent a r.me from (Nack (name_of r) r.acceptor.promised) mails tt k.1);
      accept_nacked = λ from group report r mails h found no k. (k.0, one_sent a r.me from (Nack (name_of r) r.acceptor.promised) mails tt k.1);
    }

    abbrev affair_walk : TableWalk
    affair_walk = record {
      facts = affair_facts;
      hears = record {
        prepare_round = λ from group ballot from_slot h. tt;
        accept_round = λ from group ballot slot command h. tt;
        nack_round = λ from group promised h. tt;
        offer_filed = λ from tx offer h. a.offer g tx offer h;
        vote_filed = λ from tx coord part vote h. a.vote g tx vote from h;
        outcome_filed = λ from tx part outcome h. a.finish g tx outcome;
        watch_filed = λ from tx watch h. a.watched g tx watch;
        watched_filed = λ from tx coord part vote h. a.watch g tx vote from;
      };
      states = affair_states;
      says = affair_says;
    }

  -- ---- all mail, the children that it makes, and a replica that is made of a state

  pub mailed_fine : (from : ℕ) (body : MailBody) (r : ReplicaState) (mails : List Mail) → Hears a r body → Fine a g (r, mails) → Fine a g (mailed from body (r, mails)).0
  mailed_fine from body r mails h f = (rows.takes_mail (affair_walk r f.0.0) from body (r, mails) h refl f).0

  pub mailed_kids : (from : ℕ) (body : MailBody) (r : ReplicaState) (mails : List Mail) → Hears a r body → Fine a g (r, mails) → Kids a g (mailed from body (r, mails)).1
  mailed_kids from body r mails h f = (rows.takes_mail (affair_walk r f.0.0) from body (r, mails) h refl f).1

  pub made_fine : (me from slot : ℕ) (base : Base) (sets : List (List ℕ)) → a.Is g base.core → Fine a g (made_by me from g slot base sets)
  made_fine me from slot base sets s =
      rows.makes (affair_walk (installed_replica me slot (named g base) sets) (installed_held me slot base sets s).0) me from g slot base sets (installed_held me slot base sets s, tt)
