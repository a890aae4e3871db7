-- A replica keeps its group's name, and each mail that it sends is said so, in each row of its table, where any mail of the group but a refusal is, and each refusal of what it is asked.
use Rattle.std.proofs.Common.{◌≡◌, ℕ, ◌+◌, ◌-◌, Bool, true, false, List, [], ◌∷◌, Option, Some, None, refl, sym, ◌∙◌, subst}
use Rattle.sc_base.specs.Definitions.{Drawer, Each, client_actor}
use Rattle.sc_node_table.specs.Values.{Ballot, Draw, Command, Noop, Base, AnswerBody, OrderLine, Mail, MailBody, Refused, Request, Answer, Prepare, Promise, Accept, Accepted, Nack, Learn, Ask, Install, TxPrepare, TxVote, TxOutcome, TxElsewhere, TxWatch, TxWatched, Told}
use Rattle.sc_group_table.specs.machine.MachineDefinitions.{base_of, applied}
use Rattle.sc_words.specs.paxos.PaxosDefinitions.{AcceptorState, below, may_promise, may_accept}
use Rattle.sc_words.proofs.PaxosProofs.PaxosLemmas.{Each-append}
use Rattle.sc_law_entries.proofs.HistoryProofs.HistoryLemmas.{applied_same}
use Rattle.sc_node_table.specs.NodeDefinitions.{open_nodes, ended, entered, jumped, forgotten, offered, put_back, sent, answered_all, under_way, before_of, order_number, ordered_row, mailed, made_by, ReplicaState, Place, name_of, next}
use Rattle.sc_law_walks.proofs.WalkLemmas.{either_way, Talk, Parties, parties, beside_talk, TableFacts, TableStates, TableSays, TableWalk, all_heard, TableEntry, entry_holds}
use Rattle.sc_law_walks.proofs.Talks.{all_sent, desk_reported, client_reported, one_answered, all_answered, all_dismissed, spoken_said, vote_reported, watch_reported, outcome_said, next_one_asked}
use Rattle.sc_law_walks.proofs.TableRows as rows

-- one that has promised so refuses a mail, which asks to promise or to accept
abbrev pub Refuses : AcceptorState Command → MailBody → Type 0
Refuses state (Prepare group ballot from_slot) = may_promise state ballot ≡ false
Refuses state (Accept group ballot slot command) = may_accept state ballot ≡ false
Refuses state _ = ⊥

-- a mail of agreement is of the group of this name, and is no refusal; and none is a request
abbrev pub IsOwn : Draw → MailBody → Type 0
IsOwn name (Prepare group ballot from_slot) = group ≡ name
IsOwn name (Promise group ballot reports) = group ≡ name
IsOwn name (Accept group ballot slot command) = group ≡ name
IsOwn name (Accepted group ballot slot) = group ≡ name
IsOwn name (Nack group promised) = ⊥
IsOwn name (Learn group slot command) = group ≡ name
IsOwn name (Ask group from_slot) = group ≡ name
IsOwn name (Install group slot base sets) = group ≡ name
IsOwn name (Request group client seq op) = ⊥
IsOwn name _ = Unit {0}

module _ (IsSaid : Mail → Type 0) (name : Draw) (says : (me to : ℕ) (body : MailBody) → IsOwn name body → IsSaid (record { from = me; to = to; body = body })) where
  -- a replica of the group of this name, each of whose mails is said so
  abbrev pub Keeps : Place → Type 0
  Keeps place = (name_of place.0 ≡ name) × Each IsSaid place.1

  own_sent : (me to : ℕ) (body : MailBody) (mails : List Mail) → IsOwn name body → Each IsSaid mails → Each IsSaid (sent me to body mails)
  own_sent me to body mails own m = Each-append IsSaid mails (record { from = me; to = to; body = body } ∷ []) m (says me to body own, tt)

  own_talk : (me : ℕ) → Talk me (Each IsSaid)
  own_talk me = record {
    tells = λ number result mails m. own_sent me 0 (Told number result) mails tt m;
    answers = λ client group seq answer mails m. own_sent me (client_actor client) (Answer group seq answer) mails tt m;
    offers = λ to tx offer mails own m. own_sent me to (TxPrepare tx offer) mails tt m;
    watches = λ to tx watch mails own m. own_sent me to (TxWatch tx watch) mails tt m;
    casts = λ to tx coord part vote mails m. own_sent me to (TxVote tx coord part vote) mails tt m;
    sees = λ to tx coord part vote mails m. own_sent me to (TxWatched tx coord part vote) mails tt m;
    ends = λ to tx part outcome mails m. own_sent me to (TxOutcome tx part outcome) mails tt m;
    sends_on = λ to tx coord hint mails m. own_sent me to (TxElsewhere tx coord hint) mails tt m;
  }

  -- ---- the parts of a row

  back_keeps : (command : Command) (r : ReplicaState) → name_of r ≡ name → name_of (put_back command r) ≡ name
  unfolding put_back
  back_keeps Noop r k = k
  back_keeps _ r k = k

  entered_keeps : (command : Command) (r : ReplicaState) → name_of r ≡ name → name_of (entered command r) ≡ name
  unfolding entered forgotten
  entered_keeps command r k = (applied_same r.group command).0 ∙ k

  jumped_keeps : (slot : ℕ) (base : Base) (sets : List (List ℕ)) (r : ReplicaState) → name_of r ≡ name → name_of (jumped slot base sets r) ≡ name
  unfolding jumped forgotten
  jumped_keeps slot base sets r k = k

  ended_keeps : (hint : Option ℕ) (answer : AnswerBody) (r : ReplicaState) (mails : List Mail) → Keeps (r, mails) → Keeps (ended hint answer (r, mails))
  unfolding ended
  ended_keeps hint answer r mails k =
      (k.0, all_dismissed r.me (Each IsSaid) (own_talk r.me) (name_of r) hint answer r.backlog (answered_all r.me (name_of r) answer (under_way r) mails) (all_answered r.me (Each IsSaid) (own_talk r.me) (name_of r) answer (under_way r) mails k.1))

  offered_keeps : (slot : ℕ) (set : List ℕ) (command : Command) (r : ReplicaState) (mails : List Mail) → Keeps (r, mails) → Keeps (offered slot set command (r, mails))
  unfolding offered
  offered_keeps slot set command r mails k =
      (k.0, all_sent r.me (Each IsSaid) (Accept (name_of r) r.leader.ballot slot command) (λ to ms m. own_sent r.me to _ ms k.0 m) set mails k.1)

  installs_keep : (to : ℕ) (r : ReplicaState) (mails : List Mail) → Keeps (r, mails) → Keeps (r, sent r.me to (Install (name_of r) (next r - 1) (base_of r.group) r.sets) mails)
  installs_keep to r mails k = (k.0, own_sent r.me to _ mails k.0 k.1)

  learns_keep : (to slot : ℕ) (command : Command) (r : ReplicaState) (mails : List Mail) → Keeps (r, mails) → Keeps (r, sent r.me to (Learn (name_of r) slot command) mails)
  learns_keep to slot command r mails k = (k.0, own_sent r.me to _ mails k.0 k.1)

  entry_keeps : (counted : Bool) (command : Command) (start : ReplicaState) → TableEntry counted command start Keeps Keeps
  entry_keeps counted command start = record {
    Lost = λ other. Unit {0};
    entered = λ mails k. (entered_keeps command start k.0, k.1);
    answers = λ client seq op answer r mails t e a k. (k.0, client_reported r.me (Each IsSaid) (parties r.me (Each IsSaid) (own_talk r.me)) client (name_of r) seq answer mails k.1);
    returned = λ r mails t k. (back_keeps command r k.0, k.1);
    reports = λ result r mails e k. (k.0, desk_reported r.me (Each IsSaid) (own_talk r.me) (order_number command) result mails k.1);
    speaks = λ r mails k. (k.0, spoken_said r.me (Each IsSaid) (own_talk r.me) counted r.group (before_of start.group.core) (applied start.group command).1 command mails k.1);
    teaches = λ to r mails t a k. learns_keep to (next start) command r mails k;
    installs = λ to r mails t new k. installs_keep to r mails k;
    repolls = λ to r mails t new k. (k.0, own_sent r.me to _ mails k.0 k.1);
    flies = λ other r mails e k. tt;
    landed = λ place k. k;
    back = λ other r mails l k. (back_keeps other r k.0, k.1);
  }

  -- ---- the walk: what is refused is what the replica that the row finds is asked

  module _ (First : ReplicaState → Type 0) (Hears : ℕ → MailBody → Type 0)
      (refuses : (me from : ℕ) (body : MailBody) (start : ReplicaState) → First start → Hears from body → Refuses start.acceptor body → IsSaid (record { from = me; to = from; body = Nack name start.acceptor.promised })) where
    abbrev name_facts : TableFacts
    name_facts = record {
      First = λ r. First r;
      Early = λ place. Keeps place;
      Late = λ place. Keeps place;
      Hears = λ from body. Hears from body;
      Round = λ ballot. Unit {0};
      Entry = λ slot command. Unit {0};
      Files = λ act. Unit {0};
      Orders = λ order. Unit {0};
      Given = λ drawer line. Unit {0};
      Child = λ base. Unit {0};
    }

    name_states : TableStates name_facts
    name_states = record {
      late = λ place k. k;
      again = λ command r mails on e k. (k, tt);
      counted_entry = λ command r mails on e low k. entry_holds true command r Keeps Keeps (entry_keeps true command r) mails k;
      learnt_entry = λ from group command r mails h first k. entry_holds false command r Keeps Keeps (entry_keeps false command r) mails k;
      children = λ counted command r mails child may e k. tt;
      jumped = λ from group slot base sets r mails h many later off k. (jumped_keeps slot base sets r k.0, k.1);
      hinted = λ hint r mails off k. k;
      stops = λ hint r mails on k. ended_keeps hint _ r mails k;
      goes = λ into r mails on e k. ended_keeps None _ r mails k;
      overtaken = λ ballot r mails good on t k. ended_keeps (Some ballot.node) _ _ mails (either_way (λ (x : ReplicaState). Keeps (x, mails)) (below r.top ballot) (record r { top = ballot }) r k k);
      elected = λ r mails k. (let ballot : Ballot = record { round = r.top.round + 1; node = r.me } in
          (k.0, all_sent r.me (Each IsSaid) (Prepare (name_of r) ballot (next r)) (λ to ms m. own_sent r.me to _ ms k.0 m) (open_nodes r.sets) mails k.1));
      seen = λ ballot r mails good t on k. k;
      polled = λ from group ballot reports r mails on h k. k;
      counts = λ from ballot slot set count r mails on e k. k;
      chosen = λ from group ballot slot set command r mails on e h k. (tt, k);
      promised = λ from group ballot from_slot r mails h top t k. (k.0, own_sent r.me from _ mails k.0 k.1);
      accepted = λ from group report r mails h top t k. (k.0, own_sent r.me from _ mails k.0 k.1);
      filed = λ act r mails on q e brought k. k;
      ordered = λ order r mails on q may k. k;
      requested = λ client seq op r mails on e k. k;
      requested_again = λ client seq other op r mails on e g k. k;
      turned = λ command answer backlog r mails on e no k. (k.0, one_answered r.me (Each IsSaid) (own_talk r.me) r.group.core.id answer command mails k.1);
      offers_value = λ slot set command r mails on near free e k. offered_keeps slot set command r mails k;
      offers_noop = λ slot set r mails on near free gap k. offered_keeps slot set _ r mails k;
      offers_act = λ slot set act acts r mails on near free e k. offered_keeps slot set act (record r { acts = acts }) mails k;
      offers_call = λ slot set command backlog r mails on near free e k. offered_keeps slot set command (record r { backlog = backlog }) mails k;
    }

    nacks_keep : (from : ℕ) (body : MailBody) (start r : ReplicaState) (mails : List Mail) → First start → Hears from body → r.acceptor ≡ start.acceptor → Refuses start.acceptor body → Keeps (r, mails) → Keeps (r, sent r.me from (Nack (name_of r) r.acceptor.promised) mails)
    nacks_keep from body start r mails first h same refused k =
        let said : IsSaid (record { from = r.me; to = from; body = Nack name start.acceptor.promised }) = refuses r.me from body start first h refused in
        let mine : IsSaid (record { from = r.me; to = from; body = Nack name r.acceptor.promised }) = subst (λ (a : AcceptorState Command). IsSaid (record { from = r.me; to = from; body = Nack name a.promised })) (sym same) said in
        (k.0, Each-append IsSaid mails (record { from = r.me; to = from; body = Nack (name_of r) r.acceptor.promised } ∷ []) k.1 (subst (λ n. IsSaid (record { from = r.me; to = from; body = Nack n r.acceptor.promised })) (sym k.0) mine, tt))

    talked : (r : ReplicaState) → Talk r.me (λ mails. Keeps (r, mails))
    talked r = beside_talk (name_of r ≡ name) r.me (Each IsSaid) (λ own. own_talk r.me)

    spoken_to : (r : ReplicaState) → Parties r.me (λ mails. Keeps (r, mails))
    spoken_to r = parties r.me (λ mails. Keeps (r, mails)) (talked r)

    name_says : TableSays name_facts
    name_says = record {
      refuses = λ from group client seq op answer r mails h e k. client_reported r.me (λ ms. Keeps (r, ms)) (spoken_to r) client (name_of r) seq answer mails k;
      tells = λ drawer line why r mails given e k. (talked r).tells line.number (Refused why) mails k;
      votes = λ from tx offer vote r mails h e k. vote_reported r.me (λ ms. Keeps (r, ms)) (spoken_to r) r.group from tx offer vote mails k;
      sees = λ from tx watch vote r mails h e k. watch_reported r.me (λ ms. Keeps (r, ms)) (spoken_to r) from tx watch vote mails k;
      vote_ends = λ from tx coord part vote outcome r mails h e k. outcome_said r.me (λ ms. Keeps (r, ms)) (spoken_to r) from tx part outcome mails k;
      watch_ends = λ from tx coord part vote outcome r mails h e k. outcome_said r.me (λ ms. Keeps (r, ms)) (spoken_to r) from tx part outcome mails k;
      offer_sent_on = λ from tx offer r mails h k. (talked r).sends_on from tx offer.coord r.hint mails k;
      watch_sent_on = λ from tx watch r mails h k. (talked r).sends_on from tx watch.coord r.hint mails k;
      asks_next = λ from tx coord hint r mails h k. next_one_asked r.me (λ ms. Keeps (r, ms)) (spoken_to r) r.group.core.lock r.group.core from tx hint mails k;
      prepare_behind = λ from group ballot from_slot r mails h found low k. installs_keep from r mails k;
      accept_behind = λ from group report r mails h found low k. installs_keep from r mails k;
      ask_behind = λ from group slot r mails h k. installs_keep from r mails k;
      recalls = λ from group asked slot command r mails h e k. learns_keep from slot command r mails k;
      wants = λ from group slot command r mails h low k. (k.0, own_sent r.me from _ mails k.0 k.1);
      prepare_nacked = λ from group ballot from_slot r mails h found no k. nacks_keep from (Prepare group ballot from_slot) found.0 r mails found.1 h found.2 (subst (λ (a : AcceptorState Command). may_promise a ballot ≡ false) found.2 no) k;
      accept_nacked = λ from group report r mails h found no k. nacks_keep from (Accept group report.ballot report.slot report.value) found.0 r mails found.1 h found.2 (subst (λ (a : AcceptorState Command). may_accept a report.ballot ≡ false) found.2 no) k;
    }

    abbrev name_walk : TableWalk
    name_walk = record { facts = name_facts; hears = all_heard name_facts (λ ballot. tt) (λ act. tt); states = name_states; says = name_says }

    pub mailed_keeps : (from : ℕ) (body : MailBody) (place : Place) → First place.0 → Hears from body → Keeps place → Keeps (mailed from body place).0
    mailed_keeps from body place first h k = (rows.takes_mail name_walk from body place h first k).0

    pub order_keeps : (drawer : Drawer) (line : OrderLine) (place : Place) → Keeps place → Keeps (ordered_row drawer line place)
    order_keeps drawer line place k = rows.orders name_walk drawer line place tt (λ e. tt) k

    -- a replica that is made of a state that is sent
    pub made_keeps : (me from slot : ℕ) (base : Base) (sets : List (List ℕ)) → Keeps (made_by me from name slot base sets)
    unfolding forgotten
    made_keeps me from slot base sets = rows.makes name_walk me from name slot base sets (refl, tt)
