-- The names that a replica holds and sends are of one kind, through all rows of its table, and so are those of the children of a mail.
use Rattle.std.proofs.Common.{◌≡◌, ℕ, ◌+◌, ◌-◌, ◌&&◌, ◌||◌, not, nat_le, Bool, true, false, cond, List, [], ◌∷◌, ◌++◌, find, Option, Some, None, refl, ap, subst, ◌∙◌}
use Rattle.std.specs.Prelude.{is_some, is_none}
use Rattle.std.proofs.lemmas.Bool.{and_from, cond-true, cond-false}
use Rattle.sc_base.specs.Definitions.{Each, same_draw, Drawer, next_name, is_member}
use Rattle.sc_node_table.specs.Values.{Draw, Op, Command, Noop, Call, GiveUp, Base, Core, Lock, Free, Coordinating, Promised, Watching, Route, Order, OrderLine, OrderRefusal, Outcome, Past, AnswerBody, Mail, MailBody, Answer, Prepare, Promise, Accept, Accepted, Nack, Learn, Ask, Install, TxVote, TxElsewhere, TxWatched, Told, Report}
use Rattle.sc_words.specs.ideal.IdealDefinitions.{key_of, holds_key}
use Rattle.sc_words.specs.declared.commands.orders.Order.TheVariants as An
use Rattle.sc_words.specs.declared.commands.orders.OrderRefusal.TheVariants as Why
use Rattle.sc_words.specs.declared.commands.orders.OrderResult.TheVariants as Results
use Rattle.sc_words.specs.declared.commands.votes.Past.TheVariants as Cast
use Rattle.sc_words.specs.declared.commands.votes.Vote.TheVariants as Says
use Rattle.sc_mail.specs.declared.bodies.AnswerBody.TheVariants as Answers
use Rattle.sc_group_table.specs.machine.MachineDefinitions.{Group, base_of, locked_in, refusal_of, frozen_of, is_locked_in}
use Rattle.sc_words.proofs.PaxosProofs.PaxosLemmas.{Each-append, Each-filter}
use Rattle.sc_words.specs.paxos.PaxosDefinitions.{below, after_promise, after_accept, promise_counted, counted, reports_from}
use Rattle.sc_node_table.specs.NodeDefinitions.{ReplicaState, Place, name_of, next, members, open_nodes, settled, named, sent, ordered_command, takes_name, has_drawn_all, named_refused, first_of_both, untaken, ordered_row, group_of_order, wished_line, admits_requests, asked_link, question, without_request, reminders, request_refusal, made_by, tick_row, mailed, noted_vote, noted_outcome, gone_vote, standing_by, standing_vote, next_asked, asked_next}
use Rattle.sc_law_entries.specs.names.NameDefinitions.{Opt, OutcomeNames, PastNames, LockNames, CoreNames, CommandNames, RefusalNames, AnswerNames, BodiesNames, Owned, owned_by, drawn_for, waited, wished_at, drawn_wishing}
use Rattle.sc_law_entries.proofs.NamesProofs.EachFound.{opt_find, opt_map, opt_slot, report_with}
use Rattle.sc_law_entries.proofs.NamesProofs.Machine.{refusal_names, child_by_names}
use Rattle.sc_law_walks.proofs.WalkLemmas.{either_way, TableFacts, TableStates, TableSays, TableWalk, TableTicks, MayEnter}
use Rattle.sc_law_walks.proofs.TableRows as rows
use Rattle.sc_law_walks.proofs.TableTicks as tick
use Rattle.sc_law_entries.proofs.NamesProofs.Sent.{Sent, sent_names, sent_all_names, answered_names, question_names, voted_to_names, watched_to_names, outcome_names}
use Rattle.sc_law_entries.proofs.NamesProofs.HeldNames.{Fine, Cmd, Cmds, R, held_of, with_calls, with_acts, ended_names, turned_names, offered_names, named_names, jumped_names, installed_names}
use Rattle.sc_law_entries.proofs.NamesProofs.HeldCommands.{without_held, flying_held, polled_held, counted_held, chosen_held, must_held}
use Rattle.sc_law_entries.proofs.NamesProofs.ExecutedNames.{entry_fine}
use Rattle.sc_law_entries.proofs.NamesProofs.Voted.{with_acceptor, with_leader, with_ready, held_names}

module _ (K : Draw → Type 0) where
  abbrev F : Place → Type 0
  F place = Fine K place

  -- ---- why a request or an order is refused

  abbrev Ans : Option AnswerBody → Type 0
  Ans o = Opt (AnswerNames K) o

  refusal_by : (gone : Option Route) (core : Core) (running : Bool) (hint : Option ℕ) (op : Op) → Opt (λ (into : Route). K into.group) gone → CoreNames K core → Ans (request_refusal gone core running hint op)
  refusal_by (Some into) core running hint op g k = g
  refusal_by None core running hint op g k = either_way Ans (not running) _ _ tt (either_way Ans (admits_requests core.lock && not (holds_key core.arc (key_of op))) _ _ k.succ tt)

  abbrev Refused : Option OrderRefusal → Type 0
  Refused o = Opt (RefusalNames K) o

  first_names : (one other : Option OrderRefusal) → Refused one → Refused other → Refused (first_of_both one other)
  first_names (Some why) other w v = w
  first_names None other w v = v

  untaken_names : (drawer : Drawer) (line : OrderLine) (r : ReplicaState) → R K r → Refused (untaken drawer line r)
  untaken_names drawer line r k =
      let one : Option OrderRefusal = refusal_of r.group.core (ordered_command (next_name drawer) line.number line.order) in
      either_way Refused (is_some r.group.core.gone || not (settled r)) (Some (Why.NotLeader r.hint)) (first_of_both one (named_refused drawer line.order r)) tt
      (first_names one (named_refused drawer line.order r) (refusal_names K r.group.core (ordered_command (next_name drawer) line.number line.order) k.core)
      (either_way Refused (takes_name line.order && has_drawn_all drawer) (Some (Why.NotLeader r.hint)) None tt tt))

  -- the command of an order names its name, if it takes one
  pub order_names : (name : Draw) (number : ℕ) (order : Order) → (takes_name order ≡ true → K name) → CommandNames K (ordered_command name number order)
  order_names name number (An.Join node group) n = tt
  order_names name number (An.Leave node group) n = tt
  order_names name number (An.Split group at) n = n refl
  order_names name number (An.Merge group) n = (n refl, tt)
  order_names name number (An.Repart group at) n = (n refl, tt)
  order_names name number (An.Migrate group node) n = (n refl, tt)

  -- what is drawn for an order, if it is taken and takes a name
  drawn_name : (drawer : Drawer) (line : OrderLine) (r : ReplicaState) → Each (λ (owned : Owned). K owned.name) (drawn_for drawer line (Some r)) → untaken drawer line r ≡ None → takes_name line.order ≡ true → K (next_name drawer)
  drawn_name drawer line r d taken named =
      let yes = and_from (takes_name line.order) (is_none (untaken drawer line r)) named (ap (λ (o : Option OrderRefusal). is_none o) taken) in
      (subst (Each (λ (owned : Owned). K owned.name)) (cond-true (takes_name line.order && is_none (untaken drawer line r)) (owned_by (next_name drawer) (group_of_order line.order) ∷ []) [] yes) d).0

  -- ---- the parties of a transaction

  abbrev PastOf : Option Past → Type 0
  PastOf o = Opt (PastNames K) o

  abbrev Vs : Draw × Past → Type 0
  Vs v = K v.0 × PastNames K v.1

  abbrev Ds : Draw × Outcome → Type 0
  Ds d = K d.0 × OutcomeNames K d.1

  noted_vote_names : (core : Core) (tx : Draw) → CoreNames K core → PastOf (noted_vote core tx)
  noted_vote_names core tx k =
      opt_map Vs (PastNames K) (λ noted. noted.1) (λ noted v. v.1) (find (λ noted. same_draw noted.0 tx) core.voted) (opt_find Vs (λ noted. same_draw noted.0 tx) core.voted k.voted)

  noted_outcome_names : (core : Core) (tx : Draw) → CoreNames K core → Opt (OutcomeNames K) (noted_outcome core tx)
  noted_outcome_names core tx k =
      opt_map Ds (OutcomeNames K) (λ noted. noted.1) (λ noted v. v.1) (find (λ noted. same_draw noted.0 tx) core.decided) (opt_find Ds (λ noted. same_draw noted.0 tx) core.decided k.decided)

  gone_names : (gone : Option Route) → PastOf (gone_vote gone)
  gone_names None = tt
  gone_names (Some into) = tt

  standing_names : (o : Option Past) (locked : Bool) (into : Option Route) → PastOf o → PastOf (standing_by o locked into)
  standing_names None locked into p = gone_names into
  standing_names (Some (Cast.No why)) locked into p = p
  standing_names (Some Cast.Ended) locked into p = tt
  standing_names (Some Cast.Yes) locked into p = either_way PastOf locked (Some Cast.Yes) (gone_vote into) tt (gone_names into)

  standing_vote_names : (core : Core) (tx : Draw) → CoreNames K core → PastOf (standing_vote core tx)
  standing_vote_names core tx k = standing_names (noted_vote core tx) (is_locked_in (locked_in core.lock) tx) core.gone (noted_vote_names core tx k)

  reminder_names : (lock : Lock) (me : ℕ) (group : Group) (mails : List Mail) → LockNames K lock → CoreNames K group.core → Sent K mails → Sent K (reminders lock me group mails)
  reminder_names Free me group mails l k m = m
  reminder_names (Coordinating tx body order heard) me group mails l k m =
      sent_all_names K me (asked_link group.core body heard).members (question me group.core tx body heard) mails (question_names K me group.core tx body heard l.0 l.1 l.2 k) m
  reminder_names (Promised tx offer) me group mails l k m = sent_all_names K me offer.members (TxVote tx offer.coord offer.part (Says.Yes (frozen_of group))) mails (l.0, l.1.coord, l.1.part, k.succ) m
  reminder_names (Watching tx watch) me group mails l k m = sent_all_names K me watch.members (TxWatched tx watch.coord watch.part Cast.Yes) mails (l.0, l.1.coord, l.1.part, tt) m

  asked_next_names : (lock : Lock) (me : ℕ) (core : Core) (from : ℕ) (tx : Draw) (hint : Option ℕ) (mails : List Mail) → LockNames K lock → CoreNames K core → K tx → Sent K mails → Sent K (asked_next lock me core from tx hint mails)
  asked_next_names Free me core from tx hint mails l k t m = m
  asked_next_names (Promised locked offer) me core from tx hint mails l k t m = m
  asked_next_names (Watching locked watch) me core from tx hint mails l k t m = m
  asked_next_names (Coordinating locked body order heard) me core from tx hint mails l k t m =
      either_way (Sent K) (same_draw locked tx) _ _ (sent_names K me (next_asked hint (asked_link core body heard).members from) (question me core tx body heard) mails (question_names K me core tx body heard t l.1 l.2 k) m) m

  -- ---- the parts of a row

  abbrev name_facts : TableFacts
  name_facts = record {
    First = λ r. Unit {0};
    Early = λ place. F place;
    Late = λ place. F place;
    Hears = λ from body. BodiesNames K body;
    Round = λ ballot. Unit {0};
    Entry = λ slot command. CommandNames K command;
    Files = λ act. CommandNames K act;
    Orders = λ order. CommandNames K order;
    Given = λ drawer line. Unit {0};
    Child = λ base. CoreNames K base.core;
  }

  may_names : (counted : Bool) (command : Command) (r : ReplicaState) → MayEnter name_facts counted command r → CommandNames K command
  may_names true command r may = may.2
  may_names false command r may = may.2.1

  with_act : (r : ReplicaState) (act : Command) → CommandNames K act → R K r → R K (record r { acts = r.acts ++ act ∷ [] })
  with_act r act c k = with_acts K r (r.acts ++ act ∷ []) (Each-append (CommandNames K) r.acts (act ∷ []) k.acts (c, tt)) k

  with_order_queued : (r : ReplicaState) (backlog : List Command) (command : Command) → Cmds K backlog → CommandNames K command → R K r → R K (record r { backlog = backlog ++ command ∷ [] })
  with_order_queued r backlog command cs c k = with_calls K r (backlog ++ command ∷ []) (Each-append (CommandNames K) backlog (command ∷ []) cs (c, tt)) k

  sent_fine : (r : ReplicaState) (to : ℕ) (body : MailBody) (mails : List Mail) → BodiesNames K body → F (r, mails) → F (r, sent r.me to body mails)
  sent_fine r to body mails b f = (f.0, sent_names K r.me to body mails b f.1)

  state_fine : (r : ReplicaState) (to : ℕ) (mails : List Mail) → F (r, mails) → F (r, sent r.me to (Install (name_of r) (next r - 1) (base_of r.group) r.sets) mails)
  state_fine r to mails f = sent_fine r to (Install (name_of r) (next r - 1) (base_of r.group) r.sets) mails (f.0.core.id, f.0.core) f

  name_states : TableStates name_facts
  name_states = record {
    late = λ place f. f;
    again = λ command r mails on e f. (f, subst (λ (o : Option Command). Cmd K o) e (opt_slot (CommandNames K) r.ready (next r) f.0.ready));
    counted_entry = λ command r mails on e c f. entry_fine K true command r mails c f;
    learnt_entry = λ from group command r mails h first f. entry_fine K false command r mails h.1 f;
    children = λ counted command r mails child may e f. subst (λ (o : Option Base). Opt (λ (base : Base). CoreNames K base.core) o) e.made (child_by_names K r.group command f.0.core (may_names counted command r may));
    jumped = λ from group slot base sets r mails h many later off f. (jumped_names K slot base sets r h.1 f.0, f.1);
    hinted = λ hint r mails off f. f;
    stops = λ hint r mails on f. ended_names K hint (Answers.NotLeader hint) (r, mails) tt f;
    goes = λ into r mails on e f. ended_names K None (Answers.Gone into) (r, mails) (subst (λ (o : Option Route). Opt (λ (route : Route). K route.group) o) e f.0.core.gone) f;
    overtaken = λ ballot r mails good on t f. ended_names K (Some ballot.node) (Answers.NotLeader (Some ballot.node)) (cond (below r.top ballot) (record r { top = ballot }) r, mails) tt (either_way (λ (x : ReplicaState). F (x, mails)) (below r.top ballot) (record r { top = ballot }) r f f);
    elected = λ r mails f. (
      record { core = f.0.core; log = f.0.log; accepted = f.0.accepted; reports = tt; flights = tt; ready = tt; acts = f.0.acts; backlog = f.0.backlog },
      sent_all_names K r.me (open_nodes r.sets) (Prepare (name_of r) (record { round = r.top.round + 1; node = r.me }) (next r)) mails f.0.core.id f.1,
    );
    seen = λ ballot r mails good t on f. f;
    polled = λ from group ballot reports r mails on h f. (with_leader K r (promise_counted from ballot reports r.leader).1 (polled_held (CommandNames K) from ballot reports r.leader h.1 (f.0.flights, f.0.reports)) f.0, f.1);
    counts = λ from ballot slot set count r mails on e f. (with_leader K r (counted from ballot slot set r.leader).1 (counted_held (CommandNames K) from ballot slot set r.leader (f.0.flights, f.0.reports)) f.0, f.1);
    chosen = λ from group ballot slot set command r mails on e h f. (
        let c : CommandNames K command = chosen_held (CommandNames K) from ballot slot set r.leader (f.0.flights, f.0.reports) command e in
        let led = with_leader K r (counted from ballot slot set r.leader).1 (counted_held (CommandNames K) from ballot slot set r.leader (f.0.flights, f.0.reports)) f.0 in
        (c, (with_ready K (record r { leader = (counted from ballot slot set r.leader).1 }) slot command c led, f.1)));
    promised = λ from group ballot from_slot r mails h top t f. (
      with_acceptor K r (after_promise ballot r.acceptor) f.0.accepted f.0,
      sent_names K r.me from (Promise (name_of r) ballot (reports_from from_slot r.acceptor.accepted)) mails
          (f.0.core.id, Each-filter (λ (report : Report Command). CommandNames K report.value) (λ (report : Report Command). nat_le from_slot report.slot) r.acceptor.accepted f.0.accepted) f.1,
    );
    accepted = λ from group report r mails h top t f. (
      with_acceptor K r (after_accept report r.acceptor) (report_with (CommandNames K) report r.acceptor.accepted h.1 f.0.accepted) f.0,
      sent_names K r.me from (Accepted (name_of r) report.ballot report.slot) mails f.0.core.id f.1,
    );
    filed = λ act r mails on q e brought f. (with_act r act brought f.0, f.1);
    ordered = λ order r mails on q may f. (with_order_queued r r.backlog order f.0.backlog may f.0, f.1);
    requested = λ client seq op r mails on e f. (with_order_queued r r.backlog (Call client seq op) f.0.backlog tt f.0, f.1);
    requested_again = λ client seq other op r mails on e g f. (with_order_queued r (without_request r.backlog client) (Call client seq op) (without_held (CommandNames K) r.backlog client f.0.backlog) tt f.0, f.1);
    turned = λ command answer backlog r mails on e no f. (
      with_calls K r backlog (subst (λ (cs : List Command). Cmds K cs) e f.0.backlog).1 f.0,
      answered_names K r.me r.group.core.id answer command mails f.0.core.id (subst (λ (o : Option AnswerBody). Ans o) no (turned_names K r.group.core command f.0.core)) f.1,
    );
    offers_value = λ slot set command r mails on near free e f. offered_names K slot set command (r, mails) (must_held (CommandNames K) slot r.leader command e (f.0.flights, f.0.reports)) f;
    offers_noop = λ slot set r mails on near free gap f. offered_names K slot set Noop (r, mails) tt f;
    offers_act = λ slot set act acts r mails on near free e f. (let cs = subst (λ (cs : List Command). Cmds K cs) e f.0.acts in offered_names K slot set act (record r { acts = acts }, mails) cs.0 (with_acts K r acts cs.1 f.0, f.1));
    offers_call = λ slot set command backlog r mails on near free e f. (let cs = subst (λ (cs : List Command). Cmds K cs) e f.0.backlog in offered_names K slot set command (record r { backlog = backlog }, mails) cs.0 (with_calls K r backlog cs.1 f.0, f.1));
  }

  name_says : TableSays name_facts
  name_says = record {
    refuses = λ from group client seq op answer r mails h e f. sent_fine r _ (Answer (name_of r) seq answer) mails (f.0.core.id, subst (λ (o : Option AnswerBody). Ans o) e (refusal_by r.group.core.gone r.group.core r.running r.hint op f.0.core.gone f.0.core)) f;
    tells = λ drawer line why r mails given e f. sent_fine r 0 (Told line.number (Results.Refused why)) mails (subst (λ (o : Option OrderRefusal). Refused o) e (untaken_names drawer line r f.0)) f;
    votes = λ from tx offer vote r mails h e f. (f.0, voted_to_names K r.me r.group from tx offer vote mails f.0.core h.0 h.1 (subst (λ (o : Option Past). PastOf o) e (standing_vote_names r.group.core tx f.0.core)) f.1);
    sees = λ from tx watch vote r mails h e f. (f.0, watched_to_names K r.me from tx watch vote mails h.0 h.1 (subst (λ (o : Option Past). PastOf o) e (standing_vote_names r.group.core tx f.0.core)) f.1);
    vote_ends = λ from tx coord part vote outcome r mails h e f. (f.0, outcome_names K r.me from tx part outcome mails h.0 h.2 (subst (λ (o : Option Outcome). Opt (OutcomeNames K) o) e (noted_outcome_names r.group.core tx f.0.core)) f.1);
    watch_ends = λ from tx coord part vote outcome r mails h e f. (f.0, outcome_names K r.me from tx part outcome mails h.0 h.2 (subst (λ (o : Option Outcome). Opt (OutcomeNames K) o) e (noted_outcome_names r.group.core tx f.0.core)) f.1);
    offer_sent_on = λ from tx offer r mails h f. sent_fine r from (TxElsewhere tx offer.coord r.hint) mails (h.0, h.1.coord) f;
    watch_sent_on = λ from tx watch r mails h f. sent_fine r from (TxElsewhere tx watch.coord r.hint) mails (h.0, h.1.coord) f;
    asks_next = λ from tx coord hint r mails h f. (f.0, asked_next_names r.group.core.lock r.me r.group.core from tx hint mails f.0.core.lock f.0.core h.0 f.1);
    prepare_behind = λ from group ballot from_slot r mails h found low f. state_fine r from mails f;
    accept_behind = λ from group report r mails h found low f. state_fine r from mails f;
    ask_behind = λ from group slot r mails h f. state_fine r from mails f;
    recalls = λ from group asked slot command r mails h e f. sent_fine r from (Learn (name_of r) slot command) mails (f.0.core.id, subst (λ (o : Option Command). Cmd K o) e (held_names K slot r f.0)) f;
    wants = λ from group slot command r mails h low f. sent_fine r from (Ask (name_of r) (next r)) mails f.0.core.id f;
    prepare_nacked = λ from group ballot from_slot r mails h found no f. sent_fine r from (Nack (name_of r) r.acceptor.promised) mails f.0.core.id f;
    accept_nacked = λ from group report r mails h found no f. sent_fine r from (Nack (name_of r) r.acceptor.promised) mails f.0.core.id f;
  }

  abbrev name_walk : TableWalk
  name_walk = record {
    facts = name_facts;
    hears = record {
      prepare_round = λ from group ballot from_slot h. tt;
      accept_round = λ from group ballot slot command h. tt;
      nack_round = λ from group promised h. tt;
      offer_filed = λ from tx offer h. h;
      vote_filed = λ from tx coord part vote h. (h.0, h.3);
      outcome_filed = λ from tx part outcome h. (h.0, h.2);
      watch_filed = λ from tx watch h. h;
      watched_filed = λ from tx coord part vote h. (h.0, h.3);
    };
    states = name_states;
    says = name_says;
  }

  name_ticks : TableTicks name_facts
  name_ticks = record {
    waited = λ waits r mails f. f;
    gives_up = λ tx body order heard r mails e on no f. (with_act r (GiveUp tx) (subst (λ (lock : Lock). LockNames K lock) e f.0.core.lock).0 f.0, f.1);
    agains = record {
      reminds = λ r mails on f. (f.0, reminder_names r.group.core.lock r.me r.group mails f.0.core.lock f.0.core f.1);
      reasks = λ to slot command r mails on e f. sent_fine r to (Accept (name_of r) r.leader.ballot slot command) mails (f.0.core.id, subst (λ (o : Option Command). Cmd K o) e (flying_held (CommandNames K) r slot (held_of K r f.0))) f;
      relearns = λ to command r mails e f. sent_fine r to (Learn (name_of r) (next r - 1) command) mails (f.0.core.id, subst (λ (o : Option Command). Cmd K o) e (held_names K (next r - 1) r f.0)) f;
    };
  }

  -- ---- all rows

  pub ordered_row_names : (drawer : Drawer) (line : OrderLine) (place : Place) → (untaken drawer line place.0 ≡ None → CommandNames K (ordered_command (next_name drawer) line.number line.order)) → F place → F (ordered_row drawer line place)
  ordered_row_names drawer line place c f = rows.orders name_walk drawer line place tt c f

  pub tick_names : (on : Bool) (drawer : Drawer) (r : ReplicaState) (mails : List Mail) → Each (λ (owned : Owned). K owned.name) (drawn_wishing drawer (wished_at on r) (waited r)) → F (r, mails) → F (tick_row on drawer (r, mails))
  tick_names on drawer r mails d f = tick.ticks name_walk name_ticks on drawer (r, mails) (λ here leads line e taken. (
      let wished : wished_at on r ≡ Some line = cond-false (is_some r.group.core.gone || not (is_member (members r) r.me)) None (cond (not (settled r)) None (wished_line on (waited r))) here ∙ cond-false (not (settled r)) None (wished_line on (waited r)) leads ∙ e in
      order_names (next_name drawer) line.number line.order (drawn_name drawer line (waited r) (subst (λ (o : Option OrderLine). Each (λ (owned : Owned). K owned.name) (drawn_wishing drawer o (waited r))) wished d) taken))) f

  pub mailed_names : (from : ℕ) (body : MailBody) (place : Place) → BodiesNames K body → F place → F (mailed from body place).0
  mailed_names from body place b f = (rows.takes_mail name_walk from body place b tt f).0

  -- the children of a mail
  abbrev pub Kids : List Base → Type 0
  Kids made = Each (λ (base : Base). CoreNames K base.core) made

  pub mailed_kids : (from : ℕ) (body : MailBody) (place : Place) → BodiesNames K body → F place → Kids (mailed from body place).1
  mailed_kids from body place b f = (rows.takes_mail name_walk from body place b tt f).1

  pub made_names : (me from : ℕ) (group : Draw) (slot : ℕ) (base : Base) (sets : List (List ℕ)) → K group → CoreNames K base.core → F (made_by me from group slot base sets)
  made_names me from group slot base sets g b = rows.makes name_walk me from group slot base sets (installed_names K me slot (named group base) sets (named_names K group base g b), tt)
