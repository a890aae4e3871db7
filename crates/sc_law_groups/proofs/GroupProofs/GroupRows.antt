-- What holds in the middle of a row of a group's replica is kept by each row in which it neither promises nor accepts: an instance of the walk over any replica's table.
use Rattle.std.proofs.Common.{◌≡◌, ℕ, ◌-◌, ◌||◌, not, Bool, true, false, List, [], ◌∷◌, ◌++◌, Some, None, is_some, refl, sym, ◌∙◌, ap, subst}
use Rattle.sc_base.specs.Definitions.{client_actor, is_member, Among, Each, Drawer, next_name}
use Rattle.sc_base.proofs.Lemmas.{same_name}
use Rattle.sc_node_table.specs.Values.{Ballot, Draw, Command, Noop, Call, GiveUp, Base, OrderLine, Refused, Mail, MailBody, Request, Answer, Prepare, Promise, Accept, Accepted as AcceptedMail, Nack, Learn, Ask, Install, TxPrepare, TxVote, TxOutcome, TxElsewhere, TxWatch, TxWatched, Told}
use Rattle.sc_mail.specs.declared.bodies.AnswerBody.TheVariants as Says
use Rattle.sc_group_table.specs.machine.MachineDefinitions.{Group}
use Rattle.sc_words.proofs.PaxosProofs.PaxosLemmas.{Each-among, Each-append}
use Rattle.sc_words.specs.paxos.PaxosDefinitions.{entry_at}
use Rattle.sc_paxos_law.specs.PaxosLawDefinitions.{Prepared, Promised, Accepted, IsLog}
use Rattle.sc_node_table.specs.NodeDefinitions.{ReplicaState, Place, name_of, next, members, settled, at_slot, taken_at, offered, without_request, group_of_mail, saw, voted_to, watched_to, asked_next, reminders, waited_in, wished_line, untaken, ordered_command, ordered_row, tick_row, mailed, made_by, named, installed_replica}
use Rattle.sc_meaning.specs.sound.SoundDefinitions.{Ahead}
use Rattle.sc_law_groups.proofs.GroupProofs.Growth.{IsLearnt}
use Rattle.sc_law_groups.proofs.GroupProofs.Invariant.{Steps, rule, queued_replica, IsState, IsTrue}
use Rattle.sc_law_groups.proofs.GroupProofs.Speech.{AreSaid, Meets, Speaks}
use Rattle.sc_law_groups.proofs.GroupProofs.Midway.{Fine, turn}
use Rattle.sc_law_groups.proofs.GroupProofs.Putting.{puts_vote, puts_watch, puts_reminders, puts_next}
use Rattle.sc_law_groups.proofs.GroupProofs.Saying.{log_before, learnt_before, says_all}
use Rattle.sc_law_groups.proofs.GroupProofs.Sending.{name_is, plain_said, learnt_one, state_sent, offered_again, answered_one, fine_elected, fine_ended, fine_stopped, fine_seen, fine_overtaken}
use Rattle.sc_law_groups.proofs.GroupProofs.Offering.{with_queues, fine_offered, turned_dull, reported_made}
use Rattle.sc_law_groups.proofs.GroupProofs.HeldEntries.{entry_learnt, flying_offered, refused_dull}
use Rattle.sc_law_groups.proofs.GroupProofs.WithoutOne.{slot_among, Each-without_request}
use Rattle.sc_law_groups.proofs.GroupProofs.ChosenEntries.{IsChildOf, fine_entry, own_child}
use Rattle.sc_law_groups.proofs.GroupProofs.Counting.{fine_polled, fine_counted, fine_chosen}
use Rattle.sc_law_groups.proofs.GroupProofs.Installs.{fine_jumped}
use Rattle.sc_law_walks.proofs.WalkLemmas.{TableFacts, TableStates, TableSays, TableWalk, TableTicks, MayEnter, IsOpenOffer, offer_still}
use Rattle.sc_law_walks.proofs.TableWalks.{TableHears}
use Rattle.sc_law_walks.proofs.TableParts.{AfterAll, sees_ballot}
use Rattle.sc_law_walks.proofs.TableRows as rows
use Rattle.sc_law_walks.proofs.TableTicks as tick

-- a mail that asks no acceptor
abbrev pub AsksNone : MailBody → Type 0
AsksNone (Prepare group ballot from_slot) = ⊥
AsksNone (Accept group ballot slot command) = ⊥
AsksNone _ = Unit {0}

-- what a policy, if it is on, orders at a tick of a settled member may be queued, where it is taken
abbrev pub MayWish : (Command → Type 0) → Bool → Drawer → ReplicaState → Type 0
MayWish made on drawer r =
    (is_some r.group.core.gone || not (is_member (members r) r.me)) ≡ false → not (settled r) ≡ false → (line : OrderLine)
    → wished_line on (waited_in r.group.core.lock r) ≡ Some line → untaken drawer line (waited_in r.group.core.lock r) ≡ None → made (ordered_command (next_name drawer) line.number line.order)

module _ (ahead : Ahead) (base : Base) (made : Command → Type 0) (heard : MailBody → Type 0) (me : ℕ) (older : List Mail) (before : Steps) (speaks : Speaks ahead base made heard before)
    (some : (log : List Command) → Each made log → (node : ℕ) × (rest : List ℕ) × ((rule ahead base).members log ≡ node ∷ rest)) where
  abbrev Ok : Place → Type 0
  Ok = Fine ahead base made heard me older before

  -- ---- what a mail brings

  -- one of a transaction is heard, and comes to the group
  abbrev Comes : MailBody → Type 0
  Comes body = heard body × (group_of_mail body ≡ Some base.core.id)

  -- what a mail of the group brings was so before the row
  abbrev Brings : ℕ → MailBody → Type 0
  Brings from (Request group client seq op) = made (Call client seq op)
  Brings from (Prepare group ballot from_slot) = ⊥
  Brings from (Promise group ballot reports) = (start : ℕ) × Among (Promised from ballot start reports) before × Among (Prepared ballot start) before
  Brings from (Accept group ballot slot command) = ⊥
  Brings from (AcceptedMail group ballot slot) = (command : Command) × Among (Accepted from ballot slot command) before
  Brings from (Learn group slot command) = IsLearnt (rule ahead base) before slot command
  Brings from (Install group slot state sets) = IsState ahead base made before slot state sets
  Brings from (Answer group seq answer) = Unit {0}
  Brings from (Nack group promised) = Unit {0}
  Brings from (Ask group from_slot) = Unit {0}
  Brings from (Told number result) = Unit {0}
  Brings from (TxPrepare tx offer) = Comes (TxPrepare tx offer)
  Brings from (TxVote tx coord part vote) = Comes (TxVote tx coord part vote)
  Brings from (TxOutcome tx part outcome) = Comes (TxOutcome tx part outcome)
  Brings from (TxElsewhere tx coord hint) = Comes (TxElsewhere tx coord hint)
  Brings from (TxWatch tx watch) = Comes (TxWatch tx watch)
  Brings from (TxWatched tx coord part vote) = Comes (TxWatched tx coord part vote)

  brought : (mail : Mail) (body : MailBody) → group_of_mail body ≡ Some base.core.id → AsksNone body → IsTrue ahead base made heard before mail body → Brings mail.from body
  brought mail (Request group client seq op) into none t = t
  brought mail (Prepare group ballot from_slot) into none t = absurd none
  brought mail (Promise group ballot reports) into none t = (let same : group ≡ base.core.id = cc in t (same_name group base.core.id same))
  brought mail (Accept group ballot slot command) into none t = absurd none
  brought mail (AcceptedMail group ballot slot) into none t = (let same : group ≡ base.core.id = cc in t (same_name group base.core.id same))
  brought mail (Learn group slot command) into none t = (let same : group ≡ base.core.id = cc in t (same_name group base.core.id same))
  brought mail (Install group slot state sets) into none t = (let same : group ≡ base.core.id = cc in t (same_name group base.core.id same))
  brought mail (Answer group seq answer) into none t = tt
  brought mail (Nack group promised) into none t = tt
  brought mail (Ask group from_slot) into none t = tt
  brought mail (Told number result) into none t = tt
  brought mail body into none t = (t, into)

  -- ---- what is known of a place

  named_so : (r : ReplicaState) (mails : List Mail) → Ok (r, mails) → name_of r ≡ base.core.id
  named_so r mails f = name_is ahead base made heard me older before (f.newer ++ before) r f.replica

  logged : (r : ReplicaState) (mails : List Mail) (f : Ok (r, mails)) → IsLog (rule ahead base) before f.replica.whole
  logged r mails f = log_before ahead base made heard me older before (r, mails) f f.replica.whole f.replica.log_is.is_log

  met : (r : ReplicaState) (mails : List Mail) → Ok (r, mails) → (body : MailBody) → Comes body → Meets made heard r.group body
  met r mails f body (a, into) = subst (λ (g : Group). Meets made heard g body) (sym f.replica.log_is.group_is) (speaks.meets f.replica.whole (logged r mails f) f.replica.log_is.all_made body a into)

  ready_learnt : (r : ReplicaState) (mails : List Mail) (command : Command) → at_slot r.ready (next r) ≡ Some command → Ok (r, mails) → IsLearnt (rule ahead base) before (next r) command
  ready_learnt r mails command e f =
      learnt_before ahead base made heard me older before (r, mails) f (next r) command (Each-among (λ x. IsLearnt (rule ahead base) (f.newer ++ before) x.0 x.1) r.ready (next r, command) f.replica.ready (slot_among r.ready (next r) command e))

  held_learnt : (r : ReplicaState) (mails : List Mail) (slot : ℕ) (command : Command) → entry_at slot r.log ≡ Some command → Ok (r, mails) → IsLearnt (rule ahead base) before slot command
  held_learnt r mails slot command e f = learnt_before ahead base made heard me older before (r, mails) f slot command (entry_learnt ahead base made me (f.newer ++ before) slot r command f.replica e)

  -- mails that are heard are said
  said : (r : ReplicaState) (mails more : List Mail) → AreSaid heard more → Ok (r, mails) → Ok (r, mails ++ more)
  said r mails more a f = says_all ahead base made heard me older before r mails more f a

  -- a command that was made waits last
  act_waits : (r : ReplicaState) (mails : List Mail) (act : Command) → made act → Ok (r, mails) → Ok (record r { acts = r.acts ++ act ∷ [] }, mails)
  act_waits r mails act m f = with_queues ahead base made heard me older before some r mails (r.acts ++ act ∷ []) r.backlog (Each-append made r.acts (act ∷ []) f.replica.acts (m, tt)) f.replica.backlog f

  call_waits : (r : ReplicaState) (mails : List Mail) (backlog : List Command) (command : Command) → Each made backlog → made command → Ok (r, mails) → Ok (record r { backlog = backlog ++ command ∷ [] }, mails)
  call_waits r mails backlog command b m f = with_queues ahead base made heard me older before some r mails r.acts (backlog ++ command ∷ []) f.replica.acts (Each-append made backlog (command ∷ []) b (m, tt)) f

  split : (commands rest : List Command) (command : Command) → commands ≡ command ∷ rest → Each made commands → made command × Each made rest
  split commands rest command e m = subst (λ (cs : List Command). Each made cs) e m

  offers : (slot : ℕ) (set : List ℕ) (r : ReplicaState) (mails : List Mail) (command : Command) (acts backlog : List Command) → r.running ≡ true → IsOpenOffer slot set command r → taken_at r slot ≡ None → made command → Each made acts → Each made backlog → Ok (r, mails)
      → Ok (offered slot set command (record r { acts = acts; backlog = backlog }, mails))
  offers slot set r mails command acts backlog on at free m a b f =
      fine_offered ahead base made heard me older before some slot set command (record r { acts = acts; backlog = backlog }) mails on free (offer_still slot set command r acts backlog at) m (with_queues ahead base made heard me older before some r mails acts backlog a b f)

  -- ---- the walk

  abbrev pub group_facts : TableFacts
  group_facts = record {
    First = λ r. Unit {0};
    Early = λ place. Ok place;
    Late = λ place. Ok place;
    Hears = λ from body. Brings from body;
    Round = λ ballot. Unit {0};
    Entry = λ slot command. Unit {0};
    Files = λ act. (log : List Command) → IsLog (rule ahead base) before log → Each made log → made act;
    Orders = λ order. made order;
    Given = λ drawer line. Unit {0};
    Child = λ child. IsChildOf ahead base made me before child;
  }

  may_learn : (counted : Bool) (command : Command) (r : ReplicaState) (mails : List Mail) → MayEnter group_facts counted command r → Ok (r, mails) → IsLearnt (rule ahead base) before (next r) command
  may_learn true command r mails may f = ready_learnt r mails command may.1 f
  may_learn false command r mails may f = may.2

  may_run : (counted : Bool) (command : Command) (r : ReplicaState) → MayEnter group_facts counted command r → counted ≡ true → r.running ≡ true
  may_run true command r may e = may.0
  may_run false command r may e = cc

  pub group_hears : TableHears group_facts
  group_hears = record {
    prepare_round = λ from group ballot from_slot h. tt;
    accept_round = λ from group ballot slot command h. tt;
    nack_round = λ from group promised h. tt;
    offer_filed = λ from tx offer h log is_log all. (speaks.meets log is_log all (TxPrepare tx offer) h.0 h.1).0;
    vote_filed = λ from tx coord part vote h log is_log all. (speaks.meets log is_log all (TxVote tx coord part vote) h.0 h.1).0 from;
    outcome_filed = λ from tx part outcome h log is_log all. speaks.meets log is_log all (TxOutcome tx part outcome) h.0 h.1;
    watch_filed = λ from tx watch h log is_log all. (speaks.meets log is_log all (TxWatch tx watch) h.0 h.1).0;
    watched_filed = λ from tx coord part vote h log is_log all. (speaks.meets log is_log all (TxWatched tx coord part vote) h.0 h.1).0 from;
  }

  pub group_states : TableStates group_facts
  group_states = record {
    late = λ place f. f;
    again = λ command r mails on e f. (f, tt);
    counted_entry = λ command r mails on e low f. fine_entry ahead base made heard me older before speaks some true command r mails f (ready_learnt r mails command e f) (λ _. on);
    learnt_entry = λ from group command r mails h first f. fine_entry ahead base made heard me older before speaks some false command r mails f h (λ no. cc);
    children = λ counted command r mails child may own f. own_child ahead base made heard me older before speaks some counted command r mails f (may_learn counted command r mails may f) (may_run counted command r may) child own;
    jumped = λ from group slot state sets r mails h many later off f. fine_jumped ahead base made heard me older before slot state sets r mails off many later h f;
    hinted = λ hint r mails off f. turn ahead base made heard me older before r (record r { hint = hint }) mails f (queued_replica ahead base made (f.newer ++ before) me r hint r.waits r.acts r.backlog f.replica.acts f.replica.backlog f.replica);
    stops = λ hint r mails on f. fine_stopped ahead base made heard me older before hint r mails f;
    goes = λ into r mails on e f. fine_ended ahead base made heard me older before None (Says.Gone into) (λ h to seq. tt) r mails f;
    overtaken = λ ballot r mails good on t f. fine_overtaken ahead base made heard me older before ballot r mails f;
    elected = λ r mails f. fine_elected ahead base made heard me older before r mails f;
    seen = λ ballot r mails good t on f. fine_seen ahead base made heard me older before ballot r mails t f;
    polled = λ from group ballot reports r mails on h f. fine_polled ahead base made heard me older before from ballot reports h.0 r mails on h.1 h.2 f;
    counts = λ from ballot slot set count r mails vote e f. fine_counted ahead base made heard me older before from ballot slot set r mails vote.brought.0 vote.brought.1 vote.members_are f count e;
    chosen = λ from group ballot slot set command r mails vote e h f. (tt, fine_chosen ahead base made heard me older before from ballot slot set r mails h.0 h.1 vote.members_are f command e);
    promised = λ from group ballot from_slot r mails h top t f. absurd h;
    accepted = λ from group report r mails h top t f. absurd h;
    filed = λ act r mails on q e brings f. act_waits r mails act (brings f.replica.whole (logged r mails f) f.replica.log_is.all_made) f;
    ordered = λ order r mails on q may f. call_waits r mails r.backlog order f.replica.backlog may f;
    requested = λ client seq op r mails request e f. call_waits r mails r.backlog (Call client seq op) f.replica.backlog request.brought f;
    requested_again = λ client seq other op r mails request e g f. call_waits r mails (without_request r.backlog client) (Call client seq op) (Each-without_request made r.backlog client f.replica.backlog) request.brought f;
    turned = λ command answer backlog r mails on e no f. answered_one ahead base made heard me older before (record r { backlog = backlog }) mails r.group.core.id answer (named_so r mails f) (turned_dull ahead base made heard me older before some r.group.core command answer no) command
        (with_queues ahead base made heard me older before some r mails r.acts backlog f.replica.acts (split r.backlog backlog command e f.replica.backlog).1 f);
    offers_value = λ slot set command r mails on at free e f. offers slot set r mails command r.acts r.backlog on at free (reported_made ahead base made heard me older before some slot command r mails f on e) f.replica.acts f.replica.backlog f;
    offers_noop = λ slot set r mails on at free gap f. offers slot set r mails Noop r.acts r.backlog on at free speaks.noop f.replica.acts f.replica.backlog f;
    offers_act = λ slot set act acts r mails on at free e f. (let one = split r.acts acts act e f.replica.acts in offers slot set r mails act acts r.backlog on at free one.0 one.1 f.replica.backlog f);
    offers_call = λ slot set command backlog r mails on at free e f. (let one = split r.backlog backlog command e f.replica.backlog in offers slot set r mails command r.acts backlog on at free one.0 f.replica.acts one.1 f);
  }

  pub group_says : TableSays group_facts
  group_says = record {
    refuses = λ from group client seq op answer r mails h e f.
        plain_said ahead base made heard me older before (client_actor client) r mails (Answer (name_of r) seq answer) f refl (named_so r mails f) (λ steps mail _. refused_dull ahead base made me r.group.core.gone op r answer e steps mail.to seq);
    tells = λ drawer line why r mails given e f. plain_said ahead base made heard me older before 0 r mails (Told line.number (Refused why)) f refl tt (λ steps mail. tt);
    votes = λ from tx offer vote r mails h e f. subst (λ ms. Ok (r, ms)) (sym (puts_vote r.me r.group from tx offer vote mails)) (said r mails (voted_to r.me r.group from tx offer vote []) ((met r mails f (TxPrepare tx offer) h).1 vote e r.me from) f);
    sees = λ from tx watch vote r mails h e f. subst (λ ms. Ok (r, ms)) (sym (puts_watch r.me from tx watch vote mails)) (said r mails (watched_to r.me from tx watch vote []) ((met r mails f (TxWatch tx watch) h).1 vote e r.me from) f);
    vote_ends = λ from tx coord part vote outcome r mails h e f. said r mails (record { from = r.me; to = from; body = TxOutcome tx part outcome } ∷ []) ((met r mails f (TxVote tx coord part vote) h).1 outcome e, tt) f;
    watch_ends = λ from tx coord part vote outcome r mails h e f. said r mails (record { from = r.me; to = from; body = TxOutcome tx part outcome } ∷ []) ((met r mails f (TxWatched tx coord part vote) h).1 outcome e, tt) f;
    offer_sent_on = λ from tx offer r mails h f. said r mails (record { from = r.me; to = from; body = TxElsewhere tx offer.coord r.hint } ∷ []) (speaks.elsewhere (TxPrepare tx offer) h.0 tx offer.coord r.hint, tt) f;
    watch_sent_on = λ from tx watch r mails h f. said r mails (record { from = r.me; to = from; body = TxElsewhere tx watch.coord r.hint } ∷ []) (speaks.elsewhere (TxWatch tx watch) h.0 tx watch.coord r.hint, tt) f;
    asks_next = λ from tx coord hint r mails h f. subst (λ ms. Ok (r, ms)) (sym (puts_next r.group.core.lock r.me r.group.core from tx hint mails))
        (said r mails (asked_next r.group.core.lock r.me r.group.core from tx hint []) (met r mails f (TxElsewhere tx coord hint) h r.me from) f);
    prepare_behind = λ from group ballot from_slot r mails h found low f. absurd h;
    accept_behind = λ from group report r mails h found low f. absurd h;
    ask_behind = λ from group slot r mails h f. state_sent ahead base made heard me older before from r mails f;
    recalls = λ from group asked slot command r mails h e f. learnt_one ahead base made heard me older before from r mails slot command (held_learnt r mails slot command e f) f;
    wants = λ from group slot command r mails h low f. plain_said ahead base made heard me older before from r mails (Ask (name_of r) (next r)) f refl (named_so r mails f) (λ steps mail. tt);
    prepare_nacked = λ from group ballot from_slot r mails h found no f. absurd h;
    accept_nacked = λ from group report r mails h found no f. absurd h;
  }

  abbrev pub group_walk : TableWalk
  group_walk = record { facts = group_facts; hears = group_hears; states = group_states; says = group_says }

  group_ticks : TableTicks group_facts
  group_ticks = record {
    waited = λ waits r mails f. turn ahead base made heard me older before r (record r { waits = waits }) mails f (queued_replica ahead base made (f.newer ++ before) me r r.hint waits r.acts r.backlog f.replica.acts f.replica.backlog f.replica);
    gives_up = λ tx body order got r mails e on no f. act_waits r mails (GiveUp tx) (speaks.gives_up f.replica.whole (logged r mails f) f.replica.log_is.all_made tx body order got (ap (λ (g : Group). g.core.lock) (sym f.replica.log_is.group_is) ∙ e)) f;
    agains = record {
      reminds = λ r mails on f. subst (λ ms. Ok (r, ms)) (sym (puts_reminders r.group.core.lock r.me r.group mails))
          (said r mails (reminders r.group.core.lock r.me r.group []) (subst (λ (g : Group). AreSaid heard (reminders g.core.lock r.me g [])) (sym f.replica.log_is.group_is) (speaks.reminds f.replica.whole (logged r mails f) f.replica.log_is.all_made r.me)) f);
      reasks = λ to slot command r mails on e f. (offered_again ahead base made heard me older before to r mails r.leader.ballot slot command (f.replica.leads on).own (f, flying_offered ahead base made me (f.newer ++ before) slot r command f.replica e)).0;
      relearns = λ to command r mails e f. learnt_one ahead base made heard me older before to r mails (next r - 1) command (held_learnt r mails (next r - 1) command e f) f;
    };
  }

  -- ---- the rows

  -- a mail that asks no acceptor, and the children that it makes
  pub fine_mailed : (mail : Mail) (body : MailBody) (r : ReplicaState) (mails : List Mail) → group_of_mail body ≡ Some base.core.id → AsksNone body → IsTrue ahead base made heard before mail body → Ok (r, mails) → AfterAll group_walk (mailed mail.from body (r, mails))
  fine_mailed mail body r mails into none t f = rows.takes_mail group_walk mail.from body (r, mails) (brought mail body into none t) tt f

  -- an order whose command may be queued where it is taken
  pub fine_ordered_row : (drawer : Drawer) (line : OrderLine) (r : ReplicaState) → (untaken drawer line r ≡ None → made (ordered_command (next_name drawer) line.number line.order)) → (mails : List Mail) → Ok (r, mails) → Ok (ordered_row drawer line (r, mails))
  fine_ordered_row drawer line r m mails f = rows.orders group_walk drawer line (r, mails) tt m f

  -- a tick
  pub fine_tick_row : (on : Bool) (drawer : Drawer) (r : ReplicaState) (mails : List Mail) → MayWish made on drawer r → Ok (r, mails) → Ok (tick_row on drawer (r, mails))
  fine_tick_row on drawer r mails may f = tick.ticks group_walk group_ticks on drawer (r, mails) may f

  -- a replica that is made of a state
  pub fine_made : (own from : ℕ) (group : Draw) (slot : ℕ) (state : Base) (sets : List (List ℕ)) → Ok (installed_replica own slot (named group state) sets, []) → Ok (made_by own from group slot state sets)
  fine_made own from group slot state sets f = rows.makes group_walk own from group slot state sets f

  -- a ballot that is seen
  pub fine_saw : (ballot : Ballot) (place : Place) → Ok place → Ok (saw ballot place)
  fine_saw ballot place f = sees_ballot group_walk ballot place tt f
