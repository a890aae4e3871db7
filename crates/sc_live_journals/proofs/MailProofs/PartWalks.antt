-- An invariant of the parts of a replica that are no queues is a walk: what waits, whether it runs and whom it follows is nothing to it, and no transaction has waited for a tick.
use Rattle.std.proofs.Common.{◌≡◌, ℕ, ◌+◌, ◌≤◌, cond, List, Some, refl, sym, subst}
use Rattle.sc_base.specs.Definitions.{Each, Drawer, is_member}
use Rattle.sc_node_table.specs.Values.{Ballot, Draw, Command, Base, Lock, Free, Coordinating, Promised, Watching, Mail, MailBody, OrderLine, Prepare, Install, Input}
use Rattle.std.proofs.lemmas.Bool.{cond_both}
use Rattle.sc_group_table.specs.machine.MachineDefinitions.{applied}
use Rattle.sc_words.specs.paxos.PaxosDefinitions.{below}
use Rattle.sc_law_walks.proofs.Walks.{ended_replica}
use Rattle.sc_node_table.specs.NodeDefinitions.{entered, named, jumped, forgotten, ReplicaState, Place, Executed, name_of, next, waits_in, installed_replica, mailed, ordered_row, looked, looked_up, members, NodeState, node_table}
use Rattle.sc_words.proofs.PaxosProofs.PaxosLemmas.{Each-weaker}
use Rattle.sc_law_walks.specs.WalkDefinitions.{IsKept}
use Rattle.sc_law_walks.proofs.WalkLemmas.{Facts, States, Mails, Walk, Births, Sends as SendsBy, AreSaid as AreSaidBy, Hears as Heard, hears_all as heard_all, back_any, either_way}
use Rattle.sc_law_walks.proofs.WalkParts as row_parts
use Rattle.sc_law_walks.proofs.WalkRows as rows
use Rattle.sc_law_walks.proofs.WalkNodes as nodes
use Rattle.sc_live_journals.specs.mail.MailDefinitions.{IsPlainlyKept}
use Rattle.sc_live_journals.proofs.MailProofs.Walks.{PartWalk, PartBirths, Part, part, elected_part}

-- no transaction begins to wait but by a tick
pub none_waits : (lock : Lock) (waits : ℕ) → waits ≡ 0 → waits_in lock waits ≡ 0
none_waits Free waits e = refl
none_waits (Coordinating tx body order heard) waits e = e
none_waits (Promised tx offer) waits e = e
none_waits (Watching tx watch) waits e = e

module _ (w : PartWalk) where
  -- what holds of the parts, where nothing has waited
  abbrev pub At : (Part → Type 0) → ReplicaState → Type 0
  At P r = (r.waits ≡ 0) × P (part r)

  abbrev pub part_facts : Facts
  part_facts = record {
    me = w.me;
    Early = λ r. At w.Early r;
    Late = λ r. At w.Late r;
    Says = λ to body. w.Says to body;
    Round = λ ballot. w.Round ballot;
    Entry = λ slot command. w.Slot slot;
    Voted = λ slot. w.Slot slot;
    State = λ slot base. w.State slot base;
    Polled = λ ballot. w.Polled ballot;
    Behind = λ slot. w.Behind slot;
    Found = λ command. Unit {0};
  }

  pub entered_at : (command : Command) (r : ReplicaState) → w.Slot (next r) → At w.Early r → At w.Early (entered command r)
  unfolding entered forgotten
  entered_at command r low k = (none_waits (applied r.group command).0.core.lock r.waits k.0, w.entered command (part r) low k.1)

  pub jumped_at : (slot : ℕ) (base : Base) (sets : List (List ℕ)) (r : ReplicaState) → w.State slot base → next r ≤ slot → At w.Early r → At w.Early (jumped slot base sets r)
  unfolding jumped forgotten
  jumped_at slot base sets r good later k = (none_waits base.core.lock r.waits k.0, w.jumped slot base (part r) good later k.1)

  pub stops_at : (ballot : Ballot) (r : ReplicaState) → w.Round ballot → At w.Early r → At w.Early (ended_replica (Some ballot.node) (cond (below r.top ballot) (record r { top = ballot }) r))
  stops_at ballot r good k =
      cond_both (below r.top ballot) (record r { top = ballot }) r (λ (x : ReplicaState). At w.Early (ended_replica (Some ballot.node) x))
      (λ t. (k.0, w.ended (part (record r { top = ballot })) (w.seen ballot (part r) good t k.1))) (λ _. (k.0, w.ended (part r) k.1))

  pub polls_at : (to : ℕ) (r : ReplicaState) → r.me ≡ w.me → At w.Early r → w.Says to (Prepare (name_of r) (record { round = r.top.round + 1; node = r.me }) (next r))
  polls_at to r same k = subst (λ m. w.Says to (Prepare (name_of r) (record { round = r.top.round + 1; node = m }) (next r))) (sym same) (w.polls to (part r) k.1)

  abbrev pub part_states : States part_facts
  part_states = record {
    late = λ r k. (k.0, w.late (part r) k.1);
    again = λ r command on e k. (let a = w.again (part r) command e k.1 in ((k.0, a.0), a.1));
    entered = λ command r base low k. entered_at command r low k;
    landed = λ slot r k. (k.0, w.landed slot (part r) k.1);
    jumped = λ slot base sets r many good later k. jumped_at slot base sets r good later k;
    hinted = λ hint r off k. k;
    ended = λ hint r k. (k.0, w.ended (part r) k.1);
    elected = λ r same k. (refl, subst (λ m. w.Late (elected_part m (part r))) (sym same) (w.elected (part r) k.1));
    seen = λ ballot r good t on k. (k.0, w.seen ballot (part r) good t k.1);
    overtaken = λ ballot r good on t k. stops_at ballot r good k;
    polled = λ from ballot reports r on good k. (k.0, w.polled from ballot reports (part r) good k.1);
    counts = λ from ballot slot set r on k. (k.0, w.counts from ballot slot set (part r) k.1);
    chosen = λ from ballot slot set command r e low k. low;
    readied = λ slot command r on low k. (k.0, w.readied slot command (part r) low k.1);
    promised = λ ballot r good top t k. (k.0, w.promised ballot (part r) good k.1);
    accepted = λ report r good top t k. (k.0, w.accepted report (part r) good k.1);
    back = λ command r on k. back_any (At w.Early) (λ x acts backlog p. p) command r k;
    filed = λ act r on good f k. k;
    ordered = λ order r on good k. k;
    requested = λ client seq op r on e k. k;
    requested_again = λ client seq other op r on e f k. k;
    unfiled = λ act acts r on e k. k;
    uncalled = λ command backlog r on e k. k;
    must_found = λ slot command r e k. tt;
    noop_found = tt;
    act_found = λ act acts r e k. tt;
    call_found = λ command backlog r e k. tt;
    flown = λ slot command r on near good k. (k.0, w.flown slot command (part r) near k.1);
  }

  abbrev pub part_mails : Mails part_facts
  part_mails = record {
    tells = λ number result. w.tells number result;
    answers = λ client group seq answer. w.answers client group seq answer;
    asks = λ to slot command r same on near good k. w.asks to slot command (part r) near k.1;
    polls = λ to r same k. polls_at to r same k;
    repolls = λ to r same on k. w.repolls to (part r) k.1;
    installs = λ to r k. w.installs to r.sets (part r) k.1;
    teaches = λ to slot command group low. w.teaches to slot command group low;
    recalls = λ to slot command r e k. w.recalls to slot command (part r) e k.1;
    wants = λ to slot r behind low k. w.wants to slot (part r) behind low k.1;
    promises = λ to ballot from_slot r good polled k. w.promises to ballot from_slot (part r) good polled k.1;
    votes = λ to ballot slot command group good low. w.votes to ballot slot group good low;
    nacks = λ to r k. w.nacks to (part r) k.1;
    offers = λ to tx offer own. w.offers to tx offer own;
    watches = λ to tx watch own. w.watches to tx watch own;
    casts = λ to tx coord part vote. w.casts to tx coord part vote;
    sees = λ to tx coord part vote. w.sees to tx coord part vote;
    ends = λ to tx part outcome. w.ends to tx part outcome;
    sends_on = λ to tx coord hint. w.sends_on to tx coord hint;
  }

  abbrev pub part_walk : Walk
  part_walk = record { facts = part_facts; states = part_states; mails = part_mails }

  pub made_at : PartBirths w → (slot : ℕ) (base : Base) (sets : List (List ℕ)) → w.State slot base → At w.Early (installed_replica w.me slot base sets)
  unfolding forgotten
  made_at b slot base sets good = (refl, b.made slot base good)

  abbrev pub part_births : PartBirths w → Births part_facts
  part_births b = record { born = λ base. (refl, b.born base); made = λ slot base sets many good. made_at b slot base sets good; wants_all = λ to group. b.wants_all to group }

  -- ---- a replica before it has elected itself in a row, and after

  abbrev pub Sends : Mail → Type 0
  Sends = SendsBy part_walk

  abbrev pub AreSaid : List Mail → Type 0
  AreSaid = AreSaidBy part_walk

  abbrev pub EarlyAt : ReplicaState → Type 0
  EarlyAt r = IsPlainlyKept w.me r × w.Early (part r)

  abbrev pub LateAt : ReplicaState → Type 0
  LateAt r = IsPlainlyKept w.me r × w.Late (part r)

  abbrev pub Before : Place → Type 0
  Before place = EarlyAt place.0 × AreSaid place.1

  abbrev pub After : Place → Type 0
  After place = LateAt place.0 × AreSaid place.1

  abbrev pub AfterAll : Executed → Type 0
  AfterAll step = After step.0

  abbrev pub Hears : MailBody → Type 0
  Hears body = Heard part_walk body

  pub hears_all : ((ballot : Ballot) → w.Round ballot × w.Polled ballot) → ((slot : ℕ) → w.Slot slot × w.Behind slot) → (body : MailBody)
      → ((group : Draw) (slot : ℕ) (base : Base) (sets : List (List ℕ)) → body ≡ Install group slot base sets → w.State slot base × w.State slot (named group base)) → Hears body
  hears_all rounds slots body states = heard_all part_walk rounds (λ slot command. (slots slot).0) slots body states

  -- a replica as the law of the parts has it is one as the walk has it
  to_walk : (P : Part → Type 0) (r : ReplicaState) → IsPlainlyKept w.me r × P (part r) → IsKept w.me r × At P r
  to_walk P r k = ((k.0.0, k.0.1, (k.0.2.0, k.0.2.2, k.0.2.3)), (k.0.2.1, k.1))

  from_walk : (P : Part → Type 0) (r : ReplicaState) → IsKept w.me r × At P r → IsPlainlyKept w.me r × P (part r)
  from_walk P r k = ((k.0.0, k.0.1, (k.0.2.0, k.1.0, k.0.2.1, k.0.2.2)), k.1.1)

  -- ---- what it keeps

  pub takes_mail : (from : ℕ) (body : MailBody) (place : Place) → Hears body → Before place → AfterAll (mailed from body place)
  takes_mail from body place h k = (let l = rows.takes_mail part_walk from body place h (to_walk w.Early place.0 k.0, k.1) in (from_walk w.Late (mailed from body place).0.0 l.0, l.1))

  pub orders : (drawer : Drawer) (line : OrderLine) (place : Place) → Before place → After (ordered_row drawer line place)
  orders drawer line place k = (let l = rows.orders part_walk drawer line place (to_walk w.Early place.0 k.0, k.1) in (from_walk w.Late (ordered_row drawer line place).0 l.0, l.1))

  pub looks_up : (from : ℕ) (place : Place) → Before place → After (looked_up from place)
  unfolding looked_up
  looks_up from (r, mails) k =
      let l = row_parts.looks part_walk (r, mails) (to_walk w.Early r k.0, k.1) in
      either_way After (is_member (members r) from) (record r { hint = Some from }, mails) (looked (r, mails)) ((k.0.0, w.late (part r) k.0.1), k.1) (from_walk w.Late (looked (r, mails)).0 l.0, l.1)

  -- ---- nodes

  module _ (b : PartBirths w) where
    abbrev pub Starts : NodeState → Type 0
    Starts node = (node.me ≡ w.me) × Each EarlyAt node.replicas

    abbrev pub Stands : NodeState → Type 0
    Stands node = (node.me ≡ w.me) × Each LateAt node.replicas

    abbrev pub Step : NodeState × List Mail → Type 0
    Step step = Stands step.0 × AreSaid step.1

    abbrev pub Given : Input Mail OrderLine → Type 0
    Given input = nodes.Given part_walk (part_births b) input

    pub input_step : (node : NodeState) (input : Input Mail OrderLine) → Given input → Starts node → Step (node_table node input)
    input_step node input h k =
        let early = Each-weaker EarlyAt (λ (r : ReplicaState). IsKept w.me r × At w.Early r) (λ r e. to_walk w.Early r e) node.replicas k.1 in
        let l = nodes.input_step part_walk (part_births b) node input h (k.0, early) in
        ((l.0.0, Each-weaker (λ (r : ReplicaState). IsKept w.me r × At w.Late r) LateAt (λ r e. from_walk w.Late r e) (node_table node input).0.replicas l.0.1), l.1)
