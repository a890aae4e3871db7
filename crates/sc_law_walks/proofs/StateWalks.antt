-- An invariant of replicas that says nothing of mail and reads no queue: what it needs, and the walk that it is.
use Rattle.std.proofs.Common.{◌≡◌, ℕ, ◌<◌, ◌+◌, ◌≤◌, cond, true, false, List, Option, Some}
use Rattle.sc_node_table.specs.Values.{Ballot, Command, Base, MailBody, Report}
use Rattle.sc_words.specs.paxos.PaxosDefinitions.{IsAtLeast, after_promise, after_accept, may_promise, may_accept, promise_counted, with_flight_at, without_flight_at, counted, below}
use Rattle.sc_node_table.specs.NodeDefinitions.{entered, jumped, ReplicaState, next, slots_ahead, with_slot, without_slot, born_replica, installed_replica}
use Rattle.sc_law_walks.specs.WalkDefinitions.{GoesOn, IsKept}
use Rattle.sc_law_walks.proofs.Queues.{back_any}
use Rattle.sc_law_walks.proofs.Walks.{Facts, States, Walk, Births, Ticks, Hears, hears_all, unsaid, elected_replica, ended_replica}

pub record StateParts (me : ℕ) (P : ReplicaState → Type 0) : Type 0 where
  pub entered : (command : Command) (r : ReplicaState) → IsKept me r → P r → P (entered command r)
  pub landed : (slot : ℕ) (r : ReplicaState) → P r → P (record r { leader = without_flight_at slot r.leader; ready = without_slot r.ready slot })
  pub jumped : (slot : ℕ) (base : Base) (sets : List (List ℕ)) (r : ReplicaState) → next r ≤ slot → P r → P (jumped slot base sets r)
  pub hinted : (hint : Option ℕ) (r : ReplicaState) → r.running ≡ false → P r → P (record r { hint = hint })
  pub ended : (hint : Option ℕ) (r : ReplicaState) → P r → P (ended_replica hint r)
  pub elected : (r : ReplicaState) → r.me ≡ me → P r → P (elected_replica r)
  pub seen : (ballot : Ballot) (r : ReplicaState) → below r.top ballot ≡ true → GoesOn ballot r → P r → P (record r { top = ballot })
  pub overtaken : (ballot : Ballot) (r : ReplicaState) → r.running ≡ true → below r.leader.ballot ballot ≡ true → P r → P (ended_replica (Some ballot.node) (cond (below r.top ballot) (record r { top = ballot }) r))
  pub polled : (from : ℕ) (ballot : Ballot) (reports : List (Report Command)) (r : ReplicaState) → r.running ≡ true → P r → P (record r { leader = (promise_counted from ballot reports r.leader).1 })
  pub counts : (from : ℕ) (ballot : Ballot) (slot : ℕ) (set : List ℕ) (r : ReplicaState) → r.running ≡ true → P r → P (record r { leader = (counted from ballot slot set r.leader).1 })
  pub readied : (slot : ℕ) (command : Command) (r : ReplicaState) → r.running ≡ true → P r → P (record r { ready = with_slot r.ready slot command })
  pub promised : (ballot : Ballot) (r : ReplicaState) → IsAtLeast r.top ballot → may_promise r.acceptor ballot ≡ true → P r → P (record r { acceptor = after_promise ballot r.acceptor })
  pub accepted : (report : Report Command) (r : ReplicaState) → IsAtLeast r.top report.ballot → may_accept r.acceptor report.ballot ≡ true → P r → P (record r { acceptor = after_accept report r.acceptor })
  pub flown : (slot : ℕ) (command : Command) (r : ReplicaState) → r.running ≡ true → slot < next r + slots_ahead → P r → P (record r { leader = with_flight_at slot command r.leader })
  pub queues : (r : ReplicaState) (acts backlog : List Command) → P r → P (record r { acts = acts; backlog = backlog })
  pub waited : (waits : ℕ) (r : ReplicaState) → P r → P (record r { waits = waits })

-- where an invariant that says nothing of mail begins
pub record StateBirths (me : ℕ) (P : ReplicaState → Type 0) : Type 0 where
  pub born : (base : Base) → P (born_replica slots_ahead me base)
  pub made : (slot : ℕ) (base : Base) (sets : List (List ℕ)) → P (installed_replica me slot base sets)

module _ (me : ℕ) (P : ReplicaState → Type 0) (parts : StateParts me P) where
  abbrev pub state_facts : Facts
  state_facts = record {
    me = me;
    Early = λ r. P r;
    Late = λ r. P r;
    Says = λ to body. Unit {0};
    Round = λ ballot. Unit {0};
    Entry = λ slot command. Unit {0};
    Voted = λ slot. Unit {0};
    State = λ slot base. Unit {0};
    Polled = λ ballot. Unit {0};
    Behind = λ slot. Unit {0};
    Found = λ command. Unit {0};
  }

  abbrev pub state_states : States state_facts
  state_states = record {
    late = λ r k. k;
    again = λ r command on e k. (k, tt);
    entered = λ command r kept good k. parts.entered command r kept k;
    landed = λ slot r k. parts.landed slot r k;
    jumped = λ slot base sets r many good later k. parts.jumped slot base sets r later k;
    hinted = λ hint r off k. parts.hinted hint r off k;
    ended = λ hint r k. parts.ended hint r k;
    elected = λ r same k. parts.elected r same k;
    seen = λ ballot r good t on k. parts.seen ballot r t on k;
    overtaken = λ ballot r good on t k. parts.overtaken ballot r on t k;
    polled = λ from ballot reports r on good k. parts.polled from ballot reports r on k;
    counts = λ from ballot slot set r on k. parts.counts from ballot slot set r on k;
    chosen = λ from ballot slot set command r e good k. tt;
    readied = λ slot command r on good k. parts.readied slot command r on k;
    promised = λ ballot r good top t k. parts.promised ballot r top t k;
    accepted = λ report r good top t k. parts.accepted report r top t k;
    back = λ command r on k. back_any P parts.queues command r k;
    filed = λ act r on good f k. parts.queues r _ r.backlog k;
    ordered = λ order r on good k. parts.queues r r.acts _ k;
    requested = λ client seq op r on e k. parts.queues r r.acts _ k;
    requested_again = λ client seq other op r on e f k. parts.queues r r.acts _ k;
    unfiled = λ act acts r on e k. parts.queues r acts r.backlog k;
    uncalled = λ command backlog r on e k. parts.queues r r.acts backlog k;
    must_found = λ slot command r e k. tt;
    noop_found = tt;
    act_found = λ act acts r e k. tt;
    call_found = λ command backlog r e k. tt;
    flown = λ slot command r on near good k. parts.flown slot command r on near k;
  }

  abbrev pub state_walk : Walk
  state_walk = record { facts = state_facts; states = state_states; mails = unsaid state_facts (λ to body. tt) }

  abbrev pub state_births : StateBirths me P → Births state_facts
  state_births begins = record { born = λ base. begins.born base; made = λ slot base sets many good. begins.made slot base sets; wants_all = λ to group. tt }

  abbrev pub state_ticks : Ticks state_facts
  state_ticks = record { waited = λ waits r k. parts.waited waits r k; gives_up = λ tx r on f k. parts.queues r _ r.backlog k; reasks = λ to slot command r same on e k. tt; relearns = λ to command r e k. tt }

  -- any mail is heard
  pub state_hears : (body : MailBody) → Hears state_walk body
  state_hears body = hears_all state_walk (λ ballot. (tt, tt)) (λ slot command. tt) (λ slot. (tt, tt)) body (λ group slot base sets e. (tt, tt))
