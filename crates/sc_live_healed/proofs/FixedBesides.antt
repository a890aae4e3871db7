-- An invariant that is added to what holds of each replica of a group that is not reshaped: that each part of a row keeps it, where the replica is one of such a group.
use Rattle.std.proofs.Common.{◌≡◌, ℕ, ◌+◌, ◌-◌, ◌<◌, ◌≤◌, nat_le, cond, true, false, List, [], ◌∷◌, ◌++◌, length, Some, None}
use Rattle.sc_base.specs.Definitions.{Each}
use Rattle.sc_node_table.specs.Values.{Ballot, Draw, Op, Command, Noop, Call, Base, AnswerBody, Mail, MailBody, Request, Prepare, Promise, Accept, Accepted, Nack, Learn, Ask, Install, Chosen, NotYet, Report}
use Rattle.sc_words.specs.declared.paxos.answers.Must.TheVariants.{Value, Gap}
use Rattle.sc_group_table.specs.machine.MachineDefinitions.{base_of}
use Rattle.sc_words.specs.paxos.PaxosDefinitions.{IsAtLeast, reports_from, after_promise, after_accept, may_promise, may_accept, promise_counted, entry_at, counted, must, below}
use Rattle.sc_node_table.specs.NodeDefinitions.{stopped, offered, answered, answer_to, turned_down, sent, jumped, hinted, refused_at, ReplicaState, Place, name_of, next, taken_at, at_slot, with_slot, queued_number, without_request, flying, settled}
use Rattle.sc_law_walks.specs.WalkDefinitions.{GoesOn}
use Rattle.sc_law_walks.proofs.WalkLemmas.{entered_place, elected_place}
use Rattle.sc_live_healed.specs.HealedDefinitions.{IsFixedBody}
use Rattle.sc_live_healed.proofs.FixedWalks.{IsFresh, IsMember, IsFixedPlace, FixedWalk, FixedTickParts}
use Rattle.sc_live_healed.proofs.FixedPlaces.{fixed_walk, fixed_ticks}

-- What is added: E holds of the replica with its mails, HeardSo of the mail that is heard, and SeenSo of the ballots that are seen.
pub record FixedFacts : Type 1 where
  pub E : Place → Type 0
  pub HeardSo : ℕ → MailBody → Type 0
  pub SeenSo : Ballot → Type 0

module _ (base : Base) (me : ℕ) (x : FixedFacts) where
  abbrev pub F : Place → Type 0
  F place = IsFixedPlace base me place

  abbrev pub E : Place → Type 0
  E place = x.E place

  abbrev pub Hears : ℕ → MailBody → Type 0
  Hears from body = IsFixedBody base from me body × x.HeardSo from body

  abbrev pub Sees : Ballot → Type 0
  Sees ballot = IsMember base ballot.node × x.SeenSo ballot

  -- That each part of a row that is no tick keeps it.
  pub record FixedStates : Type 0 where
    pub prepare_seen : (from : ℕ) (group : Draw) (ballot : Ballot) (from_slot : ℕ) → Hears from (Prepare group ballot from_slot) → x.SeenSo ballot
    pub accept_seen : (from : ℕ) (group : Draw) (ballot : Ballot) (slot : ℕ) (command : Command) → Hears from (Accept group ballot slot command) → x.SeenSo ballot
    pub nack_seen : (from : ℕ) (group : Draw) (promised : Ballot) → Hears from (Nack group promised) → x.SeenSo promised
    -- what is offered at an open slot, and a request that gets no slot
    pub turned : (command : Command) (answer : AnswerBody) (backlog : List Command) (r : ReplicaState) (mails : List Mail) → r.running ≡ true → r.backlog ≡ command ∷ backlog → turned_down r.group.core command ≡ Some answer → F (r, mails) → E (r, mails)
        → E (record r { backlog = backlog }, answered r.me r.group.core.id answer command mails)
    pub offers_value : (slot : ℕ) (set : List ℕ) (command : Command) (r : ReplicaState) (mails : List Mail) → r.running ≡ true → next r ≤ slot → slot < next r + length r.sets → taken_at r slot ≡ None → must slot r.leader ≡ Value command → Each (IsMember base) set → F (r, mails) → E (r, mails) → E (offered slot set command (r, mails))
    pub offers_noop : (slot : ℕ) (set : List ℕ) (r : ReplicaState) (mails : List Mail) → r.running ≡ true → next r ≤ slot → slot < next r + length r.sets → taken_at r slot ≡ None → must slot r.leader ≡ Gap → Each (IsMember base) set → F (r, mails) → E (r, mails) → E (offered slot set Noop (r, mails))
    pub offers_call : (slot : ℕ) (set : List ℕ) (command : Command) (backlog : List Command) (r : ReplicaState) (mails : List Mail) → r.running ≡ true → next r ≤ slot → slot < next r + length r.sets → taken_at r slot ≡ None → r.backlog ≡ command ∷ backlog → Each (IsMember base) set → F (r, mails) → E (r, mails)
        → E (offered slot set command (record r { backlog = backlog }, mails))
    -- entries
    pub counted_entry : (command : Command) (r : ReplicaState) (mails : List Mail) → r.running ≡ true → at_slot r.ready (next r) ≡ Some command → F (r, mails) → E (r, mails) → E (entered_place true command (r, mails))
    pub learnt_entry : (from : ℕ) (group : Draw) (command : Command) (r : ReplicaState) (mails : List Mail) → Hears from (Learn group (next r) command) → F (r, mails) → E (r, mails) → E (entered_place false command (r, mails))
    -- leaders
    pub seen : (ballot : Ballot) (r : ReplicaState) (mails : List Mail) → Sees ballot → below r.top ballot ≡ true → GoesOn ballot r → F (r, mails) → E (r, mails) → E (record r { top = ballot }, mails)
    pub overtaken : (ballot : Ballot) (r : ReplicaState) (mails : List Mail) → Sees ballot → r.running ≡ true → below r.leader.ballot ballot ≡ true → F (r, mails) → E (r, mails) → E (stopped (Some ballot.node) (cond (below r.top ballot) (record r { top = ballot }) r, mails))
    pub polled : (from : ℕ) (group : Draw) (ballot : Ballot) (reports : List (Report Command)) (r : ReplicaState) (mails : List Mail) → r.running ≡ true → Hears from (Promise group ballot reports) → F (r, mails) → E (r, mails) → E (record r { leader = (promise_counted from ballot reports r.leader).1 }, mails)
    pub counts : (from : ℕ) (group : Draw) (ballot : Ballot) (slot : ℕ) (set : List ℕ) (count : ℕ) (r : ReplicaState) (mails : List Mail) → r.running ≡ true → Hears from (Accepted group ballot slot) → (counted from ballot slot set r.leader).0 ≡ NotYet count → F (r, mails) → E (r, mails) → E (record r { leader = (counted from ballot slot set r.leader).1 }, mails)
    pub chosen : (from : ℕ) (group : Draw) (ballot : Ballot) (slot : ℕ) (set : List ℕ) (command : Command) (r : ReplicaState) (mails : List Mail) → r.running ≡ true → Hears from (Accepted group ballot slot) → (counted from ballot slot set r.leader).0 ≡ Chosen command → F (r, mails) → E (r, mails)
        → E (record r { leader = (counted from ballot slot set r.leader).1; ready = with_slot r.ready slot command }, mails)
    -- acceptors
    pub promised : (from : ℕ) (group : Draw) (ballot : Ballot) (from_slot : ℕ) (r : ReplicaState) (mails : List Mail) → Hears from (Prepare group ballot from_slot) → IsAtLeast r.top ballot → GoesOn ballot r → may_promise r.acceptor ballot ≡ true → F (r, mails) → E (r, mails)
        → E (hinted ballot (record r { acceptor = after_promise ballot r.acceptor }), sent r.me from (Promise (name_of r) ballot (reports_from from_slot r.acceptor.accepted)) mails)
    pub accepted : (from : ℕ) (group : Draw) (report : Report Command) (r : ReplicaState) (mails : List Mail) → Hears from (Accept group report.ballot report.slot report.value) → IsAtLeast r.top report.ballot → GoesOn report.ballot r → may_accept r.acceptor report.ballot ≡ true → F (r, mails) → E (r, mails)
        → E (hinted report.ballot (record r { acceptor = after_accept report r.acceptor }), sent r.me from (Accepted (name_of r) report.ballot report.slot) mails)
    pub nacks : (to : ℕ) (r : ReplicaState) (mails : List Mail) → IsMember base to → F (r, mails) → E (r, mails) → E (r, sent r.me to (Nack (name_of r) r.acceptor.promised) mails)
    -- entries and states that are sent
    pub installs : (to : ℕ) (r : ReplicaState) (mails : List Mail) → IsMember base to → F (r, mails) → E (r, mails) → E (r, sent r.me to (Install (name_of r) (next r - 1) (base_of r.group) r.sets) mails)
    pub recalls : (to from_slot slot : ℕ) (group : Draw) (command : Command) (r : ReplicaState) (mails : List Mail) → Hears to (Ask group from_slot) → IsMember base to → entry_at slot r.log ≡ Some command → F (r, mails) → E (r, mails) → E (r, sent r.me to (Learn (name_of r) slot command) mails)
    pub wants : (to slot : ℕ) (group : Draw) (command : Command) (r : ReplicaState) (mails : List Mail) → Hears to (Learn group slot command) → IsMember base to → next r < slot → F (r, mails) → E (r, mails) → E (r, sent r.me to (Ask (name_of r) (next r)) mails)
    -- a state that is taken over
    pub stops : (from : ℕ) (r : ReplicaState) (mails : List Mail) → IsMember base from → r.running ≡ true → F (r, mails) → E (r, mails) → E (stopped (Some from) (r, mails))
    pub jumps : (from : ℕ) (group : Draw) (slot : ℕ) (sent : Base) (sets : List (List ℕ)) (r : ReplicaState) (mails : List Mail) → Hears from (Install group slot sent sets) → next r ≤ slot → r.running ≡ false → F (r, mails) → E (r, mails) → E (record (jumped slot sent sets r) { hint = Some from }, mails)
    -- requests
    pub refuses : (client seq : ℕ) (op : Op) (answer : AnswerBody) (r : ReplicaState) (mails : List Mail) → refused_at r.group.core.gone op r ≡ Some answer → F (r, mails) → E (r, mails) → E (r, answer_to r.me (name_of r) client seq answer mails)
    pub requested : (from : ℕ) (group : Draw) (client seq : ℕ) (op : Op) (r : ReplicaState) (mails : List Mail) → Hears from (Request group client seq op) → refused_at r.group.core.gone op r ≡ None → queued_number r.backlog client ≡ None → F (r, mails) → E (r, mails) → E (record r { backlog = r.backlog ++ Call client seq op ∷ [] }, mails)
    pub requested_again : (from : ℕ) (group : Draw) (client seq other : ℕ) (op : Op) (r : ReplicaState) (mails : List Mail) → Hears from (Request group client seq op) → refused_at r.group.core.gone op r ≡ None → queued_number r.backlog client ≡ Some other → nat_le seq other ≡ false → F (r, mails) → E (r, mails)
        → E (record r { backlog = without_request r.backlog client ++ Call client seq op ∷ [] }, mails)

  -- That ticks keep it.
  pub record FixedTickStates : Type 0 where
    pub elected : (r : ReplicaState) (mails : List Mail) → settled r ≡ false → F (r, mails) → E (r, mails) → E (elected_place (r, mails))
    pub reasks : (to slot : ℕ) (command : Command) (r : ReplicaState) (mails : List Mail) → IsMember base to → r.running ≡ true → flying r slot ≡ Some command → F (r, mails) → E (r, mails) → E (r, sent r.me to (Accept (name_of r) r.leader.ballot slot command) mails)
    pub relearns : (to : ℕ) (command : Command) (r : ReplicaState) (mails : List Mail) → IsMember base to → settled r ≡ true → entry_at (next r - 1) r.log ≡ Some command → F (r, mails) → E (r, mails) → E (r, sent r.me to (Learn (name_of r) (next r - 1) command) mails)

module _ (base : Base) (me : ℕ) (fresh : IsFresh base me) (x : FixedFacts) (t : FixedStates base me x) where
  abbrev pub w : FixedWalk base me
  w = fixed_walk base me fresh

  -- the walk of both
  abbrev pub both_walk : FixedWalk base me
  both_walk = record {
    fresh = fresh;
    First = λ r. Unit {0};
    P = λ place. IsFixedPlace base me place × x.E place;
    Hears = λ from body. IsFixedBody base from me body × x.HeardSo from body;
    Sees = λ ballot. IsMember base ballot.node × x.SeenSo ballot;
    frame = λ place k. k.0;
    heard = λ from body h. h.0;
    prepare_seen = λ from group ballot from_slot h. (w.prepare_seen from group ballot from_slot h.0, t.prepare_seen from group ballot from_slot h);
    accept_seen = λ from group ballot slot command h. (w.accept_seen from group ballot slot command h.0, t.accept_seen from group ballot slot command h);
    nack_seen = λ from group promised h. (w.nack_seen from group promised h.0, t.nack_seen from group promised h);
    turned = λ command answer backlog r mails p0 p1 p2 k. (w.turned command answer backlog r mails p0 p1 p2 k.0, t.turned command answer backlog r mails p0 p1 p2 k.0 k.1);
    offers_value = λ slot set command r mails p0 low p1 p2 p3 p4 k. (w.offers_value slot set command r mails p0 low p1 p2 p3 p4 k.0, t.offers_value slot set command r mails p0 low p1 p2 p3 p4 k.0 k.1);
    offers_noop = λ slot set r mails p0 low p1 p2 gap p3 k. (w.offers_noop slot set r mails p0 low p1 p2 gap p3 k.0, t.offers_noop slot set r mails p0 low p1 p2 gap p3 k.0 k.1);
    offers_call = λ slot set command backlog r mails p0 low p1 p2 p3 p4 k. (w.offers_call slot set command backlog r mails p0 low p1 p2 p3 p4 k.0, t.offers_call slot set command backlog r mails p0 low p1 p2 p3 p4 k.0 k.1);
    counted_entry = λ command r mails p0 p1 k. (w.counted_entry command r mails p0 p1 k.0, t.counted_entry command r mails p0 p1 k.0 k.1);
    learnt_entry = λ from group command r mails p0 first k. (w.learnt_entry from group command r mails p0.0 tt k.0, t.learnt_entry from group command r mails p0 k.0 k.1);
    seen = λ ballot r mails p0 p1 p2 k. (w.seen ballot r mails p0.0 p1 p2 k.0, t.seen ballot r mails p0 p1 p2 k.0 k.1);
    overtaken = λ ballot r mails p0 p1 p2 k. (w.overtaken ballot r mails p0.0 p1 p2 k.0, t.overtaken ballot r mails p0 p1 p2 k.0 k.1);
    polled = λ from group ballot reports r mails p0 p1 k. (w.polled from group ballot reports r mails p0 p1.0 k.0, t.polled from group ballot reports r mails p0 p1 k.0 k.1);
    counts = λ from group ballot slot set count r mails p0 p1 p2 k. (w.counts from group ballot slot set count r mails p0 p1.0 p2 k.0, t.counts from group ballot slot set count r mails p0 p1 p2 k.0 k.1);
    chosen = λ from group ballot slot set command r mails p0 p1 p2 k. (w.chosen from group ballot slot set command r mails p0 p1.0 p2 k.0, t.chosen from group ballot slot set command r mails p0 p1 p2 k.0 k.1);
    promised = λ from group ballot from_slot r mails p0 p1 p2 p3 k. (w.promised from group ballot from_slot r mails p0.0 p1 p2 p3 k.0, t.promised from group ballot from_slot r mails p0 p1 p2 p3 k.0 k.1);
    accepted = λ from group report r mails p0 p1 p2 p3 k. (w.accepted from group report r mails p0.0 p1 p2 p3 k.0, t.accepted from group report r mails p0 p1 p2 p3 k.0 k.1);
    nacks = λ to r mails p0 k. (w.nacks to r mails p0 k.0, t.nacks to r mails p0 k.0 k.1);
    installs = λ to r mails p0 k. (w.installs to r mails p0 k.0, t.installs to r mails p0 k.0 k.1);
    recalls = λ to from_slot slot group command r mails h p0 p1 k. (w.recalls to from_slot slot group command r mails h.0 p0 p1 k.0, t.recalls to from_slot slot group command r mails h p0 p1 k.0 k.1);
    wants = λ to slot group command r mails h p0 p1 k. (w.wants to slot group command r mails h.0 p0 p1 k.0, t.wants to slot group command r mails h p0 p1 k.0 k.1);
    stops = λ from r mails p0 p1 k. (w.stops from r mails p0 p1 k.0, t.stops from r mails p0 p1 k.0 k.1);
    jumps = λ from group slot sent sets r mails p0 p1 p2 k. (w.jumps from group slot sent sets r mails p0.0 p1 p2 k.0, t.jumps from group slot sent sets r mails p0 p1 p2 k.0 k.1);
    refuses = λ from group client seq op answer r mails h p0 k. (w.refuses from group client seq op answer r mails h.0 p0 k.0, t.refuses client seq op answer r mails p0 k.0 k.1);
    requested = λ from group client seq op r mails p0 p1 p2 k. (w.requested from group client seq op r mails p0.0 p1 p2 k.0, t.requested from group client seq op r mails p0 p1 p2 k.0 k.1);
    requested_again = λ from group client seq other op r mails p0 p1 p2 p3 k. (w.requested_again from group client seq other op r mails p0.0 p1 p2 p3 k.0, t.requested_again from group client seq other op r mails p0 p1 p2 p3 k.0 k.1);
  }

  abbrev pub both_ticks : FixedTickStates base me x → FixedTickParts base me (λ place. IsFixedPlace base me place × x.E place)
  both_ticks u = record {
    elected = λ r mails p0 k. ((fixed_ticks base me fresh).elected r mails p0 k.0, u.elected r mails p0 k.0 k.1);
    asks = record {
      reasks = λ to slot command r mails p0 p1 p2 k. ((fixed_ticks base me fresh).asks.reasks to slot command r mails p0 p1 p2 k.0, u.reasks to slot command r mails p0 p1 p2 k.0 k.1);
      relearns = λ to command r mails p0 p1 p2 k. ((fixed_ticks base me fresh).asks.relearns to command r mails p0 p1 p2 k.0, u.relearns to command r mails p0 p1 p2 k.0 k.1);
    };
  }
