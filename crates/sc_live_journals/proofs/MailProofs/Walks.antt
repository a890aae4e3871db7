-- What a law says of replicas and of the mail that they send, as one walk through their table takes it: what it is that holds before a row and after it, and that each part of a row keeps it.
use Rattle.std.proofs.Common.{◌≡◌, ℕ, ◌+◌, ◌-◌, ◌<◌, ◌≤◌, true, List, [], Option, Some}
use Rattle.sc_base.specs.Definitions.{Each, client_actor}
use Rattle.sc_node_table.specs.Values.{Ballot, Draw, Offer, Watch, Command, Base, OrderResult, Outcome, Past, Vote, AnswerBody, MailBody, Answer, Prepare, Promise, Accept, Accepted, Nack, Learn, Ask, Install, TxPrepare, TxVote, TxOutcome, TxElsewhere, TxWatch, TxWatched, Told, Report}
use Rattle.sc_group_table.specs.machine.MachineDefinitions.{Group, group_of, base_of, applied}
use Rattle.sc_words.specs.paxos.PaxosDefinitions.{AcceptorState, born_acceptor, reports_from, after_promise, after_accept, after_cut, below, LeaderState, first_leader, new_leader, promise_counted, with_flight_at, without_flight_at, LogState, empty_log, installed, entry_at, log_cut, next_of, counted}
use Rattle.sc_node_table.specs.NodeDefinitions.{with_entry, named, ReplicaState, first_ballot, floor_of, slots_ahead, at_slot, with_slot, without_slot}
use Rattle.sc_law_walks.proofs.WalkLemmas.{IsReported as Reported}

-- what of a replica such a law speaks of: all but what waits, whether it runs and whom it takes for the leader
pub record Part : Type 0 where
  pub group : Group
  pub log : LogState Command
  pub acceptor : AcceptorState Command
  pub top : Ballot
  pub leader : LeaderState Command
  pub ready : List (ℕ × Command)

abbrev pub part : ReplicaState → Part
part r = record { group = r.group; log = r.log; acceptor = r.acceptor; top = r.top; leader = r.leader; ready = r.ready }

-- the slot after the last executed one, and the group's name
abbrev pub next_in : Part → ℕ
next_in p = next_of p.log

abbrev pub named_in : Part → Draw
named_in p = p.group.core.id

-- at a group's birth, and as a state is taken
abbrev pub born_part : Base → Part
born_part base = record { group = group_of base; log = empty_log; acceptor = born_acceptor (first_ballot base.core); top = first_ballot base.core; leader = first_leader (first_ballot base.core); ready = [] }

-- what is not above a slot's floor is forgotten
abbrev pub cut_part : ℕ → Part → Part
cut_part last p = record p { log = log_cut (floor_of last) p.log; acceptor = after_cut (floor_of last) p.acceptor }

abbrev pub entered_part : Command → Part → Part
entered_part command p = cut_part (next_in p) (record p { group = (applied p.group command).0; log = with_entry command p.log })

abbrev pub jumped_part : ℕ → Base → Part → Part
jumped_part slot base p = cut_part slot (record p { group = group_of (named (named_in p) base); log = installed slot })

abbrev pub elected_part : ℕ → Part → Part
elected_part me p =
    let ballot : Ballot = record { round = p.top.round + 1; node = me } in
    record p { top = ballot; leader = new_leader ballot (next_in p); ready = [] }

-- a report of a ballot and a slot that hold
abbrev pub IsReported : (Ballot → Type 0) → (ℕ → Type 0) → Report Command → Type 0
IsReported Round Slot = Reported Round (λ slot command. Slot slot)

-- One law: what holds of a replica while it has not elected itself in a row, and after it; of what it says to whom; and of the ballots, slots and states in its mail. The rest is what a row may do.
pub record PartWalk : Type 1 where
  pub me : ℕ
  pub Early : Part → Type 0
  pub Late : Part → Type 0
  pub Says : ℕ → MailBody → Type 0
  pub Round : Ballot → Type 0
  pub Slot : ℕ → Type 0
  pub State : ℕ → Base → Type 0
  -- what holds of a ballot that it is asked to promise, and of a slot before its own whose entry it is sent
  pub Polled : Ballot → Type 0
  pub Behind : ℕ → Type 0
  -- what it becomes
  pub late : (p : Part) → Early p → Late p
  pub again : (p : Part) (command : Command) → at_slot p.ready (next_in p) ≡ Some command → Late p → Early p × Slot (next_in p)
  pub entered : (command : Command) (p : Part) → Slot (next_in p) → Early p → Early (entered_part command p)
  pub landed : (slot : ℕ) (p : Part) → Early p → Early (record p { leader = without_flight_at slot p.leader; ready = without_slot p.ready slot })
  pub ended : (p : Part) → Early p → Early (record p { leader = new_leader p.leader.ballot (next_in p); ready = [] })
  pub elected : (p : Part) → Early p → Late (elected_part me p)
  pub seen : (ballot : Ballot) (p : Part) → Round ballot → below p.top ballot ≡ true → Early p → Early (record p { top = ballot })
  pub promised : (ballot : Ballot) (p : Part) → Round ballot → Early p → Early (record p { acceptor = after_promise ballot p.acceptor })
  pub accepted : (report : Report Command) (p : Part) → IsReported Round Slot report → Early p → Early (record p { acceptor = after_accept report p.acceptor })
  pub jumped : (slot : ℕ) (base : Base) (p : Part) → State slot base → next_in p ≤ slot → Early p → Early (jumped_part slot base p)
  pub readied : (slot : ℕ) (command : Command) (p : Part) → Slot slot → Early p → Early (record p { ready = with_slot p.ready slot command })
  pub polled : (from : ℕ) (ballot : Ballot) (reports : List (Report Command)) (p : Part) → Each (IsReported Round Slot) reports → Early p → Early (record p { leader = (promise_counted from ballot reports p.leader).1 })
  pub counts : (from : ℕ) (ballot : Ballot) (slot : ℕ) (set : List ℕ) (p : Part) → Early p → Early (record p { leader = (counted from ballot slot set p.leader).1 })
  pub flown : (slot : ℕ) (command : Command) (p : Part) → slot < next_in p + slots_ahead → Late p → Late (record p { leader = with_flight_at slot command p.leader })
  -- what it says
  pub tells : (number : ℕ) (result : OrderResult) → Says 0 (Told number result)
  pub answers : (client : ℕ) (group : Draw) (seq : ℕ) (answer : AnswerBody) → Says (client_actor client) (Answer group seq answer)
  pub asks : (to slot : ℕ) (command : Command) (p : Part) → slot < next_in p + slots_ahead → Late p → Says to (Accept (named_in p) p.leader.ballot slot command)
  pub polls : (to : ℕ) (p : Part) → Early p → Says to (Prepare (named_in p) (record { round = p.top.round + 1; node = me }) (next_in p))
  pub repolls : (to : ℕ) (p : Part) → Early p → Says to (Prepare (named_in p) p.leader.ballot (next_in p))
  pub installs : (to : ℕ) (sets : List (List ℕ)) (p : Part) → Early p → Says to (Install (named_in p) (next_in p - 1) (base_of p.group) sets)
  pub teaches : (to slot : ℕ) (command : Command) (group : Draw) → Slot slot → Says to (Learn group slot command)
  pub recalls : (to slot : ℕ) (command : Command) (p : Part) → entry_at slot p.log ≡ Some command → Early p → Says to (Learn (named_in p) slot command)
  pub wants : (to slot : ℕ) (p : Part) → Behind slot → next_in p < slot → Early p → Says to (Ask (named_in p) (next_in p))
  pub promises : (to : ℕ) (ballot : Ballot) (from_slot : ℕ) (p : Part) → Round ballot → Polled ballot → Early p → Says to (Promise (named_in p) ballot (reports_from from_slot p.acceptor.accepted))
  pub votes : (to : ℕ) (ballot : Ballot) (slot : ℕ) (group : Draw) → Round ballot → Slot slot → Says to (Accepted group ballot slot)
  pub nacks : (to : ℕ) (p : Part) → Early p → Says to (Nack (named_in p) p.acceptor.promised)
  pub offers : (to : ℕ) (tx : Draw) (offer : Offer) → offer.by ≡ me → Says to (TxPrepare tx offer)
  pub watches : (to : ℕ) (tx : Draw) (watch : Watch) → watch.by ≡ me → Says to (TxWatch tx watch)
  pub casts : (to : ℕ) (tx coord part : Draw) (vote : Vote) → Says to (TxVote tx coord part vote)
  pub sees : (to : ℕ) (tx coord part : Draw) (vote : Past) → Says to (TxWatched tx coord part vote)
  pub ends : (to : ℕ) (tx part : Draw) (outcome : Outcome) → Says to (TxOutcome tx part outcome)
  pub sends_on : (to : ℕ) (tx coord : Draw) (hint : Option ℕ) → Says to (TxElsewhere tx coord hint)

-- it is so at a group's birth, and where a replica is made of a state
pub record PartBirths (w : PartWalk) : Type 0 where
  pub born : (base : Base) → w.Late (born_part base)
  pub made : (slot : ℕ) (base : Base) → w.State slot base → w.Early (cut_part slot (record (born_part base) { log = installed slot }))
  -- what is asked for where there is no replica
  pub wants_all : (to : ℕ) (group : Draw) → w.Says to (Ask group 0)
