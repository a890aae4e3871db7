-- What holds of each GiveUp that stands at a replica is kept by the parts of its state.
use Rattle.std.proofs.Common.{ℕ, ◌-◌, nat_lt, List, Option}
use Rattle.sc_base.specs.Definitions.{Each}
use Rattle.sc_node_table.specs.Values.{Ballot, Draw, Command, Noop, Call, Join, Leave, Split, Begin, Prepared, RecordVote, GiveUp, Finish, Watched, RecordWatch, Flight, Report, MailBody, Request, Answer, Prepare, Promise, Accept, Accepted, Nack, Learn, Ask, Install, TxPrepare, TxVote, TxOutcome, TxElsewhere, TxWatch, TxWatched, Told}
use Rattle.sc_words.proofs.PaxosProofs.PaxosLemmas.{Each-filter}
use Rattle.sc_words.specs.paxos.PaxosDefinitions.{AcceptorState, LeaderState, promise_counted, entry_at, counted, without_flight_at}
use Rattle.sc_node_table.specs.NodeDefinitions.{ReplicaState, floor_of, forgotten, with_slot, without_slot, put_back}
use Rattle.sc_law_entries.specs.names.NameDefinitions.{Opt}
use Rattle.sc_law_entries.proofs.NamesProofs.EachFound.{opt_get, Each-drop, slot_with, slot_without, flight_without}
use Rattle.sc_law_walks.proofs.WalkLemmas.{either_way, back_any}
use Rattle.sc_law_walks.specs.WalkDefinitions.{IsFiledOnMail, IsOrder}
use Rattle.sc_law_entries.proofs.NamesProofs.HeldCommands as held

-- a command, where it is a GiveUp, is of a transaction as W says
abbrev pub Gives : (Draw → Type 0) → Command → Type 0
Gives W (GiveUp tx) = W tx
Gives W Noop = Unit {0}
Gives W (Call client seq op) = Unit {0}
Gives W (Join node order) = Unit {0}
Gives W (Leave node order) = Unit {0}
Gives W (Split at child order) = Unit {0}
Gives W (Begin tx body order) = Unit {0}
Gives W (Prepared tx offer) = Unit {0}
Gives W (RecordVote tx vote by) = Unit {0}
Gives W (Finish tx outcome) = Unit {0}
Gives W (Watched tx watch) = Unit {0}
Gives W (RecordWatch tx vote by) = Unit {0}

-- each GiveUp in a mail is of a transaction as F says of the mail's group
abbrev pub MailGives : (Draw → Draw → Type 0) → MailBody → Type 0
MailGives F (Accept group ballot slot command) = Gives (F group) command
MailGives F (Learn group slot command) = Gives (F group) command
MailGives F (Promise group ballot reports) = Each (λ (report : Report Command). Gives (F group) report.value) reports
MailGives F (Request group client seq op) = Unit {0}
MailGives F (Answer group seq answer) = Unit {0}
MailGives F (Prepare group ballot from_slot) = Unit {0}
MailGives F (Accepted group ballot slot) = Unit {0}
MailGives F (Nack group promised) = Unit {0}
MailGives F (Ask group from_slot) = Unit {0}
MailGives F (Install group slot base sets) = Unit {0}
MailGives F (TxPrepare tx offer) = Unit {0}
MailGives F (TxVote tx coord part vote) = Unit {0}
MailGives F (TxOutcome tx part outcome) = Unit {0}
MailGives F (TxElsewhere tx coord hint) = Unit {0}
MailGives F (TxWatch tx watch) = Unit {0}
MailGives F (TxWatched tx coord part vote) = Unit {0}
MailGives F (Told order result) = Unit {0}

module _ (W : Draw → Type 0) where
  abbrev pub Commands : List Command → Type 0
  Commands commands = held.Commands (Gives W) commands

  abbrev pub Maybe : Option Command → Type 0
  Maybe o = Opt (Gives W) o

  abbrev pub Flights : List (Flight Command) → Type 0
  Flights flights = held.Flights (Gives W) flights

  abbrev pub Reports : List (Report Command) → Type 0
  Reports reports = held.Reports (Gives W) reports

  abbrev pub Ready : List (ℕ × Command) → Type 0
  Ready ready = held.Ready (Gives W) ready

  -- so is each GiveUp that stands at a replica
  pub record Holds (r : ReplicaState) : Type 0 where
    pub backlog : Commands r.backlog
    pub acts : Commands r.acts
    pub flights : Flights r.leader.flights
    pub ready : Ready r.ready
    pub reports : Reports r.leader.reports
    pub accepted : Reports r.acceptor.accepted
    pub log : Commands r.log.entries

  -- in its queues, with its leader, and ready
  pub held_gives : (r : ReplicaState) → Holds r → held.Held (Gives W) r
  held_gives r h = (h.backlog, h.acts, h.flights, h.reports, h.ready)

  -- what a mail makes a replica queue is no GiveUp, and neither is an order
  pub filed_gives : (act : Command) → IsFiledOnMail act → Gives W act
  filed_gives (GiveUp tx) q = absurd q
  filed_gives Noop q = tt
  filed_gives _ q = tt

  pub order_gives : (order : Command) → IsOrder order → Gives W order
  order_gives (GiveUp tx) q = absurd q
  order_gives Noop q = tt
  order_gives _ q = tt

  -- ---- parts that hold no command

  pub with_top : (r : ReplicaState) (top : Ballot) → Holds r → Holds (record r { top = top })
  with_top r top h = record { backlog = h.backlog; acts = h.acts; flights = h.flights; ready = h.ready; reports = h.reports; accepted = h.accepted; log = h.log }

  pub with_hint : (r : ReplicaState) (hint : Option ℕ) → Holds r → Holds (record r { hint = hint })
  with_hint r hint h = record { backlog = h.backlog; acts = h.acts; flights = h.flights; ready = h.ready; reports = h.reports; accepted = h.accepted; log = h.log }

  pub with_waits : (r : ReplicaState) (waits : ℕ) → Holds r → Holds (record r { waits = waits })
  with_waits r waits h = record { backlog = h.backlog; acts = h.acts; flights = h.flights; ready = h.ready; reports = h.reports; accepted = h.accepted; log = h.log }

  -- ---- queues

  pub with_calls : (r : ReplicaState) (commands : List Command) → Commands commands → Holds r → Holds (record r { backlog = commands })
  with_calls r commands c h = record { backlog = c; acts = h.acts; flights = h.flights; ready = h.ready; reports = h.reports; accepted = h.accepted; log = h.log }

  pub with_acts : (r : ReplicaState) (commands : List Command) → Commands commands → Holds r → Holds (record r { acts = commands })
  with_acts r commands a h = record { backlog = h.backlog; acts = a; flights = h.flights; ready = h.ready; reports = h.reports; accepted = h.accepted; log = h.log }

  pub back_gives : (command : Command) (r : ReplicaState) → Gives W command → Holds r → Holds (put_back command r)
  back_gives command r c h =
      let put = held.back_held (Gives W) command r c (held_gives r h) in
      let rest = back_any (λ (s : ReplicaState). Reports s.acceptor.accepted × Commands s.log.entries) (λ s acts backlog k. k) command r (h.accepted, h.log) in
      record { backlog = put.0; acts = put.1; flights = put.2; ready = put.4; reports = put.3; accepted = rest.0; log = rest.1 }

  -- ---- leaders

  pub with_leader : (r : ReplicaState) (leader : LeaderState Command) → Reports leader.reports → Flights leader.flights → Holds r → Holds (record r { leader = leader })
  with_leader r leader p f h = record { backlog = h.backlog; acts = h.acts; flights = f; ready = h.ready; reports = p; accepted = h.accepted; log = h.log }

  pub with_ready : (r : ReplicaState) (slot : ℕ) (command : Command) → Gives W command → Holds r → Holds (record r { ready = with_slot r.ready slot command })
  with_ready r slot command c h = record { backlog = h.backlog; acts = h.acts; flights = h.flights; ready = slot_with (Gives W) r.ready slot command c h.ready; reports = h.reports; accepted = h.accepted; log = h.log }

  pub landed_gives : (slot : ℕ) (r : ReplicaState) → Holds r → Holds (record r { leader = without_flight_at slot r.leader; ready = without_slot r.ready slot })
  landed_gives slot r h = record { backlog = h.backlog; acts = h.acts; flights = flight_without (Gives W) slot r.leader.flights h.flights; ready = slot_without (Gives W) r.ready slot h.ready; reports = h.reports; accepted = h.accepted; log = h.log }

  pub polled_gives : (node : ℕ) (ballot : Ballot) (reports : List (Report Command)) (r : ReplicaState) → Reports reports → Holds r → Holds (record r { leader = (promise_counted node ballot reports r.leader).1 })
  polled_gives node ballot reports r p h = (let after = held.polled_held (Gives W) node ballot reports r.leader p (h.flights, h.reports) in with_leader r (promise_counted node ballot reports r.leader).1 after.1 after.0 h)

  pub counted_gives : (node : ℕ) (ballot : Ballot) (slot : ℕ) (members : List ℕ) (r : ReplicaState) → Holds r → Holds (record r { leader = (counted node ballot slot members r.leader).1 })
  counted_gives node ballot slot members r h = (let after = held.counted_held (Gives W) node ballot slot members r.leader (h.flights, h.reports) in with_leader r (counted node ballot slot members r.leader).1 after.1 after.0 h)

  -- ---- what is in the log

  pub entry_gives : (slot : ℕ) (r : ReplicaState) → Holds r → Maybe (entry_at slot r.log)
  entry_gives slot r h = either_way Maybe (nat_lt r.log.base slot) _ _ (opt_get (Gives W) r.log.entries (slot - r.log.base - 1) h.log) tt

  pub forgotten_gives : (last : ℕ) (r : ReplicaState) → Holds r → Holds (forgotten last r)
  unfolding forgotten
  forgotten_gives last r h = record {
    backlog = h.backlog;
    acts = h.acts;
    flights = h.flights;
    ready = h.ready;
    reports = h.reports;
    accepted = Each-filter (λ (report : Report Command). Gives W report.value) (λ (report : Report Command). nat_lt (floor_of last) report.slot) r.acceptor.accepted h.accepted;
    log = Each-drop (Gives W) (floor_of last - r.log.base) r.log.entries h.log;
  }

  pub with_acceptor : (r : ReplicaState) (acceptor : AcceptorState Command) → Reports acceptor.accepted → Holds r → Holds (record r { acceptor = acceptor })
  with_acceptor r acceptor a h = record { backlog = h.backlog; acts = h.acts; flights = h.flights; ready = h.ready; reports = h.reports; accepted = a; log = h.log }
