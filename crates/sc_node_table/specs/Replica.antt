-- A replica, which is one group on one node: its state, and functions of it.
use Rattle.std.specs.Prelude.{ℕ, ◌-◌, ◌*◌, ◌/◌, ◌^◌, nat_lt, ◌==◌, ◌&&◌, Bool, false, List, [], ◌∷◌, ◌++◌, length, replicate, slice_get, if◌then◌else◌, Option, Some, None}
use Rattle.std.specs.Option.{option_map}
use Rattle.sc_base.specs.declared.names.Draw.{Draw}
use Rattle.sc_base.specs.declared.names.Ballot.{Ballot}
use Rattle.sc_words.specs.declared.commands.commands.Command.{Command}
use Rattle.sc_words.specs.declared.commands.cores.Base.{Base}
use Rattle.sc_words.specs.declared.commands.cores.Core.{Core}
use Rattle.sc_words.specs.declared.commands.cores.Lock.{Lock}
use Rattle.sc_words.specs.declared.commands.cores.Lock.TheVariants.{Free, Coordinating, Promised, Watching}
use Rattle.sc_mail.specs.declared.bodies.Mail.{Mail}
use Rattle.sc_words.specs.paxos.PaxosDefinitions.{LogState, empty_log, next_of, installed, log_cut, AcceptorState, born_acceptor, after_cut, LeaderState, first_leader, flight_at, is_settled}
use Rattle.sc_group_table.specs.machine.MachineDefinitions.{Group, group_of}
use Rattle.sc_node_table.specs.Slots.{at_slot, numbers_from}

-- the state of a replica: `me` the node's number; `group` the executed state and `log` the executed entries; `acceptor`; `hint` the node that it takes for the leader; `top` the greatest ballot seen; `running` whether it runs as candidate or leader, and `leader` its state as such, which counts only then; `ready` the commands that a majority has accepted and that are not executed yet, by slot; `sets` the members of the open slots, from the next slot on; `acts` the queued commands of transactions, and `backlog` the queued requests and orders; `waits` how many ticks a transaction has waited
pub record ReplicaState : Type 0 where
  pub me : ℕ
  pub group : Group
  pub log : LogState Command
  pub acceptor : AcceptorState Command
  pub hint : Option ℕ
  pub top : Ballot
  pub running : Bool
  pub leader : LeaderState Command
  pub ready : List (ℕ × Command)
  pub sets : List (List ℕ)
  pub acts : List Command
  pub backlog : List Command
  pub waits : ℕ

-- a replica and the mails that its step has sent so far: each part of the table maps one place to the next, and adds its mails at the end
abbrev pub Place : Type 0
Place = ReplicaState × List Mail

-- a place after a step that may execute entries, with the children that the entries make at its node, in their order
abbrev pub Executed : Type 0
Executed = Place × List Base

-- a place with no child made
abbrev pub childless : Place → Executed
childless place = (place, [])

-- the first ballot of a group, in which its first leader runs from the group's creation
abbrev pub first_ballot : Core → Ballot
first_ballot core = record { round = 1; node = core.first }

-- a replica made at its group's creation, with `ahead` open slots: the first leader runs with the first ballot, which every acceptor has promised
abbrev pub born_replica : ℕ → ℕ → Base → ReplicaState
born_replica ahead me base = record {
  me = me;
  group = group_of base;
  log = empty_log;
  acceptor = born_acceptor (first_ballot base.core);
  hint = Some base.core.first;
  top = first_ballot base.core;
  running = base.core.first == me;
  leader = first_leader (first_ballot base.core);
  ready = [];
  sets = replicate ahead base.core.members;
  acts = [];
  backlog = [];
  waits = 0;
}

-- the unit of slots in which old entries are kept or forgotten
abbrev pub cut_unit : ℕ
cut_unit = 64

-- the slot up to which entries and accepted commands are forgotten, by the last executed slot: between one and two units of slots are kept
abbrev pub floor_of : ℕ → ℕ
floor_of last = cut_unit * (last / cut_unit) - cut_unit

-- the replica without entries and accepted commands that are not above the floor
unfoldable pub forgotten : ℕ → ReplicaState → ReplicaState
forgotten last r = record r { log = log_cut (floor_of last) r.log; acceptor = after_cut (floor_of last) r.acceptor }

-- how many ticks a transaction has waited, by the lock: 0 where the group is free
abbrev pub waits_in : Lock → ℕ → ℕ
waits_in Free waits = 0
waits_in (Coordinating tx body order heard) waits = waits
waits_in (Promised tx offer) waits = waits
waits_in (Watching tx watch) waits = waits

-- a replica made of the state after a slot, with the members of the open slots: as at its group's creation, but it does not run, and its log starts after that slot
abbrev pub installed_replica : ℕ → ℕ → Base → List (List ℕ) → ReplicaState
installed_replica me slot base sets = forgotten slot (record {
  me = me;
  group = group_of base;
  log = installed slot;
  acceptor = born_acceptor (first_ballot base.core);
  hint = Some base.core.first;
  top = first_ballot base.core;
  running = false;
  leader = first_leader (first_ballot base.core);
  ready = [];
  sets = sets;
  acts = [];
  backlog = [];
  waits = 0;
})

-- the name of the replica's group
abbrev pub name_of : ReplicaState → Draw
name_of r = r.group.core.id

-- the slot after the last executed one
abbrev pub next : ReplicaState → ℕ
next r = next_of r.log

-- the members in the executed state
abbrev pub members : ReplicaState → List ℕ
members r = r.group.core.members

-- the members of a slot, if it is open
abbrev pub set_at : ℕ → ReplicaState → Option (List ℕ)
set_at slot r = if nat_lt slot (next r) then None else slice_get r.sets (slot - next r)

-- the open slots
abbrev pub open_slots : ReplicaState → List ℕ
open_slots r = numbers_from (next r) (length r.sets)

-- the last slot at which a command is learnt; where the next slot is above it, nothing is offered
abbrev pub last_slot : ℕ
last_slot = 2 ^ 32 - 8

-- the members of the next slot
abbrev pub first_set : List (List ℕ) → List ℕ
first_set [] = []
first_set (set ∷ sets) = set

-- whether the replica's leader may offer at a slot with these members: no higher ballot was promised here, and its ballot is the first or a majority of them has promised it
abbrev pub may_offer : ReplicaState → List ℕ → Bool
may_offer r set = is_settled r.acceptor.promised set r.leader

-- whether a replica is settled: it runs, and may offer at the next slot
abbrev pub settled : ReplicaState → Bool
settled r = r.running && may_offer r (first_set r.sets)

-- the command in flight at a slot, if there is one
abbrev pub flying : ReplicaState → ℕ → Option Command
flying r slot = option_map (λ flight. flight.value) (flight_at slot r.leader.flights)

-- the first of two options, if it is some, or else the second
abbrev pub either : {X : Type 0} → Option X → Option X → Option X
either (Some x) other = Some x
either None other = other

-- the command in flight or ready at a slot, if there is one
abbrev pub taken_at : ReplicaState → ℕ → Option Command
taken_at r slot = either (flying r slot) (at_slot r.ready slot)

-- an option as a list of none or one
abbrev pub listed : {X : Type 0} → Option X → List X
listed None = []
listed (Some x) = x ∷ []

-- the commands in flight or ready at these slots
abbrev pub taken_from : ReplicaState → List ℕ → List Command
taken_from r [] = []
taken_from r (slot ∷ slots) = listed (taken_at r slot) ++ taken_from r slots

-- the commands under way, that is in flight or ready, by slot
abbrev pub under_way : ReplicaState → List Command
under_way r = taken_from r (open_slots r)

-- whether nothing is under way
abbrev pub is_idle : ReplicaState → Bool
is_idle r = length (under_way r) == 0
