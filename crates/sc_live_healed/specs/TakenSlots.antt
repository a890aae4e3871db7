-- What a replica that runs has in flight, ready and queued at the end of a row, in a group that is not reshaped.
use Rattle.std.specs.Prelude.{◌≡◌, ℕ, ◌+◌, ◌<◌, ◌≤◌, ◌==◌, true, false, List, [], length, count_by, ◌⊎◌}
use Rattle.sc_base.specs.Definitions.{Among, Each, votes_of, is_majority}
use Rattle.sc_node_table.specs.Values.{Base, Command, Flight, Report}
use Rattle.sc_words.specs.paxos.PaxosDefinitions.{kept_voters}
use Rattle.sc_node_table.specs.NodeDefinitions.{NodeState, ReplicaState, next, settled, slots_ahead, last_slot}
use Rattle.sc_live_plain.specs.PlainDefinitions.{AreTaken}
use Rattle.sc_live_healed.specs.FixedMembers.{IsFixedReplica}

-- a command in flight whose counted voters are members, each counted once, and are no majority
pub record IsUndecided (base : Base) (flight : Flight Command) : Type 0 where
  pub voters : length (kept_voters flight.voters) ≤ votes_of base.core.members (kept_voters flight.voters)
  pub undecided : is_majority base.core.members (kept_voters flight.voters) ≡ false

-- all open slots are taken, or nothing is queued and each report is of a slot that is executed or taken
abbrev pub HasOfferedAll : ℕ → ReplicaState → Type 0
HasOfferedAll taken r = (taken ≡ slots_ahead) ⊎ ((r.backlog ≡ []) × Each (λ (report : Report Command). report.slot < next r + taken) r.leader.reports)

-- the first `taken` slots from the next one on have a command in flight or ready, one each, and no other slot has; none is behind those that are open where the next slot is the last one; nothing is ready at the next slot; no command in flight is decided; and where the replica is settled, and the next slot is not above the last one, it has offered all that it could
pub record TakesSlots (base : Base) (r : ReplicaState) : Type 0 where
  pub taken : ℕ
  pub slots : AreTaken r taken
  pub room : (taken ≡ 0) ⊎ (next r + taken ≤ last_slot + slots_ahead)
  pub executed : count_by (λ entry. entry.0 == next r) r.ready ≡ 0
  pub undecided : Each (IsUndecided base) r.leader.flights
  pub offered : settled r ≡ true → next r ≤ last_slot → HasOfferedAll taken r

-- each replica of a node takes its slots as `TakesSlots` says
abbrev pub AllTakeSlots : List Base → NodeState → Type 0
AllTakeSlots bases node = Each (λ r. (base : Base) → Among base bases → IsFixedReplica base r → TakesSlots base r) node.replicas
