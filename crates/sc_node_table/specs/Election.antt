-- How a replica begins to run for leader, and how it stops.
use Rattle.std.specs.Prelude.{◌≡◌, ℕ, ◌≤◌, ◌+◌, ◌-◌, ◌^◌, ◌==◌, ◌&&◌, Bool, true, false, List, [], filter, fold, if◌then◌else◌, Option, Some}
use Rattle.std.specs.List.{list_any}
use Rattle.sc_base.specs.Definitions.{Each, most_nodes, is_member, united}
use Rattle.sc_base.specs.declared.names.Ballot.{Ballot}
use Rattle.sc_mail.specs.declared.bodies.AnswerBody.{AnswerBody}
use Rattle.sc_mail.specs.declared.bodies.AnswerBody.TheVariants as Says
use Rattle.sc_mail.specs.declared.bodies.MailBody.TheVariants.{Prepare}
use Rattle.sc_words.specs.paxos.PaxosDefinitions.{below, new_leader}
use Rattle.sc_node_table.specs.Slots.{numbers_from}
use Rattle.sc_node_table.specs.Replica.{ReplicaState, Place, name_of, next, under_way}
use Rattle.sc_node_table.specs.Mails.{sent_all, answered_all, dismissed_all}

-- whether a node is in one of these sets
abbrev pub is_in_some : List (List ℕ) → ℕ → Bool
is_in_some sets node = list_any (λ set. is_member set node) sets

-- the nodes, from 1 to `most`, that are in one of these sets
unfoldable pub nodes_to : ℕ → List (List ℕ) → List ℕ
nodes_to most sets = filter (λ node. is_in_some sets node) (numbers_from 1 most)

-- the nodes, from 1 to 32, that are in one of these sets
abbrev pub open_nodes : List (List ℕ) → List ℕ
open_nodes sets = nodes_to most_nodes sets

-- where all members of the sets are numbers of nodes, `open_nodes` is the union of the sets, ascending
abbrev pub AsksTheOpenSets : Type 0
AsksTheOpenSets =
    (sets : List (List ℕ)) → Each (λ set. Each (λ node. (1 ≤ node) × (node ≤ most_nodes)) set) sets → open_nodes sets ≡ fold united [] sets

-- Election: the replica runs with its next ballot and asks the members of the open slots for promises (Paxos Made Simple, section 2.2, phase 1a). Its queues stay. No round is above 2^32 - 1
unfoldable pub elected : Place → Place
elected (r, mails) =
    if r.top.round == 2 ^ 32 - 1 then (r, mails) else
    let ballot : Ballot = record { round = r.top.round + 1; node = r.me } in (
      record r { top = ballot; hint = Some r.me; running = true; leader = new_leader ballot (next r); ready = []; waits = 0 },
      sent_all r.me (open_nodes r.sets) (Prepare (name_of r) ballot (next r)) mails,
    )

-- the replica stops running: the client of each request in flight, ready or queued gets this answer, and of each queued order it is reported to the desk that this node does not lead
unfoldable pub ended : Option ℕ → AnswerBody → Place → Place
ended hint answer (r, mails) = (
  record r { running = false; leader = new_leader r.leader.ballot (next r); ready = []; acts = []; backlog = []; hint = hint },
  dismissed_all r.me (name_of r) hint answer r.backlog (answered_all r.me (name_of r) answer (under_way r) mails),
)

-- the replica stops running, and takes this node for the leader
abbrev pub stopped : Option ℕ → Place → Place
stopped hint place = ended hint (Says.NotLeader hint) place

-- what the ballot of a Prepare, Accept or Nack does: it raises the greatest ballot seen, and a replica that runs with a lower one stops
unfoldable pub saw : Ballot → Place → Place
saw ballot (r, mails) =
    let seen : ReplicaState = if below r.top ballot then record r { top = ballot } else r in
    if r.running && below r.leader.ballot ballot then stopped (Some ballot.node) (seen, mails) else (seen, mails)
