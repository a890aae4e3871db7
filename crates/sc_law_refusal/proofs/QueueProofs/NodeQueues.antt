-- The queues of all replicas of a node, in each of its steps and after any rows.
use Rattle.std.proofs.Common.{ℕ, subst, List, [], ◌∷◌, map, refl}
use Rattle.sc_base.specs.Definitions.{Each, is_member}
use Rattle.sc_node_table.specs.Values.{Base, Node, Client}
use Rattle.sc_node_table.specs.NodeDefinitions.{born_replicas, born_node, ReplicaState, born_replica}
use Rattle.sc_meaning.specs.sound.SoundDefinitions.{Player, player_table}
use Rattle.sc_law_refusal.specs.queue.OneCall.{KeepsOneCall, EachKeepsOneCall, StepsKeepOneCall, QueuesKeepOneCall}
use Rattle.sc_law_refusal.proofs.QueueProofs.ClientCalls.{one_none}
use Rattle.sc_law_walks.proofs.WalkLemmas.{ReplicaRows, node_step, either_way, StepsHold, replay_keeps}
use Rattle.sc_law_refusal.proofs.QueueProofs.QueuedCalls.{ordered_keeps, tick_keeps, mailed_keeps, made_keeps}

abbrev All : List ReplicaState → Type 0
All replicas = Each KeepsOneCall replicas

-- each row of a replica's table keeps it, and it holds of what is made
queue_rows : (me : ℕ) → ReplicaRows me KeepsOneCall
queue_rows me = record {
  mail = λ from body r k. mailed_keeps from body (r, []) k;
  order = λ drawer line r k. ordered_keeps drawer line (r, []) k;
  tick = λ on drawer r mails k. tick_keeps on drawer (r, mails) k;
  made = λ from group slot base sets. made_keeps me from group slot base sets;
  born = λ base. one_none;
}

pub steps_keep_one_call : StepsKeepOneCall
steps_keep_one_call node input k = (node_step node.me KeepsOneCall (queue_rows node.me) node input (refl, k)).1

-- ---- from birth on

-- a node at its birth has empty queues
born_keep : (ahead me : ℕ) (groups : List Base) → All (born_replicas ahead me groups)
born_keep ahead me [] = tt
born_keep ahead me (base ∷ groups) =
    either_way (λ (bases : List Base). All (map (λ b. born_replica ahead me b) bases)) (is_member base.core.members me) _ _ (one_none, born_keep ahead me groups) (born_keep ahead me groups)

-- a client has no queue
abbrev Plays : Player → Type 0
Plays (Node node) = EachKeepsOneCall node
Plays (Client client) = Unit {0}

steps_keep : StepsHold player_table Plays
steps_keep (Node node) input k = steps_keep_one_call node input k
steps_keep (Client client) input k = tt

pub queues_keep_one_call : QueuesKeepOneCall
queues_keep_one_call ahead scenario me rows node e =
    let born : Player = Node (born_node ahead.slots me scenario.groups scenario.policy) in
    subst Plays e (replay_keeps player_table Plays steps_keep me rows born [] (born_keep ahead.slots me scenario.groups))
