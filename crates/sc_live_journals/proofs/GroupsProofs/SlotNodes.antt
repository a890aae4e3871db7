-- What each replica has in flight and ready stays from its next slot on by the rows of its node, and so after any rows.
use Rattle.std.proofs.Common.{ℕ, List, [], ◌∷◌, map}
use Rattle.sc_base.specs.Definitions.{Each, is_member}
use Rattle.sc_node_table.specs.Values.{Base, Node, Client}
use Rattle.sc_node_table.specs.NodeDefinitions.{born_replicas, born_replica, slots_ahead}
use Rattle.sc_meaning.specs.sound.SoundDefinitions.{Player, player_table}
use Rattle.sc_law_walks.proofs.WalkLemmas.{either_way, EachReplica, ReplicaRows, node_step, StepsHold, replay_keeps}
use Rattle.sc_live_journals.specs.groups.GroupDefinitions.{IsSlotKept, NodesAreBornSlotted}
use Rattle.sc_live_journals.proofs.GroupsProofs.SlotRows.{born_well, made_well, mailed_well, order_well, tick_well}
use Rattle.sc_live_journals.proofs.RowsProofs.Players.{RowsKeep}

module _ (me : ℕ) where
  -- each row of a replica's table keeps it, and it holds of what is made
  slot_rows : ReplicaRows me IsSlotKept
  slot_rows = record {
    mail = λ from body r k. mailed_well me from body (r, []) k;
    order = λ drawer line r k. order_well me drawer line (r, []) k;
    tick = λ on drawer r mails k. tick_well me on drawer (r, mails) k;
    made = λ from group slot base sets. made_well me from group slot base sets;
    born = λ base. born_well me base;
  }

  -- ---- any rows

  abbrev pub Plays : Player → Type 0
  Plays (Node node) = EachReplica me IsSlotKept node
  Plays (Client client) = Unit {0}

  acts_well : StepsHold player_table Plays
  acts_well (Node node) input k = node_step me IsSlotKept slot_rows node input k
  acts_well (Client client) input k = tt

  pub replay_well : RowsKeep Plays
  replay_well = replay_keeps player_table Plays acts_well

  -- at the birth of groups
  pub born_all : (groups : List Base) → Each IsSlotKept (born_replicas slots_ahead me groups)
  born_all [] = tt
  born_all (base ∷ groups) = either_way (λ (bases : List Base). Each IsSlotKept (map (λ b. born_replica slots_ahead me b) bases)) (is_member base.core.members me) _ _ (born_well me base, born_all groups) (born_all groups)

-- So it is of each replica that is made at the birth of groups.
pub nodes_born : NodesAreBornSlotted
nodes_born me groups policy = born_all me groups
