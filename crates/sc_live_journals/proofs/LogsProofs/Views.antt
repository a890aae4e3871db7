-- A replica that a player has is one of a node.
use Rattle.std.proofs.Common.{◌≡◌, eqb, Option, Some, None, refl, ◌∙◌, ap}
use Rattle.std.proofs.lemmas.Bool.{eqb-true}
use Rattle.std.specs.List.{find}
use Rattle.sc_node_table.specs.Values.{Draw, Node, Client, Seat}
use Rattle.sc_actor.specs.Definitions.{value}
use Rattle.sc_words.proofs.PaxosProofs.PaxosLemmas.{find_found}
use Rattle.sc_node_table.specs.NodeDefinitions.{NodeState, replica_of, ReplicaState}
use Rattle.sc_meaning.specs.sound.SoundDefinitions.{Player, births, player_table}
use Rattle.sc_live_journals.specs.rows.RowDefinitions.{replicas_of, replica_in}
use Rattle.sc_live_journals.specs.logs.LogDefinitions.{HasReplica, ViewsAreReplicas}

-- of a player that has one, and is a node then
in_player : (name : Draw) (player : Player) (r : ReplicaState) → replica_of name (replicas_of player) ≡ Some r → (node : NodeState) × (player ≡ Node node) × (replica_of name node.replicas ≡ Some r)
in_player name (Node node) r e = (node, refl, e)
in_player name (Client client) r e = cc

-- What is seen of the group at a player, after any rows of the journal, is a replica of a node.
pub views_are_replicas : ViewsAreReplicas
views_are_replicas ahead words scenario journal base group rows more prefix who r view = by (find (λ (seat : Seat Player). eqb seat.who who) (births ahead scenario)) refl view
  where
    by : (o : Option (Seat Player)) → find (λ (seat : Seat Player). eqb seat.who who) (births ahead scenario) ≡ o → replica_in base.core.id rows o ≡ Some r
        → (seat : Seat Player) × (node : NodeState) × HasReplica ahead scenario journal base rows seat node r × (seat.who ≡ who)
    by None found e = cc
    by (Some seat) found e =
        let mine = eqb-true seat.who who (find_found (λ (other : Seat Player). eqb other.who who) (births ahead scenario) seat found).1 in
        let at = in_player base.core.id (value player_table seat rows) r e in (
          seat,
          at.0,
          record {
            more = more;
            prefix = prefix;
            seated = ap (λ n. find (λ (other : Seat Player). eqb other.who n) (births ahead scenario)) mine ∙ found;
            fact = at.1;
            here = at.2;
          },
          mine,
        )
