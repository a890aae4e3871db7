-- What a walk of states says of each replica of a node holds after any rows, as it held at the birth of groups.
use Rattle.std.proofs.Common.{◌≡◌, ℕ, List, [], ◌∷◌, map, Option, sym, subst}
use Rattle.sc_base.specs.Definitions.{Each, is_member}
use Rattle.sc_node_table.specs.Values.{Draw, Base, Mail, OrderLine, Input, Got, Row, Seat, Node, Client}
use Rattle.sc_actor.specs.declared.rows.Input.TheVariants.{Tick, Go, Told}
use Rattle.sc_actor.specs.Definitions.{replay, value}
use Rattle.sc_words.proofs.PaxosProofs.PaxosLemmas.{Each-weaker}
use Rattle.sc_node_table.specs.NodeDefinitions.{NodeState, node_table, replica_of, born_replicas, born_replica, ReplicaState, slots_ahead}
use Rattle.sc_meaning.specs.sound.SoundDefinitions.{Player, player_table}
use Rattle.sc_law_walks.specs.WalkDefinitions.{IsKept}
use Rattle.sc_law_walks.proofs.WalkLemmas.{StateBirths, either_way, StateParts, state_walk, state_births, state_ticks, state_hears, GivenAny, any_step, creation, StepsHold, replay_keeps}
use Rattle.sc_law_walks.proofs.WalkLemmas.{FoundOne, found_one}

-- any rows keep what holds of a player
abbrev pub RowsKeep : (Player → Type 0) → Type 0
RowsKeep Plays = (who : ℕ) (rows : List (Row Mail OrderLine)) (player : Player) (sent : List Mail) → Plays player → Plays (replay player_table who player sent rows)

-- W is what holds of a replica in any journal, with what the walk says of it
module _ (me : ℕ) (P : ReplicaState → Type 0) (parts : StateParts me P) (begins : StateBirths me P) (W : ReplicaState → Type 0) (to : (r : ReplicaState) → W r → IsKept me r × P r) (from : (r : ReplicaState) → IsKept me r × P r → W r) where
  abbrev pub All : List ReplicaState → Type 0
  All replicas = Each W replicas

  abbrev pub Found : Option ReplicaState → Type 0
  Found o = FoundOne W o

  pub found : (group : Draw) (replicas : List ReplicaState) → All replicas → Found (replica_of group replicas)
  found group replicas k = found_one W group replicas k

  -- a node of this number
  abbrev pub Holds : NodeState → Type 0
  Holds node = (node.me ≡ me) × All node.replicas

  abbrev pub Plays : Player → Type 0
  Plays (Node node) = Holds node
  Plays (Client client) = Unit {0}

  given : (input : Input Mail OrderLine) → GivenAny (state_walk me P parts) (state_births me P parts begins) (state_ticks me P parts) input
  given (Got mail) = state_hears me P parts mail.body
  given Tick = tt
  given Go = tt
  given (Told line) = tt

  steps : (node : NodeState) (input : Input Mail OrderLine) → Holds node → Holds (node_table node input).0
  steps node input k =
      let early = Each-weaker W (λ (r : ReplicaState). IsKept me r × P r) to node.replicas k.1 in
      let after = any_step (state_walk me P parts) (state_births me P parts begins) (state_ticks me P parts) node input (given input) (k.0, early) in
      (after.0.0, Each-weaker (λ (r : ReplicaState). IsKept me r × P r) W from (node_table node input).0.replicas after.0.1)

  acts : StepsHold player_table Plays
  acts (Node node) input k = steps node input k
  acts (Client client) input k = tt

  pub replays : RowsKeep Plays
  replays = replay_keeps player_table Plays acts

  -- at the birth of groups
  pub born : (groups : List Base) → All (born_replicas slots_ahead me groups)
  born [] = tt
  born (base ∷ groups) = either_way (λ (bases : List Base). All (map (λ b. born_replica slots_ahead me b) bases)) (is_member base.core.members me) _ _ (from (born_replica slots_ahead me base) (creation (state_walk me P parts) (state_births me P parts begins) base), born groups) (born groups)

  -- any rows of the node
  pub stays : (seat : Seat Player) (rows : List (Row Mail OrderLine)) (first node : NodeState) → seat.actor ≡ Node first → Holds first → value player_table seat rows ≡ Node node → Holds node
  stays seat rows first node fact k e = subst Plays e (replays seat.who rows seat.actor [] (subst Plays (sym fact) k))
