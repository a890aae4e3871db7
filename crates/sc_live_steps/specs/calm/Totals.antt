-- What all nodes and groups owe after some rows.
use Rattle.std.specs.Prelude.{◌≡◌, ℕ, ◌+◌, ◌==◌, ◌&&◌, ◌||◌, not, Bool, true, false, List, [], ◌∷◌, ◌++◌, sum_by, find, Option, Some, None, is_some, if◌then◌else◌}
use Rattle.std.specs.List.{list_any}
use Rattle.sc_node_table.specs.Values.{Draw, OrderLine, Mail, Node, Client, Seat, Event, Row}
use Rattle.sc_actor.specs.Definitions.{value, are_apart, row_of}
use Rattle.sc_node_table.specs.NodeDefinitions.{NodeState, replica_of, ReplicaState}
use Rattle.sc_meaning.specs.sound.SoundDefinitions.{Player, player_table}
use Rattle.sc_live_steps.specs.calm.NodePotential.{node_owes}
use Rattle.sc_live_steps.specs.calm.CalmPotential.{Ways, election}
use Rattle.sc_live_steps.specs.calm.PartyPotential.{Elsewhere, party_owes}

-- The rows of a journal of nodes and clients.
abbrev pub Rows : Type 0
Rows = List (Row Mail OrderLine)

-- Whether the replica leads, or knows that its group is gone.
abbrev pub is_leading : Option ReplicaState → Bool
is_leading None = false
is_leading (Some r) = r.running || is_some r.group.core.gone

-- Whether the player is a node whose replica of the group leads, or knows that the group is gone.
abbrev pub leads : Draw → Player → Bool
leads group (Node node) = is_leading (replica_of group node.replicas)
leads group (Client client) = false

-- Whether, after these rows, a replica of the group at some player leads, or knows that the group is gone.
abbrev pub is_led : List (Seat Player) → Rows → Draw → Bool
is_led births rows group = list_any (λ seat. leads group (value player_table seat rows)) births

-- Whether, after these rows, a replica of the group at a player other than this one leads, or knows that the group is gone.
abbrev pub led_elsewhere : List (Seat Player) → Rows → ℕ → Elsewhere
led_elsewhere births rows who group = list_any (λ seat. not (seat.who == who) && leads group (value player_table seat rows)) births

-- What a group owes after these rows: an election, where no replica of it leads or is gone.
abbrev pub group_idles : List (Seat Player) → Rows → Draw → ℕ
group_idles births rows group = if is_led births rows group then 0 else election

-- What all players owe after these rows, by what each owes, with what these groups owe.
abbrev pub players_owe : (Player → ℕ) → List Draw → List (Seat Player) → Rows → ℕ
players_owe owes groups births rows = sum_by (λ seat. owes (value player_table seat rows)) births + sum_by (group_idles births rows) groups

-- What a node owes; 0 for a client.
abbrev pub node_part : ℕ → Player → ℕ
node_part most (Node node) = node_owes most node
node_part most (Client client) = 0

-- What all nodes and these groups owe after these rows.
abbrev pub nodes_owe : ℕ → List Draw → List (Seat Player) → Rows → ℕ
nodes_owe most groups births rows = players_owe (node_part most) groups births rows

-- A row of a node changes what all nodes and groups owe as it changes what that node owes among the others.
abbrev pub TotalsChangeAsParties : Type 0
TotalsChangeAsParties =
    (ways : Ways) (groups : List Draw) (births : List (Seat Player)) (rows : Rows) (seat : Seat Player) (event : Event OrderLine) (before after : NodeState)
    → are_apart births ≡ true → find (λ other. other.who == seat.who) births ≡ Some seat
    → value player_table seat rows ≡ Node before → value player_table seat (rows ++ row_of player_table seat rows event ∷ []) ≡ Node after
    → nodes_owe ways.most groups births (rows ++ row_of player_table seat rows event ∷ []) + party_owes ways groups (led_elsewhere births rows seat.who) before
    ≡ nodes_owe ways.most groups births rows + party_owes ways groups (led_elsewhere births rows seat.who) after
