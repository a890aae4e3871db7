-- By which chart what is owed in a calm journal is reckoned: ways by hints, and how far clients reach, as in the last quiet journal;
-- the groups, and what a coordinator asks, as they are now.
use Rattle.std.specs.Prelude.{ℕ, zero, suc, ◌+◌, ◌-◌, ◌==◌, ◌&&◌, ◌||◌, max, min, not, is_some, Bool, List, [], ◌∷◌, ◌++◌, length, map, filter, take, if◌then◌else◌, Option, Some, None}
use Rattle.std.specs.List.{list_any}
use Rattle.sc_base.specs.Definitions.{same_draw}
use Rattle.sc_node_table.specs.Values.{Draw, Core, Lock, Free, Coordinating, Promised, Watching, Route, OrderLine, Mail, Node, Client, Seat}
use Rattle.sc_actor.specs.Definitions.{value, System}
use Rattle.sc_node_table.specs.NodeDefinitions.{replica_of, asked_link, watcher_link, ReplicaState, name_of}
use Rattle.sc_meaning.specs.sound.SoundDefinitions.{Player, player_table}
use Rattle.sc_live_steps.specs.calm.CalmDefinitions.{Chart, Reach, Rows, is_led}
use Rattle.sc_live_journals.specs.charts.LastQuietPrefixes.{quiet_prefix}

-- The replicas of a player; a client has none.
abbrev pub replicas_of : Player → List ReplicaState
replicas_of (Node node) = node.replicas
replicas_of (Client client) = []

-- All replicas after these rows, player by player.
abbrev pub all_replicas : List (Seat Player) → Rows → List ReplicaState
all_replicas [] rows = []
all_replicas (seat ∷ seats) rows = replicas_of (value player_table seat rows) ++ all_replicas seats rows

-- The replica of this group at the player with this number after these rows, if it has one.
abbrev pub replica_at : List (Seat Player) → Rows → Draw → ℕ → Option ReplicaState
replica_at [] rows group who = None
replica_at (seat ∷ seats) rows group who = if seat.who == who then replica_of group (replicas_of (value player_table seat rows)) else replica_at seats rows group who

-- ---- ways

-- The latest round that any of these replicas of the group has seen; 0 where there is none.
abbrev pub latest_in : Draw → List ReplicaState → ℕ
latest_in group [] = 0
latest_in group (r ∷ replicas) = if same_draw (name_of r) group then max r.top.round (latest_in group replicas) else latest_in group replicas

-- At most how many hints lead from the replica to one that leads or is gone, where `latest` is the latest round seen; never more than `most`.
abbrev pub way_by : ℕ → ℕ → Option ReplicaState → ℕ
way_by most latest None = most
way_by most latest (Some r) = if r.running || is_some r.group.core.gone then 0 else min most (1 + latest - r.top.round)

-- At most how many hints lead from the group's replica at this node, after these rows, to one that leads or is gone; never more than `most`.
abbrev pub far_at : ℕ → List (Seat Player) → Rows → Draw → ℕ → ℕ
far_at most births rows group node = way_by most (latest_in group (all_replicas births rows)) (replica_at births rows group node)

-- ---- what is asked

-- The group that the coordinator asks, and whether it asks it as the watcher, if this transaction locks the coordinator; else none.
abbrev pub asked_by : Draw → Core → Lock → Option (Draw × Bool)
asked_by tx core Free = None
asked_by tx core (Coordinating other body order heard) = if same_draw other tx then Some ((asked_link core body heard).group, is_some (watcher_link core body heard)) else None
asked_by tx core (Promised other offer) = None
asked_by tx core (Watching other watch) = None

-- What the first of these replicas asks that leads a coordinator of this transaction; none where there is no such replica.
abbrev pub asked_in : Draw → List ReplicaState → Option (Draw × Bool)
asked_in tx [] = None
asked_in tx (r ∷ replicas) =
    if r.running && is_some (asked_by tx r.group.core r.group.core.lock)
    then asked_by tx r.group.core r.group.core.lock
    else asked_in tx replicas

-- ---- groups

-- The names `names`, with each name of `more` that is new appended.
abbrev pub with_names : List Draw → List Draw → List Draw
with_names names [] = names
with_names names (name ∷ more) = with_names (if list_any (λ other. same_draw other name) names then names else names ++ name ∷ []) more

-- The names of the groups that are led after these rows, one for each replica.
abbrev pub led_names : List (Seat Player) → Rows → List Draw
led_names births rows = filter (λ name. is_led births rows name) (map name_of (all_replicas births rows))

-- The names of all groups that were led after any of the first rows, up to this number of rows, in the order in which they came.
abbrev pub names_upto : List (Seat Player) → Rows → ℕ → List Draw
names_upto births rows zero = with_names [] (led_names births [])
names_upto births rows (suc n) = with_names (names_upto births rows n) (led_names births (take (suc n) rows))

-- The names of all groups that were led after any of these rows, in the order in which they came.
abbrev pub names_at : List (Seat Player) → Rows → List Draw
names_at births rows = names_upto births rows (length rows)

-- ---- how far clients reach

-- Where the group went, by the first of these replicas of it that knows; none where none does.
abbrev pub went_in : Draw → List ReplicaState → Option Route
went_in group [] = None
went_in group (r ∷ replicas) = if same_draw (name_of r) group && is_some r.group.core.gone then r.group.core.gone else went_in group replicas

-- How many gone groups lie on the way from this group to one that stands, itself included; never more than the first argument.
abbrev pub ends_by : ℕ → List ReplicaState → Draw → ℕ
ends_by zero replicas group = 0
ends_by (suc n) replicas group = elim (went_in group replicas) [ None ↦ 0 | Some into ↦ 1 + ends_by n replicas into.group ]

-- Of these groups those that stand, with the number of gone groups on the way from each group to one that stands.
abbrev pub reach_in : ℕ → List Draw → List ReplicaState → Reach
reach_in most names replicas = record {
  standing = filter (λ name. not (is_some (went_in name replicas))) names;
  distance = ends_by (length names) replicas;
  most = most;
}

-- ---- the chart

-- The chart after these rows, where no way is longer than `far` and no client is sent on more often than `sent`.
abbrev pub chart_at : ℕ → ℕ → System Player Mail OrderLine → Rows → Chart
chart_at far sent s rows = record {
  ways = record {
    far = far_at far s.births (quiet_prefix s rows);
    most = far;
    asked_group = λ tx. asked_in tx (all_replicas s.births rows);
  };
  groups = names_at s.births rows;
  reach = reach_in sent (names_at s.births (quiet_prefix s rows)) (all_replicas s.births (quiet_prefix s rows));
}
