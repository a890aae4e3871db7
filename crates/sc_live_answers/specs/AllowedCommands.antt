-- Which commands the logs of a whole journal allow in a group's log, and what the lock of a replica's group says of that.
use Rattle.std.specs.Prelude.{◌≡◌, ℕ, ◌≤◌, true, ◌++◌, length, Option, Some}
use Rattle.sc_base.specs.Definitions.{Among, Each, united}
use Rattle.sc_node_table.specs.Values.{Draw, Seat, Body, Offer, Watch, Command, Prepared, RecordVote, Watched, Base, Coordinating, Promised, Watching, Frozen, Heard, Flight}
use Rattle.sc_words.specs.declared.commands.bodies.Body.TheVariants as At
use Rattle.sc_words.specs.declared.commands.votes.Vote.TheVariants as Vows
use Rattle.sc_group_table.specs.machine.MachineDefinitions.{Group, can_split, frozen_of}
use Rattle.sc_node_table.specs.NodeDefinitions.{NodeState, ReplicaState}
use Rattle.sc_scenario.specs.declared.scenario.scenarios.Scenario.{Scenario}
use Rattle.sc_scenario.specs.scenario.Definitions.{IsValid}
use Rattle.sc_meaning.specs.sound.SoundDefinitions.{groups_at, Lawful, Player, as_nodes}
use Rattle.sc_law_entries.specs.ring.RingDefinitions.{Sources, IsAllowed, offer_for, unsigned, unsigned_watch, watch_for}
use Rattle.sc_law_entries.specs.names.NameDefinitions.{owner_in}
use Rattle.sc_law_groups.specs.whole.WholeDefinitions.{section_op, stories_at}
use Rattle.sc_live_steps.specs.calm.CalmDefinitions.{Rows}
use Rattle.sc_live_journals.specs.logs.LogDefinitions.{HasReplica, IsGroupOf}

-- the owner of each name of a journal, and what clients ask by which number
abbrev pub sources_of : Scenario → Rows → Sources
sources_of scenario journal = record { owner = owner_in as_nodes scenario journal; request = section_op scenario }

-- a command is allowed in the log of the group with this name, by what the logs of the journal record (`IsAllowed`)
abbrev pub IsAllowedBy : Scenario → Rows → Draw → Command → Type 0
IsAllowedBy scenario journal name command = IsAllowed (sources_of scenario journal) (stories_at as_nodes scenario.groups journal) name command

-- what the lock of a group says: a coordinator's offer and watch are allowed at the groups that it asks, a vote that it has recorded is a participant's Yes in a merge, and its split can be done; a participant's offer and Yes are allowed; and so is what a watcher was asked
pub record LockIsRecorded (scenario : Scenario) (journal : Rows) (name : Draw) (group : Group) : Type 0 where
  pub offers : (tx : Draw) (body : Body) (order : ℕ) (heard : Option Heard) → group.core.lock ≡ Coordinating tx body order heard
      → (offer : Offer) → offer_for group.core body ≡ Some (unsigned offer) → IsAllowedBy scenario journal offer.part (Prepared tx offer)
  pub asks : (tx : Draw) (body : Body) (order : ℕ) (heard : Option Heard) → group.core.lock ≡ Coordinating tx body order heard
      → (watch : Watch) → watch_for group.core body heard ≡ Some (unsigned_watch watch) → IsAllowedBy scenario journal watch.part (Watched tx watch)
  pub heard : (tx : Draw) (body : Body) (order : ℕ) (heard : Heard) → group.core.lock ≡ Coordinating tx body order (Some heard) → (body ≡ At.Merge) × IsAllowedBy scenario journal name (RecordVote tx (Vows.Yes heard.frozen) 0)
  pub splits : (tx : Draw) (at : ℕ) (child : Draw) (order : ℕ) (heard : Option Heard) → group.core.lock ≡ Coordinating tx (At.Split at child) order heard → can_split group.core at ≡ true
  pub promises : (tx : Draw) (offer : Offer) → group.core.lock ≡ Promised tx offer → IsAllowedBy scenario journal name (Prepared tx offer) × IsAllowedBy scenario journal name (RecordVote tx (Vows.Yes (frozen_of group)) 0)
  pub watches : (tx : Draw) (watch : Watch) → group.core.lock ≡ Watching tx watch → IsAllowedBy scenario journal name (Watched tx watch)

-- what the whole journal says of each replica in a prefix of it: its lock is as `LockIsRecorded` says, what it has in flight is allowed; and of one transaction the participant is not the watcher, and the two groups of a merge have at most nine members together
pub record ReplicasAreRecorded : Type 0 where
  pub groups : (words : ℕ → ℕ → ℕ × ℕ) (scenario : Scenario) (journal rows more : Rows) (base : Base) → IsValid scenario → Lawful as_nodes words scenario journal → journal ≡ rows ++ more
      → Among base (groups_at as_nodes scenario.groups rows) → IsGroupOf as_nodes words scenario journal base
  pub locks : (words : ℕ → ℕ → ℕ × ℕ) (scenario : Scenario) (journal : Rows) (base : Base) → IsGroupOf as_nodes words scenario journal base
      → (rows : Rows) (seat : Seat Player) (node : NodeState) (r : ReplicaState) → HasReplica as_nodes scenario journal base rows seat node r → LockIsRecorded scenario journal base.core.id r.group
  pub flights : (words : ℕ → ℕ → ℕ × ℕ) (scenario : Scenario) (journal : Rows) (base : Base) → IsGroupOf as_nodes words scenario journal base
      → (rows : Rows) (seat : Seat Player) (node : NodeState) (r : ReplicaState) → HasReplica as_nodes scenario journal base rows seat node r
      → Each (λ (flight : Flight Command). IsAllowedBy scenario journal base.core.id flight.value) r.leader.flights
  pub apart : (words : ℕ → ℕ → ℕ × ℕ) (scenario : Scenario) (journal : Rows) (base : Base) → IsGroupOf as_nodes words scenario journal base
      → (tx one other : Draw) (offer : Offer) (watch : Watch) → IsAllowedBy scenario journal one (Prepared tx offer) → IsAllowedBy scenario journal other (Watched tx watch) → one ≡ other → ⊥
  pub fits : (words : ℕ → ℕ → ℕ × ℕ) (scenario : Scenario) (journal : Rows) (base : Base) → IsGroupOf as_nodes words scenario journal base
      → (tx one other : Draw) (offer : Offer) (frozen : Frozen) (by : ℕ) → offer.body ≡ At.Merge → IsAllowedBy scenario journal one (Prepared tx offer) → IsAllowedBy scenario journal other (RecordVote tx (Vows.Yes frozen) by)
      → length (united offer.members frozen.members) ≤ 9
