-- A quiet prefix of a calm journal, and what is known of its groups.
use Rattle.std.specs.Prelude.{◌≡◌, ℕ, ◌+◌, true, length, Some}
use Rattle.sc_base.specs.Definitions.{Among}
use Rattle.sc_node_table.specs.Values.{Draw, Base}
use Rattle.sc_actor.specs.Definitions.{mails, is_quiet}
use Rattle.sc_paxos_law.specs.PaxosLawDefinitions.{IsLog}
use Rattle.sc_scenario.specs.declared.scenario.scenarios.Scenario.{Scenario}
use Rattle.sc_node_table.specs.NodeDefinitions.{ReplicaState}
use Rattle.sc_meaning.specs.sound.SoundDefinitions.{groups_at, accepts, rule_of, decided_log, Lawful, births, as_nodes, Continues, HasRun}
use Rattle.sc_live_steps.specs.calm.CalmDefinitions.{players, Rows}
use Rattle.sc_live_steps.specs.following.FollowingDefinitions.{Course}
use Rattle.sc_live_journals.specs.rows.RowDefinitions.{view_at}
use Rattle.sc_live_answers.specs.SlotLeaders.{slot_leaders_at}
use Rattle.sc_live_journals.specs.scenes.SceneDefinitions.{IsThere}
use Rattle.sc_live_answers.specs.WellLedQuietGroups.{IsQuietGroup}
use Rattle.sc_live_plain.specs.PlainDefinitions.{replicas_after}
use Rattle.sc_live_answers.specs.Settings.{AreAtNodes}
use Rattle.sc_live_answers.specs.CalmJournals.{IsCalmJournal, IsPrefixOf, AreSent}
use Rattle.sc_live_answers.specs.OfferedSlots.{AreAskedBelow}

-- the replica is of a group of these rows, and has executed a prefix of its log
pub record IsOfGroup (scenario : Scenario) (rows : Rows) (name : Draw) (r : ReplicaState) : Type 0 where
  pub base : Base
  pub among : Among base (groups_at as_nodes scenario.groups rows)
  pub named : base.core.id ≡ name
  pub run : HasRun as_nodes base rows r

-- what is known of a prefix of a journal: its groups are groups of the journal, no two with the same name; their logs are logs, and prefixes of those of the journal; each replica is of one of them and at a node of the scenario; and a player has the replicas that its node has
pub record IsFoundPrefix (words : ℕ → ℕ → ℕ × ℕ) (scenario : Scenario) (journal prefix : Rows) : Type 0 where
  pub lawful : Lawful as_nodes words scenario prefix
  pub apart : (one other : Base) → Among one (groups_at as_nodes scenario.groups journal) → Among other (groups_at as_nodes scenario.groups journal) → one.core.id ≡ other.core.id → one ≡ other
  pub later : (base : Base) → Among base (groups_at as_nodes scenario.groups prefix) → Among base (groups_at as_nodes scenario.groups journal)
  pub goes_on : (base : Base) → Among base (groups_at as_nodes scenario.groups prefix) → Continues (decided_log as_nodes base prefix) (decided_log as_nodes base journal)
  pub is_log : (base : Base) → Among base (groups_at as_nodes scenario.groups prefix) → IsLog (rule_of as_nodes base) (accepts base.core.id prefix) (decided_log as_nodes base prefix)
  pub replicas : (name : Draw) (node : ℕ) (r : ReplicaState) → replicas_after scenario prefix name node ≡ Some r → IsOfGroup scenario prefix name r
  pub homes : AreAtNodes scenario prefix
  pub views : (name : Draw) (node : ℕ) → replicas_after scenario prefix name node ≡ view_at (births as_nodes scenario) prefix name node

-- each prefix of a calm journal is as `IsFoundPrefix` says
abbrev pub PrefixesAreFound : Type 0
PrefixesAreFound =
    (words : ℕ → ℕ → ℕ × ℕ) (scenario : Scenario) (journal prefix : Rows) → IsCalmJournal words scenario journal → IsPrefixOf journal prefix → IsFoundPrefix words scenario journal prefix

-- a quiet prefix of a calm journal: no mail is pending after it, and all groups of the journal are well led
pub record IsQuietPrefix (words : ℕ → ℕ → ℕ × ℕ) (scenario : Scenario) (journal prefix : Rows) : Type 0 where
  pub calm : IsCalmJournal words scenario journal
  pub begins : IsPrefixOf journal prefix
  pub quiet : is_quiet (players words (births as_nodes scenario)) prefix ≡ true
  pub sent : AreSent words scenario journal prefix

-- after a quiet prefix the group is a quiet group (`IsQuietGroup`), and no mail ever asked for a slot beyond its course
pub record IsKnownGroup (words : ℕ → ℕ → ℕ × ℕ) (scenario : Scenario) (journal prefix : Rows) (base : Base) : Type 0 where
  pub course : Course
  pub quiet : IsQuietGroup (slot_leaders_at as_nodes scenario base journal) words scenario journal prefix base course
  pub asked : AreAskedBelow base.core.id course.bound (mails prefix)

-- each group that has a replica in a quiet prefix is as `IsKnownGroup` says
abbrev pub QuietPrefixesHaveGroups : Type 0
QuietPrefixesHaveGroups =
    (words : ℕ → ℕ → ℕ × ℕ) (scenario : Scenario) (journal prefix : Rows) (base : Base) → IsQuietPrefix words scenario journal prefix → Among base (groups_at as_nodes scenario.groups journal) → IsThere (births as_nodes scenario) prefix base.core.id
    → IsKnownGroup words scenario journal prefix base

-- of each group of a quiet prefix that has a replica, the newest replicas have executed its whole log
abbrev pub QuietLogsAreExecuted : Type 0
QuietLogsAreExecuted =
    (words : ℕ → ℕ → ℕ × ℕ) (scenario : Scenario) (journal prefix : Rows) (base : Base) → IsQuietPrefix words scenario journal prefix → Among base (groups_at as_nodes scenario.groups prefix) → IsThere (births as_nodes scenario) prefix base.core.id
    → (known : IsKnownGroup words scenario journal prefix base) × (length (decided_log as_nodes base prefix) + 1 ≡ known.course.newest)
