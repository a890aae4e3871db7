-- Each group of a quiet prefix has replicas.
use Rattle.std.specs.Prelude.{◌≡◌, ℕ, ◌<◌, ◌⊎◌, ◌++◌, true}
use Rattle.sc_base.specs.Definitions.{Among, is_member}
use Rattle.sc_node_table.specs.Values.{Base}
use Rattle.sc_live_orderly.specs.OrderlyDefinitions.{AreInTime}
use Rattle.sc_scenario.specs.declared.scenario.scenarios.Scenario.{Scenario}
use Rattle.sc_meaning.specs.sound.SoundDefinitions.{groups_at, decided_log, births, as_nodes}
use Rattle.sc_live_steps.specs.calm.CalmDefinitions.{players, HasReplica, Rows}
use Rattle.sc_live_steps.specs.following.FollowingDefinitions.{Teaches, Course, SlotLeaders}
use Rattle.sc_live_journals.specs.rows.RowDefinitions.{view_at, marks_at}
use Rattle.sc_live_journals.specs.groups.GroupDefinitions.{IsWellLed, HasOneLog, IsSentSo}
use Rattle.sc_live_journals.specs.logs.LogDefinitions.{logged_sets, IsGroupOf}
use Rattle.sc_live_answers.specs.LedGroups.{over_at}
use Rattle.sc_live_journals.specs.scenes.SceneDefinitions.{IsThere}
use Rattle.sc_live_answers.specs.LogChildren.{IsBirth}
use Rattle.sc_live_answers.specs.QuietPrefixes.{IsQuietPrefix}
use Rattle.sc_live_answers.specs.QuietPrefixGroups.{AreAllThere}

-- each member of a child that an executed entry of the group names has a replica of the child, or the Learn of that entry is under way to it
abbrev pub AreBorn : (ℕ → ℕ → ℕ × ℕ) → Scenario → Rows → Rows → Base → Course → Type 0
AreBorn words scenario journal rows base course =
    (slot : ℕ) (child : Base) (who : ℕ) → IsBirth (decided_log as_nodes base journal) base slot child → slot < course.newest → is_member child.core.members who ≡ true
    → HasReplica (view_at (births as_nodes scenario) rows) child.core.id who ⊎ Among (Teaches slot) (marks_at (players words (births as_nodes scenario)) rows base.core.id who)

-- after some rows `AreBorn` holds, in a course in which the group is well led
pub record IsBornOn (by : SlotLeaders) (words : ℕ → ℕ → ℕ × ℕ) (scenario : Scenario) (journal rows : Rows) (base : Base) : Type 0 where
  pub course : Course
  pub led : IsWellLed (logged_sets as_nodes base journal) (over_at as_nodes base journal) by words (births as_nodes scenario) rows base course
  pub born : AreBorn words scenario journal rows base course

-- `IsBornOn` holds after a prefix of a journal that comes in time, where the group has one log and its mail is as `IsSentSo` says
abbrev pub ChildrenAreMade : Type 0
ChildrenAreMade =
    (words : ℕ → ℕ → ℕ × ℕ) (by : SlotLeaders) (scenario : Scenario) (journal prefix more : Rows) (base : Base) → IsGroupOf as_nodes words scenario journal base → journal ≡ prefix ++ more → AreInTime (players words (births as_nodes scenario)) prefix
    → HasOneLog (logged_sets as_nodes base journal) (over_at as_nodes base journal) by (births as_nodes scenario) prefix base → IsSentSo (births as_nodes scenario) prefix base → IsBornOn by words scenario journal prefix base

-- each group of a quiet prefix has a replica
abbrev pub PrefixGroupsHaveReplicas : Type 0
PrefixGroupsHaveReplicas = (words : ℕ → ℕ → ℕ × ℕ) (scenario : Scenario) (journal prefix : Rows) → IsQuietPrefix words scenario journal prefix → AreAllThere scenario prefix

-- each first member of a group that has a replica in a quiet prefix has one
abbrev pub PrefixMembersHaveReplicas : Type 0
PrefixMembersHaveReplicas =
    (words : ℕ → ℕ → ℕ × ℕ) (scenario : Scenario) (journal prefix : Rows) (base : Base) → IsQuietPrefix words scenario journal prefix → Among base (groups_at as_nodes scenario.groups journal) → IsThere (births as_nodes scenario) prefix base.core.id
    → (node : ℕ) → is_member base.core.members node ≡ true → HasReplica (view_at (births as_nodes scenario) prefix) base.core.id node
