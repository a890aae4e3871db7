-- What is known of groups, links and routes in a quiet prefix of a calm journal.
use Rattle.std.specs.Prelude.{◌≡◌, ℕ, ◌+◌, false, length, Some}
use Rattle.sc_base.specs.Definitions.{Among}
use Rattle.sc_node_table.specs.Values.{Base, Route}
use Rattle.sc_scenario.specs.declared.scenario.scenarios.Scenario.{Scenario}
use Rattle.sc_node_table.specs.NodeDefinitions.{ReplicaState}
use Rattle.sc_meaning.specs.sound.SoundDefinitions.{groups_at, decided_log, births, as_nodes}
use Rattle.sc_live_steps.specs.calm.CalmDefinitions.{IsLinked, Rows}
use Rattle.sc_live_steps.specs.following.FollowingDefinitions.{Course, SlotLeaders}
use Rattle.sc_live_steps.specs.orders.OrderDefinitions.{Still, IsAt}
use Rattle.sc_live_answers.specs.LogStates.{state_at}
use Rattle.sc_live_journals.specs.scenes.SceneDefinitions.{IsThere, scene_at}
use Rattle.sc_live_answers.specs.WellLedQuietGroups.{replicas_at, IsQuietGroup, IsTakenIn}
use Rattle.sc_live_plain.specs.PlainDefinitions.{replicas_after}
use Rattle.sc_live_answers.specs.QuietRanges.{AreKnown}
use Rattle.sc_live_answers.specs.SettingCharts.{GoneAgree}
use Rattle.sc_live_answers.specs.Settings.{AreReachable}
use Rattle.sc_live_answers.specs.QuietPrefixes.{IsQuietPrefix}
use Rattle.sc_live_answers.specs.Links.{AreAllFree}

-- after these rows each of their groups has a replica
abbrev pub AreAllThere : Scenario → Rows → Type 0
AreAllThere scenario rows = (base : Base) → Among base (groups_at as_nodes scenario.groups rows) → IsThere (births as_nodes scenario) rows base.core.id

-- in a quiet prefix all replicas of one group that are gone know the same route
abbrev pub RoutesInPrefixesAgree : Type 0
RoutesInPrefixesAgree = (words : ℕ → ℕ → ℕ × ℕ) (scenario : Scenario) (journal prefix : Rows) → IsQuietPrefix words scenario journal prefix → GoneAgree (replicas_after scenario prefix)

-- in each course of a group of a quiet prefix, the newest state is the one after the group's whole decided log
abbrev pub QuietCoursesEnd : Type 0
QuietCoursesEnd =
    (words : ℕ → ℕ → ℕ × ℕ) (scenario : Scenario) (journal prefix : Rows) (by : SlotLeaders) (base : Base) (course : Course) → IsQuietPrefix words scenario journal prefix → Among base (groups_at as_nodes scenario.groups prefix)
    → IsQuietGroup by words scenario journal prefix base course → length (decided_log as_nodes base prefix) + 1 ≡ course.newest

-- where no part of an order is left in a quiet prefix, no group is locked by its log
abbrev pub StillPrefixesAreFree : Type 0
StillPrefixesAreFree =
    (words : ℕ → ℕ → ℕ × ℕ) (scenario : Scenario) (journal prefix : Rows) → IsQuietPrefix words scenario journal prefix → IsAt Still (scene_at (births as_nodes scenario) prefix) → AreAllFree scenario prefix

-- where no group of a quiet prefix is locked by its log, the groups are known (`AreKnown`)
abbrev pub PrefixesAreKnown : Type 0
PrefixesAreKnown = (words : ℕ → ℕ → ℕ × ℕ) (scenario : Scenario) (journal prefix : Rows) → IsQuietPrefix words scenario journal prefix → AreAllFree scenario prefix → AreKnown scenario prefix

-- where no group of a quiet prefix is locked by its log, links and routes name nodes that have a replica of the group named
abbrev pub PrefixesAreReachable : Type 0
PrefixesAreReachable = (words : ℕ → ℕ → ℕ × ℕ) (scenario : Scenario) (journal prefix : Rows) → IsQuietPrefix words scenario journal prefix → AreAllFree scenario prefix → AreReachable (replicas_after scenario prefix)

-- where no group of a quiet prefix is locked by its log, the route by which a group went names a group of which each node of the route has a replica
abbrev pub PrefixesAreTakenIn : Type 0
PrefixesAreTakenIn =
    (words : ℕ → ℕ → ℕ × ℕ) (scenario : Scenario) (journal prefix : Rows) (by : SlotLeaders) (base : Base) (course : Course) (into : Route) → IsQuietPrefix words scenario journal prefix → AreAllFree scenario prefix
    → Among base (groups_at as_nodes scenario.groups prefix) → IsQuietGroup by words scenario journal prefix base course → (state_at as_nodes base journal course.newest).core.gone ≡ Some into → IsTakenIn (replicas_at scenario prefix) into

-- where no group of a quiet prefix is locked by its log, the link of a leader whose group stands is as a quiet journal needs it (`IsLinked`)
abbrev pub PrefixesAreLinked : Type 0
PrefixesAreLinked =
    (words : ℕ → ℕ → ℕ × ℕ) (scenario : Scenario) (journal prefix : Rows) (by : SlotLeaders) (base : Base) (course : Course) (lead : ReplicaState) → IsQuietPrefix words scenario journal prefix → AreAllFree scenario prefix
    → Among base (groups_at as_nodes scenario.groups prefix) → IsQuietGroup by words scenario journal prefix base course → course.gone ≡ false → replicas_at scenario prefix base.core.id course.ballot.node ≡ Some lead → IsLinked (replicas_at scenario prefix) lead
