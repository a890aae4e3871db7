-- A group that is well led is, in a quiet journal, as `IsQuiet` says.
use Rattle.std.specs.Prelude.{◌≡◌, ℕ, ◌^◌, ◌<◌, ◌≤◌, true, false, [], ◌++◌, length, Some}
use Rattle.sc_base.specs.Definitions.{Each, is_member}
use Rattle.sc_node_table.specs.Values.{Base, Free, Route}
use Rattle.sc_actor.specs.Definitions.{is_quiet}
use Rattle.sc_live_orderly.specs.OrderlyDefinitions.{is_born, AreInTime}
use Rattle.sc_words.specs.paxos.PaxosDefinitions.{IsAtLeast}
use Rattle.sc_scenario.specs.declared.scenario.scenarios.Scenario.{Scenario}
use Rattle.sc_node_table.specs.NodeDefinitions.{ReplicaState}
use Rattle.sc_meaning.specs.sound.SoundDefinitions.{births, as_nodes}
use Rattle.sc_live_steps.specs.calm.CalmDefinitions.{players, MayPump, View, HasReplica, IsAtRest, IsLinked, StandsQuiet, IsGoneQuiet}
use Rattle.sc_live_plain.specs.PlainDefinitions.{IsKept}
use Rattle.sc_law_entries.specs.logs.LogDefinitions.{Rows}
use Rattle.sc_live_steps.specs.following.FollowingDefinitions.{members_at, Course, SlotLeaders}
use Rattle.sc_live_journals.specs.rows.RowDefinitions.{view_at, marks_at}
use Rattle.sc_live_journals.specs.logs.LogDefinitions.{logged_sets, IsGroupOf}
use Rattle.sc_live_journals.specs.groups.GroupDefinitions.{IsWellLed, AreTaughtAt, HasOneLog}
use Rattle.sc_live_answers.specs.LedGroups.{over_at}
use Rattle.sc_live_answers.specs.LogStates.{state_at}

-- the replicas of players after some rows, by group and number
abbrev pub replicas_at : Scenario → Rows → View
replicas_at scenario rows = view_at (births as_nodes scenario) rows

-- a group of a lawful journal after a quiet prefix of at most 2^28 rows that come in time: it is well led, has one log, and its members learn all entries; no mail of it is for a number that is no player; and each of its first members has a replica
pub record IsQuietGroup (by : SlotLeaders) (words : ℕ → ℕ → ℕ × ℕ) (scenario : Scenario) (journal prefix : Rows) (base : Base) (course : Course) : Type 0 where
  pub group : IsGroupOf as_nodes words scenario journal base
  pub more : Rows
  pub split : journal ≡ prefix ++ more
  pub timely : AreInTime (players words (births as_nodes scenario)) prefix
  pub quiet : is_quiet (players words (births as_nodes scenario)) prefix ≡ true
  pub short : length prefix ≤ 2 ^ 28
  pub strangers : (who : ℕ) → is_born (players words (births as_nodes scenario)) who ≡ false → marks_at (players words (births as_nodes scenario)) prefix base.core.id who ≡ []
  pub led : IsWellLed (logged_sets as_nodes base journal) (over_at as_nodes base journal) by words (births as_nodes scenario) prefix base course
  pub taught : AreTaughtAt (logged_sets as_nodes base journal) words (births as_nodes scenario) prefix base course
  pub one : HasOneLog (logged_sets as_nodes base journal) (over_at as_nodes base journal) by (births as_nodes scenario) prefix base
  pub born : (node : ℕ) → is_member base.core.members node ≡ true → HasReplica (replicas_at scenario prefix) base.core.id node

-- in a quiet prefix each node that was ever a member of a quiet group (`IsQuietGroup`) has a replica of it
abbrev pub MembersHaveReplicas : Type 0
MembersHaveReplicas =
    (by : SlotLeaders) (words : ℕ → ℕ → ℕ × ℕ) (scenario : Scenario) (journal prefix : Rows) (base : Base) (course : Course) → IsQuietGroup by words scenario journal prefix base course
    → (node slot : ℕ) → slot ≤ course.newest → is_member (members_at (logged_sets as_nodes base journal) slot) node ≡ true → HasReplica (replicas_at scenario prefix) base.core.id node

-- no replica of the group saw a later ballot than the course's, or accepted anything at a slot at which nothing was offered
abbrev pub SawNoMore : View → Base → Course → Type 0
SawNoMore at base course = (node : ℕ) (r : ReplicaState) → at base.core.id node ≡ Some r → IsAtLeast course.ballot r.top × Each (λ report. report.slot < course.bound) r.acceptor.accepted

-- a quiet group (`IsQuietGroup`) that is not gone stands as `StandsQuiet` says, with the course's node as its leader, where `SawNoMore` holds and the leader's link is as `IsLinked` says
abbrev pub QuietGroupsStand : Type 0
QuietGroupsStand =
    (by : SlotLeaders) (words : ℕ → ℕ → ℕ × ℕ) (scenario : Scenario) (journal prefix : Rows) (base : Base) (course : Course) → IsQuietGroup by words scenario journal prefix base course → course.gone ≡ false
    → SawNoMore (replicas_at scenario prefix) base course → ((lead : ReplicaState) → replicas_at scenario prefix base.core.id course.ballot.node ≡ Some lead → IsLinked (replicas_at scenario prefix) lead)
    → (stands : StandsQuiet (replicas_at scenario prefix) base.core.id) × (replicas_at scenario prefix base.core.id course.ballot.node ≡ Some stands.lead)

-- each node that the route names has a replica of the group that the route names
abbrev pub IsTakenIn : View → Route → Type 0
IsTakenIn at into = (node : ℕ) → is_member into.members node ≡ true → HasReplica at into.group node

-- a quiet group (`IsQuietGroup`) that is gone is as `IsGoneQuiet` says, where the nodes of the group that it went into have a replica of that group
abbrev pub QuietGroupsAreGone : Type 0
QuietGroupsAreGone =
    (by : SlotLeaders) (words : ℕ → ℕ → ℕ × ℕ) (scenario : Scenario) (journal prefix : Rows) (base : Base) (course : Course) → IsQuietGroup by words scenario journal prefix base course → course.gone ≡ true
    → ((into : Route) → (state_at as_nodes base journal course.newest).core.gone ≡ Some into → IsTakenIn (replicas_at scenario prefix) into) → IsGoneQuiet (replicas_at scenario prefix) base.core.id

-- each replica of the group that runs has no act and no request or order queued
abbrev pub IsDone : View → Base → Type 0
IsDone at base = (node : ℕ) (r : ReplicaState) → at base.core.id node ≡ Some r → r.running ≡ true → (r.acts ≡ []) × (r.backlog ≡ [])

-- each replica of a quiet group (`IsQuietGroup`) is at rest (`IsAtRest`), where the newest state is not locked and no replica that runs has anything queued
abbrev pub QuietReplicasRest : Type 0
QuietReplicasRest =
    (by : SlotLeaders) (words : ℕ → ℕ → ℕ × ℕ) (scenario : Scenario) (journal prefix : Rows) (base : Base) (course : Course) → IsQuietGroup by words scenario journal prefix base course
    → (state_at as_nodes base journal course.newest).core.lock ≡ Free → IsDone (replicas_at scenario prefix) base
    → (node : ℕ) (r : ReplicaState) → replicas_at scenario prefix base.core.id node ≡ Some r → IsAtRest r

-- each replica of a quiet group (`IsQuietGroup`) is as any journal keeps it (`IsKept`), and may pump where it keeps no report while it does not run
pub record QuietReplicasAreKept : Type 0 where
  pub kept : (by : SlotLeaders) (words : ℕ → ℕ → ℕ × ℕ) (scenario : Scenario) (journal prefix : Rows) (base : Base) (course : Course) → IsQuietGroup by words scenario journal prefix base course
      → (node : ℕ) (r : ReplicaState) → replicas_at scenario prefix base.core.id node ≡ Some r → IsKept base.core.id node r
  pub pumps : (by : SlotLeaders) (words : ℕ → ℕ → ℕ × ℕ) (scenario : Scenario) (journal prefix : Rows) (base : Base) (course : Course) → IsQuietGroup by words scenario journal prefix base course
      → (node : ℕ) (r : ReplicaState) → replicas_at scenario prefix base.core.id node ≡ Some r → (r.running ≡ false → r.leader.reports ≡ []) → MayPump r
