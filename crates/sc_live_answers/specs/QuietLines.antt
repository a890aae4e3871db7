-- A line of requests leaves a quiet journal.
use Rattle.std.specs.Prelude.{◌≡◌, ℕ, true, false, List, [], ◌∷◌, ◌++◌, Some, None, ◌⊎◌}
use Rattle.sc_node_table.specs.Values.{Draw, Base, OrderLine, Mail, Row}
use Rattle.sc_node_table.specs.NodeDefinitions.{ReplicaState, next}
use Rattle.sc_scenario.specs.declared.scenario.scenarios.Scenario.{Scenario}
use Rattle.sc_scenario.specs.scenario.Definitions.{IsValid}
use Rattle.sc_meaning.specs.sound.SoundDefinitions.{system_of, as_nodes}
use Rattle.sc_live_orderly.specs.OrderlyDefinitions.{rest, is_born}
use Rattle.sc_live_steps.specs.calm.CalmDefinitions.{MayPump, Ways, View as Replicas, HasReplica, StandsQuiet, IsGoneQuiet, IsAtRest, RisesAt}
use Rattle.sc_live_plain.specs.PlainDefinitions.{AreRequests, AreSeated, replicas_after, setting_at, AreFramesOf, DoHintsRise, IsQuietJournal, IsKept, IsLinkedSetting, Frame}

-- replicas of one group that have executed as many entries are in the same state
abbrev pub HaveOneLog : Replicas → Type 0
HaveOneLog at = (group : Draw) (one other : ℕ) (r s : ReplicaState) → at group one ≡ Some r → at group other ≡ Some s → next r ≡ next s → r.group ≡ s.group

-- all replicas are as in a quiet journal, and each is as any journal keeps it; and all may pump, if all might before
pub record AreReplicasQuiet (before at : Replicas) : Type 0 where
  pub groups : (group : Draw) (node : ℕ) → HasReplica at group node → StandsQuiet at group ⊎ IsGoneQuiet at group
  pub at_rest : (group : Draw) (node : ℕ) (r : ReplicaState) → at group node ≡ Some r → IsAtRest r
  pub rises : (group : Draw) (node : ℕ) (r : ReplicaState) → at group node ≡ Some r → r.running ≡ false → r.group.core.gone ≡ None → RisesAt at group r
  pub kept : (group : Draw) (node : ℕ) (r : ReplicaState) → at group node ≡ Some r → IsKept group node r
  pub may_pump : ((group : Draw) (node : ℕ) (r : ReplicaState) → before group node ≡ Some r → MayPump r) → (group : Draw) (node : ℕ) (r : ReplicaState) → at group node ≡ Some r → MayPump r

-- where a line of requests from a quiet journal leaves no mail to any player, all replicas are quiet again
abbrev pub LinesLeaveReplicasQuiet : Type 0
LinesLeaveReplicasQuiet =
    (words : ℕ → ℕ → ℕ × ℕ) (scenario : Scenario) (first : Base) (others : List Base) (before after : List (Row Mail OrderLine)) (frames : List Frame) (ways : Ways)
    → IsValid scenario → scenario.groups ≡ first ∷ others → IsQuietJournal words scenario first before → AreFramesOf (replicas_after scenario before) frames → DoHintsRise (replicas_after scenario before) ways
    → IsLinkedSetting (setting_at (replicas_after scenario before) frames ways) → AreSeated scenario (setting_at (replicas_after scenario before) frames ways)
    → AreRequests words scenario (setting_at (replicas_after scenario before) frames ways) before after
    → ((who : ℕ) → is_born (system_of as_nodes words scenario) who ≡ true → rest (system_of as_nodes words scenario) (before ++ after) who ≡ [])
    → HaveOneLog (replicas_after scenario before) → HaveOneLog (replicas_after scenario (before ++ after))
    → AreReplicasQuiet (replicas_after scenario before) (replicas_after scenario (before ++ after))

-- where a line of requests from a quiet journal leaves no mail to any player, the journal is quiet again
abbrev pub LinesLeaveQuiet : Type 0
LinesLeaveQuiet =
    (words : ℕ → ℕ → ℕ × ℕ) (scenario : Scenario) (first : Base) (others : List Base) (before after : List (Row Mail OrderLine)) (frames : List Frame) (ways : Ways)
    → IsValid scenario → scenario.groups ≡ first ∷ others → IsQuietJournal words scenario first before → AreFramesOf (replicas_after scenario before) frames → DoHintsRise (replicas_after scenario before) ways
    → IsLinkedSetting (setting_at (replicas_after scenario before) frames ways) → AreSeated scenario (setting_at (replicas_after scenario before) frames ways)
    → AreRequests words scenario (setting_at (replicas_after scenario before) frames ways) before after
    → ((who : ℕ) → is_born (system_of as_nodes words scenario) who ≡ true → rest (system_of as_nodes words scenario) (before ++ after) who ≡ [])
    → HaveOneLog (replicas_after scenario before) → HaveOneLog (replicas_after scenario (before ++ after))
    → IsQuietJournal words scenario first (before ++ after)
