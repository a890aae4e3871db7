-- Replicas of one group which have executed as many entries are in the same state.
use Rattle.std.specs.Prelude.{◌≡◌, ℕ, ◌≤◌, true, List, [], ◌∷◌, ◌++◌, Some}
use Rattle.sc_node_table.specs.Values.{Draw, Base, OrderLine, Mail, Row}
use Rattle.sc_node_table.specs.NodeDefinitions.{ReplicaState}
use Rattle.sc_scenario.specs.declared.scenario.scenarios.Scenario.{Scenario}
use Rattle.sc_scenario.specs.scenario.Definitions.{IsValid}
use Rattle.sc_meaning.specs.sound.SoundDefinitions.{Lawful, system_of, as_nodes}
use Rattle.sc_live_orderly.specs.OrderlyDefinitions.{rest, is_born}
use Rattle.sc_live_steps.specs.calm.CalmDefinitions.{MayPump, Ways, View as Replicas, HasReplica}
use Rattle.sc_live_plain.specs.PlainDefinitions.{AreRequests, AreSeated, replicas_after, setting_at, AreFramesOf, DoHintsRise, IsQuietJournal, IsLinkedSetting, Frame}
use Rattle.sc_live_answers.specs.QuietLines.{HaveOneLog}

-- all replicas may pump (`MayPump`)
abbrev pub AllMayPump : Replicas → Type 0
AllMayPump at = (group : Draw) (node : ℕ) (r : ReplicaState) → at group node ≡ Some r → MayPump r

-- in each lawful journal of a valid scenario, whose replicas are at its nodes, replicas of one group which have executed as many entries are in the same state
abbrev pub LawfulJournalsHaveOneLog : Type 0
LawfulJournalsHaveOneLog =
    (words : ℕ → ℕ → ℕ × ℕ) (scenario : Scenario) (rows : List (Row Mail OrderLine)) → IsValid scenario → Lawful as_nodes words scenario rows
    → ((group : Draw) (node : ℕ) → HasReplica (replicas_after scenario rows) group node → (1 ≤ node) × (node ≤ scenario.nodes)) → HaveOneLog (replicas_after scenario rows)

-- a line of requests from a quiet journal that leaves no mail leaves a lawful journal quiet, and all replicas may pump if all might before
abbrev pub LawfulLinesLeaveQuiet : Type 0
LawfulLinesLeaveQuiet =
    (words : ℕ → ℕ → ℕ × ℕ) (scenario : Scenario) (first : Base) (others : List Base) (before after : List (Row Mail OrderLine)) (frames : List Frame) (ways : Ways)
    → IsValid scenario → scenario.groups ≡ first ∷ others → IsQuietJournal words scenario first before → AreFramesOf (replicas_after scenario before) frames → DoHintsRise (replicas_after scenario before) ways
    → IsLinkedSetting (setting_at (replicas_after scenario before) frames ways) → AreSeated scenario (setting_at (replicas_after scenario before) frames ways)
    → AreRequests words scenario (setting_at (replicas_after scenario before) frames ways) before after
    → ((who : ℕ) → is_born (system_of as_nodes words scenario) who ≡ true → rest (system_of as_nodes words scenario) (before ++ after) who ≡ [])
    → Lawful as_nodes words scenario (before ++ after)
    → IsQuietJournal words scenario first (before ++ after) × (AllMayPump (replicas_after scenario before) → AllMayPump (replicas_after scenario (before ++ after)))
