-- What follows for groups and their children from what holds while an order is under way.
use Rattle.std.specs.Prelude.{◌≡◌, ℕ, false, [], ◌++◌, Some}
use Rattle.sc_base.specs.Definitions.{Among, Each}
use Rattle.sc_node_table.specs.Values.{Draw, Base, OrderLine, Mail, Seat}
use Rattle.sc_live_orderly.specs.OrderlyDefinitions.{is_born}
use Rattle.sc_scenario.specs.declared.scenario.scenarios.Scenario.{Scenario}
use Rattle.sc_node_table.specs.NodeDefinitions.{NodeState, replica_of, ReplicaState, mailed}
use Rattle.sc_meaning.specs.sound.SoundDefinitions.{groups_at, Player, births, as_nodes}
use Rattle.sc_live_steps.specs.calm.CalmDefinitions.{players, Rows}
use Rattle.sc_live_journals.specs.rows.RowDefinitions.{marks_at}
use Rattle.sc_live_answers.specs.GroupMail.{IsQuietWhileYoung}
use Rattle.sc_live_journals.specs.scenes.SceneDefinitions.{IsNowhere, IsTaking}
use Rattle.sc_live_answers.specs.WaitingWork.{AreAtWork, IsTaskOf, IsGuidedRow}
use Rattle.sc_live_answers.specs.OrderTasks.{Task}
use Rattle.sc_live_answers.specs.CalmJournals.{IsCalmJournal}
use Rattle.sc_live_answers.specs.OrderUnderWay.{IsUnder}

-- while an order is under way, no mail of a group is pending for a first member that has no replica of it yet; each first member of a group that existed in the quiet prefix has had a replica since, and no mail of any other group is under way
abbrev pub GroupsAreQuietWhileYoung : Type 0
GroupsAreQuietWhileYoung =
    (words : ℕ → ℕ → ℕ × ℕ) (scenario : Scenario) (first : Base) (journal quiet rows more : Rows) → IsCalmJournal words scenario journal → IsUnder words scenario first journal quiet rows → rows ≡ quiet ++ more
    → (base : Base) → Among base (groups_at as_nodes scenario.groups journal)
    → ((who : ℕ) → is_born (players words (births as_nodes scenario)) who ≡ false → marks_at (players words (births as_nodes scenario)) rows base.core.id who ≡ [])
    → IsQuietWhileYoung words (births as_nodes scenario) rows base

-- each child that a row makes is a group that had no replica in the quiet prefix
abbrev pub ChildrenWereNowhere : Type 0
ChildrenWereNowhere =
    (words : ℕ → ℕ → ℕ × ℕ) (scenario : Scenario) (quiet rows : Rows) (seat : Seat Player) (number : ℕ) (line : OrderLine) (task : Task) → IsTaskOf (births as_nodes scenario) quiet line task → IsGuidedRow words scenario rows seat number
    → AreAtWork task words (births as_nodes scenario) rows → (mail : Mail) (group : Draw) (node : NodeState) (r : ReplicaState) → IsTaking words (births as_nodes scenario) rows seat number mail group node → replica_of group node.replicas ≡ Some r
    → Each (λ child. IsNowhere (births as_nodes scenario) quiet child.core.id) (mailed mail.from mail.body (r, [])).1
