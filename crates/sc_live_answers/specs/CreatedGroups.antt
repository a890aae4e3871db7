-- The child that an order makes, while the order is under way and in the next quiet journal.
use Rattle.std.specs.Prelude.{◌≡◌, ℕ, true, false, [], ◌++◌, Some}
use Rattle.std.specs.List.{list_any}
use Rattle.sc_base.specs.Definitions.{Among, Each, same_draw, is_member}
use Rattle.sc_node_table.specs.Values.{Draw, Base, OrderLine, Mail, Seat, Deliver}
use Rattle.sc_actor.specs.Definitions.{is_quiet}
use Rattle.sc_actor.specs.declared.rows.Event.TheVariants.{Told}
use Rattle.sc_live_orderly.specs.OrderlyDefinitions.{is_born, AreInTime}
use Rattle.sc_scenario.specs.declared.scenario.scenarios.Scenario.{Scenario}
use Rattle.sc_node_table.specs.NodeDefinitions.{NodeState, replica_of, ReplicaState, mailed}
use Rattle.sc_meaning.specs.sound.SoundDefinitions.{groups_at, Player, births, as_nodes}
use Rattle.sc_live_steps.specs.calm.CalmDefinitions.{players, HasReplica, Rows}
use Rattle.sc_live_journals.specs.rows.RowDefinitions.{view_at, marks_at, IsSeat, with_event}
use Rattle.sc_live_journals.specs.scenes.SceneDefinitions.{IsThere, IsNowhere, IsTaking}
use Rattle.sc_live_answers.specs.MailWithoutReplica.{IsYoung}
use Rattle.sc_live_answers.specs.OrderTasks.{Task}
use Rattle.sc_live_answers.specs.WaitingWork.{AreAtWork, IsTaskOf, IsGuidedRow}
use Rattle.sc_live_answers.specs.CalmJournals.{IsCalmJournal, ContinuesBy, IsNamedGroup}
use Rattle.sc_live_answers.specs.OrderUnderWay.{IsUnder}

-- the replica's state lists a child of this name
abbrev pub Knows : Draw → ReplicaState → Type 0
Knows name r = list_any (λ other. same_draw other name) r.group.core.born ≡ true

-- of the groups of a journal, one that had no replica in the quiet prefix has one only if it is the child of an order that splits; a node with a replica of that child has a replica of the parent that lists it; and a first member of the child whose replica of the parent lists it has a replica of the child
pub record AreCreatedByOrder (scenario : Scenario) (journal quiet rows : Rows) (task : Task) : Type 0 where
  pub only : (base : Base) → Among base (groups_at as_nodes scenario.groups journal) → IsNowhere (births as_nodes scenario) quiet base.core.id → IsThere (births as_nodes scenario) rows base.core.id → (task.splitting ≡ true) × (base.core.id ≡ task.name)
  pub known : task.splitting ≡ true → (base : Base) → Among base (groups_at as_nodes scenario.groups journal) → base.core.id ≡ task.name → (who : ℕ) (x : ReplicaState) → view_at (births as_nodes scenario) rows task.name who ≡ Some x
      → (r : ReplicaState) × (view_at (births as_nodes scenario) rows task.group who ≡ Some r) × Knows task.name r
  pub kept : task.splitting ≡ true → (base : Base) → Among base (groups_at as_nodes scenario.groups journal) → base.core.id ≡ task.name → (who : ℕ) (r : ReplicaState) → is_member base.core.members who ≡ true
      → view_at (births as_nodes scenario) rows task.group who ≡ Some r → Knows task.name r → HasReplica (view_at (births as_nodes scenario) rows) task.name who

-- after these rows each replica is of a group of the journal
abbrev pub AreOfGroups : Scenario → Rows → Rows → Type 0
AreOfGroups scenario journal rows =
    (name : Draw) (who : ℕ) (r : ReplicaState) → view_at (births as_nodes scenario) rows name who ≡ Some r → IsNamedGroup scenario journal name

-- one more delivery while an order with this task is under way, in a calm journal whose groups are guided at the row
pub record IsWorkingRow (words : ℕ → ℕ → ℕ × ℕ) (scenario : Scenario) (first : Base) (journal quiet rows : Rows) (line : OrderLine) (task : Task) (seat : Seat Player) (number : ℕ) : Type 0 where
  pub calm : IsCalmJournal words scenario journal
  pub under : IsUnder words scenario first journal quiet rows
  pub goes : ContinuesBy words scenario journal rows seat number
  pub guided : IsGuidedRow words scenario rows seat number
  pub named : AreOfGroups scenario journal rows
  pub of : IsTaskOf (births as_nodes scenario) quiet line task
  pub work : AreAtWork task words (births as_nodes scenario) rows

-- `AreCreatedByOrder` holds once an order is given in quiet, and after each delivery; the children that a row makes are young; and in the next quiet journal each group that has a replica has one at each of its first members
pub record ChildrenAreCreated : Type 0 where
  pub begins : (words : ℕ → ℕ → ℕ × ℕ) (scenario : Scenario) (journal quiet : Rows) (seat : Seat Player) (line : OrderLine) (task : Task) → IsSeat (births as_nodes scenario) seat → AreInTime (players words (births as_nodes scenario)) (with_event quiet seat (Told line))
      → IsTaskOf (births as_nodes scenario) quiet line task → AreCreatedByOrder scenario journal quiet (with_event quiet seat (Told line)) task
  pub keeps : (words : ℕ → ℕ → ℕ × ℕ) (scenario : Scenario) (first : Base) (journal quiet rows : Rows) (line : OrderLine) (task : Task) (seat : Seat Player) (number : ℕ) → IsWorkingRow words scenario first journal quiet rows line task seat number
      → AreCreatedByOrder scenario journal quiet rows task → AreCreatedByOrder scenario journal quiet (with_event rows seat (Deliver number)) task
  pub young : (words : ℕ → ℕ → ℕ × ℕ) (scenario : Scenario) (first : Base) (journal quiet rows : Rows) (line : OrderLine) (task : Task) (seat : Seat Player) (number : ℕ) → IsWorkingRow words scenario first journal quiet rows line task seat number
      → AreCreatedByOrder scenario journal quiet rows task → (mail : Mail) (group : Draw) (node : NodeState) (r : ReplicaState) → IsTaking words (births as_nodes scenario) rows seat number mail group node → replica_of group node.replicas ≡ Some r
      → Each (IsYoung words (births as_nodes scenario) rows seat) (mailed mail.from mail.body (r, [])).1
  pub members : (words : ℕ → ℕ → ℕ × ℕ) (scenario : Scenario) (first : Base) (journal quiet rows more : Rows) (line : OrderLine) (task : Task) → IsCalmJournal words scenario journal → IsUnder words scenario first journal quiet rows → rows ≡ quiet ++ more
      → is_quiet (players words (births as_nodes scenario)) rows ≡ true → AreOfGroups scenario journal rows → IsTaskOf (births as_nodes scenario) quiet line task → AreCreatedByOrder scenario journal quiet rows task
      → ((base : Base) (who : ℕ) → Among base (groups_at as_nodes scenario.groups journal) → is_born (players words (births as_nodes scenario)) who ≡ false → marks_at (players words (births as_nodes scenario)) rows base.core.id who ≡ [])
      → (base : Base) → Among base (groups_at as_nodes scenario.groups journal) → IsThere (births as_nodes scenario) rows base.core.id → (node : ℕ) → is_member base.core.members node ≡ true → HasReplica (view_at (births as_nodes scenario) rows) base.core.id node
