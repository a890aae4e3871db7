-- Mail which is delivered in a journal in which its group is well led finds what the potential needs at the node that takes it.
use Rattle.std.specs.Prelude.{◌≡◌, ℕ, ◌+◌, false, List, ◌++◌, Some, None}
use Rattle.sc_node_table.specs.Values.{Draw, Base, Mail, Install, Node, Seat, Deliver}
use Rattle.sc_actor.specs.Definitions.{mails, numbered, value}
use Rattle.sc_live_orderly.specs.OrderlyDefinitions.{AreInTime}
use Rattle.sc_scenario.specs.declared.scenario.scenarios.Scenario.{Scenario}
use Rattle.sc_node_table.specs.NodeDefinitions.{NodeState, replica_of, group_of_mail}
use Rattle.sc_meaning.specs.sound.SoundDefinitions.{Player, births, as_nodes, player_table}
use Rattle.sc_live_steps.specs.calm.CalmDefinitions.{players, Chart, IsCalmMailAt, Ways, Elsewhere, StandsOnce, Rows, led_elsewhere}
use Rattle.sc_live_steps.specs.following.FollowingDefinitions.{Course, SlotLeaders}
use Rattle.sc_live_journals.specs.rows.RowDefinitions.{IsSeat, with_event}
use Rattle.sc_live_journals.specs.logs.LogDefinitions.{logged_sets, IsGroupOf}
use Rattle.sc_live_journals.specs.groups.GroupDefinitions.{Delivers, IsSentSo}
use Rattle.sc_live_answers.specs.LedGroups.{over_at}
use Rattle.sc_live_answers.specs.SlotLeaders.{AreFew}
use Rattle.sc_live_answers.specs.DeliveredMail.{MeetsMail, NeedsAt}

-- the mail finds what the potential needs (`IsCalmMailAt`) at a node, by this chart
abbrev pub FindsBy : Chart → List (Seat Player) → Rows → ℕ → Mail → NodeState → Type 0
FindsBy chart births rows who mail node = IsCalmMailAt chart.ways chart.groups (led_elsewhere births rows who) mail.from mail.body node

-- a mail of a group of a lawful journal of a valid scenario comes to a node (`MeetsMail`), and the group stands once in the chart
pub record MeetsIn (chart : Chart) (words : ℕ → ℕ → ℕ × ℕ) (by : SlotLeaders) (scenario : Scenario) (journal prefix rows : Rows) (seat : Seat Player) (number : ℕ) (mail : Mail) (node : NodeState) (base : Base) (course : Course) : Type 0 where
  pub group : IsGroupOf as_nodes words scenario journal base
  pub meets : MeetsMail (logged_sets as_nodes base journal) (over_at as_nodes base journal) by words (births as_nodes scenario) prefix rows seat number mail node base course
  pub named : group_of_mail mail.body ≡ Some base.core.id
  pub once : StandsOnce base.core.id chart.groups

-- a mail as `MeetsIn` says finds what the potential needs, where it has what its kind needs besides (`NeedsAt`)
abbrev pub GroupMailFinds : Type 0
GroupMailFinds =
    (chart : Chart) (words : ℕ → ℕ → ℕ × ℕ) (by : SlotLeaders) (scenario : Scenario) (journal prefix rows : Rows) (seat : Seat Player) (number : ℕ) (mail : Mail) (node : NodeState) (base : Base) (course : Course)
    → MeetsIn chart words by scenario journal prefix rows seat number mail node base course → NeedsAt chart.ways (replica_of base.core.id node.replicas) mail.body → FindsBy chart (births as_nodes scenario) rows seat.who mail node

-- in a prefix of a journal whose rows come in time, where the group's mail is as `IsSentSo` says, each state that is delivered is one in which the group stands
abbrev pub StatesStand : Type 0
StatesStand =
    (words : ℕ → ℕ → ℕ × ℕ) (scenario : Scenario) (journal prefix more : Rows) (base : Base) → IsGroupOf as_nodes words scenario journal base → AreInTime (players words (births as_nodes scenario)) journal → AreFew as_nodes scenario journal base → journal ≡ prefix ++ more
    → IsSentSo (births as_nodes scenario) prefix base
    → (rows : Rows) (seat : Seat Player) (number : ℕ) (mail : Mail) (slot : ℕ) (state : Base) (sets : List (List ℕ)) → Delivers prefix rows seat number mail → mail.body ≡ Install base.core.id slot state sets → over_at as_nodes base journal (slot + 1) ≡ false

-- in a prefix of a journal whose rows come in time, where a group's mail is as `IsSentSo` says, all mail of the group that is delivered to a node finds what the potential needs, where it has what its kind needs besides (`NeedsAt`)
abbrev pub JournalMailFinds : Type 0
JournalMailFinds =
    (chart : Chart) (words : ℕ → ℕ → ℕ × ℕ) (scenario : Scenario) (journal prefix more : Rows) (base : Base) → IsGroupOf as_nodes words scenario journal base → AreInTime (players words (births as_nodes scenario)) journal → AreFew as_nodes scenario journal base → journal ≡ prefix ++ more
    → IsSentSo (births as_nodes scenario) prefix base
    → (rows : Rows) (seat : Seat Player) (number : ℕ) (mail : Mail) (node : NodeState) → Delivers prefix rows seat number mail → IsSeat (births as_nodes scenario) seat → value player_table seat rows ≡ Node node
    → group_of_mail mail.body ≡ Some base.core.id → StandsOnce base.core.id chart.groups → NeedsAt chart.ways (replica_of base.core.id node.replicas) mail.body → FindsBy chart (births as_nodes scenario) rows seat.who mail node

-- mail of no group, such as an answer, finds what the potential needs: it changes nothing at a node
abbrev pub StrayMailFinds : Type 0
StrayMailFinds =
    (ways : Ways) (groups : List Draw) (elsewhere : Elsewhere) (words : ℕ → ℕ → ℕ × ℕ) (scenario : Scenario) (rows : Rows) (seat : Seat Player) (number : ℕ) (mail : Mail) (node : NodeState)
    → AreInTime (players words (births as_nodes scenario)) (with_event rows seat (Deliver number)) → IsSeat (births as_nodes scenario) seat → value player_table seat rows ≡ Node node
    → numbered (mails rows) number ≡ Some mail → group_of_mail mail.body ≡ None → IsCalmMailAt ways groups elsewhere mail.from mail.body node

-- mail that is delivered to a node is addressed to it
abbrev pub MailIsForItsNode : Type 0
MailIsForItsNode =
    (words : ℕ → ℕ → ℕ × ℕ) (scenario : Scenario) (rows : Rows) (seat : Seat Player) (number : ℕ) (mail : Mail) (node : NodeState)
    → AreInTime (players words (births as_nodes scenario)) (with_event rows seat (Deliver number)) → IsSeat (births as_nodes scenario) seat → value player_table seat rows ≡ Node node
    → numbered (mails rows) number ≡ Some mail → mail.to ≡ node.me
