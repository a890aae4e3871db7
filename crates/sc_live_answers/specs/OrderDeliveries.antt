-- Each delivery finds what the potential needs while an order is under way.
use Rattle.std.specs.Prelude.{◌≡◌, ℕ, ◌≤◌, true, [], Some, length}
use Rattle.sc_base.specs.Definitions.{Among, Each}
use Rattle.sc_node_table.specs.Values.{Draw, Base, Mail, Node, Client, Seat, Deliver}
use Rattle.sc_actor.specs.Definitions.{mails, numbered, value}
use Rattle.sc_client_table.specs.table.TableDefinitions.{Client as ClientState}
use Rattle.sc_group_table.specs.machine.MachineDefinitions.{applied}
use Rattle.sc_node_table.specs.NodeDefinitions.{NodeState, replica_of, group_of_mail, ReplicaState}
use Rattle.sc_scenario.specs.declared.scenario.scenarios.Scenario.{Scenario}
use Rattle.sc_meaning.specs.sound.SoundDefinitions.{groups_at, Player, player_table, births, as_nodes}
use Rattle.sc_live_steps.specs.calm.CalmDefinitions.{players, FindsCalm, Rows}
use Rattle.sc_live_journals.specs.rows.RowDefinitions.{with_event}
use Rattle.sc_live_journals.specs.charts.ChartDefinitions.{chart_at, quiet_prefix}
use Rattle.sc_live_plain.specs.PlainDefinitions.{replicas_after, DoHintsRise}
use Rattle.sc_live_answers.specs.Settings.{AreAtNodes}
use Rattle.sc_live_steps.specs.entries.StageEntries.{IsEntry}
use Rattle.sc_live_answers.specs.DeliveredMail.{IsPlainAt, IsNoRequest}
use Rattle.sc_live_answers.specs.FollowerMail.{IsUnsettled}
use Rattle.sc_live_answers.specs.LeaderVotes.{IsOrdersAlone}
use Rattle.sc_live_answers.specs.CalmJournals.{IsCalmJournal, AreSent, ContinuesBy}
use Rattle.sc_live_answers.specs.OrderUnderWay.{IsUnder}
use Rattle.sc_live_answers.specs.ChartQuestions.{AllLeadAlone}

-- at a leader only work of the order is in flight or ready; each command in flight is an entry of an order that leaves at most nine members; and no request waits while one is in flight
pub record CountsEntries (r : ReplicaState) : Type 0 where
  pub alone : IsOrdersAlone r
  pub backlog : (r.leader.flights ≡ [] → ⊥) → r.backlog ≡ []
  pub entries : Each (λ flight. IsEntry flight.value r × (length (applied r.group flight.value).0.core.members ≤ 9)) r.leader.flights

-- what else is known of a mail that comes to a node while an order is under way: its group is one of the journal, a replica that does not run keeps no reports, the mail is as `IsUnsettled` says, it is no request, and a leader there is as `CountsEntries` says
pub record IsKnownMail (scenario : Scenario) (journal : Rows) (mail : Mail) (node : NodeState) (name : Draw) : Type 0 where
  pub base : Base
  pub among : Among base (groups_at as_nodes scenario.groups journal)
  pub named : base.core.id ≡ name
  pub plain : IsPlainAt (replica_of name node.replicas)
  pub unsettled : (r : ReplicaState) → replica_of name node.replicas ≡ Some r → IsUnsettled r mail.body
  pub unasked : IsNoRequest mail.body
  pub counts : (r : ReplicaState) → replica_of name node.replicas ≡ Some r → r.running ≡ true → CountsEntries r

-- what is known of a delivery while an order is under way: each replica that runs leads its group alone, replicas are at nodes, hints rise by the chart, only a node takes the mail, and the mail is as `IsKnownMail` says
pub record IsKnownDelivery (words : ℕ → ℕ → ℕ × ℕ) (scenario : Scenario) (journal quiet rows : Rows) (far sent : ℕ) (seat : Seat Player) (number : ℕ) : Type 0 where
  pub alone : AllLeadAlone (births as_nodes scenario) rows
  pub homes : AreAtNodes scenario quiet
  pub prefix : quiet_prefix (players words (births as_nodes scenario)) rows ≡ quiet
  pub rise : DoHintsRise (replicas_after scenario quiet) (chart_at far sent (players words (births as_nodes scenario)) rows).ways
  pub nodes : (client : ClientState) → value player_table seat rows ≡ Client client → ⊥
  pub mail : (mail : Mail) (node : NodeState) (name : Draw) → numbered (mails rows) number ≡ Some mail → value player_table seat rows ≡ Node node → group_of_mail mail.body ≡ Some name → IsKnownMail scenario journal mail node name

-- a delivery as `IsKnownDelivery` says finds what the potential needs, by the chart of the rows before it
abbrev pub OrderRowsFindCalm : Type 0
OrderRowsFindCalm =
    (words : ℕ → ℕ → ℕ × ℕ) (scenario : Scenario) (first : Base) (journal quiet rows : Rows) (far sent : ℕ) (seat : Seat Player) (number : ℕ) → IsCalmJournal words scenario journal → IsUnder words scenario first journal quiet rows
    → ContinuesBy words scenario journal rows seat number → AreSent words scenario journal (with_event rows seat (Deliver number)) → IsKnownDelivery words scenario journal quiet rows far sent seat number
    → FindsCalm (chart_at far sent (players words (births as_nodes scenario)) rows) (births as_nodes scenario) rows seat (Deliver number)
