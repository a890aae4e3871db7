-- Members of groups are nodes of their scenario.
use Rattle.std.proofs.Common.{◌≡◌, ℕ, ◌≤◌, true}
use Rattle.sc_base.specs.Definitions.{Each, is_member}
use Rattle.sc_node_table.specs.Values.{Base, Route}
use Rattle.sc_words.proofs.PaxosProofs.PaxosLemmas.{Each-among}
use Rattle.sc_paxos_law.proofs.Lemmas.{member-among}
use Rattle.sc_scenario.specs.scenario.Definitions.{IsUpTo, ValidScenariosAreBounded}
use Rattle.sc_scenario.specs.declared.scenario.scenarios.Scenario.{Scenario}
use Rattle.sc_meaning.specs.sound.SoundDefinitions.{decided_log, Ahead, route_of}
use Rattle.sc_law_entries.specs.logs.LogDefinitions.{Rows}
use Rattle.sc_law_entries.specs.ring.RingDefinitions.{Sources}
use Rattle.sc_law_entries.specs.names.NameDefinitions.{OtherNamesAreFree, TakenOrdersAreAllowed, TakenWishesAreAllowed, WishesAreAtPositions, owner_in}
use Rattle.sc_law_groups.specs.whole.WholeDefinitions.{BeginsWell, section_op, OrdersAreAllowed, ValidScenariosBeginWell}
use Rattle.sc_law_groups.proofs.WholeProofs.WholeLemmas.{orders_allowed}
use Rattle.sc_live_journals.specs.logs.LogDefinitions.{logged_sets, IsGroupOf}
use Rattle.sc_live_answers.specs.AnswerDefinitions.{MembersAreHome}
use Rattle.sc_live_journals.proofs.LogsProofs.NodesInGroups.{BringsNodes, HasNodes}
use Rattle.sc_live_journals.proofs.LogsProofs.EntryNodes.{begins_nodes, brings_nodes}
use Rattle.sc_live_journals.proofs.LogsProofs.GroupLogLemmas.{slots_have_nodes}

module _ (bounded : ValidScenariosAreBounded) (begin : ValidScenariosBeginWell) (allowed : TakenOrdersAreAllowed) (wishes : TakenWishesAreAllowed) (positions : WishesAreAtPositions) (free : OtherNamesAreFree) where
  module _ (ahead : Ahead) (words : ℕ → ℕ → ℕ × ℕ) (scenario : Scenario) (journal : Rows) (base : Base) (group : IsGroupOf ahead words scenario journal base) where
    abbrev sources : Sources
    sources = record { owner = owner_in ahead scenario journal; request = section_op scenario }

    abbrev route : Route
    route = route_of (begin (owner_in ahead scenario journal) (free ahead scenario journal) ahead group.open_slots scenario group.valid).first

    well : BeginsWell sources ahead scenario route
    well = (begin (owner_in ahead scenario journal) (free ahead scenario journal) ahead group.open_slots scenario group.valid).well

    orders : OrdersAreAllowed sources ahead scenario journal
    orders = orders_allowed ahead words scenario (bounded scenario group.valid) allowed wishes positions journal group.lawful

    begins : HasNodes (IsUpTo scenario.nodes) base.core
    begins = begins_nodes sources ahead words scenario route well journal orders group.lawful (bounded scenario group.valid) base group.stands

    entries_are : Each (BringsNodes (IsUpTo scenario.nodes)) (decided_log ahead base journal)
    entries_are = brings_nodes sources ahead words scenario route well journal orders group.lawful (bounded scenario group.valid) base group.stands

    firsts : (node : ℕ) → is_member base.core.members node ≡ true → (1 ≤ node) × (node ≤ scenario.nodes)
    firsts node m = Each-among (IsUpTo scenario.nodes) base.core.members node begins.0 (member-among base.core.members node m)

    of_slots : (slot node : ℕ) → is_member (logged_sets ahead base journal slot) node ≡ true → (1 ≤ node) × (node ≤ scenario.nodes)
    of_slots = slots_have_nodes (IsUpTo scenario.nodes) ahead base journal begins entries_are

  pub members_are_home : MembersAreHome
  members_are_home = record { first = firsts; slots = of_slots }
