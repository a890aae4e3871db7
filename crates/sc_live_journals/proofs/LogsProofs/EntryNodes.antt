-- Each entry of a group's log brings nodes of the scenario, row by row of a lawful journal of a valid scenario.
use Rattle.std.proofs.Common.{◌≡◌, ℕ, Bool, List, [], ◌∷◌, ◌++◌, length, drop, inl, inr, refl, sym, ◌∙◌, subst, append_assoc, append-nil}
use Rattle.sc_base.specs.Definitions.{Among, Each, Drawer, next_name}
use Rattle.sc_node_table.specs.Values.{Command, Base, Route, OrderLine, Mail, MailBody, Event, Tick, Row}
use Rattle.sc_actor.specs.declared.rows.Event.TheVariants.{Told}
use Rattle.sc_actor.specs.Definitions.{IsStep}
use Rattle.sc_actor.proofs.Lemmas.{lawful-induction}
use Rattle.sc_group_table.specs.machine.MachineDefinitions.{group_of, state_after}
use Rattle.sc_meaning.proofs.EntriesProofs.EntryLemmas.{births_are_children}
use Rattle.sc_node_table.specs.NodeDefinitions.{names_after_tick, waited_in, ReplicaState}
use Rattle.sc_words.proofs.PaxosProofs.PaxosLemmas.{Each-among, Each-append, Each-from_All}
use Rattle.sc_paxos_law.proofs.Lemmas.{Among-right}
use Rattle.sc_scenario.specs.scenario.Definitions.{IsBounded, IsBoundedLine, IsUpTo}
use Rattle.sc_scenario.specs.declared.scenario.scenarios.Scenario.{Scenario}
use Rattle.sc_meaning.specs.sound.SoundDefinitions.{groups_at, decided_log, decided_state, Ahead, Lawful, schedule, system_of}
use Rattle.sc_law_entries.specs.ring.RingDefinitions.{Sources}
use Rattle.sc_law_entries.specs.logs.LogDefinitions.{Rows, added_by, AreFound, DecidesInTurn}
use Rattle.sc_law_entries.proofs.LogsProofs.LogLemmas.{groups_are_found, groups_are_old_or_new, deciding_rows_stay, in_turn_parts}
use Rattle.sc_law_entries.proofs.NamesProofs.NameLemmas.{Each-drop}
use Rattle.sc_law_groups.proofs.GroupProofs.GroupLemmas.{at_start, first_of, h_of, Kept, IsLater, Moved, push, decided_made, entry_offered, each_got, GivesAllowedOrder, told_induction, HasPlayers, MayGiveOrder, KnowsOffspring, moved, MayTick}
use Rattle.sc_law_groups.specs.whole.WholeDefinitions.{BeginsWell, OrdersAreAllowed}
use Rattle.sc_law_groups.proofs.WholeProofs.WholeLemmas.{newborn_is_new, StepsKeep, IsOldOrNew, goes_on_from, grown, members_stay_rosters, Holds}
use Rattle.sc_live_journals.proofs.LogsProofs.JournalPrefixes.{prefix}
use Rattle.sc_live_journals.proofs.LogsProofs.NodesInGroups.{BringsNodes, HasNodes, SaysNodes, log_nodes}
use Rattle.sc_live_journals.proofs.LogsProofs.NamedNodes.{says_nodes}
use Rattle.sc_live_journals.proofs.LogsProofs.FirstMembers.{first_nodes, OrdersNodes, lines_nodes, wishes_nodes, children_nodes}
use Rattle.sc_live_journals.proofs.LogsProofs.LoggedChildren.{child_in}

-- what policies queue at a tick
ticks_nodes : (scenario : Scenario) (bases : List Base) (on : Bool) (drawer : Drawer) (rs : List ReplicaState) → MayTick bases (λ (base : Base). (BringsNodes (IsUpTo scenario.nodes))) on drawer rs
ticks_nodes scenario bases on drawer [] = tt
ticks_nodes scenario bases on drawer (r ∷ rs) =
    (λ b a into here leads line wished taken. wishes_nodes scenario on (waited_in r.group.core.lock r) line (next_name drawer) wished, ticks_nodes scenario bases on (names_after_tick on drawer r) rs)

module _ (sources : Sources) (ahead : Ahead) (words : ℕ → ℕ → ℕ × ℕ) (scenario : Scenario) (route : Route) (b : BeginsWell sources ahead scenario route) (journal : Rows) (orders : OrdersAreAllowed sources ahead scenario journal) (lawful : Lawful ahead words scenario journal)
    (bounded : IsBounded scenario) where
  abbrev bases : Rows → List Base
  bases rows = groups_at ahead scenario.groups rows

  -- what is queued brings nodes, and what is heard says nodes, whatever the rows
  abbrev made : Rows → Base → Command → Type 0
  made rows base = (BringsNodes (IsUpTo scenario.nodes))

  abbrev heard : Rows → MailBody → Type 0
  heard rows = (SaysNodes (IsUpTo scenario.nodes))

  -- what holds of the first rows: of their players and logs, and of the groups at their birth
  record NodesHold (rows : Rows) : Type 0 where
    kept : Kept ahead scenario scenario.groups (bases rows) route made heard rows
    begins : (base : Base) → Among base (bases rows) → (HasNodes (IsUpTo scenario.nodes)) base.core

  -- before any row
  none_hold : NodesHold []
  none_hold = record { kept = at_start ahead scenario scenario.groups route made heard b.apart; begins = first_nodes scenario bounded }

  -- each entry of a log was offered, so it brings nodes
  entries_nodes : (rows : Rows) → NodesHold rows → (base : Base) → Among base (bases rows) → Each (BringsNodes (IsUpTo scenario.nodes)) (decided_log ahead base rows)
  entries_nodes rows h base a = each_got (BringsNodes (IsUpTo scenario.nodes)) (decided_log ahead base rows) (λ place c at. (
      let part = h.kept.parts base a in
      let offer = entry_offered ahead base rows part.lawful place c at in
      part.requested offer.0 offer.1 c offer.2))

  -- ---- the orders of the schedule

  -- a row that gives no order but of nodes
  abbrev OrdersNameNodes : Row Mail OrderLine → Type 0
  OrdersNameNodes row = GivesAllowedOrder (OrdersNodes scenario) row.who row.event

  -- each order of the journal is of nodes
  told_nodes : Each OrdersNameNodes journal
  told_nodes =
      told_induction (OrdersNodes scenario) (system_of ahead words scenario) (Each OrdersNameNodes) (λ before row p told step. Each-append OrdersNameNodes before (row ∷ []) p (told, tt)) (schedule scenario) journal
      (lines_nodes scenario scenario.clients scenario.lines (Each-from_All (IsBoundedLine scenario.nodes scenario.clients) scenario.lines bounded.lines)) tt lawful

  -- ---- one row more

  module _ (rows : Rows) (row : Row Mail OrderLine) (more : Rows) (e : journal ≡ rows ++ row ∷ more) (h : NodesHold rows) (step : IsStep (system_of ahead words scenario) rows row) where
    abbrev next : Rows
    next = rows ++ row ∷ []

    -- what the laws of journals say before the row and after it
    before : Holds sources ahead words scenario route b.place b.seats b.asks rows
    before = prefix sources ahead words scenario route b journal orders lawful rows (row ∷ more) e

    after_it : Holds sources ahead words scenario route b.place b.seats b.asks next
    after_it = prefix sources ahead words scenario route b journal orders lawful next more (e ∙ sym (append_assoc rows (row ∷ []) more))

    -- the row decides in turn
    decides : DecidesInTurn sources ahead scenario.groups rows row
    decides = (in_turn_parts sources ahead scenario.groups [] rows (row ∷ []) after_it.turn).1.0

    -- the groups that there are before it
    found : AreFound ahead scenario.groups rows
    found = groups_are_found sources ahead scenario.groups b.place rows before.turn

    -- the players of the scenario
    players : HasPlayers ahead scenario scenario.groups (bases rows) route made
    players = record {
      seats = b.seats.seats;
      nodes = b.seats.nodes;
      numbered = b.seats.numbered;
      once = b.seats.once;
      issued = λ older base client seq op i. tt;
      some = λ older base a log all. (let roster = members_stay_rosters (group_of base) log (before.fresh base a).roster in first_of (state_after (group_of base) log).core.members roster.some);
    }

    -- a child that is created is one of the groups, under a name of its own
    offspring : KnowsOffspring ahead words scenario scenario.groups (bases rows) route made heard players rows
    offspring n base a child fact =
        let log = fact.prefix ++ fact.command ∷ [] in
        let decided = decided_log ahead base rows in
        let on = goes_on_from ahead base rows (h.kept.parts base a).lawful log fact.is_log in
        let birth = sym (births_are_children (state_after (group_of base) fact.prefix) fact.command) ∙ fact.child_is in
        let there = found.prefixes base a log (drop (length log) decided) on child (child_in (group_of base) fact.prefix fact.command child birth) in
        record { among = there; alone = λ other o same. found.apart other child o there same; open_slots = b.seats.open_slots }

    -- what the row's order may queue, and what policies do
    may_tell : (who : ℕ) (event : Event OrderLine) → GivesAllowedOrder (OrdersNodes scenario) who event → MayGiveOrder ahead words scenario scenario.groups (bases rows) route made heard players rows who event
    may_tell who (Told line) told = λ low high node fact base a into r held taken. told (next_name node.draws)
    may_tell who Tick told = λ low high node fact. ticks_nodes scenario (bases rows) node.policy node.draws node.replicas
    may_tell who _ told = tt

    -- what may be queued and heard stays so
    later : (r : Row Mail OrderLine) → IsLater ahead scenario scenario.groups (bases rows) route made heard rows r
    later r = record { made_later = λ base c m. m; heard_later = λ body t. t }

    -- what became of each part
    moves : Moved ahead scenario scenario.groups (bases rows) route made heard rows row
    moves =
        moved ahead words scenario scenario.groups (bases rows) route made heard players rows h.kept (λ body t tx coord hint. tt)
        (λ base a. says_nodes (IsUpTo scenario.nodes) ahead base (h.begins base a) (h_of rows base)) offspring (λ r steps. later r) row
        (may_tell row.who row.event (Each-among OrdersNameNodes (rows ++ row ∷ more) row (subst (Each OrdersNameNodes) e told_nodes) (Among-right row rows (row ∷ more) (inl refl)))) step

    -- the groups after the row
    old_or_new : (base : Base) → Among base (bases next) → IsOldOrNew (bases rows) base
    old_or_new base a = elim (groups_are_old_or_new sources ahead scenario.groups b.place rows before.turn row decides base a) [ inl was ↦ inl was | inr n ↦ inr (newborn_is_new ahead scenario.groups rows row found base n, (n.parent, n.stands)) ]

    -- they begin with nodes
    begin_next : (base : Base) → Among base (bases next) → (HasNodes (IsUpTo scenario.nodes)) base.core
    begin_next base a = elim (groups_are_old_or_new sources ahead scenario.groups b.place rows before.turn row decides base a) [
      | inl was ↦ h.begins base was
      | inr n ↦ (
          let parent = n.parent in
          let stepped = (moves.parts parent n.stands).stepped in
          let all = decided_made ahead scenario scenario.groups (bases rows) route made heard parent rows row stepped in
          children_nodes scenario (decided_state ahead parent rows) (added_by ahead rows row parent)
          (log_nodes (IsUpTo scenario.nodes) (group_of parent) (decided_log ahead parent rows) (h.begins parent n.stands) (entries_nodes rows h parent n.stands))
          (Each-drop (BringsNodes (IsUpTo scenario.nodes)) (length (decided_log ahead parent rows)) (decided_log ahead parent next) all) base n.named)
    ]

    -- and all holds with it
    next_holds : NodesHold next
    next_holds =
        let stay = deciding_rows_stay sources ahead scenario.groups b.place rows (row ∷ []) after_it.turn in
        record {
          kept = grown ahead scenario scenario.groups (bases rows) (bases next) route made heard next stay.groups (λ base other client seq op m. m)
              (push ahead scenario scenario.groups (bases rows) route made heard rows row (later row) h.kept moves) old_or_new;
          begins = begin_next;
        }

  -- ---- all rows

  -- what holds of each prefix of the journal
  abbrev P : Rows → Type 0
  P rows = (more : Rows) → journal ≡ rows ++ more → NodesHold rows

  -- one row more keeps it
  keeps : StepsKeep ahead words scenario P
  keeps rows row p step more e =
      let are : journal ≡ rows ++ row ∷ more = e ∙ append_assoc rows (row ∷ []) more in
      next_holds rows row more are (p (row ∷ more) are) step

  -- so it holds of the whole
  all_hold : NodesHold journal
  all_hold = lawful-induction (system_of ahead words scenario) P keeps (schedule scenario) journal (λ rest fact. none_hold) lawful [] (sym (append-nil journal))

  module _ (base : Base) (stands : Among base (bases journal)) where
    -- a group begins with nodes
    pub begins_nodes : (HasNodes (IsUpTo scenario.nodes)) base.core
    begins_nodes = all_hold.begins base stands

    -- and each entry of its log brings nodes
    pub brings_nodes : Each (BringsNodes (IsUpTo scenario.nodes)) (decided_log ahead base journal)
    brings_nodes = entries_nodes journal all_hold base stands
