-- Each child that a node makes by a mail is a group of the journal, as it began.
use Rattle.std.proofs.Common.{◌≡◌, ℕ, ◌≤◌, eqb, true, List, [], ◌∷◌, ◌++◌, length, map, drop, Option, Some, None, inl, inr, refl, sym, ◌∙◌, ap, subst, arith}
use Rattle.sc_base.specs.Definitions.{Among, same_draw, is_member}
use Rattle.sc_node_table.specs.Values.{Draw, Command, Base, Route, Mail, MailBody, Node, Seat}
use Rattle.sc_base.proofs.Lemmas.{draw_is}
use Rattle.sc_actor.specs.Definitions.{mails, numbered, value}
use Rattle.sc_group_table.specs.machine.MachineDefinitions.{group_of, state_after}
use Rattle.sc_meaning.proofs.EntriesProofs.EntryLemmas.{births_are_children}
use Rattle.sc_words.proofs.PaxosProofs.PaxosLemmas.{Each-among, Each-weaker, find_found}
use Rattle.sc_paxos_law.proofs.Lemmas.{Among-either, from_map}
use Rattle.sc_scenario.specs.declared.scenario.scenarios.Scenario.{Scenario}
use Rattle.sc_node_table.specs.NodeDefinitions.{NodeState, replica_of, group_of_mail, ReplicaState, name_of, mailed, numbers_from}
use Rattle.sc_meaning.specs.sound.SoundDefinitions.{groups_at, entries_at, decided_log, Ahead, Player, Lawful, births, node_seat, client_seat, player_table}
use Rattle.sc_law_entries.specs.ring.RingDefinitions.{Sources}
use Rattle.sc_law_entries.specs.logs.LogDefinitions.{Rows, AreFound, StayRecorded, DecideInTurn}
use Rattle.sc_law_entries.proofs.LogsProofs.LogLemmas.{deciding_rows, groups_are_found, deciding_rows_stay, JournalFacts}
use Rattle.sc_law_groups.proofs.GroupProofs.GroupLemmas.{first_of, h_of, held, IsOneOf, IsChildOf, mailed_kids, among_numbers, number_among}
use Rattle.sc_law_groups.specs.whole.WholeDefinitions.{BeginsWell, OrdersAreAllowed, stories_at, MayQueue, IsHeardAt, PartiesAreApart, MergesFit}
use Rattle.sc_law_groups.proofs.WholeProofs.WholeLemmas.{parties_are_apart, merges_fit, goes_on_from, speaks, members_stay_rosters, Holds}
use Rattle.sc_live_journals.specs.rows.RowDefinitions.{IsSeat, made_children, AreAsBegun}
use Rattle.sc_live_journals.proofs.LogsProofs.GroupLogLemmas.{no_client, one_node, whole, prefix}
pub use Rattle.sc_live_journals.proofs.LogsProofs.LoggedChildren.{child_in}

module _ (sources : Sources) (ahead : Ahead) (words : ℕ → ℕ → ℕ × ℕ) (scenario : Scenario) (route : Route) (b : BeginsWell sources ahead scenario route) (journal : Rows) (orders : OrdersAreAllowed sources ahead scenario journal) (lawful : Lawful ahead words scenario journal)
    (base : Base) (stands : Among base (groups_at ahead scenario.groups journal)) (rows more : Rows) (e : journal ≡ rows ++ more) where
  abbrev bases : List Base
  bases = groups_at ahead scenario.groups rows

  abbrev made : Base → Command → Type 0
  made = MayQueue sources ahead scenario rows

  abbrev heard : MailBody → Type 0
  heard = IsHeardAt sources ahead scenario rows

  -- what the laws of journals say of these rows, and of all
  then_ : Holds sources ahead words scenario route b.place b.seats b.asks rows
  then_ = prefix sources ahead words scenario route b journal orders lawful rows more e

  all : Holds sources ahead words scenario route b.place b.seats b.asks journal
  all = whole sources ahead words scenario route b journal orders lawful

  found : AreFound ahead scenario.groups rows
  found = groups_are_found sources ahead scenario.groups b.place rows then_.turn

  found_all : AreFound ahead scenario.groups journal
  found_all = groups_are_found sources ahead scenario.groups b.place journal all.turn

  stay : StayRecorded ahead scenario.groups rows more
  stay = deciding_rows_stay sources ahead scenario.groups b.place rows more (subst (DecideInTurn sources ahead scenario.groups []) e all.turn)

  told : JournalFacts sources ahead scenario.groups rows
  told = deciding_rows sources ahead scenario.groups b.place rows then_.turn

  apart : PartiesAreApart (stories_at ahead scenario.groups rows)
  apart = parties_are_apart sources scenario.groups b.place (entries_at ahead scenario.groups rows) told.allowed

  fit : MergesFit (stories_at ahead scenario.groups rows)
  fit = merges_fit sources scenario.groups (λ g a. then_.fresh g (found.first g a)) (entries_at ahead scenario.groups rows) told.allowed

  -- the child of a group is the one of its name
  as_begun : (n : ℕ) (parent : Base) → Among parent bases → (child : Base) → IsChildOf ahead parent (made parent) n (h_of rows parent) child → child.core.id ≡ base.core.id → (child ≡ base) × (is_member base.core.members n ≡ true)
  as_begun n parent a child fact same =
      let log = fact.prefix ++ fact.command ∷ [] in
      let decided = decided_log ahead parent rows in
      let on = goes_on_from ahead parent rows (then_.kept.parts parent a).lawful log fact.is_log in
      let birth = sym (births_are_children (state_after (group_of parent) fact.prefix) fact.command) ∙ fact.child_is in
      let there : Among child bases = found.prefixes parent a log (drop (length log) decided) on child (child_in (group_of parent) fact.prefix fact.command child birth) in
      let later = subst (λ xs. Among child (groups_at ahead scenario.groups xs)) (sym e) (stay.groups child there) in
      let one = found_all.apart child base later stands same in
      (one, subst (λ (x : Base). is_member x.core.members n ≡ true) one fact.member)

  module _ (seat : Seat Player) (node : NodeState) (seated : IsSeat (births ahead scenario) seat) (fact : value player_table seat rows ≡ Node node) where
    -- the node's number
    number : (n : ℕ) × (1 ≤ n) × (n ≤ scenario.nodes) × (value player_table (node_seat ahead scenario.groups scenario.policy n) rows ≡ Node node) × (n ≡ seat.who)
    number =
        elim (Among-either seat (map (node_seat ahead scenario.groups scenario.policy) (numbers_from 1 scenario.nodes)) (map (client_seat route) scenario.clients)
        (subst (Among seat) b.seats.seats (find_found (λ (other : Seat Player). eqb other.who seat.who) (births ahead scenario) seat seated).0)) [
          | inl a ↦ (
              let at = from_map (node_seat ahead scenario.groups scenario.policy) (numbers_from 1 scenario.nodes) seat a in
              let bounds = among_numbers 1 scenario.nodes at.0 at.1 in
              let most = bounds.1 in
              (at.0, bounds.0, omega (arith, most), subst (λ (s : Seat Player). value player_table s rows ≡ Node node) (sym at.2) fact, ap (λ (s : Seat Player). s.who) at.2))
          | inr a ↦ (
              let at = from_map (client_seat route) scenario.clients seat a in
              let client = then_.kept.clients at.0 at.1 in
              absurd (no_client client.client node (sym client.value_is ∙ ap (λ (s : Seat Player). value player_table s rows) at.2 ∙ fact)))
        ]

    pub children_as_begun : (place : ℕ) (mail : Mail) (group : Draw) → numbered (mails rows) place ≡ Some mail → group_of_mail mail.body ≡ Some group
        → AreAsBegun base seat.who (made_children (replica_of group node.replicas) mail.from mail.body)
    children_as_begun place mail group sent into = by (replica_of group node.replicas) refl
      where
        by : (o : Option ReplicaState) → replica_of group node.replicas ≡ o → AreAsBegun base seat.who (made_children o mail.from mail.body)
        by None here = tt
        by (Some r) here =
            let in_list = find_found (λ (s : ReplicaState). same_draw (name_of s) group) node.replicas r here in
            let named = draw_is (name_of r) group in_list.1 in
            let at = then_.kept.nodes number.0 number.1 number.2 in
            let same : at.node ≡ node = one_node at.node node (sym at.value_is ∙ number.3) in
            let inside : Among r at.node.replicas = subst (λ (x : NodeState). Among r x.replicas) (sym same) in_list.0 in
            let mine = Each-among (λ s. IsOneOf bases (name_of s)) at.node.replicas r at.fact.known inside in
            let parent = mine.0 in
            let a = mine.1 in
            let part = then_.kept.parts parent a in
            let was = held ahead parent (made parent) number.0 (h_of rows parent) at.node.replicas (at.fact.holds parent a) r inside mine.2 in
            Each-weaker (IsChildOf ahead parent (made parent) number.0 (h_of rows parent)) (λ child. child.core.id ≡ base.core.id → (child ≡ base) × (is_member base.core.members seat.who ≡ true))
            (λ child k name. (let one = as_begun number.0 parent a child k name in (one.0, subst (λ who. is_member base.core.members who ≡ true) number.4 one.1)))
            (mailed mail.from mail.body (r, [])).1
            (mailed_kids ahead parent (made parent) heard number.0 (h_of rows parent) (speaks sources ahead scenario b.place rows then_.turn apart fit parent a part.lawful (then_.fresh parent a))
            (λ log every. (let roster = members_stay_rosters (group_of parent) log (then_.fresh parent a).roster in first_of (state_after (group_of parent) log).core.members roster.some))
            part.lawful part.requested mail mail.body r was group into (sym named ∙ mine.2) (part.true_mail mail (number_among (mails rows) place mail sent)))
