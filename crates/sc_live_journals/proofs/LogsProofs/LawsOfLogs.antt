-- The laws of this part of the crate, of lawful journals of valid scenarios.
use Rattle.std.proofs.Common.{◌≡◌, ℕ, ◌+◌, ◌<◌, ◌≤◌, true, List, [], ◌++◌, length, Some, refl, sym, ◌∙◌, ap, subst, arith}
use Rattle.sc_node_table.specs.Values.{Ballot, Command, Base, Route, Mail, Accepted as AcceptedMail, Learn, Install, Seat}
use Rattle.sc_base.specs.Definitions.{Each, IsRoster}
use Rattle.sc_base.proofs.Lemmas.{same_name}
use Rattle.sc_group_table.specs.machine.MachineDefinitions.{Group}
use Rattle.sc_actor.specs.Definitions.{mails, numbered}
use Rattle.sc_paxos_law.specs.PaxosLawDefinitions.{needed, IsLawfulHistory}
use Rattle.sc_paxos_law.proofs.Lemmas.{earlier}
use Rattle.sc_scenario.specs.scenario.Definitions.{ValidScenariosAreBounded, IsUpTo}
use Rattle.sc_scenario.specs.declared.scenario.scenarios.Scenario.{Scenario}
use Rattle.sc_node_table.specs.NodeDefinitions.{entered, NodeState, ReplicaState, next, slots_ahead, with_slot}
use Rattle.sc_meaning.specs.sound.SoundDefinitions.{decided_log, Ahead, Player, route_of}
use Rattle.sc_law_entries.proofs.HistoryProofs.HistoryLemmas.{state_same}
use Rattle.sc_law_entries.specs.logs.LogDefinitions.{Rows}
use Rattle.sc_law_entries.specs.ring.RingDefinitions.{Sources}
use Rattle.sc_law_entries.specs.names.NameDefinitions.{OtherNamesAreFree, TakenOrdersAreAllowed, TakenWishesAreAllowed, WishesAreAtPositions, owner_in}
use Rattle.sc_law_groups.proofs.GroupProofs.GroupLemmas.{h_of, IsLearnt, Steps, rule, first, birth, IsState}
use Rattle.sc_law_groups.specs.whole.WholeDefinitions.{BeginsWell, section_op, OrdersAreAllowed, MayQueue, ValidScenariosBeginWell}
use Rattle.sc_law_groups.proofs.WholeProofs.WholeLemmas.{orders_allowed}
use Rattle.sc_live_steps.specs.following.FollowingDefinitions.{IsNext, AreNext, DecidesNext, AreAt}
use Rattle.sc_live_journals.specs.logs.LogDefinitions.{logged_sets, IsGroupOf, HasReplica, IsLogged, IsLoggedState, SlotsHaveRosters, ReplicasAreLogged, CommandsComeNext, StatesAreLogged, MembersAreNodes}
use Rattle.sc_live_journals.proofs.LogsProofs.ReplicasAlongLogs.{IsAlong, first_sets, rosters, by_log, are_at, after_log, members_are, name_is, entered_along, entered_opens, entered_many, is_next, are_next, are_entries}
use Rattle.sc_live_journals.proofs.LogsProofs.EntryNodes.{begins_nodes, brings_nodes}
use Rattle.sc_live_journals.proofs.LogsProofs.CountedMajorities.{counted_learnt, each_with_slot}
use Rattle.sc_live_journals.proofs.LogsProofs.JournalPrefixes.{ArePrefixes, said_in, part, roster, prefixes, along, opens, many, flying}
use Rattle.sc_live_journals.proofs.LogsProofs.NodesInGroups.{slots_have_nodes}
use Rattle.sc_live_journals.proofs.LogsProofs.NodesInGroups as so
use Rattle.sc_live_journals.proofs.LogsProofs.NodeNumbers.{up_to_node}

-- what the laws under this one say of valid scenarios
module _ (bounded : ValidScenariosAreBounded) (begin : ValidScenariosBeginWell) (allowed : TakenOrdersAreAllowed) (wishes : TakenWishesAreAllowed) (positions : WishesAreAtPositions) (free : OtherNamesAreFree) where
  module _ (ahead : Ahead) (words : ℕ → ℕ → ℕ × ℕ) (scenario : Scenario) (journal : Rows) (base : Base) (group : IsGroupOf ahead words scenario journal base) where
    abbrev sources : Sources
    sources = record { owner = owner_in ahead scenario journal; request = section_op scenario }

    abbrev route : Route
    route = route_of (begin (owner_in ahead scenario journal) (free ahead scenario journal) ahead group.open_slots scenario group.valid).first

    well : BeginsWell sources ahead scenario route
    well = (begin (owner_in ahead scenario journal) (free ahead scenario journal) ahead group.open_slots scenario group.valid).well

    orders : OrdersAreAllowed sources ahead scenario journal
    orders = orders_allowed ahead words scenario (bounded scenario group.valid) allowed wishes positions journal group.lawful

    abbrev h : Steps
    h = h_of journal base

    abbrev all : List Command
    all = decided_log ahead base journal

    abbrev lawful_steps : IsLawfulHistory (rule ahead base) (first ahead base) h
    lawful_steps = (part sources ahead words scenario route well journal orders group.lawful base group.stands).lawful

    abbrev first_members : IsRoster base.core.members
    first_members = roster sources ahead words scenario route well journal orders group.lawful base group.stands

    abbrev all_prefixes : ArePrefixes ahead base journal
    all_prefixes = prefixes sources ahead words scenario route well journal orders group.lawful base group.stands

    abbrev Along : ReplicaState → Type 0
    Along r = IsAlong ahead group.open_slots base first_members h lawful_steps all all_prefixes r

    first_ones : (slot : ℕ) → slot < 1 + slots_ahead → logged_sets ahead base journal slot ≡ base.core.members
    first_ones slot low = first_sets ahead group.open_slots base first_members h lawful_steps all all_prefixes slot (omega (arith, low))

    all_rosters : (slot : ℕ) → IsRoster (logged_sets ahead base journal slot)
    all_rosters slot = rosters ahead group.open_slots base first_members h lawful_steps all all_prefixes slot

    -- ---- nodes

    -- the group begins with nodes
    begins_up : so.HasNodes (IsUpTo scenario.nodes) base.core
    begins_up = begins_nodes sources ahead words scenario route well journal orders group.lawful (bounded scenario group.valid) base group.stands

    -- and each entry of its log brings nodes
    entries_up : Each (so.BringsNodes (IsUpTo scenario.nodes)) all
    entries_up = brings_nodes sources ahead words scenario route well journal orders group.lawful (bounded scenario group.valid) base group.stands

    -- ---- mail

    -- a state that was sent
    state_logged : (rows more : Rows) → journal ≡ rows ++ more → (number : ℕ) (mail : Mail) (slot : ℕ) (state : Base) (sets : List (List ℕ)) → numbered (mails rows) number ≡ Some mail → mail.body ≡ Install base.core.id slot state sets
        → IsLoggedState (logged_sets ahead base journal) base slot state sets
    state_logged rows more e number mail slot state sets sent fact =
        let t : IsState ahead base (MayQueue sources ahead scenario journal base) h slot state sets = said_in sources ahead words scenario route well journal orders group.lawful base group.stands rows more e number mail (Install base.core.id slot state sets) sent fact (same_name base.core.id base.core.id refl) in
        let same = state_same (birth ahead base) t.log in
        let count = t.count in
        let members_is = after_log ahead group.open_slots base first_members h lawful_steps all all_prefixes t.log t.is_log (slot + 4) (omega (arith, count)) ∙ ap (λ (g : Group). g.core.members) (sym t.group_is) in
        record {
          many = t.many ∙ group.open_slots;
          named = ap (λ (g : Group). g.core.id) t.group_is ∙ same.0;
          first = ap (λ node. record { round = 1; node = node }) (ap (λ (g : Group). g.core.first) t.group_is ∙ same.1);
          roster = subst IsRoster members_is (all_rosters (slot + 4));
          members = ap (logged_sets ahead base journal) (omega arith) ∙ members_is;
          opens = are_at ahead group.open_slots base first_members h lawful_steps all all_prefixes t.log t.is_log (slot + 1) sets t.sets_are;
        }

    -- ---- replicas

    module _ (rows : Rows) (seat : Seat Player) (node : NodeState) (r : ReplicaState) (has : HasReplica ahead scenario journal base rows seat node r) where
      k : Along r
      k = along sources ahead words scenario route well journal orders group.lawful base group.stands rows seat node r has group.open_slots

      of_along : (q : ReplicaState) → Along q → length q.sets ≡ slots_ahead → AreAt (logged_sets ahead base journal) (next q) q.sets → IsLogged (logged_sets ahead base journal) base q
      of_along q j len are = record {
        named = name_is ahead group.open_slots base first_members h lawful_steps all all_prefixes q j;
        roster = subst IsRoster (members_are ahead group.open_slots base first_members h lawful_steps all all_prefixes q j) (all_rosters (next q + 3));
        members = members_are ahead group.open_slots base first_members h lawful_steps all all_prefixes q j;
        many = len;
        opens = are;
      }

      four : length r.sets ≡ slots_ahead
      four = many sources ahead words scenario route well journal orders group.lawful base group.stands rows seat node r has group.open_slots

      open_sets : AreAt (logged_sets ahead base journal) (next r) r.sets
      open_sets = opens sources ahead words scenario route well journal orders group.lawful base group.stands rows seat node r has group.open_slots

      logged : IsLogged (logged_sets ahead base journal) base r
      logged = of_along r k four open_sets

      learnt_entered : (number : ℕ) (mail : Mail) (slot : ℕ) (command : Command) → numbered (mails rows) number ≡ Some mail → mail.body ≡ Learn base.core.id slot command → slot ≡ next r
          → IsLogged (logged_sets ahead base journal) base (entered command r)
      learnt_entered number mail slot command sent fact at =
          let t = subst (λ n. IsLearnt (rule ahead base) h n command) at (said_in sources ahead words scenario route well journal orders group.lawful base group.stands rows has.more has.prefix number mail (Learn base.core.id slot command) sent fact (same_name base.core.id base.core.id refl)) in
          of_along (entered command r) (entered_along ahead group.open_slots base first_members h lawful_steps all all_prefixes command r k t)
          (entered_many ahead group.open_slots base first_members h lawful_steps all all_prefixes command r four)
          (entered_opens ahead group.open_slots base first_members h lawful_steps all all_prefixes command r k t open_sets four)

      learnt_next : (number : ℕ) (mail : Mail) (slot : ℕ) (command : Command) → numbered (mails rows) number ≡ Some mail → mail.body ≡ Learn base.core.id slot command → slot ≡ next r → IsNext (logged_sets ahead base journal) command r
      learnt_next number mail slot command sent fact at =
          is_next ahead group.open_slots base first_members h lawful_steps all all_prefixes command r k
          (subst (λ n. IsLearnt (rule ahead base) h n command) at (said_in sources ahead words scenario route well journal orders group.lawful base group.stands rows has.more has.prefix number mail (Learn base.core.id slot command) sent fact (same_name base.core.id base.core.id refl)))

      ready_next : (sent : List Mail) → AreNext (logged_sets ahead base journal) r.ready (r, sent)
      ready_next sent = are_next ahead group.open_slots base first_members h lawful_steps all all_prefixes r.ready (r, sent) k

      decides_next : r.running ≡ true → (number : ℕ) (mail : Mail) (ballot : Ballot) (slot : ℕ) → numbered (mails rows) number ≡ Some mail → mail.body ≡ AcceptedMail base.core.id ballot slot
          → DecidesNext (logged_sets ahead base journal) mail.from ballot slot r
      decides_next runs number mail ballot slot sent fact command leader at count =
          let did = said_in sources ahead words scenario route well journal orders group.lawful base group.stands rows has.more has.prefix number mail (AcceptedMail base.core.id ballot slot) sent fact (same_name base.core.id base.core.id refl) in
          let low : needed (rule ahead base) slot ≤ length k.whole = subst (λ n. needed (rule ahead base) n ≤ length k.whole) (sym (at ∙ k.next_is)) (earlier (rule ahead base) (length k.whole)) in
          let t = counted_learnt ahead base h lawful_steps r.leader (flying sources ahead words scenario route well journal orders group.lawful base group.stands rows seat node r has) k.whole k.is_log slot
          (logged_sets ahead base journal slot) (by_log ahead group.open_slots base first_members h lawful_steps all all_prefixes k.whole k.is_log slot low) low mail.from ballot did.0 did.1 command leader count in
          let after : ReplicaState = record r { leader = leader; ready = with_slot r.ready slot command } in
          let there : Along after = record { whole = k.whole; is_log = k.is_log; next_is = k.next_is; group_is = k.group_is; ready = each_with_slot _ r.ready slot command k.ready t } in
          are_entries ahead group.open_slots base first_members h lawful_steps all all_prefixes command (after, []) there runs (subst (λ n. IsLearnt (rule ahead base) h n command) at t)

  pub slots_have_rosters : SlotsHaveRosters
  slots_have_rosters = record { first = first_ones; rosters = all_rosters }

  pub replicas_are_logged : ReplicasAreLogged
  replicas_are_logged = logged

  pub commands_come_next : CommandsComeNext
  commands_come_next = record { learnt = learnt_next; entered = learnt_entered; ready = ready_next; decided = decides_next }

  pub states_are_logged : StatesAreLogged
  states_are_logged = state_logged

  pub members_are_nodes : MembersAreNodes
  members_are_nodes ahead words scenario journal base group = λ slot node m. up_to_node scenario.nodes node (bounded scenario group.valid).nodes.1 (slots_have_nodes (IsUpTo scenario.nodes) ahead base journal (begins_up ahead words scenario journal base group) (entries_up ahead words scenario journal base group) slot node m)
