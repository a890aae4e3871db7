-- A group is gone by its log as its replicas say.
use Rattle.std.proofs.Common.{◌≡◌, ℕ, ◌+◌, ◌-◌, zero, suc, ◌⊎◌, inl, inr, ◌<◌, ◌≤◌, true, false, true≢false, List, [], length, take, is_some, Some, None, refl, sym, ◌∙◌, ap, subst, arith}
use Rattle.std.proofs.lemmas.Bool.{cases_lt}
use Rattle.sc_base.specs.Definitions.{Among, IsRoster, is_member}
use Rattle.sc_node_table.specs.Values.{Ballot, Command, Base, Route, Mail, Accepted as AcceptedMail, Learn, Seat}
use Rattle.sc_base.proofs.Lemmas.{same_name}
use Rattle.sc_group_table.specs.machine.MachineDefinitions.{Group, group_of, state_after}
use Rattle.sc_actor.specs.Definitions.{mails, numbered}
use Rattle.sc_paxos_law.specs.PaxosLawDefinitions.{Accepted, IsLawfulHistory}
use Rattle.sc_scenario.specs.scenario.Definitions.{ValidScenariosAreBounded}
use Rattle.sc_scenario.specs.declared.scenario.scenarios.Scenario.{Scenario}
use Rattle.sc_node_table.specs.NodeDefinitions.{entered, NodeState, ReplicaState, next, mailed, accepted_row}
use Rattle.sc_meaning.specs.sound.SoundDefinitions.{decided_log, Ahead, Player, route_of}
use Rattle.sc_law_entries.specs.logs.LogDefinitions.{Rows}
use Rattle.sc_law_entries.specs.ring.RingDefinitions.{Sources}
use Rattle.sc_law_entries.specs.names.NameDefinitions.{OtherNamesAreFree, TakenOrdersAreAllowed, TakenWishesAreAllowed, WishesAreAtPositions, owner_in}
use Rattle.sc_law_groups.proofs.GroupProofs.GroupLemmas.{h_of, IsLearnt, Steps, rule, first}
use Rattle.sc_law_groups.specs.whole.WholeDefinitions.{BeginsWell, section_op, OrdersAreAllowed, ValidScenariosBeginWell}
use Rattle.sc_law_groups.proofs.WholeProofs.WholeLemmas.{orders_allowed}
use Rattle.sc_live_steps.specs.following.FollowingDefinitions.{members_at}
use Rattle.sc_live_journals.specs.logs.LogDefinitions.{logged_sets, IsGroupOf, HasReplica}
use Rattle.sc_live_journals.proofs.LogsProofs.GroupLogLemmas.{ArePrefixes, said_in, IsAlong, entered_along, part, roster, prefixes, along, opens, flying}
use Rattle.sc_live_journals.specs.groups.GroupDefinitions.{RestsBy}
use Rattle.sc_live_answers.specs.AnswerDefinitions.{over_at, GroupsBeginStanding, EndsAreLogged, ChildrenAreBegun, MembersMoveOneWay, state_at, ReplicasRunLogs}
use Rattle.sc_live_answers.proofs.LedGroupsProofs.GroupBeginnings.{begun_first, begun_stands}
use Rattle.sc_live_answers.proofs.ChildrenProofs.ChildBeginnings.{children_as_begun}
use Rattle.sc_live_answers.proofs.LedGroupsProofs.GoneGroups.{later_gone}
use Rattle.sc_live_answers.proofs.LedGroupsProofs.MemberMoves.{next_moves}
use Rattle.sc_live_answers.proofs.LedGroupsProofs.VotesOfGoneGroups.{vote_stood}

-- what is gone by a log stays so
over_stays : (ahead : Ahead) (base : Base) (journal : Rows) (slot later : ℕ) → slot ≤ later → over_at ahead base journal slot ≡ true → over_at ahead base journal later ≡ true
over_stays ahead base journal slot later low = later_gone (decided_log ahead base journal) (group_of base) (slot - 1) (later - 1) (omega (arith, low))

-- the members after some number of entries
abbrev pub members_after : Ahead → Base → Rows → ℕ → List ℕ
members_after ahead base journal n = (state_after (group_of base) (take n (decided_log ahead base journal))).core.members

-- the members behind a slot are those after some number of entries
pub sets_are : (ahead : Ahead) (words : ℕ → ℕ → ℕ × ℕ) (scenario : Scenario) (journal : Rows) (base : Base) (group : IsGroupOf ahead words scenario journal base) (s n : ℕ) → s + 3 - 4 ≡ n → members_at (logged_sets ahead base journal) s ≡ members_after ahead base journal n
sets_are ahead words scenario journal base group s n e = (let open_slots = group.open_slots in let same : s + 3 - ahead.slots ≡ n = omega (arith, e, open_slots) in ap (members_after ahead base journal) same)

-- the members behind a slot, by how many entries come before it
pub members_move_one_way : MembersMoveOneWay
members_move_one_way ahead words scenario journal base group slot = by slot
  where
    by : (s : ℕ) → ((who : ℕ) → is_member (members_at (logged_sets ahead base journal) s) who ≡ true → is_member (members_at (logged_sets ahead base journal) (s + 1)) who ≡ true)
        ⊎ ((who : ℕ) → is_member (members_at (logged_sets ahead base journal) (s + 1)) who ≡ true → is_member (members_at (logged_sets ahead base journal) s) who ≡ true)
    by zero = inl (λ who m. subst (λ ms. is_member ms who ≡ true) (sets_are ahead words scenario journal base group 0 0 (omega arith) ∙ sym (sets_are ahead words scenario journal base group (0 + 1) 0 (omega arith))) m)
    by (suc n) =
        let here = sets_are ahead words scenario journal base group (suc n) n (omega arith) in
        let next_ = sets_are ahead words scenario journal base group (suc n + 1) (suc n) (omega arith) in
        elim (next_moves (decided_log ahead base journal) (group_of base) n) [
          | inl kept ↦ inl (λ who m. subst (λ ms. is_member ms who ≡ true) (sym next_) (kept who (subst (λ ms. is_member ms who ≡ true) here m)))
          | inr none ↦ inr (λ who m. subst (λ ms. is_member ms who ≡ true) (sym here) (none who (subst (λ ms. is_member ms who ≡ true) next_ m)))
        ]

-- what the laws under this one say of valid scenarios
module _ (bounded : ValidScenariosAreBounded) (begin : ValidScenariosBeginWell) (allowed : TakenOrdersAreAllowed) (wishes : TakenWishesAreAllowed) (positions : WishesAreAtPositions) (free : OtherNamesAreFree) where
  module _ (ahead : Ahead) (words : ℕ → ℕ → ℕ × ℕ) (scenario : Scenario) (journal : Rows) (base : Base) (group : IsGroupOf ahead words scenario journal base) where
    abbrev sources : Sources
    sources = record { owner = owner_in ahead scenario journal; request = section_op scenario }

    abbrev route : Route
    route = route_of (begin (owner_in ahead scenario journal) (free ahead scenario journal) ahead group.open_slots scenario group.valid).first

    well : BeginsWell sources ahead scenario route
    well = (begin (owner_in ahead scenario journal) (free ahead scenario journal) ahead group.open_slots scenario group.valid).well

    orders : OrdersAreAllowed sources ahead scenario journal
    orders = orders_allowed ahead words scenario (bounded scenario group.valid) allowed wishes positions journal group.lawful

    abbrev h : Steps
    h = h_of journal base

    abbrev all : List Command
    all = decided_log ahead base journal

    abbrev lawful_steps : IsLawfulHistory (rule ahead base) (first ahead base) h
    lawful_steps = (part sources ahead words scenario route well journal orders group.lawful base group.stands).lawful

    abbrev first_members : IsRoster base.core.members
    first_members = roster sources ahead words scenario route well journal orders group.lawful base group.stands

    abbrev all_prefixes : ArePrefixes ahead base journal
    all_prefixes = prefixes sources ahead words scenario route well journal orders group.lawful base group.stands

    abbrev Along : ReplicaState → Type 0
    Along r = IsAlong ahead group.open_slots base first_members h lawful_steps all all_prefixes r

    -- a replica along the log says of the group's end what the log says
    along_ends : (r : ReplicaState) → Along r → is_some r.group.core.gone ≡ over_at ahead base journal (next r)
    along_ends r k =
        let next_is = k.next_is in
        let same : length k.whole ≡ next r - 1 = omega (arith, next_is) in
        ap (λ (g : Group). is_some g.core.gone) k.group_is ∙ ap (λ log. is_some (state_after (group_of base) log).core.gone) (sym (all_prefixes k.whole k.is_log).1)
        ∙ ap (λ n. is_some (state_after (group_of base) (take n all)).core.gone) same

    along_state : (r : ReplicaState) → Along r → (1 ≤ next r) × (r.group ≡ state_at ahead base journal (next r))
    along_state r k =
        let next_is = k.next_is in
        let same : length k.whole ≡ next r - 1 = omega (arith, next_is) in
        (omega (arith, next_is), k.group_is ∙ ap (state_after (group_of base)) (sym (all_prefixes k.whole k.is_log).1) ∙ ap (λ n. state_after (group_of base) (take n all)) same)

    module _ (rows : Rows) (seat : Seat Player) (node : NodeState) (r : ReplicaState) (has : HasReplica ahead scenario journal base rows seat node r) where
      k : Along r
      k = along sources ahead words scenario route well journal orders group.lawful base group.stands rows seat node r has group.open_slots

      run_log : (1 ≤ next r) × (r.group ≡ state_at ahead base journal (next r))
      run_log = along_state r k

      replica_ends : is_some r.group.core.gone ≡ over_at ahead base journal (next r)
      replica_ends = along_ends r k

      entered_ends : (number : ℕ) (mail : Mail) (slot : ℕ) (command : Command) → numbered (mails rows) number ≡ Some mail → mail.body ≡ Learn base.core.id slot command → slot ≡ next r
          → is_some (entered command r).group.core.gone ≡ over_at ahead base journal (next (entered command r))
      entered_ends number mail slot command sent fact at =
          let t = subst (λ n. IsLearnt (rule ahead base) h n command) at (said_in sources ahead words scenario route well journal orders group.lawful base group.stands rows has.more has.prefix number mail (Learn base.core.id slot command) sent fact (same_name base.core.id base.core.id refl)) in
          along_ends (entered command r) (entered_along ahead group.open_slots base first_members h lawful_steps all all_prefixes command r k t)

      voted_rests : r.running ≡ true → r.group.core.gone ≡ None → (number : ℕ) (mail : Mail) (ballot : Ballot) (slot : ℕ) → numbered (mails rows) number ≡ Some mail → mail.body ≡ AcceptedMail base.core.id ballot slot
          → RestsBy (over_at ahead base journal) (mailed mail.from mail.body (r, [])).0.0
      unfolding mailed
      voted_rests runs stands number mail ballot slot sent fact over_slot gone =
          subst (λ b. next (mailed mail.from b (r, [])).0.0 ≤ over_slot) (sym fact) (by (cases_lt over_slot (next r)) (cases_lt over_slot (next (accepted_row mail.from ballot slot (r, [])).0.0)))
        where
          did : (command : Command) × Among (Accepted mail.from ballot slot command) h
          did = said_in sources ahead words scenario route well journal orders group.lawful base group.stands rows has.more has.prefix number mail (AcceptedMail base.core.id ballot slot) sent fact (same_name base.core.id base.core.id refl)

          stood : over_at ahead base journal (next r) ≡ false
          stood = sym replica_ends ∙ ap is_some stands

          by : (over_slot < next r) ⊎ (next r ≤ over_slot) → (over_slot < next (accepted_row mail.from ballot slot (r, [])).0.0) ⊎ (next (accepted_row mail.from ballot slot (r, [])).0.0 ≤ over_slot)
              → next (accepted_row mail.from ballot slot (r, [])).0.0 ≤ over_slot
          by (inl low) other = absurd (true≢false (sym (over_stays ahead base journal over_slot (next r) (omega (arith, low)) gone) ∙ stood))
          by (inr high) (inr rests) = rests
          by (inr high) (inl low) =
              absurd (true≢false (sym gone ∙ vote_stood ahead group.open_slots base first_members h lawful_steps all all_prefixes (over_at ahead base journal) along_ends r k runs stands
              (opens sources ahead words scenario route well journal orders group.lawful base group.stands rows seat node r has group.open_slots)
              (flying sources ahead words scenario route well journal orders group.lawful base group.stands rows seat node r has) mail.from ballot slot did.0 did.1 over_slot high low))

    begins_first : is_member base.core.members base.core.first ≡ true
    begins_first = begun_first ahead scenario (bounded scenario group.valid) journal base group.stands

    begins_standing : base.core.gone ≡ None
    begins_standing = begun_stands ahead scenario (bounded scenario group.valid) journal base group.stands

    begins_over : (slot : ℕ) → slot ≤ 1 → over_at ahead base journal slot ≡ false
    begins_over slot low =
        let none : slot - 1 ≡ 0 = omega (arith, low) in
        ap (λ n. is_some (state_after (group_of base) (take n all)).core.gone) none ∙ ap is_some begins_standing

  pub children_are_begun : ChildrenAreBegun
  children_are_begun ahead words scenario journal base group rows more e seat node seated fact number mail name sent into =
      children_as_begun (sources ahead words scenario journal base group) ahead words scenario (route ahead words scenario journal base group) (well ahead words scenario journal base group) journal (orders ahead words scenario journal base group) group.lawful base group.stands
      rows more e seat node seated fact number mail name sent into

  pub groups_begin_standing : GroupsBeginStanding
  groups_begin_standing = record { first = begins_first; stands = begins_standing }

  pub ends_are_logged : EndsAreLogged
  ends_are_logged = record { stays = over_stays; begins = begins_over; replicas = replica_ends; entered = entered_ends; voted = voted_rests }

  pub replicas_run_logs : ReplicasRunLogs
  replicas_run_logs = run_log
