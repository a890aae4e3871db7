-- A group's log is one, where it has leaders.
use Rattle.std.proofs.Common.{◌≡◌, ℕ, ◌+◌, ◌≤◌, ◌⊎◌, true, List, [], ◌∷◌, ◌++◌, Some, None, inl, inr, ◌∙◌, ap, arith, append_assoc}
use Rattle.sc_node_table.specs.Values.{Ballot, Draw, Command, Base, OrderLine, Mail, Accepted, Learn, Install, Node, Seat, Event, Deliver}
use Rattle.sc_base.specs.Definitions.{is_member}
use Rattle.sc_actor.specs.Definitions.{value, row_of}
use Rattle.sc_scenario.specs.declared.scenario.scenarios.Scenario.{Scenario}
use Rattle.sc_node_table.specs.NodeDefinitions.{entered, NodeState, replica_of, group_of_mail, ReplicaState, next, last_slot, mailed}
use Rattle.sc_meaning.specs.sound.SoundDefinitions.{Ahead, Player, births, player_table}
use Rattle.sc_law_entries.specs.logs.LogDefinitions.{Rows}
use Rattle.sc_live_steps.specs.following.FollowingDefinitions.{Sets, members_at, SlotLeaders, DecidesNext}
use Rattle.sc_live_journals.specs.rows.RowDefinitions.{view_at, IsSeat, made_children, AreAsBegun}
use Rattle.sc_live_journals.specs.logs.LogDefinitions.{logged_sets, IsGroupOf, HasReplica, SlotsHaveRosters, ViewsAreReplicas, ReplicasAreLogged, CommandsComeNext, StatesAreLogged, MembersAreNodes}
use Rattle.sc_live_journals.specs.groups.GroupDefinitions.{Ends, IsOfLog, RestsBy, IsLogsState, IsLogOf, IsRowOf, Delivers}
use Rattle.sc_live_answers.specs.AnswerDefinitions.{over_at, GroupsBeginStanding, EndsAreLogged, ChildrenAreBegun, MembersMoveOneWay, HasLeaders, LedLogsAreOne}

-- a prefix of a prefix is one of the whole
pub whole_split : (journal prefix rest : Rows) → journal ≡ prefix ++ rest → (rows more : Rows) → prefix ≡ rows ++ more → journal ≡ rows ++ (more ++ rest)
whole_split journal prefix rest split rows more e = split ∙ (ap (λ rs. rs ++ rest) e ∙ append_assoc rows more rest)

module _ (rosters : SlotsHaveRosters) (views : ViewsAreReplicas) (logged : ReplicasAreLogged) (commands : CommandsComeNext) (states : StatesAreLogged) (nodes : MembersAreNodes) (begin : GroupsBeginStanding) (ends : EndsAreLogged) (children : ChildrenAreBegun) (moves : MembersMoveOneWay) where
  module _ (ahead : Ahead) (words : ℕ → ℕ → ℕ × ℕ) (by : SlotLeaders) (scenario : Scenario) (journal prefix rest : Rows) (base : Base) (group : IsGroupOf ahead words scenario journal base) (split : journal ≡ prefix ++ rest) (has : HasLeaders ahead by scenario journal prefix base) where
    abbrev at : Sets
    at = logged_sets ahead base journal

    abbrev over : Ends
    over = over_at ahead base journal

    -- so does what is before a row of them
    before : (rows : Rows) (seat : Seat Player) (event : Event OrderLine) → (row : IsRowOf prefix rows seat event) → journal ≡ rows ++ ((row_of player_table seat rows event ∷ row.more) ++ rest)
    before rows seat event row = whole_split journal prefix rest split rows (row_of player_table seat rows event ∷ row.more) (row.fact ∙ append_assoc rows (row_of player_table seat rows event ∷ []) row.more)

    -- a replica that is seen is one of a node
    record Seen (rows : Rows) (r : ReplicaState) : Type 0 where
      seat : Seat Player
      node : NodeState
      fact : HasReplica ahead scenario journal base rows seat node r

    seen : (rows more : Rows) (who : ℕ) (r : ReplicaState) → journal ≡ rows ++ more → view_at (births ahead scenario) rows base.core.id who ≡ Some r → Seen rows r
    seen rows more who r e view = (let s = views ahead words scenario journal base group rows more e who r view in record { seat = s.0; node = s.1; fact = s.2 })

    -- the one that leads at a slot stays a member by its entry, or nobody comes
    leaves_is : (slot : ℕ) → (is_member (members_at at (slot + 1)) (by slot) ≡ true) ⊎ ((who : ℕ) → is_member (members_at at (slot + 1)) who ≡ true → is_member (members_at at slot) who ≡ true)
    leaves_is slot = elim (moves ahead words scenario journal base group slot) [ inl kept ↦ inl (kept (by slot) (has.leads slot)) | inr none ↦ inr none ]

    log_is : IsLogOf at by
    log_is = record { rosters = rosters.rosters ahead words scenario journal base group; nodes = nodes ahead words scenario journal base group; leaves = leaves_is }

    state_is : (rows more : Rows) (who : ℕ) (r : ReplicaState) → prefix ≡ rows ++ more → view_at (births ahead scenario) rows base.core.id who ≡ Some r → IsOfLog at over r
    state_is rows more who r e view =
        let s = seen rows (more ++ rest) who r (whole_split journal prefix rest split rows more e) view in
        let k = logged ahead words scenario journal base group rows s.seat s.node r s.fact in
        record { members_are = k.members; opens = k.opens; many = k.many; ends = ends.replicas ahead words scenario journal base group rows s.seat s.node r s.fact }

    reported_is : (rows : Rows) (seat : Seat Player) (number : ℕ) (mail : Mail) (slot : ℕ) (command : Command) (r : ReplicaState) → Delivers prefix rows seat number mail → mail.body ≡ Learn base.core.id slot command
        → view_at (births ahead scenario) rows base.core.id seat.who ≡ Some r → slot ≡ next r → (slot ≤ last_slot) × IsOfLog at over (entered command r)
    reported_is rows seat number mail slot command r row fact view there =
        let s = seen rows ((row_of player_table seat rows (Deliver number) ∷ row.row.more) ++ rest) seat.who r (before rows seat (Deliver number) row.row) view in
        let k = commands.entered ahead words scenario journal base group rows s.seat s.node r s.fact number mail slot command row.sent fact there in (
          has.told rows seat number mail slot command r row fact view there,
          record { members_are = k.members; opens = k.opens; many = k.many; ends = ends.entered ahead words scenario journal base group rows s.seat s.node r s.fact number mail slot command row.sent fact there },
        )

    sent_is : (rows : Rows) (seat : Seat Player) (number : ℕ) (mail : Mail) (slot : ℕ) (state : Base) (sets : List (List ℕ)) → Delivers prefix rows seat number mail → mail.body ≡ Install base.core.id slot state sets
        → IsLogsState at by base slot mail.from state sets
    sent_is rows seat number mail slot state sets row fact =
        let k = states ahead words scenario journal base group rows ((row_of player_table seat rows (Deliver number) ∷ row.row.more) ++ rest) (before rows seat (Deliver number) row.row) number mail slot state sets row.sent fact in
        let asked = has.sent rows seat number mail slot state sets row fact in
        record { whole = record { open_ = k.many; low = asked.1 }; members_are = k.members; firsts = k.first; slot_leader = asked.0 }

    decided_is : (rows : Rows) (seat : Seat Player) (number : ℕ) (mail : Mail) (ballot : Ballot) (slot : ℕ) (r : ReplicaState) → Delivers prefix rows seat number mail → mail.body ≡ Accepted base.core.id ballot slot
        → view_at (births ahead scenario) rows base.core.id seat.who ≡ Some r → r.running ≡ true → DecidesNext at mail.from ballot slot r
    decided_is rows seat number mail ballot slot r row fact view runs =
        let s = seen rows ((row_of player_table seat rows (Deliver number) ∷ row.row.more) ++ rest) seat.who r (before rows seat (Deliver number) row.row) view in
        commands.decided ahead words scenario journal base group rows s.seat s.node r s.fact runs number mail ballot slot row.sent fact

    rests_is : (rows : Rows) (seat : Seat Player) (number : ℕ) (mail : Mail) (ballot : Ballot) (slot : ℕ) (r : ReplicaState) → Delivers prefix rows seat number mail → mail.body ≡ Accepted base.core.id ballot slot
        → view_at (births ahead scenario) rows base.core.id seat.who ≡ Some r → r.running ≡ true → r.group.core.gone ≡ None → RestsBy over (mailed mail.from mail.body (r, [])).0.0
    rests_is rows seat number mail ballot slot r row fact view runs stands =
        let s = seen rows ((row_of player_table seat rows (Deliver number) ∷ row.row.more) ++ rest) seat.who r (before rows seat (Deliver number) row.row) view in
        ends.voted ahead words scenario journal base group rows s.seat s.node r s.fact runs stands number mail ballot slot row.sent fact

    born_is : (rows : Rows) (seat : Seat Player) (number : ℕ) (mail : Mail) (node : NodeState) (name : Draw) → Delivers prefix rows seat number mail → IsSeat (births ahead scenario) seat → value player_table seat rows ≡ Node node → group_of_mail mail.body ≡ Some name
        → (name ≡ base.core.id → ⊥) → AreAsBegun base seat.who (made_children (replica_of name node.replicas) mail.from mail.body)
    born_is rows seat number mail node name row seated fact into other =
        children ahead words scenario journal base group rows ((row_of player_table seat rows (Deliver number) ∷ row.row.more) ++ rest) (before rows seat (Deliver number) row.row) seat node seated fact number mail name row.sent into

  pub led_logs_are_one : LedLogsAreOne
  led_logs_are_one ahead words by scenario journal prefix rest base group split has = record {
    log = log_is ahead words by scenario journal prefix rest base group split has;
    begins = rosters.first ahead words scenario journal base group;
    first = begin.first ahead words scenario journal base group;
    stands = begin.stands ahead words scenario journal base group;
    early = ends.begins ahead words scenario journal base group 0 (omega arith);
    states = state_is ahead words by scenario journal prefix rest base group split has;
    rounds = has.rounds;
    told = reported_is ahead words by scenario journal prefix rest base group split has;
    sent = sent_is ahead words by scenario journal prefix rest base group split has;
    decided = decided_is ahead words by scenario journal prefix rest base group split has;
    rests = rests_is ahead words by scenario journal prefix rest base group split has;
    counted = has.counted;
    born = born_is ahead words by scenario journal prefix rest base group split has;
  }
