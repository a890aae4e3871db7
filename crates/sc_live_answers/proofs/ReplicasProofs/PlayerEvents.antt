-- What an event of a player does to its replica of a group that is well led: nothing, or the replica is born or made, or takes a mail or an order.
use Rattle.std.proofs.Common.{◌≡◌, ℕ, true≢false, List, [], Option, Some, None, inl, inr, refl, sym, ◌∙◌, ap, subst, append-nil}
use Rattle.std.proofs.lemmas.Bool.{cases_Bool}
use Rattle.sc_base.specs.Definitions.{same_draw}
use Rattle.sc_node_table.specs.Values.{Draw, Base, OrderLine, Mail, Node, Client, Seat, Event, Deliver, Tick, Go, Crash, Drop, Again}
use Rattle.sc_base.proofs.Lemmas.{draw_is, same_name}
use Rattle.sc_actor.specs.declared.rows.Event.TheVariants.{Told}
use Rattle.sc_actor.specs.Definitions.{mails, value, row_of}
use Rattle.sc_live_orderly.specs.OrderlyDefinitions.{IsTidy, IsCalmEvent, AreInTime}
use Rattle.sc_live_orderly.proofs.OrderlyLemmas.{in_time_before, in_time_tidy, takes_first, is_born-from}
use Rattle.sc_node_table.specs.NodeDefinitions.{NodeState, replica_of, group_of_mail, may_come, group_of_order, ordered_row, ReplicaState, born_replica, mailed, made_by, slots_ahead}
use Rattle.sc_meaning.specs.sound.SoundDefinitions.{Player, player_table}
use Rattle.sc_live_steps.specs.calm.CalmDefinitions.{players, Rows}
use Rattle.sc_live_steps.specs.following.FollowingDefinitions.{mark_of, Sets, SlotLeaders}
use Rattle.sc_live_journals.specs.rows.RowDefinitions.{view_at, mark_in, taken_mark, begun_course, TakesMail, HoldsReplica, IsSeat, with_event, IsReplicasRow, LeavesAlone, LeavesOrCreates}
use Rattle.sc_live_journals.proofs.GroupsProofs.JournalEvents.{holds_of}
use Rattle.sc_live_journals.proofs.RowsProofs.RowLemmas.{others_idle, rows_replicas, view_was, Plays, replay_well}
use Rattle.sc_live_journals.specs.groups.GroupDefinitions.{Ends, IsLogsState, AreWellBorn, Delivers, HasOneLog, IsSentSo}
use Rattle.sc_live_answers.proofs.BallotsProofs.WellPlayers.{plays_of}

-- a node of a seat takes this mail of the group, for its replica
pub record TurnsMail (words : ℕ → ℕ → ℕ × ℕ) (births : List (Seat Player)) (rows : Rows) (seat : Seat Player) (event : Event OrderLine) (base : Base) (number : ℕ) (mail : Mail) (node : NodeState) (r : ReplicaState) : Type 0 where
  pub fact : value player_table seat rows ≡ Node node
  pub event_is : event ≡ Deliver number
  pub delivers : Delivers (with_event rows seat event) rows seat number mail
  pub takes : TakesMail words births rows seat number mail
  pub group : group_of_mail mail.body ≡ Some base.core.id
  pub has : HoldsReplica seat node base r
  pub row_ : IsReplicasRow births rows seat (Deliver number) base.core.id (Some r) (mailed mail.from mail.body (r, [])).0

-- a node of a seat makes a replica of a state
pub record TurnsState (at : Sets) (by : SlotLeaders) (births : List (Seat Player)) (rows : Rows) (seat : Seat Player) (event : Event OrderLine) (base : Base) (from slot : ℕ) (state : Base) (sets : List (List ℕ)) : Type 0 where
  pub was : view_at births rows base.core.id seat.who ≡ None
  pub logs : IsLogsState at by base slot from state sets
  pub then_ : view_at births (with_event rows seat event) base.core.id seat.who ≡ Some (made_by seat.who from base.core.id slot state sets).0

-- a node of a seat takes an order
pub record TurnsOrder (births : List (Seat Player)) (rows : Rows) (seat : Seat Player) (event : Event OrderLine) (base : Base) (line : OrderLine) (node : NodeState) (r : ReplicaState) : Type 0 where
  pub event_is : event ≡ Told line
  pub was : view_at births rows base.core.id seat.who ≡ Some r
  pub then_ : view_at births (with_event rows seat event) base.core.id seat.who ≡ Some (ordered_row node.draws line (r, [])).0

-- what an event does to the replica of who acts
pub data IsTurn (at : Sets) (by : SlotLeaders) (words : ℕ → ℕ → ℕ × ℕ) (births : List (Seat Player)) (rows : Rows) (seat : Seat Player) (event : Event OrderLine) (base : Base) : Type 0 where
  TurnRests : view_at births (with_event rows seat event) base.core.id seat.who ≡ view_at births rows base.core.id seat.who → taken_mark base.core.id (mails rows) event ≡ None → IsTurn at by words births rows seat event base
  TurnCreates : view_at births rows base.core.id seat.who ≡ None → view_at births (with_event rows seat event) base.core.id seat.who ≡ Some (born_replica slots_ahead seat.who base) → IsTurn at by words births rows seat event base
  TurnTakes : (number : ℕ) (mail : Mail) (node : NodeState) (r : ReplicaState) → TurnsMail words births rows seat event base number mail node r → IsTurn at by words births rows seat event base
  TurnMakes : (from slot : ℕ) (state : Base) (sets : List (List ℕ)) → TurnsState at by births rows seat event base from slot state sets → IsTurn at by words births rows seat event base
  TurnTold : (line : OrderLine) (node : NodeState) (r : ReplicaState) → TurnsOrder births rows seat event base line node r → IsTurn at by words births rows seat event base

module _ (at : Sets) (over : Ends) (by : SlotLeaders) (words : ℕ → ℕ → ℕ × ℕ) (births : List (Seat Player)) (base : Base) (wb : AreWellBorn births) (rows : Rows) (seat : Seat Player) (born : IsSeat births seat) where
  abbrev name : Draw
  name = base.core.id

  abbrev Turn : Event OrderLine → Type 0
  Turn event = IsTurn at by words births rows seat event base

  -- one that does nothing
  rests : (event : Event OrderLine) → LeavesAlone births rows seat event base → Turn event
  rests event leaves = TurnRests leaves.view (leaves.idle (begun_course base)).takes

  creates_or : (event : Event OrderLine) → LeavesOrCreates births rows seat event base → Turn event
  creates_or event leaves = elim (leaves.view) [ inl same ↦ TurnRests same (leaves.idle (begun_course base)).takes | inr creation ↦ TurnCreates creation.0 creation.1 ]

  module _ (node : NodeState) (fact : value player_table seat rows ≡ Node node) where
    plays : Plays seat.who (Node node)
    plays = subst (Plays seat.who) fact (replay_well seat.who seat.who rows seat.actor [] (plays_of seat.who seat.actor (wb.well seat born)))

    view_of : (o : Option ReplicaState) → replica_of name node.replicas ≡ o → view_at births rows name seat.who ≡ o
    view_of o here = view_was births rows seat Go name born (Node node) fact ∙ here

    module _ (number : ℕ) (mail : Mail) (one : HasOneLog at over by births (with_event rows seat (Deliver number)) base) (so : IsSentSo births (with_event rows seat (Deliver number)) base) (timely : AreInTime (players words births) (with_event rows seat (Deliver number)))
        (d : Delivers (with_event rows seat (Deliver number)) rows seat number mail) where
      missed : group_of_mail mail.body ≡ Some base.core.id → replica_of name node.replicas ≡ None → mark_of name mail.from mail.body ≡ None → Turn (Deliver number)
      missed group here none = rests (Deliver number) (others_idle.missed births rows seat number mail base node born fact d.sent none group here)

      makes : group_of_mail mail.body ≡ Some base.core.id → replica_of name node.replicas ≡ None → Turn (Deliver number)
      makes group here = elim (so.finds rows seat number mail node d born fact here) [
        | inl none ↦ missed group here none
        | inr i ↦ elim (so.comes rows seat number mail d) [
          | inl none ↦ missed group here none
          | inr comes ↦ (let logs = one.sent rows seat number mail i.0 i.1 i.2 d i.3 in
              TurnMakes mail.from i.0 i.1 i.2 (record {
                was = view_of None here;
                logs = logs;
                then_ = subst (λ m. view_at births (with_event rows seat (Deliver number)) base.core.id seat.who ≡ Some (made_by m mail.from base.core.id i.0 i.1 i.2).0) plays.0 (rows_replicas.made births rows seat number mail name i.0 i.1 i.2 node born fact d.sent comes i.3 logs.whole here).fact;
              }))
        ]
      ]

      takes : (r : ReplicaState) → group_of_mail mail.body ≡ Some base.core.id → replica_of name node.replicas ≡ Some r → Turn (Deliver number)
      takes r group here = elim (cases_Bool (may_come mail.from mail.body)) [
        | inl comes ↦ TurnTakes number mail node r (record {
          fact = fact;
          event_is = refl;
          delivers = d;
          takes = record { timely = timely; sent = d.sent; comes = comes };
          group = group;
          has = holds_of seat node base plays r here;
          row_ = rows_replicas.taken births rows seat number mail name node r born fact d.sent comes group here;
        })
        | inr barred ↦ elim (so.comes rows seat number mail d) [
          | inl none ↦ rests (Deliver number) (others_idle.barred births rows seat number mail base node born fact d.sent none barred)
          | inr comes ↦ absurd (true≢false (sym comes ∙ barred))
        ]
      ]

      own_mail : (o : Option ReplicaState) → group_of_mail mail.body ≡ Some base.core.id → replica_of name node.replicas ≡ o → Turn (Deliver number)
      own_mail None group here = makes group here
      own_mail (Some r) group here = takes r group here

      by_group : (o : Option Draw) → group_of_mail mail.body ≡ o → Turn (Deliver number)
      by_group None e = rests (Deliver number) (others_idle.stray births rows seat number mail base node born fact d.sent e)
      by_group (Some g) e = elim (cases_Bool (same_draw g name)) [
        | inl t ↦ own_mail (replica_of name node.replicas) (e ∙ ap Some (draw_is g name t)) refl
        | inr f ↦ (let ne : g ≡ name → ⊥ = λ is_. true≢false (sym (same_name g name is_) ∙ f) in
            creates_or (Deliver number) (others_idle.other births rows seat number mail base g node born fact plays.0 d.sent e ne (one.born rows seat number mail node g d born fact e ne)))
      ]

    ordered : (line : OrderLine) → Turn (Told line)
    ordered line = elim (cases_Bool (same_draw (group_of_order line.order) name)) [
      | inl t ↦ by_replica (replica_of name node.replicas) (draw_is (group_of_order line.order) name t) refl
      | inr f ↦ rests (Told line) (others_idle.ordered births rows seat line base node born fact (λ is_. true≢false (sym (same_name (group_of_order line.order) name is_) ∙ f)))
    ]
      where
        by_replica : (o : Option ReplicaState) → group_of_order line.order ≡ name → replica_of name node.replicas ≡ o → Turn (Told line)
        by_replica None group here = rests (Told line) (others_idle.refused births rows seat line base node born fact (ap (λ n. replica_of n node.replicas) group ∙ here))
        by_replica (Some r) group here =
            let row_ : IsReplicasRow births rows seat (Told line) name (Some r) (ordered_row node.draws line (r, [])) =
            subst (λ n. IsReplicasRow births rows seat (Told line) n (Some r) (ordered_row node.draws line (r, []))) group (rows_replicas.ordered births rows seat line node r born fact (ap (λ n. replica_of n node.replicas) group ∙ here)) in
            TurnTold line node r (record { event_is = refl; was = view_of (Some r) here; then_ = row_.fact })

  by_player : (player : Player) (event : Event OrderLine) → value player_table seat rows ≡ player → HasOneLog at over by births (with_event rows seat event) base → IsSentSo births (with_event rows seat event) base → AreInTime (players words births) (with_event rows seat event)
      → IsCalmEvent (players words births) rows seat.who event → Turn event
  by_player (Client client) (Deliver number) fact one so timely calm =
      let tidy : IsTidy rows = in_time_tidy (players words births) rows (in_time_before (players words births) rows (row_of player_table seat rows (Deliver number)) timely) in
      let f = takes_first (players words births) rows seat.who number tidy (is_born-from (players words births) seat.who seat born) calm in
      let d : Delivers (with_event rows seat (Deliver number)) rows seat number f.mail = record { row = record { more = []; fact = sym (append-nil (with_event rows seat (Deliver number))) }; sent = f.sent } in
      rests (Deliver number) (others_idle.client births rows seat (Deliver number) base client born fact (ap (mark_in name) f.sent ∙ so.clients rows seat number f.mail client d born fact))
  by_player (Client client) Go fact one so timely calm = rests Go (others_idle.client births rows seat Go base client born fact refl)
  by_player (Client client) (Told line) fact one so timely calm = rests (Told line) (others_idle.client births rows seat (Told line) base client born fact refl)
  by_player (Client client) Tick fact one so timely calm = absurd calm
  by_player (Client client) Crash fact one so timely calm = absurd calm
  by_player (Client client) (Drop mail) fact one so timely calm = absurd calm
  by_player (Client client) (Again mail) fact one so timely calm = absurd calm
  by_player (Node node) (Deliver number) fact one so timely calm =
      let tidy : IsTidy rows = in_time_tidy (players words births) rows (in_time_before (players words births) rows (row_of player_table seat rows (Deliver number)) timely) in
      let f = takes_first (players words births) rows seat.who number tidy (is_born-from (players words births) seat.who seat born) calm in
      let d : Delivers (with_event rows seat (Deliver number)) rows seat number f.mail = record { row = record { more = []; fact = sym (append-nil (with_event rows seat (Deliver number))) }; sent = f.sent } in
      by_group node fact number f.mail one so timely d (group_of_mail f.mail.body) refl
  by_player (Node node) Go fact one so timely calm = rests Go (others_idle.go births rows seat base node born fact)
  by_player (Node node) (Told line) fact one so timely calm = ordered node fact line
  by_player (Node node) _ fact one so timely calm = absurd calm

  pub turn_of : (event : Event OrderLine) → HasOneLog at over by births (with_event rows seat event) base → IsSentSo births (with_event rows seat event) base → AreInTime (players words births) (with_event rows seat event)
      → IsCalmEvent (players words births) rows seat.who event → IsTurn at by words births rows seat event base
  turn_of event one so timely calm = by_player (value player_table seat rows) event refl one so timely calm
