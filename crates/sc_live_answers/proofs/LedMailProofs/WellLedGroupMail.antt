-- What is said in a row of players, of a group that is well led and whose mail is sent so.
use Rattle.std.proofs.Common.{◌≡◌, ℕ, true, true≢false, List, [], ◌++◌, Option, Some, None, inl, inr, refl, sym, ◌∙◌, ap, subst, append-nil, arith}
use Rattle.std.specs.Option.{option_map}
use Rattle.std.proofs.lemmas.Bool.{cases_Bool}
use Rattle.std.proofs.lemmas.Option.{same_Some}
use Rattle.sc_base.specs.Definitions.{same_draw}
use Rattle.sc_node_table.specs.Values.{Ballot, Draw, Base, OrderLine, Mail, MailBody, Prepare, Promise, Accept, Nack, Learn, Node, Client, Seat, Event, Deliver, Tick, Go, Crash, Drop, Again, Got}
use Rattle.sc_base.proofs.Lemmas.{draw_is, same_name}
use Rattle.sc_actor.specs.declared.rows.Event.TheVariants.{Told}
use Rattle.sc_actor.specs.declared.rows.Input.TheVariants.{Go as GoInput, Told as ToldInput}
use Rattle.sc_actor.specs.Definitions.{mails, numbered, value, acted, input_of, row_of}
use Rattle.sc_live_orderly.specs.OrderlyDefinitions.{IsCalmEvent, AreInTime}
use Rattle.sc_live_orderly.proofs.OrderlyLemmas.{in_time_before}
use Rattle.sc_words.specs.paxos.PaxosDefinitions.{reports_from, IsAtLeast}
use Rattle.sc_words.proofs.PaxosProofs.PaxosLemmas.{Each-among}
use Rattle.sc_scenario.specs.scenario.Definitions.{IsBounded}
use Rattle.sc_scenario.specs.declared.scenario.scenarios.Scenario.{Scenario}
use Rattle.sc_node_table.specs.NodeDefinitions.{NodeState, replica_of, group_of_mail, group_of_order, may_come, on_mail, on_order, ordered_row, ReplicaState, listed, name_of, next, mailed}
use Rattle.sc_law_groups.proofs.GroupProofs.GroupLemmas.{number_among}
use Rattle.sc_meaning.specs.sound.SoundDefinitions.{Player, player_table, births, as_nodes}
use Rattle.sc_live_steps.specs.calm.CalmDefinitions.{players, Rows}
use Rattle.sc_live_steps.specs.following.FollowingDefinitions.{Mark, Asks, Teaches, Prepares, mark_of, Course, Sets, IsFit, SlotLeaders, from_slot_of}
use Rattle.sc_live_steps.proofs.FollowingProofs.FollowingLemmas.{prepares_are_known, same_mark}
use Rattle.sc_live_journals.specs.rows.RowDefinitions.{view_at, next_in, promise_in, progress_at, TakesMail, HoldsReplica, IsSeat, with_event, IsReplicasRow}
use Rattle.sc_live_journals.proofs.RowsProofs.RowLemmas.{fit, goes_on, known, found_name, rows_replicas, view_was, sent_is, Plays, Found, found_well, replay_well}
use Rattle.sc_live_journals.specs.groups.GroupDefinitions.{Ends, dated_at, IsWellLed, IsLedScene, AreWellBorn, Delivers, HasOneLog, IsSentSo}
use Rattle.sc_live_journals.proofs.GroupsProofs.GroupLemmas.{scene, dated_in, taken_dated, rows_dated}
use Rattle.sc_live_journals.specs.mail.MailDefinitions.{IsPlainlyKept, JournalsKeepIdle}
use Rattle.sc_live_journals.proofs.MailProofs.MailLemmas.{mail_comes}
use Rattle.sc_live_answers.specs.AnswerDefinitions.{IsSentOn, SaysWell, AreSaidWell}
use Rattle.sc_live_answers.proofs.LedMailProofs.ReplicaMail.{Fits, mail_says, order_says, prepare_says}
use Rattle.sc_live_answers.proofs.LedMailProofs.PlayerMail.{IsLate, node_says, node_orders, client_says}
use Rattle.sc_live_answers.proofs.BallotsProofs.WellPlayers.{plays_of}

-- a mail of this event that asks the replica of who acts to promise a ballot finds nothing that it accepted from the slot on from which it asks
abbrev pub FindsNoneBy : List (Seat Player) → Rows → Seat Player → Event OrderLine → Base → Type 0
FindsNoneBy births rows seat event base =
    (number : ℕ) (mail : Mail) (ballot : Ballot) (from_slot : ℕ) (r : ReplicaState) → event ≡ Deliver number → numbered (mails rows) number ≡ Some mail → mail.body ≡ Prepare base.core.id ballot from_slot
    → view_at births rows base.core.id seat.who ≡ Some r → reports_from from_slot r.acceptor.accepted ≡ []

module _ (words : ℕ → ℕ → ℕ × ℕ) (at : Sets) (over : Ends) (by : SlotLeaders) (scenario : Scenario) (rows : Rows) (seat : Seat Player) (event : Event OrderLine) (base : Base) (course : Course) (bounded : IsBounded scenario) (idle : JournalsKeepIdle) (wb : AreWellBorn (births as_nodes scenario))
    (one : HasOneLog at over by (births as_nodes scenario) (with_event rows seat event) base) (so : IsSentSo (births as_nodes scenario) (with_event rows seat event) base) (nothing : FindsNoneBy (births as_nodes scenario) rows seat event base)
    (timely : AreInTime (players words (births as_nodes scenario)) (with_event rows seat event)) (born : IsSeat (births as_nodes scenario) seat) (calm : IsCalmEvent (players words (births as_nodes scenario)) rows seat.who event)
    (was : IsWellLed at over by words (births as_nodes scenario) rows base course) (sent : IsSentOn at words (births as_nodes scenario) rows base course) where
  abbrev all : List (Seat Player)
  all = births as_nodes scenario

  abbrev name : Draw
  name = base.core.id

  abbrev Well : List Mail → Type 0
  Well mails_ = AreSaidWell base.core.id course.ballot mails_

  before : AreInTime (players words all) rows
  before = in_time_before (players words all) rows (row_of player_table seat rows event) timely

  module _ (node : NodeState) (fact : value player_table seat rows ≡ Node node) where
    s : IsLedScene at over by words all rows seat node base course
    s = record { log = one.log; seated = born; fact = fact; led = was }

    plays : Plays seat.who (Node node)
    plays = subst (Plays seat.who) fact (replay_well seat.who seat.who rows seat.actor [] (plays_of seat.who seat.actor (wb.well seat born)))

    kept_of : (group : Draw) (r : ReplicaState) → replica_of group node.replicas ≡ Some r → IsPlainlyKept seat.who r
    kept_of group r here = idle words scenario rows group seat.who r before (view_was all rows seat Go group born (Node node) fact ∙ here)

    -- what the own replica has promised
    most_of : (o : Option ReplicaState) → view_at all rows base.core.id seat.who ≡ o → IsAtLeast course.ballot (promise_in base o)
    most_of o view = subst (λ q. IsAtLeast course.ballot (promise_in base q)) view (was.followed.follows.promised seat.who)

    -- ---- a mail

    module _ (number : ℕ) (mail : Mail) (is_event : event ≡ Deliver number) (sent_at : numbered (mails rows) number ≡ Some mail) where
      timely_mail : AreInTime (players words all) (with_event rows seat (Deliver number))
      timely_mail = subst (λ e. AreInTime (players words all) (with_event rows seat e)) is_event timely

      d : Delivers (with_event rows seat event) rows seat number mail
      d = record { row = record { more = []; fact = ap (with_event rows seat) is_event ∙ sym (append-nil (with_event rows seat (Deliver number))) }; sent = sent_at }

      says : SaysWell base.core.id course.ballot mail.body
      says = Each-among (λ (m : Mail). SaysWell base.core.id course.ballot m.body) (mails rows) mail sent.says (number_among (mails rows) number mail sent_at)

      -- one of this group, for its replica
      module _ (r : ReplicaState) (here : replica_of base.core.id node.replicas ≡ Some r) (group : group_of_mail mail.body ≡ Some base.core.id) (comes : may_come mail.from mail.body ≡ true) where
        takes : TakesMail words all rows seat number mail
        takes = record { timely = timely_mail; sent = sent_at; comes = comes }

        has : HoldsReplica seat node base r
        has = record { here = here; well = subst (Found seat.who) here (found_well seat.who name node.replicas plays.1) }

        most : IsAtLeast course.ballot r.acceptor.promised
        most = most_of (Some r) (view_was all rows seat Go name born (Node node) fact ∙ here)

        named_is : name_of r ≡ name
        named_is = found_name name node.replicas r here

        row_ : IsReplicasRow all rows seat (Deliver number) base.core.id (Some r) (mailed mail.from mail.body (r, [])).0
        row_ = rows_replicas.taken all rows seat number mail name node r born fact sent_at comes group here

        fitting : (mark : Mark) → mark_of name mail.from mail.body ≡ Some mark → IsFit (next r) r.acceptor.promised mark
        fitting mark e = fit at words all rows seat node base course (scene at over by words all rows seat node base course s) number mail takes r has mark e (mailed mail.from mail.body (r, [])).0 row_

        plainly : (b : MailBody) → mail.body ≡ b → Fits base.core.id course.ballot (next r) (Unit {0}) b → Well (mailed mail.from mail.body (r, [])).0.1
        plainly b e f = mail_says base.core.id course.ballot (next r) (Unit {0}) seat.who mail.from mail.body r (kept_of name r here) (λ _. (tt, most, omega arith)) (λ _. subst (Fits base.core.id course.ballot (next r) (Unit {0})) (sym e) f)

        by_body : (b : MailBody) → mail.body ≡ b → Well (mailed mail.from mail.body (r, [])).0.1
        by_body (Prepare g ballot from_slot) e =
            let same : g ≡ name = same_Some g name (sym (ap group_of_mail e) ∙ group) in
            let body : mail.body ≡ Prepare name ballot from_slot = e ∙ ap (λ n. Prepare n ballot from_slot) same in
            let marked : mark_of name mail.from mail.body ≡ Some (Prepares ballot) = ap (mark_of name mail.from) body ∙ same_mark name (Prepares ballot) in
            let least : IsAtLeast course.ballot ballot = known at words all rows seat node base course (scene at over by words all rows seat node base course s) number mail takes (Prepares ballot) marked in
            let goes = goes_on at words all rows seat node base course (scene at over by words all rows seat node base course s) r (view_was all rows seat Go name born (Node node) fact ∙ here) ballot least in
            let dated = rows_dated words all rows (row_of player_table seat rows (Deliver number)) base course course timely_mail in
            let taken : taken_dated name (mails rows) (Deliver number) ≡ Some (Prepares ballot, from_slot) = ap (dated_in name) sent_at ∙ (ap (option_map (λ mark. (mark, from_slot_of mail.body))) marked ∙ ap (λ b. Some (Prepares ballot, from_slot_of b)) body) in
            let low = prepares_are_known.above (progress_at all rows base course) (dated_at (players words all) rows name) seat.who ballot from_slot dated.left r was.low (dated.takes ∙ ap (λ o. listed o ++ dated.left) taken) (sym (ap (next_in base seat.who) (view_was all rows seat Go name born (Node node) fact ∙ here))) has.well.2 in
            subst (λ b. Well (mailed mail.from b (r, [])).0.1) (sym (body ∙ ap (λ n. Prepare n ballot from_slot) (sym named_is)))
            (prepare_says base.core.id course.ballot mail.from ballot from_slot r goes low (nothing number mail ballot from_slot r is_event sent_at body (view_was all rows seat Go name born (Node node) fact ∙ here)) most)
        by_body (Accept g ballot slot command) e =
            let body : mail.body ≡ Accept name ballot slot command = e ∙ ap (λ n. Accept n ballot slot command) (same_Some g name (sym (ap group_of_mail e) ∙ group)) in
            let f = fitting (Asks ballot slot) (ap (mark_of name mail.from) body ∙ same_mark name (Asks ballot slot)) in
            plainly (Accept g ballot slot command) e (subst (IsAtLeast course.ballot) (sym f.2) most)
        by_body (Learn g slot command) e =
            let body : mail.body ≡ Learn name slot command = e ∙ ap (λ n. Learn n slot command) (same_Some g name (sym (ap group_of_mail e) ∙ group)) in
            let f = fitting (Teaches slot) (ap (mark_of name mail.from) body ∙ same_mark name (Teaches slot)) in
            let low = f.1 in
            plainly (Learn g slot command) e (omega (arith, low))
        by_body (Promise g ballot reports) e = plainly (Promise g ballot reports) e (subst (SaysWell base.core.id course.ballot) e says (same_Some g name (sym (ap group_of_mail e) ∙ group)))
        by_body (Nack g promised) e = plainly (Nack g promised) e (subst (SaysWell base.core.id course.ballot) e says (same_Some g name (sym (ap group_of_mail e) ∙ group)))
        by_body body e = plainly body e tt

      -- whatever replica it is for
      comes_so : may_come mail.from mail.body ≡ true
      comes_so = Each-among (λ (m : Mail). may_come m.from m.body ≡ true) (mails rows) mail (mail_comes words scenario rows bounded before) (number_among (mails rows) number mail sent_at)

      replica_says : (group : Draw) (r : ReplicaState) → group_of_mail mail.body ≡ Some group → replica_of group node.replicas ≡ Some r → Well (mailed mail.from mail.body (r, [])).0.1
      replica_says group r named_ here = elim (cases_Bool (same_draw group name)) [
        | inl t ↦ (let same : group ≡ name = draw_is group name t in by_body r (ap (λ n. replica_of n node.replicas) (sym same) ∙ here) (named_ ∙ ap Some same) comes_so mail.body refl)
        | inr f ↦ (let other : name_of r ≡ name → ⊥ = λ same. true≢false (sym (same_name group name (sym (found_name group node.replicas r here) ∙ same)) ∙ f) in
            mail_says base.core.id course.ballot 0 ⊥ seat.who mail.from mail.body r (kept_of group r here) (λ same. absurd (other same)) (λ o. absurd o))
      ]

      late : replica_of base.core.id node.replicas ≡ None → IsLate base.core.id course.ballot node mail.from mail.body
      late here = elim (so.finds rows seat number mail node d born fact here) [
        | inl none ↦ inl none
        | inr i ↦ inr (i.0, i.1, i.2, i.3, subst (IsAtLeast course.ballot) (sym (one.sent rows seat number mail i.0 i.1 i.2 d i.3).firsts) (most_of None (view_was all rows seat Go name born (Node node) fact ∙ here)))
      ]

      mail_well : Well (on_mail mail.from mail.body node).1
      mail_well = node_says base.core.id course.ballot node mail.from mail.body replica_says (λ here group. late here)

    -- ---- an order

    order_well : (line : OrderLine) → Well (on_order line node).1
    order_well line = node_orders base.core.id course.ballot node line (λ r here. go r here)
      where
        go : (r : ReplicaState) → replica_of (group_of_order line.order) node.replicas ≡ Some r → Well (ordered_row node.draws line (r, [])).1
        go r here = elim (cases_Bool (same_draw (group_of_order line.order) name)) [
          | inl t ↦ (let same = draw_is (group_of_order line.order) name t in
              order_says base.core.id course.ballot 0 (Unit {0}) seat.who node.draws line r (kept_of (group_of_order line.order) r here) (λ _. (tt, most_of (Some r) (view_was all rows seat Go name born (Node node) fact ∙ (ap (λ n. replica_of n node.replicas) (sym same) ∙ here)), omega arith)))
          | inr f ↦ order_says base.core.id course.ballot 0 ⊥ seat.who node.draws line r (kept_of (group_of_order line.order) r here)
              (λ same. absurd (true≢false (sym (same_name (group_of_order line.order) name (sym (found_name (group_of_order line.order) node.replicas r here) ∙ same)) ∙ f)))
        ]

  -- ---- each event

  says_by : (player : Player) → value player_table seat rows ≡ player → (e : Event OrderLine) → event ≡ e → Well (acted player_table player (input_of (mails rows) e)).1
  says_by player fact (Deliver number) e = go (numbered (mails rows) number) refl player fact
    where
      go : (o : Option Mail) → numbered (mails rows) number ≡ o → (p : Player) → value player_table seat rows ≡ p → Well (acted player_table p (option_map Got o)).1
      go None at_ p is_ = tt
      go (Some mail) at_ (Node node) is_ = mail_well node is_ number mail e at_
      go (Some mail) at_ (Client client) is_ = client_says base.core.id course.ballot client (Got mail)
  says_by (Node node) fact Go e = tt
  says_by (Client client) fact Go e = client_says base.core.id course.ballot client GoInput
  says_by (Node node) fact (Told line) e = order_well node fact line
  says_by (Client client) fact (Told line) e = client_says base.core.id course.ballot client (ToldInput line)
  says_by player fact Tick e = absurd (subst (IsCalmEvent (players words all) rows seat.who) e calm)
  says_by player fact Crash e = tt
  says_by player fact (Drop mail) e = tt
  says_by player fact (Again mail) e = tt

  pub row_says : Well (row_of player_table seat rows event).sent
  row_says = subst Well (sym (sent_is all rows seat event base.core.id born (value player_table seat rows) refl (input_of (mails rows) event) refl)) (says_by (value player_table seat rows) refl event refl)
