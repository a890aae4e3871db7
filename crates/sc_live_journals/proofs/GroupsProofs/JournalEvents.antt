-- Each event of a player in a journal whose log is one keeps a group well led.
use Rattle.std.proofs.Common.{◌≡◌, ℕ, true, true≢false, List, [], ◌∷◌, ◌++◌, Option, Some, None, inl, inr, refl, sym, ◌∙◌, ap, subst, append_assoc}
use Rattle.std.proofs.lemmas.Bool.{cases_Bool}
use Rattle.sc_base.specs.Definitions.{Each, same_draw}
use Rattle.sc_node_table.specs.Values.{Draw, Base, OrderLine, Mail, MailBody, Prepare, Promise, Accept, Accepted, Nack, Learn, Ask, Install, Node, Client, Seat, Event, Deliver, Tick, Go, Crash, Drop, Again}
use Rattle.sc_base.proofs.Lemmas.{draw_is, same_name}
use Rattle.sc_actor.specs.declared.rows.Event.TheVariants.{Told}
use Rattle.sc_actor.specs.Definitions.{numbered, mails, value, row_of}
use Rattle.sc_live_orderly.specs.OrderlyDefinitions.{IsTidy, IsCalmEvent, AreInTime}
use Rattle.sc_live_orderly.proofs.OrderlyLemmas.{in_time_before, in_time_tidy, takes_first, is_born-from}
use Rattle.sc_words.proofs.PaxosProofs.PaxosLemmas.{Each-among}
use Rattle.sc_node_table.specs.NodeDefinitions.{NodeState, replica_of, group_of_mail, may_come, group_of_order, ordered_row, ReplicaState, mailed}
use Rattle.sc_meaning.specs.sound.SoundDefinitions.{Player, player_table}
use Rattle.sc_live_steps.specs.calm.CalmDefinitions.{players, Rows}
use Rattle.sc_live_steps.specs.following.FollowingDefinitions.{Teaches, mark_of, Course, Sets, SlotLeaders, IsAside}
use Rattle.sc_live_steps.proofs.FollowingProofs.FollowingLemmas.{same_mark}
use Rattle.sc_live_journals.specs.rows.RowDefinitions.{PlaysAlone, view_at, mark_in, TakesMail, HoldsReplica, IsOwnMail, IsOwnAsking, IsSeat, with_event, LeavesAlone, IsReplicasRow, IsWellKept}
use Rattle.sc_live_journals.proofs.RowsProofs.RowLemmas.{ballots_own, fit, others_idle, rows_replicas, view_was, Plays, Found, found_well, replay_well}
use Rattle.sc_live_journals.specs.groups.GroupDefinitions.{IsLedStep, Ends, IsWellLed, IsOfLog, CountsAsMember, IsLedScene, IsWellPlayer, AreWellBorn, IsRowOf, Delivers, HasOneLog, IsSentSo, EventsGoOn}
use Rattle.sc_live_journals.proofs.GroupsProofs.LeaderEvents.{leaders_keep_led}
use Rattle.sc_live_journals.proofs.GroupsProofs.NodeMail.{scene}
use Rattle.sc_live_journals.proofs.GroupsProofs.IdleEvents.{others_keep_led, mails_keep_led}
use Rattle.sc_law_groups.proofs.GroupProofs.RowSteps.{number_among}

-- a player that is born well, as what is said of it later
pub plays_of : (who : ℕ) (player : Player) → IsWellPlayer who player → Plays who player
plays_of who (Node node) k = (k.0, subst (λ m. Each (IsWellKept m) node.replicas) k.0 k.1)
plays_of who (Client client) k = tt

-- a replica that such a node holds is well
pub holds_of : (seat : Seat Player) (node : NodeState) (base : Base) → Plays seat.who (Node node) → (r : ReplicaState) → replica_of base.core.id node.replicas ≡ Some r → HoldsReplica seat node base r
holds_of seat node base plays r here = record { here = here; well = subst (Found seat.who) here (found_well seat.who base.core.id node.replicas plays.1) }

-- each asks in a ballot of its own
pub asks_own : (words : ℕ → ℕ → ℕ × ℕ) (births : List (Seat Player)) (rows : Rows) → Each (λ (seat : Seat Player). PlaysAlone seat.actor) births → AreInTime (players words births) rows → (number : ℕ) (mail : Mail) → numbered (mails rows) number ≡ Some mail → (b : MailBody) → mail.body ≡ b → IsOwnAsking mail.from b
asks_own words births rows apart timely number mail sent b e =
    subst (IsOwnAsking mail.from) e (Each-among IsOwnMail (mails rows) mail (ballots_own words births rows apart timely) (number_among (mails rows) number mail sent))

module _ (at : Sets) (over : Ends) (by : SlotLeaders) (words : ℕ → ℕ → ℕ × ℕ) (births : List (Seat Player)) (journal : Rows) (base : Base) (wb : AreWellBorn births) (one : HasOneLog at over by births journal base) (so : IsSentSo births journal base)
    (rows : Rows) (seat : Seat Player) (course : Course) (born : IsSeat births seat) (was : IsWellLed at over by words births rows base course) where
  abbrev name : Draw
  name = base.core.id

  tidy : (event : Event OrderLine) → AreInTime (players words births) (with_event rows seat event) → IsTidy rows
  tidy event timely = in_time_tidy (players words births) rows (in_time_before (players words births) rows (row_of player_table seat rows event) timely)

  -- what is before a row of the journal begins it
  before_row : {event : Event OrderLine} → (row : IsRowOf journal rows seat event) → journal ≡ rows ++ (row_of player_table seat rows event ∷ row.more)
  before_row {event} row = row.fact ∙ append_assoc rows (row_of player_table seat rows event ∷ []) row.more

  alone : (event : Event OrderLine) → AreInTime (players words births) (with_event rows seat event) → LeavesAlone births rows seat event base → IsLedStep at over by words births rows seat event base course
  alone event timely leaves = others_keep_led.alone at over by words births rows seat event base course one.log timely was leaves

  -- ---- a node

  module _ (node : NodeState) (fact : value player_table seat rows ≡ Node node) where
    s : IsLedScene at over by words births rows seat node base course
    s = record { log = one.log; seated = born; fact = fact; led = was }

    plays : Plays seat.who (Node node)
    plays = subst (Plays seat.who) fact (replay_well seat.who seat.who rows seat.actor [] (plays_of seat.who seat.actor (wb.well seat born)))

    view_of : (r : ReplicaState) → replica_of name node.replicas ≡ Some r → view_at births rows name seat.who ≡ Some r
    view_of r here = view_was births rows seat Go name born (Node node) fact ∙ here

    -- what the log says of a leader's row
    module _ (event : Event OrderLine) (row : IsRowOf journal rows seat event) (r after : ReplicaState) (here : replica_of base.core.id node.replicas ≡ Some r) (then_ : view_at births (with_event rows seat event) base.core.id seat.who ≡ Some after) where
      logs : IsOfLog at over after
      logs = one.states (with_event rows seat event) row.more seat.who after row.fact then_

      counts : r.running ≡ true → CountsAsMember at by r after seat.who
      counts runs = one.counted rows seat event r after row (view_of r here) runs then_

    -- ---- a mail

    module _ (number : ℕ) (mail : Mail) (d : Delivers journal rows seat number mail) (timely : AreInTime (players words births) (with_event rows seat (Deliver number))) where
      abbrev Led : Type 0
      Led = IsLedStep at over by words births rows seat (Deliver number) base course

      alone_mail : LeavesAlone births rows seat (Deliver number) base → Led
      alone_mail leaves = alone (Deliver number) timely leaves

      module _ (group : group_of_mail mail.body ≡ Some base.core.id) where
        missed : replica_of name node.replicas ≡ None → mark_of name mail.from mail.body ≡ None → Led
        missed here none = alone_mail (others_idle.missed births rows seat number mail base node born fact d.sent none group here)

        -- where it has no replica
        makes : replica_of name node.replicas ≡ None → Led
        makes here = elim (so.finds rows seat number mail node d born fact here) [
          | inl none ↦ missed here none
          | inr i ↦ elim (so.comes rows seat number mail d) [
            | inl none ↦ missed here none
            | inr comes ↦ mails_keep_led.made at over by words births rows seat number mail node base course i.0 i.1 i.2 s (record { timely = timely; sent = d.sent; comes = comes }) plays.0 here i.3 (one.sent rows seat number mail i.0 i.1 i.2 d i.3)
          ]
        ]

        -- where it has one
        module _ (r : ReplicaState) (here : replica_of base.core.id node.replicas ≡ Some r) (comes : may_come mail.from mail.body ≡ true) where
          takes : TakesMail words births rows seat number mail
          takes = record { timely = timely; sent = d.sent; comes = comes }

          has : HoldsReplica seat node base r
          has = holds_of seat node base plays r here

          abbrev after : ReplicaState
          after = (mailed mail.from mail.body (r, [])).0.0

          row_ : IsReplicasRow births rows seat (Deliver number) base.core.id (Some r) (mailed mail.from mail.body (r, [])).0
          row_ = rows_replicas.taken births rows seat number mail name node r born fact d.sent comes group here

          logs_ : IsOfLog at over after
          logs_ = logs (Deliver number) d.row r after here row_.fact

          aside : IsAside r mail.body → Led
          aside a = elim (cases_Bool r.running) [
            | inl runs ↦ leaders_keep_led.aside at over by words births rows seat number mail node base course r s takes has group a runs logs_ (counts (Deliver number) d.row r after here row_.fact runs)
            | inr off ↦ mails_keep_led.aside at over by words births rows seat number mail node base course r s takes has group a off
          ]

          some_is : (one_ other : Draw) → Some one_ ≡ Some other → one_ ≡ other
          some_is one_ other e = cc

          by_body : (b : MailBody) → mail.body ≡ b → Led
          by_body (Accept g ballot slot command) e =
              let body : mail.body ≡ Accept name ballot slot command = e ∙ ap (λ n. Accept n ballot slot command) (some_is g name (sym (ap group_of_mail e) ∙ group)) in
              mails_keep_led.accept at over by words births rows seat number mail node base course r ballot slot command s takes has (asks_own words births rows wb.alone (in_time_before (players words births) rows (row_of player_table seat rows (Deliver number)) timely) number mail d.sent (Accept g ballot slot command) e) body
          by_body (Prepare g ballot from_slot) e =
              let body : mail.body ≡ Prepare name ballot from_slot = e ∙ ap (λ n. Prepare n ballot from_slot) (some_is g name (sym (ap group_of_mail e) ∙ group)) in
              mails_keep_led.prepare at over by words births rows seat number mail node base course r ballot from_slot s takes has (asks_own words births rows wb.alone (in_time_before (players words births) rows (row_of player_table seat rows (Deliver number)) timely) number mail d.sent (Prepare g ballot from_slot) e) body
          by_body (Learn g slot command) e =
              let body : mail.body ≡ Learn name slot command = e ∙ ap (λ n. Learn n slot command) (some_is g name (sym (ap group_of_mail e) ∙ group)) in
              let marked : mark_of name mail.from mail.body ≡ Some (Teaches slot) = ap (mark_of name mail.from) body ∙ same_mark name (Teaches slot) in
              let place = (fit at words births rows seat node base course (scene at over by words births rows seat node base course s) number mail takes r has (Teaches slot) marked (mailed mail.from mail.body (r, [])).0 row_).1 in
              let told = one.told rows seat number mail slot command r d body (view_of r here) place in
              mails_keep_led.learn at over by words births rows seat number mail node base course r slot command s takes has body told.0 told.1 (one.rounds rows _ seat.who r (before_row d.row) (view_of r here))
          by_body (Install g slot state sets) e =
              let body : mail.body ≡ Install name slot state sets = e ∙ ap (λ n. Install n slot state sets) (some_is g name (sym (ap group_of_mail e) ∙ group)) in
              mails_keep_led.install at over by words births rows seat number mail node base course r slot state sets s takes has body (one.sent rows seat number mail slot state sets d body)
          by_body (Accepted g ballot slot) e =
              let body : mail.body ≡ Accepted name ballot slot = e ∙ ap (λ n. Accepted n ballot slot) (some_is g name (sym (ap group_of_mail e) ∙ group)) in
              elim (cases_Bool r.running) [
                | inl runs ↦ leaders_keep_led.vote at over by words births rows seat number mail node base course r ballot slot s takes has body runs (one.decided rows seat number mail ballot slot r d body (view_of r here) runs)
                    (one.rests rows seat number mail ballot slot r d body (view_of r here) runs (was.followed.given.gives seat.who r (view_of r here) runs).0.led.stands) logs_ (counts (Deliver number) d.row r after here row_.fact runs)
                | inr off ↦ mails_keep_led.vote at over by words births rows seat number mail node base course r ballot slot s takes has body off
              ]
          by_body (Promise g ballot reports) e =
              let body : mail.body ≡ Promise name ballot reports = e ∙ ap (λ n. Promise n ballot reports) (some_is g name (sym (ap group_of_mail e) ∙ group)) in
              elim (cases_Bool r.running) [
                | inl runs ↦ leaders_keep_led.promise at over by words births rows seat number mail node base course r ballot s takes has (body ∙ ap (Promise name ballot) (so.plain rows seat number mail ballot reports d body)) runs logs_ (counts (Deliver number) d.row r after here row_.fact runs)
                | inr off ↦ mails_keep_led.promise at over by words births rows seat number mail node base course r ballot reports s takes has body off
              ]
          by_body (Nack g promised) e =
              let body : mail.body ≡ Nack name promised = e ∙ ap (λ n. Nack n promised) (some_is g name (sym (ap group_of_mail e) ∙ group)) in
              aside (subst (IsAside r) (sym body) (so.nacks rows seat number mail promised r d body (view_of r here)))
          by_body (Ask g from_slot) e = absurd (so.asks rows seat number mail from_slot d (e ∙ ap (λ n. Ask n from_slot) (some_is g name (sym (ap group_of_mail e) ∙ group))))
          by_body _ e = aside (subst (IsAside r) (sym e) tt)

        holds_one : (r : ReplicaState) → replica_of name node.replicas ≡ Some r → Led
        holds_one r here = elim (cases_Bool (may_come mail.from mail.body)) [
          | inl comes ↦ by_body r here comes mail.body refl
          | inr barred ↦ elim (so.comes rows seat number mail d) [
            | inl none ↦ alone_mail (others_idle.barred births rows seat number mail base node born fact d.sent none barred)
            | inr comes ↦ absurd (true≢false (sym comes ∙ barred))
          ]
        ]

        own_mail : (o : Option ReplicaState) → replica_of name node.replicas ≡ o → Led
        own_mail None here = makes here
        own_mail (Some r) here = holds_one r here

      by_group : (o : Option Draw) → group_of_mail mail.body ≡ o → Led
      by_group None e = alone_mail (others_idle.stray births rows seat number mail base node born fact d.sent e)
      by_group (Some g) e = elim (cases_Bool (same_draw g name)) [
        | inl t ↦ own_mail (e ∙ ap Some (draw_is g name t)) (replica_of name node.replicas) refl
        | inr f ↦ (let ne : g ≡ name → ⊥ = λ is_. true≢false (sym (same_name g name is_) ∙ f) in
            others_keep_led.creation at over by words births rows seat (Deliver number) base course one.log timely was one.begins one.first one.stands
            (others_idle.other births rows seat number mail base g node born fact plays.0 d.sent e ne (one.born rows seat number mail node g d born fact e ne)))
      ]

    -- ---- an order

    module _ (line : OrderLine) (row : IsRowOf journal rows seat (Told line)) (timely : AreInTime (players words births) (with_event rows seat (Told line))) where
      by_replica : (o : Option ReplicaState) → group_of_order line.order ≡ name → replica_of name node.replicas ≡ o → IsLedStep at over by words births rows seat (Told line) base course
      by_replica None group here = alone (Told line) timely (others_idle.refused births rows seat line base node born fact (ap (λ n. replica_of n node.replicas) group ∙ here))
      by_replica (Some r) group here = elim (cases_Bool r.running) [
        | inl runs ↦ (let there : replica_of (group_of_order line.order) node.replicas ≡ Some r = ap (λ n. replica_of n node.replicas) group ∙ here in
            let after = (ordered_row node.draws line (r, [])).0 in
            let row_ : IsReplicasRow births rows seat (Told line) name (Some r) (ordered_row node.draws line (r, [])) = subst (λ n. IsReplicasRow births rows seat (Told line) n (Some r) (ordered_row node.draws line (r, []))) group (rows_replicas.ordered births rows seat line node r born fact there) in
            leaders_keep_led.order at over by words births rows seat line node base course r s timely (holds_of seat node base plays r here) group runs (logs (Told line) row r after here row_.fact) (counts (Told line) row r after here row_.fact runs))
        | inr off ↦ mails_keep_led.order at over by words births rows seat line node base course r s timely (holds_of seat node base plays r here) group off
      ]

      ordered : IsLedStep at over by words births rows seat (Told line) base course
      ordered = elim (cases_Bool (same_draw (group_of_order line.order) name)) [
        | inl t ↦ by_replica (replica_of name node.replicas) (draw_is (group_of_order line.order) name t) refl
        | inr f ↦ alone (Told line) timely (others_idle.ordered births rows seat line base node born fact (λ is_. true≢false (sym (same_name (group_of_order line.order) name is_) ∙ f)))
      ]

  -- ---- each event

  by_player : (player : Player) (event : Event OrderLine) → value player_table seat rows ≡ player → IsRowOf journal rows seat event → IsCalmEvent (players words births) rows seat.who event → AreInTime (players words births) (with_event rows seat event)
      → IsLedStep at over by words births rows seat event base course
  by_player (Client client) (Deliver number) fact row calm timely =
      let f = takes_first (players words births) rows seat.who number (tidy (Deliver number) timely) (is_born-from (players words births) seat.who seat born) calm in
      alone (Deliver number) timely (others_idle.client births rows seat (Deliver number) base client born fact (ap (mark_in name) f.sent ∙ so.clients rows seat number f.mail client (record { row = row; sent = f.sent }) born fact))
  by_player (Client client) Go fact row calm timely = alone Go timely (others_idle.client births rows seat Go base client born fact refl)
  by_player (Client client) (Told line) fact row calm timely = alone (Told line) timely (others_idle.client births rows seat (Told line) base client born fact refl)
  by_player (Client client) Tick fact row calm timely = absurd calm
  by_player (Client client) Crash fact row calm timely = absurd calm
  by_player (Client client) (Drop mail) fact row calm timely = absurd calm
  by_player (Client client) (Again mail) fact row calm timely = absurd calm
  by_player (Node node) (Deliver number) fact row calm timely =
      let f = takes_first (players words births) rows seat.who number (tidy (Deliver number) timely) (is_born-from (players words births) seat.who seat born) calm in
      by_group node fact number f.mail (record { row = row; sent = f.sent }) timely (group_of_mail f.mail.body) refl
  by_player (Node node) Go fact row calm timely = alone Go timely (others_idle.go births rows seat base node born fact)
  by_player (Node node) (Told line) fact row calm timely = ordered node fact line row timely
  by_player (Node node) _ fact row calm timely = absurd calm

-- Each event of a player in a calm journal is a row of a group whose log is one, and whose mail is sent so: it does nothing in it, a replica rests or takes a mail, a node makes one, its leader acts, or one elects itself; and the group is well led in the course after it.
pub events_go_on : EventsGoOn
events_go_on at over by words births journal base wb one so rows seat event course row born calm timely was =
    by_player at over by words births journal base wb one so rows seat course born was (value player_table seat rows) event refl row calm timely
