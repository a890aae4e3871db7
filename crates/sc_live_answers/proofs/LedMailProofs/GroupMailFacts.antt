-- What mail of a group is, where what it finds and says is known.
use Rattle.std.proofs.Common.{◌≡◌, ℕ, ◌<◌, ◌&&◌, eqb, cond, true, false, nat_le, List, [], ◌∷◌, ◌++◌, map, Bool, Option, Some, None, ◌⊎◌, inl, inr, refl, sym, ◌∙◌, ap, subst, append_assoc, arith}
use Rattle.std.specs.List.{All}
use Rattle.std.proofs.lemmas.Bool.{cases_Bool, cond-false, and_parts, leb-true}
use Rattle.std.proofs.lemmas.List.Elements.{All-head, All-tail}
use Rattle.sc_base.specs.Definitions.{Each, most_nodes, same_draw, is_member}
use Rattle.sc_node_table.specs.Values.{Draw, Ballot, Base, OrderLine, Mail, MailBody, Prepare, Promise, Accept, Accepted, Nack, Learn, Install, Node, Client, Seat, Event, Deliver, Row}
use Rattle.sc_base.proofs.Lemmas.{draw_is}
use Rattle.sc_actor.specs.Definitions.{mails, numbered, value, row_of}
use Rattle.sc_client_table.specs.table.TableDefinitions.{Client as ClientState}
use Rattle.sc_live_orderly.specs.OrderlyDefinitions.{AreInTime}
use Rattle.sc_live_orderly.proofs.OrderlyLemmas.{in_time_before}
use Rattle.sc_words.specs.paxos.PaxosDefinitions.{below, IsAtLeast}
use Rattle.sc_words.proofs.PaxosProofs.PaxosLemmas.{Each-among, Each-append, find_found}
use Rattle.sc_scenario.specs.scenario.Definitions.{IsBounded, IsBoundedClient}
use Rattle.sc_scenario.specs.declared.scenario.scenarios.Asks.{Asks as Requests}
use Rattle.sc_scenario.specs.declared.scenario.scenarios.Scenario.{Scenario}
use Rattle.sc_node_table.specs.NodeDefinitions.{may_come, is_node, ReplicaState, listed, numbers_from}
use Rattle.sc_law_groups.proofs.GroupProofs.GroupLemmas.{number_among}
use Rattle.sc_law_walks.specs.WalkDefinitions.{GoesOn}
use Rattle.sc_meaning.specs.sound.SoundDefinitions.{Player, player_table, node_seat, client_seat, client_seats, route_of, births, as_nodes}
use Rattle.sc_live_steps.specs.calm.CalmDefinitions.{players, Rows}
use Rattle.sc_live_steps.specs.following.FollowingDefinitions.{Mark, Asks, Votes, Teaches, Installs, Prepares, Promises, mark_of, Course, Progress, Sets, IsFit, AreFit, SlotLeaders, IsRow, marks_for}
use Rattle.sc_live_journals.specs.rows.RowDefinitions.{view_at, marks_at, mark_in, next_in, progress_at, IsSeat, with_event}
use Rattle.sc_live_journals.proofs.RowsProofs.RowLemmas.{rows_are, view_was}
use Rattle.sc_live_journals.specs.groups.GroupDefinitions.{Ends, IsWellLed, IsLogOf, Delivers, IsSentSo}
use Rattle.sc_live_journals.proofs.MailProofs.MailLemmas.{mail_comes, clients_stay}
use Rattle.sc_live_answers.proofs.LedGroupsProofs.SlotLeaders.{last_parts}
use Rattle.sc_live_answers.specs.AnswerDefinitions.{FindsOne, IsStranger, IsSentOn, IsQuietWhileYoung, NextMailIsSentSo, SaysWell}

-- ---- the number of a client is none of a node's

abbrev IsApart : Player → ℕ → Type 0
IsApart (Node node) who = Unit {0}
IsApart (Client client) who = most_nodes < who

module _ (scenario : Scenario) (bounded : IsBounded scenario) where
  abbrev SeatApart : Seat Player → Type 0
  SeatApart seat = IsApart seat.actor seat.who

  nodes_apart : (numbers : List ℕ) → Each SeatApart (map (node_seat as_nodes scenario.groups scenario.policy) numbers)
  nodes_apart [] = tt
  nodes_apart (n ∷ numbers) = (tt, nodes_apart numbers)

  clients_apart : (groups : List Base) (clients : List Requests) → All IsBoundedClient clients → Each SeatApart (client_seats groups clients)
  clients_apart [] clients all = tt
  clients_apart (base ∷ groups) clients all = by clients all
    where
      by : (cs : List Requests) → All IsBoundedClient cs → Each SeatApart (map (client_seat (route_of base)) cs)
      by [] each = tt
      by (c ∷ cs) each = ((let some = (All-head IsBoundedClient c cs each).0.0 in omega (arith, some)), by cs (All-tail IsBoundedClient c cs each))

  all_apart : Each SeatApart (births as_nodes scenario)
  all_apart = Each-append SeatApart (map (node_seat as_nodes scenario.groups scenario.policy) (numbers_from 1 scenario.nodes)) (client_seats scenario.groups scenario.clients) (nodes_apart (numbers_from 1 scenario.nodes)) (clients_apart scenario.groups scenario.clients bounded.clients)

  no_node : (who : ℕ) → most_nodes < who → is_node who ≡ true → ⊥
  no_node who far fact = (let most : nat_le who most_nodes ≡ true = (and_parts (nat_le 1 who) (nat_le who most_nodes) fact).1 in let low = leb-true who most_nodes most in absurd (omega (arith, far, low)))

  module _ (words : ℕ → ℕ → ℕ × ℕ) (rows : Rows) (timely : AreInTime (players words (births as_nodes scenario)) rows) (seat : Seat Player) (born : IsSeat (births as_nodes scenario) seat) where
    far : (client : ClientState) → value player_table seat rows ≡ Client client → most_nodes < seat.who
    far client fact =
        let own : SeatApart seat = Each-among SeatApart (births as_nodes scenario) seat all_apart (find_found (λ (x : Seat Player). eqb x.who seat.who) (births as_nodes scenario) seat born).0 in
        subst (λ p. IsApart p seat.who) (clients_stay words scenario rows timely seat client born fact).1 own

-- ---- the mark of a state

module _ (name : Draw) (slot : ℕ) where
  same_one : (b : Bool) (mark : Mark) → cond b (Some mark) None ≡ Some (Installs slot) → (b ≡ true) × (mark ≡ Installs slot)
  same_one true mark e = (refl, cc)
  same_one false mark e = cc

  abbrev IsState : MailBody → Type 0
  IsState body = (at : ℕ) × (state : Base) × (sets : List (List ℕ)) × (body ≡ Install name at state sets)

  state_of : (from : ℕ) (body : MailBody) → mark_of name from body ≡ Some (Installs slot) → IsState body
  state_of from (Install g at state sets) e = (at, state, sets, ap (λ n. Install n at state sets) (draw_is g name (same_one (same_draw g name) (Installs at) e).0))
  state_of from (Accept g ballot at command) e = (let f = (same_one (same_draw g name) (Asks ballot at) e).1 in cc)
  state_of from (Accepted g ballot at) e = (let f = (same_one (same_draw g name) (Votes from ballot at) e).1 in cc)
  state_of from (Learn g at command) e = (let f = (same_one (same_draw g name) (Teaches at) e).1 in cc)
  state_of from (Prepare g ballot at) e = (let f = (same_one (same_draw g name) (Prepares ballot) e).1 in cc)
  state_of from (Promise g ballot reports) e = (let f = (same_one (same_draw g name) (Promises from ballot) e).1 in cc)
  state_of from _ e = cc

-- ---- the mail that comes after some rows

module _ (words : ℕ → ℕ → ℕ × ℕ) (at : Sets) (over : Ends) (by : SlotLeaders) (scenario : Scenario) (rows : Rows) (base : Base) (course : Course) (bounded : IsBounded scenario) (log : IsLogOf at by)
    (was : IsWellLed at over by words (births as_nodes scenario) rows base course) (sent : IsSentOn at words (births as_nodes scenario) rows base course) (quiet : IsQuietWhileYoung words (births as_nodes scenario) rows base) where
  abbrev all : List (Seat Player)
  all = births as_nodes scenario

  abbrev name : Draw
  name = base.core.id

  abbrev now : Progress
  now = progress_at all rows base course

  module _ (seat : Seat Player) (number : ℕ) (mail : Mail) (sent_at : numbered (mails rows) number ≡ Some mail) (timely : AreInTime (players words (births as_nodes scenario)) (with_event rows seat (Deliver number))) where
    before : AreInTime (players words all) rows
    before = in_time_before (players words all) rows (row_of player_table seat rows (Deliver number)) timely

    row_in : IsRow now (progress_at all (with_event rows seat (Deliver number)) base course) seat.who (mark_in name (numbered (mails rows) number)) (λ who. marks_for name who (row_of player_table seat rows (Deliver number)).sent)
        (marks_at (players words all) rows name) (marks_at (players words all) (with_event rows seat (Deliver number)) name)
    row_in = rows_are words all rows (row_of player_table seat rows (Deliver number)) base course course timely

    module _ (mark : Mark) (fact : mark_of base.core.id mail.from mail.body ≡ Some mark) where
      head : marks_at (players words all) rows name seat.who ≡ mark ∷ row_in.left
      head = row_in.takes ∙ ap (λ o. listed o ++ row_in.left) (ap (mark_in name) sent_at ∙ fact)

      pub fit : IsFit (now.next seat.who) (now.promise seat.who) mark
      fit = (subst (AreFit (now.next seat.who) (now.promise seat.who)) head (was.followed.follows.fits seat.who)).0

      pub found : FindsOne now seat.who mark
      found = (subst (Each (FindsOne now seat.who)) head (sent.homes.finds seat.who)).0

      some : marks_at (players words all) rows name seat.who ≡ [] → ⊥
      some none = (let bad : [] ≡ mark ∷ row_in.left = sym none ∙ head in cc)

    -- a client is no member
    client_none : (client : ClientState) → IsSeat all seat → value player_table seat rows ≡ Client client → (o : Option Mark) → mark_of base.core.id mail.from mail.body ≡ o → o ≡ None
    client_none client born fact None e = refl
    client_none client born fact (Some mark) e = absurd (some mark e (sent.homes.strangers seat.who out).1)
      where
        out : IsStranger at seat.who
        out slot = elim (cases_Bool (is_member (at slot) seat.who)) [ inl t ↦ absurd (no_node scenario bounded seat.who (far scenario bounded words rows before seat born client fact) (log.nodes slot seat.who t)) | inr f ↦ f ]

    -- where there is no replica, a state comes
    none_fits : (mark : Mark) → (n : ℕ) → n ≡ 0 → IsFit n (now.promise seat.who) mark → (now.next seat.who ≡ n) → FindsOne now seat.who mark → (slot : ℕ) × (mark ≡ Installs slot)
    none_fits (Asks ballot slot) n zero_ f same g = (let low = f.0 in absurd (omega (arith, low, zero_)))
    none_fits (Teaches slot) n zero_ f same g = (let low = f.0 in absurd (omega (arith, low, zero_)))
    none_fits (Prepares ballot) n zero_ f same g = (let low = f.0 in absurd (omega (arith, low, zero_)))
    none_fits (Votes node ballot slot) n zero_ f same g = absurd (omega (arith, g, zero_, same))
    none_fits (Promises node ballot) n zero_ f same g = absurd (omega (arith, g, zero_, same))
    none_fits (Installs slot) n zero_ f same g = (slot, refl)

    node_finds : view_at all rows name seat.who ≡ None → (o : Option Mark) → mark_of base.core.id mail.from mail.body ≡ o
        → (mark_of base.core.id mail.from mail.body ≡ None) ⊎ ((slot : ℕ) × (state : Base) × (sets : List (List ℕ)) × (mail.body ≡ Install base.core.id slot state sets))
    node_finds view None e = inl e
    node_finds view (Some mark) e = elim (cases_Bool (is_member base.core.members seat.who)) [
      | inl t ↦ absurd (some mark e (quiet seat.who t view))
      | inr f ↦ (let zero_ : now.next seat.who ≡ 0 = ap (next_in base seat.who) view ∙ cond-false (is_member base.core.members seat.who) 1 0 f in
          let i = none_fits mark (now.next seat.who) zero_ (fit mark e) refl (found mark e) in
          inr (state_of base.core.id i.0 mail.from mail.body (e ∙ ap Some i.1)))
    ]

    says : SaysWell base.core.id course.ballot mail.body
    says = Each-among (λ (m : Mail). SaysWell base.core.id course.ballot m.body) (mails rows) mail sent.says (number_among (mails rows) number mail sent_at)

    goes : (promised : Ballot) (r : ReplicaState) → mail.body ≡ Nack base.core.id promised → view_at all rows base.core.id seat.who ≡ Some r → GoesOn promised r
    goes promised r body view = run r.running refl
      where
        least : IsAtLeast course.ballot promised
        least = subst (SaysWell base.core.id course.ballot) body says refl

        run : (b : Bool) → r.running ≡ b → GoesOn promised r
        run true on = ap (λ b. b && below r.leader.ballot promised) on ∙ (ap (λ (b : Ballot). true && below b promised) (was.followed.given.gives seat.who r view on).0.led.may.ballot ∙ least)
        run false off = ap (λ b. b && below r.leader.ballot promised) off

    comes : may_come mail.from mail.body ≡ true
    comes = Each-among (λ (m : Mail). may_come m.from m.body ≡ true) (mails rows) mail (mail_comes words scenario rows bounded before) (number_among (mails rows) number mail sent_at)

  -- ---- so in one row more

  module _ (seat : Seat Player) (event : Event OrderLine) (timely : AreInTime (players words (births as_nodes scenario)) (with_event rows seat event)) (so : IsSentSo (births as_nodes scenario) rows base) where
    abbrev then_ : Rows
    then_ = with_event rows seat event

    abbrev row : Row Mail OrderLine
    row = row_of player_table seat rows event

    -- a mail that is delivered in these is delivered in those before, or in the last
    abbrev Last : Rows → Seat Player → ℕ → Mail → Type 0
    Last first who number mail = (first ≡ rows) × AreInTime (players words all) (with_event rows who (Deliver number))

    which : (first : Rows) (who : Seat Player) (number : ℕ) (mail : Mail) → Delivers then_ first who number mail → Last first who number mail ⊎ Delivers rows first who number mail
    which first who number mail d = elim (last_parts rows row first (row_of player_table who first (Deliver number)) d.row.more (d.row.fact ∙ append_assoc first (row_of player_table who first (Deliver number) ∷ []) d.row.more)) [
      | inl p ↦ inl (p.0, subst (λ (r : Row Mail OrderLine). AreInTime (players words all) (rows ++ r ∷ [])) (sym p.1 ∙ ap (λ f. row_of player_table who f (Deliver number)) p.0) timely)
      | inr q ↦ inr (record { row = record { more = q.0; fact = q.1 ∙ sym (append_assoc first (row_of player_table who first (Deliver number) ∷ []) q.0) }; sent = d.sent })
    ]

    then_so : IsSentSo all then_ base
    then_so = record {
      comes = λ first who number mail d. elim (which first who number mail d) [
        | inl l ↦ inr (comes who number mail (ap (λ f. numbered (mails f) number) (sym l.0) ∙ d.sent) l.1)
        | inr old ↦ so.comes first who number mail old
      ];
      clients = λ first who number mail client d born fact. elim (which first who number mail d) [
        | inl l ↦ client_none who number mail (ap (λ f. numbered (mails f) number) (sym l.0) ∙ d.sent) l.1 client born (ap (value player_table who) (sym l.0) ∙ fact) (mark_of base.core.id mail.from mail.body) refl
        | inr old ↦ so.clients first who number mail client old born fact
      ];
      finds = λ first who number mail node d born fact here. elim (which first who number mail d) [
        | inl l ↦ node_finds who number mail (ap (λ f. numbered (mails f) number) (sym l.0) ∙ d.sent) l.1
            (view_was all rows who (Deliver number) base.core.id born (Node node) (ap (value player_table who) (sym l.0) ∙ fact) ∙ here) (mark_of base.core.id mail.from mail.body) refl
        | inr old ↦ so.finds first who number mail node old born fact here
      ];
      asks = λ first who number mail from_slot d body. elim (which first who number mail d) [
        | inl l ↦ subst (SaysWell base.core.id course.ballot) body (says who number mail (ap (λ f. numbered (mails f) number) (sym l.0) ∙ d.sent) l.1) refl
        | inr old ↦ so.asks first who number mail from_slot old body
      ];
      plain = λ first who number mail ballot reports d body. elim (which first who number mail d) [
        | inl l ↦ subst (SaysWell base.core.id course.ballot) body (says who number mail (ap (λ f. numbered (mails f) number) (sym l.0) ∙ d.sent) l.1) refl
        | inr old ↦ so.plain first who number mail ballot reports old body
      ];
      nacks = λ first who number mail promised r d body view. elim (which first who number mail d) [
        | inl l ↦ goes who number mail (ap (λ f. numbered (mails f) number) (sym l.0) ∙ d.sent) l.1 promised r body (ap (λ f. view_at all f base.core.id who.who) (sym l.0) ∙ view)
        | inr old ↦ so.nacks first who number mail promised r old body view
      ];
    }

-- Where mail finds a replica where it needs one, and says so of a group, it is sent so in one row more.
pub next_mail_so : NextMailIsSentSo
next_mail_so words at over by scenario rows seat event base course bounded log timely was sent quiet so = then_so words at over by scenario rows base course bounded log was sent quiet seat event timely so
