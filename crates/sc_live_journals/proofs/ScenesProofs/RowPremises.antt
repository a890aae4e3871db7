-- A row that finds what is said keeps an order under way: by the mail that it takes, and who takes it.
use Rattle.std.proofs.Common.{◌≡◌, ℕ, Bool, true, false, List, [], Option, Some, None, refl, sym, ◌∙◌, ap, subst}
use Rattle.std.specs.Option.{option_map}
use Rattle.sc_node_table.specs.Values.{Draw, Ballot, Op, Route, OrderLine, Mail, MailBody, Request, Answer, Prepare, Promise, Accept, Accepted, Nack, Learn, Ask, Install, TxPrepare, TxVote, TxOutcome, TxElsewhere, TxWatch, TxWatched, Told as ToldMail, Node, Client, Seat, Event, Deliver, Tick, Go, Crash, Drop, Again}
use Rattle.sc_mail.specs.declared.bodies.AnswerBody.TheVariants as Says
use Rattle.sc_base.specs.Definitions.{client_actor}
use Rattle.sc_actor.specs.declared.rows.Event.TheVariants.{Told}
use Rattle.sc_actor.specs.Definitions.{mails, numbered, value, row_of}
use Rattle.sc_live_orderly.specs.OrderlyDefinitions.{AreInTime}
use Rattle.sc_live_orderly.proofs.OrderlyLemmas.{last_in_time}
use Rattle.sc_node_table.specs.NodeDefinitions.{NodeState, replica_of, group_of_mail, may_come, absent, unknown, group_of_order, ReplicaState, name_of, mailed, request_row, requested, request_refusal}
use Rattle.sc_meaning.specs.sound.SoundDefinitions.{Player, player_table, births}
use Rattle.sc_live_steps.specs.calm.CalmDefinitions.{players, Rows}
use Rattle.sc_live_steps.specs.orders.OrderDefinitions.{Unbound, Bound, Errand, Question, Elsewhere, Reply, Result, Answers, Here, IsOnly, IsTaken, Comes, IsUnderWay, IsUnbound, MayFile, bond_of, errand_by, errands_for, is_yes, is_cast_yes}
use Rattle.sc_live_steps.proofs.OrderStepsProofs.OrderStepLemmas.{tables-file, errands-none}
use Rattle.sc_live_journals.specs.rows.RowDefinitions.{IsSeat, with_event}
use Rattle.sc_live_journals.specs.scenes.SceneDefinitions.{IsAsking, IsWaiting, Expects, IsOrdered, LeaderFinds, BesideFinds, FindsReplica, AtLeader, AtAnother, NodeFinds, FindsFlight, Late, Leaves, Changed, Opened, Voted, Aborted, Decided, Heard, Ended, FindsQuiet, ByLeader, ByAnother, FindsOrder, FoundOrdersStep, KeepsStage, ComesTo, ComesToLeader, ComesBeside, ComesToNone, scene_at, IsTaking}
use Rattle.sc_live_journals.proofs.ScenesProofs.AnswersAndLateMail.{asked_keep}
use Rattle.sc_live_journals.proofs.ScenesProofs.VotesAndOrders.{votes_keep, orders_keep}
use Rattle.sc_live_journals.proofs.ScenesProofs.CreatedReplicas.{states_keep}
use Rattle.sc_live_journals.proofs.ScenesProofs.OrderRows.{row_of_comes, leaders_keep, asides_keep, lead_rests, lead_takes, aside_rests}
use Rattle.sc_live_journals.proofs.ScenesProofs.UntakenMail.{takes_one}
use Rattle.sc_live_journals.proofs.ScenesProofs.UnrelatedRows.{others_keep}
use Rattle.sc_live_journals.proofs.ScenesProofs.QuietJournals.{begin_in_quiet}
use Rattle.sc_live_journals.proofs.ScenesProofs.ErrandLeaders.{errand_among, answers_reach}
use Rattle.sc_live_journals.proofs.ScenesProofs.SceneRows.{calm_is}
use Rattle.sc_live_journals.proofs.ScenesProofs.SceneViews.{tell}
use Rattle.sc_live_journals.proofs.RowsProofs.RowLemmas.{none_some}

-- ---- a request beside the leader

module _ (r : ReplicaState) (stopped : r.running ≡ false) where
  requests_silent : (from : ℕ) (named : Draw) (client seq : ℕ) (op : Op) → IsOnly [] [] (λ name. errands_for name (mailed from (Request named client seq op) (r, [])).0.1)
  unfolding mailed request_row requested
  requests_silent from named client seq op = (tt, λ name none. by name r.group.core.gone r.running stopped)
    where
      by : (name : Draw) (gone : Option Route) (running : Bool) → running ≡ false → errands_for name (requested (request_refusal gone r.group.core running r.hint op) client seq op (r, [])).1 ≡ []
      by name (Some into) running e = errands-none name r.me (client_actor client) (Answer (name_of r) seq (Says.Gone into)) [] refl
      by name None true e = absurd cc
      by name None false e = errands-none name r.me (client_actor client) (Answer (name_of r) seq (Says.NotLeader r.hint)) [] refl

-- a coordinator's question
abbrev pub IsQuestion : MailBody → Type 0
IsQuestion (TxPrepare tx offer) = Unit {0}
IsQuestion (TxWatch tx watch) = Unit {0}
IsQuestion body = ⊥

module _ (words : ℕ → ℕ → ℕ × ℕ) (births : List (Seat Player)) (rows : Rows) (seat : Seat Player) (number : ℕ) (mail : Mail) (group : Draw) where
  -- mail of no group comes to none
  strays : (body : MailBody) → mail.body ≡ body → group_of_mail body ≡ None → (node : NodeState) → IsTaking words births rows seat number mail group node → ⊥
  strays body e none node t = none_some (sym none ∙ (ap group_of_mail (sym e) ∙ t.named))

  -- ---- the leader

  module _ (r : ReplicaState) (c : ComesToLeader words births rows seat number mail group r) where
    flight_found : (named : Draw) (ballot : Ballot) (slot : ℕ) → mail.body ≡ Accepted named ballot slot → FindsFlight births rows seat number mail group r slot → KeepsStage births rows seat (Deliver number)
    flight_found named ballot slot e (Late none) = asked_keep.vote_late words births rows seat number mail group r named ballot slot c e none
    flight_found named ballot slot e (Leaves works_so) = lead_rests words births rows seat number mail group r c mail.body refl (ap (λ b. option_map (λ (x : Draw × Errand). x.1) (errand_by mail.from mail.to b)) e) works_so
    flight_found named ballot slot e (Changed flight order flies me entry fact) =
        votes_keep.changed words births rows seat number mail group flight r order (record { comes = c; named = named; ballot = ballot; slot = slot; body = e; flies = flies; me_is = me }) entry fact
    flight_found named ballot slot e (Opened flight tx asked watch node flies me entry stays apart) =
        votes_keep.opened words births rows seat number mail group flight r tx asked watch node (record { comes = c; named = named; ballot = ballot; slot = slot; body = e; flies = flies; me_is = me }) entry stays apart
    flight_found named ballot slot e (Voted flight tx coord watch agreed by flies me entry unbound stays willing) =
        votes_keep.voted words births rows seat number mail group flight r tx coord watch agreed by (record { comes = c; named = named; ballot = ballot; slot = slot; body = e; flies = flies; me_is = me }) entry unbound stays willing
    flight_found named ballot slot e (Aborted flight tx by flies me entry) =
        votes_keep.aborted words births rows seat number mail group flight r tx by (record { comes = c; named = named; ballot = ballot; slot = slot; body = e; flies = flies; me_is = me }) entry
    flight_found named ballot slot e (Decided flight tx asked turn by flies me entry asking) =
        votes_keep.decided words births rows seat number mail group flight r tx asked turn by (record { comes = c; named = named; ballot = ballot; slot = slot; body = e; flies = flies; me_is = me }) entry asking
    flight_found named ballot slot e (Heard flight tx asked watcher by node flies me entry asking stays apart) =
        votes_keep.heard words births rows seat number mail group flight r tx asked watcher by node (record { comes = c; named = named; ballot = ballot; slot = slot; body = e; flies = flies; me_is = me }) entry asking stays apart
    flight_found named ballot slot e (Ended flight tx flies me entry) =
        votes_keep.ended words births rows seat number mail group flight r tx (record { comes = c; named = named; ballot = ballot; slot = slot; body = e; flies = flies; me_is = me }) entry

    abbrev waiting : Here
    waiting = (scene_at births rows).at group

    -- the errand that it takes is one for which the group waits
    expected : (entry : Draw × Errand) → errand_by mail.from mail.to mail.body ≡ Some entry → IsUnderWay (scene_at births rows) → Expects entry.1 waiting
    expected entry errand under =
        answers_reach.waits (scene_at births rows) group entry.1 under
        (errand_among words births rows seat number mail group entry errand c.comes.node c.comes.taking (row_of_comes words births rows seat number mail group r c.comes).0)

    bond_here : waiting.bond ≡ bond_of r.group.core
    bond_here = (tell.led births rows group seat.who r c.leads).1.0

    may : IsUnbound r → waiting.work ≡ [] → MayFile r
    may unbound none = record { running = c.leads.running; unbound = unbound; idle = sym (tell.led births rows group seat.who r c.leads).1.1 ∙ none }

    -- a question that it takes is its work
    pub leader_asked : (body : MailBody) → IsQuestion body → mail.body ≡ body → LeaderFinds births rows seat number mail group r body → (under : IsUnderWay (scene_at births rows))
        → Comes IsTaken group under.0 (scene_at births (with_event rows seat (Deliver number)))
    leader_asked (TxPrepare tx offer) q e f under =
        (let w : IsWaiting Unbound waiting = expected (offer.part, Question tx offer.coord false offer.by mail.to) (ap (errand_by mail.from mail.to) e) under in
        lead_takes words births rows seat number mail group r c (TxPrepare tx offer) e (Question tx offer.coord false offer.by mail.to) (Answers tx offer.coord false offer.by) refl refl (may f.0 w.work).idle
        (tables-file.offer mail.from tx offer r (may f.0 w.work) f.1) under)
    leader_asked (TxWatch tx watch) q e f under =
        (let w : IsWaiting Unbound waiting = expected (watch.part, Question tx watch.coord true watch.by mail.to) (ap (errand_by mail.from mail.to) e) under in
        lead_takes words births rows seat number mail group r c (TxWatch tx watch) e (Question tx watch.coord true watch.by mail.to) (Answers tx watch.coord true watch.by) refl refl (may f.0 w.work).idle
        (tables-file.watch mail.from tx watch r (may f.0 w.work) f.1) under)
    leader_asked (TxVote tx coord party vote) q e f under = absurd q
    leader_asked _ q e f under = absurd q

    leader_found : (body : MailBody) → mail.body ≡ body → LeaderFinds births rows seat number mail group r body → KeepsStage births rows seat (Deliver number)
    leader_found (TxPrepare tx offer) e f under =
        (let w : IsWaiting Unbound waiting = expected (offer.part, Question tx offer.coord false offer.by mail.to) (ap (errand_by mail.from mail.to) e) under in
        leaders_keep.offer words births rows seat number mail group r tx offer c e (may f.0 w.work) f.1 under)
    leader_found (TxWatch tx watch) e f under =
        (let w : IsWaiting Unbound waiting = expected (watch.part, Question tx watch.coord true watch.by mail.to) (ap (errand_by mail.from mail.to) e) under in
        leaders_keep.watch words births rows seat number mail group r tx watch c e (may f.0 w.work) f.1 under)
    leader_found (TxVote tx coord party vote) e f under =
        (let w : IsAsking tx (Some false) waiting = expected (coord, Reply tx false (is_yes vote) mail.from mail.to) (ap (errand_by mail.from mail.to) e) under in
        leaders_keep.vote words births rows seat number mail group r tx coord party vote w.asked w.turn c e (may f.0 w.work) (sym bond_here ∙ w.bond) (w.turn_is false refl) f.1 under)
    leader_found (TxWatched tx coord party vote) e f under =
        (let w : IsAsking tx (Some true) waiting = expected (coord, Reply tx true (is_cast_yes vote) mail.from mail.to) (ap (errand_by mail.from mail.to) e) under in
        leaders_keep.watched words births rows seat number mail group r tx coord party vote w.asked w.turn c e (may f.0 w.work) (sym bond_here ∙ w.bond) (w.turn_is true refl) f.1 under)
    leader_found (TxOutcome tx party outcome) e f under =
        (let w : IsWaiting (Bound tx) waiting = expected (party, Result tx mail.to) (ap (errand_by mail.from mail.to) e) under in
        leaders_keep.outcome words births rows seat number mail group r tx party outcome c e (may f w.work) (sym bond_here ∙ w.bond_is) under)
    leader_found (TxElsewhere tx coord hint) e f under =
        (let w : IsAsking tx None waiting = expected (coord, Elsewhere tx mail.to) (ap (errand_by mail.from mail.to) e) under in
        leaders_keep.elsewhere words births rows seat number mail group r tx coord w.asked w.turn f.to c (e ∙ ap (TxElsewhere tx coord) f.hint_is) f.me_is f.settles (sym bond_here ∙ w.bond) under)
    leader_found (Accept named ballot slot command) e f under = leaders_keep.accept words births rows seat number mail group r named ballot slot command c e f under
    leader_found (Prepare named ballot from_slot) e f under = leaders_keep.prepare words births rows seat number mail group r named ballot from_slot c e f under
    leader_found (Nack named ballot) e f under = leaders_keep.nack words births rows seat number mail group r named ballot c e f under
    leader_found (Promise named ballot reports) e f under = leaders_keep.promise words births rows seat number mail group r named ballot f.work c (e ∙ ap (Promise named ballot) f.bare) f.unbound f.works_are under
    leader_found (Accepted named ballot slot) e f under = flight_found named ballot slot e f under
    leader_found (Learn named slot command) e f under = asked_keep.learn_late words births rows seat number mail group r named slot command c e f under
    leader_found (Install named slot base sets) e f under = asked_keep.install_late words births rows seat number mail group r named slot base sets c e f under
    leader_found (Ask named slot) e f under = asked_keep.ask words births rows seat number mail group r named slot c e under
    leader_found (Request named client seq op) e f under = lead_rests words births rows seat number mail group r c (Request named client seq op) e refl f under
    leader_found (Answer named seq answer) e f under = absurd (strays (Answer named seq answer) e refl c.comes.node c.comes.taking)
    leader_found (ToldMail order result) e f under = absurd (strays (ToldMail order result) e refl c.comes.node c.comes.taking)

  -- ---- beside it

  module _ (r : ReplicaState) (c : ComesBeside words births rows seat number mail group r) where
    beside_found : (body : MailBody) → mail.body ≡ body → BesideFinds mail r body → KeepsStage births rows seat (Deliver number)
    beside_found (TxPrepare tx offer) e f = asides_keep.offer words births rows seat number mail group r tx offer c e f.0 f.1.0 f.1.1
    beside_found (TxWatch tx watch) e f = asides_keep.watch words births rows seat number mail group r tx watch c e f.0 f.1.0 f.1.1
    beside_found (TxVote tx coord part vote) e f =
        answers_reach.beside words births rows seat number mail group r (coord, Reply tx false (is_yes vote) mail.from mail.to) c (ap (errand_by mail.from mail.to) e) refl
    beside_found (TxWatched tx coord part vote) e f =
        answers_reach.beside words births rows seat number mail group r (coord, Reply tx true (is_cast_yes vote) mail.from mail.to) c (ap (errand_by mail.from mail.to) e) refl
    beside_found (TxOutcome tx part outcome) e f = answers_reach.beside words births rows seat number mail group r (part, Result tx mail.to) c (ap (errand_by mail.from mail.to) e) refl
    beside_found (TxElsewhere tx coord hint) e f = answers_reach.beside words births rows seat number mail group r (coord, Elsewhere tx mail.to) c (ap (errand_by mail.from mail.to) e) refl
    beside_found (Accept named ballot slot command) e f = asides_keep.accept words births rows seat number mail group r named ballot slot command c e f
    beside_found (Prepare named ballot from_slot) e f = asides_keep.prepare words births rows seat number mail group r named ballot from_slot c e f
    beside_found (Nack named ballot) e f = asked_keep.nack_beside words births rows seat number mail group r named ballot c e f
    beside_found (Promise named ballot reports) e f = asked_keep.promise_beside words births rows seat number mail group r named ballot reports c e f
    beside_found (Accepted named ballot slot) e f = asked_keep.vote_beside words births rows seat number mail group r named ballot slot c e f
    beside_found (Learn named slot command) e f = asides_keep.learn words births rows seat number mail group r named slot command c e f
    beside_found (Install named slot base sets) e f = asides_keep.install words births rows seat number mail group r named slot base sets c e f
    beside_found (Ask named slot) e f = asked_keep.ask_beside words births rows seat number mail group r named slot c e
    beside_found (Request named client seq op) e f = aside_rests words births rows seat number mail group r c (Request named client seq op) e refl (requests_silent r f mail.from named client seq op)
    beside_found (Answer named seq answer) e f = absurd (strays (Answer named seq answer) e refl c.comes.node c.comes.taking)
    beside_found (ToldMail order result) e f = absurd (strays (ToldMail order result) e refl c.comes.node c.comes.taking)

  -- ---- where there is no replica

  module _ (c : ComesToNone words births rows seat number mail group) where
    rests_missed : (body : MailBody) → mail.body ≡ body → errand_by mail.from mail.to body ≡ None → unknown mail.from body c.node ≡ (c.node, absent c.node.me mail.from body) → KeepsStage births rows seat (Deliver number)
    rests_missed body e none makes =
        others_keep.missed words births rows seat number mail group c (ap (errand_by mail.from mail.to) e ∙ none)
        (subst (λ b. unknown mail.from b c.node ≡ (c.node, absent c.node.me mail.from b)) (sym e) makes)

    node_found : (body : MailBody) → mail.body ≡ body → NodeFinds births rows seat number mail group body → KeepsStage births rows seat (Deliver number)
    node_found (TxPrepare tx offer) e f = asides_keep.offer_missed words births rows seat number mail group tx offer c e f
    node_found (TxWatch tx watch) e f = asides_keep.watch_missed words births rows seat number mail group tx watch c e f
    node_found (Install named slot base sets) e f =
        (let some : Some named ≡ Some group = ap group_of_mail (sym e) ∙ c.taking.named in
        let own : named ≡ group = cc in
        states_keep words births rows seat number mail group slot base sets c (e ∙ ap (λ n. Install n slot base sets) own) f.0.whole f.1 f.0.joins)
    node_found (TxVote tx coord part vote) e f =
        answers_reach.missed words births rows seat number mail group (coord, Reply tx false (is_yes vote) mail.from mail.to) c (ap (errand_by mail.from mail.to) e) refl
    node_found (TxWatched tx coord part vote) e f =
        answers_reach.missed words births rows seat number mail group (coord, Reply tx true (is_cast_yes vote) mail.from mail.to) c (ap (errand_by mail.from mail.to) e) refl
    node_found (TxOutcome tx part outcome) e f = answers_reach.missed words births rows seat number mail group (part, Result tx mail.to) c (ap (errand_by mail.from mail.to) e) refl
    node_found (TxElsewhere tx coord hint) e f = answers_reach.missed words births rows seat number mail group (coord, Elsewhere tx mail.to) c (ap (errand_by mail.from mail.to) e) refl
    node_found (Answer named seq answer) e f = absurd (strays (Answer named seq answer) e refl c.node c.taking)
    node_found (ToldMail order result) e f = absurd (strays (ToldMail order result) e refl c.node c.taking)
    node_found body e f = rests_missed body e refl refl

  replica_found : (r : ReplicaState) → ComesTo words births rows seat number mail group r → FindsReplica births rows seat number mail group r → KeepsStage births rows seat (Deliver number)
  replica_found r c (AtLeader leads f) = leader_found r (record { comes = c; leads = leads }) mail.body refl f
  replica_found r c (AtAnother beside f) = beside_found r (record { comes = c; beside = beside }) mail.body refl f

-- ---- any row

module _ (words : ℕ → ℕ → ℕ × ℕ) (births : List (Seat Player)) (rows : Rows) (seat : Seat Player) (born : IsSeat births seat) where
  module _ (number : ℕ) (timely : AreInTime (players words births) (with_event rows seat (Deliver number))) (finds : FindsOrder words births rows seat (Deliver number)) (node : NodeState)
      (fact : value player_table seat rows ≡ Node node) (mail : Mail) (at : numbered (mails rows) number ≡ Some mail) where
    taken_found : (group : Draw) (o : Option ReplicaState) → replica_of group node.replicas ≡ o → IsTaking words births rows seat number mail group node → KeepsStage births rows seat (Deliver number)
    taken_found group None e t = node_found words births rows seat number mail group (record { node = node; taking = t; none = e }) mail.body refl (finds.missed number mail group node refl t e)
    taken_found group (Some r) e t =
        (let f = finds.here number mail group node r refl t e in replica_found words births rows seat number mail group r (record { node = node; taking = t; here = e; children = f.0 }) f.1)

    mail_found : (b : Bool) → may_come mail.from mail.body ≡ b → (o : Option Draw) → group_of_mail mail.body ≡ o → KeepsStage births rows seat (Deliver number)
    mail_found false bar o e = others_keep.barred words births rows seat number mail node born timely fact at bar (finds.barred node number mail refl fact at bar)
    mail_found true comes None e = others_keep.stray words births rows seat number mail node born timely fact at e
    mail_found true comes (Some group) e =
        taken_found group (replica_of group node.replicas) refl
        (record { seated = born; timely = timely; is_node = fact; me_is = finds.me_is node fact; sent = at; comes = comes; named = e })

  told_found : (line : OrderLine) → AreInTime (players words births) (with_event rows seat (Told line)) → FindsOrder words births rows seat (Told line) → (node : NodeState) → value player_table seat rows ≡ Node node
      → (o : Option ReplicaState) → replica_of (group_of_order line.order) node.replicas ≡ o → KeepsStage births rows seat (Told line)
  told_found line timely finds node fact None e = others_keep.refused words births rows seat line node born timely fact e
  told_found line timely finds node fact (Some r) e = by (finds.told line node r refl (record { seated = born; timely = timely; is_node = fact; here = e }))
    where
      ordered : IsOrdered words births rows seat line node r
      ordered = record { seated = born; timely = timely; is_node = fact; here = e }

      by : FindsQuiet words births rows seat line node r → KeepsStage births rows seat (Told line)
      by (ByLeader leads unbound goes rests) = begin_in_quiet words births rows seat line node r ordered leads unbound goes rests
      by (ByAnother why beside refused) = orders_keep.beside words births rows seat line node r why ordered beside refused

  node_keeps : (event : Event OrderLine) → AreInTime (players words births) (with_event rows seat event) → FindsOrder words births rows seat event → (node : NodeState) → value player_table seat rows ≡ Node node → KeepsStage births rows seat event
  node_keeps (Deliver number) timely finds node fact =
      (let calm = (last_in_time (players words births) rows (row_of player_table seat rows (Deliver number)) timely).0 in
      let one = takes_one words births rows seat.who number (calm_is words births rows seat (Deliver number) calm) in
      mail_found number timely finds node fact one.mail one.sent (may_come one.mail.from one.mail.body) refl (group_of_mail one.mail.body) refl)
  node_keeps Go timely finds node fact = others_keep.go words births rows seat node born timely fact
  node_keeps (Told line) timely finds node fact = told_found line timely finds node fact (replica_of (group_of_order line.order) node.replicas) refl
  node_keeps Tick timely finds node fact = absurd (calm_is words births rows seat Tick (last_in_time (players words births) rows (row_of player_table seat rows Tick) timely).0)
  node_keeps Crash timely finds node fact = absurd (calm_is words births rows seat Crash (last_in_time (players words births) rows (row_of player_table seat rows Crash) timely).0)
  node_keeps (Drop mail) timely finds node fact = absurd (calm_is words births rows seat (Drop mail) (last_in_time (players words births) rows (row_of player_table seat rows (Drop mail)) timely).0)
  node_keeps (Again mail) timely finds node fact = absurd (calm_is words births rows seat (Again mail) (last_in_time (players words births) rows (row_of player_table seat rows (Again mail)) timely).0)

  player_keeps : (event : Event OrderLine) → AreInTime (players words births) (with_event rows seat event) → FindsOrder words births rows seat event → (player : Player) → value player_table seat rows ≡ player → KeepsStage births rows seat event
  player_keeps event timely finds (Node node) fact = node_keeps event timely finds node fact
  player_keeps event timely finds (Client client) fact = others_keep.client words births rows seat event client born timely fact (finds.client client fact)

found_keeps : (words : ℕ → ℕ → ℕ × ℕ) (births : List (Seat Player)) (rows : Rows) (seat : Seat Player) (event : Event OrderLine) → IsSeat births seat → AreInTime (players words births) (with_event rows seat event)
    → FindsOrder words births rows seat event → KeepsStage births rows seat event
found_keeps words births rows seat event born timely finds = player_keeps words births rows seat born event timely finds (value player_table seat rows) refl

-- A row that finds what `FindsOrder` says, by the mail that it takes or the order that it gives, leaves the stage of an order, or is a step of its group to one that follows.
pub found_step : FoundOrdersStep
found_step words births rows seat event born timely finds stage a = found_keeps words births rows seat event born timely finds (stage, a)
