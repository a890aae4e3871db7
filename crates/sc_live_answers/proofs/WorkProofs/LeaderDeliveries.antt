-- What a delivery makes of a leader: it executes nothing, or its one work.
use Rattle.std.proofs.Common.{◌≡◌, ℕ, Bool, eqb, true, false, true≢false, List, [], ◌∷◌, Option, Some, None, ◌⊎◌, inl, inr, refl, sym, ◌∙◌, ap, subst}
use Rattle.std.proofs.lemmas.Bool.{cases_Bool, eq-eqb, eqb-true, cond-false}
use Rattle.std.specs.Option.{option_map}
use Rattle.std.proofs.lemmas.Option.{same_Some}
use Rattle.sc_base.specs.Definitions.{Among, is_member}
use Rattle.sc_group_table.specs.policy.PolicyDefinitions.{is_reported}
use Rattle.sc_node_table.specs.Values.{Ballot, Draw, Command, OrderLine, OrderResult, Mail, MailBody, Request, Answer, Prepare, Promise, Accept, Accepted, Nack, Learn, Ask, Install, TxPrepare, TxVote, TxOutcome, TxElsewhere, TxWatch, TxWatched, Told as ToldMail, Node, Client, Seat, Event, Deliver, Got, Flight}
use Rattle.sc_group_table.specs.machine.MachineDefinitions.{Group, applied}
use Rattle.sc_client_table.specs.table.TableDefinitions.{Client as ClientState}
use Rattle.sc_actor.specs.Definitions.{mails, numbered, value, row_of}
use Rattle.sc_live_orderly.specs.OrderlyDefinitions.{AreInTime}
use Rattle.sc_live_orderly.proofs.OrderlyLemmas.{last_in_time}
use Rattle.sc_node_table.specs.NodeDefinitions.{NodeState, replica_of, group_of_mail, may_come, unknown, routed, on_mail, ReplicaState, Place, mailed}
use Rattle.sc_law_walks.proofs.WalkLemmas.{either_way}
use Rattle.sc_meaning.specs.sound.SoundDefinitions.{Player, player_table}
use Rattle.sc_live_steps.specs.calm.CalmDefinitions.{players, Rows}
use Rattle.sc_live_steps.specs.orders.OrderDefinitions.{bond_of, errand_by, is_yes, is_cast_yes, work_by, works, FliesLone, RunsAlone, Answers, Bound, Elsewhere, Errand, Question, Reply, Result, Here, Records, Ends, Unbound, Work, IsUnderWay, IsUnbound, MayFile, Works}
use Rattle.sc_live_steps.proofs.OrderStepsProofs.OrderStepLemmas.{votes-count-alone, tables-file, tables-ask-on, cases-draw, tables-rest, promises-keep, entries-run-alone}
use Rattle.sc_live_journals.specs.rows.RowDefinitions.{view_at, IsSeat, with_event}
use Rattle.sc_live_journals.proofs.RowsProofs.RowLemmas.{view_is, view_others, view_was, none_some}
use Rattle.sc_live_journals.specs.scenes.SceneDefinitions.{Expects, IsAsking, IsWaiting, Aborted, BesideFinds, AtAnother, AtLeader, Changed, Decided, Ended, FindsFlight, FindsOrder, FindsReplica, Heard, Late, LeaderFinds, Leaves, Opened, Voted, ComesTo, ComesToLeader, IsBeside, Led, Unled, scene_at, IsTaking, IsTablesRow, StaysIn, Creates, LeadsAlone, LeavesOrMakes}
use Rattle.sc_live_journals.proofs.ScenesProofs.SceneLemmas.{unknown_apart, row_of_comes, takes_one, answers_reach, errand_among, now_is, was_is, calm_is, tell}
use Rattle.sc_live_answers.specs.AnswerDefinitions.{HasStepped, Rested, Executed, IsTold}
use Rattle.sc_live_answers.proofs.VotesProofs.ReportedMail.{Ends as EndsOrder, entry_reports}
use Rattle.sc_live_answers.proofs.ReplicasProofs.TakenMail.{mail_taken}
use Rattle.sc_live_journals.proofs.ScenesProofs.AnswersAndLateMail.{untouched, asks_leave, votes_late, learnt_late, sent_late}
use Rattle.sc_live_journals.proofs.ScenesProofs.VotesAndOrders.{flies_work}

some_or_none : (xs : List Work) → (xs ≡ []) ⊎ (xs ≡ [] → ⊥)
some_or_none [] = inl refl
some_or_none (x ∷ xs) = inr (λ e. cc)

-- what a row makes of a leader, with the mail of the row: it executes nothing, leads on, and keeps its work if it had some; or it executes its one work, leads on where it stays a member of a group that stands, and reports the result of an order that the entry ends
pub data HasActed (r : ReplicaState) (after : Place) : Type 0 where
  Waited : after.0.running ≡ r.running → after.0.group ≡ r.group → (works r ≡ []) ⊎ (works after.0 ≡ works r) → HasActed r after
  Ran : (flight : Flight Command) (work : Work) → Among flight r.leader.flights → works r ≡ work ∷ [] → work_by flight.value ≡ Some work → works after.0 ≡ [] → after.0.group ≡ (applied r.group flight.value).0
      → (StaysIn flight.value r.me r.group → after.0.running ≡ true) → ((n : ℕ) (result : OrderResult) → is_reported n ≡ true → EndsOrder n result flight.value r.group → IsTold after.1 n result) → HasActed r after

-- so it has taken a step
pub steps_of : (r : ReplicaState) (after : Place) → HasActed r after → HasStepped r after.0
steps_of r after (Waited runs same (inl idle)) = Rested same (inl idle)
steps_of r after (Waited runs same (inr kept)) = Rested same (elim (some_or_none (works r)) [ inl none ↦ inl none | inr some ↦ inr (λ e. some (sym kept ∙ e)) ])
steps_of r after (Ran flight work among had fact none made stays reports) = Executed flight work among had fact none made

-- a replica that stays
stays_put : (r : ReplicaState) → HasActed r (r, [])
stays_put r = Waited refl refl (inr refl)

-- one that keeps its work
keeps_work : (r : ReplicaState) (sent : _) (after : Place) → Works (works r) sent r after → HasActed r after
keeps_work r sent after w = Waited w.running w.group (inr w.work)

-- one that has no work and takes some
files_work : (work : Work) (r : ReplicaState) (sent : _) (after : Place) → MayFile r → Works (work ∷ []) sent r after → HasActed r after
files_work work r sent after may w = Waited w.running w.group (inl may.idle)

-- a vote for the one command
counts : (from : ℕ) (named : Draw) (ballot : Ballot) (slot : ℕ) (flight : Flight Command) (work : Work) (r : ReplicaState) → FliesLone flight r → work_by flight.value ≡ Some work → HasActed r (mailed from (Accepted named ballot slot) (r, [])).0
counts from named ballot slot flight work r flies fact = elim (votes-count-alone from named ballot slot flight r flies) [
  | inl w ↦ keeps_work r [] (mailed from (Accepted named ballot slot) (r, [])).0 w
  | inr d ↦ (let made : Place = (mailed from (Accepted named ballot slot) (r, [])).0 in
      let run : RunsAlone flight.value d.readied made = subst (λ p. RunsAlone flight.value d.readied p) (sym d.fact) (entries-run-alone flight.value work d.readied d.lone fact) in
      Ran flight work (subst (Among flight) (sym flies.flights) (inl refl)) (flies_work flight work r flies fact) fact run.work (run.group ∙ ap (λ g. (applied g flight.value).0) d.group)
      (λ stays. run.leads (ap (λ (g : Group). (applied g flight.value).0.core.gone) d.group ∙ stays.stands) (ap (λ (g : Group). is_member (applied g flight.value).0.core.members d.readied.me) d.group ∙ (ap (is_member (applied r.group flight.value).0.core.members) d.me ∙ stays.mine)))
      (λ n result told ends. subst (λ (p : Place). IsTold p.1 n result) (sym d.fact) (entry_reports n result flight.value d.readied [] told (subst (EndsOrder n result flight.value) (sym d.group) ends))))
]

module _ (words : ℕ → ℕ → ℕ × ℕ) (births : List (Seat Player)) (rows : Rows) (seat : Seat Player) (number : ℕ) (mail : Mail) (group : Draw) (r : ReplicaState) (c : ComesToLeader words births rows seat number mail group r) (under : IsUnderWay (scene_at births rows)) where
  abbrev waiting : Here
  waiting = (scene_at births rows).at group

  pub expected : (entry : Draw × Errand) → errand_by mail.from mail.to mail.body ≡ Some entry → Expects entry.1 waiting
  expected entry errand =
      answers_reach.waits (scene_at births rows) group entry.1 under
      (errand_among words births rows seat number mail group entry errand c.comes.node c.comes.taking (row_of_comes words births rows seat number mail group r c.comes).0)

  bond_here : waiting.bond ≡ bond_of r.group.core
  bond_here = (tell.led births rows group seat.who r c.leads).1.0

  may : IsUnbound r → waiting.work ≡ [] → MayFile r
  may unbound none = record { running = c.leads.running; unbound = unbound; idle = sym (tell.led births rows group seat.who r c.leads).1.1 ∙ none }

  pub strays : (body : MailBody) → mail.body ≡ body → group_of_mail body ≡ None → ⊥
  strays body e none = none_some (sym none ∙ (ap group_of_mail (sym e) ∙ c.comes.taking.named))

  flight_steps : (named : Draw) (ballot : Ballot) (slot : ℕ) → mail.body ≡ Accepted named ballot slot → FindsFlight births rows seat number mail group r slot → HasActed r (mailed mail.from (Accepted named ballot slot) (r, [])).0
  flight_steps named ballot slot e (Late none) =
      let l = votes_late r mail.from named ballot slot none in
      keeps_work r [] (mailed mail.from (Accepted named ballot slot) (r, [])).0 (untouched r (mailed mail.from (Accepted named ballot slot) (r, [])).0 l)
  flight_steps named ballot slot e (Leaves w) = keeps_work r [] (mailed mail.from (Accepted named ballot slot) (r, [])).0 (subst (λ b. Works (works r) [] r (mailed mail.from b (r, [])).0) e w)
  flight_steps named ballot slot e (Changed flight order flies me entry fact) = counts mail.from named ballot slot flight order r flies entry.work_is
  flight_steps named ballot slot e (Opened flight tx asked watch node flies me entry stays apart) = counts mail.from named ballot slot flight _ r flies entry.work_is
  flight_steps named ballot slot e (Voted flight tx coord watch agreed by flies me entry unbound stays willing) = counts mail.from named ballot slot flight _ r flies entry.work_is
  flight_steps named ballot slot e (Aborted flight tx by flies me entry) = counts mail.from named ballot slot flight _ r flies entry.work_is
  flight_steps named ballot slot e (Decided flight tx asked turn by flies me entry asking) = counts mail.from named ballot slot flight _ r flies entry.work_is
  flight_steps named ballot slot e (Heard flight tx asked watcher by node flies me entry asking stays apart) = counts mail.from named ballot slot flight _ r flies entry.work_is
  flight_steps named ballot slot e (Ended flight tx flies me entry) = counts mail.from named ballot slot flight _ r flies entry.work_is

  by_body : (body : MailBody) → mail.body ≡ body → LeaderFinds births rows seat number mail group r body → HasActed r (mailed mail.from body (r, [])).0
  by_body (TxPrepare tx offer) e f =
      let w : IsWaiting Unbound waiting = expected (offer.part, Question tx offer.coord false offer.by mail.to) (ap (errand_by mail.from mail.to) e) in
      files_work (Answers tx offer.coord false offer.by) r [] (mailed mail.from (TxPrepare tx offer) (r, [])).0 (may f.0 w.work) (tables-file.offer mail.from tx offer r (may f.0 w.work) f.1)
  by_body (TxWatch tx watch) e f =
      let w : IsWaiting Unbound waiting = expected (watch.part, Question tx watch.coord true watch.by mail.to) (ap (errand_by mail.from mail.to) e) in
      files_work (Answers tx watch.coord true watch.by) r [] (mailed mail.from (TxWatch tx watch) (r, [])).0 (may f.0 w.work) (tables-file.watch mail.from tx watch r (may f.0 w.work) f.1)
  by_body (TxVote tx coord party vote) e f =
      let w : IsAsking tx (Some false) waiting = expected (coord, Reply tx false (is_yes vote) mail.from mail.to) (ap (errand_by mail.from mail.to) e) in
      files_work (Records tx false (is_yes vote) mail.from) r [] (mailed mail.from (TxVote tx coord party vote) (r, [])).0 (may f.0 w.work)
      (tables-file.vote mail.from tx coord party vote w.asked w.turn r (may f.0 w.work) (sym bond_here ∙ w.bond) (w.turn_is false refl) f.1)
  by_body (TxWatched tx coord party vote) e f =
      let w : IsAsking tx (Some true) waiting = expected (coord, Reply tx true (is_cast_yes vote) mail.from mail.to) (ap (errand_by mail.from mail.to) e) in
      files_work (Records tx true (is_cast_yes vote) mail.from) r [] (mailed mail.from (TxWatched tx coord party vote) (r, [])).0 (may f.0 w.work)
      (tables-file.watched mail.from tx coord party vote w.asked w.turn r (may f.0 w.work) (sym bond_here ∙ w.bond) (w.turn_is true refl) f.1)
  by_body (TxOutcome tx party outcome) e f =
      let w : IsWaiting (Bound tx) waiting = expected (party, Result tx mail.to) (ap (errand_by mail.from mail.to) e) in
      files_work (Ends tx) r [] (mailed mail.from (TxOutcome tx party outcome) (r, [])).0 (may f w.work) (tables-file.outcome mail.from tx party outcome r (may f w.work) (sym bond_here ∙ w.bond_is))
  by_body (TxElsewhere tx coord hint) e f =
      let w : IsAsking tx None waiting = expected (coord, Elsewhere tx mail.to) (ap (errand_by mail.from mail.to) e) in
      subst (λ h. HasActed r (mailed mail.from (TxElsewhere tx coord h) (r, [])).0) (sym f.hint_is)
      (keeps_work r _ (mailed mail.from (TxElsewhere tx coord (Some f.to)) (r, [])).0 (tables-ask-on mail.from f.to tx coord w.asked w.turn r f.settles (sym bond_here ∙ w.bond)))
  by_body (Accept named ballot slot command) e f = keeps_work r [] (mailed mail.from (Accept named ballot slot command) (r, [])).0 (tables-rest.accept mail.from named ballot slot command r f)
  by_body (Prepare named ballot from_slot) e f = keeps_work r [] (mailed mail.from (Prepare named ballot from_slot) (r, [])).0 (tables-rest.prepare mail.from named ballot from_slot r f)
  by_body (Nack named ballot) e f = keeps_work r [] (mailed mail.from (Nack named ballot) (r, [])).0 (tables-rest.nack mail.from named ballot r f)
  by_body (Promise named ballot reports) e f =
      subst (λ x. HasActed r (mailed mail.from (Promise named ballot x) (r, [])).0) (sym f.bare)
      (keeps_work r [] (mailed mail.from (Promise named ballot []) (r, [])).0
      (subst (λ w. Works w [] r (mailed mail.from (Promise named ballot []) (r, [])).0) (sym f.works_are) (promises-keep mail.from named ballot f.work r f.unbound f.works_are)))
  by_body (Accepted named ballot slot) e f = flight_steps named ballot slot e f
  by_body (Learn named slot command) e f =
      keeps_work r [] (mailed mail.from (Learn named slot command) (r, [])).0 (untouched r (mailed mail.from (Learn named slot command) (r, [])).0 (learnt_late r mail.from named slot command f))
  by_body (Install named slot base sets) e f =
      keeps_work r [] (mailed mail.from (Install named slot base sets) (r, [])).0 (untouched r (mailed mail.from (Install named slot base sets) (r, [])).0 (sent_late r mail.from named slot base sets f))
  by_body (Ask named slot) e f = keeps_work r [] (mailed mail.from (Ask named slot) (r, [])).0 (untouched r (mailed mail.from (Ask named slot) (r, [])).0 (asks_leave r mail.from named slot))
  by_body (Request named client seq op) e f = keeps_work r [] (mailed mail.from (Request named client seq op) (r, [])).0 f
  by_body (Answer named seq answer) e f = absurd (strays (Answer named seq answer) e refl)
  by_body (ToldMail order result) e f = absurd (strays (ToldMail order result) e refl)

  pub leader_steps : LeaderFinds births rows seat number mail group r mail.body → HasActed r (mailed mail.from mail.body (r, [])).0
  leader_steps f = by_body mail.body refl f

-- ---- any delivery

module _ (words : ℕ → ℕ → ℕ × ℕ) (births : List (Seat Player)) (rows : Rows) (seat : Seat Player) (number : ℕ) (born : IsSeat births seat) (timely : AreInTime (players words births) (with_event rows seat (Deliver number)))
    (finds : FindsOrder words births rows seat (Deliver number)) (under : IsUnderWay (scene_at births rows)) where
  abbrev event : Event OrderLine
  event = Deliver number

  -- what becomes of the replica of a group at the node of a row: it stays; it leads, and takes a step; it takes a mail beside the leader; the node has none, and a mail of the group comes; or it is born
  pub data Fate (name : Draw) : Type 0 where
    Same : view_at births (with_event rows seat event) name seat.who ≡ view_at births rows name seat.who → Fate name
    Leading : (r : ReplicaState) (after : Place) → LeadsAlone births rows name seat.who r → IsTablesRow births rows seat event name r after → HasActed r after → Fate name
    Aside : (mail : Mail) (r : ReplicaState) (c : ComesTo words births rows seat number mail name r) → IsBeside births rows seat event name (mailed mail.from mail.body (r, [])).0 → BesideFinds mail r mail.body → Fate name
    Missed : (mail : Mail) (node : NodeState) → IsTaking words births rows seat number mail name node → replica_of name node.replicas ≡ None → Fate name
    New : Creates births rows seat event name → Fate name

  module _ (name : Draw) where
    of_client : (client : ClientState) → value player_table seat rows ≡ Client client → Fate name
    of_client client fact =
        let calm = (last_in_time (players words births) rows (row_of player_table seat rows event) timely).0 in
        let one = takes_one words births rows seat.who number (calm_is words births rows seat event calm) in
        Same (view_is births rows seat event name born (Client client) fact (Some (Got one.mail)) (ap (option_map Got) one.sent) ∙ sym (view_was births rows seat event name born (Client client) fact))

    module _ (node : NodeState) (fact : value player_table seat rows ≡ Node node) (mail : Mail) (at : numbered (mails rows) number ≡ Some mail) where
      makes : (step : NodeState × List Mail) → on_mail mail.from mail.body node ≡ step → replica_of name step.0.replicas ≡ replica_of name node.replicas → Fate name
      makes step e stays =
          let response = ap (λ (x : NodeState × List Mail). (Node x.0, x.1)) e in
          let input = ap (option_map Got) at in
          Same (now_is births rows seat event node born fact step (Some (Got mail)) input response name ∙ (stays ∙ sym (was_is births rows seat event node born fact step (Some (Got mail)) input response name)))

      module _ (group : Draw) (t : IsTaking words births rows seat number mail group node) where
        left : LeavesOrMakes births rows seat event name → Fate name
        left (inl e) = Same e
        left (inr b) = New b

        own : (x : ReplicaState) → replica_of group node.replicas ≡ Some x → group ≡ name → Fate name
        own x found e =
            let f = finds.here number mail group node x refl t found in
            subst Fate e (by x (record { node = node; taking = t; here = found; children = f.0 }) f.1)
          where
            by : (x : ReplicaState) (c : ComesTo words births rows seat number mail group x) → FindsReplica births rows seat number mail group x → Fate group
            by x c (AtLeader leads f) =
                Leading x (mailed mail.from mail.body (x, [])).0 leads (row_of_comes words births rows seat number mail group x c).1
                (leader_steps words births rows seat number mail group x (record { comes = c; leads = leads }) under f)
            by x c (AtAnother beside f) = Aside mail x c beside f

        taken_so : (o : Option ReplicaState) → replica_of group node.replicas ≡ o → (group ≡ name) ⊎ (group ≡ name → ⊥) → Fate name
        taken_so None found (inl e) = subst Fate e (Missed mail node t found)
        taken_so None found (inr ne) = makes (unknown mail.from mail.body node) (mail_taken mail.from mail.body node group t.named t.comes None found) (unknown_apart name group (λ i. ne (sym i)) node mail.from mail.body t.named).0
        taken_so (Some x) found (inl e) = own x found e
        taken_so (Some x) found (inr ne) =
            let f = finds.here number mail group node x refl t found in
            left ((row_of_comes words births rows seat number mail group x (record { node = node; taking = t; here = found; children = f.0 })).0.others name (λ i. ne (sym i)))

      mail_so : (b : Bool) → may_come mail.from mail.body ≡ b → (o : Option Draw) → group_of_mail mail.body ≡ o → Fate name
      mail_so false bar o e = makes (node, []) (cond-false (may_come mail.from mail.body) (routed (group_of_mail mail.body) mail.from mail.body node) (node, []) bar) refl
      mail_so true comes None e =
          makes (node, [])
          (either_way (λ (step : NodeState × List Mail). step ≡ (node, [])) (may_come mail.from mail.body) (routed (group_of_mail mail.body) mail.from mail.body node) (node, []) (ap (λ g. routed g mail.from mail.body node) e) refl) refl
      mail_so true comes (Some group) e =
          taken_so group (record { seated = born; timely = timely; is_node = fact; me_is = finds.me_is node fact; sent = at; comes = comes; named = e }) (replica_of group node.replicas) refl (cases-draw group name)

    by_player : (player : Player) → value player_table seat rows ≡ player → Fate name
    by_player (Client client) fact = of_client client fact
    by_player (Node node) fact =
        let calm = (last_in_time (players words births) rows (row_of player_table seat rows event) timely).0 in
        let one = takes_one words births rows seat.who number (calm_is words births rows seat event calm) in
        mail_so node fact one.mail one.sent (may_come one.mail.from one.mail.body) refl (group_of_mail one.mail.body) refl

    pub fate : Fate name
    fate = by_player (value player_table seat rows) refl

  -- one that leads goes on so, and what it reports is reported in the row
  abbrev pub Acts : Draw → ℕ → ReplicaState → Type 0
  Acts name host r =
      (after : Place) × (view_at births (with_event rows seat event) name host ≡ Some after.0) × HasActed r after × ((n : ℕ) (result : OrderResult) → IsTold after.1 n result → IsTold (row_of player_table seat rows event).sent n result)

  abbrev pub Comes : Draw → ℕ → ReplicaState → Type 0
  Comes name host r = (after : ReplicaState) × (view_at births (with_event rows seat event) name host ≡ Some after) × HasStepped r after

  module _ (name : Draw) (r : ReplicaState) (runs : r.running ≡ true) where
    waits : (host : ℕ) → view_at births (with_event rows seat event) name host ≡ Some r → Acts name host r
    waits host e = ((r, []), e, stays_put r, λ n result k. absurd k.among)

    from_fate : view_at births rows name seat.who ≡ Some r → Fate name → Acts name seat.who r
    from_fate has (Same e) = waits seat.who (e ∙ has)
    from_fate has (Leading x after leads row acts) = (after, row.fact, subst (λ y. HasActed y after) (same_Some x r (sym leads.is_there ∙ has)) acts, λ n result k. subst (λ ms. IsTold ms n result) (sym row.sends) k)
    from_fate has (Aside mail x c (Led node lead leads ne off) f) = absurd (ne (sym (leads.alone seat.who r has runs)))
    from_fate has (Aside mail x c (Unled u) f) = absurd (true≢false (sym runs ∙ u.none seat.who r has))
    from_fate has (Missed mail node t none) = absurd (none_some (sym none ∙ (sym (view_was births rows seat event name born (Node node) t.is_node) ∙ has)))
    from_fate has (New b) = absurd (none_some (sym b.none ∙ has))

    pub acts_on : (host : ℕ) → view_at births rows name host ≡ Some r → Acts name host r
    acts_on host has = elim (cases_Bool (eqb host seat.who)) [
      | inl t ↦ (let fact : host ≡ seat.who = eqb-true host seat.who t in
          subst (λ h. Acts name h r) (sym fact) (from_fate (subst (λ h. view_at births rows name h ≡ Some r) fact has) (fate name)))
      | inr f ↦ waits host (view_others births rows (row_of player_table seat rows event) name host (λ e. true≢false (sym (eq-eqb host seat.who e) ∙ f)) ∙ has)
    ]

    pub goes_on : (host : ℕ) → view_at births rows name host ≡ Some r → Comes name host r
    goes_on host has = (let a = acts_on host has in (a.0.0, a.1, steps_of r a.0 a.2))
