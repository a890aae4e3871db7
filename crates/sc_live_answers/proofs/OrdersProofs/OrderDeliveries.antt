-- What a delivery finds while an order is under way.
use Rattle.std.proofs.Common.{◌≡◌, ℕ, ◌+◌, ◌≤◌, ◌^◌, eqb, true, false, Bool, List, [], ◌∷◌, ◌++◌, length, map, find, Option, Some, None, ◌⊎◌, inl, inr, refl, sym, ◌∙◌, ap, subst, arith, append-nil, append_assoc, length-append}
use Rattle.std.specs.Prelude.{is_some, ◌||◌}
use Rattle.std.proofs.lemmas.Bool.{eqb-true}
use Rattle.sc_base.specs.Definitions.{Among, Each, same_draw}
use Rattle.sc_base.proofs.Lemmas.{draw_is}
use Rattle.sc_node_table.specs.Values.{Draw, Base, Route, OrderLine, Mail, MailBody, Request, Promise, Accepted, TxPrepare, TxVote, TxOutcome, TxElsewhere, TxWatch, TxWatched, Node, Client, Seat, Deliver}
use Rattle.sc_actor.specs.Definitions.{mails, numbered, value, System, row_of, numbers_of}
use Rattle.sc_live_orderly.specs.OrderlyDefinitions.{IsCalmRow, AreInTime}
use Rattle.sc_live_orderly.proofs.OrderlyLemmas.{in_time_before, in_time_tidy, last_in_time, TakesFirst, takes_first, is_born-from}
use Rattle.sc_node_table.specs.NodeDefinitions.{NodeState, replica_of, group_of_mail, ReplicaState, name_of}
use Rattle.sc_words.proofs.PaxosProofs.PaxosLemmas.{find_found}
use Rattle.sc_scenario.specs.declared.scenario.scenarios.Scenario.{Scenario}
use Rattle.sc_scenario.specs.scenario.Definitions.{ValidScenariosAreBounded}
use Rattle.sc_meaning.specs.sound.SoundDefinitions.{Player, player_table, births, as_nodes}
use Rattle.sc_live_steps.specs.calm.CalmDefinitions.{Chart, players, IsCalmFor, FindsCalm, MayAskThere, Points, StandsOnce, Rows, led_elsewhere, leads, is_leading, is_led}
use Rattle.sc_live_journals.proofs.ChartsProofs.ChartLemmas.{upto_low}
use Rattle.sc_live_journals.specs.rows.RowDefinitions.{replicas_of, replica_in, view_at, with_event}
use Rattle.sc_live_journals.specs.mail.MailDefinitions.{SlotsAreLeft}
use Rattle.sc_live_journals.specs.logs.LogDefinitions.{SlotsHaveRosters}
use Rattle.sc_live_journals.specs.groups.GroupDefinitions.{ScenariosAreKeptBorn, ReplicasAreKept, Delivers}
use Rattle.sc_live_answers.specs.AnswerDefinitions.{FindsBy, JournalMailFinds, StrayMailFinds, MailIsForItsNode, IsPlainAt, IsNoRequest, NeedsAt, NeedsBesides, MayCountAt, IsUnsettled, WellLedLeadAlone, StagesLeaveOneWork, IsCalmJournal, AreSent, ContinuesBy, IsUnder, StagesAsk, ViewsAgree, IsKnownMail, IsKnownDelivery, OrderRowsFindCalm}
use Rattle.sc_live_journals.specs.charts.ChartDefinitions.{replicas_of as chart_replicas, all_replicas, chart_at, LedStandOnce, quiet_upto}
use Rattle.sc_live_journals.proofs.ChartsProofs.ChartLemmas.{led_by}
use Rattle.sc_live_steps.specs.orders.OrderDefinitions.{Turn, is_watch, Errand, Question, Elsewhere, Asking, Here, Scene, errand_by, bond_of, Stage, Asks, SentOn, IsAt}
use Rattle.sc_live_steps.proofs.OrderStepsProofs.OrderStepLemmas.{among-right}
use Rattle.sc_live_journals.specs.scenes.SceneDefinitions.{IsThere, IsNowhere, IsFresh, FreshGroupsStay, WorksFlyLone, is_running, left_after, scene_at, AnswersReachLeaders, ScenesDescribe}
use Rattle.sc_live_journals.proofs.ScenesProofs.SceneLemmas.{takes_one, lead_runs, calm_is}
use Rattle.sc_live_steps.specs.entries.StageEntries.{BondsAsk, OrderEntriesCount}
use Rattle.sc_live_plain.specs.PlainDefinitions.{replicas_after}
use Rattle.sc_live_answers.proofs.VotesProofs.CountableVotes.{may_count}
use Rattle.sc_live_answers.proofs.ErrandsProofs.Questions.{IsQuestionOf, question_stage, IsSentOnIn, elsewhere_stage}
use Rattle.sc_live_answers.proofs.ErrandsProofs.QuestionTargets.{errand_there}
use Rattle.sc_live_answers.proofs.ReplicasProofs.AllReplicas.{into_seats}
use Rattle.sc_live_answers.proofs.LedGroupsProofs.JournalGroups.{calm_group, calm_slots}

-- ---- where a group has a replica

module _ (births : List (Seat Player)) (rows : Rows) (name : Draw) where
  abbrev view : ℕ → Option ReplicaState
  view who = view_at births rows name who

  search : (ws : List ℕ) → IsThere births rows name ⊎ ((who : ℕ) → Among who ws → view who ≡ None)
  search [] = inr (λ who a. absurd a)
  search (w ∷ ws) = by (view w) refl (search ws)
    where
      by : (o : Option ReplicaState) → view w ≡ o → IsThere births rows name ⊎ ((who : ℕ) → Among who ws → view who ≡ None) → IsThere births rows name ⊎ ((who : ℕ) → Among who (w ∷ ws) → view who ≡ None)
      by (Some r) e more = inl (w, r, e)
      by None e (inl there) = inl there
      by None e (inr none) = inr (λ who a. elim a [ inl fact ↦ ap view (sym fact) ∙ e | inr b ↦ none who b ])

  numbered_there : (seats : List (Seat Player)) (seat : Seat Player) → Among seat seats → Among seat.who (map (λ (s : Seat Player). s.who) seats)
  numbered_there [] seat a = absurd a
  numbered_there (s ∷ seats) seat (inl e) = inl (ap (λ (x : Seat Player). x.who) e)
  numbered_there (s ∷ seats) seat (inr a) = inr (numbered_there seats seat a)

  -- a player has a replica of the group, or none has
  pub there_or : IsThere births rows name ⊎ IsNowhere births rows name
  there_or = elim (search (map (λ (s : Seat Player). s.who) births)) [
    | inl there ↦ inl there
    | inr none ↦ inr (λ who. of none who (find (λ (seat : Seat Player). eqb seat.who who) births) refl)
  ]
    where
      of : ((who : ℕ) → Among who (map (λ (s : Seat Player). s.who) births) → view who ≡ None) → (who : ℕ) (o : Option (Seat Player)) → find (λ (seat : Seat Player). eqb seat.who who) births ≡ o → view who ≡ None
      of none who None e = ap (replica_in name rows) e
      of none who (Some seat) e =
          let f = find_found (λ (s : Seat Player). eqb s.who who) births seat e in
          none who (subst (λ w. Among w (map (λ (s : Seat Player). s.who) births)) (eqb-true seat.who who f.1) (numbered_there births seat f.0))

  -- the seat of one that has a replica
  record IsAtSeat (who : ℕ) (r : ReplicaState) : Type 0 where
    seat : Seat Player
    among : Among seat births
    has : replica_of name (replicas_of (value player_table seat rows)) ≡ Some r

  seat_of : (who : ℕ) (r : ReplicaState) → view who ≡ Some r → IsAtSeat who r
  seat_of who r e = by (find (λ (seat : Seat Player). eqb seat.who who) births) refl e
    where
      by : (o : Option (Seat Player)) → find (λ (seat : Seat Player). eqb seat.who who) births ≡ o → replica_in name rows o ≡ Some r → IsAtSeat who r
      by None found has = cc
      by (Some seat) found has = record { seat = seat; among = (find_found (λ (s : Seat Player). eqb s.who who) births seat found).0; has = has }

  leads_there : (player : Player) (r : ReplicaState) → replica_of name (replicas_of player) ≡ Some r → is_leading (Some r) ≡ true → leads name player ≡ true
  leads_there (Node node) r e leading = ap is_leading e ∙ leading
  leads_there (Client client) r e leading = cc

  -- a group with a replica that runs or is gone is led
  pub led_there : (who : ℕ) (r : ReplicaState) → view who ≡ Some r → is_leading (Some r) ≡ true → is_led births rows name ≡ true
  led_there who r e leading = (let s = seat_of who r e in led_by births rows name s.seat s.among (leads_there (value player_table s.seat rows) r s.has leading))

  all_there : (player : Player) (r : ReplicaState) → replica_of name (replicas_of player) ≡ Some r → Among r (chart_replicas player)
  all_there (Node node) r e = (find_found (λ (x : ReplicaState). same_draw (name_of x) name) node.replicas r e).0
  all_there (Client client) r e = cc

  -- a replica that is seen stands among all
  pub among_all : (who : ℕ) (r : ReplicaState) → view who ≡ Some r → Among r (all_replicas births rows)
  among_all who r e = (let s = seat_of who r e in into_seats rows births s.seat r s.among (all_there (value player_table s.seat rows) r s.has))

  named_there : (player : Player) (r : ReplicaState) → replica_of name (replicas_of player) ≡ Some r → name_of r ≡ name
  named_there (Node node) r e = draw_is (name_of r) name (find_found (λ (x : ReplicaState). same_draw (name_of x) name) node.replicas r e).1
  named_there (Client client) r e = cc

  pub named_so : (who : ℕ) (r : ReplicaState) → view who ≡ Some r → name_of r ≡ name
  named_so who r e = (let s = seat_of who r e in named_there (value player_table s.seat rows) r s.has)

pub runs_there : (o : Option ReplicaState) → is_running o ≡ true → (r : ReplicaState) × (o ≡ Some r) × (r.running ≡ true)
runs_there None e = cc
runs_there (Some r) e = (r, refl, e)

pub gone_leads : (b : Bool) (o : Option Route) (into : Route) → o ≡ Some into → (b || is_some o) ≡ true
gone_leads true o into e = refl
gone_leads false o into e = ap is_some e

-- ---- the delivery

module _ (named_at : JournalMailFinds) (strays : StrayMailFinds) (for_node : MailIsForItsNode) (led_once : LedStandOnce) (fresh : FreshGroupsStay) (asks_law : StagesAsk) (bonds : BondsAsk) (tell : ScenesDescribe) (reach : AnswersReachLeaders)
    (lone_fly : WorksFlyLone) (entries_count : OrderEntriesCount) (leave_one : StagesLeaveOneWork) (lead_alone : WellLedLeadAlone) (slots_left : SlotsAreLeft) (kept_born : ScenariosAreKeptBorn) (replicas_kept : ReplicasAreKept) (rosters : SlotsHaveRosters) (views : ViewsAgree) (all_bounded : ValidScenariosAreBounded)
    (words : ℕ → ℕ → ℕ × ℕ) (scenario : Scenario) (first : Base) (journal quiet rows : Rows) (far sent : ℕ) (seat : Seat Player) (number : ℕ) (calm : IsCalmJournal words scenario journal) (under : IsUnder words scenario first journal quiet rows)
    (on : ContinuesBy words scenario journal rows seat number) (sent_after : AreSent words scenario journal (with_event rows seat (Deliver number))) (known : IsKnownDelivery words scenario journal quiet rows far sent seat number) where
  abbrev all : List (Seat Player)
  all = births as_nodes scenario

  abbrev s : System Player Mail OrderLine
  s = players words (births as_nodes scenario)

  abbrev chart : Chart
  chart = chart_at far sent s rows

  abbrev now : Scene
  now = scene_at (births as_nodes scenario) rows

  row_calm : IsCalmRow s rows (row_of player_table seat rows (Deliver number))
  row_calm = (last_in_time s rows (row_of player_table seat rows (Deliver number)) on.timely).0

  before : AreInTime s rows
  before = in_time_before s rows (row_of player_table seat rows (Deliver number)) on.timely

  split : journal ≡ rows ++ (row_of player_table seat rows (Deliver number) ∷ on.prefix.more)
  split = on.prefix.fact ∙ append_assoc rows (row_of player_table seat rows (Deliver number) ∷ []) on.prefix.more

  short_prefix : length rows ≤ 2 ^ 28
  short_prefix = (let long = ap length split in let sum = length-append rows (row_of player_table seat rows (Deliver number) ∷ on.prefix.more) in let short = calm.short in omega (arith, long, sum, short))

  module _ (mail : Mail) (node : NodeState) (name : Draw) (at : numbered (mails rows) number ≡ Some mail) (fact : value player_table seat rows ≡ Node node) (of : group_of_mail mail.body ≡ Some name) where
    abbrev k : IsKnownMail scenario journal mail node name
    k = known.mail mail node name at fact of

    abbrev base : Base
    base = k.base

    view_is : (group : Draw) → view_at all rows group seat.who ≡ replica_of group node.replicas
    view_is group = ap (replica_in group rows) on.seated ∙ ap (λ player. replica_of group (replicas_of player)) fact

    -- the mail is the first that is left for its node
    taken_first : TakesFirst s rows seat.who number
    taken_first = takes_first s rows seat.who number (in_time_tidy s rows before) (is_born-from s seat.who seat on.seated) (calm_is words all rows seat (Deliver number) row_calm)

    mail_is : taken_first.mail ≡ mail
    mail_is = (let e : Some taken_first.mail ≡ Some mail = sym taken_first.sent ∙ at in cc)

    -- so its group was there in the quiet
    there : IsThere all quiet name
    there = elim (there_or all quiet name) [
      | inl t ↦ t
      | inr none ↦ (
          let young = under.young base k.among (subst (IsNowhere all quiet) (sym k.named) none) in
          let first_ = (subst (Each (λ (m : Mail). group_of_mail m.body ≡ Some base.core.id → ⊥)) taken_first.first (young.unsent seat.who (is_born-from s seat.who seat on.seated))).0 in
          absurd (subst (λ (m : Mail). group_of_mail m.body ≡ Some base.core.id → ⊥) mail_is first_ (of ∙ ap Some (sym k.named))))
    ]

    quiet_led : is_led all quiet name ≡ true
    quiet_led =
        let agree = views.nodes scenario quiet name there.0 (all_bounded scenario calm.valid) known.homes in
        elim (under.rests.fact.quiet.groups name there.0 (there.1, sym agree ∙ there.2)) [
          | inl q ↦ led_there all quiet name q.lead.me q.lead (views.nodes scenario quiet name q.lead.me (all_bounded scenario calm.valid) known.homes ∙ q.newest.is_there) (ap (λ b. b || is_some q.lead.group.core.gone) q.leads.running)
          | inr g ↦ led_there all quiet name g.last.me g.last (views.nodes scenario quiet name g.last.me (all_bounded scenario calm.valid) known.homes ∙ g.newest.is_there) (gone_leads g.last.running g.last.group.core.gone g.into g.went)
        ]

    once : StandsOnce name chart.groups
    once = led_once all rows (quiet_upto s rows (length rows)) name (upto_low s rows (length rows)) (subst (λ q. is_led all q name ≡ true) (sym known.prefix) quiet_led)

    -- the errand of the mail is under way
    errand_way : (errand : Errand) → errand_by mail.from mail.to mail.body ≡ Some (name, errand) → Among errand (now.at name).errands
    errand_way errand e =
        let one = takes_one words all rows seat.who number (calm_is words all rows seat (Deliver number) row_calm) in
        let same : one.mail ≡ mail = (let both : Some one.mail ≡ Some mail = sym one.sent ∙ at in cc) in
        errand_there name errand mail (left_after rows) (subst (Among mail) (sym one.takes.had_is) (among-right mail one.takes.before (one.mail ∷ one.takes.behind) (inl same))) e

    to_seat : mail.to ≡ seat.who
    to_seat = ap (λ (m : Mail). m.to) (sym mail_is) ∙ taken_first.receiver

    -- ---- what is asked

    -- of a coordinator in the stage, whose leader is there
    asks_so : (stage : Stage) (tx coord asked : Draw) (turn : Turn) (chief : ℕ) → IsAt stage now → (now.at coord).bond ≡ Asking tx asked turn → now.lead coord ≡ Some chief → chart.ways.asked_group tx ≡ Some (asked, is_watch turn)
    asks_so stage tx coord asked turn chief stands bond led =
        let runs = runs_there (view_at all rows coord chief) (lead_runs (view_at all rows coord) (numbers_of all) chief led) in
        asks_law all rows stage tx coord asked turn runs.0 known.alone stands bond (among_all all rows coord chief runs.0 runs.1) runs.2 (named_so all rows coord chief runs.0 runs.1)

    -- ---- a question

    points : (stage : Stage) → IsFresh stage name → stage ≡ under.stage → (r : ReplicaState) → replica_of name node.replicas ≡ Some r → Points chart.ways name r
    points stage is_fresh same r here stops stands =
        let then : view_at all quiet name seat.who ≡ Some r = sym (under.untouched.views name (subst (λ x. IsFresh x name) same is_fresh) there seat.who) ∙ (view_is name ∙ here) in
        let at_quiet : replicas_after scenario quiet name seat.who ≡ Some r = sym (views.nodes scenario quiet name seat.who (all_bounded scenario calm.valid) known.homes) ∙ then in
        let rises = under.rests.fact.quiet.rises name seat.who r at_quiet stops stands in
        let me = (under.rests.fact.kept name seat.who r at_quiet).me_is in
        (r.top.node, rises.hint_is, subst (λ me_. chart.ways.far name r.top.node + 1 ≤ chart.ways.far name me_) (sym me) (known.rise.hints name seat.who r.top.node r at_quiet stops stands rises.hint_is))

    module _ (tx coord : Draw) (watch : Bool) (by to : ℕ) (q : IsQuestionOf name tx coord watch under.stage) where
      stands_so : IsAt (Asks q.deal q.to) now
      stands_so = subst (λ x. IsAt x now) q.stage_is under.untouched.stands

      question_fresh : IsFresh (Asks q.deal q.to) name
      question_fresh = subst (IsFresh (Asks q.deal q.to)) q.asked_is (fresh.asked now q.deal q.to stands_so)

      question_asks : chart.ways.asked_group tx ≡ Some (name, watch)
      question_asks =
          let asked = asks_so (Asks q.deal q.to) q.deal.tx q.deal.coord q.deal.asked q.deal.turn q.deal.chief stands_so (ap (λ (h : Here). h.bond) stands_so.parties.0.0) stands_so.leads.0 in
          ap chart.ways.asked_group (sym q.tx_is) ∙ (asked ∙ (ap (λ n. Some (n, is_watch q.deal.turn)) q.asked_is ∙ ap (λ w. Some (name, w)) q.watch_is))

      question_points : (r : ReplicaState) → replica_of name node.replicas ≡ Some r → Points chart.ways name r
      question_points r here = points (Asks q.deal q.to) question_fresh (sym q.stage_is) r here

    -- ---- one that is sent elsewhere

    module _ (tx coord : Draw) (hint : Option ℕ) (body : mail.body ≡ TxElsewhere tx coord hint) (r : ReplicaState) (here : replica_of name node.replicas ≡ Some r) where
      coord_is : coord ≡ name
      coord_is = (let e : Some coord ≡ Some name = sym (ap group_of_mail body) ∙ of in cc)

      sent_errand : errand_by mail.from mail.to mail.body ≡ Some (name, Elsewhere tx mail.to)
      sent_errand = ap (errand_by mail.from mail.to) body ∙ ap (λ n. Some (n, Elsewhere tx mail.to)) coord_is

      way : Among (Elsewhere tx mail.to) (now.at name).errands
      way = errand_way (Elsewhere tx mail.to) sent_errand

      sent_in : IsSentOnIn name tx under.stage
      sent_in = elsewhere_stage name tx mail.to now under.stage under.untouched.stands way

      stands_on : IsAt (SentOn sent_in.deal) now
      stands_on = subst (λ x. IsAt x now) sent_in.stage_is under.untouched.stands

      runs_here : r.running ≡ true
      runs_here =
          let led = reach.led now name (Elsewhere tx mail.to) mail.to (under.stage, under.untouched.stands) way refl ∙ ap Some to_seat in
          let runs = runs_there (view_at all rows name seat.who) (lead_runs (view_at all rows name) (numbers_of all) seat.who led) in
          let same : Some runs.0 ≡ Some r = sym runs.1 ∙ (view_is name ∙ here) in
          let one : runs.0 ≡ r = cc in
          ap (λ (x : ReplicaState). x.running) (sym one) ∙ runs.2

      asks_there : MayAskThere chart.ways tx r hint
      asks_there =
          let u = subst (IsUnsettled r) body (k.unsettled r here) runs_here in
          let bond : (now.at name).bond ≡ Asking sent_in.deal.tx sent_in.deal.asked sent_in.deal.turn = ap (λ n. (now.at n).bond) (sym sent_in.coord_is) ∙ ap (λ (h : Here). h.bond) stands_on.parties.0.0 in
          let bond_tx = bond ∙ ap (λ t. Asking t sent_in.deal.asked sent_in.deal.turn) sent_in.tx_is in
          let asked = asks_so (SentOn sent_in.deal) tx name sent_in.deal.asked sent_in.deal.turn sent_in.deal.chief stands_on bond_tx (ap now.lead (sym sent_in.coord_is) ∙ stands_on.leads.0) in
          let mine : view_at all rows name seat.who ≡ Some r = view_is name ∙ here in
          let l = known.alone r (among_all all rows name seat.who r mine) runs_here in
          let own : (now.at name).bond ≡ bond_of r.group.core = ap (λ n. (now.at n).bond) (sym (named_so all rows name seat.who r mine)) ∙ (tell.led all rows (name_of r) l.0 r l.1).1.0 in
          subst (MayAskThere chart.ways tx r) (sym u.1) (bonds chart.ways tx sent_in.deal.asked sent_in.deal.turn u.0 r (sym own ∙ bond_tx) asked)

    -- ---- a vote

    counts_here : (slot : ℕ) → MayCountAt slot (replica_of name node.replicas)
    counts_here slot = by (replica_of name node.replicas) refl
      where
        by : (o : Option ReplicaState) → replica_of name node.replicas ≡ o → MayCountAt slot o
        by None e = tt
        by (Some r) e = λ runs. (
            let now_sent = under.sent base k.among in
            let view = ap (λ n. view_at all rows n seat.who) k.named ∙ (view_is name ∙ e) in
            let room = slots_left words scenario rows base.core.id seat.who r before short_prefix view in
            may_count lone_fly entries_count leave_one tell lead_alone _ _ _ words all rows base now_sent.course now_sent.led
            (rosters.rosters as_nodes words scenario journal base (calm_group words scenario journal calm base k.among)) seat.who r view runs
            (replicas_kept all rows base.core.id seat.who r (kept_born scenario) view).1 room.0 (k.counts r e runs) (under.stage, under.untouched.stands) slot)

    -- ---- what it needs

    needs_some : (r : ReplicaState) → replica_of name node.replicas ≡ Some r → (b : MailBody) → mail.body ≡ b → NeedsBesides chart.ways r b
    needs_some r here (Request group client seq op) body = absurd (subst IsNoRequest body k.unasked)
    needs_some r here (Promise group ballot reports) body = subst IsPlainAt here k.plain
    needs_some r here (Accepted group ballot slot) body = subst (MayCountAt slot) here (counts_here slot)
    needs_some r here (TxPrepare tx offer) body =
        let part : offer.part ≡ name = (let e : Some offer.part ≡ Some name = sym (ap group_of_mail body) ∙ of in cc) in
        let q = question_stage name tx offer.coord false offer.by mail.to now under.stage under.untouched.stands
        (errand_way (Question tx offer.coord false offer.by mail.to) (ap (errand_by mail.from mail.to) body ∙ ap (λ n. Some (n, Question tx offer.coord false offer.by mail.to)) part)) in
        (subst IsPlainAt here k.plain, subst (λ n. Points chart.ways n r) (sym part) (question_points tx offer.coord false offer.by mail.to q r here), question_asks tx offer.coord false offer.by mail.to q ∙ ap (λ n. Some (n, false)) (sym part))
    needs_some r here (TxVote tx coord part vote) body = subst IsPlainAt here k.plain
    needs_some r here (TxOutcome tx part outcome) body = subst IsPlainAt here k.plain
    needs_some r here (TxElsewhere tx coord hint) body = asks_there tx coord hint body r here
    needs_some r here (TxWatch tx watch) body =
        let part : watch.part ≡ name = (let e : Some watch.part ≡ Some name = sym (ap group_of_mail body) ∙ of in cc) in
        let q = question_stage name tx watch.coord true watch.by mail.to now under.stage under.untouched.stands
        (errand_way (Question tx watch.coord true watch.by mail.to) (ap (errand_by mail.from mail.to) body ∙ ap (λ n. Some (n, Question tx watch.coord true watch.by mail.to)) part)) in
        (subst IsPlainAt here k.plain, subst (λ n. Points chart.ways n r) (sym part) (question_points tx watch.coord true watch.by mail.to q r here), question_asks tx watch.coord true watch.by mail.to q ∙ ap (λ n. Some (n, true)) (sym part))
    needs_some r here (TxWatched tx coord part vote) body = subst IsPlainAt here k.plain
    needs_some r here _ body = tt

    needs : NeedsAt chart.ways (replica_of name node.replicas) mail.body
    needs = by (replica_of name node.replicas) refl
      where
        by : (o : Option ReplicaState) → replica_of name node.replicas ≡ o → NeedsAt chart.ways o mail.body
        by None e = k.unasked
        by (Some r) e = needs_some r e mail.body refl

    group_finds : FindsBy chart all rows seat.who mail node
    group_finds =
        let so = (sent_after base k.among).so in
        let deliver : Delivers (with_event rows seat (Deliver number)) rows seat number mail = record { row = record { more = []; fact = sym (append-nil (with_event rows seat (Deliver number))) }; sent = at } in
        named_at chart words scenario journal (with_event rows seat (Deliver number)) on.prefix.more base (calm_group words scenario journal calm base k.among) calm.timely (calm_slots words scenario journal calm slots_left base) on.prefix.fact so rows seat number mail node deliver on.seated fact (of ∙ ap Some (sym k.named))
        (subst (λ n. StandsOnce n chart.groups) (sym k.named) once) (subst (λ n. NeedsAt chart.ways (replica_of n node.replicas) mail.body) (sym k.named) needs)

  finds : FindsCalm chart (births as_nodes scenario) rows seat (Deliver number)
  finds mail at = by (value player_table seat rows) refl
    where
      by : (player : Player) → value player_table seat rows ≡ player → IsCalmFor chart (led_elsewhere (births as_nodes scenario) rows seat.who) mail player
      by (Client client) fact = absurd (known.nodes client fact)
      by (Node node) fact = (for_node words scenario rows seat number mail node on.timely on.seated fact at, named (group_of_mail mail.body) refl)
        where
          named : (o : Option Draw) → group_of_mail mail.body ≡ o → FindsBy chart (births as_nodes scenario) rows seat.who mail node
          named None of = strays chart.ways chart.groups (led_elsewhere (births as_nodes scenario) rows seat.who) words scenario rows seat number mail node on.timely on.seated fact at of
          named (Some name) of = group_finds mail node name at fact of

pub order_rows_find : JournalMailFinds → StrayMailFinds → MailIsForItsNode → LedStandOnce → FreshGroupsStay → StagesAsk → BondsAsk → ScenesDescribe → AnswersReachLeaders → WorksFlyLone → OrderEntriesCount → StagesLeaveOneWork → WellLedLeadAlone → SlotsAreLeft → ScenariosAreKeptBorn
    → ReplicasAreKept → SlotsHaveRosters → ViewsAgree → ValidScenariosAreBounded → OrderRowsFindCalm
order_rows_find = finds
