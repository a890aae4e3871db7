-- So questions go to nodes that have replicas, after each delivery.
use Rattle.std.proofs.Common.{◌≡◌, ℕ, true, List, [], ◌∷◌, ◌++◌, Option, Some, ◌⊎◌, inl, inr, refl, sym, ◌∙◌, ap, subst}
use Rattle.sc_base.specs.Definitions.{Among, Each, least_of}
use Rattle.sc_node_table.specs.Values.{Draw, Seat, Deliver, Command, Base, Mail, TxElsewhere, Flight}
use Rattle.sc_actor.specs.Definitions.{numbers_of, row_of, mails, numbered}
use Rattle.sc_group_table.specs.machine.MachineDefinitions.{Group}
use Rattle.sc_node_table.specs.NodeDefinitions.{group_of_mail, ReplicaState}
use Rattle.sc_words.proofs.PaxosProofs.PaxosLemmas.{Each-among}
use Rattle.sc_scenario.specs.declared.scenario.scenarios.Scenario.{Scenario}
use Rattle.sc_meaning.specs.sound.SoundDefinitions.{Player, as_nodes, births, player_table}
use Rattle.sc_live_plain.specs.PlainDefinitions.{replicas_after}
use Rattle.sc_live_steps.specs.calm.CalmDefinitions.{HasReplica, Rows}
use Rattle.sc_live_answers.specs.AnswerDefinitions.{IsTrueEntry, HasDone, doer, opened, ContinuesSince, IsHintedAt, ReplicasAreRecorded, IsTrueSince}
use Rattle.sc_live_steps.specs.orders.OrderDefinitions.{errand_by, errands_for, works, Elsewhere, First, Here, Opens, Work, Asks, Deal, IsAt, Ordered, SentOn, Stage}
use Rattle.sc_live_journals.specs.rows.RowDefinitions.{view_at, with_event}
use Rattle.sc_live_journals.specs.scenes.SceneDefinitions.{is_running, left_after, scene_at}
use Rattle.sc_live_journals.proofs.ScenesProofs.SceneLemmas.{lead_runs}
use Rattle.sc_live_answers.proofs.ErrandsProofs.QuestionDeliveries.{Nothing, Sending, Sends, errands_are, gone_is, leader_row, mail_was, one}
use Rattle.sc_live_answers.proofs.WorkProofs.LeaderDeeds.{lead_works}
use Rattle.sc_live_answers.proofs.ErrandsProofs.QuestionTargets.{elsewhere_mail, errand_there, one_right, opens_least, own_errand}
use Rattle.sc_live_answers.proofs.RestProofs.LeaderWork.{is_work_of}
use Rattle.sc_live_answers.proofs.ErrandsProofs.PendingErrands.{elsewhere_at}
use Rattle.sc_live_answers.proofs.ErrandsProofs.AskedNodes.{AsksOn, Enters, IsSending, Mute}
use Rattle.sc_live_answers.proofs.WorkProofs.PartiesSinceQuiet.{free_first}
use Rattle.sc_live_answers.proofs.ErrandsProofs.QuestionHints.{at_seat, prefix, goes_to, least_at, no_deeds, not_both, the_work}
use Rattle.sc_live_answers.proofs.WorkProofs.PartiesSinceQuiet.{coords}
use Rattle.sc_live_answers.proofs.WorkProofs.Parties.{Coordinates}
use Rattle.sc_live_answers.proofs.VotesProofs.OpenedTransactions.{IsOpened}
use Rattle.std.proofs.lemmas.Option.{same_Some}

module _ (tells : ReplicasAreRecorded) (words : ℕ → ℕ → ℕ × ℕ) (scenario : Scenario) (first : Base) (journal quiet rows : Rows) (seat : Seat Player) (number : ℕ) (stage : Stage) (g : ContinuesSince words scenario first journal quiet rows seat number stage)
    (trues : (name : Draw) (node : ℕ) (r : ReplicaState) → view_at (births as_nodes scenario) rows name node ≡ Some r → r.running ≡ true → Each (λ (flight : Flight Command). IsTrueEntry r.me r.group flight.value) r.leader.flights) where
  abbrev all : List (Seat Player)
  all = births as_nodes scenario

  abbrev next : Rows
  next = with_event rows seat (Deliver number)

  pub true_flight : (name : Draw) (node : ℕ) (r : ReplicaState) → view_at (births as_nodes scenario) rows name node ≡ Some r → r.running ≡ true → (flight : Flight Command) → Among flight r.leader.flights → IsTrueEntry r.me r.group flight.value
  true_flight name node r has runs flight among = Each-among (λ (x : Flight Command). IsTrueEntry r.me r.group x.value) r.leader.flights flight (trues name node r has runs) among

  pub runs_at : (name : Draw) (host : ℕ) (r : ReplicaState) → (scene_at (births as_nodes scenario) rows).lead name ≡ Some host → view_at (births as_nodes scenario) rows name host ≡ Some r → r.running ≡ true
  runs_at name host r lead fact = sym (ap is_running fact) ∙ lead_runs (view_at all rows name) (numbers_of all) host lead

  pub named_by : (group : Draw) (mail : Mail) → numbered (mails rows) number ≡ Some mail → group_of_mail mail.body ≡ Some group → group_of_mail (one words scenario first journal quiet rows seat number stage g).mail.body ≡ Some group
  named_by group mail sent named = subst (λ (m : Mail). group_of_mail m.body ≡ Some group) (same_Some mail (one words scenario first journal quiet rows seat number stage g).mail (sym sent ∙ (one words scenario first journal quiet rows seat number stage g).sent)) named

  -- a mail that is to be asked elsewhere is taken only where one is under way
  pub no_elsewhere : (tx coord : Draw) (hint : Option ℕ) → (one words scenario first journal quiet rows seat number stage g).mail.body ≡ TxElsewhere tx coord hint → (deal : Deal) × (stage ≡ SentOn deal)
  no_elsewhere tx coord hint body =
      let m = (one words scenario first journal quiet rows seat number stage g).mail in
      let there : Among m (left_after rows) = subst (Among m) (sym (one words scenario first journal quiet rows seat number stage g).takes.had_is)
      (Rattle.sc_live_steps.proofs.OrderStepsProofs.NamedValues.among-right m (one words scenario first journal quiet rows seat number stage g).takes.before (m ∷ (one words scenario first journal quiet rows seat number stage g).takes.behind) (inl refl)) in
      let w = elsewhere_at (scene_at all rows) stage g.untouched.stands coord tx m.to (errand_there coord (Elsewhere tx m.to) m (left_after rows) there (ap (errand_by m.from m.to) body)) in
      (w.deal, w.fact)

  ordered_not : (group : Draw) (chief : ℕ) (work : Work) (deal : Deal) (n : ℕ) → Ordered group chief work ≡ Asks deal n → ⊥
  ordered_not group chief work deal n e = cc

  ordered_on : (group : Draw) (chief : ℕ) (work : Work) (deal : Deal) → Ordered group chief work ≡ SentOn deal → ⊥
  ordered_on group chief work deal e = cc

  -- ---- the order's own group asks

  pub opens_so : (group : Draw) (deal : Deal) (to : ℕ) → stage ≡ Ordered group deal.chief (Opens deal.tx) → deal.coord ≡ group → (mail : Mail) → numbered (mails rows) number ≡ Some mail → group_of_mail mail.body ≡ Some group
      → IsAt (Asks deal to) (scene_at (births as_nodes scenario) (with_event rows seat (Deliver number))) → IsTrueSince scenario quiet (with_event rows seat (Deliver number)) (Asks deal to) → (deal.turn ≡ First) ⊎ (deal.turn ≡ Rattle.sc_live_steps.specs.orders.Scenes.Lone)
      → HasReplica (replicas_after scenario quiet) deal.asked to
  opens_so group deal to fact own mail sent named stands since turn =
      let at_rows : IsAt (Ordered group deal.chief (Opens deal.tx)) (scene_at all rows) = subst (λ x. IsAt x (scene_at all rows)) fact g.untouched.stands in
      let d : HasDone all quiet rows (doer group deal.chief []) = (subst (IsTrueSince scenario quiet rows) fact g.true_since).done.0 in
      let r = d.now in
      let runs = runs_at group deal.chief r at_rows.leads.0 d.fact in
      let here : deal.chief ≡ seat.who = at_seat tells words scenario first journal quiet rows seat number stage g group deal.chief r (Opens deal.tx) d.fact at_rows.leads.0 (ap (λ (h : Here). h.work) at_rows.parties.0.0)
      (subst (λ n. (scene_at all next).lead n ≡ Some deal.chief) own stands.leads.0) (subst (λ n. ((scene_at all next).at n).work ≡ []) own (ap (λ (h : Here). h.work) stands.parties.0.0)) in
      let has : view_at all rows group seat.who ≡ Some r = ap (view_at all rows group) (sym here) ∙ d.fact in
      let same : r.group ≡ d.first.group = no_deeds d.entries d.first.group r.group d.did d.group_is in
      let free = ap (λ (x : Group). x.core.lock) same ∙ free_first tells words scenario first journal quiet rows (row_of player_table seat rows (Deliver number) ∷ g.goes.prefix.more) (prefix tells words scenario first journal quiet rows seat number stage g) g.calm g.rests g.seen (doer group deal.chief []) d in
      let its_work : works r ≡ Opens deal.tx ∷ [] = lead_works all rows group deal.chief r at_rows.leads.0 d.fact ∙ ap (λ (h : Here). h.work) at_rows.parties.0.0 in
      let e : HasDone all quiet next (doer deal.coord deal.chief (opened deal.tx deal.turn)) = since.done.0 in
      let firsts : e.first ≡ d.first = same_Some e.first d.first (sym e.was ∙ (ap (λ n. view_at all quiet n deal.chief) own ∙ d.was)) in
      let made = coords tells words scenario first journal quiet next g.goes.prefix.more g.goes.prefix.fact g.calm g.rests g.seen deal stands.leads.0 (ap (λ (h : Here). h.bond) stands.parties.0.0) e in
      let asked : deal.asked ≡ e.first.group.core.succ.group = asked_one e.first.group deal.tx deal.asked deal.turn e.now.group turn made in
      let least = least_at tells words scenario first journal quiet rows seat number stage g (doer deal.coord deal.chief (opened deal.tx deal.turn)) e in
      let there : HasReplica (replicas_after scenario quiet) deal.asked (least_of r.group.core.succ.members) =
      subst (λ n. HasReplica (replicas_after scenario quiet) n (least_of r.group.core.succ.members)) (sym asked)
      (subst (λ ms. HasReplica (replicas_after scenario quiet) e.first.group.core.succ.group (least_of ms)) (ap (λ (x : ReplicaState). x.group.core.succ.members) firsts ∙ ap (λ (x : Group). x.core.succ.members) (sym same)) least) in
      goes_to tells words scenario first journal quiet rows seat number stage g deal to stands (λ other n x. ordered_not group deal.chief (Opens deal.tx) other n (sym fact ∙ x)) group r has runs (named_by group mail sent named)
      (λ n. HasReplica (replicas_after scenario quiet) deal.asked n)
      (λ tx coord n body. absurd (let k = no_elsewhere tx coord (Some n) body in ordered_on group deal.chief (Opens deal.tx) k.0 (sym fact ∙ k.1)))
      (λ flight among work w body b_named ballot slot b asked2 tx coord watch by node bond leaves. (
      let work_is : Opens deal.tx ≡ work = the_work work (Opens deal.tx) (subst (Among work) its_work (is_work_of r flight work among w)) in
      let k = opens_least r flight.value asked2 tx coord watch by node bond leaves deal.tx free (w ∙ ap Some (sym work_is)) (true_flight group deal.chief r d.fact runs flight among) in
      subst (λ n. HasReplica (replicas_after scenario quiet) deal.asked n) (sym k.1) there))
    where
      asked_one : (group : Group) (tx asked : Draw) (turn : _) (made : Group) → (turn ≡ First) ⊎ (turn ≡ Rattle.sc_live_steps.specs.orders.Scenes.Lone) → Coordinates group tx asked turn made → asked ≡ group.core.succ.group
      asked_one group tx asked turn made (inl e) c = (let o : IsOpened group tx asked First made = subst (λ t. Coordinates group tx asked t made) e c in o.asked_is)
      asked_one group tx asked turn made (inr e) c = (let o : IsOpened group tx asked Rattle.sc_live_steps.specs.orders.Scenes.Lone made = subst (λ t. Coordinates group tx asked t made) e c in o.asked_is)

  -- ---- a coordinator that is to ask elsewhere

  module _ (deal : Deal) (fact : stage ≡ SentOn deal) (hinted : (mail : Mail) → Among mail (left_after rows) → IsHintedAt scenario quiet deal.asked mail) where
    on_rows : IsAt (SentOn deal) (scene_at (births as_nodes scenario) rows)
    on_rows = subst (λ x. IsAt x (scene_at all rows)) fact g.untouched.stands

    coord_done : HasDone (births as_nodes scenario) quiet rows (doer deal.coord deal.chief (opened deal.tx deal.turn))
    coord_done = (subst (IsTrueSince scenario quiet rows) fact g.true_since).done.0

    coord_runs : coord_done.now.running ≡ true
    coord_runs = runs_at deal.coord deal.chief coord_done.now on_rows.leads.0 coord_done.fact

    taken_mail : Among (one words scenario first journal quiet rows seat number stage g).mail (left_after rows)
    taken_mail =
        let t = (one words scenario first journal quiet rows seat number stage g).takes in
        subst (Among (one words scenario first journal quiet rows seat number stage g).mail) (sym t.had_is) (Rattle.sc_live_steps.proofs.OrderStepsProofs.NamedValues.among-right _ t.before ((one words scenario first journal quiet rows seat number stage g).mail ∷ t.behind) (inl refl))

    -- where it has no such errand left, the mail was that
    module _ (gone : errands_for deal.coord ((one words scenario first journal quiet rows seat number stage g).takes.before ++ (one words scenario first journal quiet rows seat number stage g).takes.behind) ≡ []) where
      mail_is : (hint : Option ℕ) × ((one words scenario first journal quiet rows seat number stage g).mail.body ≡ TxElsewhere deal.tx deal.coord hint) × ((one words scenario first journal quiet rows seat number stage g).mail.to ≡ deal.chief)
      mail_is =
          let m = (one words scenario first journal quiet rows seat number stage g).mail in
          elsewhere_mail m.from m.to m.body deal.coord deal.tx deal.chief
          (own_errand deal.coord (Elsewhere deal.tx deal.chief) (errand_by m.from m.to m.body)
          (gone_is words scenario first journal quiet rows seat number stage g deal.coord (Elsewhere deal.tx deal.chief) (ap (λ (h : Here). h.errands) on_rows.parties.0.0) gone))

      chief_is : deal.chief ≡ seat.who
      chief_is = sym mail_is.2 ∙ (one words scenario first journal quiet rows seat number stage g).to_is

      chief_has : view_at (births as_nodes scenario) rows deal.coord seat.who ≡ Some coord_done.now
      chief_has = ap (view_at all rows deal.coord) (sym chief_is) ∙ coord_done.fact

      mail_named : group_of_mail (one words scenario first journal quiet rows seat number stage g).mail.body ≡ Some deal.coord
      mail_named = ap group_of_mail mail_is.1

      -- it sends nobody elsewhere
      none_sent : (m : Mail) → Among m (row_of player_table seat rows (Deliver number)).sent → (tx c : Draw) (hint : Option ℕ) → m.body ≡ TxElsewhere tx c hint → ⊥
      none_sent m among tx c hint body = by (leader_row words scenario first journal quiet rows seat number stage g deal.coord coord_done.now chief_has coord_runs mail_named)
        where
          errand : (ms : List Mail) → Among m ms → Among (Elsewhere tx m.to) (errands_for c ms)
          errand ms a = errand_there c (Elsewhere tx m.to) m ms a (ap (errand_by m.from m.to) body)

          sending : (place : _) → IsSending (one words scenario first journal quiet rows seat number stage g).mail coord_done.now place → (row_of player_table seat rows (Deliver number)).sent ≡ place.1 → ⊥
          sending place (Mute k) e = k c (Elsewhere tx m.to) (errand place.1 (subst (Among m) e among))
          sending place (AsksOn t d n b k) e = k c (Elsewhere tx m.to) (errand place.1 (subst (Among m) e among))
          sending place (Enters flight f work w named ballot slot b asked t d watch n node bond leaves k) e = k c (Elsewhere tx m.to) (errand place.1 (subst (Among m) e among))

          by : Sends words scenario first journal quiet rows seat number stage g deal.coord coord_done.now chief_has coord_runs mail_named → ⊥
          by (Nothing e) = subst (Among m) e among
          by (Sending place s e) = sending place s e

    -- it asks there
    pub asks_so : (to : ℕ) → IsAt (Asks deal to) (scene_at (births as_nodes scenario) (with_event rows seat (Deliver number))) → HasReplica (replicas_after scenario quiet) deal.asked to
    asks_so to stands =
        let none : errands_for deal.coord (left_after next) ≡ [] = ap (λ (h : Here). h.errands) stands.parties.0.0 in
        let gone = (Rattle.sc_live_answers.proofs.ErrandsProofs.QuestionTargets.no_append (errands_for deal.coord ((one words scenario first journal quiet rows seat number stage g).takes.before ++ (one words scenario first journal quiet rows seat number stage g).takes.behind))
        (errands_for deal.coord (row_of player_table seat rows (Deliver number)).sent) (sym (errands_are words scenario first journal quiet rows seat number stage g deal.coord) ∙ none)).0 in
        goes_to tells words scenario first journal quiet rows seat number stage g deal to stands (λ other n x. sent_on_not other n (sym fact ∙ x)) deal.coord coord_done.now (chief_has gone) coord_runs (mail_named gone)
        (λ n. HasReplica (replicas_after scenario quiet) deal.asked n)
        (λ tx coord n body. (let h = hinted (one words scenario first journal quiet rows seat number stage g).mail taken_mail tx coord (Some n) body in subst (λ x. HasReplica (replicas_after scenario quiet) deal.asked x) (sym (some_nat n h.0 h.1)) h.2))
        (λ flight among work w body named ballot slot b asked2 tx coord watch by node bond leaves. absurd (not_both deal.tx deal.coord (mail_is gone).0 named ballot slot (sym (mail_is gone).1 ∙ b)))
      where
        some_nat : (a b : ℕ) → Some a ≡ Some b → a ≡ b
        some_nat a b e = cc

        sent_on_not : (other : Deal) (n : ℕ) → SentOn deal ≡ Asks other n → ⊥
        sent_on_not other n e = cc

    -- or the mail is still under way
    pub stays_so : IsAt (SentOn deal) (scene_at (births as_nodes scenario) (with_event rows seat (Deliver number))) → (mail : Mail) → Among mail (left_after (with_event rows seat (Deliver number))) → IsHintedAt scenario quiet deal.asked mail
    stays_so stands m among tx c hint body = elim (mail_was words scenario first journal quiet rows seat number stage g m among) [
      | inl old ↦ hinted m old tx c hint body
      | inr fresh ↦ (
          let e = Elsewhere tx m.to in
          let sent_ = (row_of player_table seat rows (Deliver number)).sent in
          let there = errand_there c e m (left_after next) among (ap (errand_by m.from m.to) body) in
          let w = elsewhere_at (scene_at all next) (SentOn deal) stands c tx m.to there in
          let own : deal.coord ≡ c = ap (λ (x : Deal). x.coord) (same_deal deal w.deal w.fact) ∙ w.group_is in
          let fresh_there : Among e (errands_for deal.coord sent_) = subst (λ n. Among e (errands_for n sent_)) (sym own) (errand_there c e m sent_ fresh (ap (errand_by m.from m.to) body)) in
          let gone = one_right e (Elsewhere deal.tx deal.chief) (errands_for deal.coord ((one words scenario first journal quiet rows seat number stage g).takes.before ++ (one words scenario first journal quiet rows seat number stage g).takes.behind)) (errands_for deal.coord sent_)
          (sym (errands_are words scenario first journal quiet rows seat number stage g deal.coord) ∙ ap (λ (h : Here). h.errands) stands.parties.0.0) fresh_there in
          absurd (none_sent gone m fresh tx c hint body))
    ]
      where
        same_deal : (a b : Deal) → SentOn a ≡ SentOn b → a ≡ b
        same_deal a b e = cc
