-- Whom a question goes to has a replica, and whom a replica of its group names that does not lead.
use Rattle.std.proofs.Common.{◌≡◌, ℕ, Bool, true, List, [], ◌∷◌, ◌++◌, Option, Some, inl, inr, refl, sym, ◌∙◌, ap, subst, append_assoc}
use Rattle.std.proofs.lemmas.Bool.{cases_eq}
use Rattle.sc_base.specs.Definitions.{Among, least_of}
use Rattle.sc_node_table.specs.Values.{Draw, Seat, Deliver, Command, Base, MailBody, Accepted, TxElsewhere, Flight}
use Rattle.sc_actor.specs.Definitions.{row_of}
use Rattle.sc_group_table.specs.machine.MachineDefinitions.{Group, state_after}
use Rattle.sc_node_table.specs.NodeDefinitions.{group_of_mail, ReplicaState}
use Rattle.sc_scenario.specs.declared.scenario.scenarios.Scenario.{Scenario}
use Rattle.sc_meaning.specs.sound.SoundDefinitions.{Player, as_nodes, births, player_table}
use Rattle.sc_live_plain.specs.PlainDefinitions.{replicas_after}
use Rattle.sc_live_steps.specs.calm.CalmDefinitions.{HasReplica, Rows}
use Rattle.sc_live_steps.specs.orders.OrderDefinitions.{errands_for, work_by, works, Errand, Here, Question, Work, is_watch, Asks, Deal, IsAt, Stage}
use Rattle.sc_live_journals.specs.rows.RowDefinitions.{view_at, with_event}
use Rattle.sc_live_journals.proofs.RowsProofs.RowLemmas.{view_others}
use Rattle.sc_live_journals.specs.scenes.SceneDefinitions.{left_after, scene_at}
use Rattle.sc_live_answers.specs.AnswerDefinitions.{AreDeeds, Doer, HasDone, ContinuesSince, ReplicasAreRecorded}
use Rattle.sc_live_answers.proofs.ErrandsProofs.QuestionDeliveries.{Nothing, Sending, Sends, errand_was, errands_are, leader_row, one}
use Rattle.sc_live_answers.proofs.WorkProofs.LeaderDeeds.{lead_works, one_not_none}
use Rattle.sc_live_answers.proofs.ErrandsProofs.PendingErrands.{question_at}
use Rattle.sc_live_answers.proofs.QuietProofs.QuietLeaders.{link_least}
use Rattle.sc_live_answers.proofs.ErrandsProofs.AskedNodes.{AsksOn, Enters, IsSending, Mute}
use Rattle.sc_live_answers.proofs.WorkProofs.PartiesSinceQuiet.{led_first}
use Rattle.sc_paxos_law.proofs.Lemmas.{Among-either}

pub no_deeds : (entries : List Command) (group made : Group) → AreDeeds [] entries → made ≡ state_after group entries → made ≡ group
no_deeds [] group made are e = e
no_deeds (c ∷ cs) group made are e = absurd are

pub not_both : (tx coord : Draw) (hint : Option ℕ) (named : Draw) (ballot : _) (slot : ℕ) → TxElsewhere tx coord hint ≡ Accepted named ballot slot → ⊥
not_both tx coord hint named ballot slot e = cc

pub same_hint : (t tx c coord : Draw) (h hint : Option ℕ) → TxElsewhere t c h ≡ TxElsewhere tx coord hint → h ≡ hint
same_hint t tx c coord h hint e = cc

pub the_work : (work other : Work) → Among work (other ∷ []) → other ≡ work
the_work work other (inl e) = e
the_work work other (inr a) = absurd a

module _ (tells : ReplicasAreRecorded) (words : ℕ → ℕ → ℕ × ℕ) (scenario : Scenario) (first : Base) (journal quiet rows : Rows) (seat : Seat Player) (number : ℕ) (stage : Stage) (g : ContinuesSince words scenario first journal quiet rows seat number stage) where
  abbrev all : List (Seat Player)
  all = births as_nodes scenario

  abbrev next : Rows
  next = with_event rows seat (Deliver number)

  abbrev more : Rows
  more = row_of player_table seat rows (Deliver number) ∷ g.goes.prefix.more

  pub prefix : journal ≡ rows ++ (row_of player_table seat rows (Deliver number) ∷ g.goes.prefix.more)
  prefix = g.goes.prefix.fact ∙ append_assoc rows (row_of player_table seat rows (Deliver number) ∷ []) g.goes.prefix.more

  -- the least member by a link of one that did something
  pub least_at : (it : Doer) (d : HasDone (births as_nodes scenario) quiet (with_event rows seat (Deliver number)) it) → HasReplica (replicas_after scenario quiet) d.first.group.core.succ.group (least_of d.first.group.core.succ.members)
  least_at it d =
      let s = led_first tells words scenario first journal quiet next g.goes.prefix.more g.goes.prefix.fact g.calm g.rests g.seen it d in
      subst (λ (x : ReplicaState). HasReplica (replicas_after scenario quiet) x.group.core.succ.group (least_of x.group.core.succ.members)) (sym s.1) (link_least scenario quiet _ _ g.rests.fact.quiet g.rests.known g.rests.reach it.group s.0)

  -- a leader that has done its work took the mail
  pub at_seat : (name : Draw) (host : ℕ) (r : ReplicaState) (work : Work) → view_at (births as_nodes scenario) rows name host ≡ Some r → (scene_at (births as_nodes scenario) rows).lead name ≡ Some host → ((scene_at (births as_nodes scenario) rows).at name).work ≡ work ∷ []
      → (scene_at (births as_nodes scenario) (with_event rows seat (Deliver number))).lead name ≡ Some host → ((scene_at (births as_nodes scenario) (with_event rows seat (Deliver number))).at name).work ≡ [] → host ≡ seat.who
  at_seat name host r work has lead had lead_then none = elim (cases_eq host seat.who) [
    | inl e ↦ e
    | inr ne ↦ absurd (one_not_none work (works r) (lead_works all rows name host r lead has ∙ had)
        (lead_works all next name host r lead_then (view_others all rows (row_of player_table seat rows (Deliver number)) name host ne ∙ has) ∙ none))
  ]

  -- a question that was not there is sent
  module _ (deal : Deal) (to : ℕ) (stands : IsAt (Asks deal to) (scene_at (births as_nodes scenario) (with_event rows seat (Deliver number)))) (new : (other : Deal) (n : ℕ) → stage ≡ Asks other n → ⊥) where
    abbrev question : Errand
    question = Question deal.tx deal.coord (is_watch deal.turn) deal.chief to

    pub sent_question : Among (Question deal.tx deal.coord (is_watch deal.turn) deal.chief to) (errands_for deal.asked (row_of player_table seat rows (Deliver number)).sent)
    sent_question =
        let there : Among question (errands_for deal.asked (left_after next)) = subst (Among question) (sym (ap (λ (h : Here). h.errands) stands.parties.0.1.0)) (inl refl) in
        elim (Among-either question (errands_for deal.asked ((one words scenario first journal quiet rows seat number stage g).takes.before ++ (one words scenario first journal quiet rows seat number stage g).takes.behind)) (errands_for deal.asked (row_of player_table seat rows (Deliver number)).sent) (subst (Among question) (errands_are words scenario first journal quiet rows seat number stage g deal.asked) there)) [
          | inl old ↦ (
              let a = question_at (scene_at all rows) stage g.untouched.stands deal.asked deal.tx deal.coord (is_watch deal.turn) deal.chief to (errand_was words scenario first journal quiet rows seat number stage g deal.asked question old) in
              absurd (new a.deal a.to a.fact))
          | inr fresh ↦ fresh
        ]

    -- a leader that takes the mail sends the question
    module _ (name : Draw) (r : ReplicaState) (has : view_at (births as_nodes scenario) rows name seat.who ≡ Some r) (runs : r.running ≡ true) (named : group_of_mail (one words scenario first journal quiet rows seat number stage g).mail.body ≡ Some name)
        (P : ℕ → Type 0)
        (asks_on : (tx coord : Draw) (n : ℕ) → (one words scenario first journal quiet rows seat number stage g).mail.body ≡ TxElsewhere tx coord (Some n) → P n)
        (enters : (flight : Flight Command) → Among flight r.leader.flights → (work : Work) → work_by flight.value ≡ Some work → (body : MailBody) → (named : Draw) (ballot : _) (slot : ℕ) → (one words scenario first journal quiet rows seat number stage g).mail.body ≡ Accepted named ballot slot
        → (asked tx coord : Draw) (watch : Bool) (by node : ℕ) (bond : _) → Rattle.sc_live_steps.specs.orders.Entries.EntryLeaves bond ((asked, Question tx coord watch by node ∷ []) ∷ []) flight.value r.me r.group → P node) where
      pub goes_to : P to
      goes_to = by (leader_row words scenario first journal quiet rows seat number stage g name r has runs named)
        where
          sending : (place : _) → IsSending (one words scenario first journal quiet rows seat number stage g).mail r place → (row_of player_table seat rows (Deliver number)).sent ≡ place.1 → P to
          sending place (Mute k) e = absurd (k deal.asked question (subst (λ ms. Among question (errands_for deal.asked ms)) e sent_question))
          sending place (AsksOn tx coord n body k) e = subst P (sym (k deal.asked question (subst (λ ms. Among question (errands_for deal.asked ms)) e sent_question))) (asks_on tx coord n body)
          sending place (Enters flight among work fact named ballot slot body asked tx coord watch b node bond leaves k) e =
              subst P (sym (k deal.asked question (subst (λ ms. Among question (errands_for deal.asked ms)) e sent_question)))
              (enters flight among work fact (one words scenario first journal quiet rows seat number stage g).mail.body named ballot slot body asked tx coord watch b node bond leaves)

          by : Sends words scenario first journal quiet rows seat number stage g name r has runs named → P to
          by (Nothing e) = absurd (subst (λ ms. Among question (errands_for deal.asked ms)) e sent_question)
          by (Sending place fact e) = sending place fact e
