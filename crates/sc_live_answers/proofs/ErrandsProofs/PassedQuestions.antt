-- A replica that sends a question on names one that has a replica; and whom a participant handed over asks next has one.
use Rattle.std.proofs.Common.{◌≡◌, ℕ, Bool, false, List, [], ◌∷◌, ◌++◌, Option, Some, inl, inr, option_map, refl, sym, ◌∙◌, ap, subst}
use Rattle.std.proofs.lemmas.Bool.{cases_Bool, cond-false}
use Rattle.sc_base.specs.Definitions.{Among}
use Rattle.sc_node_table.specs.Values.{Draw, Seat, Deliver, Got, Base, Mail, TxElsewhere, Client, Node}
use Rattle.sc_actor.specs.Definitions.{value, row_of}
use Rattle.sc_node_table.specs.NodeDefinitions.{NodeState, group_of_mail, may_come, replica_of, routed, ReplicaState, Place, mailed}
use Rattle.sc_scenario.specs.declared.scenario.scenarios.Scenario.{Scenario}
use Rattle.sc_meaning.specs.sound.SoundDefinitions.{Player, as_nodes, births, player_table}
use Rattle.sc_live_plain.specs.PlainDefinitions.{replicas_after}
use Rattle.sc_live_steps.specs.calm.CalmDefinitions.{HasReplica, Rows}
use Rattle.sc_live_steps.specs.orders.OrderDefinitions.{errand_by, errands_for, Elsewhere, Here, Question, is_watch, Asks, Deal, IsAt, Recorded, SentOn, Stage}
use Rattle.sc_live_journals.specs.rows.RowDefinitions.{view_at, with_event}
use Rattle.sc_live_journals.proofs.RowsProofs.RowLemmas.{view_was, none_some}
use Rattle.sc_live_journals.specs.scenes.SceneDefinitions.{left_after, scene_at, AtAnother, AtLeader, FindsReplica, AreUntouched, ComesTo, IsTaking}
use Rattle.sc_live_answers.specs.AnswerDefinitions.{ContinuesSince, IsHintedAt, ReplicasAreRecorded, IsTrueSince}
use Rattle.sc_live_answers.proofs.ErrandsProofs.QuestionDeliveries.{errands_are, gone_is, mail_was, one}
use Rattle.sc_live_answers.proofs.ErrandsProofs.QuestionTargets.{errand_there, own_errand}
use Rattle.sc_live_answers.proofs.ErrandsProofs.PendingErrands.{elsewhere_at}
use Rattle.sc_live_answers.proofs.ErrandsProofs.AskedNodes.{AsksOn, Enters, IsSending, Mute}
use Rattle.sc_live_journals.proofs.ScenesProofs.SceneLemmas.{IsQuestion, aside_is, row_of_comes, all_sent, asked_fresh}
use Rattle.sc_live_answers.proofs.ErrandsProofs.QuestionTargets.{aside_off, no_append, question_mail}
use Rattle.sc_live_answers.proofs.QuietProofs.QuietLeaders.{stands_there}
use Rattle.sc_live_answers.proofs.ErrandsProofs.AskedNodes.{leader_sends}
use Rattle.sc_live_answers.proofs.ErrandsProofs.QuestionHints.{same_hint}

asks_not : (deal other : Deal) (to : ℕ) → Asks deal to ≡ SentOn other → ⊥
asks_not deal other to e = cc

pub recorded_not : (deal other : Deal) (agreed : Bool) (host n : ℕ) → Recorded deal agreed host ≡ Asks other n → ⊥
recorded_not deal other agreed host n e = cc

pub recorded_on : (deal other : Deal) (agreed : Bool) (host : ℕ) → Recorded deal agreed host ≡ SentOn other → ⊥
recorded_on deal other agreed host e = cc

module _ (tells : ReplicasAreRecorded) (words : ℕ → ℕ → ℕ × ℕ) (scenario : Scenario) (first : Base) (journal quiet rows : Rows) (seat : Seat Player) (number : ℕ) (stage : Stage) (g : ContinuesSince words scenario first journal quiet rows seat number stage) where
  abbrev all : List (Seat Player)
  all = births as_nodes scenario

  abbrev next : Rows
  next = with_event rows seat (Deliver number)

  abbrev sent_now : List Mail
  sent_now = (row_of player_table seat rows (Deliver number)).sent

  abbrev mail0 : Mail
  mail0 = (one words scenario first journal quiet rows seat number stage g).mail

  -- ---- a question is sent on

  module _ (deal : Deal) (to : ℕ) (fact : stage ≡ Asks deal to) (reached : HasReplica (replicas_after scenario quiet) deal.asked to) (stands : IsAt (SentOn deal) (scene_at (births as_nodes scenario) (with_event rows seat (Deliver number)))) where
    untouched : AreUntouched words (births as_nodes scenario) quiet rows (Asks deal to)
    untouched = subst (AreUntouched words all quiet rows) fact g.untouched

    stood : Rattle.sc_live_steps.specs.calm.QuietPlayers.StandsQuiet (replicas_after scenario quiet) deal.asked
    stood = (subst (IsTrueSince scenario quiet rows) fact g.true_since).asked.0

    mail_is : IsQuestion (one words scenario first journal quiet rows seat number stage g).mail.body × ((group_of_mail (one words scenario first journal quiet rows seat number stage g).mail.body ≡ Some deal.asked) × ((one words scenario first journal quiet rows seat number stage g).mail.to ≡ to))
    mail_is =
        let none : errands_for deal.asked (left_after next) ≡ [] = ap (λ (h : Here). h.errands) stands.parties.0.1.0 in
        let t = (one words scenario first journal quiet rows seat number stage g).takes in
        let gone = (no_append (errands_for deal.asked (t.before ++ t.behind)) (errands_for deal.asked sent_now) (sym (errands_are words scenario first journal quiet rows seat number stage g deal.asked) ∙ none)).0 in
        let e = Question deal.tx deal.coord (is_watch deal.turn) deal.chief to in
        question_mail mail0.from mail0.to mail0.body deal.asked deal.tx deal.coord (is_watch deal.turn) deal.chief to
        (own_errand deal.asked e (errand_by mail0.from mail0.to mail0.body) (gone_is words scenario first journal quiet rows seat number stage g deal.asked e (ap (λ (h : Here). h.errands) untouched.stands.parties.0.1.0) gone))

    here : to ≡ seat.who
    here = sym mail_is.1.1 ∙ (one words scenario first journal quiet rows seat number stage g).to_is

    abbrev x : ReplicaState
    x = reached.0

    has : view_at (births as_nodes scenario) rows deal.asked seat.who ≡ Some reached.0
    has =
        ap (view_at all rows deal.asked) (sym here)
        ∙ (untouched.views deal.asked (asked_fresh (scene_at all rows) deal to untouched.stands) (stands_there scenario quiet _ _ g.rests.fact.quiet g.rests.known g.seen deal.asked stood) to ∙ (g.seen deal.asked to ∙ reached.1))

    module _ (m : Mail) (among : Among m (row_of player_table seat rows (Deliver number)).sent) (tx c : Draw) (hint : Option ℕ) (body : m.body ≡ TxElsewhere tx c hint) where
      abbrev ReportedSo : Type 0
      ReportedSo = (n : ℕ) × (hint ≡ Some n) × HasReplica (replicas_after scenario quiet) deal.asked n

      leading : (place : Place) → IsSending (one words scenario first journal quiet rows seat number stage g).mail reached.0 place → (row_of player_table seat rows (Deliver number)).sent ≡ place.1 → ⊥
      leading place (Mute k) e = k c (Elsewhere tx m.to) (errand_there c (Elsewhere tx m.to) m place.1 (subst (Among m) e among) (ap (errand_by m.from m.to) body))
      leading place (AsksOn t d n b k) e = k c (Elsewhere tx m.to) (errand_there c (Elsewhere tx m.to) m place.1 (subst (Among m) e among) (ap (errand_by m.from m.to) body))
      leading place (Enters flight f work w named ballot slot b asked t d watch n node bond leaves k) e = k c (Elsewhere tx m.to) (errand_there c (Elsewhere tx m.to) m place.1 (subst (Among m) e among) (ap (errand_by m.from m.to) body))

      passed : (tx2 c2 : Draw) → reached.0.running ≡ false → Among m (record { from = reached.0.me; to = mail0.from; body = TxElsewhere tx2 c2 reached.0.hint } ∷ []) → ReportedSo
      passed tx2 c2 off a =
          let only : record { from = x.me; to = mail0.from; body = TxElsewhere tx2 c2 x.hint } ≡ m = elim a [ inl e ↦ e | inr none ↦ absurd none ] in
          let same : hint ≡ x.hint = same_hint tx tx2 c c2 hint x.hint (sym body ∙ ap (λ (y : Mail). y.body) (sym only)) in
          let up = g.rests.fact.quiet.rises deal.asked to x reached.1 off (g.rests.reach.stand deal.asked stood to x reached.1) in
          (x.top.node, same ∙ up.hint_is, (up.there, up.is_there))

      at_node : (node : NodeState) → value player_table seat rows ≡ Node node → ReportedSo
      at_node node n_is = elim (cases_Bool (may_come mail0.from mail0.body)) [
        | inr f ↦ (
            let response = ap (λ (y : NodeState × List Mail). (Node y.0, y.1)) (cond-false (may_come mail0.from mail0.body) (routed (group_of_mail mail0.body) mail0.from mail0.body node) (node, []) f) in
            let none = all_sent all rows seat (Deliver number) node g.goes.seated n_is (node, []) (Some (Got mail0)) (ap (option_map Got) (one words scenario first journal quiet rows seat number stage g).sent) response in
            absurd (subst (Among m) none among))
        | inl t ↦ (
            let found : replica_of deal.asked node.replicas ≡ Some x = sym (view_was all rows seat (Deliver number) deal.asked g.goes.seated (Node node) n_is) ∙ has in
            let taking : IsTaking words all rows seat number mail0 deal.asked node =
            record { seated = g.goes.seated; timely = g.goes.timely; is_node = n_is; me_is = g.finds.me_is node n_is; sent = (one words scenario first journal quiet rows seat number stage g).sent; comes = t; named = mail_is.1.0 } in
            let f = g.finds.here number mail0 deal.asked node x refl taking found in
            by (record { node = node; taking = taking; here = found; children = f.0 }) f.1)
      ]
        where
          by : (k : ComesTo words (births as_nodes scenario) rows seat number (one words scenario first journal quiet rows seat number stage g).mail deal.asked reached.0) → FindsReplica (births as_nodes scenario) rows seat number (one words scenario first journal quiet rows seat number stage g).mail deal.asked reached.0 → ReportedSo
          by k (AtLeader leads f) =
              absurd (leading (mailed mail0.from mail0.body (x, [])).0 (leader_sends words all rows seat number mail0 deal.asked x (record { comes = k; leads = leads }) (stage, g.untouched.stands) f) (row_of_comes words all rows seat number mail0 deal.asked x k).1.sends)
          by k (AtAnother beside f) =
              let a = aside_is mail0 x mail0.body mail_is.0 f in
              passed a.0 a.1 (aside_off mail0 x mail0.body mail_is.0 f) (subst (Among m) ((row_of_comes words all rows seat number mail0 deal.asked x k).1.sends ∙ ap (λ (p : Place). p.1) a.2) among)

      by_player : (player : Player) → value player_table seat rows ≡ player → ReportedSo
      by_player (Client client) p_is = absurd (none_some (sym (view_was all rows seat (Deliver number) deal.asked g.goes.seated (Client client) p_is) ∙ has))
      by_player (Node node) p_is = at_node node p_is

    pub passes_so : (mail : Mail) → Among mail (left_after (with_event rows seat (Deliver number))) → IsHintedAt scenario quiet deal.asked mail
    passes_so m among tx c hint body = elim (mail_was words scenario first journal quiet rows seat number stage g m among) [
      | inl old ↦ (let w = elsewhere_at (scene_at all rows) stage g.untouched.stands c tx m.to (errand_there c (Elsewhere tx m.to) m (left_after rows) old (ap (errand_by m.from m.to) body)) in absurd (asks_not deal w.deal to (sym fact ∙ w.fact)))
      | inr fresh ↦ by_player m fresh tx c hint body (value player_table seat rows) refl
    ]
