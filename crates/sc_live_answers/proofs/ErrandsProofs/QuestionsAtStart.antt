-- An order given in a quiet prefix asks nobody yet; and one that is to ask elsewhere learns whom.
use Rattle.std.proofs.Common.{◌≡◌, ◌∷◌, inl, inr, refl, sym, ◌∙◌, ap, subst}
use Rattle.std.proofs.lemmas.Option.{same_Some}
use Rattle.sc_base.specs.Definitions.{Among}
use Rattle.sc_node_table.specs.Values.{Draw, Deliver}
use Rattle.sc_actor.specs.declared.rows.Event.TheVariants.{Told}
use Rattle.sc_actor.specs.Definitions.{row_of}
use Rattle.sc_live_orderly.proofs.OrderlyLemmas.{last_in_time}
use Rattle.sc_meaning.specs.sound.SoundDefinitions.{as_nodes, births, player_table}
use Rattle.sc_live_steps.specs.calm.CalmDefinitions.{players}
use Rattle.sc_live_steps.specs.orders.OrderDefinitions.{errand_by, Elsewhere, Here, Unbound, Asks, IsAt, SentOn, Stage, Still}
use Rattle.sc_live_steps.proofs.OrderStepsProofs.OrderStepLemmas.{among-right}
use Rattle.sc_live_journals.specs.rows.RowDefinitions.{with_event}
use Rattle.sc_live_journals.specs.scenes.SceneDefinitions.{StageAfter, left_after, scene_at}
use Rattle.sc_live_journals.proofs.ScenesProofs.SceneLemmas.{found_step, takes_one, calm_is}
use Rattle.sc_live_answers.specs.AnswerDefinitions.{CoordinatorsAreHinted, HintedOrdersBegin, IsHinted}
use Rattle.sc_live_answers.proofs.OrdersProofs.OrderFactsAtStart.{begun_so, ordered_unbound, still_unbound}
use Rattle.sc_live_answers.proofs.ErrandsProofs.QuestionTargets.{errand_there}
use Rattle.sc_live_answers.proofs.ErrandsProofs.PendingErrands.{elsewhere_at}
use Rattle.sc_live_answers.proofs.VotesProofs.OpenedTransactions.{no_asking}

-- Since a quiet journal each question of an order goes to a node that has a replica of its group, and one that sends it on names such a node: an order that is given asks nobody yet.
pub hinted_begin : HintedOrdersBegin
hinted_begin words scenario quiet seat line stage t stands = by stage stands
  where
    unbound : (name : Draw) → ((scene_at (births as_nodes scenario) (with_event quiet seat (Told line))).at name).bond ≡ Unbound
    unbound name =
        let after = scene_at (births as_nodes scenario) (with_event quiet seat (Told line)) in
        let found : StageAfter (births as_nodes scenario) quiet seat (Told line) Still = found_step words (births as_nodes scenario) quiet seat (Told line) t.seated t.timely t.finds Still t.still in
        elim found.2 [
          | inl e ↦ still_unbound after (subst (λ x. IsAt x after) e found.1) name
          | inr g ↦ elim (begun_so g.group found.0 g.step) [
            | inl e ↦ still_unbound after (subst (λ x. IsAt x after) e found.1) name
            | inr o ↦ ordered_unbound after g.group o.0 o.1 (subst (λ x. IsAt x after) o.2 found.1) name
          ]
        ]

    by : (x : Stage) → IsAt x (scene_at (births as_nodes scenario) (with_event quiet seat (Told line))) → IsHinted scenario quiet (with_event quiet seat (Told line)) x
    by (Asks deal to) a = absurd (no_asking deal.tx deal.asked deal.turn (sym (unbound deal.coord) ∙ ap (λ (h : Here). h.bond) a.parties.0.0))
    by (SentOn deal) a = absurd (no_asking deal.tx deal.asked deal.turn (sym (unbound deal.coord) ∙ ap (λ (h : Here). h.bond) a.parties.0.0))
    by _ a = tt

-- So a coordinator that is to ask elsewhere learns whom.
pub coordinators_hinted : CoordinatorsAreHinted
coordinators_hinted words scenario first journal quiet rows seat number mail group node r stage tx coord hint t hinted body =
    let all = births as_nodes scenario in
    let one = takes_one words all rows seat.who number (calm_is words all rows seat (Deliver number) (last_in_time (players words all) rows (row_of player_table seat rows (Deliver number)) t.taking.timely).0) in
    let same : one.mail ≡ mail = same_Some one.mail mail (sym one.sent ∙ t.taking.sent) in
    let there : Among mail (left_after rows) = subst (λ m. Among m (left_after rows)) same (subst (Among one.mail) (sym one.takes.had_is) (among-right one.mail one.takes.before (one.mail ∷ one.takes.behind) (inl refl))) in
    let w = elsewhere_at (scene_at all rows) stage t.untouched.stands coord tx mail.to (errand_there coord (Elsewhere tx mail.to) mail (left_after rows) there (ap (errand_by mail.from mail.to) body)) in
    let h = (subst (IsHinted scenario quiet rows) w.fact hinted) mail there tx coord hint body in
    (h.0, h.1)
