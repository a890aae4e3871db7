-- Questions go to nodes that have a replica of their group, after each delivery.
use Rattle.std.proofs.Common.{◌≡◌, ℕ, true, false, true≢false, List, [], ◌∷◌, ◌++◌, Some, None, ◌⊎◌, inl, inr, option_map, refl, sym, ◌∙◌, ap, subst}
use Rattle.std.proofs.lemmas.Bool.{cases_Bool, cond-false}
use Rattle.sc_base.specs.Definitions.{Among}
use Rattle.sc_node_table.specs.Values.{Draw, Seat, Deliver, Got, Base, Mail, Client, Node}
use Rattle.sc_actor.specs.Definitions.{value, row_of}
use Rattle.sc_node_table.specs.NodeDefinitions.{NodeState, group_of_mail, may_come, replica_of, routed, Place, ReplicaState, mailed}
use Rattle.sc_live_orderly.proofs.OrderlyLemmas.{last_in_time}
use Rattle.sc_scenario.specs.declared.scenario.scenarios.Scenario.{Scenario}
use Rattle.sc_meaning.specs.sound.SoundDefinitions.{Player, as_nodes, births, player_table}
use Rattle.sc_live_steps.specs.calm.CalmDefinitions.{Rows}
use Rattle.sc_live_steps.specs.orders.OrderDefinitions.{errand_by, errand_for, errands_for, Errand}
use Rattle.sc_live_journals.specs.rows.RowDefinitions.{view_at, with_event}
use Rattle.sc_live_journals.proofs.RowsProofs.RowLemmas.{view_was}
use Rattle.sc_live_journals.specs.scenes.SceneDefinitions.{AtAnother, AtLeader, FindsReplica, ComesTo, Led, Unled, left_after, IsTaking}
use Rattle.sc_live_journals.proofs.ScenesProofs.SceneLemmas.{row_of_comes, TakesOne, errands-append, left_row, takes_one, all_sent, calm_is}
use Rattle.sc_live_answers.specs.AnswerDefinitions.{ContinuesSince}
use Rattle.sc_live_answers.proofs.ErrandsProofs.QuestionTargets.{no_append, skip_middle}
use Rattle.sc_live_answers.proofs.ErrandsProofs.AskedNodes.{IsSending, leader_sends}
use Rattle.sc_paxos_law.proofs.Lemmas.{Among-either}

module _ (words : ℕ → ℕ → ℕ × ℕ) (scenario : Scenario) (first : Base) (journal quiet rows : Rows) (seat : Seat Player) (number : ℕ) (stage : Rattle.sc_live_steps.specs.orders.Stages.Stage) (g : ContinuesSince words scenario first journal quiet rows seat number stage) where
  abbrev all : List (Seat Player)
  all = births as_nodes scenario

  abbrev pub sent_now : List Mail
  sent_now = (row_of player_table seat rows (Deliver number)).sent

  pub one : TakesOne words (births as_nodes scenario) rows seat.who number
  one = takes_one words all rows seat.who number (calm_is words all rows seat (Deliver number) (last_in_time (Rattle.sc_live_steps.specs.calm.ChartedPotential.players words all) rows (row_of player_table seat rows (Deliver number)) g.goes.timely).0)

  after_is : left_after (with_event rows seat (Deliver number)) ≡ (one.takes.before ++ one.takes.behind) ++ sent_now
  after_is = left_row words all rows (row_of player_table seat rows (Deliver number)) ∙ ap (λ l. l ++ sent_now) one.takes.has_is

  -- what is under way after it was so before, or is sent
  pub mail_was : (m : Mail) → Among m (left_after (with_event rows seat (Deliver number))) → Among m (left_after rows) ⊎ Among m sent_now
  mail_was m a = elim (Among-either m (one.takes.before ++ one.takes.behind) sent_now (subst (Among m) after_is a)) [
    | inl old ↦ inl (subst (Among m) (sym one.takes.had_is) (skip_middle m one.mail one.takes.before one.takes.behind old))
    | inr new ↦ inr new
  ]

  pub errands_are : (name : Draw) → errands_for name (left_after (with_event rows seat (Deliver number))) ≡ errands_for name (one.takes.before ++ one.takes.behind) ++ errands_for name sent_now
  errands_are name = ap (errands_for name) after_is ∙ errands-append name (one.takes.before ++ one.takes.behind) sent_now

  errands_were : (name : Draw) → errands_for name (left_after rows) ≡ errands_for name one.takes.before ++ (errand_for name (errand_by one.mail.from one.mail.to one.mail.body) ++ errands_for name one.takes.behind)
  errands_were name = ap (errands_for name) one.takes.had_is ∙ errands-append name one.takes.before (one.mail ∷ one.takes.behind)

  pub errand_was : (name : Draw) (e : Errand) → Among e (errands_for name (one.takes.before ++ one.takes.behind)) → Among e (errands_for name (left_after rows))
  errand_was name e a =
      let mine = errand_for name (errand_by one.mail.from one.mail.to one.mail.body) in
      subst (Among e) (sym (errands_were name)) (elim (Among-either e (errands_for name one.takes.before) (errands_for name one.takes.behind) (subst (Among e) (errands-append name one.takes.before one.takes.behind) a)) [
        | inl l ↦ Rattle.sc_live_steps.proofs.OrderStepsProofs.NamedValues.among-left e (errands_for name one.takes.before) (mine ++ errands_for name one.takes.behind) l
        | inr r ↦ Rattle.sc_live_steps.proofs.OrderStepsProofs.NamedValues.among-right e (errands_for name one.takes.before) (mine ++ errands_for name one.takes.behind) (Rattle.sc_live_steps.proofs.OrderStepsProofs.NamedValues.among-right e mine (errands_for name one.takes.behind) r)
      ])

  -- an errand that is gone was that of the mail
  pub gone_is : (name : Draw) (e : Errand) → errands_for name (left_after rows) ≡ e ∷ [] → errands_for name (one.takes.before ++ one.takes.behind) ≡ [] → errand_for name (errand_by one.mail.from one.mail.to one.mail.body) ≡ e ∷ []
  gone_is name e was none =
      let parts = no_append (errands_for name one.takes.before) (errands_for name one.takes.behind) (sym (errands-append name one.takes.before one.takes.behind) ∙ none) in
      let mine = errand_for name (errand_by one.mail.from one.mail.to one.mail.body) in
      sym (Rattle.std.proofs.Common.append-nil mine) ∙ (ap (λ l. mine ++ l) (sym parts.1) ∙ (ap (λ l. l ++ (mine ++ errands_for name one.takes.behind)) (sym parts.0) ∙ (sym (errands_were name) ∙ was)))

  -- what a leader at the node sends, where the mail is of its group
  module _ (name : Draw) (r : ReplicaState) (has : view_at (births as_nodes scenario) rows name seat.who ≡ Some r) (runs : r.running ≡ true) (named : group_of_mail one.mail.body ≡ Some name) where
    pub data Sends : Type 0 where
      Nothing : sent_now ≡ [] → Sends
      Sending : (place : Place) → IsSending one.mail r place → sent_now ≡ place.1 → Sends

    none_some : {X : Type 0} {x : X} → None ≡ Some x → ⊥
    none_some e = cc

    module _ (node : NodeState) (fact : value player_table seat rows ≡ Node node) where
      found : replica_of name node.replicas ≡ Some r
      found = sym (view_was all rows seat (Deliver number) name g.goes.seated (Node node) fact) ∙ has

      barred : may_come one.mail.from one.mail.body ≡ false → Sends
      barred f =
          let response = ap (λ (x : NodeState × List Mail). (Node x.0, x.1)) (cond-false (may_come one.mail.from one.mail.body) (routed (group_of_mail one.mail.body) one.mail.from one.mail.body node) (node, []) f) in
          Nothing (all_sent all rows seat (Deliver number) node g.goes.seated fact (node, []) (Some (Got one.mail)) (ap (option_map Got) one.sent) response)

      comes : may_come one.mail.from one.mail.body ≡ true → Sends
      comes t =
          let taking : IsTaking words all rows seat number one.mail name node = record { seated = g.goes.seated; timely = g.goes.timely; is_node = fact; me_is = g.finds.me_is node fact; sent = one.sent; comes = t; named = named } in
          let f = g.finds.here number one.mail name node r refl taking found in
          let c : ComesTo words all rows seat number one.mail name r = record { node = node; taking = taking; here = found; children = f.0 } in
          by c f.1
        where
          by : (c : ComesTo words (births as_nodes scenario) rows seat number one.mail name r) → FindsReplica (births as_nodes scenario) rows seat number one.mail name r → Sends
          by c (AtLeader leads f) =
              Sending (mailed one.mail.from one.mail.body (r, [])).0 (leader_sends words all rows seat number one.mail name r (record { comes = c; leads = leads }) (stage, g.untouched.stands) f) (row_of_comes words all rows seat number one.mail name r c).1.sends
          by c (AtAnother (Led n lead leads ne off) f) = absurd (ne (sym (leads.alone seat.who r has runs)))
          by c (AtAnother (Unled u) f) = absurd (true≢false (sym runs ∙ u.none seat.who r has))

      at_node : Sends
      at_node = elim (cases_Bool (may_come one.mail.from one.mail.body)) [ inl t ↦ comes t | inr f ↦ barred f ]

    by_player : (player : Player) → value player_table seat rows ≡ player → Sends
    by_player (Client client) fact = absurd (none_some (sym (view_was all rows seat (Deliver number) name g.goes.seated (Client client) fact) ∙ has))
    by_player (Node node) fact = at_node node fact

    pub leader_row : Sends
    leader_row = by_player (value player_table seat rows) refl
