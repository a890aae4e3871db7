-- An order that is given is held by its group, or its refusal is reported.
use Rattle.std.proofs.Common.{◌≡◌, ◌⊎◌, ℕ, ◌≤◌, ◌&&◌, nat_le, eqb, cond, true, List, [], ◌∷◌, ◌++◌, Option, Some, None, inl, inr, refl, sym, ◌∙◌, ap, subst, arith}
use Rattle.std.specs.Prelude.{is_some}
use Rattle.std.proofs.lemmas.Bool.{and_parts, leb-true, lt-ltb}
use Rattle.sc_base.specs.Definitions.{Among}
use Rattle.sc_group_table.specs.policy.PolicyDefinitions.{is_reported}
use Rattle.sc_node_table.specs.Values.{Draw, Command, OrderLine, OrderRefusal, Refused, Mail, Node, Client, Seat, Go, Input, Row, Report}
use Rattle.sc_words.specs.declared.commands.orders.OrderRefusal.TheVariants.{NotLeader}
use Rattle.sc_actor.specs.declared.rows.Event.TheVariants.{Told}
use Rattle.sc_actor.specs.declared.rows.Input.TheVariants.{Told as ToldInput}
use Rattle.sc_actor.specs.Definitions.{mails, value, acted, input_of, replay, row_of}
use Rattle.sc_actor.proofs.Lemmas.{mails-snoc}
use Rattle.sc_paxos_law.proofs.Lemmas.{Among-either, Among-left, Among-right}
use Rattle.sc_words.proofs.PaxosProofs.PaxosLemmas.{Each-among}
use Rattle.sc_words.specs.paxos.PaxosDefinitions.{must_without, names_above, chosen_value}
use Rattle.sc_live_orderly.specs.OrderlyDefinitions.{GivesAllowedOrder}
use Rattle.sc_law_walks.proofs.WalkLemmas.{either_way}
use Rattle.sc_scenario.specs.declared.scenario.scenarios.Scenario.{Scenario}
use Rattle.sc_node_table.specs.NodeDefinitions.{NodeState, result_sent, replica_of, group_of_order, ordered_of, untaken, ordered_row, ReplicaState, Place, next, last_slot, settled, may_offer, first_set}
use Rattle.sc_meaning.specs.sound.SoundDefinitions.{Player, player_table, node_seat, births, as_nodes}
use Rattle.sc_live_steps.specs.calm.CalmDefinitions.{IsAtRest, Rows}
use Rattle.sc_live_steps.specs.orders.OrderDefinitions.{Asking, Unbound, Here, Stage, Still, Recorded, IsAt, MayFile}
use Rattle.sc_live_steps.proofs.OrderStepsProofs.OrderStepLemmas.{tables-order}
use Rattle.sc_live_journals.specs.rows.RowDefinitions.{view_at, IsSeat, with_event, IsReplicasRow}
use Rattle.sc_live_journals.proofs.RowsProofs.RowLemmas.{rows_replicas, view_was}
use Rattle.sc_live_journals.specs.scenes.SceneDefinitions.{LeadsAlone, StageAfter, scene_at}
use Rattle.sc_live_journals.proofs.ScenesProofs.SceneLemmas.{all_sent, tell}
use Rattle.sc_live_answers.specs.AnswerDefinitions.{IsCalmJournal, IsPrefixOf, IsGiven, IsTold, IsRefusalSent, IsReported, Waits, IsOrderHeld}
use Rattle.sc_live_answers.specs.GivenOrders.{may_be_given, names_nodes}
use Rattle.sc_live_answers.proofs.ErrandsProofs.ErrandReceivers.{node_seated}
use Rattle.sc_live_answers.proofs.OrdersProofs.OrderCommands.{settled_by}
use Rattle.sc_live_answers.proofs.ErrandsProofs.QuestionedGroups.{rests_idle}
use Rattle.sc_live_answers.proofs.VotesProofs.ReportedMail.{told_behind, desk_reports}
use Rattle.sc_live_answers.proofs.OrdersProofs.OrderFactsAtStart.{begun_so, still_unbound, ordered_unbound}
use Rattle.sc_words.specs.declared.commands.orders.OrderResult.TheVariants.{Aborted}
use Rattle.sc_law_walks.proofs.WalkLemmas.{order_refused}

-- ---- the orders that rows give

-- one more row gives an order, or the rows before it do
pub given_rows : (rows : Rows) (row : Row Mail OrderLine) (line : OrderLine) → IsGiven (rows ++ row ∷ []) line → IsGiven rows line ⊎ (row.event ≡ Told line)
given_rows rows row line g = elim (Among-either g.row rows (row ∷ []) g.among) [
  | inl a ↦ inl (record { row = g.row; among = a; gives = g.gives })
  | inr a ↦ elim a [
    | inl e ↦ inr (ap (λ (r : Row Mail OrderLine). r.event) e ∙ g.gives)
    | inr none ↦ absurd none
  ]
]

-- an order that a calm journal gives is one for a node of the scenario, and its number is no policy's
pub given_allowed : (words : ℕ → ℕ → ℕ × ℕ) (scenario : Scenario) (journal rows : Rows) (row : Row Mail OrderLine) (line : OrderLine) → IsCalmJournal words scenario journal → IsPrefixOf journal (rows ++ row ∷ []) → row.event ≡ Told line
    → ((1 ≤ row.who) × (row.who ≤ scenario.nodes)) × (is_reported line.number ≡ true)
given_allowed words scenario journal rows row line calm prefix e =
    let among : Among row journal = subst (Among row) (sym prefix.fact) (Among-left row (rows ++ row ∷ []) prefix.more (Among-right row rows (row ∷ []) (inl refl))) in
    let given : may_be_given scenario row.who line ≡ true = subst (GivesAllowedOrder (may_be_given scenario) row.who) e (Each-among (λ (r : Row Mail OrderLine). GivesAllowedOrder (may_be_given scenario) r.who r.event) journal row calm.given among) in
    let parts = and_parts (nat_le 1 row.who && nat_le row.who scenario.nodes) (names_nodes scenario.nodes line.order && nat_le 1 line.number) given in
    let node = and_parts (nat_le 1 row.who) (nat_le row.who scenario.nodes) parts.0 in
    let number = and_parts (names_nodes scenario.nodes line.order) (nat_le 1 line.number) parts.1 in
    ((leb-true 1 row.who node.0, leb-true row.who scenario.nodes node.1), told_by line.number (leb-true 1 line.number number.1))
  where
    told_by : (n : ℕ) → 1 ≤ n → is_reported n ≡ true
    told_by n low = lt-ltb 0 n (omega (arith, low))

-- a coordinator has no vote to record where an order is given
pub refusal_at_start : (births : List (Seat Player)) (rows : Rows) (seat : Seat Player) (line : OrderLine) → StageAfter births rows seat (Told line) Still → (stage : Stage) → IsAt stage (scene_at births (with_event rows seat (Told line))) → (sent : List Mail) → IsRefusalSent sent stage
refusal_at_start births rows seat line found stage at sent = by stage at
  where
    unbound : (name : Draw) → ((scene_at births (with_event rows seat (Told line))).at name).bond ≡ Unbound
    unbound name = elim found.2 [
      | inl e ↦ still_unbound (scene_at births (with_event rows seat (Told line))) (subst (λ x. IsAt x (scene_at births (with_event rows seat (Told line)))) e found.1) name
      | inr g ↦ elim (begun_so g.group found.0 g.step) [
        | inl e ↦ still_unbound (scene_at births (with_event rows seat (Told line))) (subst (λ x. IsAt x (scene_at births (with_event rows seat (Told line)))) e found.1) name
        | inr o ↦ ordered_unbound (scene_at births (with_event rows seat (Told line))) g.group o.0 o.1 (subst (λ x. IsAt x (scene_at births (with_event rows seat (Told line)))) o.2 found.1) name
      ]
    ]

    by : (s : Stage) → IsAt s (scene_at births (with_event rows seat (Told line))) → IsRefusalSent sent s
    by (Recorded deal agreed host) a = absurd (let both : Asking deal.tx deal.asked deal.turn ≡ Unbound = sym (ap (λ (h : Here). h.bond) a.parties.0.0) ∙ unbound deal.coord in cc)
    by _ a = tt

-- ---- who is born as a node stays one

IsNodes : Player → Type 0
IsNodes (Node node) = Unit {0}
IsNodes (Client client) = ⊥

acted_node : (player : Player) (o : Option (Input Mail OrderLine)) → IsNodes player → IsNodes (acted player_table player o).0
unfolding IsNodes
acted_node (Node node) None k = tt
acted_node (Node node) (Some input) k = tt
acted_node (Client client) o k = absurd k

replay_node : (who : ℕ) (rows : Rows) (player : Player) (sent : List Mail) → IsNodes player → IsNodes (replay player_table who player sent rows)
replay_node who [] player sent k = k
replay_node who (row ∷ rows) player sent k =
    replay_node who rows (cond (eqb row.who who) (acted player_table player (input_of sent row.event)).0 player) (sent ++ row.sent)
    (either_way IsNodes (eqb row.who who) (acted player_table player (input_of sent row.event)).0 player (acted_node player (input_of sent row.event) k) k)

is_node : (player : Player) → IsNodes player → (node : NodeState) × (player ≡ Node node)
unfolding IsNodes
is_node (Node node) k = (node, refl)
is_node (Client client) k = absurd k

-- ---- the row of an order

module _ (words : ℕ → ℕ → ℕ × ℕ) (scenario : Scenario) (quiet : Rows) (seat : Seat Player) (line : OrderLine) (seated : IsSeat (births as_nodes scenario) seat) (home : (1 ≤ seat.who) × (seat.who ≤ scenario.nodes))
    (rests : (name : Draw) (who : ℕ) (r : ReplicaState) → view_at (births as_nodes scenario) quiet name who ≡ Some r → IsAtRest r × (r.running ≡ true → r.leader.reports ≡ []) × (next r ≤ last_slot))
    (alone : (name : Draw) (node : ℕ) (r : ReplicaState) → view_at (births as_nodes scenario) (with_event quiet seat (Told line)) name node ≡ Some r → r.running ≡ true → LeadsAlone (births as_nodes scenario) (with_event quiet seat (Told line)) name node r) where
  abbrev all : List (Seat Player)
  all = births as_nodes scenario

  abbrev then : Rows
  then = with_event quiet seat (Told line)

  abbrev Result : Type 0
  Result = IsReported (births as_nodes scenario) (with_event quiet seat (Told line)) line.number ⊎ IsOrderHeld (scene_at (births as_nodes scenario) (with_event quiet seat (Told line)))

  abbrev sent : List Mail
  sent = (row_of player_table seat quiet (Told line)).sent

  reports : (me : ℕ) (why : OrderRefusal) → sent ≡ result_sent me line.number (Refused why) [] → Result
  reports me why e =
      inl (record {
        result = Refused why;
        told = subst (λ ms. IsTold ms line.number (Refused why)) (sym (mails-snoc quiet (row_of player_table seat quiet (Told line))))
            (told_behind line.number (Refused why) (mails quiet) sent (subst (λ ms. IsTold ms line.number (Refused why)) (sym e) (desk_reports me line.number (Refused why) [])));
        cause = λ aborted. absurd (let both : Refused why ≡ Aborted = aborted in cc);
      })

  at_node : (node : NodeState) × (value player_table seat quiet ≡ Node node)
  unfolding IsNodes
  at_node =
      let found = node_seated scenario seat.who home in
      let same : seat ≡ node_seat as_nodes scenario.groups scenario.policy seat.who = (let both : Some seat ≡ Some (node_seat as_nodes scenario.groups scenario.policy seat.who) = sym seated ∙ found in cc) in
      is_node (value player_table seat quiet) (replay_node seat.who quiet seat.actor [] (subst IsNodes (sym (ap (λ (s : Seat Player). s.actor) same)) tt))

  module _ (node : NodeState) (fact : value player_table seat quiet ≡ Node node) where
    -- a node without a replica of the group refuses
    missed : replica_of (group_of_order line.order) node.replicas ≡ None → Result
    missed none =
        reports node.me (NotLeader None) (all_sent all quiet seat (Told line) node seated fact (ordered_of None line node) (Some (ToldInput line)) refl (ap (λ (x : NodeState × List Mail). (Node x.0, x.1)) (ap (λ o. ordered_of o line node) none)))

    module _ (r : ReplicaState) (here : replica_of (group_of_order line.order) node.replicas ≡ Some r) where
      row : IsReplicasRow all quiet seat (Told line) (group_of_order line.order) (Some r) (ordered_row node.draws line (r, []))
      row = rows_replicas.ordered all quiet seat line node r seated fact here

      abbrev rest : IsAtRest r × (r.running ≡ true → r.leader.reports ≡ []) × (next r ≤ last_slot)
      rest = rests (group_of_order line.order) seat.who r (view_was all quiet seat Go (group_of_order line.order) seated (Node node) fact ∙ here)

      -- one that takes it has its command as its one work
      taken : untaken node.draws line r ≡ None → Result
      taken e =
          let on : r.running ≡ true = (and_parts r.running (may_offer r (first_set r.sets)) (settled_by (is_some r.group.core.gone) (settled r) (NotLeader r.hint) _ e)).0 in
          let may : MayFile r = record { running = on; unbound = λ slot low. ap (λ (reports : List (Report Command)). must_without (names_above slot reports) (chosen_value slot reports)) (rest.1 on); idle = rests_idle r rest.0 } in
          let w = tables-order.taken node.draws line r may e in
          let after : Place = ordered_row node.draws line (r, []) in
          inr (group_of_order line.order, Waits w.0 w.1 ((tell.led all then (group_of_order line.order) seat.who after.0 (alone (group_of_order line.order) seat.who after.0 row.fact (w.3.running ∙ on))).1.1 ∙ w.3.work))

      by_untaken : (o : Option OrderRefusal) → untaken node.draws line r ≡ o → Result
      by_untaken (Some why) e = reports r.me why (row.sends_all ∙ ap (λ (p : Place). p.1) (order_refused node.draws line r why e))
      by_untaken None e = taken e

    by_replica : (o : Option ReplicaState) → replica_of (group_of_order line.order) node.replicas ≡ o → Result
    by_replica None here = missed here
    by_replica (Some r) here = by_untaken r here (untaken node.draws line r) refl

  pub held_at_start : Result
  held_at_start = by_replica at_node.0 at_node.1 (replica_of (group_of_order line.order) at_node.0.replicas) refl
