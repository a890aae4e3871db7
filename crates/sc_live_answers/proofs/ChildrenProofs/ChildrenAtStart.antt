-- Once an order is given in quiet nothing is there that was nowhere, and no group knows the child that the order may make.
use Rattle.std.proofs.Common.{◌≡◌, ℕ, eqb, true≢false, List, [], Option, Some, None, inl, inr, refl, sym, ◌∙◌, ap, subst}
use Rattle.std.proofs.lemmas.Bool.{cases_Bool, eq-eqb, eqb-true}
use Rattle.sc_base.specs.Definitions.{Drawer, next_name}
use Rattle.sc_node_table.specs.Values.{Draw, OrderLine, OrderRefusal, Mail, Node, Client, Seat, Go}
use Rattle.sc_actor.specs.declared.rows.Event.TheVariants.{Told}
use Rattle.sc_actor.specs.declared.rows.Input.TheVariants.{Told as ToldInput}
use Rattle.sc_actor.specs.Definitions.{value, row_of}
use Rattle.sc_live_orderly.specs.OrderlyDefinitions.{AreInTime}
use Rattle.sc_scenario.specs.declared.scenario.scenarios.Scenario.{Scenario}
use Rattle.sc_node_table.specs.NodeDefinitions.{NodeState, replica_of, group_of_order, ordered_of, ordered_command, untaken, queued_or_refused, ordered_row, with_order_queued, ReplicaState, next}
use Rattle.sc_meaning.specs.sound.SoundDefinitions.{Player, player_table, births, as_nodes}
use Rattle.sc_live_steps.specs.calm.CalmDefinitions.{players, Rows}
use Rattle.sc_live_steps.proofs.CalmStepsProofs.CalmStepLemmas.{put_others}
use Rattle.sc_live_steps.proofs.OrderStepsProofs.OrderStepLemmas.{cases-draw}
use Rattle.sc_live_journals.specs.rows.RowDefinitions.{view_at, IsSeat, with_event}
use Rattle.sc_live_journals.proofs.RowsProofs.RowLemmas.{names_stay, found_name, rows_replicas, view_others, view_was, none_some}
use Rattle.sc_live_journals.proofs.ScenesProofs.SceneLemmas.{client_leaves, now_is}
use Rattle.sc_live_answers.specs.AnswerDefinitions.{Task, IsTaskOf, AreCreatedByOrder}
use Rattle.sc_live_answers.proofs.ChildrenProofs.KnownChildren.{HasCreated}
use Rattle.sc_live_answers.proofs.LedMailProofs.MailEntries.{At}
use Rattle.sc_live_answers.proofs.ReplicasProofs.Parts.{pumps}
use Rattle.std.proofs.lemmas.Option.{same_Some}

-- an order that is given leaves the group
ordered_same : (drawer : Drawer) (line : OrderLine) (r : ReplicaState) → (ordered_row drawer line (r, [])).0.group ≡ r.group
unfolding ordered_row
ordered_same drawer line r = by (untaken drawer line r)
  where
    by : (o : Option OrderRefusal) → (queued_or_refused o line.number (ordered_command (next_name drawer) line.number line.order) (r, [])).0.group ≡ r.group
    by (Some why) = refl
    by None = (pumps (At r.group r.me (next r)) (λ x acceptor hint top running leader ready acts backlog waits q. q) (with_order_queued (ordered_command (next_name drawer) line.number line.order) r, []) (refl, refl, refl)).0

module _ (words : ℕ → ℕ → ℕ × ℕ) (all : List (Seat Player)) (quiet : Rows) (seat : Seat Player) (line : OrderLine) (seated : IsSeat all seat) (timely : AreInTime (players words all) (with_event quiet seat (Told line))) where
  -- a replica was there before, with its group
  abbrev Was : Draw → ℕ → ReplicaState → Type 0
  Was name who x = (y : ReplicaState) × (view_at all quiet name who ≡ Some y) × (x.group ≡ y.group)

  module _ (node : NodeState) (fact : value player_table seat quiet ≡ Node node) where
    now : (name : Draw) (o : Option ReplicaState) → replica_of (group_of_order line.order) node.replicas ≡ o → view_at all (with_event quiet seat (Told line)) name seat.who ≡ replica_of name (ordered_of o line node).0.replicas
    now name o here = now_is all quiet seat (Told line) node seated fact (ordered_of o line node) (Some (ToldInput line)) refl (ap (λ (s : NodeState × List Mail). (Node s.0, s.1)) (ap (λ x. ordered_of x line node) here)) name

    before : (name : Draw) → view_at all quiet name seat.who ≡ replica_of name node.replicas
    before name = view_was all quiet seat Go name seated (Node node) fact

    node_was : (name : Draw) (x : ReplicaState) → view_at all (with_event quiet seat (Told line)) name seat.who ≡ Some x → (o : Option ReplicaState) → replica_of (group_of_order line.order) node.replicas ≡ o → Was name seat.who x
    node_was name x v None here = (x, before name ∙ (sym (now name None here) ∙ v), refl)
    node_was name x v (Some r) here = elim (cases-draw name (group_of_order line.order)) [
      | inl i ↦ (
        r,
        before name ∙ (ap (λ n. replica_of n node.replicas) i ∙ here),
        ap (λ (y : ReplicaState). y.group) (same_Some x (ordered_row node.draws line (r, [])).0 (sym v ∙ (ap (λ n. view_at all (with_event quiet seat (Told line)) n seat.who) i ∙ (rows_replicas.ordered all quiet seat line node r seated fact here).fact)))
            ∙ ordered_same node.draws line r,
      )
      | inr ne ↦ (
        x,
        before name ∙ (sym (put_others (group_of_order line.order) name (ordered_row node.draws line (r, [])).0 node.replicas (names_stay.ordered node.draws line r ∙ found_name (group_of_order line.order) node.replicas r here) ne) ∙ (sym (now name (Some r) here) ∙ v)),
        refl,
      )
    ]

  own_was : (name : Draw) (x : ReplicaState) → view_at all (with_event quiet seat (Told line)) name seat.who ≡ Some x → (player : Player) → value player_table seat quiet ≡ player → Was name seat.who x
  own_was name x v (Client client) fact = (x, sym (client_leaves words all quiet seat (Told line) seated timely client fact name (ToldInput line) refl refl).view ∙ v, refl)
  own_was name x v (Node node) fact = node_was node fact name x v (replica_of (group_of_order line.order) node.replicas) refl

  was : (name : Draw) (who : ℕ) (x : ReplicaState) → view_at all (with_event quiet seat (Told line)) name who ≡ Some x → Was name who x
  was name who x v = elim (cases_Bool (eqb who seat.who)) [
    | inl t ↦ (let i = eqb-true who seat.who t in subst (λ n. Was name n x) (sym i) (own_was name x (ap (view_at all (with_event quiet seat (Told line)) name) (sym i) ∙ v) (value player_table seat quiet) refl))
    | inr f ↦ (x, sym (view_others all quiet (row_of player_table seat quiet (Told line)) name who (λ e. true≢false (sym (eq-eqb who seat.who e) ∙ f))) ∙ v, refl)
  ]

pub created_first : (words : ℕ → ℕ → ℕ × ℕ) (scenario : Scenario) (journal quiet : Rows) (seat : Seat Player) (line : OrderLine) (task : Task) → IsSeat (births as_nodes scenario) seat
    → AreInTime (players words (births as_nodes scenario)) (with_event quiet seat (Told line)) → IsTaskOf (births as_nodes scenario) quiet line task → AreCreatedByOrder scenario journal quiet (with_event quiet seat (Told line)) task
created_first words scenario journal quiet seat line task seated timely of = record {
  only = λ base fact nowhere there. (let y = was words (births as_nodes scenario) quiet seat line seated timely base.core.id there.0 there.1 there.2 in absurd (none_some (sym (nowhere there.0) ∙ y.1)));
  known = λ on base fact id who x v. (let y = was words (births as_nodes scenario) quiet seat line seated timely task.name who x v in absurd (none_some (sym (of.new on who) ∙ y.1)));
  kept = λ on base fact id who r member v knows.
      (let y = was words (births as_nodes scenario) quiet seat line seated timely task.group who r v in
      absurd (true≢false (sym (subst (λ g. HasCreated task.name g.core.born) y.2 knows) ∙ of.unknown on task.group who y.0 y.1)));
}
