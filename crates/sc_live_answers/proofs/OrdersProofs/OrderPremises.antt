-- An order given in quiet finds what keeps the journal calm.
use Rattle.std.proofs.Common.{◌≡◌, ℕ, true, false, List, [], ◌++◌, length, Option, Some, None, inl, inr, refl, sym, ◌∙◌, ap, subst, arith}
use Rattle.std.specs.Prelude.{is_some, ◌||◌, ◌&&◌, not}
use Rattle.std.proofs.lemmas.Bool.{cases_Bool, cond-true, or_right}
use Rattle.std.proofs.lemmas.List.{take_all}
use Rattle.sc_node_table.specs.Values.{Draw, Base, OrderLine, OrderRefusal, Node, Client, Seat}
use Rattle.sc_base.specs.Definitions.{Drawer, next_name}
use Rattle.sc_words.specs.declared.commands.orders.OrderRefusal.TheVariants.{NotLeader}
use Rattle.sc_group_table.specs.machine.MachineDefinitions.{refusal_of, Group}
use Rattle.sc_actor.specs.declared.rows.Event.TheVariants.{Told}
use Rattle.sc_actor.specs.Definitions.{value}
use Rattle.sc_node_table.specs.NodeDefinitions.{NodeState, replica_of, group_of_order, first_of_both, named_refused, ordered_command, ordered_row, untaken, Place, ReplicaState, first_set, may_offer, settled}
use Rattle.sc_scenario.specs.declared.scenario.scenarios.Scenario.{Scenario}
use Rattle.sc_scenario.specs.scenario.Definitions.{ValidScenariosAreBounded}
use Rattle.sc_meaning.specs.sound.SoundDefinitions.{Player, player_table, births, as_nodes}
use Rattle.sc_live_steps.specs.calm.CalmDefinitions.{players, FindsCalm, MayBeOrdered, idle_owes, StandsOnce, IsCalmOrder, IsAtRest, Rows, led_elsewhere, is_led}
use Rattle.sc_live_journals.specs.rows.RowDefinitions.{replicas_of, replica_in, view_at, IsSeat}
use Rattle.sc_live_journals.specs.charts.ChartDefinitions.{names_at, chart_at, LedStandOnce}
use Rattle.sc_live_steps.specs.orders.OrderDefinitions.{works, works_in, works_flying, works_ready, TablesOrder}
use Rattle.sc_live_plain.specs.PlainDefinitions.{replicas_after}
use Rattle.sc_live_answers.specs.AnswerDefinitions.{AreAtNodes, IsCalmJournal, RestsAt, GivenOrdersFindCalm, ViewsAgree}
use Rattle.sc_live_answers.proofs.OrdersProofs.OrderDeliveries.{led_there, named_so, gone_leads}

-- one at rest has no work
pub no_works : (r : ReplicaState) → IsAtRest r → works r ≡ []
no_works r rest =
    ap (λ a. works_in a ++ (works_in r.backlog ++ (works_flying r.leader.flights ++ works_ready r.ready))) rest.acts
    ∙ (ap (λ c. works_in c ++ (works_flying r.leader.flights ++ works_ready r.ready)) rest.backlog
    ∙ (ap (λ f. works_flying f ++ works_ready r.ready) rest.flights ∙ ap works_ready rest.ready))

-- one that does not run refuses an order
stopped_refuses : (drawer : Drawer) (line : OrderLine) (r : ReplicaState) → r.running ≡ false → (why : OrderRefusal) × (untaken drawer line r ≡ Some why)
stopped_refuses drawer line r off =
    let unsettled : settled r ≡ false = ap (λ b. b && may_offer r (first_set r.sets)) off in (
      NotLeader r.hint,
      cond-true (is_some r.group.core.gone || not (settled r)) (Some (NotLeader r.hint)) (first_of_both (refusal_of r.group.core (ordered_command (next_name drawer) line.number line.order)) (named_refused drawer line.order r))
          (or_right (is_some r.group.core.gone) (not (settled r)) (ap not unsettled)),
    )

-- it stays in its group, and runs or not as it did
record StaysSo (r : ReplicaState) (after : Place) : Type 0 where
  group : after.0.group ≡ r.group
  running : after.0.running ≡ r.running

module _ (order : TablesOrder) (views : ViewsAgree) (led_once : LedStandOnce) (all_bounded : ValidScenariosAreBounded) (words : ℕ → ℕ → ℕ × ℕ) (scenario : Scenario) (first : Base) (journal quiet : Rows) (far sent : ℕ) (seat : Seat Player) (line : OrderLine)
    (calm : IsCalmJournal words scenario journal) (rests : RestsAt words scenario first journal quiet) (homes : AreAtNodes scenario quiet) (seated : IsSeat (births as_nodes scenario) seat) where
  abbrev all : List (Seat Player)
  all = births as_nodes scenario

  abbrev name : Draw
  name = group_of_order line.order

  agree : (group : Draw) (who : ℕ) → view_at all quiet group who ≡ replicas_after scenario quiet group who
  agree group who = views.nodes scenario quiet group who (all_bounded scenario calm.valid) homes

  module _ (node : NodeState) (fact : value player_table seat quiet ≡ Node node) (r : ReplicaState) (here : replica_of name node.replicas ≡ Some r) where
    view : view_at all quiet name seat.who ≡ Some r
    view = ap (replica_in name quiet) seated ∙ (ap (λ player. replica_of name (replicas_of player)) fact ∙ here)

    there : replicas_after scenario quiet name seat.who ≡ Some r
    there = sym (agree name seat.who) ∙ view

    led : is_led all quiet name ≡ true
    led = elim (rests.fact.quiet.groups name seat.who (r, there)) [
      | inl q ↦ led_there all quiet name q.lead.me q.lead (agree name q.lead.me ∙ q.newest.is_there) (ap (λ b. b || is_some q.lead.group.core.gone) q.leads.running)
      | inr g ↦ led_there all quiet name g.last.me g.last (agree name g.last.me ∙ g.newest.is_there) (gone_leads g.last.running g.last.group.core.gone g.into g.went)
    ]

    once : StandsOnce name (names_at all quiet)
    once = led_once all quiet (length quiet) name (omega arith) (subst (λ q. is_led all q name ≡ true) (sym (take_all (length quiet) quiet (omega arith))) led)

    stays : StaysSo r (ordered_row node.draws line (r, []))
    stays = by (untaken node.draws line r) refl
      where
        taken : r.running ≡ true → untaken node.draws line r ≡ None → StaysSo r (ordered_row node.draws line (r, []))
        taken runs none = (let w = (order.taken node.draws line r (record { running = runs; unbound = (rests.pumps name seat.who r there).unbound; idle = no_works r (rests.fact.quiet.at_rest name seat.who r there) }) none).3 in record { group = w.group; running = w.running })

        by : (o : Option OrderRefusal) → untaken node.draws line r ≡ o → StaysSo r (ordered_row node.draws line (r, []))
        by (Some why) e = (let w = order.refused node.draws line why r e in record { group = w.group; running = w.running })
        by None e = elim (cases_Bool r.running) [
          | inl runs ↦ taken runs e
          | inr off ↦ (let why = stopped_refuses node.draws line r off in let bad : Some why.0 ≡ None = sym why.1 ∙ e in cc)
        ]

    order_so : IsCalmOrder (led_elsewhere all quiet seat.who) line r node
    order_so = record {
      found = here;
      pumps = rests.pumps name seat.who r there;
      same = ap (λ (g : Group). g.core.id) stays.group ∙ named_so all quiet name seat.who r view;
      alone = λ elsewhere. (
          let one = ap (λ b. idle_owes b (ordered_row node.draws line (r, [])).0.group.core.gone) stays.running in
          let two = ap (λ (g : Group). idle_owes r.running g.core.gone) stays.group in
          omega (arith, one, two));
    }

  told : FindsCalm (chart_at far sent (players words (births as_nodes scenario)) quiet) (births as_nodes scenario) quiet seat (Told line)
  told = by (value player_table seat quiet) refl
    where
      by : (player : Player) → value player_table seat quiet ≡ player → MayBeOrdered (chart_at far sent (players words (births as_nodes scenario)) quiet) (led_elsewhere all quiet seat.who) line player
      by (Client client) fact = tt
      by (Node node) fact = of (replica_of name node.replicas) refl
        where
          of : (o : Option ReplicaState) → replica_of name node.replicas ≡ o → MayBeOrdered (chart_at far sent (players words (births as_nodes scenario)) quiet) (led_elsewhere all quiet seat.who) line (Node node)
          of None e = inl e
          of (Some r) e = inr (r, once node fact r e, order_so node fact r e)

pub given_orders_find : TablesOrder → ViewsAgree → LedStandOnce → ValidScenariosAreBounded → GivenOrdersFindCalm
given_orders_find = told
