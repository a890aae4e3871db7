-- Which groups go is known once an order is given in a quiet prefix: none did.
use Rattle.std.proofs.Common.{◌≡◌, ◌⊎◌, ℕ, eqb, true≢false, List, [], Option, Some, None, is_some, inl, inr, refl, sym, ◌∙◌, ap, arith}
use Rattle.std.proofs.lemmas.Bool.{cases_Bool, eq-eqb, eqb-true}
use Rattle.std.proofs.lemmas.Option.{none-some, same_Some}
use Rattle.sc_base.specs.Definitions.{Each}
use Rattle.sc_node_table.specs.Values.{Draw, Seat, Base, Route, OrderLine, OrderRefusal, Node, Client}
use Rattle.sc_actor.specs.declared.rows.Event.TheVariants.{Told}
use Rattle.sc_actor.specs.declared.rows.Input.TheVariants.{Told as ToldInput}
use Rattle.sc_actor.specs.Definitions.{value, row_of}
use Rattle.sc_client_table.specs.table.TableDefinitions.{Client as ClientState}
use Rattle.sc_group_table.specs.machine.MachineDefinitions.{Group}
use Rattle.sc_node_table.specs.NodeDefinitions.{NodeState, group_of_order, on_order, ordered_of, replica_of, ordered_row, untaken, ReplicaState, born_replica, listed, next, slots_ahead}
use Rattle.sc_scenario.specs.declared.scenario.scenarios.Scenario.{Scenario}
use Rattle.sc_meaning.specs.sound.SoundDefinitions.{Player, as_nodes, births, player_table}
use Rattle.sc_live_steps.specs.calm.CalmDefinitions.{Rows}
use Rattle.sc_live_journals.specs.logs.LogDefinitions.{IsGroupOf}
use Rattle.sc_live_journals.proofs.LogsProofs.GroupLogLemmas.{views_are_replicas}
use Rattle.sc_live_steps.specs.orders.OrderDefinitions.{works, Here, Scene, Asks, Closes, ClosesBoth, IsAt, Ordered, Recorded, Replied, SentOn, Stage, Still, Weighs}
use Rattle.sc_live_steps.proofs.OrderStepsProofs.OrderStepLemmas.{cases-draw, tables-order}
use Rattle.sc_live_journals.specs.rows.RowDefinitions.{view_at, with_event}
use Rattle.sc_live_journals.proofs.RowsProofs.RowLemmas.{view_is, view_others}
use Rattle.sc_live_journals.specs.scenes.SceneDefinitions.{ByAnother, ByLeader, FindsQuiet, IsGivenInQuiet, scene_at, IsOfGroup, IsTablesRow, LeavesOrMakes}
use Rattle.sc_live_journals.proofs.ScenesProofs.SceneLemmas.{now_is, rows_taken, was_is}
use Rattle.sc_live_answers.specs.AnswerDefinitions.{EndingGroupsBegin, HasBegun, IsGoingSince, WasGone, IsCalmJournal, IsPrefixOf, PrefixesAreFound, EndsAreLogged, tx_of, RestsAt, AreSeen}
use Rattle.sc_live_answers.proofs.LedGroupsProofs.GuidedGroups.{named_there}
use Rattle.sc_live_answers.proofs.ErrandsProofs.QuestionedGroups.{rests_idle}
use Rattle.sc_live_answers.proofs.OrdersProofs.OrderFactsAtStart.{no_deal, no_party}

-- the transaction of a stage, if it has one
the_tx : (o : Option Draw) → (tx : Draw) × Each (λ other. other ≡ tx) (listed o)
the_tx None = (record { node = 0; count = 0 }, tt)
the_tx (Some tx) = (tx, (refl, tt))

module _ (found_law : PrefixesAreFound) (ends_law : EndsAreLogged) (words : ℕ → ℕ → ℕ × ℕ) (scenario : Scenario) (first : Base) (journal quiet : Rows) (seat : Seat Player) (line : OrderLine) (calm : IsCalmJournal words scenario journal) (rests : RestsAt words scenario first journal quiet)
    (seen : AreSeen scenario quiet) (t : IsGivenInQuiet words (births as_nodes scenario) quiet seat line) (prefix : IsPrefixOf journal (with_event quiet seat (Told line))) where
  abbrev all : List (Seat Player)
  all = births as_nodes scenario

  abbrev then : Rows
  then = with_event quiet seat (Told line)

  abbrev after : Scene
  after = scene_at all then

  -- ---- no transaction has begun

  none_begun : (stage : Stage) → IsAt stage after → HasBegun stage → ⊥
  none_begun Still a h = h
  none_begun (Ordered group chief work) a h = h
  none_begun (Asks deal to) a h = no_deal words all quiet seat line t deal.coord deal.tx deal.asked deal.turn (ap (λ (x : Here). x.bond) a.parties.0.0)
  none_begun (SentOn deal) a h = no_deal words all quiet seat line t deal.coord deal.tx deal.asked deal.turn (ap (λ (x : Here). x.bond) a.parties.0.0)
  none_begun (Weighs deal host) a h = no_deal words all quiet seat line t deal.coord deal.tx deal.asked deal.turn (ap (λ (x : Here). x.bond) a.parties.0.0)
  none_begun (Replied deal agreed host) a h = no_deal words all quiet seat line t deal.coord deal.tx deal.asked deal.turn (ap (λ (x : Here). x.bond) a.parties.0.0)
  none_begun (Recorded deal agreed host) a h = no_deal words all quiet seat line t deal.coord deal.tx deal.asked deal.turn (ap (λ (x : Here). x.bond) a.parties.0.0)
  none_begun (Closes tx party) a h = no_party words all quiet seat line t party.group tx party.leg party.host a.parties.0.0
  none_begun (ClosesBoth tx one two) a h = no_party words all quiet seat line t one.group tx one.leg one.host a.parties.0.0

  -- ---- a replica after the row has the group of one before it, or is new

  module _ (name : Draw) (r : ReplicaState) where
    abbrev Kept : Type 0
    Kept = ((x : ReplicaState) × (view_at (births as_nodes scenario) quiet name seat.who ≡ Some x) × (r.group ≡ x.group)) ⊎ ((base : Base) × (r ≡ born_replica slots_ahead seat.who base))

    module _ (has : view_at (births as_nodes scenario) (with_event quiet seat (Told line)) name seat.who ≡ Some r) where
      as_was : view_at (births as_nodes scenario) (with_event quiet seat (Told line)) name seat.who ≡ view_at (births as_nodes scenario) quiet name seat.who → Kept
      as_was e = inl (r, sym e ∙ has, refl)

      of_client : (client : ClientState) → value player_table seat quiet ≡ Client client → Kept
      of_client client fact = absurd (none-some r (sym (view_is all quiet seat (Told line) name t.seated (Client client) fact (Some (ToldInput line)) refl) ∙ has))

      module _ (node : NodeState) (fact : value player_table seat quiet ≡ Node node) where
        refused : replica_of (group_of_order line.order) node.replicas ≡ None → Kept
        refused none =
            let e : on_order line node ≡ ordered_of None line node = ap (λ o. ordered_of o line node) none in
            as_was (now_is all quiet seat (Told line) node t.seated fact (ordered_of None line node) (Some (ToldInput line)) refl (ap (λ (x : _). (Node x.0, x.1)) e) name
            ∙ sym (was_is all quiet seat (Told line) node t.seated fact (ordered_of None line node) (Some (ToldInput line)) refl (ap (λ (x : _). (Node x.0, x.1)) e) name))

        module _ (x : ReplicaState) (found_x : replica_of (group_of_order line.order) node.replicas ≡ Some x) where
          rows_of : IsOfGroup words (births as_nodes scenario) quiet seat (Told line) (group_of_order line.order) × IsTablesRow (births as_nodes scenario) quiet seat (Told line) (group_of_order line.order) x (ordered_row node.draws line (x, []))
          rows_of = rows_taken.ordered words all quiet seat line node x t.seated t.timely fact found_x

          idle : works x ≡ []
          idle = rests_idle x (rests.fact.quiet.at_rest (group_of_order line.order) seat.who x (sym (seen (group_of_order line.order) seat.who) ∙ rows_of.1.was))

          other : LeavesOrMakes (births as_nodes scenario) quiet seat (Told line) name → Kept
          other (inl e) = as_was e
          other (inr b) = inr (b.base, same_Some r (born_replica slots_ahead seat.who b.base) (sym has ∙ b.makes))

          -- an order that is taken, or refused, executes nothing
          same_group : FindsQuiet words (births as_nodes scenario) quiet seat line node x → (ordered_row node.draws line (x, [])).0.group ≡ x.group
          same_group (ByAnother why beside not) = (tables-order.refused node.draws line why x not).group
          same_group (ByLeader leads unbound_ goes nothing) = by (untaken node.draws line x) refl
            where
              by : (o : Option OrderRefusal) → untaken node.draws line x ≡ o → (ordered_row node.draws line (x, [])).0.group ≡ x.group
              by (Some why) e = (tables-order.refused node.draws line why x e).group
              by None e = (tables-order.taken node.draws line x (record { running = leads.running; unbound = unbound_; idle = idle }) e).3.group

          own : group_of_order line.order ≡ name → Kept
          own e =
              let now : (ordered_row node.draws line (x, [])).0 ≡ r = same_Some (ordered_row node.draws line (x, [])).0 r (sym rows_of.1.fact ∙ (ap (λ n. view_at all then n seat.who) e ∙ has)) in
              inl (x, ap (λ n. view_at all quiet n seat.who) (sym e) ∙ rows_of.1.was, ap (λ (y : ReplicaState). y.group) (sym now) ∙ same_group (t.finds.told line node x refl (record { seated = t.seated; timely = t.timely; is_node = fact; here = found_x })))

          taken : Kept
          taken = elim (cases-draw (group_of_order line.order) name) [
            | inl e ↦ own e
            | inr ne ↦ other (rows_of.0.others name (λ e. ne (sym e)))
          ]

        by_replica : (o : Option ReplicaState) → replica_of (group_of_order line.order) node.replicas ≡ o → Kept
        by_replica None e = refused e
        by_replica (Some x) e = taken x e

      by_player : (player : Player) → value player_table seat quiet ≡ player → Kept
      by_player (Client client) fact = of_client client fact
      by_player (Node node) fact = by_replica node fact (replica_of (group_of_order line.order) node.replicas) refl

  -- ---- who is gone

  -- one that is new is not
  new_stands : (name : Draw) (node : ℕ) (r : ReplicaState) (into : Route) → view_at (births as_nodes scenario) (with_event quiet seat (Told line)) name node ≡ Some r → (base : Base) → r ≡ born_replica slots_ahead seat.who base → r.group.core.gone ≡ Some into → ⊥
  new_stands name node r into has born new gone =
      let named = named_there found_law words scenario journal then calm prefix name (node, r, has) in
      let group : IsGroupOf as_nodes words scenario journal named.0 = record { open_slots = refl; valid = calm.valid; lawful = calm.lawful; stands = named.1 } in
      let v = views_are_replicas as_nodes words scenario journal named.0 group then prefix.more prefix.fact node r (ap (λ n. view_at all then n node) named.2 ∙ has) in
      let slot : next r ≡ 1 = ap next new in
      let low = ends_law.begins as_nodes words scenario journal named.0 group (next r) (omega (arith, slot)) in
      true≢false (sym (ap is_some gone) ∙ (ends_law.replicas as_nodes words scenario journal named.0 group then v.0 v.1 r v.2 ∙ low))

  was_gone : (name : Draw) (node : ℕ) (r : ReplicaState) (into : Route) → view_at (births as_nodes scenario) quiet name node ≡ Some r → r.group.core.gone ≡ Some into → WasGone scenario quiet name
  was_gone name node r into e gone = record { who = node; replica = r; into = into; was = sym (seen name node) ∙ e; gone = gone }

  went : (name : Draw) (node : ℕ) (r : ReplicaState) (into : Route) → view_at (births as_nodes scenario) (with_event quiet seat (Told line)) name node ≡ Some r → r.group.core.gone ≡ Some into → WasGone scenario quiet name
  went name node r into has gone = elim (cases_Bool (eqb node seat.who)) [
    | inl e ↦ (
        let here : view_at all then name seat.who ≡ Some r = ap (view_at all then name) (sym (eqb-true node seat.who e)) ∙ has in
        elim (by_player name r here (value player_table seat quiet) refl) [
          | inl k ↦ was_gone name seat.who k.0 into k.1 (ap (λ (x : Group). x.core.gone) (sym k.2) ∙ gone)
          | inr b ↦ absurd (new_stands name node r into has b.0 b.1 gone)
        ])
    | inr f ↦ was_gone name node r into (sym (view_others all quiet (row_of player_table seat quiet (Told line)) name node (λ e. true≢false (sym (eq-eqb node seat.who e) ∙ f))) ∙ has) gone
  ]

  pub going : (stage : Stage) → IsAt stage (scene_at (births as_nodes scenario) (with_event quiet seat (Told line))) → IsGoingSince scenario journal quiet (with_event quiet seat (Told line)) stage
  going stage a =
      let its = the_tx (tx_of stage) in
      record { tx = its.0; same = its.1; stood = λ h. absurd (none_begun stage a h); went = λ name node r into e gone. inl (went name node r into e gone) }

pub ending_groups_begin : PrefixesAreFound → EndsAreLogged → EndingGroupsBegin
ending_groups_begin found_law ends_law words scenario first journal quiet seat line stage calm rests seen t prefix stands = going found_law ends_law words scenario first journal quiet seat line calm rests seen t prefix stage stands
