-- An order given in a quiet journal stands at its group, or nothing does.
use Rattle.std.proofs.Common.{◌≡◌, ℕ, ◌≤◌, true, false, true≢false, List, [], Option, Some, None, inl, inr, refl, sym, ◌∙◌, ap, subst}
use Rattle.sc_live_journals.proofs.ScenesProofs.Deliveries.{some_or_none, client_or_node}
use Rattle.sc_base.specs.Definitions.{Each, next_name}
use Rattle.sc_node_table.specs.Values.{Draw, Command, Order, OrderLine, OrderRefusal, Refused, Mail, Node, Client, Seat, Go}
use Rattle.sc_words.specs.declared.commands.orders.Order.TheVariants as An
use Rattle.sc_words.specs.declared.commands.orders.OrderRefusal.TheVariants.{NotLeader}
use Rattle.sc_actor.specs.declared.rows.Event.TheVariants.{Told}
use Rattle.sc_actor.specs.declared.rows.Input.TheVariants.{Told as ToldInput}
use Rattle.sc_actor.specs.Definitions.{value, row_of, is_quiet}
use Rattle.sc_client_table.specs.table.TableDefinitions.{Client as ClientState}
use Rattle.sc_live_orderly.specs.OrderlyDefinitions.{AreInTime}
use Rattle.sc_live_orderly.proofs.OrderlyLemmas.{in_time_before, in_time_tidy, quiet-empty}
use Rattle.sc_scenario.specs.scenario.Definitions.{IsBounded, ValidScenariosAreBounded}
use Rattle.sc_scenario.specs.declared.scenario.scenarios.Scenario.{Scenario}
use Rattle.sc_node_table.specs.NodeDefinitions.{result_sent, NodeState, replica_of, group_of_order, ordered_of, takes_name, untaken, ordered_row, ReplicaState, Place, name_of, next, last_slot}
use Rattle.sc_meaning.specs.sound.SoundDefinitions.{Player, player_table, births, as_nodes, Lawful}
use Rattle.sc_live_steps.specs.calm.CalmDefinitions.{players, IsAtRest, Rows}
use Rattle.sc_live_steps.proofs.CalmStepsProofs.CalmStepLemmas.{put_others}
use Rattle.sc_live_steps.proofs.OrderStepsProofs.OrderStepLemmas.{cases-draw}
use Rattle.sc_live_journals.specs.rows.RowDefinitions.{view_at, IsSeat, with_event, IsReplicasRow, IsWellKept}
use Rattle.sc_live_journals.proofs.RowsProofs.RowLemmas.{names_stay, found_name, rows_replicas, view_was, sent_is, Plays, Found, found_well, replay_well}
use Rattle.sc_live_journals.specs.groups.GroupDefinitions.{ScenariosAreWellBorn}
use Rattle.sc_live_journals.proofs.ScenesProofs.SceneLemmas.{client_leaves, now_is, all_sent}
use Rattle.sc_live_answers.specs.AnswerDefinitions.{Task, is_split, AreAtWork, IsTaskOf, OrdersBeginWork}
use Rattle.sc_live_answers.proofs.WorkProofs.Affairs.{Affair, BeginsFree, AreGood}
use Rattle.sc_live_answers.proofs.WorkProofs.WorkInRows.{HeldSo, RowHolds}
use Rattle.sc_live_answers.proofs.WorkProofs.OrderTasks.{affair_of, begins_free}
use Rattle.sc_live_answers.proofs.OrdersProofs.OrderCommands.{order_fine}
use Rattle.sc_live_answers.proofs.WorkProofs.WorkInPrefixes.{AreHeld, goes_on, held_work}
use Rattle.sc_live_answers.proofs.ChildrenProofs.DrawnNames.{drawn_nowhere, drawn_unknown}
use Rattle.std.proofs.lemmas.Option.{same_Some}
use Rattle.sc_live_answers.proofs.BallotsProofs.WellPlayers.{plays_of}
use Rattle.sc_law_walks.proofs.WalkLemmas.{order_refused}
use Rattle.sc_law_entries.proofs.NamesProofs.Fresh.{IsClient, replay_client}

-- at one that rests nothing stands
rest_so : (a : Affair) (begins : BeginsFree a) (name : Draw) (r : ReplicaState) → IsAtRest r → HeldSo a name r
rest_so a begins name r rest = (
  rest.backlog,
  subst (Each (a.Does name)) (sym rest.acts) tt,
  subst (Each (λ flight. a.Does name flight.value)) (sym rest.flights) tt,
  subst (Each (λ (entry : ℕ × Command). a.Does name entry.1)) (sym rest.ready) tt,
  begins.free name r.group.core rest.free,
)

-- an order that splits takes a name
split_names : (order : Order) → is_split order ≡ true → takes_name order ≡ true
split_names (An.Join node group) e = absurd (true≢false (sym e))
split_names (An.Leave node group) e = absurd (true≢false (sym e))
split_names _ e = refl

module _ (well : ScenariosAreWellBorn) (words : ℕ → ℕ → ℕ × ℕ) (scenario : Scenario) (quiet : Rows) (seat : Seat Player) (line : OrderLine) (bounded : IsBounded scenario) (lawful : Lawful as_nodes words scenario quiet) (seated : IsSeat (births as_nodes scenario) seat)
    (timely : AreInTime (players words (births as_nodes scenario)) (with_event quiet seat (Told line))) (calm : is_quiet (players words (births as_nodes scenario)) quiet ≡ true)
    (rests : (name : Draw) (who : ℕ) (r : ReplicaState) → view_at (births as_nodes scenario) quiet name who ≡ Some r → IsAtRest r × (r.running ≡ true → r.leader.reports ≡ []) × (next r ≤ last_slot)) where
  abbrev all : List (Seat Player)
  all = births as_nodes scenario

  abbrev group : Draw
  group = group_of_order line.order

  abbrev Begins : Affair → Type 0
  Begins a = RowHolds a words (births as_nodes scenario) quiet seat (Told line)

  -- in the quiet nothing stands
  quiet_held : (a : Affair) → BeginsFree a → AreHeld a words (births as_nodes scenario) quiet
  quiet_held a b = record {
    replicas = λ name who r v. rest_so a b name r (rests name who r v).0;
    mail = λ who fact.
        subst (AreGood a) (sym (quiet-empty (players words all) quiet who (in_time_tidy (players words all) quiet (in_time_before (players words all) quiet (row_of player_table seat quiet (Told line)) timely)) fact calm)) tt;
  }

  abbrev Done : Type 0
  Done = (task : Task) × IsTaskOf (births as_nodes scenario) quiet line task × AreAtWork task words (births as_nodes scenario) (with_event quiet seat (Told line))

  finish : (task : Task) → IsTaskOf (births as_nodes scenario) quiet line task → Begins (affair_of task.number task.splitting task.group task.name) → Done
  finish task of b =
      (task, of, held_work task words (births as_nodes scenario) (with_event quiet seat (Told line)) (goes_on (affair_of task.number task.splitting task.group task.name) words (births as_nodes scenario) quiet seat (Told line) timely b (quiet_held (affair_of task.number task.splitting task.group task.name) (begins_free task.number task.splitting task.group task.name))))

  -- an order of which nothing comes
  nothing : Begins (affair_of line.number false group group) → Done
  nothing b = finish (record { number = line.number; group = group; name = group; splitting = false }) (record { number = refl; group = refl; there = λ t. absurd (true≢false (sym t)); new = λ t. absurd (true≢false (sym t)); unknown = λ t. absurd (true≢false (sym t)) }) b

  client_begins : (client : ClientState) → value player_table seat quiet ≡ Client client → Done
  client_begins client fact =
      nothing (record {
        views = λ name r v. rest_so (affair_of line.number false group group) (begins_free line.number false group group) name r
            (rests name seat.who r (sym (client_leaves words all quiet seat (Told line) seated timely client fact name (ToldInput line) refl refl).view ∙ v)).0;
        good = subst (AreGood (affair_of line.number false group group)) (sym (sent_is all quiet seat (Told line) group seated (Client client) fact (Some (ToldInput line)) refl)) tt;
      })

  module _ (node : NodeState) (fact : value player_table seat quiet ≡ Node node) where
    plays : Plays seat.who (Node node)
    plays = subst (Plays seat.who) fact (replay_well seat.who seat.who quiet seat.actor [] (plays_of seat.who seat.actor ((well scenario).well seat seated)))

    view_of : (name : Draw) (o : Option ReplicaState) → replica_of name node.replicas ≡ o → view_at all quiet name seat.who ≡ o
    view_of name o here = view_was all quiet seat Go name seated (Node node) fact ∙ here

    -- who is a node was born as one
    born_node : (player : Player) → seat.actor ≡ player → (born : NodeState) × (seat.actor ≡ Node born)
    born_node (Node born) e = (born, e)
    born_node (Client client) e = absurd (subst IsClient fact (replay_client seat.who seat.actor [] quiet (subst IsClient (sym e) tt)))

    none_begins : replica_of group node.replicas ≡ None → Done
    none_begins here =
        nothing (record {
          views = λ name r v. rest_so (affair_of line.number false group group) (begins_free line.number false group group) name r
              (rests name seat.who r (view_of name (Some r) (sym (now_is all quiet seat (Told line) node seated fact (node, result_sent node.me line.number (Refused (NotLeader None)) []) (Some (ToldInput line)) refl
              (ap (λ (x : NodeState × List Mail). (Node x.0, x.1)) (ap (λ o. ordered_of o line node) here)) name) ∙ v))).0;
          good = subst (AreGood (affair_of line.number false group group)) (sym (all_sent all quiet seat (Told line) node seated fact (node, result_sent node.me line.number (Refused (NotLeader None)) []) (Some (ToldInput line)) refl
              (ap (λ (x : NodeState × List Mail). (Node x.0, x.1)) (ap (λ o. ordered_of o line node) here)))) (tt, tt);
        })

    module _ (r : ReplicaState) (here : replica_of group node.replicas ≡ Some r) where
      abbrev after : Place
      after = ordered_row node.draws line (r, [])

      own : name_of r ≡ group
      own = found_name group node.replicas r here

      row : IsReplicasRow all quiet seat (Told line) group (Some r) after
      row = rows_replicas.ordered all quiet seat line node r seated fact here

      kept : IsWellKept seat.who r
      kept = subst (Found seat.who) here (found_well seat.who group node.replicas plays.1)

      -- what its table leaves is what stands
      begins : (a : Affair) → BeginsFree a → HeldSo a group after.0 → AreGood a after.1 → Begins a
      begins a b h m = record {
        views = λ name x v. elim (cases-draw name group) [
          | inl i ↦ subst (HeldSo a name) (same_Some after.0 x (sym row.fact ∙ (ap (λ n. view_at all (with_event quiet seat (Told line)) n seat.who) (sym i) ∙ v))) (subst (λ n. HeldSo a n after.0) (sym i) h)
          | inr ne ↦ rest_so a b name x
              (rests name seat.who x (view_of name (Some x) (sym (put_others group name after.0 node.replicas (names_stay.ordered node.draws line r ∙ own) ne)
              ∙ (sym (now_is all quiet seat (Told line) node seated fact (ordered_of (Some r) line node) (Some (ToldInput line)) refl (ap (λ (s : NodeState × List Mail). (Node s.0, s.1)) (ap (λ o. ordered_of o line node) here)) name) ∙ v)))).0
        ];
        good = subst (AreGood a) (sym row.sends_all) m;
      }

      by_taken : (o : Option OrderRefusal) → untaken node.draws line r ≡ o → Done
      by_taken (Some why) e =
          let is_ : after ≡ (r, result_sent r.me line.number (Refused why) []) = order_refused node.draws line r why e in
          nothing (begins (affair_of line.number false group group) (begins_free line.number false group group) (subst (λ (p : Place). HeldSo (affair_of line.number false group group) group p.0) (sym is_) (rest_so (affair_of line.number false group group) (begins_free line.number false group group) group r (rests group seat.who r (view_of group (Some r) here)).0))
          (subst (λ (p : Place). AreGood (affair_of line.number false group group) p.1) (sym is_) (tt, tt)))
      by_taken None e =
          let fine = order_fine node.draws line r (rests group seat.who r (view_of group (Some r) here)).0 own (rests group seat.who r (view_of group (Some r) here)).1 (rests group seat.who r (view_of group (Some r) here)).2 kept.1 in
          let born = born_node seat.actor refl in
          finish (record { number = line.number; group = group; name = next_name node.draws; splitting = is_split line.order })
          (record { number = refl; group = refl; there = λ t. (seat.who, r, view_of group (Some r) here); unknown = λ t. drawn_unknown words scenario quiet bounded lawful seat line born.0 born.1 seated node fact r here e (split_names line.order t); new = λ t. drawn_nowhere words scenario quiet bounded lawful seat line born.0 born.1 seated node fact r here e (split_names line.order t) })
          (begins (affair_of line.number (is_split line.order) group (next_name node.draws)) (begins_free line.number (is_split line.order) group (next_name node.draws)) (fine.0.1, fine.0.2, fine.0.3, fine.0.4, fine.0.5) fine.1)

  pub order_begins : Done
  order_begins = elim (client_or_node (value player_table seat quiet)) [
    | inl client ↦ client_begins client.0 client.1
    | inr node ↦ elim (some_or_none (replica_of group node.0.replicas)) [ inl none ↦ none_begins node.0 node.1 none | inr one ↦ by_taken node.0 node.1 one.0 one.1 (untaken node.0.draws line one.0) refl ]
  ]

pub orders_begin : ScenariosAreWellBorn → ValidScenariosAreBounded → OrdersBeginWork
orders_begin well bound words scenario quiet seat line valid lawful seated timely calm rests = order_begins well words scenario quiet seat line (bound scenario valid) lawful seated timely calm rests
