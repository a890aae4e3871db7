-- What holds of replicas with the mails of a row is kept by each row of a node's table.
use Rattle.std.proofs.Common.{◌≡◌, ℕ, nat_lt, eqb, Bool, List, [], ◌∷◌, ◌++◌, length, Option, Some, None, sym, ◌∙◌, subst, ap, append_assoc}
use Rattle.std.specs.Prelude.{is_some}
use Rattle.std.proofs.lemmas.Bool.{eqb-true}
use Rattle.sc_base.specs.Definitions.{Drawer, Each}
use Rattle.sc_node_table.specs.Values.{Draw, Input, Got, Base, OrderLine, Mail, MailBody, NotLeader, Request, Prepare, Accept, Learn, Ask, Install, TxPrepare, TxElsewhere, TxWatch, Told as ToldMail, Refused}
use Rattle.sc_actor.specs.declared.rows.Input.TheVariants.{Tick, Go, Told}
use Rattle.sc_words.specs.declared.commands.orders.OrderRefusal.TheVariants.{NotLeader as OrderNotLeader}
use Rattle.sc_words.proofs.PaxosProofs.PaxosLemmas.{Each-weaker}
use Rattle.sc_node_table.specs.NodeDefinitions.{sent, NodeState, replica_of, with_replica, with_new, group_of_mail, with_made, unknown, may_come, with_born, with_children, taken_by, routed, on_mail, group_of_order, ordered_of, node_table, ordered_row, ReplicaState, Place, Executed, last_slot, born_replica, made_by, mailed, slots_ahead, ticked, on_tick, tick_row, names_after_tick}
use Rattle.sc_law_walks.proofs.Ways.{either_way, unless_so}
use Rattle.sc_law_walks.proofs.PlaceWalks.{PlaceWalk, PlaceBirths, PlaceTicks, Before, After, Hears}
use Rattle.sc_law_walks.proofs.PlaceParts.{on_late}
use Rattle.sc_law_walks.proofs.PlaceRows.{takes_mail, orders, creation, makes}
use Rattle.sc_law_walks.proofs.PlaceTicks.{ticks}
use Rattle.sc_law_walks.proofs.MailsGrow.{Begins, begins_itself, tick_grows}
use Rattle.sc_law_walks.proofs.ReplicaNodes.{FoundOne, found_one, replaced_each, added_each}

-- a node's step on any input that it may take keeps what holds of the node
abbrev pub NodeSteps : (Input Mail OrderLine → Type 0) → (NodeState → Type 0) → (NodeState × List Mail → Type 0) → Type 0
NodeSteps Given Starts Step = (node : NodeState) (input : Input Mail OrderLine) → Given input → Starts node → Step (node_table node input)

module _ (w : PlaceWalk) (b : PlaceBirths w.facts) where
  -- ---- replicas in their order, with the mails of a row

  abbrev pub AllEarly : List ReplicaState → Type 0
  AllEarly replicas = Each (λ r. Before w.facts (r, [])) replicas

  abbrev AfterWith : List Mail → ReplicaState → Type 0
  AfterWith mails r = After w.facts (r, mails)

  abbrev Early : ReplicaState → Type 0
  Early r = Before w.facts (r, [])

  abbrev pub AllLate : List Mail → List ReplicaState → Type 0
  AllLate mails replicas = Each (λ r. After w.facts (r, mails)) replicas

  all_late : (replicas : List ReplicaState) → AllEarly replicas → AllLate [] replicas
  all_late replicas k = Each-weaker (λ r. Before w.facts (r, [])) (λ r. After w.facts (r, [])) (λ r e. on_late w (r, []) e) replicas k

  -- the mails of another replica are put beside
  all_beside : (mails : List Mail) (replicas : List ReplicaState) → b.Rest mails → AllLate [] replicas → AllLate mails replicas
  all_beside mails replicas rest k = Each-weaker (λ r. After w.facts (r, [])) (λ r. After w.facts (r, mails)) (λ r l. (l.0, b.beside r [] mails rest l.1)) replicas k

  -- ---- a node of this number

  abbrev pub Starts : NodeState → Type 0
  Starts node = (node.me ≡ w.facts.me) × AllEarly node.replicas

  abbrev pub Stands : List Mail → NodeState → Type 0
  Stands mails node = (node.me ≡ w.facts.me) × AllLate mails node.replicas

  abbrev pub Step : NodeState × List Mail → Type 0
  Step step = Stands step.1 step.0 × b.Rest step.1

  idle : (node : NodeState) → Stands [] node → Step (node, [])
  idle node k = (k, b.rest_none)

  rests : (node : NodeState) → Starts node → Stands [] node
  rests node k = (k.0, all_late node.replicas k.1)

  made_step : (place : Place) (node : NodeState) → After w.facts place → Stands [] node → Step (with_made place node)
  made_step (r, mails) node n k = (let rest = b.rest (r, mails) n.1 in ((k.0, added_each (AfterWith mails) r node.replicas n (all_beside mails node.replicas rest k.1)), rest))

  -- what is answered where there is no replica
  sent_one : (node : NodeState) (to : ℕ) (body : MailBody) → Stands [] node → b.Rest (sent node.me to body []) → Step (node, sent node.me to body [])
  sent_one node to body k rest = ((k.0, all_beside (sent node.me to body []) node.replicas rest k.1), rest)

  unknown_step : (from : ℕ) (body : MailBody) (node : NodeState) → Hears w.facts body → Stands [] node → Step (unknown from body node)
  unknown_step from (Install group slot base sets) node h k =
      unless_so Step (eqb (length sets) slots_ahead) (nat_lt last_slot slot) (node, []) (with_made (made_by node.me from group slot base sets) node) (idle node k)
      (λ e. made_step (made_by node.me from group slot base sets) node (subst (λ m. After w.facts (made_by m from group slot base sets)) (sym k.0) (makes w b from group slot base sets (eqb-true (length sets) slots_ahead e) h.1)) k)
  unknown_step from (Request group client seq op) node h k = sent_one node _ _ k (b.answers node.me client group seq (NotLeader None) k.0)
  unknown_step from (Prepare group ballot from_slot) node h k = sent_one node from (Ask group 0) k (b.wants_all node.me from group k.0)
  unknown_step from (Accept group ballot slot command) node h k = sent_one node from (Ask group 0) k (b.wants_all node.me from group k.0)
  unknown_step from (Learn group slot command) node h k = sent_one node from (Ask group 0) k (b.wants_all node.me from group k.0)
  unknown_step from (TxPrepare tx offer) node h k = sent_one node from (TxElsewhere tx offer.coord None) k (b.sends_on node.me from tx offer.coord None k.0)
  unknown_step from (TxWatch tx watch) node h k = sent_one node from (TxElsewhere tx watch.coord None) k (b.sends_on node.me from tx watch.coord None k.0)
  unknown_step from _ node h k = idle node k

  child_step : (child : Base) (mails : List Mail) (node : NodeState) → b.Rest mails → Stands mails node → Stands mails (with_born child node)
  child_step child mails node rest k =
      let born = creation w b child in
      let beside : After w.facts (born_replica slots_ahead w.facts.me child, mails) = (born.0, b.beside (born_replica slots_ahead w.facts.me child) [] mails rest born.1) in
      either_way (Stands mails) (is_some (replica_of child.core.id node.replicas)) node (record node { replicas = with_new (born_replica slots_ahead node.me child) node.replicas }) k
      (k.0, added_each (AfterWith mails) (born_replica slots_ahead node.me child) node.replicas (subst (λ m. After w.facts (born_replica slots_ahead m child, mails)) (sym k.0) beside) k.1)

  children_step : (children : List Base) (mails : List Mail) (node : NodeState) → b.Rest mails → Stands mails node → Stands mails (with_children children node)
  unfolding with_children
  children_step [] mails node rest k = k
  children_step (child ∷ children) mails node rest k = children_step children mails (with_born child node) rest (child_step child mails node rest k)

  -- a replica's row, beside the other replicas
  put_step : (group : Draw) (r : ReplicaState) (mails : List Mail) (node : NodeState) → After w.facts (r, mails) → Stands [] node → AllLate mails (with_replica group r node.replicas) × b.Rest mails
  put_step group r mails node n k = (let rest = b.rest (r, mails) n.1 in (replaced_each (AfterWith mails) group r node.replicas n (all_beside mails node.replicas rest k.1), rest))

  taken_step : (o : Option ReplicaState) (group : Draw) (from : ℕ) (body : MailBody) (node : NodeState) → FoundOne Early o → Hears w.facts body → Stands [] node → Step (taken_by o group from body node)
  taken_step None group from body node f h k = unknown_step from body node h k
  taken_step (Some r) group from body node f h k =
      let after : Executed = mailed from body (r, []) in
      let put = put_step group after.0.0 after.0.1 node (takes_mail w from body (r, []) h f) k in
      (children_step after.1 after.0.1 (record node { replicas = with_replica group after.0.0 node.replicas }) put.1 (k.0, put.0), put.1)

  routed_step : (o : Option Draw) (from : ℕ) (body : MailBody) (node : NodeState) → Hears w.facts body → Starts node → Step (routed o from body node)
  routed_step None from body node h k = idle node (rests node k)
  routed_step (Some group) from body node h k = taken_step (replica_of group node.replicas) group from body node (found_one Early group node.replicas k.1) h (rests node k)

  mail_step : (from : ℕ) (body : MailBody) (node : NodeState) → Hears w.facts body → Starts node → Step (on_mail from body node)
  mail_step from body node h k = either_way Step (may_come from body) (routed (group_of_mail body) from body node) (node, []) (routed_step (group_of_mail body) from body node h k) (idle node (rests node k))

  ordered_step : (o : Option ReplicaState) (line : OrderLine) (node : NodeState) → FoundOne Early o → Stands [] node → Step (ordered_of o line node)
  ordered_step None line node f k = sent_one node 0 (ToldMail line.number (Refused (OrderNotLeader None))) k (b.refuses node.me line.number (Refused (OrderNotLeader None)) k.0)
  ordered_step (Some r) line node f k =
      let after : Place = ordered_row node.draws line (r, []) in
      let put = put_step (group_of_order line.order) after.0 after.1 node (orders w node.draws line (r, []) f) k in
      ((k.0, put.0), put.1)

  -- what a node takes, in rows that are no ticks
  abbrev pub Given : Input Mail OrderLine → Type 0
  Given (Got mail) = Hears w.facts mail.body
  Given Tick = ⊥
  Given Go = Unit {0}
  Given (Told line) = Unit {0}

  pub input_step : NodeSteps Given Starts Step
  input_step node (Got mail) h k = mail_step mail.from mail.body node h k
  input_step node Tick h k = absurd h
  input_step node Go h k = idle node (rests node k)
  input_step node (Told line) h k = ordered_step (replica_of (group_of_order line.order) node.replicas) line node (found_one Early (group_of_order line.order) node.replicas k.1) (rests node k)

  -- ---- .. and in ticks

  module _ (t : PlaceTicks w.facts) where
    -- the replicas and the mails that the ticks leave, behind those that were there
    all_tick : (on : Bool) (drawer : Drawer) (replicas : List ReplicaState) (mails : List Mail) → AllEarly replicas → b.Rest mails → (let after = ticked on drawer replicas mails in AllLate after.1 after.0 × b.Rest after.1 × Begins mails after.1)
    unfolding ticked
    all_tick on drawer [] mails k rest = (tt, rest, begins_itself mails)
    all_tick on drawer (r ∷ replicas) mails k rest =
        let after : Place = tick_row on drawer (r, mails) in
        let one : After w.facts after = ticks w t on drawer (r, mails) (k.0.0, b.beside_early r mails rest k.0.1) in
        let own : Begins mails after.1 = tick_grows w.facts.me on drawer r mails k.0.0 in
        let all = ticked on (names_after_tick on drawer r) replicas after.1 in
        let more = all_tick on (names_after_tick on drawer r) replicas after.1 k.1 (b.rest after one.1) in
        let late : w.facts.Late (after.0, after.1 ++ more.2.0) = b.beside after.0 after.1 more.2.0 (subst (λ ms. b.Rest ms) more.2.1 more.1) one.1 in
        (((one.0, subst (λ ms. w.facts.Late (after.0, ms)) (sym more.2.1) late), more.0), more.1, (own.0 ++ more.2.0, more.2.1 ∙ ap (λ (ms : List Mail). ms ++ more.2.0) own.1 ∙ append_assoc mails own.0 more.2.0))

    tick_step : (node : NodeState) → Starts node → Step (on_tick node)
    tick_step node k = (let after = all_tick node.policy node.draws node.replicas [] k.1 b.rest_none in ((k.0, after.0), after.1))

    abbrev pub GivenAny : Input Mail OrderLine → Type 0
    GivenAny (Got mail) = Hears w.facts mail.body
    GivenAny Tick = Unit {0}
    GivenAny Go = Unit {0}
    GivenAny (Told line) = Unit {0}

    pub any_step : NodeSteps GivenAny Starts Step
    any_step node (Got mail) h k = mail_step mail.from mail.body node h k
    any_step node Tick h k = tick_step node k
    any_step node Go h k = input_step node Go tt k
    any_step node (Told line) h k = input_step node (Told line) tt k
