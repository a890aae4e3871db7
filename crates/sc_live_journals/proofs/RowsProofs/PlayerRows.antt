-- What a row of a player does to a group: nothing to others than that of its mail or order, and to that what its replica's table does.
use Rattle.std.proofs.Common.{◌≡◌, ℕ, ◌||◌, not, nat_lt, eqb, true, List, [], length, Option, Some, None, inl, inr, refl, sym, ◌∙◌, ap, subst}
use Rattle.std.specs.Option.{option_map}
use Rattle.std.proofs.lemmas.Bool.{cond-true, cond-false, eq-eqb, le-ltb, or_from, not_from_true}
use Rattle.sc_base.specs.Definitions.{same_draw}
use Rattle.sc_node_table.specs.Values.{Draw, Base, OrderLine, Refused, Mail, MailBody, Request, Prepare, Promise, Accept, Accepted, Learn, Install, TxPrepare, TxWatch, Node, Client, Seat, Event, Deliver, Go, Input, Got}
use Rattle.sc_base.proofs.Lemmas.{draw_is, same_name}
use Rattle.sc_words.specs.declared.commands.orders.OrderRefusal.TheVariants.{NotLeader}
use Rattle.sc_actor.specs.declared.rows.Event.TheVariants.{Told}
use Rattle.sc_actor.specs.declared.rows.Input.TheVariants.{Go as GoInput, Told as ToldInput}
use Rattle.sc_actor.specs.Definitions.{mails, numbered, value, acted, input_of}
use Rattle.sc_client_table.specs.table.TableDefinitions.{Client as ClientState}
use Rattle.sc_words.proofs.PaxosProofs.PaxosLemmas.{find_found}
use Rattle.sc_node_table.specs.NodeDefinitions.{result_sent, NodeState, replica_of, with_replica, with_new, group_of_mail, with_made, unknown, may_come, taken_by, routed, on_mail, group_of_order, ordered_of, on_order, absent, with_children, ordered_row, ReplicaState, Place, Executed, name_of, last_slot, mailed, made_by, slots_ahead}
use Rattle.sc_law_walks.proofs.WalkLemmas.{either_way}
use Rattle.sc_meaning.specs.sound.SoundDefinitions.{Player, player_table}
use Rattle.sc_live_steps.specs.calm.CalmDefinitions.{Rows}
use Rattle.sc_live_steps.proofs.CalmStepsProofs.CalmStepLemmas.{apart, put_found, put_others, children_found}
use Rattle.sc_live_steps.specs.following.FollowingDefinitions.{Mark, Asks, Votes, Teaches, Installs, Prepares, Promises, mark_of, named_mark, marks_for}
use Rattle.sc_live_journals.specs.rows.RowDefinitions.{replicas_of, next_in, promise_in, mark_in, taken_mark, IsSeat, IsIdleIn, LeavesAlone, IsBornOr, LeavesOrCreates, made_children, AreAsBegun, OthersRowsAreIdle, IsReplicasRow, IsWholeState, RowsAreReplicas}
use Rattle.sc_live_journals.proofs.RowsProofs.MailWithoutMarks.{names_stay, others_hear_nothing, none_marked}
use Rattle.sc_live_journals.proofs.RowsProofs.ReplicaViews.{view_was, view_is, sent_is, new_others, new_is, Same, same_both, all_born, all_or}

-- ---- by the input

module _ (births : List (Seat Player)) (rows : Rows) (seat : Seat Player) (event : Event OrderLine) (born : IsSeat births seat) (player : Player) (fact : value player_table seat rows ≡ player) (o : Option (Input Mail OrderLine)) (e : input_of (mails rows) event ≡ o) where
  pub idle_by : (base : Base) → taken_mark base.core.id (mails rows) event ≡ None
      → Same base seat.who (replica_of base.core.id (replicas_of (acted player_table player o).0)) (replica_of base.core.id (replicas_of player))
      → ((who : ℕ) → marks_for base.core.id who (acted player_table player o).1 ≡ []) → IsIdleIn births rows seat event base
  idle_by base takes same silent = λ course.
      (let now = view_is births rows seat event base.core.id born player fact o e in
      let was = view_was births rows seat event base.core.id born player fact in
      record {
        takes = takes;
        next = ap (next_in base seat.who) now ∙ (same.0 ∙ sym (ap (next_in base seat.who) was));
        promise = ap (promise_in base) now ∙ (same.1 ∙ sym (ap (promise_in base) was));
        course = refl;
        sends = λ who. ap (marks_for base.core.id who) (sent_is births rows seat event base.core.id born player fact o e) ∙ silent who;
      })

  -- a row that does nothing in a group, where the replica stays
  alone_by : (base : Base) → taken_mark base.core.id (mails rows) event ≡ None → replica_of base.core.id (replicas_of (acted player_table player o).0) ≡ replica_of base.core.id (replicas_of player)
      → ((who : ℕ) → marks_for base.core.id who (acted player_table player o).1 ≡ []) → LeavesAlone births rows seat event base
  alone_by base takes same silent = record {
    idle = idle_by base takes (same_both base seat.who (replica_of base.core.id (replicas_of (acted player_table player o).0)) (replica_of base.core.id (replicas_of player)) same) silent;
    view = view_is births rows seat event base.core.id born player fact o e ∙ (same ∙ sym (view_was births rows seat event base.core.id born player fact));
  }

  -- a row that does nothing in a group, where the replica is created
  born_by : (base : Base) → taken_mark base.core.id (mails rows) event ≡ None → Same base seat.who (replica_of base.core.id (replicas_of (acted player_table player o).0)) (replica_of base.core.id (replicas_of player))
      → ((who : ℕ) → marks_for base.core.id who (acted player_table player o).1 ≡ []) → IsBornOr base seat.who (replica_of base.core.id (replicas_of (acted player_table player o).0)) (replica_of base.core.id (replicas_of player))
      → LeavesOrCreates births rows seat event base
  born_by base takes same silent creation = record {
    idle = idle_by base takes same silent;
    view = elim creation [
      | inl stays ↦ inl (view_is births rows seat event base.core.id born player fact o e ∙ (stays ∙ sym (view_was births rows seat event base.core.id born player fact)))
      | inr makes ↦ inr (view_was births rows seat event base.core.id born player fact ∙ makes.0, view_is births rows seat event base.core.id born player fact o e ∙ makes.1)
    ];
  }

  pub replica_by : (name : Draw) (before : Option ReplicaState) (after : Place) → replica_of name (replicas_of player) ≡ before → replica_of name (replicas_of (acted player_table player o).0) ≡ Some after.0
      → (acted player_table player o).1 ≡ after.1 → IsReplicasRow births rows seat event name before after
  replica_by name before after was now sends =
      let all = sent_is births rows seat event name born player fact o e ∙ sends in record {
        was = view_was births rows seat event name born player fact ∙ was;
        fact = view_is births rows seat event name born player fact o e ∙ now;
        sends_all = all;
        sends = λ who. ap (marks_for name who) all;
      }

-- the name of a replica that is found
pub found_name : (group : Draw) (replicas : List ReplicaState) (r : ReplicaState) → replica_of group replicas ≡ Some r → name_of r ≡ group
found_name group replicas r e = draw_is (name_of r) group (find_found (λ (x : ReplicaState). same_draw (name_of x) group) replicas r e).1

-- ---- mail of another group

module _ (base : Base) (group : Draw) (ne : group ≡ base.core.id → ⊥) where
  abbrev name : Draw
  name = base.core.id

  other_mark : (other : Draw) (mark : Mark) → Some other ≡ Some group → named_mark name other mark ≡ None
  other_mark other mark e = (let same : other ≡ group = cc in cond-false (same_draw other name) (Some mark) None (apart other name (λ n. ne (sym same ∙ n))))

  pub mark_other : (from : ℕ) (body : MailBody) → group_of_mail body ≡ Some group → mark_of name from body ≡ None
  mark_other from (Accept other ballot slot command) e = other_mark other (Asks ballot slot) e
  mark_other from (Accepted other ballot slot) e = other_mark other (Votes from ballot slot) e
  mark_other from (Learn other slot command) e = other_mark other (Teaches slot) e
  mark_other from (Install other slot base sets) e = other_mark other (Installs slot) e
  mark_other from (Prepare other ballot from_slot) e = other_mark other (Prepares ballot) e
  mark_other from (Promise other ballot reports) e = other_mark other (Promises from ballot) e
  mark_other from _ e = refl

  module _ (who : ℕ) (node : NodeState) where
    -- a step that is nothing to the group
    abbrev pub Other : NodeState × List Mail → Type 0
    Other step = Same base who (replica_of name step.0.replicas) (replica_of name node.replicas) × ((to : ℕ) → marks_for name to step.1 ≡ []) × IsBornOr base who (replica_of name step.0.replicas) (replica_of name node.replicas)

    made_other : (place : Place) → name_of place.0 ≡ group → ((to : ℕ) → marks_for name to place.1 ≡ []) → Other (with_made place node)
    made_other (r, mails) fact silent = (same_both base who (replica_of name (with_new r node.replicas)) (replica_of name node.replicas) (new_others name r node.replicas (λ e. ne (sym fact ∙ e))), silent, inl (new_others name r node.replicas (λ e. ne (sym fact ∙ e))))

    missed_other : (from : ℕ) (body : MailBody) → group_of_mail body ≡ Some group → Other (unknown from body node)
    missed_other from (Install other slot base sets) e =
        let same : other ≡ group = cc in
        let place : Place = made_by node.me from other slot base sets in
        either_way Other (not (eqb (length sets) slots_ahead) || nat_lt last_slot slot) (node, []) (with_made place node) ((refl, refl), (λ to. refl), inl refl)
        (made_other place (names_stay.made node.me from other slot base sets ∙ same) (λ to. others_hear_nothing.made name to node.me from other slot base sets (λ n. ne (sym same ∙ n))))
    missed_other from (Accept other ballot slot command) e = ((refl, refl), (λ to. others_hear_nothing.missed name to node.me from (Accept other ballot slot command)), inl refl)
    missed_other from (Learn other slot command) e = ((refl, refl), (λ to. others_hear_nothing.missed name to node.me from (Learn other slot command)), inl refl)
    missed_other from (Prepare other ballot from_slot) e = ((refl, refl), (λ to. others_hear_nothing.missed name to node.me from (Prepare other ballot from_slot)), inl refl)
    missed_other from (Request other client seq op) e = ((refl, refl), (λ to. others_hear_nothing.missed name to node.me from (Request other client seq op)), inl refl)
    missed_other from (TxPrepare tx offer) e = ((refl, refl), (λ to. others_hear_nothing.missed name to node.me from (TxPrepare tx offer)), inl refl)
    missed_other from (TxWatch tx watch) e = ((refl, refl), (λ to. others_hear_nothing.missed name to node.me from (TxWatch tx watch)), inl refl)
    missed_other from _ e = ((refl, refl), (λ to. refl), inl refl)

    taken_other : (from : ℕ) (body : MailBody) (o : Option ReplicaState) → group_of_mail body ≡ Some group → replica_of group node.replicas ≡ o → node.me ≡ who → AreAsBegun base who (made_children o from body) → Other (taken_by o group from body node)
    taken_other from body None named e me fits = missed_other from body named
    taken_other from body (Some r) named e me fits =
        let after : Executed = mailed from body (r, []) in
        let own : name_of r ≡ group = found_name group node.replicas r e in
        let put : replica_of name (with_replica group after.0.0 node.replicas) ≡ replica_of name node.replicas = put_others group name after.0.0 node.replicas (names_stay.mailed from body r ∙ own) (λ n. ne (sym n)) in
        let born = all_born base who after.1 (record node { replicas = with_replica group after.0.0 node.replicas }) me fits in (
          (born.0 ∙ ap (next_in base who) put, born.1 ∙ ap (promise_in base) put),
          (λ to. others_hear_nothing.mailed name to from body r (λ n. ne (sym own ∙ n))),
          subst (IsBornOr base who (replica_of name (with_children after.1 (record node { replicas = with_replica group after.0.0 node.replicas })).replicas)) put
              (all_or base who after.1 (record node { replicas = with_replica group after.0.0 node.replicas }) me fits),
        )

    pub mail_other : (from : ℕ) (body : MailBody) → group_of_mail body ≡ Some group → node.me ≡ who → AreAsBegun base who (made_children (replica_of group node.replicas) from body) → Other (on_mail from body node)
    mail_other from body named me fits =
        either_way Other (may_come from body) (routed (group_of_mail body) from body node) (node, [])
        (subst (λ (g : Option Draw). Other (routed g from body node)) (sym named) (taken_other from body (replica_of group node.replicas) named refl me fits)) ((refl, refl), (λ to. refl), inl refl)

-- ---- mail of no group

stray_mark : (name : Draw) (from : ℕ) (body : MailBody) → group_of_mail body ≡ None → mark_of name from body ≡ None
stray_mark name from (Accept other ballot slot command) e = cc
stray_mark name from (Accepted other ballot slot) e = cc
stray_mark name from (Learn other slot command) e = cc
stray_mark name from (Install other slot base sets) e = cc
stray_mark name from (Prepare other ballot from_slot) e = cc
stray_mark name from (Promise other ballot reports) e = cc
stray_mark name from _ e = refl

stray_stays : (from : ℕ) (body : MailBody) (node : NodeState) → group_of_mail body ≡ None → on_mail from body node ≡ (node, [])
stray_stays from body node none = either_way (λ (step : NodeState × List Mail). step ≡ (node, [])) (may_come from body) (routed (group_of_mail body) from body node) (node, []) (ap (λ g. routed g from body node) none) refl

-- ---- mail that is not taken

missed_stays : (name : Draw) (from : ℕ) (body : MailBody) (node : NodeState) → mark_of name from body ≡ None → group_of_mail body ≡ Some name → unknown from body node ≡ (node, absent node.me from body)
missed_stays name from (Install group slot base sets) node none e =
    let same : group ≡ name = cc in
    let some : mark_of name from (Install group slot base sets) ≡ Some (Installs slot) = cond-true (same_draw group name) (Some (Installs slot)) None (same_name group name same) in
    let bad : Some (Installs slot) ≡ None = sym some ∙ none in
    cc
missed_stays name from (Request group client seq op) node none e = refl
missed_stays name from _ node none e = refl

-- mail without a mark of a group
abbrev IsSilent : Draw → List Mail → Type 0
IsSilent name sent = (who : ℕ) → marks_for name who sent ≡ []

missed_leaves : (name : Draw) (from : ℕ) (body : MailBody) (node : NodeState) → mark_of name from body ≡ None → group_of_mail body ≡ Some name → replica_of name node.replicas ≡ None → ((on_mail from body node).0 ≡ node) × IsSilent name (on_mail from body node).1
missed_leaves name from body node none named here =
    let step : routed (group_of_mail body) from body node ≡ (node, absent node.me from body) = ap (λ g. routed g from body node) named ∙ (ap (λ o. taken_by o name from body node) here ∙ missed_stays name from body node none named) in
    either_way (λ (step : NodeState × List Mail). (step.0 ≡ node) × IsSilent name step.1) (may_come from body) (routed (group_of_mail body) from body node) (node, []) (subst (λ (step : NodeState × List Mail). (step.0 ≡ node) × IsSilent name step.1) (sym step) (refl, λ who. others_hear_nothing.missed name who node.me from body)) (refl, λ who. refl)

-- ---- orders

refused_marks : (name : Draw) (who me number : ℕ) → marks_for name who (result_sent me number (Refused (NotLeader None)) []) ≡ []
refused_marks name who me number = none_marked name who (result_sent me number (Refused (NotLeader None)) []) (refl, tt)

-- an order for another group leaves the replica of this one, and its mail no mark
abbrev OrdersLeave : Draw → NodeState → NodeState × List Mail → Type 0
OrdersLeave name node step = (replica_of name step.0.replicas ≡ replica_of name node.replicas) × IsSilent name step.1

order_other : (name : Draw) (line : OrderLine) (node : NodeState) (ne : group_of_order line.order ≡ name → ⊥) (o : Option ReplicaState) → replica_of (group_of_order line.order) node.replicas ≡ o → OrdersLeave name node (ordered_of o line node)
order_other name line node ne None e = (refl, λ to. refused_marks name to node.me line.number)
order_other name line node ne (Some r) e =
    let own : name_of r ≡ group_of_order line.order = found_name (group_of_order line.order) node.replicas r e in (
      put_others (group_of_order line.order) name (ordered_row node.draws line (r, [])).0 node.replicas (names_stay.ordered node.draws line r ∙ own) (λ n. ne (sym n)),
      λ to. others_hear_nothing.ordered name to node.draws line r (λ n. ne (sym own ∙ n)),
    )

-- ---- what does nothing

pub delivered : (rows : Rows) (number : ℕ) (mail : Mail) → numbered (mails rows) number ≡ Some mail → input_of {O = OrderLine} (mails rows) (Deliver number) ≡ Some (Got mail)
delivered rows number mail at = ap (λ o. option_map Got o) at

client_idle : (births : List (Seat Player)) (rows : Rows) (seat : Seat Player) (event : Event OrderLine) (base : Base) (client : ClientState) → IsSeat births seat → value player_table seat rows ≡ Client client
    → taken_mark base.core.id (mails rows) event ≡ None → (o : Option (Input Mail OrderLine)) → input_of (mails rows) event ≡ o → LeavesAlone births rows seat event base
client_idle births rows seat event base client born fact takes None e = alone_by births rows seat event born (Client client) fact None e base takes refl (λ who. refl)
client_idle births rows seat event base client born fact takes (Some input) e =
    alone_by births rows seat event born (Client client) fact (Some input) e base takes refl (λ who. others_hear_nothing.client base.core.id who client input)

-- A row does nothing in any group but that of its mail or order, and in those whose child is created in it; a client's row does nothing in any.
pub others_idle : OthersRowsAreIdle
others_idle = record {
  client = λ births rows seat event base client born fact takes. client_idle births rows seat event base client born fact takes (input_of (mails rows) event) refl;
  other = λ births rows seat number mail base group node born fact me at named ne fits.
      (let step = mail_other base group ne seat.who node mail.from mail.body named me fits in
      born_by births rows seat (Deliver number) born (Node node) fact (Some (Got mail)) (delivered rows number mail at) base (ap (mark_in base.core.id) at ∙ mark_other base group ne mail.from mail.body named) step.0 step.1 step.2);
  stray = λ births rows seat number mail base node born fact at none.
      (let stays = stray_stays mail.from mail.body node none in
      alone_by births rows seat (Deliver number) born (Node node) fact (Some (Got mail)) (delivered rows number mail at) base (ap (mark_in base.core.id) at ∙ stray_mark base.core.id mail.from mail.body none)
      (ap (λ (step : NodeState × List Mail). replica_of base.core.id step.0.replicas) stays)
      (λ who. ap (λ (step : NodeState × List Mail). marks_for base.core.id who step.1) stays));
  missed = λ births rows seat number mail base node born fact at none named here.
      (let leaves = missed_leaves base.core.id mail.from mail.body node none named here in
      alone_by births rows seat (Deliver number) born (Node node) fact (Some (Got mail)) (delivered rows number mail at) base (ap (mark_in base.core.id) at ∙ none)
      (ap (λ (n : NodeState). replica_of base.core.id n.replicas) leaves.0) leaves.1);
  barred = λ births rows seat number mail base node born fact at none barred.
      (let stays : on_mail mail.from mail.body node ≡ (node, []) = cond-false (may_come mail.from mail.body) (routed (group_of_mail mail.body) mail.from mail.body node) (node, []) barred in
      alone_by births rows seat (Deliver number) born (Node node) fact (Some (Got mail)) (delivered rows number mail at) base (ap (mark_in base.core.id) at ∙ none)
      (ap (λ (step : NodeState × List Mail). replica_of base.core.id step.0.replicas) stays)
      (λ who. ap (λ (step : NodeState × List Mail). marks_for base.core.id who step.1) stays));
  ordered = λ births rows seat line base node born fact ne.
      (let step = order_other base.core.id line node ne (replica_of (group_of_order line.order) node.replicas) refl in
      alone_by births rows seat (Told line) born (Node node) fact (Some (ToldInput line)) refl base refl step.0 step.1);
  refused = λ births rows seat line base node born fact none.
      (let stays : on_order line node ≡ (node, result_sent node.me line.number (Refused (NotLeader None)) []) = ap (λ o. ordered_of o line node) none in
      alone_by births rows seat (Told line) born (Node node) fact (Some (ToldInput line)) refl base refl
      (ap (λ (step : NodeState × List Mail). replica_of base.core.id step.0.replicas) stays)
      (λ who. ap (λ (step : NodeState × List Mail). marks_for base.core.id who step.1) stays ∙ refused_marks base.core.id who node.me line.number));
  go = λ births rows seat base node born fact. alone_by births rows seat Go born (Node node) fact (Some GoInput) refl base refl refl (λ who. refl);
}

-- ---- what the replica does

taken_is : (group : Draw) (from : ℕ) (body : MailBody) (node : NodeState) (r : ReplicaState) → may_come from body ≡ true → group_of_mail body ≡ Some group → replica_of group node.replicas ≡ Some r
    → on_mail from body node ≡ taken_by (Some r) group from body node
taken_is group from body node r comes named here =
    cond-true (may_come from body) (routed (group_of_mail body) from body node) (node, []) comes ∙ (ap (λ g. routed g from body node) named ∙ ap (λ o. taken_by o group from body node) here)

taken_found : (group : Draw) (from : ℕ) (body : MailBody) (node : NodeState) (r : ReplicaState) → replica_of group node.replicas ≡ Some r → replica_of group (taken_by (Some r) group from body node).0.replicas ≡ Some (mailed from body (r, [])).0.0
taken_found group from body node r here =
    let after : Executed = mailed from body (r, []) in
    children_found group after.0.0 after.1 (record node { replicas = with_replica group after.0.0 node.replicas })
    (put_found group after.0.0 r node.replicas (names_stay.mailed from body r ∙ found_name group node.replicas r here) here)

made_step : (group : Draw) (place : Place) (node : NodeState) → name_of place.0 ≡ group → replica_of group node.replicas ≡ None → (replica_of group (with_made place node).0.replicas ≡ Some place.0) × ((with_made place node).1 ≡ place.1)
made_step group (r, mails) node own none = (new_is group r node.replicas own none, refl)

made_is : (group : Draw) (from slot : ℕ) (base : Base) (sets : List (List ℕ)) (node : NodeState) → may_come from (Install group slot base sets) ≡ true → IsWholeState slot sets → replica_of group node.replicas ≡ None
    → on_mail from (Install group slot base sets) node ≡ with_made (made_by node.me from group slot base sets) node
made_is group from slot base sets node comes may none =
    cond-true (may_come from (Install group slot base sets)) (routed (Some group) from (Install group slot base sets) node) (node, []) comes
    ∙ (ap (λ o. taken_by o group from (Install group slot base sets) node) none
    ∙ cond-false (not (eqb (length sets) slots_ahead) || nat_lt last_slot slot) (node, []) (with_made (made_by node.me from group slot base sets) node)
    (or_from (not (eqb (length sets) slots_ahead)) (nat_lt last_slot slot) (not_from_true (eqb (length sets) slots_ahead) (eq-eqb (length sets) slots_ahead may.open_)) (le-ltb last_slot slot may.low)))

made_row : (births : List (Seat Player)) (rows : Rows) (seat : Seat Player) (number : ℕ) (mail : Mail) (group : Draw) (slot : ℕ) (base : Base) (sets : List (List ℕ)) (node : NodeState) → IsSeat births seat → value player_table seat rows ≡ Node node
    → numbered (mails rows) number ≡ Some mail → may_come mail.from mail.body ≡ true → mail.body ≡ Install group slot base sets → IsWholeState slot sets → replica_of group node.replicas ≡ None
    → IsReplicasRow births rows seat (Deliver number) group None (made_by node.me mail.from group slot base sets)
made_row births rows seat number mail group slot base sets node born fact at comes body may none =
    let place : Place = made_by node.me mail.from group slot base sets in
    let step : on_mail mail.from mail.body node ≡ with_made place node =
    ap (λ b. on_mail mail.from b node) body ∙ made_is group mail.from slot base sets node (ap (may_come mail.from) (sym body) ∙ comes) may none in
    let made = made_step group place node (names_stay.made node.me mail.from group slot base sets) none in
    replica_by births rows seat (Deliver number) born (Node node) fact (Some (Got mail)) (delivered rows number mail at) group None place none
    (ap (λ (x : NodeState × List Mail). replica_of group x.0.replicas) step ∙ made.0)
    (ap (λ (x : NodeState × List Mail). x.1) step ∙ made.1)

-- In the group of a mail or of an order the replica of the node does what its own table says, and what is sent of the group is what that sends; where there is none, it may be made of a state.
pub rows_replicas : RowsAreReplicas
rows_replicas = record {
  taken = λ births rows seat number mail group node r born fact at comes named here.
      (let step = taken_is group mail.from mail.body node r comes named here in
      replica_by births rows seat (Deliver number) born (Node node) fact (Some (Got mail)) (delivered rows number mail at) group (Some r) (mailed mail.from mail.body (r, [])).0 here
      (ap (λ (x : NodeState × List Mail). replica_of group x.0.replicas) step ∙ taken_found group mail.from mail.body node r here) (ap (λ (x : NodeState × List Mail). x.1) step));
  made = made_row;
  ordered = λ births rows seat line node r born fact here.
      (let group = group_of_order line.order in
      let step : on_order line node ≡ ordered_of (Some r) line node = ap (λ o. ordered_of o line node) here in
      replica_by births rows seat (Told line) born (Node node) fact (Some (ToldInput line)) refl group (Some r) (ordered_row node.draws line (r, [])) here
      (ap (λ (x : NodeState × List Mail). replica_of group x.0.replicas) step ∙ put_found group (ordered_row node.draws line (r, [])).0 r node.replicas (names_stay.ordered node.draws line r ∙ found_name group node.replicas r here) here)
      (ap (λ (x : NodeState × List Mail). x.1) step));
}
