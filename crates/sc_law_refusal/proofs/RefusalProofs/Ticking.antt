-- The ticks of a leadership are counted row by row, and no replica that runs has waited for more of them.
use Rattle.std.proofs.Common.{◌≡◌, ℕ, ◌+◌, ◌≤◌, ◌&&◌, ◌||◌, not, nat_lt, eqb, length, Bool, true, false, cond, List, [], ◌∷◌, ◌++◌, map, Option, Some, None, inl, inr, refl, sym, ap, subst, ◌∙◌, arith, append_assoc, append-nil}
use Rattle.std.specs.List.{list_any}
use Rattle.std.proofs.lemmas.Bool.{cond_both, cond-true, or_left, or_right, eq-eqb, eqb-true}
use Rattle.std.specs.Prelude.{is_some}
use Rattle.std.specs.Option.{option_map}
use Rattle.sc_base.specs.Definitions.{Among, Each, same_ballot, same_draw, is_member}
use Rattle.sc_node_table.specs.Values.{Ballot, Draw, Seat, Event, Input, Got, Row, Body, Base, Lock, Coordinating, OrderLine, Heard, Mail, MailBody, Install, Node, Client}
use Rattle.sc_base.proofs.Lemmas.{ballot_itself, same_name}
use Rattle.sc_actor.specs.declared.rows.Event.TheVariants as event
use Rattle.sc_actor.specs.declared.rows.Input.TheVariants.{Tick, Go, Told}
use Rattle.sc_actor.specs.Definitions.{mails, numbered, acted, input_of, value}
use Rattle.sc_actor.proofs.Lemmas.{value-snoc}
use Rattle.sc_group_table.specs.machine.MachineDefinitions.{is_coordinating}
use Rattle.sc_client_table.specs.table.TableDefinitions.{Client as ClientState}
use Rattle.sc_node_table.specs.NodeDefinitions.{made_by, mailed, slots_ahead, NodeState, born_replicas, node_table, replica_of, with_replica, with_new, with_born, with_children, with_made, unknown, taken_by, routed, may_come, group_of_mail, ordered_of, group_of_order, ReplicaState, born_replica, name_of, settled, last_slot}
use Rattle.sc_scenario.specs.declared.scenario.scenarios.Scenario.{Scenario}
use Rattle.sc_meaning.specs.sound.SoundDefinitions.{Ahead, Player, node_seat, player_table}
use Rattle.sc_law_walks.proofs.WalkLemmas.{either_way}
use Rattle.sc_law_refusal.specs.refusal.RefusalDefinitions.{Rows, coordinates, node_coordinates, is_tick, is_counted, ticks_from}
use Rattle.sc_law_refusal.proofs.RefusalProofs.NodeSteps.{Keeps, still_all, node_keeps}

module _ (seat : Seat Player) where
  -- one more row
  abbrev pub one_at : Draw → Ballot → Draw → Rows → Row Mail OrderLine → ℕ
  one_at group ballot tx rows row = cond (is_counted seat group ballot tx rows row) 1 0

  ticks_push : (group : Draw) (ballot : Ballot) (tx : Draw) (before rows : Rows) (row : Row Mail OrderLine) → ticks_from seat group ballot tx before (rows ++ row ∷ []) ≡ ticks_from seat group ballot tx before rows + one_at group ballot tx (before ++ rows) row
  ticks_push group ballot tx before [] row =
      let same : one_at group ballot tx (before ++ []) row ≡ one_at group ballot tx before row = ap (λ (rs : Rows). one_at group ballot tx rs row) (append-nil before) in omega (arith, same)
  ticks_push group ballot tx before (r ∷ rows) row =
      let more = ticks_push group ballot tx (before ++ r ∷ []) rows row in
      let same : one_at group ballot tx ((before ++ r ∷ []) ++ rows) row ≡ one_at group ballot tx (before ++ r ∷ rows) row = ap (λ (rs : Rows). one_at group ballot tx rs row) (append_assoc before (r ∷ []) rows) in
      omega (arith, more, same)

  -- the ticks after some rows, by group, ballot and transaction
  abbrev pub counts : Rows → Draw → Ballot → Draw → ℕ
  counts rows group ballot tx = ticks_from seat group ballot tx [] rows

  counts_push : (rows : Rows) (row : Row Mail OrderLine) (group : Draw) (ballot : Ballot) (tx : Draw) → counts (rows ++ row ∷ []) group ballot tx ≡ counts rows group ballot tx + one_at group ballot tx rows row
  counts_push rows row group ballot tx = ticks_push group ballot tx [] rows row

  grows : (rows : Rows) (row : Row Mail OrderLine) (group : Draw) (ballot : Ballot) (tx : Draw) → counts rows group ballot tx ≤ counts (rows ++ row ∷ []) group ballot tx
  grows rows row group ballot tx = let push = counts_push rows row group ballot tx in omega (arith, push)

-- a replica that coordinates is found
found_one : (group : Draw) (ballot : Ballot) (tx : Draw) (replicas : List ReplicaState) (r : ReplicaState) → Among r replicas → coordinates group ballot tx r ≡ true → list_any (coordinates group ballot tx) replicas ≡ true
found_one group ballot tx [] r a e = absurd a
found_one group ballot tx (other ∷ replicas) r (inl same) e = or_left (coordinates group ballot tx other) (list_any (coordinates group ballot tx) replicas) (subst (λ (x : ReplicaState). coordinates group ballot tx x ≡ true) (sym same) e)
found_one group ballot tx (other ∷ replicas) r (inr a) e = or_right (coordinates group ballot tx other) (list_any (coordinates group ballot tx) replicas) (found_one group ballot tx replicas r a e)

all_three : (a b c : Bool) → a ≡ true → b ≡ true → c ≡ true → (a && b && c) ≡ true
all_three true true true p q r = refl
all_three true true false p q r = cc
all_three true false c p q r = cc
all_three false b c p q r = cc

all_four : (a b c d : Bool) → a ≡ true → b ≡ true → c ≡ true → d ≡ true → (a && b && c && d) ≡ true
all_four true true true true p q r s = refl
all_four true true true false p q r s = cc
all_four true true false d p q r s = cc
all_four true false c d p q r s = cc
all_four false b c d p q r s = cc

itself : (tx : Draw) (r : ReplicaState) (body : Body) (order : ℕ) (heard : Option Heard) → settled r ≡ true → r.group.core.lock ≡ Coordinating tx body order heard → coordinates (name_of r) r.leader.ballot tx r ≡ true
itself tx r body order heard leads lock =
    let fact : is_coordinating r.group.core.lock tx ≡ true = ap (λ (l : Lock). is_coordinating l tx) lock ∙ same_name tx tx refl in
    let named : same_draw (name_of r) (name_of r) ≡ true = same_name (name_of r) (name_of r) refl in
    let ballot : same_ballot r.leader.ballot r.leader.ballot ≡ true = ballot_itself r.leader.ballot in
    all_four (same_draw (name_of r) (name_of r)) (settled r) (same_ballot r.leader.ballot r.leader.ballot) (is_coordinating r.group.core.lock tx) named leads ballot fact

-- ---- events and numbers

not_got : (o : Option Mail) (input : Input Mail OrderLine) → option_map Got o ≡ Some input → input ≡ Tick → ⊥
not_got None input e tick = cc
not_got (Some mail) input e tick = cc

-- what is taken as a tick is one
tick_event : (sent : List Mail) (event : Event OrderLine) → input_of sent event ≡ Some Tick → is_tick event ≡ true
tick_event sent event.Tick e = refl
tick_event sent (event.Deliver mail) e = absurd (not_got (numbered sent mail) Tick e refl)
tick_event sent _ e = cc

-- a node keeps its number
me_children : (children : List Base) (node : NodeState) → (with_children children node).me ≡ node.me
unfolding with_children
me_children [] node = refl
me_children (child ∷ children) node =
    me_children children (with_born child node)
    ∙ either_way (λ (n : NodeState). n.me ≡ node.me) (is_some (replica_of child.core.id node.replicas)) node (record node { replicas = with_new (born_replica slots_ahead node.me child) node.replicas }) refl refl

abbrev Own : NodeState → NodeState × List Mail → Type 0
Own node step = step.0.me ≡ node.me

me_unknown : (from : ℕ) (body : MailBody) (node : NodeState) → Own node (unknown from body node)
me_unknown from (Install group slot base sets) node =
    either_way (Own node) (not (eqb (length sets) slots_ahead) || nat_lt last_slot slot) (node, []) (with_made (made_by node.me from group slot base sets) node) refl refl
me_unknown from _ node = refl

me_taken : (mail : Mail) (o : Option ReplicaState) (group : Draw) (node : NodeState) → Own node (taken_by o group mail.from mail.body node)
me_taken mail None group node = me_unknown mail.from mail.body node
me_taken mail (Some r) group node = me_children (mailed mail.from mail.body (r, [])).1 (record node { replicas = with_replica group (mailed mail.from mail.body (r, [])).0.0 node.replicas })

me_routed : (mail : Mail) (o : Option Draw) (node : NodeState) → Own node (routed o mail.from mail.body node)
me_routed mail None node = refl
me_routed mail (Some group) node = me_taken mail (replica_of group node.replicas) group node

me_ordered : (line : OrderLine) (o : Option ReplicaState) (node : NodeState) → Own node (ordered_of o line node)
me_ordered line None node = refl
me_ordered line (Some r) node = refl

me_stays : (node : NodeState) (input : Input Mail OrderLine) → Own node (node_table node input)
me_stays node (Got mail) = either_way (Own node) (may_come mail.from mail.body) (routed (group_of_mail mail.body) mail.from mail.body node) (node, []) (me_routed mail (group_of_mail mail.body) node) refl
me_stays node Tick = refl
me_stays node (Told line) = me_ordered line (replica_of (group_of_order line.order) node.replicas) node
me_stays node Go = refl

module _ (ahead : Ahead) (scenario : Scenario) (me : ℕ) (some : 1 ≤ me) where
  abbrev pub seat : Seat Player
  seat = node_seat ahead scenario.groups scenario.policy me

  -- what holds of a node after some rows
  pub record IsKnown (rows : Rows) (node : NodeState) : Type 0 where
    pub own : node.me ≡ me
    pub keep : Each (Keeps me (counts seat rows)) node.replicas

  abbrev Known : Rows → Player → Type 0
  Known rows (Node node) = IsKnown rows node
  Known rows (Client client) = ⊥

  more_known : (rows : Rows) (row : Row Mail OrderLine) (player : Player) → Known rows player → Known (rows ++ row ∷ []) player
  more_known rows row (Client client) k = k
  more_known rows row (Node node) k = record { own = k.own; keep = still_all me (counts seat rows) (counts seat (rows ++ row ∷ [])) (grows seat rows row) node.replicas k.keep }

  -- one more row of its own
  one_known : (rows : Rows) (row : Row Mail OrderLine) (player : Player) → player ≡ value player_table seat rows → row.who ≡ me → (input : Input Mail OrderLine) → input_of (mails rows) row.event ≡ Some input → Known rows player → Known (rows ++ row ∷ []) (player_table player input).0
  one_known rows row (Client client) fact who input e k = k
  one_known rows row (Node node) fact who input e k =
      record {
        own = me_stays node input ∙ k.own;
        keep = node_keeps me (counts seat rows) (counts seat (rows ++ row ∷ [])) (grows seat rows row) node k.own some k.keep input
            (λ tick r stood leads tx body order heard lock. (
            let found : node_coordinates (name_of r) r.leader.ballot tx (value player_table seat rows) ≡ true =
            subst (λ (p : Player). node_coordinates (name_of r) r.leader.ballot tx p ≡ true) fact (found_one (name_of r) r.leader.ballot tx node.replicas r stood (itself tx r body order heard leads lock)) in
            let counted : is_counted seat (name_of r) r.leader.ballot tx rows row ≡ true =
            all_three (eqb row.who me) (is_tick row.event) (node_coordinates (name_of r) r.leader.ballot tx (value player_table seat rows)) (eq-eqb row.who me who) (tick_event (mails rows) row.event (e ∙ ap Some tick)) found in
            let one : one_at seat (name_of r) r.leader.ballot tx rows row ≡ 1 = cond-true (is_counted seat (name_of r) r.leader.ballot tx rows row) 1 0 counted in
            let push = counts_push seat rows row (name_of r) r.leader.ballot tx in omega (arith, push, one)));
      }

  acted_known : (rows : Rows) (row : Row Mail OrderLine) (o : Option (Input Mail OrderLine)) → input_of (mails rows) row.event ≡ o → row.who ≡ me → Known rows (value player_table seat rows) → Known (rows ++ row ∷ []) (acted player_table (value player_table seat rows) o).0
  acted_known rows row None e who k = more_known rows row (value player_table seat rows) k
  acted_known rows row (Some input) e who k = one_known rows row (value player_table seat rows) refl who input e k

  push_known : (rows : Rows) (row : Row Mail OrderLine) → Known rows (value player_table seat rows) → Known (rows ++ row ∷ []) (value player_table seat (rows ++ row ∷ []))
  push_known rows row k =
      subst (Known (rows ++ row ∷ [])) (sym (value-snoc player_table seat rows row))
      (cond_both (eqb row.who me) (acted player_table (value player_table seat rows) (input_of (mails rows) row.event)).0 (value player_table seat rows) (Known (rows ++ row ∷ []))
      (λ e. acted_known rows row (input_of (mails rows) row.event) refl (eqb-true row.who me e) k) (λ _. more_known rows row (value player_table seat rows) k))

  -- a node at its birth has waited for nothing
  born_keep : (groups : List Base) → Each (Keeps me (counts seat [])) (born_replicas ahead.slots me groups)
  born_keep [] = tt
  born_keep (base ∷ groups) =
      either_way (λ (bases : List Base). Each (Keeps me (counts seat [])) (map (λ b. born_replica ahead.slots me b) bases)) (is_member base.core.members me) _ _
      (record { me_is = refl; patient = λ runs. omega arith }, born_keep groups) (born_keep groups)

  known_after : (before rows : Rows) → Known before (value player_table seat before) → Known (before ++ rows) (value player_table seat (before ++ rows))
  known_after before [] k = subst (λ (rs : Rows). Known rs (value player_table seat rs)) (sym (append-nil before)) k
  known_after before (row ∷ rows) k = subst (λ (rs : Rows). Known rs (value player_table seat rs)) (append_assoc before (row ∷ []) rows) (known_after (before ++ row ∷ []) rows (push_known before row k))

  -- so it is after any rows
  pub node_known : (rows : Rows) (node : NodeState) → value player_table seat rows ≡ Node node → IsKnown rows node
  node_known rows node e = subst (Known rows) e (known_after [] rows (record { own = refl; keep = born_keep scenario.groups }))

  -- and it is no client
  pub no_client : (rows : Rows) (client : ClientState) → value player_table seat rows ≡ Client client → ⊥
  no_client rows client e = subst (Known rows) e (known_after [] rows (record { own = refl; keep = born_keep scenario.groups }))
