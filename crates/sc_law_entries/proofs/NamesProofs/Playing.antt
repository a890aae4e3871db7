-- All rows of a node's table and of a client's.
use Rattle.std.proofs.Common.{◌≡◌, ℕ, ◌||◌, not, nat_lt, eqb, Bool, true, List, [], ◌∷◌, ◌++◌, length, Option, Some, None, refl, sym, subst}
use Rattle.std.specs.Prelude.{is_some}
use Rattle.std.specs.Option.{option_map}
use Rattle.std.specs.Map.{set_value, remove_entry}
use Rattle.std.proofs.lemmas.Bool.{cond_both}
use Rattle.sc_base.specs.Definitions.{Each, end_of, same_draw, Drawer, next_name}
use Rattle.sc_base.proofs.Lemmas.{draw_is}
use Rattle.sc_node_table.specs.Values.{Draw, Input, Got, Base, OrderLine, Mail, MailBody, Request, Answer, Prepare, Accept, Learn, Ask, Install, TxPrepare, TxElsewhere, TxWatch, Told as ToldMail}
use Rattle.sc_actor.specs.declared.rows.Input.TheVariants.{Tick, Go, Told}
use Rattle.sc_client_table.specs.table.TableDefinitions.{Client as ClientState, ClientStep, table}
use Rattle.sc_words.specs.declared.commands.orders.OrderRefusal.TheVariants as Why
use Rattle.sc_words.specs.declared.commands.orders.OrderResult.TheVariants as Results
use Rattle.sc_client_table.specs.declared.lookup.ways.Way.{Way}
use Rattle.sc_client_table.specs.lookup.LookupDefinitions.{KnownGroups, way_to, target_in, target_of, changed, starting, group_learnt, new_way, next_target}
use Rattle.sc_mail.specs.declared.bodies.AnswerBody.TheVariants as Answers
use Rattle.sc_node_table.specs.NodeDefinitions.{NodeState, replica_of, with_replica, with_new, group_of_mail, absent, with_made, unknown, may_come, with_born, with_children, taken_by, routed, on_mail, group_of_order, ordered_of, ticked, node_table, takes_name, untaken, ordered_row, names_after_tick, ReplicaState, Place, Executed, name_of, born_replica, last_slot, tick_row, made_by, mailed, slots_ahead}
use Rattle.sc_words.proofs.PaxosProofs.PaxosLemmas.{Each-append}
use Rattle.sc_law_entries.specs.names.NameDefinitions.{Opt, CoreNames, BodiesNames, MailNames, ReplicaNames, NodeNames, ClientNames, Owned, waited, wished_at, drawn_wishing, drawn_ticking}
use Rattle.sc_law_entries.proofs.NamesProofs.EachFound.{opt_find}
use Rattle.sc_law_walks.proofs.WalkLemmas.{either_way, ClientParts, parts_step}
use Rattle.sc_law_entries.proofs.NamesProofs.Sent.{Sent, sent_names}
use Rattle.sc_law_entries.proofs.NamesProofs.HeldNames.{Fine, born_names}
use Rattle.sc_law_entries.proofs.NamesProofs.NamesInRows.{Kids, made_names, tick_names, mailed_names, mailed_kids, ordered_row_names, order_names}
use Rattle.sc_law_walks.proofs.WalkLemmas.{replaced_each, added_each}

module _ (K : Draw → Type 0) where
  abbrev Rs : List ReplicaState → Type 0
  Rs replicas = Each (ReplicaNames K) replicas

  abbrev Drawn : List Owned → Type 0
  Drawn drawn = Each (λ (owned : Owned). K owned.name) drawn

  -- ---- a node

  abbrev NodeStep : NodeState × List Mail → Type 0
  NodeStep p = NodeNames K p.0 × Sent K p.1

  absent_names : (me from : ℕ) (body : MailBody) → BodiesNames K body → Sent K (absent me from body)
  absent_names me from (Request group client seq op) b = sent_names K me _ (Answer group seq (Answers.NotLeader None)) [] (b, tt) tt
  absent_names me from (Prepare group ballot from_slot) b = sent_names K me from (Ask group 0) [] b tt
  absent_names me from (Accept group ballot slot command) b = sent_names K me from (Ask group 0) [] b.0 tt
  absent_names me from (Learn group slot command) b = sent_names K me from (Ask group 0) [] b.0 tt
  absent_names me from (TxPrepare tx offer) b = sent_names K me from (TxElsewhere tx offer.coord None) [] (b.0, b.1.coord) tt
  absent_names me from (TxWatch tx watch) b = sent_names K me from (TxElsewhere tx watch.coord None) [] (b.0, b.1.coord) tt
  absent_names me from _ b = tt

  made_step : (place : Place) (node : NodeState) → Fine K place → NodeNames K node → NodeStep (with_made place node)
  made_step (r, mails) node f k = (added_each (ReplicaNames K) r node.replicas f.0 k, f.1)

  unknown_names : (from : ℕ) (body : MailBody) (node : NodeState) → BodiesNames K body → NodeNames K node → NodeStep (unknown from body node)
  unknown_names from (Install group slot base sets) node b k =
      either_way NodeStep (not (eqb (length sets) slots_ahead) || nat_lt last_slot slot) (node, []) (with_made (made_by node.me from group slot base sets) node) (k, tt)
      (made_step (made_by node.me from group slot base sets) node (made_names K node.me from group slot base sets b.0 b.1) k)
  unknown_names from (Request group client seq op) node b k = (k, absent_names node.me from (Request group client seq op) b)
  unknown_names from (Prepare group ballot from_slot) node b k = (k, absent_names node.me from (Prepare group ballot from_slot) b)
  unknown_names from (Accept group ballot slot command) node b k = (k, absent_names node.me from (Accept group ballot slot command) b)
  unknown_names from (Learn group slot command) node b k = (k, absent_names node.me from (Learn group slot command) b)
  unknown_names from (TxPrepare tx offer) node b k = (k, absent_names node.me from (TxPrepare tx offer) b)
  unknown_names from (TxWatch tx watch) node b k = (k, absent_names node.me from (TxWatch tx watch) b)
  unknown_names from _ node b k = (k, tt)

  kid_names : (child : Base) (node : NodeState) → CoreNames K child.core → NodeNames K node → NodeNames K (with_born child node)
  kid_names child node c k =
      either_way (NodeNames K) (is_some (replica_of child.core.id node.replicas)) node (record node { replicas = with_new (born_replica slots_ahead node.me child) node.replicas }) k
      (added_each (ReplicaNames K) (born_replica slots_ahead node.me child) node.replicas (born_names K slots_ahead node.me child c) k)

  kids_names : (children : List Base) (node : NodeState) → Kids K children → NodeNames K node → NodeNames K (with_children children node)
  unfolding with_children
  kids_names [] node c k = k
  kids_names (child ∷ children) node c k = kids_names children (with_born child node) c.1 (kid_names child node c.0 k)

  taken_names : (o : Option ReplicaState) (group : Draw) (from : ℕ) (body : MailBody) (node : NodeState) → Opt (ReplicaNames K) o → BodiesNames K body → NodeNames K node → NodeStep (taken_by o group from body node)
  taken_names None group from body node r b k = unknown_names from body node b k
  taken_names (Some replica) group from body node r b k =
      let after : Executed = mailed from body (replica, []) in
      let f : Fine K after.0 = mailed_names K from body (replica, []) b (r, tt) in (
        kids_names after.1 (record node { replicas = with_replica group after.0.0 node.replicas }) (mailed_kids K from body (replica, []) b (r, tt)) (replaced_each (ReplicaNames K) group after.0.0 node.replicas f.0 k),
        f.1,
      )

  of_group : (group : Draw) (node : NodeState) → NodeNames K node → Opt (ReplicaNames K) (replica_of group node.replicas)
  of_group group node k = opt_find (ReplicaNames K) (λ r. same_draw (name_of r) group) node.replicas k

  routed_names : (o : Option Draw) (from : ℕ) (body : MailBody) (node : NodeState) → BodiesNames K body → NodeNames K node → NodeStep (routed o from body node)
  routed_names None from body node b k = (k, tt)
  routed_names (Some group) from body node b k = taken_names (replica_of group node.replicas) group from body node (of_group group node k) b k

  mail_names : (from : ℕ) (body : MailBody) (node : NodeState) → BodiesNames K body → NodeNames K node → NodeStep (on_mail from body node)
  mail_names from body node b k = either_way NodeStep (may_come from body) (routed (group_of_mail body) from body node) (node, []) (routed_names (group_of_mail body) from body node b k) (k, tt)

  order_by : (o : Option ReplicaState) (line : OrderLine) (node : NodeState) → replica_of (group_of_order line.order) node.replicas ≡ o → Opt (ReplicaNames K) o
      → ((r : ReplicaState) → o ≡ Some r → untaken node.draws line r ≡ None → takes_name line.order ≡ true → K (next_name node.draws)) → NodeNames K node → NodeStep (ordered_of o line node)
  order_by None line node e r d k = (k, sent_names K node.me 0 (ToldMail line.number (Results.Refused (Why.NotLeader None))) [] tt tt)
  order_by (Some replica) line node e r d k =
      let f : Fine K (ordered_row node.draws line (replica, [])) = ordered_row_names K node.draws line (replica, []) (λ taken. order_names K (next_name node.draws) line.number line.order (λ named. d replica refl taken named)) (r, tt) in
      (replaced_each (ReplicaNames K) (group_of_order line.order) (ordered_row node.draws line (replica, [])).0 node.replicas f.0 k, f.1)

  -- whatever each of two lists has
  each_parts : (first later : List Owned) → Drawn (first ++ later) → Drawn first × Drawn later
  each_parts [] later d = (tt, d)
  each_parts (owned ∷ first) later d = (let parts = each_parts first later d.1 in ((d.0, parts.0), parts.1))

  ticked_names : (on : Bool) (drawer : Drawer) (replicas : List ReplicaState) (mails : List Mail) → Drawn (drawn_ticking on drawer replicas) → Rs replicas → Sent K mails
      → Rs (ticked on drawer replicas mails).0 × Sent K (ticked on drawer replicas mails).1
  unfolding ticked
  ticked_names on drawer [] mails d k m = (tt, m)
  ticked_names on drawer (r ∷ replicas) mails d k m =
      let parts = each_parts (drawn_wishing drawer (wished_at on r) (waited r)) (drawn_ticking on (names_after_tick on drawer r) replicas) d in
      let f : Fine K (tick_row on drawer (r, mails)) = tick_names K on drawer r mails parts.0 (k.0, m) in
      let others = ticked_names on (names_after_tick on drawer r) replicas (tick_row on drawer (r, mails)).1 parts.1 k.1 f.1 in
      ((f.0, others.0), others.1)

  -- what an input brings
  abbrev pub Brings : NodeState → Input Mail OrderLine → Type 0
  Brings node (Got mail) = MailNames K mail
  Brings node Tick = Drawn (drawn_ticking node.policy node.draws node.replicas)
  Brings node Go = Unit {0}
  Brings node (Told line) = (r : ReplicaState) → replica_of (group_of_order line.order) node.replicas ≡ Some r → untaken node.draws line r ≡ None → takes_name line.order ≡ true → K (next_name node.draws)

  pub node_names : (node : NodeState) (input : Input Mail OrderLine) → Brings node input → NodeNames K node → NodeStep (node_table node input)
  node_names node (Got mail) b k = mail_names mail.from mail.body node b.body k
  node_names node Tick b k = ticked_names node.policy node.draws node.replicas [] b k tt
  node_names node Go b k = (k, tt)
  node_names node (Told line) b k = order_by (replica_of (group_of_order line.order) node.replicas) line node refl (of_group (group_of_order line.order) node k) b k

  -- ---- a client

  abbrev Ks : KnownGroups → Type 0
  Ks known = Each (λ (entry : Draw × Way). K entry.0) known

  abbrev C : ClientStep → Type 0
  C p = ClientNames K p.0 × Sent K p.1

  value_names : (test : Draw → Bool) (known : KnownGroups) (way : Way) → Ks known → Ks (set_value test known way)
  value_names test [] way k = tt
  value_names test (e ∷ es) way k = either_way Ks (test e.0) _ _ (k.0, k.1) (k.0, value_names test es way k.1)

  entry_names : (test : Draw → Bool) (known : KnownGroups) → Ks known → Ks (remove_entry test known)
  entry_names test [] k = tt
  entry_names test (e ∷ es) k = either_way Ks (test e.0) _ _ k.1 (k.0, entry_names test es k.1)

  changed_names : (change : Way → Way) (group : Draw) (known : KnownGroups) (o : Option Way) → Ks known → Ks (changed change group known o)
  changed_names change group known None k = k
  changed_names change group known (Some way) k = value_names (same_draw group) known (change way) k

  learnt_names : (group : Draw) (lo : ℕ) (members : List ℕ) (known : KnownGroups) → K group → Ks known → Ks (group_learnt group lo members known)
  learnt_names group lo members known g k =
      either_way Ks (is_some (way_to group known)) (starting group lo known) (known ++ (group, new_way lo members) ∷ []) (changed_names (λ way. record way { lo = lo }) group known (way_to group known) k)
      (Each-append (λ (entry : Draw × Way). K entry.0) known ((group, new_way lo members) ∷ []) k (g, tt))

  -- a group that has a target is known
  target_name : (group : Draw) (known : KnownGroups) (target : ℕ) → target_in group known ≡ Some target → Ks known → K group
  target_name group [] target t k = absurd (cc)
  target_name group (entry ∷ known) target t k =
      cond_both (same_draw group entry.0) (Some entry.1) (way_to group known) (λ (o : Option Way). option_map target_of o ≡ Some target → K group)
      (λ same _. subst K (sym (draw_is group entry.0 same)) k.0) (λ _ more. target_name group known target more k.1) t

  name_parts : ClientParts (ClientNames K) (MailNames K) (MailNames K)
  name_parts = record {
    waits = λ waiting client k. record { known = k.known; asked = k.asked };
    replied = λ reply client k. record { known = k.known; asked = k.asked };
    asks = λ group target request client t k. (let g = target_name group client.known target t k.known in (record { known = k.known; asked = g }, record { body = g }));
    passed = λ group client k. record { known = changed_names (λ way. record way { preferred = Some (next_target way) }) group client.known (way_to group client.known) k.known; asked = k.asked };
    hinted = λ mail group seq hint client m e k. record { known = changed_names (λ way. record way { preferred = Some hint }) group client.known (way_to group client.known) k.known; asked = k.asked };
    not_mine = λ mail group seq arc succ client m e k. record {
      known =
          learnt_names succ.group (end_of arc) succ.members (starting group arc.lo client.known) (subst (BodiesNames K) e m.body).1
          (changed_names (λ way. record way { lo = arc.lo }) group client.known (way_to group client.known) k.known);
      asked = k.asked;
    };
    gone = λ mail group seq into client m e k. record {
      known = learnt_names into.group into.lo into.members (remove_entry (same_draw group) client.known) (subst (BodiesNames K) e m.body).1 (entry_names (same_draw group) client.known k.known);
      asked = k.asked;
    };
  }

  -- what an input brings to a client
  abbrev pub BringsClient : Input Mail OrderLine → Type 0
  BringsClient (Got mail) = MailNames K mail
  BringsClient Tick = Unit {0}
  BringsClient Go = Unit {0}
  BringsClient (Told line) = Unit {0}

  pub client_names : (client : ClientState) (input : Input Mail OrderLine) → BringsClient input → ClientNames K client → C (table client input)
  client_names client input b k = parts_step (ClientNames K) (MailNames K) (MailNames K) name_parts client input (λ mail e. subst BringsClient e b) k
