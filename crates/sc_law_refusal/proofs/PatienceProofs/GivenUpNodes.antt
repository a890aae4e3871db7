-- What holds of each GiveUp that stands at a node, and in its mail, is kept by the node's step.
use Rattle.std.proofs.Common.{◌≡◌, ℕ, nat_le, nat_lt, eqb, Bool, true, false, refl, sym, subst, List, [], ◌∷◌, ◌++◌, length, Option, Some, None}
use Rattle.std.specs.Prelude.{is_some}
use Rattle.std.proofs.lemmas.Bool.{cond_both, eqb-true}
use Rattle.sc_base.specs.Definitions.{Drawer, Each, same_draw}
use Rattle.sc_base.proofs.Lemmas.{draw_is}
use Rattle.sc_node_table.specs.Values.{Draw, Input, Got, Base, Body, Lock, Free, Coordinating, Promised, Watching, GiveUp, Heard, OrderLine, Mail, MailBody, Request, Prepare, Promise, Accept, Accepted, Nack, Learn, Install, TxPrepare, TxWatch}
use Rattle.sc_actor.specs.declared.rows.Input.TheVariants.{Tick, Go, Told}
use Rattle.sc_words.proofs.PaxosProofs.PaxosLemmas.{Each-append, Each-among, Each-weaker, find_found}
use Rattle.sc_node_table.specs.NodeDefinitions.{NodeState, ReplicaState, Place, name_of, slots_ahead, last_slot, born_replica, installed_replica, forgotten, made_by, named, replica_of, with_replica, with_new, with_born, with_children, with_made, unknown, may_come, taken_by, routed, group_of_mail, group_of_order, ordered_of, ordered_row, mailed, ticked, tick_row, names_after_tick, node_table, settled, waited_in, with_act, has_act, one_tick_more, patience}
use Rattle.sc_law_walks.proofs.Ways.{either_way, unless_so}
use Rattle.sc_law_walks.proofs.PlaceWalks.{Before, After, Hears}
use Rattle.sc_law_walks.proofs.PlaceRows.{takes_mail, orders, looks_up}
use Rattle.sc_law_walks.proofs.PlaceTicks.{ticks_where}
use Rattle.sc_law_walks.specs.WalkDefinitions.{IsKept}
use Rattle.sc_law_refusal.proofs.PatienceProofs.GivenUpCommands.{Gives, MailGives, Holds, with_acts, with_waits, forgotten_gives}
use Rattle.sc_law_refusal.proofs.PatienceProofs.GivenUpRows.{Stands, given_facts, given_walk, given_agains}
use Rattle.sc_law_walks.proofs.WalkLemmas.{replaced_each, added_each}

-- a replica with the name of a group
by_name : (F : Draw → Draw → Type 0) (group : Draw) (r : ReplicaState) → name_of r ≡ group → Holds (F (name_of r)) r → Holds (F group) r
by_name F group r same h = subst (λ (name : Draw). Holds (F name) r) same h

module _ (F : Draw → Draw → Type 0) (me : ℕ) where
  -- a replica of the node, and each GiveUp at it
  abbrev pub Keeps : ReplicaState → Type 0
  Keeps r = IsKept me r × Holds (F (name_of r)) r

  abbrev pub All : List ReplicaState → Type 0
  All replicas = Each Keeps replicas

  abbrev Mails : List Mail → Type 0
  Mails mails = Each (λ (mail : Mail). MailGives F mail.body) mails

  abbrev pub Step : NodeState × List Mail → Type 0
  Step step = (step.0.me ≡ me) × All step.0.replicas × Mails step.1

  into : (group : Draw) (r : ReplicaState) (mails : List Mail) → name_of r ≡ group → Keeps r → Mails mails → Before (given_facts F me group) (r, mails)
  into group r mails same k m = (k.0, (same, by_name F group r same k.1, m))

  out : (group : Draw) (place : Place) → After (given_facts F me group) place → Keeps place.0 × Mails place.1
  out group place k = ((k.0, subst (λ (name : Draw). Holds (F name) place.0) (sym k.1.0) k.1.1), k.1.2)

  -- ---- the replicas of a node

  pub born : (base : Base) → Keeps (born_replica slots_ahead me base)
  born base = ((refl, refl, ((λ off. (refl, refl, refl)), tt, tt)), record { backlog = tt; acts = tt; flights = tt; ready = tt; reports = tt; accepted = tt; log = tt })

  child_step : (child : Base) (node : NodeState) (mails : List Mail) → Step (node, mails) → Step (with_born child node, mails)
  child_step child node mails k =
      either_way (λ (n : NodeState). Step (n, mails)) (is_some (replica_of child.core.id node.replicas)) node (record node { replicas = with_new (born_replica slots_ahead node.me child) node.replicas }) k
      (k.0, added_each Keeps (born_replica slots_ahead node.me child) node.replicas (subst (λ (n : ℕ). Keeps (born_replica slots_ahead n child)) (sym k.0) (born child)) k.1, k.2)

  children_step : (children : List Base) (node : NodeState) (mails : List Mail) → Step (node, mails) → Step (with_children children node, mails)
  unfolding with_children
  children_step [] node mails k = k
  children_step (child ∷ children) node mails k = children_step children (with_born child node) mails (child_step child node mails k)

  -- ---- a mail

  installed_kept : (group : Draw) (slot : ℕ) (base : Base) (sets : List (List ℕ)) → length sets ≡ slots_ahead → IsKept me (installed_replica me slot (named group base) sets)
  unfolding forgotten
  installed_kept group slot base sets many = (refl, many, ((λ off. (refl, refl, refl)), tt, tt))

  installed_name : (group : Draw) (slot : ℕ) (base : Base) (sets : List (List ℕ)) → name_of (installed_replica me slot (named group base) sets) ≡ group
  unfolding forgotten
  installed_name group slot base sets = refl

  installed : (group : Draw) (slot : ℕ) (base : Base) (sets : List (List ℕ)) → length sets ≡ slots_ahead → Before (given_facts F me group) (installed_replica me slot (named group base) sets, [])
  installed group slot base sets many =
      (installed_kept group slot base sets many, (installed_name group slot base sets, forgotten_gives (F group) slot _ (record { backlog = tt; acts = tt; flights = tt; ready = tt; reports = tt; accepted = tt; log = tt }), tt))

  installed_off : (group : Draw) (slot : ℕ) (base : Base) (sets : List (List ℕ)) → (installed_replica me slot (named group base) sets).running ≡ false
  unfolding forgotten
  installed_off group slot base sets = refl

  makes : (from : ℕ) (group : Draw) (slot : ℕ) (base : Base) (sets : List (List ℕ)) → length sets ≡ slots_ahead → (let place : Place = made_by me from group slot base sets in Keeps place.0 × Mails place.1)
  unfolding made_by
  makes from group slot base sets many =
      out group (made_by me from group slot base sets) (looks_up (given_walk F me group) from (installed_replica me slot (named group base) sets, []) (installed_off group slot base sets) (installed group slot base sets many))

  unknown_step : (from : ℕ) (body : MailBody) (node : NodeState) → (node.me ≡ me) × All node.replicas → Step (unknown from body node)
  unknown_step from (Install group slot base sets) node k =
      unless_so Step (eqb (length sets) slots_ahead) (nat_lt last_slot slot) (node, []) (with_made (made_by node.me from group slot base sets) node) (k.0, k.1, tt)
      (λ e. (
      let many : length sets ≡ slots_ahead = eqb-true (length sets) slots_ahead e in
      let m = subst (λ (n : ℕ). Keeps (made_by n from group slot base sets).0 × Mails (made_by n from group slot base sets).1) (sym k.0) (makes from group slot base sets many) in
      (k.0, added_each Keeps (made_by node.me from group slot base sets).0 node.replicas m.0 k.1, m.1)))
  unknown_step from (Request group client seq op) node k = (k.0, k.1, (tt, tt))
  unknown_step from (Prepare group ballot from_slot) node k = (k.0, k.1, (tt, tt))
  unknown_step from (Accept group ballot slot command) node k = (k.0, k.1, (tt, tt))
  unknown_step from (Learn group slot command) node k = (k.0, k.1, (tt, tt))
  unknown_step from (TxPrepare tx offer) node k = (k.0, k.1, (tt, tt))
  unknown_step from (TxWatch tx watch) node k = (k.0, k.1, (tt, tt))
  unknown_step from _ node k = (k.0, k.1, tt)

  hears : (group : Draw) (body : MailBody) → group_of_mail body ≡ Some group → MailGives F body → Hears (given_facts F me group) body
  hears group (Accept of ballot slot command) e g = (let same : of ≡ group = cc in (tt, subst (λ (name : Draw). Gives (F name) command) same g))
  hears group (Learn of slot command) e g = (let same : of ≡ group = cc in (subst (λ (name : Draw). Gives (F name) command) same g, tt))
  hears group (Promise of ballot reports) e g =
      let same : of ≡ group = cc in
      Each-weaker (λ report. Gives (F of) report.value) (λ report. Unit {0} × Gives (F group) report.value) (λ report q. (tt, subst (λ (name : Draw). Gives (F name) report.value) same q)) reports g
  hears group (Prepare of ballot from_slot) e g = (tt, tt)
  hears group (Accepted of ballot slot) e g = tt
  hears group (Nack of promised) e g = tt
  hears group (Install of slot base sets) e g = (tt, tt)
  hears group _ e g = tt

  taken_step : (o : Option ReplicaState) (group : Draw) (from : ℕ) (body : MailBody) (node : NodeState) → replica_of group node.replicas ≡ o → group_of_mail body ≡ Some group → MailGives F body → (node.me ≡ me) × All node.replicas → Step (taken_by o group from body node)
  taken_step None group from body node e fact g k = unknown_step from body node k
  taken_step (Some r) group from body node e fact g k =
      let found = find_found (λ (other : ReplicaState). same_draw (name_of other) group) node.replicas r e in
      let same : name_of r ≡ group = draw_is (name_of r) group found.1 in
      let after = mailed from body (r, []) in
      let kept = out group after.0 (takes_mail (given_walk F me group) from body (r, []) (hears group body fact g) (into group r [] same (Each-among Keeps node.replicas r k.1 found.0) tt)) in
      children_step after.1 (record node { replicas = with_replica group after.0.0 node.replicas }) after.0.1 (k.0, replaced_each Keeps group after.0.0 node.replicas kept.0 k.1, kept.1)

  routed_step : (o : Option Draw) (from : ℕ) (body : MailBody) (node : NodeState) → group_of_mail body ≡ o → MailGives F body → (node.me ≡ me) × All node.replicas → Step (routed o from body node)
  routed_step None from body node fact g k = (k.0, k.1, tt)
  routed_step (Some group) from body node fact g k = taken_step (replica_of group node.replicas) group from body node refl fact g k

  -- ---- an order

  ordered_step : (o : Option ReplicaState) (line : OrderLine) (node : NodeState) → replica_of (group_of_order line.order) node.replicas ≡ o → (node.me ≡ me) × All node.replicas → Step (ordered_of o line node)
  ordered_step None line node e k = (k.0, k.1, (tt, tt))
  ordered_step (Some r) line node e k =
      let group : Draw = group_of_order line.order in
      let found = find_found (λ (other : ReplicaState). same_draw (name_of other) group) node.replicas r e in
      let same : name_of r ≡ group = draw_is (name_of r) group found.1 in
      let after : Place = ordered_row node.draws line (r, []) in
      let kept = out group after (orders (given_walk F me group) node.draws line (r, []) (into group r [] same (Each-among Keeps node.replicas r k.1 found.0) tt)) in
      (k.0, replaced_each Keeps group after.0 node.replicas kept.0 k.1, kept.1)

  -- ---- a tick

  -- a settled coordinator that has waited long enough may give up
  abbrev pub MayEnd : ReplicaState → Type 0
  MayEnd r = (tx : Draw) (body : Body) (order : ℕ) (heard : Option Heard) → settled r ≡ true → r.group.core.lock ≡ Coordinating tx body order heard → nat_le patience (one_tick_more r.waits) ≡ true → has_act (GiveUp tx) r ≡ false → F (name_of r) tx

  waits : (lock : Lock) (r : ReplicaState) (mails : List Mail) → r.group.core.lock ≡ lock → settled r ≡ true → MayEnd r → Stands F me (name_of r) (r, mails) → Stands F me (name_of r) (waited_in lock r, mails)
  waits Free r mails e leads may k = k
  waits (Coordinating tx body order heard) r mails e leads may k =
      let longer : ReplicaState = record r { waits = one_tick_more r.waits } in
      let after : ReplicaState = record longer { acts = longer.acts ++ GiveUp tx ∷ [] } in
      let more : Holds (F (name_of r)) longer = with_waits (F (name_of r)) r longer.waits k.1 in
      cond_both (nat_le patience (one_tick_more r.waits)) (with_act (GiveUp tx) longer) longer (λ (x : ReplicaState). Stands F me (name_of r) (x, mails))
      (λ long. cond_both (has_act (GiveUp tx) longer) longer after (λ (x : ReplicaState). Stands F me (name_of r) (x, mails)) (λ _. (k.0, more, k.2))
      (λ none. (k.0, with_acts (F (name_of r)) longer after.acts (Each-append (Gives (F (name_of r))) longer.acts (GiveUp tx ∷ []) k.1.acts (may tx body order heard leads e long none, tt)) more, k.2))) (λ _. (k.0, more, k.2))
  waits (Promised tx offer) r mails e leads may k = k
  waits (Watching tx watch) r mails e leads may k = k

  ticked_step : (on : Bool) (drawer : Drawer) (replicas : List ReplicaState) (mails : List Mail) → Each MayEnd replicas → All replicas → Mails mails → All (ticked on drawer replicas mails).0 × Mails (ticked on drawer replicas mails).1
  unfolding ticked
  ticked_step on drawer [] mails may k m = (tt, m)
  ticked_step on drawer (r ∷ replicas) mails may k m =
      let after : Place = tick_row on drawer (r, mails) in
      let one = out (name_of r) after (ticks_where (given_walk F me (name_of r)) (given_agains F me (name_of r)) on drawer r mails (λ leads more l. waits r.group.core.lock r more refl leads may.0 l) (into (name_of r) r mails refl k.0 m)) in
      let others = ticked_step on (names_after_tick on drawer r) replicas after.1 may.1 k.1 one.1 in
      ((one.0, others.0), others.1)

  -- ---- any input

  -- what a node may take: a mail of which each GiveUp is allowed, and a tick where those that give up may
  abbrev pub Takes : NodeState → Input Mail OrderLine → Type 0
  Takes node (Got mail) = MailGives F mail.body
  Takes node Tick = Each MayEnd node.replicas
  Takes node Go = Unit {0}
  Takes node (Told line) = Unit {0}

  pub node_step : (node : NodeState) (input : Input Mail OrderLine) → Takes node input → (node.me ≡ me) × All node.replicas → Step (node_table node input)
  node_step node (Got mail) g k =
      either_way Step (may_come mail.from mail.body) (routed (group_of_mail mail.body) mail.from mail.body node) (node, []) (routed_step (group_of_mail mail.body) mail.from mail.body node refl g k) (k.0, k.1, tt)
  node_step node Tick g k = (let after = ticked_step node.policy node.draws node.replicas [] g k.1 tt in (k.0, after.0, after.1))
  node_step node Go g k = (k.0, k.1, tt)
  node_step node (Told line) g k = ordered_step (replica_of (group_of_order line.order) node.replicas) line node refl k
