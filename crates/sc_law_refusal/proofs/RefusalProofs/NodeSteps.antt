-- A node's whole step: each of its mails has its cause at a replica, and so has each GiveUp that is queued after it.
use Rattle.std.proofs.Common.{◌≡◌, ◌≤◌, ◌+◌, arith, ◌∙◌, ℕ, ◌-◌, ◌^◌, inl, inr, ◌||◌, not, nat_lt, eqb, Bool, true, false, cond, List, [], ◌∷◌, ◌++◌, length, Option, Some, None, refl, sym, ap, subst, append-nil, append_assoc}
use Rattle.std.specs.Prelude.{is_some}
use Rattle.sc_base.specs.Definitions.{Among, Each, Drawer, same_draw, is_member, least_of}
use Rattle.std.proofs.lemmas.Bool.{and_parts}
use Rattle.std.specs.Prelude.{⊤}
use Rattle.sc_node_table.specs.Values.{Body, Lock, Free, Coordinating, Promised, Watching, Heard, Ballot, Draw, Input, Got, GiveUp, Base, Route, OrderLine, Mail, MailBody, Install}
use Rattle.sc_actor.specs.declared.rows.Input.TheVariants.{Tick, Told, Go}
use Rattle.sc_words.proofs.PaxosProofs.PaxosLemmas.{Each-among, Each-from, Each-weaker, find_found}
use Rattle.sc_node_table.specs.declared.ReplicaInput.{ReplicaInput}
use Rattle.sc_node_table.specs.declared.ReplicaInput.TheVariants as Given
use Rattle.sc_node_table.specs.NodeDefinitions.{elected, is_among, looked_for, looked, named, NodeState, node_table, replica_of, with_replica, is_before, with_new, group_of_mail, with_made, unknown, may_come, with_born, with_children, taken_by, routed, group_of_order, ordered_of, ticked, on_tick, ordered_row, names_after_tick, ReplicaState, Place, settled, may_offer, first_set, name_of, listed, members, born_replica, installed_replica, last_slot, forgotten, tick_row, looked_up, made_by, mailed, stepped, slots_ahead}
use Rattle.sc_law_walks.proofs.WalkLemmas.{either_way}
use Rattle.sc_law_refusal.specs.refusal.RefusalDefinitions.{at_node, AnswersHaveCauses, AreSentBy, IsSentBy, MayGiveUpAt, ActsHaveCauses, NodesHaveCauses, counted_ticks, replica_for, takers}
use Rattle.sc_law_refusal.proofs.RefusalProofs.Joining.{tick_behind}
use Rattle.sc_law_refusal.proofs.RefusalProofs.Steps.{Shows}
use Rattle.sc_law_refusal.proofs.RefusalProofs.Inputs.{still_step, step_shown}
use Rattle.sc_law_refusal.proofs.RefusalProofs.Locking.{allowed}
use Rattle.sc_law_refusal.proofs.RefusalProofs.Strangers.{unknown_says}
use Rattle.sc_law_refusal.proofs.RefusalProofs.Taking.{takes_requests}
use Rattle.sc_law_walks.proofs.WalkLemmas.{replaced_each, added_each}

-- ---- replicas in their order

-- the new value of a replica that was there is there
put_by : (b : Bool) (new r other : ReplicaState) (found : Option ReplicaState) (replicas put : List ReplicaState) → (found ≡ Some r → Among new put) → cond b (Some other) found ≡ Some r → Among new (cond b (new ∷ replicas) (other ∷ put))
put_by true new r other found replicas put more e = inl refl
put_by false new r other found replicas put more e = inr (more e)

pub put_among : (group : Draw) (new r : ReplicaState) (replicas : List ReplicaState) → replica_of group replicas ≡ Some r → Among new (with_replica group new replicas)
put_among group new r [] e = cc
put_among group new r (other ∷ replicas) e =
    put_by (same_draw (name_of other) group) new r other (replica_of group replicas) replicas (with_replica group new replicas) (λ f. put_among group new r replicas f) e

-- one more leaves those that are there
new_among : (r new : ReplicaState) (replicas : List ReplicaState) → Among r replicas → Among r (with_new new replicas)
new_among r new [] a = absurd a
new_among r new (other ∷ replicas) a =
    either_way (Among r) (is_before (name_of other) (name_of new)) (other ∷ with_new new replicas) (new ∷ other ∷ replicas) (elim a [ inl e ↦ inl e | inr b ↦ inr (new_among r new replicas b) ]) (inr a)

born_among : (r : ReplicaState) (child : Base) (node : NodeState) → Among r node.replicas → Among r (with_born child node).replicas
born_among r child node a =
    either_way (λ (n : NodeState). Among r n.replicas) (is_some (replica_of child.core.id node.replicas)) node (record node { replicas = with_new (born_replica slots_ahead node.me child) node.replicas }) a
    (new_among r (born_replica slots_ahead node.me child) node.replicas a)

pub children_among : (r : ReplicaState) (children : List Base) (node : NodeState) → Among r node.replicas → Among r (with_children children node).replicas
unfolding with_children
children_among r [] node a = a
children_among r (child ∷ children) node a = children_among r children (with_born child node) (born_among r child node a)

module _ (T : ReplicaState → Type 0) where
  abbrev Rs : List ReplicaState → Type 0
  Rs replicas = Each T replicas

  children_each : (me : ℕ) → ((child : Base) → T (born_replica slots_ahead me child)) → (children : List Base) (node : NodeState) → node.me ≡ me → Rs node.replicas → Rs (with_children children node).replicas
  unfolding with_children
  children_each me born [] node fact k = k
  children_each me born (child ∷ children) node fact k =
      let more : NodeState = record node { replicas = with_new (born_replica slots_ahead node.me child) node.replicas } in
      let there : Bool = is_some (replica_of child.core.id node.replicas) in
      children_each me born children (with_born child node) (either_way (λ (n : NodeState). n.me ≡ me) there node more fact fact)
      (either_way (λ (n : NodeState). Rs n.replicas) there node more k (added_each T (born_replica slots_ahead node.me child) node.replicas (subst (λ (n : ℕ). T (born_replica slots_ahead n child)) (sym fact) (born child)) k))

-- ---- a replica that is made of a state that is sent has waited for nothing, and has no act

record IsNew (me : ℕ) (place : Place) : Type 0 where
  me_is : place.0.me ≡ me
  acts : place.0.acts ≡ []
  waits : place.0.waits ≡ 0

elected_new : (me : ℕ) (r : ReplicaState) (mails : List Mail) → IsNew me (r, mails) → IsNew me (elected (r, mails))
unfolding elected
elected_new me r mails fact = either_way (IsNew me) (eqb r.top.round (2 ^ 32 - 1)) _ _ fact (record { me_is = fact.me_is; acts = fact.acts; waits = refl })

for_new : (me : ℕ) (gone : Option Route) (r : ReplicaState) (mails : List Mail) → IsNew me (r, mails) → IsNew me (looked_for gone (r, mails))
for_new me (Some into) r mails fact = fact
for_new me None r mails fact =
    let hinted : (hint : Option ℕ) → IsNew me (record r { hint = hint }, mails) = λ hint. record { me_is = fact.me_is; acts = fact.acts; waits = fact.waits } in
    either_way (IsNew me) (is_among (members r) r.hint) (r, mails) _ fact
    (either_way (IsNew me) (eqb (least_of (members r)) r.me) (elected (record r { hint = Some r.me }, mails)) (record r { hint = Some (least_of (members r)) }, mails)
    (elected_new me (record r { hint = Some r.me }) mails (hinted (Some r.me))) (hinted (Some (least_of (members r)))))

looked_new : (me : ℕ) (r : ReplicaState) (mails : List Mail) → IsNew me (r, mails) → IsNew me (looked (r, mails))
unfolding looked
looked_new me r mails fact = either_way (IsNew me) r.running (r, mails) (looked_for r.group.core.gone (r, mails)) fact (for_new me r.group.core.gone r mails fact)

made_new : (me from : ℕ) (group : Draw) (slot : ℕ) (base : Base) (sets : List (List ℕ)) → IsNew me (made_by me from group slot base sets)
unfolding made_by looked_up forgotten
made_new me from group slot base sets =
    let r : ReplicaState = installed_replica me slot (named group base) sets in
    either_way (IsNew me) (is_member (members r) from) (record r { hint = Some from }, []) (looked (r, [])) (record { me_is = refl; acts = refl; waits = refl }) (looked_new me r [] (record { me_is = refl; acts = refl; waits = refl }))

-- ---- the replicas tick

-- a tick behind other mails is one behind none, with its mails put last
ticks_alone : (on : Bool) (drawer : Drawer) (r : ReplicaState) (mails : List Mail) → tick_row on drawer (r, mails) ≡ ((tick_row on drawer (r, [])).0, mails ++ (tick_row on drawer (r, [])).1)
ticks_alone on drawer r mails = ap (λ (ms : List Mail). tick_row on drawer (r, ms)) (sym (append-nil mails)) ∙ tick_behind mails on drawer r []

-- what the replicas send at a tick is what each sends in its own step, one behind another, behind what was there
ticked_parts : (node after : NodeState) (on : Bool) (drawer : Drawer) (replicas : List ReplicaState) (mails : List Mail)
    → ((r : ReplicaState) → Among r replicas → (names : Drawer) → Among (tick_row on names (r, [])).0 (ticked on drawer replicas mails).0 → IsSentBy node after Tick r (tick_row on names (r, [])).1)
    → (parts : List Mail) × ((ticked on drawer replicas mails).1 ≡ mails ++ parts) × AreSentBy node after Tick replicas parts
unfolding ticked
ticked_parts node after on drawer [] mails f = ([], sym (append-nil mails), tt)
ticked_parts node after on drawer (r ∷ replicas) mails f =
    let own = ticks_alone on drawer r mails in
    let part : List Mail = (tick_row on drawer (r, [])).1 in
    let names : Drawer = names_after_tick on drawer r in
    let sent = f r (inl refl) drawer (inl (ap (λ (p : Place). p.0) own)) in
    let others = ticked_parts node after on names replicas (tick_row on drawer (r, mails)).1 (λ other among names stands. f other (inr among) names (inr stands)) in
    let behind : (ticked on names replicas (tick_row on drawer (r, mails)).1).1 ≡ mails ++ (part ++ others.0) = others.1 ∙ ap (λ (p : Place). p.1 ++ others.0) own ∙ append_assoc mails part others.0 in
    (part ++ others.0, behind, (part, others.0, refl, sent, others.2))

-- what holds of each replica in its own step holds of the replicas at a tick
ticked_replicas : (T : ReplicaState → Type 0) (on : Bool) (drawer : Drawer) (replicas : List ReplicaState) (mails : List Mail) → ((r : ReplicaState) → Among r replicas → (names : Drawer) → T (tick_row on names (r, [])).0)
    → Each T (ticked on drawer replicas mails).0
unfolding ticked
ticked_replicas T on drawer [] mails f = tt
ticked_replicas T on drawer (r ∷ replicas) mails f = (
  subst (λ (p : Place). T p.0) (sym (ticks_alone on drawer r mails)) (f r (inl refl) drawer),
  ticked_replicas T on (names_after_tick on drawer r) replicas (tick_row on drawer (r, mails)).1 (λ other among names. f other (inr among) names),
)

-- ---- a node's step

-- what a replica of a node keeps: its node's number, and where it runs a bound of its waiting
pub record Keeps (me : ℕ) (W : Draw → Ballot → Draw → ℕ) (r : ReplicaState) : Type 0 where
  pub me_is : r.me ≡ me
  pub patient : r.running ≡ true → r.waits ≤ allowed (W (name_of r)) r.leader.ballot r.group.core.lock

-- a tick more is within the bound after it
abbrev pub CountsTick : (W W' : Draw → Ballot → Draw → ℕ) → ReplicaState → Type 0
CountsTick W W' r =
    settled r ≡ true → (tx : Draw) (body : Body) (order : ℕ) (heard : Option Heard) → r.group.core.lock ≡ Coordinating tx body order heard → W (name_of r) r.leader.ballot tx + 1 ≤ W' (name_of r) r.leader.ballot tx

pub running_of : (r : ReplicaState) → settled r ≡ true → r.running ≡ true
running_of r e = (and_parts r.running (may_offer r (first_set r.sets)) e).0

module _ (me : ℕ) (W W' : Draw → Ballot → Draw → ℕ) (grows : (name : Draw) (ballot : Ballot) (tx : Draw) → W name ballot tx ≤ W' name ballot tx) where
  more_allowed : (name : Draw) (ballot : Ballot) (lock : Lock) → allowed (W name) ballot lock ≤ allowed (W' name) ballot lock
  more_allowed name ballot (Coordinating tx body order heard) = grows name ballot tx
  more_allowed name ballot Free = omega arith
  more_allowed name ballot (Promised tx offer) = omega arith
  more_allowed name ballot (Watching tx watch) = omega arith

  still_keeps : (r : ReplicaState) → Keeps me W r → Keeps me W' r
  still_keeps r k = record { me_is = k.me_is; patient = λ runs. (let few = k.patient runs in let more = more_allowed (name_of r) r.leader.ballot r.group.core.lock in omega (arith, few, more)) }

  -- a replica's own step keeps it
  step_keeps : (on : Bool) (drawer : Drawer) (r : ReplicaState) (input : ReplicaInput) → 1 ≤ me → (input ≡ Given.Tick → CountsTick W W' r) → Keeps me W r → Keeps me W' (stepped on drawer input (r, [])).0.0
  step_keeps on drawer r input some counts k =
      let fact = k.me_is in
      let now = still_keeps r k in
      let shown = step_shown r (W' (name_of r)) ⊤ (omega (arith, some, fact)) (λ q runs. now.patient runs) on drawer input (λ tick leads q tx body order heard lock. (
      let few : r.waits ≤ W (name_of r) r.leader.ballot tx = subst (λ (l : Lock). r.waits ≤ allowed (W (name_of r)) r.leader.ballot l) lock (k.patient (running_of r leads)) in
      let more = counts tick leads tx body order heard lock in omega (arith, few, more))) in
      let after : ReplicaState = (stepped on drawer input (r, [])).0.0 in
      record { me_is = shown.me_is ∙ fact; patient = λ runs. subst (λ (name : Draw). after.waits ≤ allowed (W' name) after.leader.ballot after.group.core.lock) (sym shown.name_is) (shown.patient tt runs) }

  -- so is one that is made
  new_keeps : (r : ReplicaState) → r.me ≡ me → r.waits ≡ 0 → Keeps me W' r
  new_keeps r fact none = record { me_is = fact; patient = λ runs. omega (arith, none) }

  abbrev Ks : List ReplicaState → Type 0
  Ks replicas = Each (Keeps me W') replicas

  pub still_all : (replicas : List ReplicaState) → Each (Keeps me W) replicas → Ks replicas
  still_all replicas k = Each-weaker (Keeps me W) (Keeps me W') (λ r x. still_keeps r x) replicas k

  module _ (node : NodeState) (own : node.me ≡ me) (some : 1 ≤ me) (keep : Each (Keeps me W) node.replicas) where
    unknown_keep : (from : ℕ) (body : MailBody) → Ks (unknown from body node).0.replicas
    unknown_keep from (Install group slot base sets) =
        let place : Place = made_by node.me from group slot base sets in
        let new = made_new node.me from group slot base sets in
        either_way (λ (step : NodeState × List Mail). Ks step.0.replicas) (not (eqb (length sets) slots_ahead) || nat_lt last_slot slot) (node, []) (with_made place node) (still_all node.replicas keep)
        (added_each (Keeps me W') place.0 node.replicas (new_keeps place.0 (new.me_is ∙ own) new.waits) (still_all node.replicas keep))
    unknown_keep from _ = still_all node.replicas keep

    taken_keep : (mail : Mail) (o : Option ReplicaState) (group : Draw) → replica_of group node.replicas ≡ o → Ks (taken_by o group mail.from mail.body node).0.replicas
    unfolding stepped
    taken_keep mail None group e = unknown_keep mail.from mail.body
    taken_keep mail (Some r) group e =
        let stood : Among r node.replicas = (find_found (λ (other : ReplicaState). same_draw (name_of other) group) node.replicas r e).0 in
        let new : Place = (mailed mail.from mail.body (r, [])).0 in
        let kept : Keeps me W' new.0 = step_keeps node.policy node.draws r (Given.Got mail) some (λ tick. cc) (Each-among (Keeps me W) node.replicas r keep stood) in
        let children : List Base = (mailed mail.from mail.body (r, [])).1 in
        let put : NodeState = record node { replicas = with_replica group new.0 node.replicas } in
        children_each (Keeps me W') node.me (λ child. new_keeps (born_replica slots_ahead node.me child) own refl) children put refl (replaced_each (Keeps me W') group new.0 node.replicas kept (still_all node.replicas keep))

    routed_keep : (mail : Mail) (o : Option Draw) → Ks (routed o mail.from mail.body node).0.replicas
    routed_keep mail None = still_all node.replicas keep
    routed_keep mail (Some group) = taken_keep mail (replica_of group node.replicas) group refl

    ordered_keep : (line : OrderLine) (o : Option ReplicaState) → replica_of (group_of_order line.order) node.replicas ≡ o → Ks (ordered_of o line node).0.replicas
    unfolding stepped
    ordered_keep line None e = still_all node.replicas keep
    ordered_keep line (Some r) e =
        let group : Draw = group_of_order line.order in
        let stood : Among r node.replicas = (find_found (λ (other : ReplicaState). same_draw (name_of other) group) node.replicas r e).0 in
        replaced_each (Keeps me W') group (ordered_row node.draws line (r, [])).0 node.replicas (step_keeps node.policy node.draws r (Given.Told line) some (λ tick. cc) (Each-among (Keeps me W) node.replicas r keep stood)) (still_all node.replicas keep)

    -- a node's step keeps it, if its ticks are counted
    pub node_keeps : (input : Input Mail OrderLine) → (input ≡ Tick → (r : ReplicaState) → Among r node.replicas → CountsTick W W' r) → Ks (node_table node input).0.replicas
    unfolding stepped
    node_keeps (Got mail) counts =
        either_way (λ (step : NodeState × List Mail). Ks step.0.replicas) (may_come mail.from mail.body) (routed (group_of_mail mail.body) mail.from mail.body node) (node, []) (routed_keep mail (group_of_mail mail.body)) (still_all node.replicas keep)
    node_keeps Tick counts =
        ticked_replicas (Keeps me W') node.policy node.draws node.replicas [] (λ r stood names. step_keeps node.policy names r Given.Tick some (λ tick. counts refl r stood) (Each-among (Keeps me W) node.replicas r keep stood))
    node_keeps (Told line) counts = ordered_keep line (replica_of (group_of_order line.order) node.replicas) refl
    node_keeps Go counts = still_all node.replicas keep

-- ---- the causes of a node's step

module _ (node : NodeState) (numbered : Each (λ (r : ReplicaState). 1 ≤ r.me) node.replicas) (after : NodeState) where
  -- a replica's own step
  abbrev own_step : Drawer → ReplicaInput → ReplicaState → Place
  own_step drawer input r = (stepped node.policy drawer input (r, [])).0

  abbrev May : Input Mail OrderLine → ReplicaState → Type 0
  May input later = (tx : Draw) → Among (GiveUp tx) later.acts → MayGiveUpAt counted_ticks node after input later tx

  shows : (drawer : Drawer) (input : ReplicaInput) (r : ReplicaState) → Among r node.replicas → Shows r (at_node input) (λ ballot tx. 0) ⊥ (λ never. absurd never) (own_step drawer input r)
  shows drawer input r stood =
      step_shown r (λ ballot tx. 0) ⊥ (Each-among (λ (x : ReplicaState). 1 ≤ x.me) node.replicas r numbered stood) (λ never. absurd never) node.policy drawer input (λ tick leads never. absurd never)

  -- what it sends
  step_mails : (drawer : Drawer) (input : ReplicaInput) (r : ReplicaState) → Among r node.replicas → Among (own_step drawer input r).0 after.replicas → IsSentBy node after (at_node input) r (own_step drawer input r).1
  step_mails drawer input r stood stands =
      let s = shows drawer input r stood in record { later = (own_step drawer input r).0; became = record { stood = stood; stands = stands; same = s.name_is }; causes = s.causes }

  -- one that sends nothing, and stays as it is
  still_sends : (input : Input Mail OrderLine) (r : ReplicaState) → Among r node.replicas → Among r after.replicas → IsSentBy node after input r []
  still_sends input r stood stands = record { later = r; became = record { stood = stood; stands = stands; same = refl }; causes = still_step r input }

  -- where all do
  all_still : (input : Input Mail OrderLine) (replicas : List ReplicaState) → Each (λ (r : ReplicaState). Among r node.replicas × Among r after.replicas) replicas → AreSentBy node after input replicas []
  all_still input [] each = tt
  all_still input (r ∷ replicas) each = ([], [], refl, still_sends input r each.0.0 each.0.1, all_still input replicas each.1)

  -- one replica that sends all
  one_sends : (input : Input Mail OrderLine) (r : ReplicaState) (mails : List Mail) (replicas : List ReplicaState) → replicas ≡ r ∷ [] → IsSentBy node after input r mails → AreSentBy node after input replicas mails
  one_sends input r mails replicas e s = subst (λ (rs : List ReplicaState). AreSentBy node after input rs mails) (sym e) (mails, [], sym (append-nil mails), s, tt)

  -- what it queues
  step_acts : (drawer : Drawer) (input : ReplicaInput) (r : ReplicaState) → Among r node.replicas → Among r (takers node (at_node input)) → Among (own_step drawer input r).0 after.replicas → May (at_node input) (own_step drawer input r).0
  step_acts drawer input r stood takes stands tx queued =
      let s = shows drawer input r stood in
      record { replica = r; became = record { stood = stood; stands = stands; same = s.name_is }; may = inr (takes, s.causes.acts tx) }

  -- one that takes no step
  still_acts : (input : Input Mail OrderLine) (r : ReplicaState) → Among r node.replicas → Among r after.replicas → May input r
  still_acts input r stood stands tx queued = record { replica = r; became = record { stood = stood; stands = stands; same = refl }; may = inl (omega arith) }

  -- what holds of a replica that stands after the step
  abbrev T : Input Mail OrderLine → ReplicaState → Type 0
  T input later = Among later after.replicas → May input later

  -- all that take no step
  untouched : (input : Input Mail OrderLine) → Each (T input) node.replicas
  untouched input = Each-from (T input) node.replicas (λ r stood stands. still_acts input r stood stands)

  -- one that is made has nothing queued
  none_queued : (input : Input Mail OrderLine) (r : ReplicaState) → r.acts ≡ [] → T input r
  none_queued input r none stands tx queued = absurd (subst (λ acts. Among (GiveUp tx) acts) none queued)

  -- what is shown so of all replicas after the step
  all_acts : (input : Input Mail OrderLine) → Each (T input) after.replicas → ActsHaveCauses counted_ticks node input after
  all_acts input ts later stands = Each-among (T input) after.replicas later ts stands stands

-- ---- a mail

module _ (node : NodeState) (numbered : Each (λ (r : ReplicaState). 1 ≤ r.me) node.replicas) where
  -- what a step shows
  record Step (input : Input Mail OrderLine) (step : NodeState × List Mail) : Type 0 where
    answers : AnswersHaveCauses node input step.0 step.1
    acts : ActsHaveCauses counted_ticks node input step.0

  taker_stands : (o : Option ReplicaState) (group : Draw) → replica_of group node.replicas ≡ o → Each (λ (r : ReplicaState). Among r node.replicas × Among r node.replicas) (listed o)
  taker_stands None group e = tt
  taker_stands (Some r) group e = let stood = (find_found (λ (other : ReplicaState). same_draw (name_of other) group) node.replicas r e).0 in ((stood, stood), tt)

  for_stands : (o : Option Draw) → Each (λ (r : ReplicaState). Among r node.replicas × Among r node.replicas) (replica_for o node.replicas)
  for_stands None = tt
  for_stands (Some group) = taker_stands (replica_of group node.replicas) group refl

  takers_stand : (input : Input Mail OrderLine) → Each (λ (r : ReplicaState). Among r node.replicas × Among r node.replicas) (takers node input)
  takers_stand (Got mail) = for_stands (group_of_mail mail.body)
  takers_stand (Told line) = for_stands (Some (group_of_order line.order))
  takers_stand Tick = Each-from (λ (r : ReplicaState). Among r node.replicas × Among r node.replicas) node.replicas (λ r stood. (stood, stood))
  takers_stand Go = tt

  idle : (input : Input Mail OrderLine) → Step input (node, [])
  idle input = record { answers = all_still node numbered node input (takers node input) (takers_stand input); acts = all_acts node numbered node input (untouched node numbered node input) }

  unknown_acts : (mail : Mail) (from : ℕ) (body : MailBody) (after : NodeState) → Each (T node numbered after (Got mail)) (unknown from body node).0.replicas
  unknown_acts mail from (Install group slot base sets) after =
      let place : Place = made_by node.me from group slot base sets in
      let t = untouched node numbered after (Got mail) in
      either_way (λ (step : NodeState × List Mail). Each (T node numbered after (Got mail)) step.0.replicas) (not (eqb (length sets) slots_ahead) || nat_lt last_slot slot) (node, []) (with_made place node) t
      (added_each (T node numbered after (Got mail)) place.0 node.replicas (none_queued node numbered after (Got mail) place.0 (made_new node.me from group slot base sets).acts) t)
  unknown_acts mail from _ after = untouched node numbered after (Got mail)

  -- who takes a mail for a group
  taken_by_of : (mail : Mail) (o : Option ReplicaState) (group : Draw) → group_of_mail mail.body ≡ Some group → replica_of group node.replicas ≡ o → takers node (Got mail) ≡ listed o
  taken_by_of mail o group named e = ap (λ (g : Option Draw). replica_for g node.replicas) named ∙ ap listed e

  taken_causes : (mail : Mail) (o : Option ReplicaState) (group : Draw) → group_of_mail mail.body ≡ Some group → replica_of group node.replicas ≡ o → Step (Got mail) (taken_by o group mail.from mail.body node)
  unfolding stepped
  taken_causes mail None group named e =
      let after : NodeState = (unknown mail.from mail.body node).0 in
      record {
        answers = subst (λ (rs : List ReplicaState). AreSentBy node after (Got mail) rs (unknown mail.from mail.body node).1) (sym (taken_by_of mail None group named e)) (unknown_says node mail group e named);
        acts = all_acts node numbered after (Got mail) (unknown_acts mail mail.from mail.body after);
      }
  taken_causes mail (Some r) group named e =
      let input = Given.Got mail in
      let new : Place = (mailed mail.from mail.body (r, [])).0 in
      let children : List Base = (mailed mail.from mail.body (r, [])).1 in
      let put : NodeState = record node { replicas = with_replica group new.0 node.replicas } in
      let after : NodeState = with_children children put in
      let stood : Among r node.replicas = (find_found (λ (other : ReplicaState). same_draw (name_of other) group) node.replicas r e).0 in
      let stands : Among new.0 after.replicas = children_among new.0 children put (put_among group new.0 r node.replicas e) in
      let t = T node numbered after (Got mail) in
      let who : takers node (Got mail) ≡ r ∷ [] = taken_by_of mail (Some r) group named e in
      let takes : Among r (takers node (Got mail)) = subst (Among r) (sym who) (inl refl) in
      record {
        answers = one_sends node numbered after (Got mail) r new.1 (takers node (Got mail)) who (step_mails node numbered after node.draws input r stood stands);
        acts = all_acts node numbered after (Got mail)
            (children_each t node.me (λ child here tx queued. absurd queued) children put refl
            (replaced_each t group new.0 node.replicas (λ here. step_acts node numbered after node.draws input r stood takes here) (untouched node numbered after (Got mail))));
      }

  routed_causes : (mail : Mail) (o : Option Draw) → group_of_mail mail.body ≡ o → Step (Got mail) (routed o mail.from mail.body node)
  routed_causes mail None named = idle (Got mail)
  routed_causes mail (Some group) named = taken_causes mail (replica_of group node.replicas) group named refl

  -- ---- an order

  ordered_causes : (line : OrderLine) (o : Option ReplicaState) → replica_of (group_of_order line.order) node.replicas ≡ o → Step (Told line) (ordered_of o line node)
  unfolding stepped
  ordered_causes line None e = record { answers = subst (λ (rs : List ReplicaState). AreSentBy node node (Told line) rs (ordered_of None line node).1) (sym (ap listed e)) (tt, tt); acts = all_acts node numbered node (Told line) (untouched node numbered node (Told line)) }
  ordered_causes line (Some r) e =
      let input = Given.Told line in
      let group : Draw = group_of_order line.order in
      let new : Place = ordered_row node.draws line (r, []) in
      let after : NodeState = (ordered_of (Some r) line node).0 in
      let stood : Among r node.replicas = (find_found (λ (other : ReplicaState). same_draw (name_of other) group) node.replicas r e).0 in
      let stands : Among new.0 after.replicas = put_among group new.0 r node.replicas e in
      let who : takers node (Told line) ≡ r ∷ [] = ap listed e in
      let takes : Among r (takers node (Told line)) = subst (Among r) (sym who) (inl refl) in
      record {
        answers = one_sends node numbered after (Told line) r new.1 (takers node (Told line)) who (step_mails node numbered after node.draws input r stood stands);
        acts = all_acts node numbered after (Told line)
            (replaced_each (T node numbered after (Told line)) group new.0 node.replicas (λ here. step_acts node numbered after node.draws input r stood takes here) (untouched node numbered after (Told line)));
      }

  -- ---- a tick

  tick_causes : Step Tick (on_tick node)
  unfolding stepped
  tick_causes =
      let after : NodeState = (on_tick node).0 in
      let sends = ticked_parts node after node.policy node.draws node.replicas [] (λ r stood names stands. step_mails node numbered after names Given.Tick r stood stands) in
      record {
        answers = subst (λ (ms : List Mail). AreSentBy node after Tick node.replicas ms) (sym sends.1) sends.2;
        acts = all_acts node numbered after Tick
            (ticked_replicas (T node numbered after Tick) node.policy node.draws node.replicas [] (λ r stood names. (λ here. step_acts node numbered after names Given.Tick r stood stood here)));
      }

node_caused : (node : NodeState) (numbered : Each (λ (r : ReplicaState). 1 ≤ r.me) node.replicas) (input : Input Mail OrderLine) → Step node numbered input (node_table node input)
node_caused node numbered (Got mail) =
    either_way (Step node numbered (Got mail)) (may_come mail.from mail.body) (routed (group_of_mail mail.body) mail.from mail.body node) (node, [])
    (routed_causes node numbered mail (group_of_mail mail.body) refl) (idle node numbered (Got mail))
node_caused node numbered Tick = tick_causes node numbered
node_caused node numbered (Told line) = ordered_causes node numbered line (replica_of (group_of_order line.order) node.replicas) refl
node_caused node numbered Go = idle node numbered Go

pub nodes_have_causes : NodesHaveCauses
nodes_have_causes node input numbered =
    let caused = node_caused node numbered input in record { answers = caused.answers; acts = caused.acts; requests = takes_requests node input }
