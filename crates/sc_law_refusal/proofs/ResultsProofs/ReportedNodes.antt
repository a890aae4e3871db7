-- What a node reports of orders in its step was decided in the logs of the groups of its replicas, or is refused in the step, for a cause.
use Rattle.std.proofs.Common.{◌≡◌, ℕ, ◌||◌, ◌&&◌, ◌^◌, ◌-◌, not, nat_lt, Bool, true, false, refl, sym, ◌∙◌, ap, subst, List, [], ◌∷◌, ◌++◌, length, map, Option, Some, None, eqb, cond, ◌⊎◌, inl, inr, arith}
use Rattle.std.specs.Prelude.{is_some}
use Rattle.std.proofs.lemmas.Bool.{cond_both, eqb-true}
use Rattle.sc_base.specs.Definitions.{Among, Drawer, next_name, same_draw}
use Rattle.sc_base.proofs.Lemmas.{draw_is, same_name}
use Rattle.sc_node_table.specs.Values.{Draw, Input, Got, Command, Base, Flight, Report, Route, OrderLine, OrderRefusal, OrderResult, Refused, Mail, MailBody, Request, Prepare, Promise, Accept, Accepted, Learn, Install, TxPrepare, TxWatch}
use Rattle.sc_words.specs.declared.commands.orders.OrderRefusal.TheVariants.{NotLeader}
use Rattle.sc_actor.specs.declared.rows.Input.TheVariants.{Tick, Go, Told}
use Rattle.sc_words.proofs.PaxosProofs.PaxosLemmas.{Each-among, Each-from, find_found}
use Rattle.sc_group_table.specs.machine.MachineDefinitions.{refusal_of, state_after}
use Rattle.sc_paxos_law.specs.PaxosLawDefinitions.{IsLog, IsLawfulHistory}
use Rattle.sc_node_table.specs.NodeDefinitions.{NodeState, ReplicaState, Place, Executed, name_of, settled, slots_ahead, last_slot, made_by, replica_of, with_replica, with_made, unknown, may_come, taken_by, routed, mailed, group_of_mail, group_of_order, ordered_of, ordered_row, ordered_command, untaken, named_refused, first_of_both, takes_name, has_drawn_all, ticked, tick_row, names_after_tick, node_table, listed}
use Rattle.sc_meaning.specs.sound.SoundDefinitions.{Ahead}
use Rattle.sc_law_groups.proofs.GroupProofs.GroupLemmas.{Steps, rule, first, birth, IsTrue, IsReplica, IsOneOf, IsNamedIn, IsNode, held}
use Rattle.sc_law_walks.proofs.WalkLemmas.{either_way}
use Rattle.sc_law_refusal.specs.refusal.RefusalDefinitions.{IsBroughtBy, IsHeldOrBrought, replica_for, takers}
use Rattle.sc_law_refusal.specs.refusal.Causes.{IsBrought}
use Rattle.sc_law_refusal.specs.results.ResultDefinitions.{EndsOrder, ReportAs, RefusesLine, IsNotTaken, IsDismissed}
use Rattle.sc_law_refusal.proofs.RefusalProofs.NodeSteps.{put_among, children_among}
use Rattle.sc_law_entries.proofs.NamesProofs.HeldCommands.{Held}
use Rattle.sc_law_refusal.proofs.ResultsProofs.ReportedRows.{Waits, IsBack, HasStopped, Brings}
use Rattle.sc_law_refusal.proofs.ResultsProofs.ReportedSteps.{number_is, begins, mailed_ends, ordered_ends, ticked_ends, made_ends}

-- ---- an order that is given

refused_line : (drawer : Drawer) (line : OrderLine) (r : ReplicaState) (why : OrderRefusal) → untaken drawer line r ≡ Some why → RefusesLine drawer line (Some r) why
refused_line drawer line r why e = by_gone r.group.core.gone refl (settled r) refl e
  where
    command : Command
    command = ordered_command (next_name drawer) line.number line.order

    named_by : r.group.core.gone ≡ None → settled r ≡ true → refusal_of r.group.core command ≡ None → (takes drawn : Bool) → takes_name line.order ≡ takes → has_drawn_all drawer ≡ drawn → cond (takes && drawn) (Some (NotLeader r.hint)) None ≡ Some why → RefusesLine drawer line (Some r) why
    named_by stands leads none true true t d f = (let same : NotLeader r.hint ≡ why = cc in inr (record { stands = stands; leads = leads; cause = inr (none, t, eqb-true drawer.next (2 ^ 32 - 1) d, sym same) }))
    named_by stands leads none true false t d f = cc
    named_by stands leads none false drawn t d f = cc

    found_by : r.group.core.gone ≡ None → settled r ≡ true → (o : Option OrderRefusal) → refusal_of r.group.core command ≡ o → first_of_both o (named_refused drawer line.order r) ≡ Some why → RefusesLine drawer line (Some r) why
    found_by stands leads (Some other) fact f = (let same : other ≡ why = cc in inr (record { stands = stands; leads = leads; cause = inl (fact ∙ ap Some same) }))
    found_by stands leads None fact f = named_by stands leads fact (takes_name line.order) (has_drawn_all drawer) refl refl f

    by_gone : (gone : Option Route) → r.group.core.gone ≡ gone → (leads : Bool) → settled r ≡ leads
        → cond (is_some gone || not leads) (Some (NotLeader r.hint)) (first_of_both (refusal_of r.group.core command) (named_refused drawer line.order r)) ≡ Some why → RefusesLine drawer line (Some r) why
    by_gone (Some into) g leads s f = (let same : NotLeader r.hint ≡ why = cc in inl (inl (into, g), sym same))
    by_gone None g true s f = found_by g s (refusal_of r.group.core command) refl f
    by_gone None g false s f = (let same : NotLeader r.hint ≡ why = cc in inl (inr s, sym same))

-- ---- what waits at a replica

mapped_from : {X : Type 0} (f : X → Command) (xs : List X) (command : Command) (x : X) → Among x xs → f x ≡ command → Among command (map f xs)
mapped_from f [] command x a e = absurd a
mapped_from f (y ∷ xs) command x (inl same) e = inl (ap f same ∙ e)
mapped_from f (y ∷ xs) command x (inr a) e = inr (mapped_from f xs command x a e)

module _ (P : Command → Type 0) (r : ReplicaState) (input : Input Mail OrderLine) (waits : (command : Command) → IsHeldOrBrought r input command → P command) where
  all_held : Held P r
  all_held = (
    Each-from P r.backlog (λ c a. waits c (inl (inl a))),
    Each-from P r.acts (λ c a. waits c (inl (inr (inl a)))),
    Each-from (λ (flight : Flight Command). P flight.value) r.leader.flights (λ f a. waits f.value (inl (inr (inr (inl (mapped_from (λ (flight : Flight Command). flight.value) r.leader.flights f.value f a refl)))))),
    Each-from (λ (report : Report Command). P report.value) r.leader.reports (λ f a. waits f.value (inl (inr (inr (inr (inr (mapped_from (λ (report : Report Command). report.value) r.leader.reports f.value f a refl))))))),
    Each-from (λ (e : ℕ × Command). P e.1) r.ready (λ e a. waits e.1 (inl (inr (inr (inr (inl (mapped_from (λ (x : ℕ × Command). x.1) r.ready e.1 e a refl))))))),
  )

-- the groups with their steps before a row; what their logs decide of orders is so, and so is each refusal of the step with its cause
module _ (ahead : Ahead) (bases : List Base) (made : Base → Command → Type 0) (heard : MailBody → Type 0) (h : Base → Steps) (lawful : (base : Base) → Among base bases → IsLawfulHistory (rule ahead base) (first ahead base) (h base)) (Fact : ℕ → OrderResult → Type 0)
    (decided : (base : Base) → Among base bases → (whole : List Command) (command : Command) → IsLog (rule ahead base) (h base) (whole ++ command ∷ []) → (number : ℕ) (result : OrderResult) → EndsOrder (state_after (birth ahead base) whole) command number result → Fact number result)
    (me : ℕ) (node : NodeState) (is_node : IsNode ahead bases made h me node) (input : Input Mail OrderLine)
    (refused : (number : ℕ) (why : OrderRefusal) → IsNotTaken node input number why → Fact number (Refused why))
    (dismissed : (number : ℕ) (why : OrderRefusal) → IsDismissed node (node_table node input).0 input number why → Fact number (Refused why)) where
  abbrev Q : List Mail → Type 0
  Q mails = ReportAs Fact mails

  abbrev after : NodeState
  after = (node_table node input).0

  -- an order waits at a replica: its command is held or brought, or it is given in the step
  abbrev W : ReplicaState → ℕ → Command → Type 0
  W r number command = IsHeldOrBrought r input command ⊎ ((line : OrderLine) × (input ≡ Told line) × (line.number ≡ number))

  held_at : (r : ReplicaState) → Held (Waits (W r)) r
  held_at r = all_held (Waits (W r)) r input (λ command a number own t. inl a)

  -- a replica of the node executes the log of one of the groups
  record IsOfGroup (r : ReplicaState) : Type 0 where
    base : Base
    stands : Among base bases
    same : name_of r ≡ base.core.id
    replica : IsReplica ahead base (made base) (h base) me r

  of_group : (r : ReplicaState) → Among r node.replicas → IsOfGroup r
  of_group r a =
      let one = Each-among (λ s. IsOneOf bases (name_of s)) node.replicas r is_node.known a in
      record { base = one.0; stands = one.1; same = one.2; replica = held ahead one.0 (made one.0) me (h one.0) node.replicas (is_node.holds one.0 one.1) r a one.2 }

  -- what is given back at the end of a replica's part
  back_so : (r later : ReplicaState) → Among r node.replicas → Among r (takers node input) → Among later after.replicas → name_of later ≡ name_of r → (number : ℕ) (result : OrderResult) → IsBack (W r) number result → HasStopped r.top.round later → Fact number result
  back_so r later stood takes stands same number result back stops =
      subst (λ (x : OrderResult). Fact number x) (sym back.says)
      (dismissed number (NotLeader back.hint) (record { replica = r; later = later; became = record { stood = stood; stands = stands; same = same }; takes = takes; command = back.command; waits = back.waits; own = back.own; hint = back.hint; says = refl; stops = stops }))

  -- ---- a mail

  -- a mail that is true of all groups
  abbrev pub IsTrueMail : Mail → Type 0
  IsTrueMail mail = ((base : Base) → Among base bases → IsTrue ahead base (made base) heard (h base) mail mail.body) × IsNamedIn heard bases mail.body

  named_so : (group : Draw) (base : Base) → group ≡ base.core.id → same_draw group base.core.id ≡ true
  named_so group base e = same_name group base.core.id e

  brings : (base : Base) (r : ReplicaState) (group : Draw) (mail : Mail) (body : MailBody) → ((command : Command) → IsBroughtBy body command → Waits (W r) command) → group_of_mail body ≡ Some group → group ≡ base.core.id → IsTrue ahead base (made base) heard (h base) mail body
      → Brings ahead base (h base) (made base) (W r) mail.from body
  brings base r group mail (Accepted of ballot slot) w e same t = (let own : of ≡ group = cc in t (named_so of base (own ∙ same)))
  brings base r group mail (Learn of slot command) w e same t = (let own : of ≡ group = cc in t (named_so of base (own ∙ same)))
  brings base r group mail (Install of slot state sets) w e same t = (let own : of ≡ group = cc in t (named_so of base (own ∙ same)))
  brings base r group mail (Promise of ballot reports) w e same t = Each-from (λ (report : Report Command). Waits (W r) report.value) reports (λ f a. w f.value (mapped_from (λ (report : Report Command). report.value) reports f.value f a refl))
  brings base r group mail (Request of client seq op) w e same t = tt
  brings base r group mail _ w e same t = tt

  unknown_reports : (mail : Mail) (body : MailBody) → ((base : Base) → Among base bases → IsTrue ahead base (made base) heard (h base) mail body) → IsNamedIn heard bases body → Q (unknown mail.from body node).1
  unknown_reports mail (Install group slot state sets) t one =
      either_way (λ (step : NodeState × List Mail). Q step.1) (not (eqb (length sets) slots_ahead) || nat_lt last_slot slot) (node, []) (with_made (made_by node.me mail.from group slot state sets) node) tt
      ((made_ends ahead one.0 (h one.0) (lawful one.0 one.1) (made one.0) Fact (decided one.0 one.1) (λ number command. ⊥) 0 node.me mail.from group slot state sets one.2 refl (t one.0 one.1 (named_so group one.0 one.2))).1 (λ number result back stops. absurd back.waits))
  unknown_reports mail (Request group client seq op) t one = (tt, tt)
  unknown_reports mail (Prepare group ballot from_slot) t one = (tt, tt)
  unknown_reports mail (Accept group ballot slot command) t one = (tt, tt)
  unknown_reports mail (Learn group slot command) t one = (tt, tt)
  unknown_reports mail (TxPrepare tx offer) t one = (tt, tt)
  unknown_reports mail (TxWatch tx watch) t one = (tt, tt)
  unknown_reports mail _ t one = tt

  taken_reports : (o : Option ReplicaState) (group : Draw) (mail : Mail) → input ≡ Got mail → replica_of group node.replicas ≡ o → group_of_mail mail.body ≡ Some group
      → ((r : ReplicaState) → replica_of group node.replicas ≡ Some r → Among r (takers node input)) → ((later : ReplicaState) → Among later (taken_by o group mail.from mail.body node).0.replicas → Among later after.replicas)
      → IsTrueMail mail → Q (taken_by o group mail.from mail.body node).1
  taken_reports None group mail got e fact taker stays t = unknown_reports mail mail.body t.0 t.1
  taken_reports (Some r) group mail got e fact taker stays t =
      let found = find_found (λ (other : ReplicaState). same_draw (name_of other) group) node.replicas r e in
      let own = of_group r found.0 in
      let same : group ≡ own.base.core.id = sym (draw_is (name_of r) group found.1) ∙ own.same in
      let step : Executed = mailed mail.from mail.body (r, []) in
      let b = begins ahead own.base (h own.base) (lawful own.base own.stands) (made own.base) Fact (decided own.base own.stands) (W r) r.top.round me r [] own.replica own.same (held_at r) (omega arith) tt in
      let ends = mailed_ends ahead own.base (h own.base) (lawful own.base own.stands) (made own.base) Fact (decided own.base own.stands) (W r) r.top.round me mail.from mail.body r []
      (brings own.base r group mail mail.body (λ command a number own_it n. inl (inr (subst (λ (i : Input Mail OrderLine). IsBrought i command) (sym got) a))) fact same (t.0 own.base own.stands)) own.replica b in
      let put : NodeState = record node { replicas = with_replica group step.0.0 node.replicas } in
      let there : Among step.0.0 after.replicas = stays step.0.0 (children_among step.0.0 step.1 put (put_among group step.0.0 r node.replicas e)) in
      ends.1 (λ number result back stops. back_so r step.0.0 found.0 (taker r e) there (ends.0 ∙ sym own.same) number result back stops)

  routed_reports : (o : Option Draw) (mail : Mail) → input ≡ Got mail → group_of_mail mail.body ≡ o
      → ((group : Draw) → o ≡ Some group → (r : ReplicaState) → replica_of group node.replicas ≡ Some r → Among r (takers node input)) → ((later : ReplicaState) → Among later (routed o mail.from mail.body node).0.replicas → Among later after.replicas)
      → IsTrueMail mail → Q (routed o mail.from mail.body node).1
  routed_reports None mail got fact taker stays t = tt
  routed_reports (Some group) mail got fact taker stays t = taken_reports (replica_of group node.replicas) group mail got refl fact (taker group refl) stays t

  -- ---- an order, and a tick

  told_reports : (o : Option ReplicaState) (line : OrderLine) → input ≡ Told line → replica_of (group_of_order line.order) node.replicas ≡ o
      → ((r : ReplicaState) → replica_of (group_of_order line.order) node.replicas ≡ Some r → Among r (takers node input)) → ((later : ReplicaState) → Among later (ordered_of o line node).0.replicas → Among later after.replicas) → Q (ordered_of o line node).1
  told_reports None line given e taker stays = (refused line.number (NotLeader None) (record { line = line; given = given; own = refl; cause = subst (λ (o : Option ReplicaState). RefusesLine node.draws line o (NotLeader None)) (sym e) refl }), tt)
  told_reports (Some r) line given e taker stays =
      let group : Draw = group_of_order line.order in
      let found = find_found (λ (other : ReplicaState). same_draw (name_of other) group) node.replicas r e in
      let own = of_group r found.0 in
      let step : Place = ordered_row node.draws line (r, []) in
      let b = begins ahead own.base (h own.base) (lawful own.base own.stands) (made own.base) Fact (decided own.base own.stands) (W r) r.top.round me r [] own.replica own.same (held_at r) (omega arith) tt in
      let ends = ordered_ends ahead own.base (h own.base) (lawful own.base own.stands) (made own.base) Fact (decided own.base own.stands) (W r) r.top.round node.draws line r []
      (λ why f. refused line.number why (record { line = line; given = given; own = refl; cause = subst (λ (o : Option ReplicaState). RefusesLine node.draws line o why) (sym e) (refused_line node.draws line r why f) }))
      (λ number fact n. inr (line, given, number_is (next_name node.draws) line.number number line.order fact)) b in
      ends.1 (λ number result back stops. back_so r step.0 found.0 (taker r e) (stays step.0 (put_among group step.0 r node.replicas e)) (ends.0 ∙ sym own.same) number result back stops)

  ticked_all : (on : Bool) (drawer : Drawer) (replicas : List ReplicaState) (mails : List Mail) → ((r : ReplicaState) → Among r replicas → Among r node.replicas) → ((r : ReplicaState) → Among r replicas → Among r (takers node input))
      → ((later : ReplicaState) → Among later (ticked on drawer replicas mails).0 → Among later after.replicas) → Q mails → Q (ticked on drawer replicas mails).1
  unfolding ticked
  ticked_all on drawer [] mails stood takes stays m = m
  ticked_all on drawer (r ∷ replicas) mails stood takes stays m =
      let own = of_group r (stood r (inl refl)) in
      let step : Place = tick_row on drawer (r, mails) in
      let b = begins ahead own.base (h own.base) (lawful own.base own.stands) (made own.base) Fact (decided own.base own.stands) (W r) r.top.round me r mails own.replica own.same (held_at r) (omega arith) m in
      let ends = ticked_ends ahead own.base (h own.base) (lawful own.base own.stands) (made own.base) Fact (decided own.base own.stands) (W r) r.top.round on drawer r mails b in
      ticked_all on (names_after_tick on drawer r) replicas step.1 (λ s a. stood s (inr a)) (λ s a. takes s (inr a)) (λ s a. stays s (inr a))
      (ends.1 (λ number result back stops. back_so r step.0 (stood r (inl refl)) (takes r (inl refl)) (stays step.0 (inl refl)) (ends.0 ∙ sym own.same) number result back stops))

  -- ---- any input

  abbrev pub Takes : Input Mail OrderLine → Type 0
  Takes (Got mail) = IsTrueMail mail
  Takes Tick = Unit {0}
  Takes Go = Unit {0}
  Takes (Told line) = Unit {0}

  -- the replica of a group is the one that takes an input for it
  for_group : (group : Draw) (o : Option Draw) → o ≡ Some group → (r : ReplicaState) → replica_of group node.replicas ≡ Some r → Among r (replica_for o node.replicas)
  for_group group None e r f = cc
  for_group group (Some other) e r f = (let same : other ≡ group = cc in subst (λ (l : Option ReplicaState). Among r (listed l)) (sym (ap (λ (d : Draw). replica_of d node.replicas) same ∙ f)) (inl refl))

  mail_reports : (mail : Mail) → input ≡ Got mail → IsTrueMail mail → Q (node_table node (Got mail)).1
  mail_reports mail e t =
      cond_both (may_come mail.from mail.body) (routed (group_of_mail mail.body) mail.from mail.body node) (node, []) (λ (step : NodeState × List Mail). ((later : ReplicaState) → Among later step.0.replicas → Among later after.replicas) → Q step.1)
      (λ _ stays. routed_reports (group_of_mail mail.body) mail e refl
      (λ group f r g. subst (λ (i : Input Mail OrderLine). Among r (takers node i)) (sym e) (for_group group (group_of_mail mail.body) f r g)) stays t) (λ _ stays. tt)
      (λ later a. subst (λ (i : Input Mail OrderLine). Among later (node_table node i).0.replicas) (sym e) a)

  pub node_reports : (i : Input Mail OrderLine) → input ≡ i → Takes i → Q (node_table node i).1
  node_reports (Got mail) e t = mail_reports mail e t
  node_reports Tick e t = ticked_all node.policy node.draws node.replicas [] (λ r a. a) (λ r a. subst (λ (i : Input Mail OrderLine). Among r (takers node i)) (sym e) a)
      (λ later a. subst (λ (i : Input Mail OrderLine). Among later (node_table node i).0.replicas) (sym e) a) tt
  node_reports Go e t = tt
  node_reports (Told line) e t = told_reports (replica_of (group_of_order line.order) node.replicas) line e refl
      (λ r f. subst (λ (i : Input Mail OrderLine). Among r (takers node i)) (sym e) (for_group (group_of_order line.order) (Some (group_of_order line.order)) refl r f))
      (λ later a. subst (λ (i : Input Mail OrderLine). Among later (node_table node i).0.replicas) (sym e) a)
