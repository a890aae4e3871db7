-- The children that a row makes while an order is under way are young.
use Rattle.std.proofs.Common.{◌≡◌, ◌⊎◌, ℕ, Bool, true, false, true≢false, List, [], take, Option, Some, None, inl, inr, refl, sym, ◌∙◌, ap, subst}
use Rattle.std.specs.List.{list_any}
use Rattle.sc_base.specs.Definitions.{Among, Each, same_draw, is_member}
use Rattle.sc_node_table.specs.Values.{Draw, Base, Free, OrderLine, Mail, MailBody, Install, Seat, Deliver, Go, Node}
use Rattle.sc_group_table.specs.machine.MachineDefinitions.{Group, group_of}
use Rattle.sc_scenario.specs.declared.scenario.scenarios.Scenario.{Scenario}
use Rattle.sc_node_table.specs.NodeDefinitions.{NodeState, replica_of, ReplicaState, Executed, born_replica, mailed, slots_ahead}
use Rattle.sc_words.proofs.PaxosProofs.PaxosLemmas.{Each-among, Each-from}
use Rattle.sc_meaning.specs.sound.SoundDefinitions.{groups_at, decided_log, Player, births, as_nodes}
use Rattle.sc_live_steps.specs.calm.CalmDefinitions.{Rows}
use Rattle.sc_live_journals.specs.rows.RowDefinitions.{view_at, with_event, AreAsBegun, made_children}
use Rattle.sc_live_journals.proofs.RowsProofs.RowLemmas.{rows_replicas, view_was, none_some}
use Rattle.sc_live_steps.specs.orders.OrderDefinitions.{bond_of, Unbound}
use Rattle.sc_live_answers.specs.AnswerDefinitions.{ChildrenAreBegun, IsYoung, Task, Creates, CreatesBy, DeliveriesKeepWork, IsPrefixOf, AreCreatedByOrder, IsWorkingRow}
use Rattle.sc_live_journals.specs.scenes.SceneDefinitions.{IsNowhere, IsTaking}
use Rattle.sc_live_answers.proofs.ChildrenProofs.KnownChildren.{HasCreated}
use Rattle.sc_live_answers.proofs.ChildrenProofs.Lineage.{log_stays, kids_known}
use Rattle.sc_live_answers.proofs.LedMailProofs.MailEntries.{IsStateless, mailed_goes}
use Rattle.sc_live_answers.proofs.ChildrenProofs.ChildrenInLogs.{OfJournals, born_by, state_of}
use Rattle.std.proofs.lemmas.Option.{same_Some}

-- a mail by which children are made brings no state
pub has_stateless : (from : ℕ) (body : MailBody) (r : ReplicaState) (kid : Base) → Among kid (mailed from body (r, [])).1 → IsStateless body
unfolding mailed
has_stateless from (Install group slot base sets) r kid a = absurd a
has_stateless from _ r kid a = tt

-- its group knows each that it made
pub knows_made : (from : ℕ) (body : MailBody) (r : ReplicaState) (kid : Base) → Among kid (mailed from body (r, [])).1 → HasCreated kid.core.id (mailed from body (r, [])).0.0.group.core.born
knows_made from body r kid a =
    let goes = mailed_goes r [] from body (has_stateless from body r kid a) in
    subst (λ (g : Group). HasCreated kid.core.id g.core.born) (sym goes.0.fact.0) (kids_known r.me r.group goes.0.log kid (subst (Among kid) goes.0.kids a))

-- a group forgets none of the children that it knows
pub knows_still : (from : ℕ) (body : MailBody) (r : ReplicaState) (name : Draw) → IsStateless body → HasCreated name r.group.core.born → HasCreated name (mailed from body (r, [])).0.0.group.core.born
knows_still from body r name s has = (let goes = mailed_goes r [] from body s in subst (λ (g : Group). HasCreated name g.core.born) (sym goes.0.fact.0) (log_stays name r.group goes.0.log has))

-- the child that a task creates
pub record IsCreated (task : Task) (group : Draw) (r : ReplicaState) (kid : Base) : Type 0 where
  pub splits : task.splitting ≡ true
  pub own : group ≡ task.group
  pub name : kid.core.id ≡ task.name
  pub free : kid.core.lock ≡ Free
  pub new : HasCreated kid.core.id r.group.core.born → ⊥

pub created : (task : Task) (group : Draw) (r : ReplicaState) (kid : Base) → Creates task group kid → list_any (λ other. same_draw other kid.core.id) r.group.core.born ≡ false → IsCreated task group r kid
created task group r kid k new = by task.splitting refl k
  where
    by : (b : Bool) → task.splitting ≡ b → CreatesBy b task.group task.name group kid → IsCreated task group r kid
    by true e k = record { splits = e; own = k.0; name = k.1; free = k.2; new = λ has. true≢false (sym has ∙ new) }
    by false e k = absurd k

module _ (laws : OfJournals) (begun : ChildrenAreBegun) (keeps : DeliveriesKeepWork) (words : ℕ → ℕ → ℕ × ℕ) (scenario : Scenario) (first : Base) (journal quiet rows : Rows) (line : OrderLine) (task : Task) (seat : Seat Player) (number : ℕ)
    (w : IsWorkingRow words scenario first journal quiet rows line task seat number) (prior : AreCreatedByOrder scenario journal quiet rows task) (mail : Mail) (group : Draw) (node : NodeState) (r : ReplicaState)
    (t : IsTaking words (births as_nodes scenario) rows seat number mail group node) (here : replica_of group node.replicas ≡ Some r) where
  abbrev all : List (Seat Player)
  all = births as_nodes scenario

  abbrev made : Executed
  made = mailed mail.from mail.body (r, [])

  view_before : view_at all rows group seat.who ≡ Some r
  view_before = view_was all rows seat Go group t.seated (Node node) t.is_node ∙ here

  view_after : view_at all (with_event rows seat (Deliver number)) group seat.who ≡ Some made.0.0
  view_after = (rows_replicas.taken all rows seat number mail group node r t.seated t.is_node t.sent t.comes t.named here).fact

  rows_prefix : IsPrefixOf journal rows
  rows_prefix = w.under.prefix

  module _ (kid : Base) (a : Among kid made.1) where
    b : IsCreated task group r kid
    b =
        let k = Each-among (λ (child : Base). Creates task group child × (list_any (λ other. same_draw other child.core.id) r.group.core.born ≡ false)) made.1 kid (keeps.creation words scenario rows seat number task w.guided w.work mail group node r t here) a in
        created task group r kid k.0 k.1

    -- it is a group of the journal, with this node for a member
    pub kid_stands : Among kid (groups_at as_nodes scenario.groups journal) × (is_member kid.core.members seat.who ≡ true)
    kid_stands =
        let p = w.named group seat.who r view_before in
        let before = state_of laws words scenario journal w.calm p.0 p.1 rows rows_prefix seat.who r (ap (λ n. view_at all rows n seat.who) p.2 ∙ view_before) in
        let after = state_of laws words scenario journal w.calm p.0 p.1 (with_event rows seat (Deliver number)) w.goes.prefix seat.who made.0.0 (ap (λ n. view_at all (with_event rows seat (Deliver number)) n seat.who) p.2 ∙ view_after) in
        by p.0 (born_by laws words scenario journal w.calm p.0 p.1 kid.core.id after.0 (subst (λ (g : Group). HasCreated kid.core.id g.core.born) after.2 (knows_made mail.from mail.body r kid a)))
        (λ has. b.new (subst (λ (g : Group). HasCreated kid.core.id g.core.born) (sym before.2) (log_stays kid.core.id (group_of p.0) (take before.0 (decided_log as_nodes p.0 journal)) has)))
      where
        by : (p : Base) → HasCreated kid.core.id (group_of p).core.born ⊎ ((k : Base) × Among k (groups_at as_nodes scenario.groups journal) × (k.core.id ≡ kid.core.id)) → (HasCreated kid.core.id (group_of p).core.born → ⊥)
            → Among kid (groups_at as_nodes scenario.groups journal) × (is_member kid.core.members seat.who ≡ true)
        by p (inl has) not = absurd (not has)
        by p (inr (k, stands, id)) not =
            let so : AreAsBegun k seat.who (made_children (replica_of group node.replicas) mail.from mail.body) =
            begun as_nodes words scenario journal k (record { open_slots = refl; valid = w.calm.valid; lawful = w.calm.lawful; stands = stands }) rows rows_prefix.more rows_prefix.fact seat node t.seated t.is_node number mail group t.sent t.named in
            let same = Each-among (λ (c : Base). c.core.id ≡ k.core.id → (c ≡ k) × (is_member k.core.members seat.who ≡ true)) made.1 kid (subst (λ o. AreAsBegun k seat.who (made_children o mail.from mail.body)) here so) a (sym id) in
            (subst (λ c. Among c (groups_at as_nodes scenario.groups journal)) (sym same.0) stands, subst (λ (c : Base). is_member c.core.members seat.who ≡ true) (sym same.0) same.1)

    nowhere : IsNowhere all quiet kid.core.id
    nowhere = subst (IsNowhere all quiet) (sym b.name) (w.of.new b.splits)

    free_bond : (core : Base) → core.core.lock ≡ Free → bond_of core.core ≡ Unbound
    free_bond core e = cc

    unbound : (n : ℕ) (x : ReplicaState) → view_at all rows kid.core.id n ≡ Some x → (view_at all rows kid.core.id n ≡ None) ⊎ (view_at all rows kid.core.id n ≡ Some (born_replica slots_ahead n kid)) → bond_of x.group.core ≡ Unbound
    unbound n x v (inl none) = absurd (none_some (sym none ∙ v))
    unbound n x v (inr fact) = ap (λ (y : ReplicaState). bond_of y.group.core) (same_Some x (born_replica slots_ahead n kid) (sym v ∙ fact)) ∙ free_bond kid b.free

    none_here : (o : Option ReplicaState) → view_at all rows kid.core.id seat.who ≡ o → o ≡ None
    none_here None v = refl
    none_here (Some x) v =
        let k = prior.known b.splits kid kid_stands.0 b.name seat.who x (ap (λ n. view_at all rows n seat.who) (sym b.name) ∙ v) in
        let same : k.0 ≡ r = same_Some k.0 r (sym k.1 ∙ (ap (λ n. view_at all rows n seat.who) (sym b.own) ∙ view_before)) in
        absurd (b.new (subst (λ n. HasCreated n r.group.core.born) (sym b.name) (subst (λ (y : ReplicaState). HasCreated task.name y.group.core.born) same k.2)))

    kid_young : IsYoung words all rows seat kid
    kid_young =
        let led = w.under.sent kid kid_stands.0 in
        record {
          at = _;
          over = _;
          by = _;
          course = led.course;
          led = led.led;
          free = b.free;
          unbound = λ n x v. unbound n x v ((w.under.young kid kid_stands.0 nowhere).born n);
          first = λ _. none_here (view_at all rows kid.core.id seat.who) refl;
        }

  pub are_young : Each (IsYoung words all rows seat) made.1
  are_young = Each-from (IsYoung words all rows seat) made.1 kid_young
