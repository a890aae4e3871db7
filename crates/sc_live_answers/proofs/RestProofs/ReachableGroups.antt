-- The groups of a quiet prefix are known, and links and routes name nodes that have replicas.
use Rattle.std.proofs.Common.{◌≡◌, ℕ, ◌+◌, ◌≤◌, length, Option, Some, None, refl, sym, ◌∙◌, ap, subst, arith}
use Rattle.std.proofs.lemmas.Option.{none-some}
use Rattle.sc_base.specs.Definitions.{Among}
use Rattle.sc_node_table.specs.Values.{Draw, Base, Route}
use Rattle.sc_group_table.specs.machine.MachineDefinitions.{Group}
use Rattle.sc_scenario.specs.declared.scenario.scenarios.Scenario.{Scenario}
use Rattle.sc_node_table.specs.NodeDefinitions.{ReplicaState, next}
use Rattle.sc_meaning.specs.sound.SoundDefinitions.{groups_at, decided_log, decided_state, as_nodes}
use Rattle.sc_live_steps.specs.calm.CalmDefinitions.{HasReplica, IsNewest, StandsQuiet}
use Rattle.sc_law_entries.specs.logs.LogDefinitions.{Rows}
use Rattle.sc_live_steps.specs.following.FollowingDefinitions.{Course, SlotLeaders}
use Rattle.sc_live_answers.specs.AnswerDefinitions.{state_at, replicas_at, IsQuietGroup, IsTakenIn, AreKnown, AreReachable, FreeGroupsHaveArcs, IsQuietPrefix, IsKnownGroup, IsOfGroup, PrefixesAreFound, QuietLogsAreExecuted, AreAllThere, PrefixesAreKnown, PrefixesAreReachable, PrefixesAreTakenIn, WasMember, WereMembers, AreAllFree, LinksWereMembers, PrefixGroupsHaveReplicas}
use Rattle.sc_live_plain.specs.PlainDefinitions.{replicas_after}
use Rattle.sc_live_answers.proofs.QuietProofs.QuietPrefixGroupLogs.{newest_there}
use Rattle.sc_live_answers.proofs.QuietProofs.QuietPrefixGroups.{see, found, seen, shown, most, last_state, ends, gone_last, was_there, newest_state}

module _ (executed : QuietLogsAreExecuted) (finds : PrefixesAreFound) (words : ℕ → ℕ → ℕ × ℕ) (scenario : Scenario) (journal prefix : Rows) (q : IsQuietPrefix words scenario journal prefix) (there : AreAllThere scenario prefix) where
  abbrev at : Draw → ℕ → Option ReplicaState
  at = replicas_after scenario prefix

  -- a replica that has executed its log
  pub record IsLast (base : Base) (node : ℕ) (r : ReplicaState) : Type 0 where
    pub is_there : see executed finds words scenario journal prefix q base.core.id node ≡ Some r
    pub next_is : next r ≡ length (decided_log as_nodes base prefix) + 1
    pub state : r.group ≡ decided_state as_nodes base prefix

  module _ (base : Base) (a : Among base (groups_at as_nodes scenario.groups prefix)) where
    known : IsKnownGroup words scenario journal prefix base
    known = (executed words scenario journal prefix base q a (there base a)).0

    as_last : (node : ℕ) (r : ReplicaState) → see executed finds words scenario journal prefix q base.core.id node ≡ Some r → next r ≡ length (decided_log as_nodes base prefix) + 1 → IsLast base node r
    as_last node r e far = record { is_there = e; next_is = far; state = last_state executed finds words scenario journal prefix q base a node r e far }

    pub last : (node : ℕ) × (r : ReplicaState) × IsLast base node r
    last =
        let x = newest_there _ words scenario journal prefix base known.course known.quiet in
        let end = ends executed finds words scenario journal prefix q base a _ known.course known.quiet in
        (x.0, x.1, as_last x.0 x.1 x.2 (x.3 ∙ sym end))

    -- so is one that has executed as much as any
    newest_last : (r : ReplicaState) → IsNewest at base.core.id r → IsLast base r.me r
    newest_last r new =
        let own = seen executed finds words scenario journal prefix q base.core.id r.me r new.is_there in
        let x = last in
        let far = new.most x.0 x.1 (shown executed finds words scenario journal prefix q base.core.id x.0 x.1 x.2.is_there) in
        let low = most executed finds words scenario journal prefix q base a r.me r own in
        let end = x.2.next_is in
        as_last r.me r own (omega (arith, far, low, end))

    pub gone_state : (node : ℕ) (r : ReplicaState) (into : Route) → see executed finds words scenario journal prefix q base.core.id node ≡ Some r → r.group.core.gone ≡ Some into → IsLast base node r
    gone_state node r into e gone = as_last node r e (gone_last executed finds words scenario journal prefix q base a _ known.course known.quiet node r into e gone)

  -- who was a member has a replica
  pub has_replica : (name : Draw) (node : ℕ) → WasMember scenario prefix name node → HasReplica (replicas_at scenario prefix) name node
  has_replica name node w = subst (λ n. HasReplica (replicas_at scenario prefix) n node) w.named (was_there executed finds words scenario journal prefix q w.base w.among _ (known w.base w.among).course (known w.base w.among).quiet node w.after w.within w.member)

  pub has_shown : (name : Draw) (node : ℕ) → HasReplica (replicas_at scenario prefix) name node → HasReplica at name node
  has_shown name node h = (h.0, shown executed finds words scenario journal prefix q name node h.0 h.1)

  -- the group of a replica, by its name
  mine : (name : Draw) (node : ℕ) (r : ReplicaState) → at name node ≡ Some r → (base : Base) → base.core.id ≡ name → at base.core.id node ≡ Some r
  mine name node r e base named = ap (λ n. at n node) named ∙ e

  pub newest_of_group : (name : Draw) (r : ReplicaState) (new : IsNewest at name r) → (of : IsOfGroup scenario prefix name r) × IsLast of.base r.me r
  newest_of_group name r new =
      let of = (found executed finds words scenario journal prefix q).replicas name r.me r new.is_there in
      (of, newest_last of.base of.among r (subst (λ n. IsNewest at n r) (sym of.named) new))

  module _ (free : AreAllFree scenario prefix) where
    prefix_known : FreeGroupsHaveArcs → AreKnown scenario prefix
    prefix_known arcs = record {
      named = λ name node r e. (let of = (found executed finds words scenario journal prefix q).replicas name node r e in (of.base, of.among, of.named));
      there = λ base a. (let t = there base a in (t.0, has_shown base.core.id t.0 (t.1, t.2)));
      newest = λ base r a new. (newest_last base a r new).state;
      arcs = λ base a stands. arcs words scenario prefix base q.calm.valid (found executed finds words scenario journal prefix q).lawful a (free base a) stands;
    }

    module _ (links : LinksWereMembers) where
      pub link_of : (base : Base) → Among base (groups_at as_nodes scenario.groups prefix) → WereMembers scenario prefix (decided_state as_nodes base prefix).core.succ.group (decided_state as_nodes base prefix).core.succ.members
      link_of base a = links.links words scenario prefix base q.calm.valid (found executed finds words scenario journal prefix q).lawful free a

      pub route_of : (base : Base) (into : Route) → Among base (groups_at as_nodes scenario.groups prefix) → (decided_state as_nodes base prefix).core.gone ≡ Some into → WereMembers scenario prefix into.group into.members
      route_of base into a e = links.routes words scenario prefix base into q.calm.valid (found executed finds words scenario journal prefix q).lawful free a e

      stands_all : (name : Draw) (quiet : StandsQuiet at name) (node : ℕ) (r : ReplicaState) → at name node ≡ Some r → (o : Option Route) → r.group.core.gone ≡ o → o ≡ None
      stands_all name quiet node r e None gone = refl
      stands_all name quiet node r e (Some into) gone =
          let new = newest_of_group name quiet.lead quiet.newest in
          let base = new.0.base in
          let its = seen executed finds words scenario journal prefix q base.core.id node r (mine name node r e base new.0.named) in
          let last_ = gone_state base new.0.among node r into its gone in
          absurd (none-some into (sym quiet.stands ∙ (ap (λ (g : Group). g.core.gone) (new.1.state ∙ sym last_.state) ∙ gone)))

      prefix_reachable : AreReachable at
      prefix_reachable = record {
        links = λ name quiet. (
            let new = newest_of_group name quiet.lead quiet.newest in
            subst (λ (g : Group). 1 ≤ length g.core.succ.members) (sym new.1.state) (link_of new.0.base new.0.among).some);
        routes = λ name node r into e gone. (
            let of = (found executed finds words scenario journal prefix q).replicas name node r e in
            let last_ = gone_state of.base of.among node r into (seen executed finds words scenario journal prefix q of.base.core.id node r (mine name node r e of.base of.named)) gone in
            let were = route_of of.base into of.among (ap (λ (g : Group). g.core.gone) (sym last_.state) ∙ gone) in
            (were.some, λ who m. has_shown into.group who (has_replica into.group who (were.each who m))));
        stand = λ name quiet node r e. (let none = stands_all name quiet node r e r.group.core.gone refl in none);
      }

      prefix_taken_in : (by : SlotLeaders) (base : Base) (course : Course) (into : Route) → Among base (groups_at as_nodes scenario.groups prefix) → IsQuietGroup by words scenario journal prefix base course → (state_at as_nodes base journal course.newest).core.gone ≡ Some into
          → IsTakenIn (replicas_at scenario prefix) into
      prefix_taken_in by base course into a k gone node m =
          let same = newest_state executed finds words scenario journal prefix q base a by course k in
          has_replica into.group node ((route_of base into a (ap (λ (g : Group). g.core.gone) (sym same) ∙ gone)).each node m)

pub prefixes_are_known : QuietLogsAreExecuted → PrefixesAreFound → PrefixGroupsHaveReplicas → FreeGroupsHaveArcs → PrefixesAreKnown
prefixes_are_known executed finds there arcs words scenario journal prefix q free = prefix_known executed finds words scenario journal prefix q (there words scenario journal prefix q) free arcs

pub prefixes_are_reachable : QuietLogsAreExecuted → PrefixesAreFound → PrefixGroupsHaveReplicas → LinksWereMembers → PrefixesAreReachable
prefixes_are_reachable executed finds there links words scenario journal prefix q free = prefix_reachable executed finds words scenario journal prefix q (there words scenario journal prefix q) free links

pub prefixes_are_taken_in : QuietLogsAreExecuted → PrefixesAreFound → PrefixGroupsHaveReplicas → LinksWereMembers → PrefixesAreTakenIn
prefixes_are_taken_in executed finds there links words scenario journal prefix by base course into q free = prefix_taken_in executed finds words scenario journal prefix q (there words scenario journal prefix q) free links by base course into
