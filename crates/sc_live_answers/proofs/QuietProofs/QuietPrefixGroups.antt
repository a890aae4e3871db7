-- What is known of the groups of a quiet prefix.
use Rattle.std.proofs.Common.{◌≡◌, ℕ, ◌+◌, ◌-◌, ◌≤◌, true, length, take, Option, Some, sym, ◌∙◌, ap, subst, arith}
use Rattle.std.specs.Prelude.{is_some}
use Rattle.std.proofs.lemmas.List.{take_all, take-append-le}
use Rattle.std.proofs.lemmas.Option.{same_Some}
use Rattle.sc_base.specs.Definitions.{Among, is_member}
use Rattle.sc_node_table.specs.Values.{Draw, Base, Route}
use Rattle.sc_group_table.specs.machine.MachineDefinitions.{Group, group_of, state_after}
use Rattle.sc_scenario.specs.declared.scenario.scenarios.Scenario.{Scenario}
use Rattle.sc_node_table.specs.NodeDefinitions.{ReplicaState, next}
use Rattle.sc_meaning.specs.sound.SoundDefinitions.{groups_at, decided_log, decided_state, as_nodes, HasRun}
use Rattle.sc_live_steps.specs.calm.CalmDefinitions.{HasReplica}
use Rattle.sc_law_entries.specs.logs.LogDefinitions.{Rows}
use Rattle.sc_live_steps.specs.following.FollowingDefinitions.{Course, members_at, SlotLeaders}
use Rattle.sc_live_journals.specs.logs.LogDefinitions.{logged_sets}
use Rattle.sc_live_answers.specs.AnswerDefinitions.{state_at, replicas_at, IsQuietGroup, GoneAgree, IsQuietPrefix, IsFoundPrefix, PrefixesAreFound, QuietLogsAreExecuted, RoutesInPrefixesAgree}
use Rattle.sc_live_answers.proofs.QuietProofs.QuietGroupReplicas.{even, members_have, place, states}
use Rattle.sc_live_plain.specs.PlainDefinitions.{replicas_after}
use Rattle.sc_live_answers.proofs.QuietProofs.QuietPrefixGroupLogs.{newest_there}

module _ (executed : QuietLogsAreExecuted) (finds : PrefixesAreFound) (words : ℕ → ℕ → ℕ × ℕ) (scenario : Scenario) (journal prefix : Rows) (q : IsQuietPrefix words scenario journal prefix) where
  abbrev pub see : Draw → ℕ → Option ReplicaState
  see name node = replicas_at scenario prefix name node

  pub found : IsFoundPrefix words scenario journal prefix
  found = finds words scenario journal prefix q.calm q.begins

  -- what is seen is what a node has
  pub seen : (name : Draw) (node : ℕ) (r : ReplicaState) → replicas_after scenario prefix name node ≡ Some r → see name node ≡ Some r
  seen name node r e = sym (found.views name node) ∙ e

  pub shown : (name : Draw) (node : ℕ) (r : ReplicaState) → see name node ≡ Some r → replicas_after scenario prefix name node ≡ Some r
  shown name node r e = found.views name node ∙ e

  -- a replica is of the group of its name
  pub run_of : (base : Base) → Among base (groups_at as_nodes scenario.groups prefix) → (node : ℕ) (r : ReplicaState) → see base.core.id node ≡ Some r → HasRun as_nodes base prefix r
  run_of base a node r e =
      let of = found.replicas base.core.id node r (shown base.core.id node r e) in
      subst (λ b. HasRun as_nodes b prefix r) (found.apart of.base base (found.later of.base of.among) (found.later base a) of.named) of.run

  module _ (base : Base) (a : Among base (groups_at as_nodes scenario.groups prefix)) where
    -- no replica is further than its log
    pub most : (node : ℕ) (r : ReplicaState) → see base.core.id node ≡ Some r → next r ≤ length (decided_log as_nodes base prefix) + 1
    most node r e = (let run = run_of base a node r e in let within = run.within in let next_is = run.next_is in omega (arith, within, next_is))

    -- one that is as far has the log's state
    pub last_state : (node : ℕ) (r : ReplicaState) → see base.core.id node ≡ Some r → next r ≡ length (decided_log as_nodes base prefix) + 1 → r.group ≡ decided_state as_nodes base prefix
    last_state node r e last =
        let run = run_of base a node r e in
        let next_is = run.next_is in
        let all : length (decided_log as_nodes base prefix) ≤ run.count = omega (arith, next_is, last) in
        run.group_is ∙ ap (state_after (group_of base)) (take_all run.count (decided_log as_nodes base prefix) all)

    module _ (by : SlotLeaders) (course : Course) (k : IsQuietGroup by words scenario journal prefix base course) where
      pub ends : length (decided_log as_nodes base prefix) + 1 ≡ course.newest
      ends =
          let last = newest_there by words scenario journal prefix base course k in
          let x = executed words scenario journal prefix base q a (last.0, last.1, last.2) in
          let far = (even (_) words scenario journal prefix base x.0.course x.0.quiet).even.most last.0 in
          let here = place _ words scenario journal prefix base x.0.course x.0.quiet last.0 last.1 last.2 in
          let own = newest_there _ words scenario journal prefix base x.0.course x.0.quiet in
          let other = (even by words scenario journal prefix base course k).even.most own.0 in
          let there = place by words scenario journal prefix base course k own.0 own.1 own.2 in
          let one = last.3 in
          let two = own.3 in
          let log = x.1 in
          omega (arith, far, here, other, there, one, two, log)

      -- one that is gone has executed the whole log
      pub gone_last : (node : ℕ) (r : ReplicaState) (into : Route) → see base.core.id node ≡ Some r → r.group.core.gone ≡ Some into → next r ≡ length (decided_log as_nodes base prefix) + 1
      gone_last node r into e gone =
          let far = most node r e in
          let over = sym (states by words scenario journal prefix base course k node r e).ends ∙ ap is_some gone in
          let high = k.led.rests (next r) over in
          let end = ends in
          omega (arith, far, high, end)

      -- the members after first entries of the log have replicas
      pub was_there : (node after : ℕ) → after ≤ length (decided_log as_nodes base prefix) → is_member (state_after (group_of base) (take after (decided_log as_nodes base prefix))).core.members node ≡ true → HasReplica (replicas_at scenario prefix) base.core.id node
      was_there node after low m =
          let longer = found.goes_on base a in
          let same : take after (decided_log as_nodes base journal) ≡ take after (decided_log as_nodes base prefix) =
          ap (take after) longer.1 ∙ take-append-le after (decided_log as_nodes base prefix) longer.0 low in
          let slots : after + 1 + 3 - 4 ≡ after = omega arith in
          let set : members_at (logged_sets as_nodes base journal) (after + 1) ≡ (state_after (group_of base) (take after (decided_log as_nodes base journal))).core.members =
          ap (λ n. (state_after (group_of base) (take n (decided_log as_nodes base journal))).core.members) slots in
          let end = ends in
          members_have by words scenario journal prefix base course k node (after + 1) (omega (arith, low, end))
          (ap (λ ms. is_member ms node) (set ∙ ap (λ cs. (state_after (group_of base) cs).core.members) same) ∙ m)

    -- the newest state by the journal is that of the prefix
    pub newest_state : (by : SlotLeaders) (course : Course) → IsQuietGroup by words scenario journal prefix base course → state_at as_nodes base journal course.newest ≡ decided_state as_nodes base prefix
    newest_state by course k =
        let longer = found.goes_on base a in
        let end = ends by course k in
        let slots : course.newest - 1 ≡ length (decided_log as_nodes base prefix) = omega (arith, end) in
        ap (λ n. state_after (group_of base) (take n (decided_log as_nodes base journal))) slots
        ∙ (ap (λ cs. state_after (group_of base) (take (length (decided_log as_nodes base prefix)) cs)) longer.1
        ∙ ap (state_after (group_of base)) (take-append-le (length (decided_log as_nodes base prefix)) (decided_log as_nodes base prefix) longer.0 (omega arith) ∙ take_all (length (decided_log as_nodes base prefix)) (decided_log as_nodes base prefix) (omega arith)))

  -- ---- those that are gone

  agree : GoneAgree (replicas_after scenario prefix)
  agree group one other r s into elsewhere e f gone went =
      let of = found.replicas group one r e in
      let base = of.base in
      let mine : see base.core.id one ≡ Some r = ap (λ n. see n one) of.named ∙ seen group one r e in
      let its : see base.core.id other ≡ Some s = ap (λ n. see n other) of.named ∙ seen group other s f in
      let x = executed words scenario journal prefix base q of.among (one, r, mine) in
      let first = last_state base of.among one r mine (gone_last base of.among _ x.0.course x.0.quiet one r into mine gone) in
      let second = last_state base of.among other s its (gone_last base of.among _ x.0.course x.0.quiet other s elsewhere its went) in
      same_Some into elsewhere (sym gone ∙ (ap (λ (g : Group). g.core.gone) (first ∙ sym second) ∙ went))

pub routes_in_prefixes_agree : QuietLogsAreExecuted → PrefixesAreFound → RoutesInPrefixesAgree
routes_in_prefixes_agree = agree
