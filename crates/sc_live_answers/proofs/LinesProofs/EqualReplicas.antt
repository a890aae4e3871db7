-- Replicas of one group that executed as much are in one state, in each lawful journal.
use Rattle.std.proofs.Common.{◌≡◌, ℕ, ◌≤◌, [], take, Some, None, refl, sym, ◌∙◌, ap, subst, arith, append-nil}
use Rattle.std.proofs.lemmas.Bool.{cond_both}
use Rattle.sc_base.specs.Definitions.{Among, same_draw}
use Rattle.sc_node_table.specs.Values.{Draw, Base, Node, Client}
use Rattle.sc_base.proofs.Lemmas.{draw_is}
use Rattle.sc_actor.specs.Definitions.{value}
use Rattle.sc_words.proofs.PaxosProofs.PaxosLemmas.{find_found}
use Rattle.sc_group_table.specs.machine.MachineDefinitions.{group_of, state_after}
use Rattle.sc_node_table.specs.NodeDefinitions.{replica_of, is_node, ReplicaState, name_of, next}
use Rattle.sc_scenario.specs.declared.scenario.scenarios.Scenario.{Scenario}
use Rattle.sc_scenario.specs.scenario.Definitions.{ValidScenariosAreBounded}
use Rattle.sc_meaning.specs.sound.SoundDefinitions.{groups_at, decided_log, Player, player_table, node_seat, route_of, as_nodes, HasRun, AllHaveRun}
use Rattle.sc_law_entries.specs.names.NameDefinitions.{OtherNamesAreFree, TakenOrdersAreAllowed, TakenWishesAreAllowed, WishesAreAtPositions, owner_in}
use Rattle.sc_law_entries.specs.logs.LogDefinitions.{GroupsAreFound}
use Rattle.sc_law_groups.specs.whole.WholeDefinitions.{section_op, ValidScenariosBeginWell, LawfulJournalsDecideInTurn, ValidJournalsAreSound}
use Rattle.sc_law_groups.proofs.WholeProofs.WholeLemmas.{orders_allowed}
use Rattle.sc_live_steps.specs.calm.CalmDefinitions.{HasReplica}
use Rattle.sc_live_plain.specs.PlainDefinitions.{replicas_after, replica_at, replicas_of}
use Rattle.sc_live_plain.proofs.PlainLemmas.{Journal}
use Rattle.sc_live_answers.specs.AnswerDefinitions.{LawfulJournalsHaveOneLog, HaveOneLog}

module _ (scenario : Scenario) (rows : Journal) (apart : (one other : Base) → Among one (groups_at as_nodes scenario.groups rows) → Among other (groups_at as_nodes scenario.groups rows) → one.core.id ≡ other.core.id → one ≡ other)
    (all : AllHaveRun as_nodes scenario rows) (seated : (group : Draw) (node : ℕ) → HasReplica (replicas_after scenario rows) group node → (1 ≤ node) × (node ≤ scenario.nodes)) where
  -- a replica executed a prefix of its group's log
  record Ran (group : Draw) (r : ReplicaState) : Type 0 where
    base : Base
    is_base : Among base (groups_at as_nodes scenario.groups rows)
    name_is : base.core.id ≡ group
    run : HasRun as_nodes base rows r

  ran_of : (group : Draw) (node : ℕ) (r : ReplicaState) → (1 ≤ node) × (node ≤ scenario.nodes) → (p : Player) → value player_table (node_seat as_nodes scenario.groups scenario.policy node) rows ≡ p → replica_of group (replicas_of p) ≡ Some r → Ran group r
  ran_of group node r at (Client client) v e = cc
  ran_of group node r at (Node state) v e =
      let found = find_found (λ (x : ReplicaState). same_draw (name_of x) group) state.replicas r e in
      let run = all node at.0 at.1 state v r found.0 in
      record { base = run.0; is_base = run.1; name_is = run.2 ∙ draw_is (name_of r) group found.1; run = run.3 }

  ran : (group : Draw) (node : ℕ) (r : ReplicaState) → replica_at scenario rows group node ≡ Some r → Ran group r
  ran group node r e =
      let player : Player = value player_table (node_seat as_nodes scenario.groups scenario.policy node) rows in
      cond_both (is_node node) (replica_of group (replicas_of player)) None (λ o. o ≡ Some r → Ran group r) (λ _ k. ran_of group node r (seated group node (r, e)) player refl k) (λ _ k. cc) e

  pub one_log : HaveOneLog (replicas_after scenario rows)
  one_log group one other r s e k same =
      let a = ran group one r e in
      let b = ran group other s k in
      let base : a.base ≡ b.base = apart a.base b.base a.is_base b.is_base (a.name_is ∙ sym b.name_is) in
      same_state a.base b.base r s base a.run b.run same
    where
      same_state : (one other : Base) (r s : ReplicaState) → one ≡ other → HasRun as_nodes one rows r → HasRun as_nodes other rows s → next r ≡ next s → r.group ≡ s.group
      same_state one other r s fact x y nexts =
          let z : HasRun as_nodes one rows s = subst (λ (b : Base). HasRun as_nodes b rows s) (sym fact) y in
          same_count one r s x z (let p = x.next_is in let q = z.next_is in omega (arith, p, q, nexts))
        where
          same_count : (base : Base) (r s : ReplicaState) (x : HasRun as_nodes base rows r) (z : HasRun as_nodes base rows s) → x.count ≡ z.count → r.group ≡ s.group
          same_count base r s x z counts = x.group_is ∙ (ap (λ n. state_after (group_of base) (take n (decided_log as_nodes base rows))) counts ∙ sym z.group_is)

pub lawful_one_log : ValidScenariosAreBounded → ValidScenariosBeginWell → TakenOrdersAreAllowed → TakenWishesAreAllowed → WishesAreAtPositions → OtherNamesAreFree → LawfulJournalsDecideInTurn → GroupsAreFound → ValidJournalsAreSound → LawfulJournalsHaveOneLog
lawful_one_log bounded begin allowed wishes positions free turn found sound words scenario rows valid lawful seated =
    let owner = owner_in as_nodes scenario rows in
    let ready = begin owner (free as_nodes scenario rows) as_nodes refl scenario valid in
    let orders = orders_allowed as_nodes words scenario (bounded scenario valid) allowed wishes positions rows lawful in
    let turns = turn (record { owner = owner; request = section_op scenario }) as_nodes words scenario (route_of ready.first) ready.well rows orders lawful in
    let are = found (record { owner = owner; request = section_op scenario }) as_nodes scenario.groups ready.well.place rows turns in
    one_log scenario rows are.apart (sound as_nodes refl words scenario valid rows lawful rows [] (sym (append-nil rows))).have_run seated
