-- Behind turns of which one is the tick of a node that is alive, each settled replica of the node is idle, where more than half of its group's members are alive.
use Rattle.std.proofs.Common.{◌≡◌, ℕ, ◌+◌, ◌*◌, ◌-◌, ◌^◌, ◌≤◌, length, arith, length-append, ap, Bool, true, List, [], ◌∷◌, ◌++◌, Some, false, sym, ◌∙◌, subst, inr, append-nil}
use Rattle.sc_base.specs.Definitions.{Among, Each, same_draw}
use Rattle.sc_base.proofs.Lemmas.{draw_is}
use Rattle.sc_node_table.specs.Values.{Seat, Base, Mail, Node}
use Rattle.sc_actor.specs.Definitions.{value, is_quiet, may_get, numbers_of}
use Rattle.sc_actor.proofs.Lemmas.{lawful-prefix}
use Rattle.sc_node_table.specs.NodeDefinitions.{NodeState, ReplicaState, name_of, replica_of, is_node, settled, last_slot}
use Rattle.sc_words.proofs.PaxosProofs.PaxosLemmas.{Each-among, find_found}
use Rattle.sc_scenario.specs.declared.scenario.scenarios.Scenario.{Scenario}
use Rattle.sc_scenario.specs.scenario.Definitions.{IsBounded}
use Rattle.sc_meaning.specs.sound.SoundDefinitions.{Player, Lawful, as_nodes, player_table, schedule, system_of}
use Rattle.sc_live_orderly.specs.OrderlyDefinitions.{Turn, HasTurns}
use Rattle.sc_live_orderly.proofs.PendingMail.{none_pending}
use Rattle.sc_live_healed.specs.HealedDefinitions.{IsFixedReplica, VotesAreUnderWay, LivingMajority, IsIdle, IsSettledOrStopped}
use Rattle.sc_live_healed.proofs.FixedNodes.{IsOne, name_one}
use Rattle.sc_live_healed.proofs.FixedJournals.{Rows, IsOf, fresh, AreWithoutOrders, untold_prefix}
use Rattle.sc_live_healed.proofs.LivingActors.{seats_stay_nodes, turns_kind, turns_get}
use Rattle.sc_live_healed.proofs.NodeSlots.{found_takes}
use Rattle.sc_live_healed.proofs.TakenJournals.{groups_rosters, IsTakenJournal, journal_taken}
use Rattle.sc_live_healed.proofs.NearSlots.{StaysNear}
use Rattle.sc_live_healed.proofs.NearJournals.{PlayerNear, IsNearJournal, journal_near}
use Rattle.sc_live_healed.proofs.VotesInTurns.{S, LetsVote, VotesAt, node_fixed, node_takes}
use Rattle.sc_live_healed.proofs.VotesOfTurns.{IsTicked, turns_votes}
use Rattle.sc_live_healed.proofs.IdleReplicas.{quiet_replicas_idle}

-- After these rows no replica has seen the last round.
abbrev pub HaveRounds : Scenario → Rows → Type 0
HaveRounds scenario rows = (seat : Seat Player) → IsOf scenario seat → (node : NodeState) → value player_table seat rows ≡ Node node → Each (λ (r : ReplicaState). r.top.round ≡ 2 ^ 32 - 1 → ⊥) node.replicas

module _ (words : ℕ → ℕ → ℕ × ℕ) (scenario : Scenario) (bounded : IsBounded scenario) (off : scenario.policy ≡ false) (lives : ℕ → Bool) (are_nodes : (who : ℕ) → lives who ≡ true → is_node who ≡ true) (seat : Seat Player) (is_of : IsOf scenario seat) (living : lives seat.who ≡ true) where
  abbrev alive : ℕ → Type 0
  alive who = lives who ≡ true

  abbrev Lets : Rows → Type 0
  Lets rows = LetsVote words scenario bounded off alive rows

  abbrev Has : Rows → List Turn → Rows → Type 0
  Has rows turns after = HasTurns (S words scenario bounded off alive) rows turns after

  -- after turns no mail is pending
  turns_end_quiet : (rows : Rows) (turns : List Turn) (after : Rows) → Has rows turns after → is_quiet (S words scenario bounded off alive) after ≡ true
  turns_end_quiet rows [] after t = subst (λ (rs : Rows). is_quiet (S words scenario bounded off alive) rs ≡ true) t.1 t.0
  turns_end_quiet rows (turn ∷ turns) after t = turns_end_quiet t.0 turns after t.2

  turns_leave_idle : (rows : Rows) (turns : List Turn) (after : Rows) → Has rows turns after → ((more later : Rows) → after ≡ (rows ++ more) ++ later → Lets (rows ++ more)) → Lets after
      → IsTicked words scenario bounded off alive are_nodes seat is_of living turns → (node : NodeState) → value player_table seat after ≡ Node node
      → (base : Base) → Among base scenario.groups → LivingMajority lives base.core.members → (r : ReplicaState) → replica_of base.core.id node.replicas ≡ Some r → settled r ≡ true → IsIdle r
  turns_leave_idle rows turns after t lets last ticked node e base a most r found on =
      let k = node_fixed words scenario bounded off alive after last seat is_of node e in
      let slots = node_takes words scenario bounded off alive after last seat is_of node e in
      let votes : VotesAt words scenario bounded off alive seat after = turns_votes words scenario bounded off alive are_nodes seat is_of living rows turns after t lets (inr ticked) in
      let none = none_pending (S words scenario bounded off alive) after (turns_end_quiet rows turns after t) in
      let at = find_found (λ (x : ReplicaState). same_draw (name_of x) base.core.id) node.replicas r found in
      let apart = fresh words scenario bounded off in
      let one = Each-among (IsOne scenario.groups apart node.me) node.replicas r k.2.replicas at.0 in
      let same : one.0 ≡ base = apart.apart one.0 base one.1 a (sym (name_one scenario.groups apart node.me r one) ∙ draw_is (name_of r) base.core.id at.1) in
      let fixed : IsFixedReplica base r = subst (λ (b : Base). IsFixedReplica b r) same one.4 in
      quiet_replicas_idle scenario.groups lives node base r a found fixed
      (found_takes scenario.groups apart (groups_rosters scenario bounded) node k.2 slots base r a found fixed) most
      (subst (λ (ms : List Mail). VotesAreUnderWay scenario.groups alive ms node) none (votes node e)) on (last.bounds seat is_of node e base r a found).near

  -- ---- from what holds of each prefix

  lets_vote : (rows : Rows) → IsTakenJournal scenario rows → ((who : ℕ) → alive who → may_get (numbers_of (S words scenario bounded off alive).births) rows who ≡ true) → (bound : ℕ) → IsNearJournal scenario bound rows → bound ≤ last_slot → HaveRounds scenario rows → Lets rows
  lets_vote rows taken gets bound near low rounds = record {
    taken = taken;
    gets = gets;
    nodes = λ other of lives_. seats_stay_nodes scenario bounded other of (are_nodes other.who lives_) rows;
    bounds = λ other of node e base r a found.
        (let at = find_found (λ (x : ReplicaState). same_draw (name_of x) base.core.id) node.replicas r found in
        let fact = Each-among (λ (x : ReplicaState). StaysNear bound (x, [])) node.replicas r (subst (PlayerNear bound) e (near.players other of)) at.0 in
        record { floor = fact.floored; near = (let reached = fact.reached in omega (arith, reached, low)) });
    rounds = rounds;
  }

  -- a prefix of a lawful journal without orders
  taken_prefix : (rows later : Rows) → AreWithoutOrders words scenario bounded off (rows ++ later) → Lawful as_nodes words scenario (rows ++ later) → IsTakenJournal scenario rows × IsNearJournal scenario (1 + 4 * length rows) rows
  taken_prefix rows later without_orders lawful =
      let first = lawful-prefix (system_of as_nodes words scenario) (schedule scenario) rows later lawful in
      (journal_taken words scenario bounded off rows (untold_prefix words scenario bounded off rows later without_orders) first, journal_near words scenario bounded off rows (untold_prefix words scenario bounded off rows later without_orders) first)

  -- Behind turns of a lawful journal without orders, of which one is the tick of a node that is alive, each replica of the node that runs, and is settled where it runs, is idle.
  pub living_replicas_idle : (rows : Rows) (turns : List Turn) (after : Rows) → Has rows turns after → Lawful as_nodes words scenario after → AreWithoutOrders words scenario bounded off after
      → ((who : ℕ) → alive who → may_get (numbers_of (S words scenario bounded off alive).births) rows who ≡ true) → 1 + 4 * length after ≤ last_slot → ((first later : Rows) → after ≡ first ++ later → HaveRounds scenario first)
      → IsTicked words scenario bounded off alive are_nodes seat is_of living turns → (node : NodeState) → value player_table seat after ≡ Node node
      → (base : Base) → Among base scenario.groups → LivingMajority lives base.core.members → (r : ReplicaState) → replica_of base.core.id node.replicas ≡ Some r → IsSettledOrStopped r → r.running ≡ true → IsIdle r
  living_replicas_idle rows turns after t lawful without_orders gets few rounds ticked node e base a most r found settles on =
      let s = S words scenario bounded off alive in
      let lets : (more later : Rows) → after ≡ (rows ++ more) ++ later → Lets (rows ++ more) =
      λ more later fact. (
      let both = taken_prefix (rows ++ more) later (subst (AreWithoutOrders words scenario bounded off) fact without_orders) (subst (Lawful as_nodes words scenario) fact lawful) in
      let parts = ap length fact ∙ length-append (rows ++ more) later in
      lets_vote (rows ++ more) both.0 (λ who l. turns_get s who rows turns after more later t fact (gets who l)) (1 + 4 * length (rows ++ more)) both.1 (omega (arith, few, parts)) (rounds (rows ++ more) later fact)) in
      let all = turns_kind s rows turns after t in
      let whole : after ≡ (rows ++ all.0) ++ [] = all.1 ∙ sym (append-nil (rows ++ all.0)) in
      turns_leave_idle rows turns after t lets (subst Lets (sym all.1) (lets all.0 [] whole)) ticked node e base a most r found (settles on)
