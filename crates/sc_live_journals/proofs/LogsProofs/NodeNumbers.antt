-- Numbers up to that of a scenario's nodes are nodes, and so is what a group and its commands say of them.
use Rattle.std.proofs.Common.{◌≡◌, ℕ, ◌≤◌, nat_le, true, List, Option, Some, None, arith}
use Rattle.std.proofs.lemmas.Bool.{and_from, le-leb}
use Rattle.sc_base.specs.Definitions.{most_nodes}
use Rattle.sc_node_table.specs.Values.{Draw, Core, Lock, Free, Coordinating, Promised, Watching, Heard, Outcome, Migrated, Abort}
use Rattle.sc_node_table.specs.NodeDefinitions.{is_node}
use Rattle.sc_words.proofs.PaxosProofs.PaxosLemmas.{Each-weaker}
use Rattle.sc_scenario.specs.scenario.Definitions.{IsUpTo}
use Rattle.sc_live_journals.specs.logs.LogDefinitions.{AreNodes, MovesNode, HeardNodes, LockNodes, HasNodes}
use Rattle.sc_live_journals.proofs.LogsProofs.NodesInGroups as so

-- a node of a scenario is one
pub up_to_node : (nodes node : ℕ) → nodes ≤ most_nodes → IsUpTo nodes node → is_node node ≡ true
up_to_node nodes node few fact =
    let low = fact.0 in
    let high = fact.1 in
    and_from (nat_le 1 node) (nat_le node most_nodes) (le-leb 1 node low) (le-leb node most_nodes (omega (arith, few, high)))

module _ (nodes : ℕ) (few : nodes ≤ most_nodes) where
  abbrev Up : ℕ → Type 0
  Up node = IsUpTo nodes node

  all : (members : List ℕ) → so.AreNodes Up members → AreNodes members
  all members k = Each-weaker Up (λ node. is_node node ≡ true) (λ node fact. up_to_node nodes node few fact) members k

  moves : (outcome : Outcome) → so.MovesNode Up outcome → MovesNode outcome
  moves (Migrated node) k = up_to_node nodes node few k
  moves Abort k = tt
  moves _ k = tt

  heard : (o : Option Heard) → so.HeardNodes Up o → HeardNodes o
  heard None k = tt
  heard (Some h) k = all h.frozen.members k

  locks : (lock : Lock) → so.LockNodes Up lock → LockNodes lock
  locks (Coordinating tx body order h) k = heard h k
  locks Free k = tt
  locks (Promised tx offer) k = tt
  locks (Watching tx watch) k = tt

  pub has : (core : Core) → so.HasNodes Up core → HasNodes core
  has core k = (
    all core.members k.0,
    locks core.lock k.1,
    Each-weaker (λ (decision : Draw × Outcome). so.MovesNode Up decision.1) (λ (decision : Draw × Outcome). MovesNode decision.1) (λ decision m. moves decision.1 m) core.decided k.2,
  )
