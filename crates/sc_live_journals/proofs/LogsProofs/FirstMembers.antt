-- Groups of a scenario and their children begin with nodes of the scenario, and what orders and policies queue brings such.
use Rattle.std.proofs.Common.{◌≡◌, ℕ, ◌<◌, ◌≤◌, ◌&&◌, Bool, List, [], ◌∷◌, zero, suc, length, map, Option, Some, None, inl, inr, ◌∙◌, subst, arith, option_to_list}
use Rattle.std.specs.FinMap.{entries}
use Rattle.std.specs.Option.{option_map}
use Rattle.std.proofs.lemmas.Bool.{cond_both}
use Rattle.sc_base.specs.Definitions.{Among, Each, same_draw}
use Rattle.sc_node_table.specs.Values.{Draw, Body, Command, Split, RecordWatch, Base, Lock, Free, Coordinating, Promised, Watching, Route, Order, OrderLine, OrderRefusal, Past}
use Rattle.sc_words.specs.commands.CommandDefinitions.{is_alone}
use Rattle.sc_words.specs.declared.commands.bodies.Body.TheVariants as By
use Rattle.sc_words.specs.declared.commands.orders.Order.TheVariants as An
use Rattle.sc_words.specs.declared.commands.votes.Past.TheVariants as Cast
use Rattle.sc_group_table.specs.machine.MachineDefinitions.{ordered_child, released_child, answered_child, watched_child, child_by, Group, applied, refusal_of, can_split, staying, child_of, has_named}
use Rattle.sc_meaning.specs.entries.EntryDefinitions.{birth_of}
use Rattle.sc_meaning.proofs.EntriesProofs.EntryLemmas.{births_are_children}
use Rattle.sc_node_table.specs.NodeDefinitions.{ordered_command, is_at_rest, policy_line, wished_line, ReplicaState}
use Rattle.sc_group_table.specs.declared.policy.bodies.Body0.{Body0}
use Rattle.sc_group_table.specs.declared.policy.bodies.Body0.TheVariants as Wants
use Rattle.sc_group_table.specs.policy.PolicyDefinitions.{wished, order_of, wished_order}
use Rattle.sc_words.proofs.PaxosProofs.PaxosLemmas.{Each-from_All}
use Rattle.sc_paxos_law.proofs.Lemmas.{Among-either}
use Rattle.sc_scenario.specs.scenario.Definitions.{group_at, base_at, bases_up_to, IsUpTo, IsBounded, IsBoundedGroup, IsBoundedLine, IsBoundedOrder}
use Rattle.sc_scenario.specs.declared.scenario.drafts.GroupLine.{GroupLine}
use Rattle.sc_scenario.specs.declared.scenario.scenarios.Asks.{Asks}
use Rattle.sc_scenario.specs.declared.scenario.scenarios.Scenario.{Scenario}
use Rattle.sc_scenario.specs.declared.scenario.scenarios.SchedLine.{SchedLine}
use Rattle.sc_scenario.specs.declared.scenario.scenarios.SchedLine.TheVariants as scheduled
use Rattle.sc_meaning.specs.sound.SoundDefinitions.{children_of, line_of}
use Rattle.sc_law_entries.proofs.NamesProofs.NameLemmas.{Each-drop}
use Rattle.sc_law_groups.proofs.GroupProofs.GroupLemmas.{OrdersOnly}
use Rattle.sc_live_journals.proofs.LogsProofs.NodesInGroups.{BringsNodes, HasNodes, nodes_stay_nodes}
use Rattle.sc_law_groups.proofs.WholeProofs.FreshChildren.{listed}

module _ (scenario : Scenario) where
  -- a group at a place of its lines
  up_to_nodes : (lines : List GroupLine) → ((k : ℕ) → k < length lines → IsBoundedGroup scenario.nodes (group_at lines k)) → (count : ℕ) → count ≤ length lines
      → (base : Base) → Among base (bases_up_to lines count) → (HasNodes (IsUpTo scenario.nodes)) base.core
  up_to_nodes lines each zero low base a = absurd a
  up_to_nodes lines each (suc count) low base a = elim (Among-either base (bases_up_to lines count) (base_at lines count ∷ []) a) [
    | inl b ↦ up_to_nodes lines each count (omega (arith, low)) base b
    | inr (inl e) ↦ subst (λ (b : Base). (HasNodes (IsUpTo scenario.nodes)) b.core) e (
      Each-from_All (IsUpTo scenario.nodes) (group_at lines count).members (each count (omega (arith, low))).members_in,
      tt,
      tt,
    )
    | inr (inr e) ↦ absurd e
  ]

  -- the groups of a scenario begin with nodes
  pub first_nodes : IsBounded scenario → (base : Base) → Among base scenario.groups → (HasNodes (IsUpTo scenario.nodes)) base.core
  first_nodes bounded base a =
      up_to_nodes bounded.starts (λ k low. bounded.each k (record { lo = 0; members = [] }) low) (length bounded.starts) (omega arith) base (subst (Among base) bounded.groups a)

  -- ---- orders

  -- an order to join names one
  ordered_nodes : (order : Order) → IsBoundedOrder scenario.nodes order → (name : Draw) (number : ℕ) → (BringsNodes (IsUpTo scenario.nodes)) (ordered_command name number order)
  ordered_nodes (An.Join node group) bounded name number = bounded
  ordered_nodes _ bounded name number = tt

  -- an order of nodes, whoever gets it and whatever name it takes
  abbrev pub OrdersNodes : ℕ → OrderLine → Type 0
  OrdersNodes who line = (name : Draw) → (BringsNodes (IsUpTo scenario.nodes)) (ordered_command name line.number line.order)

  -- so does each line of the schedule
  line_nodes : (clients : List Asks) (line : SchedLine) → IsBoundedLine scenario.nodes clients line → OrdersOnly OrdersNodes (line_of line)
  line_nodes clients (scheduled.Told node line) bounded = λ name. ordered_nodes line.order bounded.1 name line.number
  line_nodes clients _ bounded = tt

  -- and so do all lines
  pub lines_nodes : (clients : List Asks) (lines : List SchedLine) → Each (IsBoundedLine scenario.nodes clients) lines → Each (OrdersOnly OrdersNodes) (map line_of lines)
  lines_nodes clients [] bounded = tt
  lines_nodes clients (line ∷ lines) bounded = (line_nodes clients line bounded.0, lines_nodes clients lines bounded.1)

  -- a policy's order brings nobody
  wished_nodes : (body : Body0) (group name : Draw) (number : ℕ) → (BringsNodes (IsUpTo scenario.nodes)) (ordered_command name number (order_of group body))
  wished_nodes (Wants.Split at) group name number = tt
  wished_nodes Wants.Merge group name number = tt
  wished_nodes (Wants.Repart at) group name number = tt

  -- nor does what is wished at a tick
  pub wishes_nodes : (on : Bool) (r : ReplicaState) (line : OrderLine) (name : Draw) → wished_line on r ≡ Some line → (BringsNodes (IsUpTo scenario.nodes)) (ordered_command name line.number line.order)
  wishes_nodes on r line name e =
      cond_both (on && is_at_rest r) (option_map policy_line (wished_order r.group.core (entries r.group.pairs))) None (λ (o : Option OrderLine). o ≡ Some line → (BringsNodes (IsUpTo scenario.nodes)) (ordered_command name line.number line.order))
      (λ _ fact. by (wished r.group.core (entries r.group.pairs)) fact) (λ _ fact. cc) e
    where
      by : (o : Option Body0) → option_map policy_line (option_map (order_of r.group.core.id) o) ≡ Some line → (BringsNodes (IsUpTo scenario.nodes)) (ordered_command name line.number line.order)
      by None fact = cc
      by (Some body) fact = (let same : policy_line (order_of r.group.core.id body) ≡ line = cc in subst (λ (l : OrderLine). (BringsNodes (IsUpTo scenario.nodes)) (ordered_command name l.number l.order)) same (wished_nodes body r.group.core.id name 0))

  -- ---- children

  -- the members that go are nodes
  child_nodes : (group : Group) (at : ℕ) (child : Draw) → (HasNodes (IsUpTo scenario.nodes)) group.core → (HasNodes (IsUpTo scenario.nodes)) (child_of group at child).core
  child_nodes group at child has = (Each-drop (IsUpTo scenario.nodes) (staying group.core.members) group.core.members has.0, tt, tt)

  -- the child that an order names
  by_order : (gone : Option Route) (why : Option OrderRefusal) (group : Group) (at : ℕ) (child : Draw) → (HasNodes (IsUpTo scenario.nodes)) group.core → (kid : Base) → ordered_child gone why group at child ≡ Some kid → (HasNodes (IsUpTo scenario.nodes)) kid.core
  by_order (Some into) why group at child has kid e = cc
  by_order None (Some why) group at child has kid e = cc
  by_order None None group at child has kid e =
      cond_both (is_alone group.core) (Some (child_of group at child)) None (λ o. o ≡ Some kid → (HasNodes (IsUpTo scenario.nodes)) kid.core)
      (λ _ fact. (let same : child_of group at child ≡ kid = cc in subst (λ (b : Base). (HasNodes (IsUpTo scenario.nodes)) b.core) same (child_nodes group at child has))) (λ _ fact. cc) e

  -- the child of a split that its watcher lets go on
  by_release : (body : Body) (group : Group) → (HasNodes (IsUpTo scenario.nodes)) group.core → (kid : Base) → released_child body group ≡ Some kid → (HasNodes (IsUpTo scenario.nodes)) kid.core
  by_release By.Merge group has kid e = cc
  by_release (By.Repart at) group has kid e = cc
  by_release (By.Migrate node) group has kid e = cc
  by_release (By.Split at child) group has kid e =
      cond_both (can_split group.core at) (Some (child_of group at child)) None (λ o. o ≡ Some kid → (HasNodes (IsUpTo scenario.nodes)) kid.core)
      (λ _ fact. (let same : child_of group at child ≡ kid = cc in subst (λ (b : Base). (HasNodes (IsUpTo scenario.nodes)) b.core) same (child_nodes group at child has))) (λ _ fact. cc) e

  -- whatever the watcher answers
  by_answer : (vote : Past) (body : Body) (group : Group) → (HasNodes (IsUpTo scenario.nodes)) group.core → (kid : Base) → answered_child vote body group ≡ Some kid → (HasNodes (IsUpTo scenario.nodes)) kid.core
  by_answer Cast.Yes body group has kid e = by_release body group has kid e
  by_answer (Cast.No why) body group has kid e = cc
  by_answer Cast.Ended body group has kid e = cc

  -- whatever binds the group
  by_watch : (lock : Lock) (group : Group) (tx : Draw) (vote : Past) → (HasNodes (IsUpTo scenario.nodes)) group.core → (kid : Base) → watched_child lock group tx vote ≡ Some kid → (HasNodes (IsUpTo scenario.nodes)) kid.core
  by_watch Free group tx vote has kid e = cc
  by_watch (Promised t offer) group tx vote has kid e = cc
  by_watch (Watching t watch) group tx vote has kid e = cc
  by_watch (Coordinating t body order got) group tx vote has kid e =
      cond_both (same_draw t tx) (answered_child vote body group) None (λ o. o ≡ Some kid → (HasNodes (IsUpTo scenario.nodes)) kid.core) (λ _ fact. by_answer vote body group has kid fact) (λ _ fact. cc) e

  -- the child of a command
  command_nodes : (group : Group) (c : Command) → (HasNodes (IsUpTo scenario.nodes)) group.core → (kid : Base) → child_by group c ≡ Some kid → (HasNodes (IsUpTo scenario.nodes)) kid.core
  command_nodes group (Split at child order) has kid e =
      cond_both (has_named group.core child) None (ordered_child group.core.gone (refusal_of group.core (Split at child order)) group at child) (λ o. o ≡ Some kid → (HasNodes (IsUpTo scenario.nodes)) kid.core) (λ _ fact. cc)
      (λ _ fact. by_order group.core.gone (refusal_of group.core (Split at child order)) group at child has kid fact) e
  command_nodes group (RecordWatch tx vote by) has kid e = by_watch group.core.lock group tx vote has kid e
  command_nodes group _ has kid e = cc

  -- the children of a log
  pub children_nodes : (group : Group) (log : List Command) → (HasNodes (IsUpTo scenario.nodes)) group.core → Each (BringsNodes (IsUpTo scenario.nodes)) log → (kid : Base) → Among kid (children_of group log) → (HasNodes (IsUpTo scenario.nodes)) kid.core
  children_nodes group [] has all kid a = absurd a
  children_nodes group (c ∷ log) has all kid a =
      elim (Among-either kid (option_to_list (birth_of group c (applied group c).1)) (children_of (applied group c).0 log) a) [
        | inl here ↦ command_nodes group c has kid (births_are_children group c ∙ listed (birth_of group c (applied group c).1) kid here)
        | inr later ↦ children_nodes (applied group c).0 log (nodes_stay_nodes (IsUpTo scenario.nodes) group c all.0 has) all.1 kid later
      ]
