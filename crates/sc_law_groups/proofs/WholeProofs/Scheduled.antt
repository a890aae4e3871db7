-- The orders of a lawful journal of a well formed scenario are at positions of the ring, so what nodes queue for them, and for what policies order, is allowed by the owners of names.
use Rattle.std.proofs.Common.{ℕ, List, [], ◌∷◌, ◌++◌, map, inl, refl, sym, subst}
use Rattle.sc_base.specs.Definitions.{Each, next_name}
use Rattle.sc_node_table.specs.Values.{Order, OrderLine, Mail, Row}
use Rattle.sc_words.specs.declared.commands.orders.Order.TheVariants as An
use Rattle.sc_node_table.specs.NodeDefinitions.{group_of_order, names_after_ticks, ordered_command, name_of}
use Rattle.sc_words.proofs.PaxosProofs.PaxosLemmas.{Each-among, Each-append, Each-from_All}
use Rattle.sc_paxos_law.proofs.Lemmas.{Among-right}
use Rattle.sc_meaning.specs.sound.SoundDefinitions.{Ahead, Lawful, line_of, schedule, system_of}
use Rattle.sc_scenario.specs.scenario.Definitions.{IsBounded, IsBoundedOrder}
use Rattle.sc_scenario.specs.declared.scenario.scenarios.Scenario.{Scenario}
use Rattle.sc_scenario.specs.declared.scenario.scenarios.SchedLine.{SchedLine}
use Rattle.sc_scenario.specs.declared.scenario.scenarios.SchedLine.TheVariants as scheduled
use Rattle.sc_law_entries.specs.ring.RingDefinitions.{IsAllowed}
use Rattle.sc_law_entries.specs.names.NameDefinitions.{IsAtPosition, TakesOrder, TakenOrdersAreAllowed, TakesWish, TakenWishesAreAllowed, WishesAreAtPositions, owner_in}
use Rattle.sc_law_groups.proofs.GroupProofs.GroupLemmas.{GivesAllowedOrder, OrdersOnly, told_induction}
use Rattle.sc_law_entries.specs.logs.LogDefinitions.{Rows}
use Rattle.sc_law_groups.proofs.WholeProofs.StartValid.{bounded_is_formed}
use Rattle.sc_law_groups.specs.whole.WholeDefinitions.{IsWellFormed, GivesBoundedOrder, section_op, QueuedOrdersAreAllowed, WishedAreAllowed, OrdersAreAllowed}

-- ---- the schedule

at_position : (nodes : ℕ) (order : Order) → IsBoundedOrder nodes order → IsAtPosition order
at_position nodes (An.Split group at) bounded = bounded
at_position nodes (An.Repart group at) bounded = bounded
at_position nodes _ bounded = tt

-- an order at a position, whichever node gets it
abbrev IsPlaced : ℕ → OrderLine → Type 0
IsPlaced who line = IsAtPosition line.order

placed_line : (nodes : ℕ) (line : SchedLine) → GivesBoundedOrder nodes line → OrdersOnly IsPlaced (line_of line)
placed_line nodes (scheduled.Told node line) bounded = at_position nodes line.order bounded.1
placed_line nodes _ bounded = tt

placed_lines : (nodes : ℕ) (lines : List SchedLine) → Each (GivesBoundedOrder nodes) lines → Each (OrdersOnly IsPlaced) (map line_of lines)
placed_lines nodes [] bounded = tt
placed_lines nodes (line ∷ lines) bounded = (placed_line nodes line bounded.0, placed_lines nodes lines bounded.1)

-- ---- its rows

module _ (ahead : Ahead) (words : ℕ → ℕ → ℕ × ℕ) (scenario : Scenario) (formed : IsWellFormed scenario) where
  -- a row that brings no order but at a position
  abbrev IsPlacedRow : Row Mail OrderLine → Type 0
  IsPlacedRow row = GivesAllowedOrder IsPlaced row.who row.event

  placed_rows : (rows : Rows) → Lawful ahead words scenario rows → Each IsPlacedRow rows
  placed_rows rows lawful =
      told_induction IsPlaced (system_of ahead words scenario) (Each IsPlacedRow) (λ before row p told step. Each-append IsPlacedRow before (row ∷ []) p (told, tt)) (schedule scenario) rows
      (placed_lines scenario.nodes scenario.lines (Each-from_All (GivesBoundedOrder scenario.nodes) scenario.lines formed.orders)) tt lawful

  -- what is queued for an order of the schedule is allowed by the owners of the whole journal
  told_allowed : TakenOrdersAreAllowed → (rows : Rows) → Lawful ahead words scenario rows → QueuedOrdersAreAllowed (record { owner = owner_in ahead scenario rows; request = section_op scenario }) ahead scenario rows
  told_allowed law rows lawful before row later are line told low high node value_is r found taken stories =
      let all = subst (Each IsPlacedRow) are (placed_rows rows lawful) in
      let placed = subst (GivesAllowedOrder IsPlaced row.who) told (Each-among IsPlacedRow (before ++ row ∷ later) row all (Among-right row before (row ∷ later) (inl refl))) in
      let takes : TakesOrder ahead scenario before row line node r = record { low = low; high = high; value_is = value_is; event_is = told; found = found; taken = taken } in
      subst (λ (journal : Rows). IsAllowed (record { owner = owner_in ahead scenario journal; request = section_op scenario }) stories (group_of_order line.order) (ordered_command (next_name node.draws) line.number line.order)) (sym are)
      (law ahead scenario before row later line node r takes placed (section_op scenario) stories)

  -- so is what is queued for what policies order
  wished_allowed : TakenWishesAreAllowed → WishesAreAtPositions → (rows : Rows) → WishedAreAllowed (record { owner = owner_in ahead scenario rows; request = section_op scenario }) ahead scenario rows
  wished_allowed law positions rows before row later are event low high node value_is older newer r replicas line wished taken stories =
      let name = next_name (names_after_ticks node.policy node.draws older) in
      let placed = positions node.policy r line wished in
      let takes : TakesWish ahead scenario before row line node older newer r = record { low = low; high = high; value_is = value_is; event_is = event; replicas_are = replicas; wished = wished; taken = taken } in
      subst (λ (journal : Rows). IsAllowed (record { owner = owner_in ahead scenario journal; request = section_op scenario }) stories (name_of r) (ordered_command name line.number line.order)) (sym are)
      (law ahead scenario before row later line node older newer r takes placed (section_op scenario) stories)

  -- both
  pub formed_orders_allowed : TakenOrdersAreAllowed → TakenWishesAreAllowed → WishesAreAtPositions → (rows : Rows) → Lawful ahead words scenario rows → OrdersAreAllowed (record { owner = owner_in ahead scenario rows; request = section_op scenario }) ahead scenario rows
  formed_orders_allowed told wished positions rows lawful = record { told = told_allowed told rows lawful; wished = wished_allowed wished positions rows }

-- so it is in a scenario within its bounds
pub orders_allowed : (ahead : Ahead) (words : ℕ → ℕ → ℕ × ℕ) (scenario : Scenario) → IsBounded scenario → TakenOrdersAreAllowed → TakenWishesAreAllowed → WishesAreAtPositions
    → (rows : Rows) → Lawful ahead words scenario rows → OrdersAreAllowed (record { owner = owner_in ahead scenario rows; request = section_op scenario }) ahead scenario rows
orders_allowed ahead words scenario bounded = formed_orders_allowed ahead words scenario (bounded_is_formed scenario bounded)
