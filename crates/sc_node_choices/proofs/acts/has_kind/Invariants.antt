use Rattle.std.proofs.Common.{◌≡◌, drop}
use Rattle.std.specs.List.{list_any}
use Rattle.sc_node_table.specs.NodeDefinitions.{is_of_kind}
use Rattle.sc_node_choices.proofs.acts.has_kind.Given as goal

-- none so far
abbrev pub invariant-loop-i : goal.invariant-loop-i
invariant-loop-i l = list_any (is_of_kind l.act) (drop l.i l.commands.items) ≡ list_any (is_of_kind l.act) l.commands.items
