use Rattle.std.proofs.Common.{◌≡◌, ◌++◌, drop}
use Rattle.std.specs.List.{filter}
use Rattle.sc_world_entries.specs.scans.Order.{held, is_low}
use Rattle.sc_world_entries.proofs.scans.orders.add_low.Given as goal

-- those so far with those of what is left are all
abbrev pub invariant-loop-pair : goal.invariant-loop-pair
invariant-loop-pair l = l.list.items ++ filter (is_low l.part) (held l.part (drop l.pair-index l.pairs)) ≡ l.initial.list.items ++ filter (is_low l.part) (held l.part l.pairs)
