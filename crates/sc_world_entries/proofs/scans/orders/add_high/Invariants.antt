use Rattle.std.proofs.Common.{◌≡◌, ◌++◌, not, drop}
use Rattle.std.specs.List.{filter}
use Rattle.sc_world_entries.specs.scans.Order.{held, is_low}
use Rattle.sc_world_entries.proofs.scans.orders.add_high.Given as goal

-- those so far with those of what is left are all
abbrev pub invariant-loop-pair : goal.invariant-loop-pair
invariant-loop-pair l = l.list.items ++ filter (λ pair. not (is_low l.part pair)) (held l.part (drop l.pair-index l.pairs)) ≡ l.initial.list.items ++ filter (λ pair. not (is_low l.part pair)) (held l.part l.pairs)
