use Rattle.std.specs.Ordering.{nat_cmp}
use Rattle.std.specs.BTreeMap.{get_by}
use Rattle.sc_world_logs.specs.Indexes.{listed_in, IsIndexed}
use Rattle.sc_world_logs.proofs.indexing.by_slot.Given as goal

-- those so far are in their places
abbrev pub invariant-loop-acceptance : goal.invariant-loop-acceptance
invariant-loop-acceptance l = IsIndexed (λ slot. listed_in (λ kept. kept.items) (get_by (nat_cmp slot) l.index)) l.yielded
