use Rattle.std.proofs.Common.{◌≡◌, take, None}
use Rattle.sc_meaning.specs.entries.Worlds.{named_group}
use Rattle.sc_world_groups.proofs.groups.place_of.Given as goal

-- none so far has the name
abbrev pub invariant-loop-group : goal.invariant-loop-group
invariant-loop-group l = record {
  count : l.at ≡ l.group-index;
  none : named_group l.name (take l.group-index l.groups) ≡ None;
}
