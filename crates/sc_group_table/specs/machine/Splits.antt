-- The split of a group in two, as groups of Scatter split (SOSP 2011, multi-group operations): the group keeps the positions before a boundary and its lesser members, and a new group, its child, takes the rest.
use Rattle.std.specs.Prelude.{ℕ, ◌-◌, ◌/◌, ◌≤◌, Bool, not, is_some, ◌&&◌, ◌||◌, if◌then◌else◌, List, [], ◌∷◌, ◌++◌, length, take, drop, Option, Some, None, false}
use Rattle.std.specs.List.{list_any}
use Rattle.std.specs.FinMap.{entries}
use Rattle.sc_base.specs.Definitions.{CanCut, before, from, least_of, same_draw}
use Rattle.sc_base.specs.declared.names.Draw.{Draw}
use Rattle.sc_words.specs.commands.CommandDefinitions.{is_alone}
use Rattle.sc_words.specs.ideal.IdealDefinitions.{part_of}
use Rattle.sc_words.specs.declared.commands.cores.Base.{Base}
use Rattle.sc_words.specs.declared.commands.cores.Core.{Core}
use Rattle.sc_words.specs.declared.commands.cores.Lock.TheVariants.{Free}
use Rattle.sc_words.specs.declared.commands.links.Link.{Link}
use Rattle.sc_group_table.specs.machine.Group.{Group}
use Rattle.sc_group_table.specs.machine.Orders.{locked_in}

-- a group can be split at a position: its arc can be cut there and it has at least two members
pub record CanSplit (core : Core) (at : ℕ) : Type 0 where
  pub cut : CanCut core.arc at
  pub two : 2 ≤ length core.members

-- how many of n members stay in a split: n - n/2
abbrev pub staying : List ℕ → ℕ
staying members = length members - length members / 2

-- the members that stay, which are the lesser ones
abbrev pub left_members : List ℕ → List ℕ
left_members members = take (staying members) members

-- the members of the child, which are the greater ones
abbrev pub right_members : List ℕ → List ℕ
right_members members = drop (staying members) members

-- the link to the group after a split
abbrev pub left_link : Core → Link
left_link core = record { group = core.id; members = left_members core.members }

-- the link to the child
abbrev pub right_link : Core → Draw → Link
right_link core child = record { group = child; members = right_members core.members }

-- whether a split is made without a transaction: the group is in none, and is its own successor; in the transaction of a split it has a watcher
abbrev pub splits_at_once : Core → Bool
splits_at_once core = not (is_some (locked_in core.lock)) && is_alone core

-- the predecessor of the group after a split: the child where the split is made without a transaction, and else the same as before
abbrev pub left_pred : Core → Draw → Link
left_pred core child = if splits_at_once core then right_link core child else core.pred

-- the successor of the child: the group where the split is made without a transaction, and else the group's successor before
abbrev pub right_succ : Core → Link
right_succ core = if splits_at_once core then left_link core else core.succ

-- the group's record after a split: it keeps its name, and remembers the child
abbrev pub left_core : Core → ℕ → Draw → Core
left_core core at child = record core {
  arc = before core.arc at;
  members = left_members core.members;
  succ = right_link core child;
  pred = left_pred core child;
  born = core.born ++ child ∷ [];
}

-- the child's record: it is free, and has begun, decided and voted on nothing
abbrev pub right_core : Core → ℕ → Draw → Core
right_core core at child = record {
  id = child;
  first = least_of (right_members core.members);
  arc = from core.arc at;
  members = right_members core.members;
  succ = right_succ core;
  pred = left_link core;
  lock = Free;
  begun = 0;
  decided = [];
  voted = [];
  born = [];
  gone = None;
}

-- the group after a split, with the pairs before the boundary
abbrev pub left_group : Group → ℕ → Draw → Group
left_group group at child = record group { core = left_core group.core at child; pairs = part_of (before group.core.arc at) group.pairs }

-- the first state of the child of a group that is not split yet: the pairs from the boundary on, and the whole client table
abbrev pub child_of : Group → ℕ → Draw → Base
child_of group at child = record { core = right_core group.core at child; pairs = entries (part_of (from group.core.arc at) group.pairs); clients = entries group.clients }

-- whether a lock's transaction is this one
abbrev pub is_locked_in : Option Draw → Draw → Bool
is_locked_in None draw = false
is_locked_in (Some tx) draw = same_draw tx draw

-- whether a name is in use in a group: for a child that it has split off, for a transaction that it has decided, or for that of its lock
abbrev pub has_named : Core → Draw → Bool
has_named core draw =
    list_any (λ child. same_draw child draw) core.born
    || list_any (λ decision. same_draw decision.0 draw) core.decided
    || is_locked_in (locked_in core.lock) draw
