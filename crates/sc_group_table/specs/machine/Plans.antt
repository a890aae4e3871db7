-- What a transaction makes of its coordinator: a merge, a moved boundary, or a member that is handed over, as in Scatter (SOSP 2011, multi-group operations). None stands for a plan that cannot be made.
use Rattle.std.specs.Prelude.{ℕ, ◌+◌, ◌^◌, Bool, ◌==◌, ◌&&◌, not, nat_le, is_some, length, List, ◌∷◌, [], if◌then◌else◌, Option, Some, None}
use Rattle.std.specs.List.{list_any}
use Rattle.std.specs.FinMap.{empty, entries, get}
use Rattle.sc_base.specs.Definitions.{Arc, holds, end_of, before, from, joined, same_draw, is_member, without_member, united}
use Rattle.sc_base.specs.declared.names.Draw.{Draw}
use Rattle.sc_words.specs.ideal.IdealDefinitions.{Contents, part_of, with_pairs, joined_with}
use Rattle.sc_words.specs.declared.commands.cores.Core.{Core}
use Rattle.sc_words.specs.declared.commands.links.Link.{Link}
use Rattle.sc_words.specs.declared.commands.links.Route.{Route}
use Rattle.sc_words.specs.declared.commands.votes.Frozen.{Frozen}
use Rattle.sc_words.specs.declared.commands.votes.Gift.{Gift}
use Rattle.sc_words.specs.declared.commands.votes.Outcome.{Outcome}
use Rattle.sc_words.specs.declared.commands.votes.Outcome.TheVariants.{Merged, Moved, Migrated, Divided}
use Rattle.sc_group_table.specs.machine.Group.{Group}
use Rattle.sc_group_table.specs.machine.Splits.{left_group}

-- the plan of a transaction: the coordinator after it, and the outcome, or none
abbrev pub Plan : Type 0
Plan = Option (Group × Outcome)

-- whether an arc can be cut at a position
abbrev pub can_cut : Arc → ℕ → Bool
can_cut arc at = holds arc at && not (at == arc.lo)

-- whether two arcs can be joined: they meet, and together are not longer than the ring
abbrev pub can_join : Arc → Arc → Bool
can_join arc next = (next.lo == end_of arc) && nat_le (arc.len + next.len) (2 ^ 32)

-- whether a map has one of the keys of these pairs
abbrev pub has_key_of : Contents → List (List ℕ × List ℕ) → Bool
has_key_of contents pairs = list_any (λ pair. is_some (get contents pair.0)) pairs

-- the record that a participant hands to its coordinator with its Yes
abbrev pub frozen_of : Group → Frozen
frozen_of group = record {
  arc = group.core.arc;
  members = group.core.members;
  succ = group.core.succ;
  pairs = entries group.pairs;
  clients = entries group.clients;
}

-- ---- a split

-- whether a group can be split at a position: its arc can be cut there and it has at least two members
abbrev pub can_split : Core → ℕ → Bool
can_split core at = can_cut core.arc at && nat_le 2 (length core.members)

-- the plan of a split: the group keeps the part before the boundary
abbrev pub split_plan : Group → ℕ → Draw → Plan
split_plan group at child = if can_split group.core at then Some (left_group group at child, Divided) else None

-- ---- a merge: the coordinator takes over its successor

-- whether a group can take over its successor: the arcs can be joined, and both have at most nine members together
abbrev pub can_merge : Core → Frozen → Bool
can_merge core frozen = can_join core.arc frozen.arc && nat_le (length (united core.members frozen.members)) 9

-- the link to the merged group, which has the members of both
abbrev pub merged_link : Core → Frozen → Link
merged_link core frozen = record { group = core.id; members = united core.members frozen.members }

-- the successor of the merged group: that of the participant, or the merged group itself where the two make the ring
abbrev pub merged_succ : Core → Frozen → Link
merged_succ core frozen = if same_draw frozen.succ.group core.id then merged_link core frozen else frozen.succ

-- the coordinator's record after a merge, with the arcs and the members of both
abbrev pub merged_core : Core → Frozen → Core
merged_core core frozen = record core {
  arc = joined core.arc frozen.arc;
  members = united core.members frozen.members;
  succ = merged_succ core frozen;
}

-- the route to the merged group, where the participant's keys are found from then on
abbrev pub merged_route : Core → Frozen → Route
merged_route core frozen = record { group = core.id; lo = core.arc.lo; members = united core.members frozen.members }

-- a group with this record, which takes over pairs and a client table
abbrev pub enriched : Group → Core → Gift → Group
enriched group core gift = record { core = core; pairs = with_pairs group.pairs gift.pairs; clients = joined_with group.clients gift.clients }

-- the pairs and the client table of a participant, as a gift
abbrev pub whole_gift : Frozen → Gift
whole_gift frozen = record { pairs = frozen.pairs; clients = frozen.clients }

-- the group after it has taken over a successor that is followed by a third group
abbrev pub merged_group : Group → Frozen → Group
merged_group group frozen = enriched group (merged_core group.core frozen) (whole_gift frozen)

-- the coordinator's record after a merge of the two groups that make the ring: it is its own predecessor
abbrev pub closing_core : Core → Frozen → Core
closing_core core frozen = record (merged_core core frozen) { pred = merged_link core frozen }

-- the group after it has taken over the only other group of the ring
abbrev pub closing_group : Group → Frozen → Group
closing_group group frozen = enriched group (closing_core group.core frozen) (whole_gift frozen)

-- whether a merge can be made: arcs and members fit, and no key of the participant is there already
abbrev pub may_merge : Group → Frozen → Bool
may_merge group frozen = can_merge group.core frozen && not (has_key_of group.pairs frozen.pairs)

-- the plan of a merge where a third group follows the participant
abbrev pub merge_plan : Group → Frozen → Plan
merge_plan group frozen =
    if may_merge group frozen then Some (merged_group group frozen, Merged (merged_route group.core frozen)) else None

-- the plan of a merge where the two groups make the ring
abbrev pub closing_plan : Group → Frozen → Plan
closing_plan group frozen =
    if may_merge group frozen then Some (closing_group group frozen, Merged (merged_route group.core frozen)) else None

-- ---- a boundary that moves to `at`: where `at` is in the coordinator's arc, the coordinator gives what lies from there on; else it takes what the successor has before it

-- whether a boundary can move to `at`: the arc that gives can be cut there, and the part that is taken fits to the coordinator's arc
abbrev pub can_repart : Core → ℕ → Frozen → Bool
can_repart core at frozen =
    if holds core.arc at then can_cut core.arc at
    else can_cut frozen.arc at && can_join core.arc (before frozen.arc at)

-- the arc that changes from one group to the other
abbrev pub moved_arc : Core → ℕ → Frozen → Arc
moved_arc core at frozen = if holds core.arc at then from core.arc at else before frozen.arc at

-- the coordinator's arc after the boundary has moved
abbrev pub kept_arc : Core → ℕ → Frozen → Arc
kept_arc core at frozen = if holds core.arc at then before core.arc at else joined core.arc (before frozen.arc at)

-- the link to the successor with the members that its frozen record has
abbrev pub succ_with : Core → List ℕ → Link
succ_with core members = record { group = core.succ.group; members = members }

-- the coordinator's record after the boundary has moved
abbrev pub repart_core : Core → ℕ → Frozen → Core
repart_core core at frozen = record core { arc = kept_arc core at frozen; succ = succ_with core frozen.members }

-- the gift to the successor: the pairs from the boundary on, and the client table
abbrev pub part_gift : Group → ℕ → Gift
part_gift group at = record { pairs = entries (part_of (from group.core.arc at) group.pairs); clients = entries group.clients }

-- the gift that the coordinator takes: the successor's pairs before the boundary, and its client table
abbrev pub taken : ℕ → Frozen → Gift
taken at frozen = record { pairs = entries (part_of (before frozen.arc at) (with_pairs empty frozen.pairs)); clients = frozen.clients }

-- the coordinator that gives: it keeps the pairs before the boundary
abbrev pub giving_group : Group → ℕ → Frozen → Group
giving_group group at frozen = record group { core = repart_core group.core at frozen; pairs = part_of (before group.core.arc at) group.pairs }

-- the coordinator that takes: it gets the successor's pairs before the boundary
abbrev pub taking_group : Group → ℕ → Frozen → Group
taking_group group at frozen = enriched group (repart_core group.core at frozen) (taken at frozen)

-- the plan of a moved boundary where the coordinator gives
abbrev pub giving_plan : Group → ℕ → Frozen → Plan
giving_plan group at frozen =
    if can_repart group.core at frozen then Some (giving_group group at frozen, Moved at (Some (part_gift group at))) else None

-- the plan of a moved boundary where the coordinator takes; none also where a key that it would take is there already
abbrev pub taking_plan : Group → ℕ → Frozen → Plan
taking_plan group at frozen =
    if can_repart group.core at frozen && not (has_key_of group.pairs (taken at frozen).pairs)
    then Some (taking_group group at frozen, Moved at None)
    else None

-- the plan of a moved boundary: the coordinator gives where the boundary lies in its arc, and else takes
abbrev pub repart_plan : Group → ℕ → Frozen → Plan
repart_plan group at frozen = if holds group.core.arc at then giving_plan group at frozen else taking_plan group at frozen

-- ---- a member that leaves the coordinator for its successor

-- whether a member can be handed over: it is a member but not the only one, and the successor then has at most nine
abbrev pub can_migrate : Core → ℕ → Frozen → Bool
can_migrate core node frozen = is_member core.members node && nat_le 2 (length core.members) && nat_le (length (united frozen.members (node ∷ []))) 9

-- the coordinator's record without the member, with the link to a successor that has it
abbrev pub migrated_core : Core → ℕ → Frozen → Core
migrated_core core node frozen = record core {
  members = without_member core.members node;
  succ = succ_with core (united frozen.members (node ∷ []));
}

-- the coordinator without the member that was handed over
abbrev pub migrated_group : Group → ℕ → Frozen → Group
migrated_group group node frozen = record group { core = migrated_core group.core node frozen }

-- the plan of a member that is handed over
abbrev pub migrate_plan : Group → ℕ → Frozen → Plan
migrate_plan group node frozen =
    if can_migrate group.core node frozen then Some (migrated_group group node frozen, Migrated node) else None
