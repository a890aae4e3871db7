-- The groups that a client knows, in the order in which it got to know them, and how they change.
use Rattle.std.specs.Prelude.{ℕ, List, [], ◌∷◌, ◌++◌, Option, Some, None, nat_le, fold, is_some, if◌then◌else◌}
use Rattle.std.specs.Option.{option_map}
use Rattle.std.specs.Map.{lookup, set_value, remove_entry}
use Rattle.sc_base.specs.declared.names.Draw.{Draw}
use Rattle.sc_base.specs.Definitions.{Arc, end_of, same_draw}
use Rattle.sc_words.specs.declared.commands.links.Link.{Link}
use Rattle.sc_words.specs.declared.commands.links.Route.{Route}
use Rattle.sc_client_table.specs.declared.lookup.ways.Way.{Way}
use Rattle.sc_client_table.specs.lookup.Ways.{far, new_way, next_target, target_of}

-- a list of groups with what is known of each
abbrev pub KnownGroups : Type 0
KnownGroups = List (Draw × Way)

-- what is known of a group, if it is known
abbrev pub way_to : Draw → KnownGroups → Option Way
way_to group known = lookup (same_draw group) known

-- the group of two whose start is nearer before a position, and the second where both are as far
abbrev pub nearer : ℕ → Draw × Way → Draw × Way → Draw × Way
nearer p best entry = if nat_le (far p entry.1) (far p best.1) then entry else best

-- the nearer of the best group so far and another, or the other one where there is none so far
abbrev pub better : ℕ → Option (Draw × Way) → Draw × Way → Option (Draw × Way)
better p None entry = Some entry
better p (Some best) entry = Some (nearer p best entry)

-- the group whose start is nearest at or before a position, and of several at one distance the last in the list
abbrev pub chosen : ℕ → KnownGroups → Option Draw
chosen p known = option_map (λ entry. entry.0) (fold (better p) None known)

-- the node of a known group to be asked
abbrev pub target_in : Draw → KnownGroups → Option ℕ
target_in group known = option_map target_of (way_to group known)

-- the member of a known group after the node to be asked
abbrev pub next_in : Draw → KnownGroups → Option ℕ
next_in group known = option_map next_target (way_to group known)

-- the groups with a change of one that is known; a group that is not known changes nothing
abbrev pub changed : (Way → Way) → Draw → KnownGroups → Option Way → KnownGroups
changed change group known None = known
changed change group known (Some way) = set_value (same_draw group) known (change way)

-- the groups after a node has become the preferred one of a group
abbrev pub preferring : Draw → ℕ → KnownGroups → KnownGroups
preferring group node known = changed (λ way. record way { preferred = Some node }) group known (way_to group known)

-- the groups after the member after the node to be asked has become the preferred one
abbrev pub passed_on : Draw → KnownGroups → KnownGroups
passed_on group known = changed (λ way. record way { preferred = Some (next_target way) }) group known (way_to group known)

-- the groups after a known group's start has been set
abbrev pub starting : Draw → ℕ → KnownGroups → KnownGroups
starting group lo known = changed (λ way. record way { lo = lo }) group known (way_to group known)

-- the groups after a known group's start has been set, or a group that was not known has been added at the end
abbrev pub group_learnt : Draw → ℕ → List ℕ → KnownGroups → KnownGroups
group_learnt group lo members known =
    if is_some (way_to group known) then starting group lo known
    else known ++ (group, new_way lo members) ∷ []

-- the groups after a group's answer that a key is not its own: its start is set, and its successor starts at the end of its arc
abbrev pub learnt_from_not_mine : Draw → Arc → Link → KnownGroups → KnownGroups
learnt_from_not_mine group arc succ known = group_learnt succ.group (end_of arc) succ.members (starting group arc.lo known)

-- the groups after a group's answer that it was merged into another: it is removed, and the other one is learnt
abbrev pub learnt_from_gone : Draw → Route → KnownGroups → KnownGroups
learnt_from_gone group into known = group_learnt into.group into.lo into.members (remove_entry (same_draw group) known)
