-- What a policy wishes for a group, by its members and its pairs (Scatter, SOSP 2011, policies). Whether the order is accepted is not tested here.
use Rattle.std.specs.Prelude.{ℕ, ◌+◌, ◌/◌, ◌%◌, ◌^◌, ◌==◌, Bool, ◌&&◌, not, nat_lt, nat_le, List, ◌++◌, length, map, filter, slice_index, if◌then◌else◌, Option, Some, None}
use Rattle.std.specs.Option.{option_map}
use Rattle.sc_base.specs.Definitions.{Arc, same_draw, pos_of}
use Rattle.sc_base.specs.declared.names.Draw.{Draw}
use Rattle.sc_words.specs.declared.commands.cores.Core.{Core}
use Rattle.sc_words.specs.declared.commands.orders.Order.{Order}
use Rattle.sc_words.specs.declared.commands.orders.Order.TheVariants as An
use Rattle.sc_group_table.specs.declared.policy.bodies.Body0.{Body0}
use Rattle.sc_group_table.specs.declared.policy.bodies.Body0.TheVariants.{Split, Merge, Repart}

-- whether a group has more than seven members, which are too many
abbrev pub is_crowded : Core → Bool
is_crowded core = nat_lt 7 (length core.members)

-- whether a group has fewer than three members, which are too few
abbrev pub is_small : Core → Bool
is_small core = nat_lt (length core.members) 3

-- whether there are more than 128 pairs, which are too many
abbrev pub is_full : List (List ℕ × List ℕ) → Bool
is_full pairs = nat_lt 128 (length pairs)

-- whether another group is the group's successor
abbrev pub has_neighbour : Core → Bool
has_neighbour core = not (same_draw core.succ.group core.id)

-- the position in the middle of an arc
abbrev pub middle_of : Arc → ℕ
middle_of arc = (arc.lo + arc.len / 2) % 2 ^ 32

-- the positions of pairs, in the order of their keys
abbrev pub positions : List (List ℕ × List ℕ) → List ℕ
positions pairs = map (λ pair. pos_of pair.0) pairs

-- the positions of pairs, in their order from a position on round the ring
abbrev pub positions_from : ℕ → List (List ℕ × List ℕ) → List ℕ
positions_from lo pairs = filter (λ p. nat_le lo p) (positions pairs) ++ filter (λ p. nat_lt p lo) (positions pairs)

-- the position of the middle key, as one of the ring: of n keys from a position on, counted from 0, the one with number n/2
abbrev pub middle_key : ℕ → List (List ℕ × List ℕ) → ℕ
middle_key lo pairs = slice_index (positions_from lo pairs) (length pairs / 2) % 2 ^ 32

-- whether a group is to be split: it has too many members, and its arc can be cut in the middle
abbrev pub wants_split : Core → Bool
wants_split core = is_crowded core && nat_lt 1 core.arc.len

-- whether a boundary is to be moved: there are too many pairs, and the middle key is not at the group's start
abbrev pub wants_repart : Core → List (List ℕ × List ℕ) → Bool
wants_repart core pairs = is_full pairs && not (middle_key core.arc.lo pairs == core.arc.lo)

-- the wish for a group that has another as its successor and is not split: a merge, or else a moved boundary, if either is wished
abbrev pub wished_of_two : Core → List (List ℕ × List ℕ) → Option Body0
wished_of_two core pairs =
    if is_small core then Some Merge
    else if wants_repart core pairs then Some (Repart (middle_key core.arc.lo pairs))
    else None

-- the wish for a group with these pairs, if there is one: the first that holds of a split, a merge and a moved boundary
abbrev pub wished : Core → List (List ℕ × List ℕ) → Option Body0
wished core pairs =
    if wants_split core then Some (Split (middle_of core.arc))
    else if has_neighbour core then wished_of_two core pairs
    else None

-- whether the result of the order with this number is reported to the desk: a policy's orders have the number 0, and theirs is not
abbrev pub is_reported : ℕ → Bool
is_reported number = nat_lt 0 number

-- the order to the group with this name that carries out a wish
abbrev pub order_of : Draw → Body0 → Order
order_of group (Split at) = An.Split group at
order_of group Merge = An.Merge group
order_of group (Repart at) = An.Repart group at

-- the order that a policy makes for a group with these pairs, if it makes one
abbrev pub wished_order : Core → List (List ℕ × List ℕ) → Option Order
wished_order core pairs = option_map (order_of core.id) (wished core pairs)
