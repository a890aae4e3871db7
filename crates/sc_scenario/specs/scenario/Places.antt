-- Where a line of a kind may stand.
use Rattle.std.specs.Prelude.{ℕ, ◌==◌, ◌&&◌, ◌||◌, not, nat_le, nat_lt, Bool, false, length, if◌then◌else◌}
use Rattle.sc_texts.specs.lines.Definitions.{phase_of, is_inner}
use Rattle.sc_scenario.specs.declared.scenario.drafts.Draft.{Draft}
use Rattle.sc_scenario.specs.declared.scenario.drafts.Reading.{Reading}
use Rattle.sc_scenario.specs.declared.scenario.drafts.Reading.TheVariants.{Fresh, Outside, Within}
use Rattle.sc_texts.specs.declared.lines.kinds.Kind.{Kind}

-- ---- where a line may stand

-- the phase of the last line that was read
abbrev pub phase_so_far : Draft → ℕ
phase_so_far draft =
    if not (length draft.lines == 0) then 5
    else if not (length draft.clients == 0) then 4
    else if draft.policy then 3
    else if not (length draft.groups == 0) then 2
    else if not (draft.nodes == 0) then 1
    else 0

-- whether a line of a phase may follow one of phase `last`: phases do not go back, the lines of nodes and policy occur once, groups need nodes before them, and later phases need a group
abbrev pub may_follow : ℕ → ℕ → Bool
may_follow last phase =
    nat_le last phase && not (phase == 0) && not ((last == 1) && (phase == 1)) && not ((last == 3) && (phase == 3))
    && (nat_lt phase 2 || nat_le 1 last) && (nat_lt phase 3 || nat_le 2 last)

-- whether a line of a kind may stand here: requests and `end` stand inside a section, and all others outside
abbrev pub is_in_place : Reading → Kind → Bool
is_in_place Fresh kind = false
is_in_place (Outside draft) kind = not (is_inner kind) && may_follow (phase_so_far draft) (phase_of kind)
is_in_place (Within draft asks) kind = is_inner kind
