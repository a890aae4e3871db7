-- Why a node is not added to a set, or not removed from it.
use Rattle.std.specs.Prelude.{ℕ, ◌==◌, not, List, length, Option, Some, None, if◌then◌else◌}
use Rattle.sc_base.specs.Roster.{is_member}
use Rattle.sc_base.specs.declared.sets.MemberError.{MemberError}
use Rattle.sc_base.specs.declared.sets.MemberError.TheVariants.{Present, Full, Absent, Last}

-- why a node is not added, if so: it is a member already, or there are nine members
abbrev pub add_error : List ℕ → ℕ → Option MemberError
add_error members node =
    if is_member members node then Some Present
    else if length members == 9 then Some Full
    else None

-- why a node is not removed, if so: it is no member, or it is the only one
abbrev pub remove_error : List ℕ → ℕ → Option MemberError
remove_error members node =
    if not (is_member members node) then Some Absent
    else if length members == 1 then Some Last
    else None
