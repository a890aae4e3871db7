-- When a ring covers, as tests of its ranges.
use Rattle.std.specs.Prelude.{Bool, true, ◌&&◌, not, List, [], ◌∷◌}
use Rattle.std.specs.List.{list_all, list_any}
use Rattle.sc_base.specs.Arc.{Arc, holds, end_of}
use Rattle.sc_base.specs.Same.{same_draw}
use Rattle.sc_meaning.specs.declared.entries.Cut.{Cut}

-- whether two arcs have no position in common: neither holds the first position of the other
abbrev pub is_beside : Arc → Arc → Bool
is_beside arc other = not (holds arc other.lo) && not (holds other arc.lo)

-- whether two ranges are of different groups and have no position in common
abbrev pub is_other : Cut → Cut → Bool
is_other cut other = not (same_draw cut.group other.group) && is_beside cut.arc other.arc

-- whether each two ranges are of different groups and have no position in common
abbrev pub are_others : List Cut → Bool
are_others [] = true
are_others (cut ∷ ring) = list_all (is_other cut) ring && are_others ring

-- whether some range holds the position after a range's last one
abbrev pub is_followed : List Cut → Cut → Bool
is_followed ring cut = list_any (λ other. holds other.arc (end_of cut.arc)) ring
