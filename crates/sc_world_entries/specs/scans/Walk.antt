-- The walk of an arc from its start through the ranges of a ring: each part starts where the last one ended, lies in a range that holds its start, and ends with that range or with the arc.
use Rattle.std.specs.Prelude.{ℕ, zero, suc, ◌-◌, ◌==◌, min, Bool, List, [], ◌∷◌, find, if◌then◌else◌, Option, Some, None}
use Rattle.sc_base.specs.Arc.{Arc, holds, offset, end_of}
use Rattle.sc_meaning.specs.declared.entries.Cut.{Cut}
use Rattle.sc_world_entries.specs.declared.scans.walking.Part.{Part}

-- how many positions a range has from a position on that it holds
abbrev pub reach : Cut → ℕ → ℕ
reach cut p = cut.arc.len - offset cut.arc p

-- the part with which an arc begins, in the range that holds its start
abbrev pub first_part : Arc → Cut → Part
first_part arc cut = record { arc = record { lo = arc.lo; len = min arc.len (reach cut arc.lo) }; group = cut.group }

-- what is left of an arc behind the part with which it begins
abbrev pub left_behind : Arc → Part → Arc
left_behind arc part = record { lo = end_of part.arc; len = arc.len - part.arc.len }

-- whether a range holds the start of an arc
abbrev pub holds_start : Arc → Cut → Bool
holds_start arc cut = holds cut.arc arc.lo

-- the part in the range that holds the start, and then what the walk of the rest gives; nothing where no range holds the start
abbrev pub parts_from : Option Cut → Arc → (Arc → List Part) → List Part
parts_from None arc walk_on = []
parts_from (Some cut) arc walk_on = first_part arc cut ∷ walk_on (left_behind arc (first_part arc cut))

-- the parts of an arc, at most the given number of them
unfoldable pub walk : ℕ → List Cut → Arc → List Part
walk zero ring arc = []
walk (suc more) ring arc = if arc.len == 0 then [] else parts_from (find (holds_start arc) ring) arc (walk more ring)

-- the parts of an arc; each takes at least one position, so there are no more than the arc has positions
abbrev pub parts_in : List Cut → Arc → List Part
parts_in ring arc = walk arc.len ring arc
