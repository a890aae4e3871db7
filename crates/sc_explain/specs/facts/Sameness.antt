-- Whether what is said of two groups is the same, and whether two rings are the same.
use Rattle.std.specs.Prelude.{Bool, true, false, ◌==◌, ◌&&◌, List, [], ◌∷◌, Option, Some, None}
use Rattle.sc_base.specs.Arc.{Arc}
use Rattle.sc_base.specs.Same.{same_draw}
use Rattle.sc_base.specs.declared.names.Draw.{Draw}
use Rattle.sc_meaning.specs.declared.entries.Cut.{Cut}
use Rattle.sc_texts.specs.lines.Words.{same}
use Rattle.sc_explain.specs.declared.facts.facts.GroupRecord.{GroupRecord}
use Rattle.sc_explain.specs.declared.facts.facts.Hold.{Hold}
use Rattle.sc_explain.specs.declared.facts.facts.Hold.TheVariants.{Free, Coordinating, Promised, Watching}
use Rattle.sc_explain.specs.declared.facts.facts.RingGroup.{RingGroup}

-- whether two arcs are equal
abbrev pub same_arc : Arc → Arc → Bool
same_arc a b = (a.lo == b.lo) && (a.len == b.len)

-- whether two names are equal, or both are absent
abbrev pub same_if_any : Option Draw → Option Draw → Bool
same_if_any None None = true
same_if_any (Some a) (Some b) = same_draw a b
same_if_any None (Some b) = false
same_if_any (Some a) None = false

-- whether two locks bind in the same way, by the same transaction
abbrev pub same_hold : Hold → Hold → Bool
same_hold Free Free = true
same_hold (Coordinating a) (Coordinating b) = same_draw a b
same_hold (Promised a) (Promised b) = same_draw a b
same_hold (Watching a) (Watching b) = same_draw a b
same_hold _ _ = false

-- whether two records of a group by its own log are the same
abbrev pub same_record : GroupRecord → GroupRecord → Bool
same_record a b =
    same_draw a.name b.name && (same_arc a.arc b.arc && (same_if_any a.gone b.gone && (same_hold a.lock b.lock && (same a.members b.members && (same_draw a.pred b.pred && same_draw a.succ b.succ)))))

-- whether what is said of two groups of the ring is the same
abbrev pub same_ring_group : RingGroup → RingGroup → Bool
same_ring_group a b =
    same_draw a.name b.name && (same_arc a.arc b.arc && ((a.pairs == b.pairs) && (same_draw a.pred b.pred && same_draw a.succ b.succ)))

-- whether two cuts are equal
abbrev pub same_cut : Cut → Cut → Bool
same_cut a b = same_draw a.group b.group && same_arc a.arc b.arc

-- whether two rings have the same cuts in the same order
abbrev pub same_ring : List Cut → List Cut → Bool
same_ring [] [] = true
same_ring (a ∷ one) (b ∷ other) = same_cut a b && same_ring one other
same_ring [] (b ∷ other) = false
same_ring (a ∷ one) [] = false
