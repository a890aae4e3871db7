-- What is said of a group is the same as itself, and so is a ring.
use Rattle.std.proofs.Common.{◌≡◌, ℕ, true, eqb, List, [], ◌∷◌, Option, Some, None, refl}
use Rattle.std.proofs.lemmas.Bool.{and_from, eq-eqb}
use Rattle.sc_base.proofs.NameLemmas.{same_name}
use Rattle.sc_base.specs.Arc.{Arc}
use Rattle.sc_base.specs.Same.{same_draw}
use Rattle.sc_base.specs.declared.names.Draw.{Draw}
use Rattle.sc_texts.specs.lines.Words.{same}
use Rattle.sc_meaning.specs.declared.entries.Cut.{Cut}
use Rattle.sc_explain.specs.facts.Sameness.{same_arc, same_cut, same_hold, same_if_any, same_record, same_ring, same_ring_group}
use Rattle.sc_explain.specs.declared.facts.facts.GroupRecord.{GroupRecord}
use Rattle.sc_explain.specs.declared.facts.facts.Hold.{Hold}
use Rattle.sc_explain.specs.declared.facts.facts.Hold.TheVariants.{Free, Coordinating, Promised, Watching}
use Rattle.sc_explain.specs.declared.facts.facts.RingGroup.{RingGroup}

name_itself : (name : Draw) → same_draw name name ≡ true
name_itself name = same_name name name refl

arc_itself : (arc : Arc) → same_arc arc arc ≡ true
arc_itself arc = and_from (eqb arc.lo arc.lo) (eqb arc.len arc.len) (eq-eqb arc.lo arc.lo refl) (eq-eqb arc.len arc.len refl)

gone_itself : (gone : Option Draw) → same_if_any gone gone ≡ true
gone_itself None = refl
gone_itself (Some into) = name_itself into

hold_itself : (lock : Hold) → same_hold lock lock ≡ true
hold_itself Free = refl
hold_itself (Coordinating tx) = name_itself tx
hold_itself (Promised tx) = name_itself tx
hold_itself (Watching tx) = name_itself tx

nodes_itself : (nodes : List ℕ) → same nodes nodes ≡ true
nodes_itself [] = refl
nodes_itself (node ∷ nodes) = and_from (eqb node node) (same nodes nodes) (eq-eqb node node refl) (nodes_itself nodes)

-- what is said of a group by its own log
pub record_itself : (group : GroupRecord) → same_record group group ≡ true
record_itself group =
    and_from _ _ (name_itself group.name) (and_from _ _ (arc_itself group.arc) (and_from _ _ (gone_itself group.gone) (and_from _ _ (hold_itself group.lock)
    (and_from _ _ (nodes_itself group.members) (and_from _ _ (name_itself group.pred) (name_itself group.succ))))))

-- what is said of a group of the ring
pub ring_group_itself : (group : RingGroup) → same_ring_group group group ≡ true
ring_group_itself group =
    and_from _ _ (name_itself group.name) (and_from _ _ (arc_itself group.arc) (and_from _ _ (eq-eqb group.pairs group.pairs refl) (and_from _ _ (name_itself group.pred) (name_itself group.succ))))

-- a ring
pub ring_itself : (ring : List Cut) → same_ring ring ring ≡ true
ring_itself [] = refl
ring_itself (cut ∷ ring) = and_from (same_cut cut cut) (same_ring ring ring) (and_from _ _ (name_itself cut.group) (arc_itself cut.arc)) (ring_itself ring)
