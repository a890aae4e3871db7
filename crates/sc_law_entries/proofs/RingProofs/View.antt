-- The effective arcs and links of all groups, as one view, and what reshaping does to it.
use Rattle.std.specs.Prelude.{◌≡◌, ℕ, ◌^◌, ◌<◌, ◌≤◌, Option, Some, None}
use Rattle.sc_base.specs.Definitions.{Arc, offset, end_of, before, from, joined}
use Rattle.sc_base.specs.declared.names.Draw.{Draw}
use Rattle.sc_law_entries.specs.ring.RingDefinitions.{put}

-- an arc whose start is a position
pub record IsOnRing (arc : Arc) : Type 0 where
  pub lo_fits : arc.lo < 2 ^ 32
  pub some : 0 < arc.len
  pub len_fits : arc.len ≤ 2 ^ 32

-- the arc holds the position
abbrev pub Holds : Arc → ℕ → Type 0
Holds arc p = offset arc p < arc.len

-- there is an arc, and it holds the position
abbrev pub HeldBy : Option Arc → ℕ → Type 0
HeldBy None p = ⊥
HeldBy (Some arc) p = Holds arc p

-- the arc of each group that has a cut
abbrev pub Ring : Type 0
Ring = Draw → Option Arc

-- each position lies in the arc of exactly one group
pub record CoversBy (ring : Ring) : Type 0 where
  pub arcs : (g : Draw) (arc : Arc) → ring g ≡ Some arc → IsOnRing arc
  pub owner : (p : ℕ) → p < 2 ^ 32 → (g : Draw) × HeldBy (ring g) p
  pub only : (p : ℕ) (g h : Draw) → p < 2 ^ 32 → HeldBy (ring g) p → HeldBy (ring h) p → g ≡ h

-- the effective arcs and links; a link of a group without an arc says nothing
pub record View : Type 0 where
  pub arc : Ring
  pub next : Draw → Draw
  pub prev : Draw → Draw

-- each group names the one whose arc begins where its own ends, and the one before
pub record IsLinked (v : View) : Type 0 where
  pub meets : (g : Draw) (a : Arc) → v.arc g ≡ Some a → (b : Arc) × (v.arc (v.next g) ≡ Some b) × (b.lo ≡ end_of a)
  pub back : (g : Draw) (a : Arc) → v.arc g ≡ Some a → v.prev (v.next g) ≡ g
  pub behind : (g : Draw) (a : Arc) → v.arc g ≡ Some a → (b : Arc) × (v.arc (v.prev g) ≡ Some b)
  pub forth : (g : Draw) (a : Arc) → v.arc g ≡ Some a → v.next (v.prev g) ≡ g

-- a split: the part from the place on goes to the child, and the old successor has it before itself
abbrev pub split_view : View → Draw → Arc → ℕ → Draw → View
split_view v g arc place child = record {
  arc = put (put v.arc g (Some (before arc place))) child (Some (from arc place));
  next = put (put v.next g child) child (v.next g);
  prev = put (put v.prev child g) (v.next g) child;
}

-- a merge: the successor's arc comes to the group, which stands before the successor's successor
abbrev pub merge_view : View → Draw → Arc → Draw → Arc → View
merge_view v g arc p its = record {
  arc = put (put v.arc g (Some (joined arc its))) p None;
  next = put v.next g (v.next p);
  prev = put v.prev (v.next p) g;
}

-- a moved boundary
abbrev pub move_view : View → Draw → Arc → Draw → Arc → View
move_view v g a p b = record v { arc = put (put v.arc g (Some a)) p (Some b) }
