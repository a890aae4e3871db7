-- What a client knows of the groups that stand, between two orders.
use Rattle.std.specs.Prelude.{◌≡◌, ℕ, ◌+◌, ◌^◌, ◌<◌, ◌≤◌, false, List, [], ◌∷◌, ◌++◌, length, map, take, Some, None}
use Rattle.sc_base.specs.Definitions.{Among, Each, IsArc, end_of, holds}
use Rattle.sc_node_table.specs.Values.{Draw}
use Rattle.sc_client_table.specs.declared.lookup.ways.Way.{Way}
use Rattle.sc_client_table.specs.lookup.LookupDefinitions.{KnownGroups, way_to, chosen, preferring, learnt_from_not_mine}
use Rattle.sc_live_plain.specs.Frames.{Frame}

-- the group's successor is the other group, whose arc starts where this group's arc ends
pub record FollowedBy (frame other : Frame) : Type 0 where
  pub name : frame.core.succ.group ≡ other.core.id
  pub starts : other.core.arc.lo ≡ end_of frame.core.arc

-- all groups that stand, once round the ring: each is followed by the next, the last by the first, and no two have the same name
pub record AreRoundRing (frames : List Frame) : Type 0 where
  pub arcs : (frame : Frame) → Among frame frames → IsArc frame.core.arc × (frame.core.arc.lo < 2 ^ 32)
  pub next : (a b : List Frame) (frame other : Frame) → frames ≡ a ++ frame ∷ other ∷ b → FollowedBy frame other
  pub last : (a b : List Frame) (frame other : Frame) → frames ≡ a ++ frame ∷ [] → frames ≡ other ∷ b → FollowedBy frame other
  pub distinct : (a b : List Frame) (frame : Frame) → frames ≡ a ++ frame ∷ b → Each (λ (other : Frame). other.core.id ≡ frame.core.id → ⊥) a

-- the name of a group, and where its arc starts
abbrev pub start_of : Frame → Draw × ℕ
start_of frame = (frame.core.id, frame.core.arc.lo)

-- the name of a group as a client knows it, and where the client takes its arc to start
abbrev pub start_known : Draw × Way → Draw × ℕ
start_known entry = (entry.0, entry.1.lo)

-- the client knows the first `reached` groups of the list, in their order, each by where its arc starts; only a group that is known alone may have started elsewhere when the client heard of it
pub record KnowsFirst (frames : List Frame) (reached : ℕ) (known : KnownGroups) : Type 0 where
  pub some : 1 ≤ reached
  pub low : reached ≤ length frames
  pub names : map (λ (entry : Draw × Way). entry.0) known ≡ map (λ (frame : Frame). frame.core.id) (take reached frames)
  pub starts : 2 ≤ reached → map start_known known ≡ map start_of (take reached frames)

-- what a client that knows the first of the groups comes to know by an answer
pub record ClientsLearnInTurn : Type 0 where
  -- by NotMine of the group that it chose, the client learns the next group, which it did not know
  pub not_mine : (frames : List Frame) (reached p : ℕ) (frame : Frame) (known : KnownGroups) → AreRoundRing frames → KnowsFirst frames reached known → Among frame frames
      → chosen p known ≡ Some frame.core.id → holds frame.core.arc p ≡ false
      → (way_to frame.core.succ.group known ≡ None) × KnowsFirst frames (reached + 1) (learnt_from_not_mine frame.core.id frame.core.arc frame.core.succ known)
  -- by NotLeader the client learns whom to ask, and knows the same groups
  pub not_leader : (frames : List Frame) (reached node : ℕ) (group : Draw) (known : KnownGroups) → KnowsFirst frames reached known → KnowsFirst frames reached (preferring group node known)
  -- by Gone with a group that stands, the client knows the first of the groups from that one on
  pub gone : (frames : List Frame) (frame : Frame) (way : Way) → KnowsFirst (frame ∷ frames) 1 ((frame.core.id, way) ∷ [])
