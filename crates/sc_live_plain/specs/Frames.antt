-- The frame of a group: what stays the same while the group executes requests of clients alone.
use Rattle.std.specs.Prelude.{◌≡◌, ℕ, ◌+◌, ◌≤◌, true, List, None}
use Rattle.sc_base.specs.Definitions.{Among, IsRoster, is_member}
use Rattle.sc_node_table.specs.Values.{Ballot, Base, Core, Free}
use Rattle.sc_node_table.specs.NodeDefinitions.{is_node, first_ballot, slots_ahead}

-- a frame: the group's record, the node that leads it and the ballot in which it does, the members that decide each slot, and a slot `from`: the slots from `from + slots_ahead` on have the members of the record
pub record Frame : Type 0 where
  pub core : Core
  pub lead : ℕ
  pub ballot : Ballot
  pub at : ℕ → List ℕ
  pub from : ℕ

-- the frame of a group from its birth on: its first member leads in the first ballot, and each slot has the members of the record
abbrev pub frame_of : Base → Frame
frame_of base = record {
  core = base.core;
  lead = base.core.first;
  ballot = first_ballot base.core;
  at = λ slot. base.core.members;
  from = 0;
}

-- the frame of a group that is not locked and not gone, led by one of its members in a ballot of that node; one to nine nodes decide each slot
pub record IsFrame (frame : Frame) : Type 0 where
  pub free : frame.core.lock ≡ Free
  pub stands : frame.core.gone ≡ None
  pub leads : is_member frame.core.members frame.lead ≡ true
  pub own : frame.ballot.node ≡ frame.lead
  pub rosters : (slot : ℕ) → IsRoster (frame.at slot)
  pub nodes : (slot node : ℕ) → is_member (frame.at slot) node ≡ true → is_node node ≡ true
  pub later : (slot : ℕ) → frame.from + slots_ahead ≤ slot → frame.at slot ≡ frame.core.members

-- no two of these frames are of groups with the same name
abbrev pub AreNamedApart : List Frame → Type 0
AreNamedApart frames = (one other : Frame) → Among one frames → Among other frames → one.core.id ≡ other.core.id → one ≡ other
