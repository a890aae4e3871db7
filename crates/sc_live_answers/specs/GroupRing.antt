-- The groups that stand, each with its range of the decided ring, stand round the ring from any one of them on.
use Rattle.std.specs.Prelude.{◌≡◌, ◌∷◌, List}
use Rattle.sc_base.specs.Definitions.{Among}
use Rattle.sc_meaning.specs.entries.EntryDefinitions.{IsPlaced, Covers, StoreWorld}
use Rattle.sc_meaning.specs.declared.entries.Cut.{Cut}
use Rattle.sc_live_plain.specs.PlainDefinitions.{IsRingOf, Setting, Frame, AreNamedApart}

-- the frame is that of a range of the ring: it names the range's group, and has the record that the map has of that group
pub record IsOfCut (world : StoreWorld) (frame : Frame) (cut : Cut) : Type 0 where
  pub among : Among cut world.ring
  pub named : cut.group ≡ frame.core.id
  pub placed : (fact : IsPlaced world cut) → fact.group.core ≡ frame.core

-- the frames are those of the ranges of the ring, each once
pub record AreOfCuts (world : StoreWorld) (frames : List Frame) : Type 0 where
  pub apart : AreNamedApart frames
  pub cut : (frame : Frame) → Among frame frames → (cut : Cut) × IsOfCut world frame cut
  pub frame : (cut : Cut) → Among cut world.ring → (frame : Frame) × Among frame frames × IsOfCut world frame cut

-- where the ring covers, and the group of each range names that of the next, the groups that stand are the whole ring, from each of them on
abbrev pub StandingGroupsAreRound : Type 0
StandingGroupsAreRound =
    (world : StoreWorld) (set : Setting) → Covers world.ring → ((cut : Cut) → Among cut world.ring → IsPlaced world cut) → AreOfCuts world set.frames
    → (frame : Frame) → Among frame set.frames → (rest : List Frame) × IsRingOf set (frame ∷ rest)
