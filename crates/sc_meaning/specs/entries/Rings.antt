-- The decided ring: one list of ranges. The entries of coordinators change it, each in one step; the participants' own logs follow later.
use Rattle.std.specs.Prelude.{◌≡◌, ◌≢◌, ℕ, ◌^◌, ◌<◌, Bool, IsTrue, not, List, [], ◌∷◌, map, find, AllPairs, if◌then◌else◌, Option, Some, None}
use Rattle.std.specs.List.{filter, flat_map}
use Rattle.std.specs.Option.{option_map}
use Rattle.sc_base.specs.Definitions.{Among, Arc, IsArc, holds, before, from, joined, same_draw}
use Rattle.sc_base.specs.declared.names.Draw.{Draw}
use Rattle.sc_words.specs.declared.commands.commands.Command.{Command}
use Rattle.sc_words.specs.declared.commands.commands.Command.TheVariants.{Noop, Call, Join, Leave, Split, Begin, Prepared, RecordVote, GiveUp, Finish, Watched, RecordWatch}
use Rattle.sc_words.specs.declared.commands.cores.Base.{Base}
use Rattle.sc_words.specs.declared.commands.cores.Core.{Core}
use Rattle.sc_words.specs.declared.commands.effects.Effect.{Effect}
use Rattle.sc_words.specs.declared.commands.votes.Outcome.{Outcome}
use Rattle.sc_words.specs.declared.commands.votes.Outcome.TheVariants.{Abort, Merged, Moved, Migrated, Divided}
use Rattle.sc_words.specs.commands.CommandDefinitions.{decided_in}
use Rattle.sc_meaning.specs.declared.entries.Cut.{Cut}
use Rattle.sc_meaning.specs.declared.entries.Division.{Division}
use Rattle.sc_meaning.specs.entries.Births.{division_of}

-- each range has an arc with its first position on the ring and a length from 1 to the whole ring
abbrev pub HaveArcs : List Cut → Type 0
HaveArcs ring = (cut : Cut) → Among cut ring → IsArc cut.arc × (cut.arc.lo < 2 ^ 32)

-- the ring covers: each position lies in the arc of exactly one range, and no group has two ranges
pub record Covers (ring : List Cut) : Type 0 where
  pub arcs : HaveArcs ring
  -- each position lies in a range
  pub some : (p : ℕ) → p < 2 ^ 32 → (cut : Cut) × Among cut ring × IsTrue (holds cut.arc p)
  -- no position lies in two ranges
  pub only : (p : ℕ) → p < 2 ^ 32 → (cut other : Cut) → Among cut ring → Among other ring → IsTrue (holds cut.arc p) → IsTrue (holds other.arc p) → cut ≡ other
  -- no group has two ranges
  pub apart : AllPairs (λ cut other. cut.group ≢ other.group) ring

-- whether a range is a group's
abbrev pub is_cut_of : Draw → Cut → Bool
is_cut_of group cut = same_draw cut.group group

-- the arc of a group in the ring, if it has a range
abbrev pub arc_in : Draw → List Cut → Option Arc
arc_in group ring = option_map (λ cut. cut.arc) (find (is_cut_of group) ring)

-- the range of a group at its birth
abbrev pub first_cut : Base → Cut
first_cut base = record { arc = base.core.arc; group = base.core.id }

-- the ring, with this arc for a group's range
abbrev pub recut : Draw → Arc → List Cut → List Cut
recut group arc = map (λ cut. if is_cut_of group cut then record cut { arc = arc } else cut)

-- ---- a split

-- what a division of a group makes of a range: the group's own range keeps the part before the boundary, and the child gets the rest; any other range stays
abbrev pub parts_of : Draw → Division → Cut → List Cut
parts_of group division cut =
    if is_cut_of group cut
    then record cut { arc = before cut.arc division.at } ∷ record { arc = from cut.arc division.at; group = division.child } ∷ []
    else cut ∷ []

-- the ring after a division of a group, if there is one
abbrev pub ring_divided : Option Division → Draw → List Cut → List Cut
ring_divided None group ring = ring
ring_divided (Some division) group ring = flat_map (parts_of group division) ring

-- ---- a merge, and a boundary that moves

-- the coordinator's arc and the participant's arc joined to one, where the ring has both; the coordinator's alone where the participant has none
abbrev pub both_arcs : Option Arc → Option Arc → Option Arc
both_arcs (Some arc) (Some next) = Some (joined arc next)
both_arcs (Some arc) None = None
both_arcs None next = None

-- the ring after a merge: the participant's range is removed, and the coordinator has the joined arc
abbrev pub ring_merged : Option Arc → Draw → Draw → List Cut → List Cut
ring_merged None coordinator participant ring = ring
ring_merged (Some whole) coordinator participant ring = recut coordinator whole (filter (λ cut. not (is_cut_of participant cut)) ring)

-- the ring after a boundary moved: the coordinator has the part of the joined arc before the boundary, and the participant the rest
abbrev pub ring_moved : ℕ → Option Arc → Draw → Draw → List Cut → List Cut
ring_moved at None coordinator participant ring = ring
ring_moved at (Some whole) coordinator participant ring = recut coordinator (before whole at) (recut participant (from whole at) ring)

-- the ring after what a coordinator decides with its participant. A split changes it by its division instead, and a member that is handed over changes no arc.
abbrev pub ring_decided : Option Outcome → Draw → Draw → List Cut → List Cut
ring_decided None coordinator participant ring = ring
ring_decided (Some Abort) coordinator participant ring = ring
ring_decided (Some (Merged into)) coordinator participant ring = ring_merged (both_arcs (arc_in coordinator ring) (arc_in participant ring)) coordinator participant ring
ring_decided (Some (Moved at gift)) coordinator participant ring = ring_moved at (both_arcs (arc_in coordinator ring) (arc_in participant ring)) coordinator participant ring
ring_decided (Some (Migrated node)) coordinator participant ring = ring
ring_decided (Some Divided) coordinator participant ring = ring

-- ---- each entry

-- the outcome by which an entry changes the ring, if it does: that of a participant's or a watcher's vote that decides. GiveUp only aborts, and Finish repeats what another group decided.
abbrev pub decided_by : Command → Effect → Option Outcome
decided_by (RecordVote tx vote by) effect = decided_in effect
decided_by (RecordWatch tx vote by) effect = decided_in effect
decided_by Noop effect = None
decided_by (Call client seq op) effect = None
decided_by (Join node order) effect = None
decided_by (Leave node order) effect = None
decided_by (Split at child order) effect = None
decided_by (Begin tx body order) effect = None
decided_by (Prepared tx offer) effect = None
decided_by (GiveUp tx) effect = None
decided_by (Finish tx outcome) effect = None
decided_by (Watched tx watch) effect = None

-- the ring after an entry of a group's log, by the group's record before it and the entry's effect. The participant is the group's successor, which stays the same while the group is locked.
abbrev pub ring_after : Core → Command → Effect → List Cut → List Cut
ring_after core command effect ring =
    ring_divided (division_of core command effect) core.id (ring_decided (decided_by command effect) core.id core.succ.group ring)
