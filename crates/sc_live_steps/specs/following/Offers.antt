-- What a leader's table offers at its open slots, in terms of marks.
use Rattle.std.specs.Prelude.{◌≡◌, ℕ, ◌+◌, ◌<◌, ◌≤◌, true, List, [], ◌∷◌, ◌++◌, length, None, is_some}
use Rattle.sc_base.specs.Definitions.{Among, Each, is_member}
use Rattle.sc_node_table.specs.Values.{Command, Flight}
use Rattle.sc_node_table.specs.NodeDefinitions.{pumped, ReplicaState, Place, name_of, next, taken_at}
use Rattle.sc_live_steps.specs.following.MailUnderWay.{Mark, Asks, Course, Sets}
use Rattle.sc_live_steps.specs.following.PaxosTables.{marks_for}
use Rattle.sc_live_steps.specs.following.LeaderRows.{IsOffer}

-- These lists are the members of the slots from this one on.
abbrev pub AreAt : Sets → ℕ → List (List ℕ) → Type 0
AreAt at slot [] = Unit {0}
AreAt at slot (set ∷ sets) = (at slot ≡ set) × AreAt at (slot + 1) sets

-- The replica agrees with its group's course about what was offered: something is in flight or ready at each slot from its next one up to the bound, and nothing from the bound on.
pub record MayOffer (at : Sets) (course : Course) (r : ReplicaState) : Type 0 where
  pub ballot : r.leader.ballot ≡ course.ballot
  pub sets : AreAt at (next r) r.sets
  pub low : next r ≤ course.bound
  pub high : course.bound ≤ next r + length r.sets
  pub taken : (slot : ℕ) → next r ≤ slot → slot < course.bound → is_some (taken_at r slot) ≡ true
  pub free : (slot : ℕ) → course.bound ≤ slot → taken_at r slot ≡ None

-- The flight has no votes, and is at a slot from `from` up to, but not including, `to`.
pub record IsBegun (from to : ℕ) (flight : Flight Command) : Type 0 where
  pub least : from ≤ flight.slot
  pub most : flight.slot < to
  pub none : flight.voters ≡ None

-- The course with another bound.
abbrev pub to_bound : ℕ → Course → Course
to_bound bound course = record course { bound = bound }

-- The replica offers at the slots from the course's bound up to a new one: more is in flight, the queues may change, and nothing else does.
-- All nodes that decide such a slot are asked to accept, and no others.
pub record OffersBy (at : Sets) (course : Course) (place after : Place) : Type 0 where
  pub bound : ℕ
  pub up : course.bound ≤ bound
  pub begun : List (Flight Command)
  pub acts : List Command
  pub backlog : List Command
  pub fact : after.0 ≡ record place.0 { leader = record place.0.leader { flights = place.0.leader.flights ++ begun }; acts = acts; backlog = backlog }
  pub fly : Each (IsBegun course.bound bound) begun
  pub goes_on : MayOffer at (to_bound bound course) after.0
  pub offers : ℕ → List Mark
  pub sends : (who : ℕ) → marks_for (name_of place.0) who after.1 ≡ marks_for (name_of place.0) who place.1 ++ offers who
  pub asks : (who : ℕ) → Each (IsOffer at (to_bound bound course) course.bound who) (offers who)
  pub asked : (slot node : ℕ) → course.bound ≤ slot → slot < bound → is_member (at slot) node ≡ true → Among (Asks course.ballot slot) (offers node)

-- A pump, which offers queued commands at open slots, does what `OffersBy` says.
abbrev pub PumpsOffer : Type 0
PumpsOffer = (at : Sets) (course : Course) (place : Place) → MayOffer at course place.0 → OffersBy at course place (pumped place)
