-- What a leader's table does by all entries that it executes at once, and by what it then offers, in terms of marks.
use Rattle.std.specs.Prelude.{◌≡◌, ℕ, suc, ◌+◌, ◌<◌, ◌≤◌, true, false, List, [], ◌∷◌, ◌++◌, Some, None, is_some, ◌⊎◌}
use Rattle.sc_base.specs.Definitions.{Among, Each, is_member}
use Rattle.sc_node_table.specs.Values.{Command, Route, Flight}
use Rattle.sc_node_table.specs.NodeDefinitions.{executed_one, executed, next_ready, ReplicaState, Place, name_of, next, members, at_slot}
use Rattle.sc_words.specs.paxos.PaxosDefinitions.{flight_at}
use Rattle.sc_law_walks.specs.WalkDefinitions.{IfThere}
use Rattle.sc_live_steps.specs.following.MailUnderWay.{Mark, Asks, Course, Sets, members_at}
use Rattle.sc_live_steps.specs.following.CountedEntries.{IsLed, IsNext}
use Rattle.sc_live_steps.specs.following.PaxosTables.{marks_for}
use Rattle.sc_live_steps.specs.following.Offers.{IsBegun, to_bound}
use Rattle.sc_live_steps.specs.following.LeaderRows.{IsOffer, taught_from}

-- The entries that are ready from the replica's next slot on, at most as many as this list is long, are each one that `IsNext` allows.
abbrev pub AreNext : Sets → List (ℕ × Command) → Place → Type 0
AreNext at [] place = Unit {0}
AreNext at (e ∷ es) place = IfThere (λ command. IsNext at command place.0 × AreNext at es (executed_one true command place)) (Unit {0}) (next_ready place.0)

-- From `slot` on, each flight stays in flight, and each new one begins without votes at a slot from `from` up to, but not including, `to`.
pub record FliesOn (from to slot : ℕ) (flights after : List (Flight Command)) : Type 0 where
  pub kept : (at : ℕ) (flight : Flight Command) → slot ≤ at → flight_at at flights ≡ Some flight → flight_at at after ≡ Some flight
  pub grown : (at : ℕ) (flight : Flight Command) → slot ≤ at → flight_at at after ≡ Some flight → (flight_at at flights ≡ Some flight) ⊎ IsBegun from to flight

-- The replica leads on, with the course's bound moved to `bound`; it has counted the same promises, and keeps what is in flight from its next slot on.
pub record IsStill (at : Sets) (course : Course) (bound : ℕ) (r after : ReplicaState) : Type 0 where
  pub led : IsLed at (to_bound bound course) after
  pub promisers : after.leader.promisers ≡ r.leader.promisers
  pub flies : FliesOn course.bound bound (next after) r.leader.flights after.leader.flights

-- The replica leads no longer: its group is gone, or it is no member any more.
pub record IsStopped (after : ReplicaState) : Type 0 where
  pub running : after.running ≡ false
  pub over : ((into : Route) × (after.group.core.gone ≡ Some into)) ⊎ ((after.group.core.gone ≡ None) × (is_member (members after) after.me ≡ false))

-- A leader executes a number of entries that were ready, and is a member after each but the last.
-- It sends what `taught_from` says of them; if it leads on, it then offers at the slots from the bound up to a new bound.
pub record LeadsBy (at : Sets) (course : Course) (place after : Place) : Type 0 where
  pub executed : ℕ
  pub within : next place.0 + executed ≤ course.bound
  pub reaches : next after.0 ≡ next place.0 + executed
  pub me : after.0.me ≡ place.0.me
  pub named : name_of after.0 ≡ name_of place.0
  pub promise : after.0.acceptor.promised ≡ place.0.acceptor.promised
  pub was : members_at at (next after.0) ≡ members after.0
  pub stayed : (slot : ℕ) → next place.0 ≤ slot → suc slot < next after.0 → is_member (members_at at (slot + 1)) place.0.me ≡ true
  pub drawn : (slot : ℕ) → next place.0 ≤ slot → slot < next after.0 → is_some (at_slot place.0.ready slot) ≡ true
  pub ready : after.0.running ≡ true → (slot : ℕ) → next after.0 ≤ slot → at_slot after.0.ready slot ≡ at_slot place.0.ready slot
  pub bound : ℕ
  pub up : course.bound ≤ bound
  pub offers : ℕ → List Mark
  pub sends : (who : ℕ) → marks_for (name_of place.0) who after.1 ≡ marks_for (name_of place.0) who place.1 ++ (taught_from at course (next place.0) executed who ++ offers who)
  pub asks : (who : ℕ) → Each (IsOffer at (to_bound bound course) course.bound who) (offers who)
  pub asked : (slot node : ℕ) → course.bound ≤ slot → slot < bound → is_member (at slot) node ≡ true → Among (Asks course.ballot slot) (offers node)
  pub state : IsStill at course bound place.0 after.0 ⊎ (IsStopped after.0 × (1 ≤ executed) × (bound ≡ course.bound))

-- A leader's table does what `LeadsBy` says, by a command that is ready at its next slot and all that follow it.
abbrev pub ExecutionsLead : Type 0
ExecutionsLead =
    (at : Sets) (course : Course) (command : Command) (place : Place) → IsLed at course place.0 → at_slot place.0.ready (next place.0) ≡ Some command → IsNext at command place.0
    → AreNext at (executed_one true command place).0.ready (executed_one true command place) → LeadsBy at course place (executed true command place).0
