-- What a leader has in flight and ready: one command at a slot, and any command but a call or a filler alone.
use Rattle.std.specs.Prelude.{◌≡◌, ℕ, ◌≤◌, Bool, true, List, [], ◌∷◌, Some, None, is_some, ◌⊎◌}
use Rattle.sc_base.specs.Definitions.{Drawer, IsRoster, is_member}
use Rattle.sc_node_table.specs.Values.{Ballot, Command, OrderLine, MailBody, Promise, Accepted, Flight}
use Rattle.sc_words.specs.paxos.PaxosDefinitions.{flight_at}
use Rattle.sc_node_table.specs.declared.ReplicaInput.TheVariants as Given
use Rattle.sc_node_table.specs.NodeDefinitions.{is_act, ReplicaState, name_of, next, taken_at, mailed, stepped, at_slot}
use Rattle.sc_live_steps.specs.following.MailUnderWay.{Course, Progress, Sets}
use Rattle.sc_live_steps.specs.following.CountedEntries.{IsLed}
use Rattle.sc_live_steps.specs.following.LeaderTables.{IsLeadOf, IsAside, DecidesNext, ActsAlone}

-- No two of these flights are at the same slot.
abbrev pub AreApart : List (Flight Command) → Type 0
AreApart [] = Unit {0}
AreApart (flight ∷ flights) = (flight_at flight.slot flights ≡ None) × AreApart flights

-- The replica may offer in its ballot: the ballot is the group's first, or at least one promise of it was counted.
abbrev pub HasBallot : ReplicaState → Type 0
HasBallot r = (r.leader.is_first ≡ true) ⊎ ((who : ℕ) × (is_member r.leader.promisers who ≡ true))

-- What a replica has in flight and ready is in order: one command at a slot, and a command other than a call or a filler is alone.
-- No counted promise had reports, and whatever is in flight or ready was offered in a ballot in which the replica may offer.
pub record IsOrderly (r : ReplicaState) : Type 0 where
  pub apart : AreApart r.leader.flights
  pub single : (slot : ℕ) → next r ≤ slot → is_some (at_slot r.ready slot) ≡ true → flight_at slot r.leader.flights ≡ None
  pub alone : (slot other : ℕ) (command : Command) → next r ≤ slot → taken_at r slot ≡ Some command → is_act command ≡ true → next r ≤ other → is_some (taken_at r other) ≡ true → other ≡ slot
  pub plain : r.leader.reports ≡ []
  pub asked : (slot : ℕ) → next r ≤ slot → is_some (taken_at r slot) ≡ true → HasBallot r

-- A leading replica that is in order satisfies `ActsAlone`, and each of its rows after which it leads on keeps `IsOrderly`.
pub record OrderIsKept : Type 0 where
  pub alone : (at : Sets) (course : Course) (r : ReplicaState) → IsLed at course r → IsOrderly r → ActsAlone course r
  pub votes : (at : Sets) (now : Progress) (from : ℕ) (ballot : Ballot) (slot : ℕ) (r : ReplicaState) → ((s : ℕ) → IsRoster (at s)) → IsLeadOf at now r → DecidesNext at from ballot slot r → IsOrderly r
      → (mailed from (Accepted (name_of r) ballot slot) (r, [])).0.0.running ≡ true → IsOrderly (mailed from (Accepted (name_of r) ballot slot) (r, [])).0.0
  pub promises : (at : Sets) (now : Progress) (from : ℕ) (ballot : Ballot) (r : ReplicaState) → IsLeadOf at now r → IsOrderly r → IsOrderly (mailed from (Promise (name_of r) ballot []) (r, [])).0.0
  pub asides : (at : Sets) (now : Progress) (from : ℕ) (body : MailBody) (r : ReplicaState) → IsLeadOf at now r → IsAside r body → IsOrderly r → IsOrderly (mailed from body (r, [])).0.0
  pub orders : (at : Sets) (now : Progress) (on : Bool) (drawer : Drawer) (line : OrderLine) (r : ReplicaState) → IsLeadOf at now r → IsOrderly r → IsOrderly (stepped on drawer (Given.Told line) (r, [])).0.0
