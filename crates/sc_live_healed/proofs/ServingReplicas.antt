-- What holds of a replica that runs, in the midst of a row: which slots are taken, and by what.
use Rattle.std.proofs.Common.{◌≡◌, ℕ, ◌+◌, ◌≤◌, true, false, List, [], replicate, ◌⊎◌, inl, inr, refl, ap}
use Rattle.sc_base.specs.Definitions.{Among, Each}
use Rattle.sc_node_table.specs.Values.{Ballot, Base, Command, Noop, Call, Mail, Accept, Flight, Report}
use Rattle.sc_words.proofs.PaxosProofs.PaxosLemmas.{Each-weaker}
use Rattle.sc_node_table.specs.NodeDefinitions.{is_act, ReplicaState, Place, next, slots_ahead, last_slot}
use Rattle.sc_live_plain.specs.PlainDefinitions.{AreTaken}
use Rattle.sc_live_plain.proofs.PlainLemmas.{mail_of}
use Rattle.sc_live_healed.specs.HealedDefinitions.{IsFixedCommand, IsFixedRequest, IsUndecided, HasVoted}

-- what stands in one list of mails stands in the other
abbrev pub Grows : List Mail → List Mail → Type 0
Grows before after = (mail : Mail) → Among mail before → Among mail after

-- each member's vote for what is in flight is counted, or the member is asked to accept it
abbrev pub IsAsked : Base → ℕ → Ballot → List Mail → Flight Command → Type 0
IsAsked base me ballot mails flight = (member : ℕ) → Among member base.core.members → HasVoted member flight ⊎ ((command : Command) × Among (mail_of me member (Accept base.core.id ballot flight.slot command)) mails)

pub asked_still : (base : Base) (me : ℕ) (ballot : Ballot) (mails more : List Mail) (flight : Flight Command) → Grows mails more → IsAsked base me ballot mails flight → IsAsked base me ballot more flight
asked_still base me ballot mails more flight grow asked member a = elim (asked member a) [ inl voted ↦ inl voted | inr one ↦ inr (one.0, grow _ one.1) ]

-- what is in flight: a request or a Noop that is not decided; the row found it so, or asks each member to accept it
pub record IsUnderWay (base : Base) (me : ℕ) (ballot : Ballot) (Held : Flight Command → Type 0) (mails : List Mail) (flight : Flight Command) : Type 0 where
  pub value : IsFixedCommand base flight.value
  pub undecided : IsUndecided base flight
  pub from : Held flight ⊎ IsAsked base me ballot mails flight

-- a replica of a group that is not reshaped, which runs with this ballot and has taken this number of slots
pub record IsServing (base : Base) (me : ℕ) (ballot : Ballot) (Held : Flight Command → Type 0) (taken : ℕ) (place : Place) : Type 0 where
  pub running : place.0.running ≡ true
  pub me_is : place.0.me ≡ me
  pub ballot_is : place.0.leader.ballot ≡ ballot
  pub core : place.0.group.core ≡ base.core
  pub sets : place.0.sets ≡ replicate slots_ahead base.core.members
  pub acts : place.0.acts ≡ []
  pub backlog : Each (IsFixedRequest base) place.0.backlog
  pub flights : Each (IsUnderWay base me ballot Held place.1) place.0.leader.flights
  pub ready : Each (λ (entry : ℕ × Command). IsFixedCommand base entry.1) place.0.ready
  pub reports : Each (λ (report : Report Command). IsFixedCommand base report.value) place.0.leader.reports
  pub slots : AreTaken place.0 taken
  pub room : (taken ≡ 0) ⊎ (next place.0 + taken ≤ last_slot + slots_ahead)

-- a request or a Noop is no other command
pub fixed_acts : (base : Base) (command : Command) → IsFixedCommand base command → is_act command ≡ false
fixed_acts base (Call client seq op) p = refl
fixed_acts base command (inr same) = ap is_act same
fixed_acts base Noop (inl p) = refl
fixed_acts base _ (inl p) = absurd p

module _ (base : Base) (me : ℕ) (ballot : Ballot) (Held : Flight Command → Type 0) where
  abbrev S : ℕ → Place → Type 0
  S taken place = IsServing base me ballot Held taken place

  -- more mails change nothing
  pub grown : (taken : ℕ) (r : ReplicaState) (mails more : List Mail) → Grows mails more → S taken (r, mails) → S taken (r, more)
  grown taken r mails more grow k = record {
    running = k.running;
    me_is = k.me_is;
    ballot_is = k.ballot_is;
    core = k.core;
    sets = k.sets;
    acts = k.acts;
    backlog = k.backlog;
    flights = Each-weaker (IsUnderWay base me ballot Held mails) (IsUnderWay base me ballot Held more)
        (λ flight u. record {
          value = u.value;
          undecided = u.undecided;
          from = elim (u.from) [ inl held ↦ inl held | inr asked ↦ inr (asked_still base me ballot mails more flight grow asked) ];
        }) r.leader.flights k.flights;
    ready = k.ready;
    reports = k.reports;
    slots = k.slots;
    room = k.room;
  }
