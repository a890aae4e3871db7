-- What groups and their entries make allowed at other groups: who takes part in a transaction, or coordinates it, acts by what the stories record.
use Rattle.std.specs.Prelude.{◌≡◌, ℕ, Option, Some}
use Rattle.sc_base.specs.declared.names.Draw.{Draw}
use Rattle.sc_words.specs.declared.commands.bodies.Body.{Body}
use Rattle.sc_words.specs.declared.commands.bodies.Offer.{Offer}
use Rattle.sc_words.specs.declared.commands.bodies.Watch.{Watch}
use Rattle.sc_words.specs.declared.commands.commands.Command.{Command}
use Rattle.sc_words.specs.declared.commands.commands.Command.TheVariants.{Prepared, RecordVote, GiveUp, Finish, Watched, RecordWatch}
use Rattle.sc_words.specs.declared.commands.cores.Lock.TheVariants.{Coordinating, Promised}
use Rattle.sc_words.specs.declared.commands.effects.Effect.TheVariants.{Decided, Voted}
use Rattle.sc_words.specs.declared.commands.votes.Heard.{Heard}
use Rattle.sc_words.specs.declared.commands.votes.Outcome.{Outcome}
use Rattle.sc_words.specs.declared.commands.votes.Past.{Past}
use Rattle.sc_words.specs.declared.commands.votes.Past.TheVariants as Cast
use Rattle.sc_words.specs.declared.commands.votes.Vote.{Vote}
use Rattle.sc_words.specs.declared.commands.votes.Vote.TheVariants as Ballot
use Rattle.sc_group_table.specs.machine.MachineDefinitions.{Group, applied, frozen_of}
use Rattle.sc_law_entries.specs.ring.RingDefinitions.{Sources, IsAllowed, Groups, Facts, Stories, unsigned, unsigned_watch, offer_for, watch_for, stories_after}

-- a group as it stands makes a command allowed at a group, whatever the stories are that agree with it
abbrev pub AllowsAsItStands : Sources → Draw → Group → Draw → Command → Type 0
AllowsAsItStands sources by group name command = (groups : Groups) (stories : Stories) → Facts sources.owner groups stories → groups by ≡ Some group → IsAllowed sources stories name command

-- an entry of a group makes a command allowed at a group, whatever the stories before it are that agree with the group
abbrev pub MakesAllowed : Sources → Draw → Group → Command → Draw → Command → Type 0
MakesAllowed sources by group entry name command = (groups : Groups) (stories : Stories) → Facts sources.owner groups stories → groups by ≡ Some group → IsAllowed sources stories by entry
    → IsAllowed sources (stories_after group entry (applied group entry).1 stories) name command

-- an entry that decides a transaction makes its Finish allowed at every group
abbrev pub EndsBy : Sources → Draw → Group → Draw → Command → Type 0
EndsBy sources by group tx entry = (outcome : Outcome) → (applied group entry).1 ≡ Decided outcome → (name : Draw) → MakesAllowed sources by group entry name (Finish tx outcome)

-- what follows from a group's lock, and from its entries that vote or decide
pub record GroupAllows (sources : Sources) (by : Draw) (group : Group) : Type 0 where
  -- a coordinator's lock allows its offer at the group to which it offers
  pub offers : (tx : Draw) (body : Body) (order : ℕ) (heard : Option Heard) → group.core.lock ≡ Coordinating tx body order heard
      → (offer : Offer) → offer_for group.core body ≡ Some (unsigned offer) → AllowsAsItStands sources by group offer.part (Prepared tx offer)
  -- a coordinator's lock allows its question at the group that it asks to watch
  pub asks : (tx : Draw) (body : Body) (order : ℕ) (heard : Option Heard) → group.core.lock ≡ Coordinating tx body order heard
      → (watch : Watch) → watch_for group.core body heard ≡ Some (unsigned_watch watch) → AllowsAsItStands sources by group watch.part (Watched tx watch)
  -- a promise allows any group to record the Yes, with what the group has
  pub promises : (tx : Draw) (offer : Offer) → group.core.lock ≡ Promised tx offer → (name : Draw) (node : ℕ) → AllowsAsItStands sources by group name (RecordVote tx (Ballot.Yes (frozen_of group)) node)
  -- a watcher's Yes allows any group to record it
  pub watches : (tx : Draw) (watch : Watch) → (applied group (Watched tx watch)).1 ≡ Voted Cast.Yes → (name : Draw) (node : ℕ) → MakesAllowed sources by group (Watched tx watch) name (RecordWatch tx Cast.Yes node)
  -- what a vote, a watcher's vote or giving up decides allows the Finish
  pub votes : (tx : Draw) (vote : Vote) (node : ℕ) → EndsBy sources by group tx (RecordVote tx vote node)
  pub watch_votes : (tx : Draw) (vote : Past) (node : ℕ) → EndsBy sources by group tx (RecordWatch tx vote node)
  pub gives_up : (tx : Draw) → EndsBy sources by group tx (GiveUp tx)
