-- What comes of a vote that arrives after its transaction was decided, and of a participant that hears of an abort.
use Rattle.std.specs.Prelude.{◌≡◌, ℕ, true, List}
use Rattle.sc_base.specs.declared.names.Draw.{Draw}
use Rattle.sc_words.specs.declared.commands.commands.Command.{Command}
use Rattle.sc_words.specs.declared.commands.commands.Command.TheVariants.{Finish, GiveUp, RecordVote, RecordWatch}
use Rattle.sc_words.specs.declared.commands.cores.Base.{Base}
use Rattle.sc_words.specs.declared.commands.cores.Lock.TheVariants.{Free, Promised}
use Rattle.sc_words.specs.declared.commands.effects.Effect.TheVariants.{Decided, NoEffect}
use Rattle.sc_words.specs.declared.commands.votes.Outcome.TheVariants.{Abort}
use Rattle.sc_words.specs.declared.commands.bodies.Offer.{Offer}
use Rattle.sc_words.specs.declared.commands.votes.Past.{Past}
use Rattle.sc_words.specs.declared.commands.votes.Vote.{Vote}
use Rattle.sc_group_table.specs.machine.MachineDefinitions.{Group, applied, party_freed, state_after}
use Rattle.sc_group_table.specs.machine.Group.{group_of}
use Rattle.sc_law_entries.specs.ring.Invariant.{has_decided}

-- a vote of the participant or of the watcher changes nothing, and neither does a give-up
pub record ChangesNothingMore (group : Group) (tx : Draw) : Type 0 where
  pub vote : (vote : Vote) (by : ℕ) → applied group (RecordVote tx vote by) ≡ (group, NoEffect tx)
  pub watch : (vote : Past) (by : ℕ) → applied group (RecordWatch tx vote by) ≡ (group, NoEffect tx)
  pub give_up : applied group (GiveUp tx) ≡ (group, NoEffect tx)

-- once the log of a group has decided a transaction, committed or aborted, later votes in it and later give-ups change nothing
abbrev pub LateVotesChangeNothing : Type 0
LateVotesChangeNothing =
    (base : Base) (log : List Command) (tx : Draw) → base.core.lock ≡ Free → has_decided (state_after (group_of base) log).core tx ≡ true → ChangesNothingMore (state_after (group_of base) log) tx

-- a participant that has voted Yes, and hears that its transaction was aborted, is free again, with all else as it was but for the vote, which it remembers as ended
abbrev pub AbortsFreeParticipants : Type 0
AbortsFreeParticipants = (group : Group) (tx : Draw) (offer : Offer) → group.core.lock ≡ Promised tx offer → applied group (Finish tx Abort) ≡ (party_freed group tx, Decided Abort)
