-- Which entries may be appended to the logs of groups, one after another: nested consensus without mail (Scatter, SOSP 2011, multi-group operations).
use Rattle.std.specs.Prelude.{◌≡◌, ℕ, ◌<◌, ◌^◌, List, [], ◌∷◌, fold, Option, Some, None}
use Rattle.sc_base.specs.declared.names.Draw.{Draw}
use Rattle.sc_base.specs.declared.ops.Op.{Op}
use Rattle.sc_words.specs.declared.commands.bodies.Body.{Body}
use Rattle.sc_words.specs.declared.commands.bodies.Body.TheVariants as At
use Rattle.sc_words.specs.declared.commands.commands.Command.{Command}
use Rattle.sc_words.specs.declared.commands.commands.Command.TheVariants.{Noop, Call, Join, Leave, Split, Begin, Prepared, RecordVote, GiveUp, Finish, Watched, RecordWatch}
use Rattle.sc_words.specs.declared.commands.cores.Base.{Base}
use Rattle.sc_words.specs.declared.commands.votes.Past.{Past}
use Rattle.sc_words.specs.declared.commands.votes.Past.TheVariants as Cast
use Rattle.sc_words.specs.declared.commands.votes.Vote.{Vote}
use Rattle.sc_words.specs.declared.commands.votes.Vote.TheVariants as Ballot
use Rattle.sc_group_table.specs.machine.MachineDefinitions.{Group, applied}
use Rattle.sc_meaning.specs.declared.entries.LogEntry.{LogEntry}
use Rattle.sc_meaning.specs.entries.EntryDefinitions.{StoreWorld, first_world, named_group, recorded}
use Rattle.sc_law_entries.specs.ring.Stories.{Story, Stories, no_stories, unsigned, unsigned_watch, stories_after}

-- two functions that are fixed beside the logs: whose a name is, and what a client asks
pub record Sources : Type 0 where
  -- the group that a name was drawn for; none where it is the name of a scenario's group
  pub owner : Draw → Option Draw
  -- what a client asks by each number
  pub request : ℕ → ℕ → Op

-- the body of a transaction with a participant, so no split; a boundary moves to a position of the ring
abbrev pub IsShared : Body → Type 0
IsShared At.Merge = Unit {0}
IsShared (At.Repart at) = at < 2 ^ 32
IsShared (At.Migrate node) = Unit {0}
IsShared (At.Split at child) = ⊥

-- a vote may be recorded: a Yes that the participant voted, or any No
abbrev pub IsVoteCast : Stories → Draw → Vote → Type 0
IsVoteCast stories tx (Ballot.Yes frozen) = (story : Story) × (stories tx ≡ Some story) × (story.vote ≡ Some (Ballot.Yes frozen))
IsVoteCast stories tx (Ballot.No why) = Unit {0}

-- a watcher's vote may be recorded: a Yes that the watcher voted, or anything else
abbrev pub IsWatchVoteCast : Stories → Draw → Past → Type 0
IsWatchVoteCast stories tx Cast.Yes = (story : Story) × (stories tx ≡ Some story) × (story.watch_vote ≡ Some Cast.Yes)
IsWatchVoteCast stories tx (Cast.No why) = Unit {0}
IsWatchVoteCast stories tx Cast.Ended = Unit {0}

-- an entry may be appended to the log of the group with this name, by the stories so far
abbrev pub IsAllowed : Sources → Stories → Draw → Command → Type 0
IsAllowed sources stories name (Call client seq op) = op ≡ sources.request client seq
IsAllowed sources stories name (Split at child order) = (sources.owner child ≡ Some name) × (at < 2 ^ 32)
IsAllowed sources stories name (Begin tx body order) = (sources.owner tx ≡ Some name) × IsShared body
IsAllowed sources stories name (Prepared tx offer) = (story : Story) × (stories tx ≡ Some story) × (story.offer ≡ Some (unsigned offer)) × (offer.part ≡ name)
IsAllowed sources stories name (RecordVote tx vote by) = IsVoteCast stories tx vote
IsAllowed sources stories name (Watched tx watch) = (story : Story) × (stories tx ≡ Some story) × (story.watch ≡ Some (unsigned_watch watch)) × (watch.part ≡ name)
IsAllowed sources stories name (RecordWatch tx vote by) = IsWatchVoteCast stories tx vote
IsAllowed sources stories name (Finish tx outcome) = (story : Story) × (stories tx ≡ Some story) × (story.outcome ≡ Some outcome)
IsAllowed sources stories name Noop = Unit {0}
IsAllowed sources stories name (Join node order) = Unit {0}
IsAllowed sources stories name (Leave node order) = Unit {0}
IsAllowed sources stories name (GiveUp tx) = Unit {0}

-- ---- lists of entries

-- the world with the stories of its transactions
pub record StoryWorld : Type 0 where
  pub store : StoreWorld
  pub stories : Stories

-- the world of a scenario's groups before any entry, with no story
abbrev pub first_recorded : List Base → StoryWorld
first_recorded bases = record { store = first_world bases; stories = no_stories }

-- the stories after a command of the group that was found; where no group was found they stay as they are
abbrev pub recorded_stories : Stories → Option Group → Command → Stories
recorded_stories stories None command = stories
recorded_stories stories (Some group) command = stories_after group command (applied group command).1 stories

-- the world and the stories after one entry
abbrev pub recorded_next : StoryWorld → LogEntry → StoryWorld
recorded_next world entry = record {
  store = recorded world.store entry;
  stories = recorded_stories world.stories (named_group entry.group world.store.groups) entry.command;
}

-- the world and the stories after a list of entries, in their order
abbrev pub recorded_after : StoryWorld → List LogEntry → StoryWorld
recorded_after = fold recorded_next

-- each entry is allowed by the stories that the entries before it leave
abbrev pub AreAllowed : Sources → StoryWorld → List LogEntry → Type 0
AreAllowed sources world [] = Unit {0}
AreAllowed sources world (entry ∷ entries) = IsAllowed sources world.stories entry.group entry.command × AreAllowed sources (recorded_next world entry) entries
