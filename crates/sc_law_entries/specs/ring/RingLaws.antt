-- What holds after every list of allowed entries from the groups of a scenario.
use Rattle.std.specs.Prelude.{◌≡◌, List, [], ◌++◌, map, Option, Some, None}
use Rattle.sc_base.specs.Definitions.{Among, end_of}
use Rattle.sc_base.specs.declared.names.Draw.{Draw}
use Rattle.sc_words.specs.declared.commands.commands.Command.{Command}
use Rattle.sc_words.specs.declared.commands.commands.Command.TheVariants.{Noop, Call, Join, Leave, Split, Begin, Prepared, RecordVote, GiveUp, Finish, Watched, RecordWatch}
use Rattle.sc_words.specs.declared.commands.cores.Base.{Base}
use Rattle.sc_words.specs.declared.commands.cores.Core.{Core}
use Rattle.sc_words.specs.declared.commands.cores.Lock.TheVariants.{Free}
use Rattle.sc_meaning.specs.declared.entries.Cut.{Cut}
use Rattle.sc_meaning.specs.declared.entries.LogEntry.{LogEntry}
use Rattle.sc_meaning.specs.entries.EntryDefinitions.{IsPlaced, ServesItsCut, Covers, first_cut, StoreWorld, named_group, world_of}
use Rattle.sc_law_entries.specs.ring.Allowed.{Sources, IsAllowed, AreAllowed, StoryWorld, first_recorded, recorded_after}
use Rattle.sc_law_entries.specs.ring.Invariant.{Facts}
use Rattle.sc_law_entries.specs.ring.Stories.{Stories}

-- ---- the start

-- a group names as neighbours the groups whose arcs meet its own, itself where it is alone
pub record StandsBetween (bases : List Base) (core : Core) : Type 0 where
  pub succ : (other : Base) × Among other bases × (other.core.arc.lo ≡ end_of core.arc) × (core.succ.group ≡ other.core.id)
  pub pred : (other : Base) × Among other bases × (core.arc.lo ≡ end_of other.core.arc) × (core.pred.group ≡ other.core.id)

-- a group of a scenario begins between its neighbours, free of locks, not gone, with no pairs, under a name that was drawn for no group
pub record BeginsInPlace (sources : Sources) (bases : List Base) (base : Base) : Type 0 where
  pub between : StandsBetween bases base.core
  pub free : base.core.lock ≡ Free
  pub here : base.core.gone ≡ None
  pub empty : base.pairs ≡ []
  pub unowned : sources.owner base.core.id ≡ None

-- the groups of a scenario cover the ring, and each begins in place
pub record BeginInPlace (sources : Sources) (bases : List Base) : Type 0 where
  pub covers : Covers (map first_cut bases)
  pub first : (base : Base) → Among base bases → BeginsInPlace sources bases base

-- ---- the ring

-- the ring covers, each range's group has its place, and a group that serves a key is that of its range
pub record IsRingSound (world : StoreWorld) : Type 0 where
  pub covers : Covers world.ring
  pub placed : (cut : Cut) → Among cut world.ring → IsPlaced world cut
  pub serves_apart : ServesItsCut world

-- after every list of allowed entries the ring is sound
abbrev pub EntriesKeepTheRing : Type 0
EntriesKeepTheRing = (sources : Sources) (bases : List Base) (entries : List LogEntry) → BeginInPlace sources bases → AreAllowed sources (first_recorded bases) entries
    → IsRingSound (world_of bases entries)

-- ---- locks, votes and decisions

-- the stories of all transactions after a list of entries
abbrev pub stories_of : List Base → List LogEntry → Stories
stories_of bases entries = (recorded_after (first_recorded bases) entries).stories

-- after every list of allowed entries each lock, vote and decision is as the stories record it: from the entry that begins a transaction to its decision the coordinator is as it was, from its Yes to the end a participant is as it was frozen, and a watcher watches
abbrev pub EntriesKeepThePromises : Type 0
EntriesKeepThePromises = (sources : Sources) (bases : List Base) (entries : List LogEntry) → BeginInPlace sources bases → AreAllowed sources (first_recorded bases) entries
    → Facts sources.owner (λ name. named_group name (world_of bases entries).groups) (stories_of bases entries)

-- ---- drawn names

-- the name that a Begin or a Split brings
abbrev pub draw_of : Command → Option Draw
draw_of (Split at child order) = Some child
draw_of (Begin tx body order) = Some tx
draw_of Noop = None
draw_of (Call client seq op) = None
draw_of (Join node order) = None
draw_of (Leave node order) = None
draw_of (Prepared tx offer) = None
draw_of (RecordVote tx vote by) = None
draw_of (GiveUp tx) = None
draw_of (Finish tx outcome) = None
draw_of (Watched tx watch) = None
draw_of (RecordWatch tx vote by) = None

-- a name occurs in the Begins and Splits of one group's log alone
abbrev pub DrawsAreOfOneLog : Type 0
DrawsAreOfOneLog = (sources : Sources) (bases : List Base) (entries : List LogEntry) → AreAllowed sources (first_recorded bases) entries
    → (a b : LogEntry) → Among a entries → Among b entries → (name : Draw) → draw_of a.command ≡ Some name → draw_of b.command ≡ Some name → a.group ≡ b.group

-- ---- what is allowed

-- an entry that is allowed stays allowed after more allowed entries
abbrev pub AllowedEntriesStayAllowed : Type 0
AllowedEntriesStayAllowed = (sources : Sources) (bases : List Base) (entries more : List LogEntry) → BeginInPlace sources bases
    → AreAllowed sources (first_recorded bases) entries → AreAllowed sources (recorded_after (first_recorded bases) entries) more
    → (name : Draw) (command : Command) → IsAllowed sources (stories_of bases entries) name command → IsAllowed sources (recorded_after (recorded_after (first_recorded bases) entries) more).stories name command

-- lists that are allowed one after another are allowed as one list
abbrev pub AllowedListsAppend : Type 0
AllowedListsAppend = (sources : Sources) (world : StoryWorld) (entries more : List LogEntry) → AreAllowed sources world entries
    → AreAllowed sources (recorded_after world entries) more → AreAllowed sources world (entries ++ more)
