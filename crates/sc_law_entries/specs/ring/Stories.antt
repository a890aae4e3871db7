-- Stories: what the logs of all groups record of each transaction, entry by entry, of its coordinator, its participant and its watcher.
use Rattle.std.specs.Prelude.{◌&&◌, not, if◌then◌else◌, Option, Some, None}
use Rattle.std.specs.Option.{option_map}
use Rattle.sc_base.specs.Definitions.{same_draw}
use Rattle.sc_base.specs.declared.names.Draw.{Draw}
use Rattle.sc_words.specs.declared.commands.bodies.Body.{Body}
use Rattle.sc_words.specs.declared.commands.bodies.Body.TheVariants as At
use Rattle.sc_words.specs.declared.commands.bodies.Offer.{Offer}
use Rattle.sc_words.specs.declared.commands.bodies.Watch.{Watch}
use Rattle.sc_words.specs.declared.commands.commands.Command.{Command}
use Rattle.sc_words.specs.declared.commands.commands.Command.TheVariants.{Noop, Call, Join, Leave, Split, Begin, Prepared, RecordVote, GiveUp, Finish, Watched, RecordWatch}
use Rattle.sc_words.specs.declared.commands.cores.Core.{Core}
use Rattle.sc_words.specs.declared.commands.effects.Effect.{Effect}
use Rattle.sc_words.specs.declared.commands.effects.Effect.TheVariants.{Voted}
use Rattle.sc_words.specs.declared.commands.links.Link.{Link}
use Rattle.sc_words.specs.declared.commands.votes.Frozen.{Frozen}
use Rattle.sc_words.specs.declared.commands.votes.Heard.{Heard}
use Rattle.sc_words.specs.declared.commands.votes.Outcome.{Outcome}
use Rattle.sc_words.specs.declared.commands.votes.Past.{Past}
use Rattle.sc_words.specs.declared.commands.votes.Past.TheVariants as Cast
use Rattle.sc_words.specs.declared.commands.votes.Vote.{Vote}
use Rattle.sc_words.specs.declared.commands.votes.Vote.TheVariants as Ballot
use Rattle.sc_words.specs.commands.CommandDefinitions.{is_changed, decided_in, is_alone}
use Rattle.sc_group_table.specs.machine.MachineDefinitions.{Group, frozen_of, merged_link, right_link}

-- what all logs record of one transaction
pub record Story : Type 0 where
  -- the group whose log has the Begin, or the Split that locks the group before it divides
  pub coordinator : Draw
  pub body : Body
  -- the coordinator's record, pairs and client table at that entry
  pub standing : Frozen
  -- what the participant is asked, without the node that asks; none for a split
  pub offer : Option Offer
  -- what the participant voted
  pub vote : Option Vote
  -- what the watcher is asked, without the node that asks, once the watcher is known
  pub watch : Option Watch
  -- what the watcher voted
  pub watch_vote : Option Past
  -- what the coordinator decided
  pub outcome : Option Outcome

-- the stories of all transactions, by their names
abbrev pub Stories : Type 0
Stories = Draw → Option Story

-- no transaction has a story yet
abbrev pub no_stories : Stories
no_stories name = None

-- a function of names, with this value for one name
abbrev pub put : {X : Type 0} → (Draw → X) → Draw → X → Draw → X
put known name value other = if same_draw other name then value else known other

-- the stories, with the one of this name changed, where there is one
abbrev pub with_story : Stories → Draw → (Story → Story) → Stories
with_story stories tx change = put stories tx (option_map change (stories tx))

-- ---- what is asked

-- an offer without the node that asks
abbrev pub unsigned : Offer → Offer
unsigned offer = record offer { by = 0 }

-- a watch without the node that asks
abbrev pub unsigned_watch : Watch → Watch
unsigned_watch watch = record watch { by = 0 }

-- what a coordinator offers its successor
abbrev pub offer_with : Core → Body → Offer
offer_with core body = record { coord = core.id; part = core.succ.group; arc = core.arc; members = core.members; body = body; by = 0 }

-- the offer of a transaction with this body; none for a split, which has no participant
abbrev pub offer_for : Core → Body → Option Offer
offer_for core At.Merge = Some (offer_with core At.Merge)
offer_for core (At.Repart at) = Some (offer_with core (At.Repart at))
offer_for core (At.Migrate node) = Some (offer_with core (At.Migrate node))
offer_for core (At.Split at child) = None

-- what a coordinator asks of a watcher: to have `next` as predecessor in place of `old`
abbrev pub watch_with : Core → Draw → Draw → Link → Watch
watch_with core part old next = record { coord = core.id; members = core.members; part = part; old = old; next = next; by = 0 }

-- what a coordinator asks of a merge's watcher, once it has heard the participant: the watcher is the participant's successor
abbrev pub merge_watch : Core → Option Heard → Option Watch
merge_watch core None = None
merge_watch core (Some heard) = Some (watch_with core heard.frozen.succ.group core.succ.group (merged_link core heard.frozen))

-- what a coordinator asks of the watcher of a transaction with this body: a split's watcher is the successor, and a moved boundary or a handed-over member has none
abbrev pub watch_for : Core → Body → Option Heard → Option Watch
watch_for core At.Merge heard = merge_watch core heard
watch_for core (At.Repart at) heard = None
watch_for core (At.Migrate node) heard = None
watch_for core (At.Split at child) heard = Some (watch_with core core.succ.group core.id (right_link core child))

-- ---- what an entry adds

-- the story of a transaction at the entry that begins it
abbrev pub new_story : Group → Body → Story
new_story group body = record {
  coordinator = group.core.id;
  body = body;
  standing = frozen_of group;
  offer = offer_for group.core body;
  vote = None;
  watch = watch_for group.core body None;
  watch_vote = None;
  outcome = None;
}

-- a participant's vote, as the group that votes makes it: a Yes hands over what the group has
abbrev pub vote_by : Group → Past → Option Vote
vote_by group Cast.Yes = Some (Ballot.Yes (frozen_of group))
vote_by group (Cast.No why) = Some (Ballot.No why)
vote_by group Cast.Ended = None

-- the participant's vote that an entry casts, if it casts one
abbrev pub vote_in : Group → Effect → Option Vote
vote_in group (Voted past) = vote_by group past
vote_in group _ = None

-- the watcher's vote that an entry casts, if it casts one
abbrev pub watch_vote_in : Effect → Option Past
watch_vote_in (Voted past) = Some past
watch_vote_in _ = None

-- a story with this participant's vote, if there is one
abbrev pub with_vote : Option Vote → Story → Story
with_vote None story = story
with_vote (Some vote) story = record story { vote = Some vote }

-- a story with this watcher's vote, if there is one
abbrev pub with_watch_vote : Option Past → Story → Story
with_watch_vote None story = story
with_watch_vote (Some past) story = record story { watch_vote = Some past }

-- a story with this outcome, if there is one
abbrev pub with_decision : Option Outcome → Story → Story
with_decision None story = story
with_decision (Some outcome) story = record story { outcome = Some outcome }

-- a story with what the watcher of a merge is asked after the participant's Yes
abbrev pub with_asked : Core → Vote → Story → Story
with_asked core (Ballot.Yes frozen) story = record story { watch = merge_watch core (Some (record { frozen = frozen; by = 0 })) }
with_asked core (Ballot.No why) story = story

-- a story after the coordinator records the participant's vote: the vote decides, or the watcher is asked
abbrev pub with_answer : Core → Vote → Effect → Story → Story
with_answer core vote effect story = if is_changed effect then with_asked core vote story else with_decision (decided_in effect) story

-- the stories after an entry of a group's log, by the group before it and the entry's effect
abbrev pub stories_after : Group → Command → Effect → Stories → Stories
stories_after group (Split at child order) effect stories =
    if is_changed effect && not (is_alone group.core) then put stories child (Some (new_story group (At.Split at child))) else stories
stories_after group (Begin tx body order) effect stories = if is_changed effect then put stories tx (Some (new_story group body)) else stories
stories_after group (Prepared tx offer) effect stories = with_story stories tx (with_vote (vote_in group effect))
stories_after group (Watched tx watch) effect stories = with_story stories tx (with_watch_vote (watch_vote_in effect))
stories_after group (RecordVote tx vote by) effect stories = with_story stories tx (with_answer group.core vote effect)
stories_after group (RecordWatch tx vote by) effect stories = with_story stories tx (with_decision (decided_in effect))
stories_after group (GiveUp tx) effect stories = with_story stories tx (with_decision (decided_in effect))
stories_after group Noop effect stories = stories
stories_after group (Call client seq op) effect stories = stories
stories_after group (Join node order) effect stories = stories
stories_after group (Leave node order) effect stories = stories
stories_after group (Finish tx outcome) effect stories = stories
