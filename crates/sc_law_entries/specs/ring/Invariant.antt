-- What holds of locks, votes and decisions after every list of allowed entries.
use Rattle.std.specs.Prelude.{◌≡◌, ℕ, ◌<◌, ◌^◌, ◌⊎◌, Bool, true, false, Option, Some, None}
use Rattle.std.specs.List.{list_any}
use Rattle.sc_base.specs.Definitions.{same_draw}
use Rattle.sc_base.specs.declared.names.Draw.{Draw}
use Rattle.sc_words.specs.declared.commands.bodies.Body.{Body}
use Rattle.sc_words.specs.declared.commands.bodies.Body.TheVariants as At
use Rattle.sc_words.specs.declared.commands.bodies.Offer.{Offer}
use Rattle.sc_words.specs.declared.commands.bodies.Watch.{Watch}
use Rattle.sc_words.specs.declared.commands.cores.Core.{Core}
use Rattle.sc_words.specs.declared.commands.cores.Lock.{Lock}
use Rattle.sc_words.specs.declared.commands.cores.Lock.TheVariants.{Free, Coordinating, Promised, Watching}
use Rattle.sc_words.specs.declared.commands.votes.Frozen.{Frozen}
use Rattle.sc_words.specs.declared.commands.votes.Heard.{Heard}
use Rattle.sc_words.specs.declared.commands.votes.Outcome.{Outcome}
use Rattle.sc_words.specs.declared.commands.votes.Outcome.TheVariants.{Abort}
use Rattle.sc_words.specs.declared.commands.votes.Past.{Past}
use Rattle.sc_words.specs.declared.commands.votes.Past.TheVariants as Cast
use Rattle.sc_words.specs.declared.commands.votes.Vote.{Vote}
use Rattle.sc_words.specs.declared.commands.votes.Vote.TheVariants as Ballot
use Rattle.sc_group_table.specs.machine.MachineDefinitions.{Group, frozen_of, has_voted}
use Rattle.sc_law_entries.specs.ring.Stories.{Story, Stories, unsigned, unsigned_watch, offer_for, watch_for}

-- all groups by their names
abbrev pub Groups : Type 0
Groups = Draw → Option Group

-- whether a group has decided a transaction
abbrev pub has_decided : Core → Draw → Bool
has_decided core tx = list_any (λ decision. same_draw decision.0 tx) core.decided

-- whether a group has split off a child of this name
abbrev pub has_born : Core → Draw → Bool
has_born core name = list_any (λ child. same_draw child name) core.born

-- a boundary is a position of the ring, and the child of a split has the transaction's name
abbrev pub IsOwnBody : Body → Draw → Type 0
IsOwnBody At.Merge tx = Unit {0}
IsOwnBody (At.Repart at) tx = at < 2 ^ 32
IsOwnBody (At.Migrate node) tx = Unit {0}
IsOwnBody (At.Split at child) tx = (at < 2 ^ 32) × (child ≡ tx)

-- a group coordinates by its lock: the story is open, and the group's record, pairs and client table are those at the entry that began the transaction
pub record IsCoordinating (stories : Stories) (name : Draw) (group : Group) (tx : Draw) (body : Body) (heard : Option Heard) : Type 0 where
  pub story : Story
  pub fact : stories tx ≡ Some story
  pub coordinator : story.coordinator ≡ name
  pub same_body : story.body ≡ body
  pub undecided : story.outcome ≡ None
  pub here : group.core.gone ≡ None
  pub standing : frozen_of group ≡ story.standing
  pub offer : story.offer ≡ offer_for group.core body
  pub watch : story.watch ≡ watch_for group.core body heard
  pub heard_vote : (h : Heard) → heard ≡ Some h → (story.vote ≡ Some (Ballot.Yes h.frozen)) × (h.frozen.succ.group ≡ name → ⊥)
  pub apart : group.core.succ.group ≡ name → ⊥
  pub own : IsOwnBody body tx

-- a participant has voted Yes: what it has is what it handed over
pub record IsPromised (stories : Stories) (name : Draw) (group : Group) (tx : Draw) (offer : Offer) : Type 0 where
  pub story : Story
  pub fact : stories tx ≡ Some story
  pub offered : story.offer ≡ Some (unsigned offer)
  pub part : offer.part ≡ name
  pub vote : story.vote ≡ Some (Ballot.Yes (frozen_of group))
  pub here : group.core.gone ≡ None

-- a watcher has voted Yes to what it was asked
pub record IsWatching (stories : Stories) (name : Draw) (group : Group) (tx : Draw) (watch : Watch) : Type 0 where
  pub story : Story
  pub fact : stories tx ≡ Some story
  pub asked : story.watch ≡ Some (unsigned_watch watch)
  pub part : watch.part ≡ name
  pub here : group.core.gone ≡ None

-- what the lock of a group says agrees with the stories
abbrev pub LockOk : Stories → Draw → Group → Lock → Type 0
LockOk stories name group Free = Unit {0}
LockOk stories name group (Coordinating tx body order heard) = IsCoordinating stories name group tx body heard
LockOk stories name group (Promised tx offer) = IsPromised stories name group tx offer
LockOk stories name group (Watching tx watch) = IsWatching stories name group tx watch

-- a group has its name, and its lock agrees with the stories
pub record GroupOk (stories : Stories) (name : Draw) (group : Group) : Type 0 where
  pub named : group.core.id ≡ name
  pub lock_ok : LockOk stories name group group.core.lock

-- the participant of a story is locked by its promise, and what it has is what it handed over
pub record IsFrozen (groups : Groups) (tx : Draw) (story : Story) (frozen : Frozen) : Type 0 where
  pub offer : Offer
  pub offered : story.offer ≡ Some (unsigned offer)
  pub group : Group
  pub fact : groups offer.part ≡ Some group
  pub lock : group.core.lock ≡ Promised tx offer
  pub same : frozen_of group ≡ frozen

-- the watcher of a story is locked by watching
pub record IsAgreed (groups : Groups) (tx : Draw) (story : Story) : Type 0 where
  pub watch : Watch
  pub asked : story.watch ≡ Some (unsigned_watch watch)
  pub group : Group
  pub fact : groups watch.part ≡ Some group
  pub lock : group.core.lock ≡ Watching tx watch

-- the participant of a story is there and has voted
pub record IsVoter (groups : Groups) (tx : Draw) (story : Story) : Type 0 where
  pub offer : Offer
  pub offered : story.offer ≡ Some offer
  pub group : Group
  pub fact : groups offer.part ≡ Some group
  pub voted : has_voted group.core tx ≡ true

-- the group that is asked to watch is there and has voted
pub record IsWatcher (groups : Groups) (tx : Draw) (asked : Option Watch) : Type 0 where
  pub watch : Watch
  pub is_asked : asked ≡ Some watch
  pub group : Group
  pub fact : groups watch.part ≡ Some group
  pub voted : has_voted group.core tx ≡ true

-- a commit had the votes that it needs
abbrev pub IsEarned : Story → Type 0
IsEarned story =
    ((offer : Offer) → story.offer ≡ Some offer → (frozen : Frozen) × (story.vote ≡ Some (Ballot.Yes frozen)))
    × ((watch : Watch) → story.watch ≡ Some watch → story.watch_vote ≡ Some Cast.Yes)

-- what a story says holds of the groups; while it is open, its Yes votes still lock those who gave them
pub record StoryOk (owner : Draw → Option Draw) (groups : Groups) (tx : Draw) (story : Story) : Type 0 where
  pub named : owner tx ≡ Some story.coordinator
  pub known : (group : Group) → groups story.coordinator ≡ Some group → has_decided group.core tx ≡ false
      → (order : ℕ) × (heard : Option Heard) × (group.core.lock ≡ Coordinating tx story.body order heard)
  pub there : (group : Group) × (groups story.coordinator ≡ Some group)
  pub voter : (vote : Vote) → story.vote ≡ Some vote → IsVoter groups tx story
  pub watcher : (past : Past) → story.watch_vote ≡ Some past → IsWatcher groups tx story.watch
  pub earned : (outcome : Outcome) → story.outcome ≡ Some outcome → (outcome ≡ Abort → ⊥) → IsEarned story
  pub frozen : story.outcome ≡ None → (frozen : Frozen) → story.vote ≡ Some (Ballot.Yes frozen) → IsFrozen groups tx story frozen
  pub agreed : story.outcome ≡ None → story.watch_vote ≡ Some Cast.Yes → IsAgreed groups tx story
  pub unborn : (at : ℕ) (child : Draw) → story.body ≡ At.Split at child → story.outcome ≡ None → groups tx ≡ None

-- a group is of the scenario, or was split off by the group that owns its name
abbrev pub Origin : (Draw → Option Draw) → Groups → Draw → Type 0
Origin owner groups name =
    (owner name ≡ None) ⊎ ((parent : Draw) × (group : Group) × (owner name ≡ Some parent) × (groups parent ≡ Some group) × (has_born group.core name ≡ true))

-- each group agrees with the stories, each story with the groups, and each group has an origin
pub record Facts (owner : Draw → Option Draw) (groups : Groups) (stories : Stories) : Type 0 where
  pub group : (name : Draw) (group : Group) → groups name ≡ Some group → GroupOk stories name group
  pub story : (tx : Draw) (story : Story) → stories tx ≡ Some story → StoryOk owner groups tx story
  pub origin : (name : Draw) (group : Group) → groups name ≡ Some group → Origin owner groups name
