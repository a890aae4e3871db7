-- What has to hold of a world for an entry to make a move of what groups hold: facts about its group, its transaction and the other party.
use Rattle.std.specs.Prelude.{◌≡◌, ◌≢◌, ℕ, ◌<◌, ◌^◌, true, false, IsTrue, List, [], ◌∷◌, Option, Some, None}
use Rattle.sc_base.specs.Definitions.{Arc, CanJoin}
use Rattle.sc_base.specs.declared.names.Draw.{Draw}
use Rattle.sc_words.specs.declared.commands.bodies.Offer.{Offer}
use Rattle.sc_words.specs.declared.commands.commands.Command.{Command}
use Rattle.sc_words.specs.declared.commands.commands.Command.TheVariants.{Noop, Call, Join, Leave, Split, Begin, Prepared, RecordVote, GiveUp, Finish, Watched, RecordWatch}
use Rattle.sc_words.specs.declared.commands.cores.Base.{Base}
use Rattle.sc_words.specs.declared.commands.cores.Lock.TheVariants.{Coordinating, Promised}
use Rattle.sc_words.specs.declared.commands.bodies.Body.TheVariants as At
use Rattle.sc_words.specs.declared.commands.votes.Frozen.{Frozen}
use Rattle.sc_words.specs.declared.commands.votes.Heard.{Heard}
use Rattle.sc_words.specs.declared.commands.votes.Gift.{Gift}
use Rattle.sc_words.specs.declared.commands.votes.Outcome.{Outcome}
use Rattle.sc_words.specs.declared.commands.votes.Outcome.TheVariants.{Moved}
use Rattle.sc_words.specs.declared.commands.votes.Past.{Past}
use Rattle.sc_words.specs.declared.commands.votes.Past.TheVariants as Cast
use Rattle.sc_words.specs.declared.commands.votes.Vote.{Vote}
use Rattle.sc_words.specs.declared.commands.votes.Vote.TheVariants as Says
use Rattle.sc_words.specs.commands.CommandDefinitions.{is_alone}
use Rattle.sc_words.specs.ideal.IdealDefinitions.{key_of}
use Rattle.sc_group_table.specs.machine.MachineDefinitions.{Group, locked_in, frozen_of, has_named, is_coordinating, has_voted}
use Rattle.sc_base.specs.declared.ops.Op.{Op}
use Rattle.sc_meaning.specs.declared.entries.LogEntry.{LogEntry}
use Rattle.sc_meaning.specs.declared.entries.Transaction.{Transaction}
use Rattle.sc_meaning.specs.entries.EntryDefinitions.{decision, transaction_in, is_commit, serves, arc_in, StoreWorld, first_world, named_group, recorded}
use Rattle.sc_law_entries.specs.history.Moves.{RequestOf, MatchesHoldings}
use Rattle.sc_law_entries.specs.history.Worlds.{BeginBare, MakesMove, MatchByMoves, holdings_in}

-- a group has a range of the ring
abbrev pub HasCut : StoreWorld → Draw → Type 0
HasCut world name = (arc : Arc) × (arc_in name world.ring ≡ Some arc)

-- a transaction is open, or was aborted
abbrev pub IsUncommitted : StoreWorld → Draw → Type 0
IsUncommitted world tx = (outcome : Outcome) → decision tx world.transactions ≡ Some outcome → is_commit outcome ≡ false

-- a call is the request of its client and number, and its group has a range where it serves the call's key
pub record MayCall (request : RequestOf) (world : StoreWorld) (group : Group) (client seq : ℕ) (op : Op) : Type 0 where
  pub asked : op ≡ request client seq
  pub cut : IsTrue (serves group (key_of op)) → HasCut world group.core.id

-- a group that is split at once has a range, and its child has neither a record nor a range yet
pub record IsNewChild (world : StoreWorld) (group : Group) (child : Draw) : Type 0 where
  pub cut : HasCut world group.core.id
  pub unborn : named_group child world.groups ≡ None
  pub uncut : arc_in child world.ring ≡ None

-- a split is at a position of the ring, and where the group makes it at once, its child is new
pub record MaySplit (world : StoreWorld) (group : Group) (at : ℕ) (child : Draw) : Type 0 where
  pub fits : at < 2 ^ 32
  pub fresh : is_alone group.core ≡ true → group.core.gone ≡ None → locked_in group.core.lock ≡ None → has_named group.core child ≡ false → IsNewChild world group child

-- a group coordinates a transaction, which is not committed
pub record IsItsOwn (world : StoreWorld) (group : Group) (tx : Draw) : Type 0 where
  pub transaction : Transaction
  pub fact : transaction_in tx world.transactions ≡ Some transaction
  pub coordinator : transaction.coordinator ≡ group.core.id
  pub uncommitted : IsUncommitted world tx

-- the participant by whose Yes a coordinator commits: the coordinator's successor, which alone has promised, was offered the coordinator's arc, and is as it handed over
pub record IsParty (world : StoreWorld) (group : Group) (tx : Draw) (frozen : Frozen) : Type 0 where
  pub next : Group
  pub found : named_group group.core.succ.group world.groups ≡ Some next
  pub apart : group.core.id ≢ group.core.succ.group
  pub handed : frozen ≡ frozen_of next
  pub offer : Offer
  pub lock : next.core.lock ≡ Promised tx offer
  pub offered : offer.arc ≡ group.core.arc
  pub only : (name : Draw) (other : Group) (offer : Offer) → named_group name world.groups ≡ Some other → other.core.lock ≡ Promised tx offer → name ≡ group.core.succ.group
  pub own_cut : HasCut world group.core.id
  pub next_cut : HasCut world group.core.succ.group
  pub meet : CanJoin group.core.arc next.core.arc

-- what a participant's vote needs: the transaction is its coordinator's own, after a Yes the participant is as it handed over, and a boundary moves to a position of the ring
pub record MayHear (world : StoreWorld) (group : Group) (tx : Draw) (vote : Vote) : Type 0 where
  pub own : is_coordinating group.core.lock tx ≡ true → IsItsOwn world group tx
  pub party : is_coordinating group.core.lock tx ≡ true → (frozen : Frozen) → vote ≡ Says.Yes frozen → IsParty world group tx frozen
  pub fits : (at order : ℕ) (heard : Option Heard) → group.core.lock ≡ Coordinating tx (At.Repart at) order heard → at < 2 ^ 32

-- what a watcher's vote needs: the transaction is its coordinator's own; after a Yes to a merge the participant that was heard is as it handed over; after a Yes to a split the child is new, and no group has promised
pub record MayHearWatcher (world : StoreWorld) (group : Group) (tx : Draw) (vote : Past) : Type 0 where
  pub own : is_coordinating group.core.lock tx ≡ true → IsItsOwn world group tx
  pub party : (order : ℕ) (heard : Heard) → group.core.lock ≡ Coordinating tx At.Merge order (Some heard) → vote ≡ Cast.Yes → IsParty world group tx heard.frozen
  pub division : (at : ℕ) (child : Draw) (order : ℕ) (heard : Option Heard) → group.core.lock ≡ Coordinating tx (At.Split at child) order heard → vote ≡ Cast.Yes
      → (at < 2 ^ 32) × IsNewChild world group child × ((name : Draw) (other : Group) (offer : Offer) → named_group name world.groups ≡ Some other → other.core.lock ≡ Promised tx offer → ⊥)

-- what an end needs where its group is locked in the transaction: the outcome is the one that was decided, and a group that is given something has a range
pub record MayFinish (world : StoreWorld) (group : Group) (tx : Draw) (outcome : Outcome) : Type 0 where
  pub decided : locked_in group.core.lock ≡ Some tx → decision tx world.transactions ≡ Some outcome
  pub cut : locked_in group.core.lock ≡ Some tx → (at : ℕ) (gift : Gift) → outcome ≡ Moved at (Some gift) → HasCut world group.core.id

-- what has to hold of a world for its group to execute a command
abbrev pub MayExecute : RequestOf → StoreWorld → Group → Command → Type 0
MayExecute request world group Noop = Unit {0}
MayExecute request world group (Call client seq op) = MayCall request world group client seq op
MayExecute request world group (Join node order) = Unit {0}
MayExecute request world group (Leave node order) = Unit {0}
MayExecute request world group (Split at child order) = MaySplit world group at child
MayExecute request world group (Begin tx body order) = Unit {0}
MayExecute request world group (Prepared tx offer) = has_voted group.core tx ≡ false → IsUncommitted world tx
MayExecute request world group (RecordVote tx vote by) = MayHear world group tx vote
MayExecute request world group (GiveUp tx) = is_coordinating group.core.lock tx ≡ true → IsUncommitted world tx
MayExecute request world group (Finish tx outcome) = MayFinish world group tx outcome
MayExecute request world group (Watched tx watch) = Unit {0}
MayExecute request world group (RecordWatch tx vote by) = MayHearWatcher world group tx vote

-- what has to hold of a world for an entry, by the group that the entry is of
abbrev pub MayBeApplied : RequestOf → StoreWorld → LogEntry → Type 0
MayBeApplied request world entry = (group : Group) → named_group entry.group world.groups ≡ Some group → MayExecute request world group entry.command

-- each entry may be applied when its turn comes
abbrev pub AllMayBeApplied : RequestOf → StoreWorld → List LogEntry → Type 0
AllMayBeApplied request world [] = Unit {0}
AllMayBeApplied request world (entry ∷ entries) = MayBeApplied request world entry × AllMayBeApplied request (recorded world entry) entries

-- where the history matches what all groups hold, an entry that may be applied makes a move
abbrev pub EntriesMakeMoves : Type 0
EntriesMakeMoves = (request : RequestOf) (world : StoreWorld) (entry : LogEntry) → MatchesHoldings request world.history (holdings_in world) → MayBeApplied request world entry → MakesMove request world entry

-- entries of every kind that may be applied one after another from an empty start make a history that matches what all groups hold
abbrev pub AppliedEntriesMakeHistory : Type 0
AppliedEntriesMakeHistory = (request : RequestOf) (bases : List Base) → BeginBare bases → (entries : List LogEntry) → AllMayBeApplied request (first_world bases) entries → MatchByMoves request bases entries
