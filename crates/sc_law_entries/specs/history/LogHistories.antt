-- What the log of one group makes of the store, from an empty start.
use Rattle.std.specs.Prelude.{◌≡◌, ℕ, ◌≤◌, List, [], ◌∷◌, ◌++◌, Some, ◌⊎◌, slice_get}
use Rattle.std.specs.FinMap.{empty, get}
use Rattle.sc_base.specs.declared.ops.Noted.{Noted}
use Rattle.sc_base.specs.declared.ops.Op.{Op}
use Rattle.sc_base.specs.declared.ops.Reply.{Reply}
use Rattle.sc_words.specs.declared.commands.commands.Command.{Command}
use Rattle.sc_words.specs.declared.commands.commands.Command.TheVariants.{Noop, Call, Join, Leave, Split, Begin, Prepared, RecordVote, GiveUp, Finish, Watched, RecordWatch}
use Rattle.sc_words.specs.declared.commands.effects.Effect.{Effect}
use Rattle.sc_words.specs.declared.commands.effects.Effect.TheVariants.{Done, Again}
use Rattle.sc_words.specs.ideal.IdealDefinitions.{Legal, HasEntry, contents_after}
use Rattle.sc_words.specs.declared.ideal.Entry.{Entry}
use Rattle.sc_group_table.specs.machine.MachineDefinitions.{Group, applied, state_after, effects_of, done_by}
use Rattle.sc_base.specs.Definitions.{Among, Each}

-- a group that holds no pairs and has noted nothing
pub record HoldsNothing (group : Group) : Type 0 where
  pub pairs : group.pairs ≡ empty
  pub clients : group.clients ≡ empty

-- a group's table notes a number of the entry's client that is at least the entry's
pub record IsNoted (group : Group) (entry : Entry) : Type 0 where
  pub noted : Noted
  pub found : get group.clients entry.client ≡ Some noted
  pub most : entry.seq ≤ noted.seq

-- These entries are a legal history; the map after it is the group's pairs; and the group's table notes the last entry of each client.
pub record IsHistoryOf (entries : List Entry) (group : Group) : Type 0 where
  pub legal : Legal entries
  pub pairs : contents_after empty entries ≡ group.pairs
  pub noted : (client : ℕ) (noted : Noted) → get group.clients client ≡ Some noted → HasEntry entries client noted.seq noted.reply
  pub latest : (entry : Entry) → Among entry entries → IsNoted group entry

-- an effect gives a call this reply, whether the call is new or repeated
abbrev pub IsReplied : Effect → Reply → Type 0
IsReplied effect reply = (effect ≡ Done reply) ⊎ (effect ≡ Again reply)

-- the command at a place (from 0) of a log is a client's request that took effect
pub record IsDone (group : Group) (log : List Command) (place client seq : ℕ) : Type 0 where
  pub op : Op
  pub reply : Reply
  pub call : slice_get log place ≡ Some (Call client seq op)
  pub effect : slice_get (effects_of group log) place ≡ Some (Done reply)

-- the calls of a log that take effect are the history of its group; each is a call of the log; a reply to a call is that of its entry; each has one place, and no request takes effect at two
pub record LogMakesHistory (group : Group) (log : List Command) : Type 0 where
  pub tells : IsHistoryOf (done_by group log) (state_after group log)
  pub backlog : (entry : Entry) → Among entry (done_by group log) → Among (Call entry.client entry.seq entry.op) log
  pub replies : (client seq : ℕ) (op : Op) (reply : Reply) → IsReplied (applied (state_after group log) (Call client seq op)).1 reply
      → HasEntry (done_by group (log ++ Call client seq op ∷ [])) client seq reply
  pub places : (entry : Entry) → Among entry (done_by group log) → (place : ℕ) × IsDone group log place entry.client entry.seq
  pub once : (place other client seq : ℕ) → IsDone group log place client seq → IsDone group log other client seq → place ≡ other

-- a command that divides no group and is of no transaction: a Noop, a call, a join or a leave
abbrev pub LeavesWhole : Command → Type 0
LeavesWhole Noop = Unit {0}
LeavesWhole (Call client seq op) = Unit {0}
LeavesWhole (Join node order) = Unit {0}
LeavesWhole (Leave node order) = Unit {0}
LeavesWhole (Split at child order) = ⊥
LeavesWhole (Begin tx body order) = ⊥
LeavesWhole (Prepared tx offer) = ⊥
LeavesWhole (RecordVote tx vote by) = ⊥
LeavesWhole (GiveUp tx) = ⊥
LeavesWhole (Finish tx outcome) = ⊥
LeavesWhole (Watched tx watch) = ⊥
LeavesWhole (RecordWatch tx vote by) = ⊥

-- each log of such commands has its calls that take effect as the history of its group, from an empty start
abbrev pub LogsMakeHistories : Type 0
LogsMakeHistories = (group : Group) → HoldsNothing group → (log : List Command) → Each LeavesWhole log → LogMakesHistory group log
