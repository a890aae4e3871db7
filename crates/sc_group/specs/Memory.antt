-- Which commands may report out of memory: those that change the lists that a group holds, or return a copy. A command without effect reports none, unless its vote is one on a boundary that moves.
use Rattle.std.specs.Prelude.{◌≡◌, ◌⊎◌, Bool, true, false, Some}
use Rattle.sc_words.specs.declared.commands.bodies.Body.{Body}
use Rattle.sc_words.specs.declared.commands.bodies.Body.TheVariants as Does
use Rattle.sc_words.specs.declared.commands.commands.Command.{Command}
use Rattle.sc_words.specs.declared.commands.commands.Command.TheVariants.{Noop, Call, Join, Leave, Split, Begin, Prepared, RecordVote, GiveUp, Finish, Watched, RecordWatch}
use Rattle.sc_words.specs.declared.commands.cores.Lock.{Lock}
use Rattle.sc_words.specs.declared.commands.cores.Lock.TheVariants.{Free, Coordinating, Promised, Watching}
use Rattle.sc_words.specs.declared.commands.effects.Effect.{Effect}
use Rattle.sc_words.specs.declared.commands.effects.Effect.TheVariants.{Done, Again, Stale, NotMine, Gone, NoEffect, Idle, Changed, Voted, Decided, Refused}
use Rattle.sc_words.specs.declared.commands.votes.Frozen.{Frozen}
use Rattle.sc_words.specs.declared.commands.votes.Vote.{Vote}
use Rattle.sc_words.specs.declared.commands.votes.Vote.TheVariants.{Yes, No}
use Rattle.sc_group_table.specs.machine.MachineDefinitions.{finished, Group, called, ordered_by, split_group, refusal_of, can_repart, given_up, vote_recorded, watch_recorded, offer_voted, watched}

-- whether an effect may need memory: a reply, a vote, a decision or a change
abbrev pub is_made : Effect → Bool
is_made (Done reply) = true
is_made (Again reply) = true
is_made Changed = true
is_made (Voted vote) = true
is_made (Decided outcome) = true
is_made (Stale last) = false
is_made (NotMine arc succ) = false
is_made (Gone into) = false
is_made (NoEffect tx) = false
is_made Idle = false
is_made (Refused why) = false

-- the effect of an entry may need memory
abbrev pub Makes : Group × Effect → Type 0
Makes after = is_made after.1 ≡ true

-- recording a Yes may need memory also where nothing is decided then: of a boundary that can move, the pairs that the coordinator would take are copied first
abbrev pub LooksThrough : Body → Group → Frozen → Type 0
LooksThrough Does.Merge group frozen = ⊥
LooksThrough (Does.Repart at) group frozen = can_repart group.core at frozen ≡ true
LooksThrough (Does.Migrate node) group frozen = ⊥
LooksThrough (Does.Split at child) group frozen = ⊥

-- a vote may need memory in that way: only a Yes does, by its frozen record
abbrev pub MayLookThrough : Vote → Body → Group → Type 0
MayLookThrough (Yes frozen) body group = LooksThrough body group frozen
MayLookThrough (No why) body group = ⊥

-- recording a vote may need memory in that way, by the group's lock: only a coordinator does
abbrev pub LockLooksThrough : Lock → Vote → Group → Type 0
LockLooksThrough Free vote group = ⊥
LockLooksThrough (Coordinating tx body order heard) vote group = MayLookThrough vote body group
LockLooksThrough (Promised tx offer) vote group = ⊥
LockLooksThrough (Watching tx watch) vote group = ⊥

-- a command may report out of memory
abbrev pub MayRunOutOfMemory : Group → Command → Type 0
MayRunOutOfMemory group Noop = ⊥
MayRunOutOfMemory group (Call client seq op) = Makes (called group.core.gone group.core.lock group client seq op)
MayRunOutOfMemory group (Join node order) = ⊥
MayRunOutOfMemory group (Leave node order) = ⊥
MayRunOutOfMemory group (Split at child order) = Makes (ordered_by (Some child) (refusal_of group.core (Split at child order)) (split_group group at child order) group)
MayRunOutOfMemory group (Begin tx body order) = ⊥
MayRunOutOfMemory group (Prepared tx offer) = Makes (offer_voted group tx offer)
MayRunOutOfMemory group (RecordVote tx vote by) = Makes (vote_recorded group.core.lock group tx vote by) ⊎ LockLooksThrough group.core.lock vote group
MayRunOutOfMemory group (GiveUp tx) = Makes (given_up group tx)
MayRunOutOfMemory group (Finish tx outcome) = Makes (finished group.core.lock group tx outcome)
MayRunOutOfMemory group (Watched tx watch) = Makes (watched group tx watch)
MayRunOutOfMemory group (RecordWatch tx vote by) = Makes (watch_recorded group.core.lock group tx vote)
