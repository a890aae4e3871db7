-- How a coordinator runs a transaction: it begins, records the vote of its participant and then of a watcher, or gives up, and decides. The decision is an entry of its own log, as in the nested consensus of Scatter (SOSP 2011, multi-group operations).
use Rattle.std.specs.Prelude.{ℕ, ◌+◌, Bool, ◌∷◌, [], ◌++◌, true, false, is_some, if◌then◌else◌, Option, Some, None}
use Rattle.sc_base.specs.Definitions.{same_draw}
use Rattle.sc_base.specs.declared.names.Draw.{Draw}
use Rattle.sc_words.specs.declared.commands.bodies.Body.{Body}
use Rattle.sc_words.specs.declared.commands.bodies.Body.TheVariants.{Merge, Repart, Migrate, Split}
use Rattle.sc_words.specs.declared.commands.cores.Core.{Core}
use Rattle.sc_words.specs.declared.commands.cores.Lock.{Lock}
use Rattle.sc_words.specs.declared.commands.cores.Lock.TheVariants.{Free, Coordinating, Promised, Watching}
use Rattle.sc_words.specs.declared.commands.effects.Effect.{Effect}
use Rattle.sc_words.specs.declared.commands.effects.Effect.TheVariants.{NoEffect, Changed, Decided}
use Rattle.sc_words.specs.declared.commands.votes.Frozen.{Frozen}
use Rattle.sc_words.specs.declared.commands.votes.Heard.{Heard}
use Rattle.sc_words.specs.declared.commands.votes.Outcome.{Outcome}
use Rattle.sc_words.specs.declared.commands.votes.Outcome.TheVariants.{Abort}
use Rattle.sc_words.specs.declared.commands.votes.Past.{Past}
use Rattle.sc_words.specs.declared.commands.votes.Past.TheVariants as Cast
use Rattle.sc_words.specs.declared.commands.votes.Vote.{Vote}
use Rattle.sc_words.specs.declared.commands.votes.Vote.TheVariants.{Yes, No}
use Rattle.sc_group_table.specs.machine.Group.{Group}
use Rattle.sc_group_table.specs.machine.Plans.{Plan, split_plan, merge_plan, closing_plan, repart_plan, migrate_plan}

-- the record of a group that has begun a transaction
abbrev pub begun_core : Core → Draw → Body → ℕ → Core
begun_core core tx body order = record core { lock = Coordinating tx body order None; begun = core.begun + 1 }

-- a group that has begun a transaction
abbrev pub begun_group : Group → Draw → Body → ℕ → Group
begun_group group tx body order = record group { core = begun_core group.core tx body order }

-- a group that has decided a transaction: it is free, and keeps the outcome
abbrev pub decided_group : Group → Draw → Outcome → Group
decided_group group tx outcome = record group { core = record group.core { lock = Free; decided = group.core.decided ++ (tx, outcome) ∷ [] } }

-- a group that has decided a transaction, and the effect
abbrev pub decided : Group → Draw → Outcome → Group × Effect
decided group tx outcome = (decided_group group tx outcome, Decided outcome)

-- a group that has decided to abort a transaction, and the effect
abbrev pub aborted : Group → Draw → Group × Effect
aborted group tx = decided group tx Abort

-- the group and the effect of a plan: it is carried out and decided; a plan that cannot be made has no effect
abbrev pub committed : Plan → Group → Draw → Group × Effect
committed None group tx = (group, NoEffect tx)
committed (Some plan) group tx = decided plan.0 tx plan.1

-- the coordinator after it has recorded the participant's Yes, while it waits for the watcher
abbrev pub heard_group : Group → Draw → Body → ℕ → Heard → Group
heard_group group tx body order heard = record group { core = record group.core { lock = Coordinating tx body order (Some heard) } }

-- what a participant's Yes does: it decides, but of a merge only where the two groups make the ring; else it is recorded
abbrev pub granted : Body → Group → Draw → ℕ → Frozen → ℕ → Group × Effect
granted Merge group tx order frozen by =
    if same_draw frozen.succ.group group.core.id then committed (closing_plan group frozen) group tx
    else (heard_group group tx Merge order (record { frozen = frozen; by = by }), Changed)
granted (Repart at) group tx order frozen by = committed (repart_plan group at frozen) group tx
granted (Migrate node) group tx order frozen by = committed (migrate_plan group node frozen) group tx
granted (Split at child) group tx order frozen by = (group, NoEffect tx)

-- what a participant's vote does: a No is an abort
abbrev pub participant_answered : Vote → Body → Group → Draw → ℕ → ℕ → Group × Effect
participant_answered (Yes frozen) body group tx order by = granted body group tx order frozen by
participant_answered (No why) body group tx order by = aborted group tx

-- whether a coordinator waits for the watcher: of a split from the beginning, and else once the participant's Yes is recorded
abbrev pub asks_watcher : Body → Option Heard → Bool
asks_watcher Merge heard = is_some heard
asks_watcher (Repart at) heard = is_some heard
asks_watcher (Migrate node) heard = is_some heard
asks_watcher (Split at child) heard = true

-- what recording a participant's vote does, by the group's lock: only the coordinator of this transaction that does not wait for the watcher counts it
abbrev pub vote_recorded : Lock → Group → Draw → Vote → ℕ → Group × Effect
vote_recorded Free group tx vote by = (group, NoEffect tx)
vote_recorded (Promised locked offer) group tx vote by = (group, NoEffect tx)
vote_recorded (Watching locked watch) group tx vote by = (group, NoEffect tx)
vote_recorded (Coordinating locked body order heard) group tx vote by =
    if same_draw locked tx then if asks_watcher body heard then (group, NoEffect tx) else participant_answered vote body group tx order by
    else (group, NoEffect tx)

-- what a watcher's Yes decides: a merge whose participant has voted Yes, or a split
abbrev pub released : Body → Option Heard → Group → Draw → Group × Effect
released Merge (Some heard) group tx = committed (merge_plan group heard.frozen) group tx
released Merge None group tx = (group, NoEffect tx)
released (Repart at) heard group tx = (group, NoEffect tx)
released (Migrate node) heard group tx = (group, NoEffect tx)
released (Split at child) heard group tx = committed (split_plan group at child) group tx

-- what a watcher's vote decides: all but a Yes is an abort
abbrev pub watch_answered : Past → Body → Option Heard → Group → Draw → Group × Effect
watch_answered Cast.Yes body heard group tx = released body heard group tx
watch_answered (Cast.No why) body heard group tx = aborted group tx
watch_answered Cast.Ended body heard group tx = aborted group tx

-- what recording a watcher's vote does, by the group's lock: only the coordinator of this transaction that waits for the watcher counts it
abbrev pub watch_recorded : Lock → Group → Draw → Past → Group × Effect
watch_recorded Free group tx vote = (group, NoEffect tx)
watch_recorded (Promised locked offer) group tx vote = (group, NoEffect tx)
watch_recorded (Watching locked watch) group tx vote = (group, NoEffect tx)
watch_recorded (Coordinating locked body order heard) group tx vote =
    if same_draw locked tx then if asks_watcher body heard then watch_answered vote body heard group tx else (group, NoEffect tx)
    else (group, NoEffect tx)

-- whether a lock is that of the coordinator of this transaction
abbrev pub is_coordinating : Lock → Draw → Bool
is_coordinating Free tx = false
is_coordinating (Coordinating locked body order heard) tx = same_draw locked tx
is_coordinating (Promised locked offer) tx = false
is_coordinating (Watching locked watch) tx = false

-- what giving up a transaction does: its coordinator, which has not decided yet, aborts it
abbrev pub given_up : Group → Draw → Group × Effect
given_up group tx = if is_coordinating group.core.lock tx then aborted group tx else (group, NoEffect tx)
