-- The effective record of a group, and which keys it serves.
use Rattle.std.specs.Prelude.{ℕ, Bool, true, false, ◌&&◌, is_none, List, if◌then◌else◌, Option, Some, None}
use Rattle.std.specs.Option.{option_map}
use Rattle.sc_base.specs.declared.names.Draw.{Draw}
use Rattle.sc_words.specs.declared.commands.commands.Command.TheVariants.{Finish}
use Rattle.sc_words.specs.declared.commands.cores.Lock.{Lock}
use Rattle.sc_words.specs.declared.commands.cores.Lock.TheVariants.{Free, Coordinating, Promised, Watching}
use Rattle.sc_words.specs.declared.commands.votes.Outcome.{Outcome}
use Rattle.sc_words.specs.declared.commands.votes.Outcome.TheVariants.{Abort, Merged, Moved, Migrated, Divided}
use Rattle.sc_words.specs.ideal.IdealDefinitions.{holds_key}
use Rattle.sc_group_table.specs.machine.MachineDefinitions.{Group, applied}
use Rattle.sc_meaning.specs.declared.entries.Transaction.{Transaction}
use Rattle.sc_meaning.specs.entries.Decisions.{decision}
use Rattle.sc_meaning.specs.entries.Worlds.{StoreWorld, named_group}

-- whether an outcome is a commit: each but an abort
abbrev pub is_commit : Outcome → Bool
is_commit Abort = false
is_commit (Merged into) = true
is_commit (Moved at gift) = true
is_commit (Migrated node) = true
is_commit Divided = true

-- a group after its transaction's outcome, if that is a commit: as after Finish with it; else the group as it is
abbrev pub after_outcome : Option Outcome → Draw → Group → Group
after_outcome None tx group = group
after_outcome (Some outcome) tx group = if is_commit outcome then (applied group (Finish tx outcome)).0 else group

-- the effective record of a group with this lock: one that has promised or watches is judged by what its transaction decided, whether it has learned of it or not
abbrev pub effective_by : Lock → List Transaction → Group → Group
effective_by Free transactions group = group
effective_by (Coordinating tx body order heard) transactions group = group
effective_by (Promised tx offer) transactions group = after_outcome (decision tx transactions) tx group
effective_by (Watching tx watch) transactions group = after_outcome (decision tx transactions) tx group

-- the effective record of the group with a name, if there is such a group: what its own log makes of it, and then what was decided elsewhere
abbrev pub effective : StoreWorld → Draw → Option Group
effective world name = option_map (λ group. effective_by group.core.lock world.transactions group) (named_group name world.groups)

-- whether a group with this lock serves requests: where it is in no transaction or only watches
abbrev pub is_open : Lock → Bool
is_open Free = true
is_open (Coordinating tx body order heard) = false
is_open (Promised tx offer) = false
is_open (Watching tx watch) = true

-- whether a group serves a key: its arc holds the key's position, its lock lets it serve, and it is not gone
abbrev pub serves : Group → List ℕ → Bool
serves group key = holds_key group.core.arc key && is_open group.core.lock && is_none group.core.gone
