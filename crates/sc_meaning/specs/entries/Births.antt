-- Which entries create a group, and the birth record with which it begins.
use Rattle.std.specs.Prelude.{◌&&◌, if◌then◌else◌, Option, Some, None}
use Rattle.std.specs.Option.{option_map}
use Rattle.sc_words.specs.declared.commands.bodies.Body.{Body}
use Rattle.sc_words.specs.declared.commands.bodies.Body.TheVariants as At
use Rattle.sc_words.specs.declared.commands.commands.Command.{Command}
use Rattle.sc_words.specs.declared.commands.commands.Command.TheVariants.{Noop, Call, Join, Leave, Split, Begin, Prepared, RecordVote, GiveUp, Finish, Watched, RecordWatch}
use Rattle.sc_words.specs.declared.commands.cores.Base.{Base}
use Rattle.sc_words.specs.declared.commands.cores.Core.{Core}
use Rattle.sc_words.specs.declared.commands.cores.Lock.{Lock}
use Rattle.sc_words.specs.declared.commands.cores.Lock.TheVariants.{Free, Coordinating, Promised, Watching}
use Rattle.sc_words.specs.declared.commands.effects.Effect.{Effect}
use Rattle.sc_words.specs.commands.CommandDefinitions.{is_alone, is_changed, is_divided}
use Rattle.sc_group_table.specs.machine.MachineDefinitions.{Group, child_of}
use Rattle.sc_meaning.specs.declared.entries.Division.{Division}

-- the division that a transaction's body asks for, if the body is a split
abbrev pub division_by : Body → Option Division
division_by At.Merge = None
division_by (At.Repart at) = None
division_by (At.Migrate node) = None
division_by (At.Split at child) = Some (record { at = at; child = child })

-- the division that a group coordinates by its lock, if it coordinates a split
abbrev pub division_in : Lock → Option Division
division_in Free = None
division_in (Coordinating tx body order heard) = division_by body
division_in (Promised tx offer) = None
division_in (Watching tx watch) = None

-- the division that an entry makes of its group, by the record before the entry and the entry's effect: a Split that changes a group alone in the ring, or a recorded watcher's vote that decides a split
abbrev pub division_of : Core → Command → Effect → Option Division
division_of core (Split at child order) effect = if is_changed effect && is_alone core then Some (record { at = at; child = child }) else None
division_of core (RecordWatch tx vote by) effect = if is_divided effect then division_in core.lock else None
division_of core Noop effect = None
division_of core (Call client seq op) effect = None
division_of core (Join node order) effect = None
division_of core (Leave node order) effect = None
division_of core (Begin tx body order) effect = None
division_of core (Prepared tx offer) effect = None
division_of core (RecordVote tx vote by) effect = None
division_of core (GiveUp tx) effect = None
division_of core (Finish tx outcome) effect = None
division_of core (Watched tx watch) effect = None

-- the birth record of the group that an entry creates, if it creates one: the child of the entry's group as it was before the entry
abbrev pub birth_of : Group → Command → Effect → Option Base
birth_of group command effect = option_map (λ division. child_of group division.at division.child) (division_of group.core command effect)
