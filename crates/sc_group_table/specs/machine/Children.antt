-- The new group, the child, that an entry makes: a Split makes one where the group is its own successor and the order is accepted, and a recorded watch vote does where it carries a split out. Every other entry makes none.
use Rattle.std.specs.Prelude.{ℕ, if◌then◌else◌, Option, Some, None}
use Rattle.sc_base.specs.Definitions.{same_draw}
use Rattle.sc_base.specs.declared.names.Draw.{Draw}
use Rattle.sc_words.specs.declared.commands.bodies.Body.{Body}
use Rattle.sc_words.specs.declared.commands.bodies.Body.TheVariants as By
use Rattle.sc_words.specs.declared.commands.commands.Command.{Command}
use Rattle.sc_words.specs.declared.commands.commands.Command.TheVariants.{Noop, Call, Join, Leave, Split, Begin, Prepared, RecordVote, GiveUp, Finish, Watched, RecordWatch}
use Rattle.sc_words.specs.declared.commands.cores.Base.{Base}
use Rattle.sc_words.specs.declared.commands.cores.Lock.{Lock}
use Rattle.sc_words.specs.declared.commands.cores.Lock.TheVariants.{Free, Coordinating, Promised, Watching}
use Rattle.sc_words.specs.declared.commands.links.Route.{Route}
use Rattle.sc_words.specs.declared.commands.orders.OrderRefusal.{OrderRefusal}
use Rattle.sc_words.specs.declared.commands.votes.Past.{Past}
use Rattle.sc_words.specs.declared.commands.votes.Past.TheVariants as Cast
use Rattle.sc_words.specs.commands.CommandDefinitions.{is_alone}
use Rattle.sc_group_table.specs.machine.Group.{Group}
use Rattle.sc_group_table.specs.machine.Orders.{refusal_of}
use Rattle.sc_group_table.specs.machine.Plans.{can_split}
use Rattle.sc_group_table.specs.machine.Splits.{has_named, child_of}

-- the child of an accepted Split, where the group is not gone and is its own successor; a group with another successor only locks, and has no child yet
abbrev pub ordered_child : Option Route → Option OrderRefusal → Group → ℕ → Draw → Option Base
ordered_child (Some into) why group at child = None
ordered_child None (Some why) group at child = None
ordered_child None None group at child = if is_alone group.core then Some (child_of group at child) else None

-- the child of a Split, unless its name is in use already
abbrev pub split_child : Option OrderRefusal → Group → ℕ → Draw → Option Base
split_child why group at child = if has_named group.core child then None else ordered_child group.core.gone why group at child

-- the child of a split that is carried out, where the group can be split
abbrev pub released_child : Body → Group → Option Base
released_child By.Merge group = None
released_child (By.Repart at) group = None
released_child (By.Migrate node) group = None
released_child (By.Split at child) group = if can_split group.core at then Some (child_of group at child) else None

-- the child that a watcher's vote makes: only a Yes carries a split out
abbrev pub answered_child : Past → Body → Group → Option Base
answered_child Cast.Yes body group = released_child body group
answered_child (Cast.No why) body group = None
answered_child Cast.Ended body group = None

-- the child that a watcher's vote makes, by the group's lock: only the coordinator of this transaction has one
abbrev pub watched_child : Lock → Group → Draw → Past → Option Base
watched_child Free group tx vote = None
watched_child (Promised locked offer) group tx vote = None
watched_child (Watching locked watch) group tx vote = None
watched_child (Coordinating locked body order heard) group tx vote = if same_draw locked tx then answered_child vote body group else None

-- the first state of the child that a command makes of this group, if it makes one
abbrev pub child_by : Group → Command → Option Base
child_by group (Split at child order) = split_child (refusal_of group.core (Split at child order)) group at child
child_by group (RecordWatch tx vote by) = watched_child group.core.lock group tx vote
child_by group Noop = None
child_by group (Call client seq op) = None
child_by group (Join node order) = None
child_by group (Leave node order) = None
child_by group (Begin tx body order) = None
child_by group (Prepared tx offer) = None
child_by group (RecordVote tx vote by) = None
child_by group (GiveUp tx) = None
child_by group (Finish tx outcome) = None
child_by group (Watched tx watch) = None
