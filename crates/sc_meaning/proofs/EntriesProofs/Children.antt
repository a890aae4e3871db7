-- The child that the machine's table makes for a command is the group that its entry creates.
use Rattle.std.proofs.Common.{◌≡◌, ℕ, Bool, true, false, ◌&&◌, if◌then◌else◌, Option, Some, None, refl}
use Rattle.std.specs.Option.{option_map}
use Rattle.sc_base.specs.Definitions.{same_draw}
use Rattle.sc_base.specs.declared.names.Draw.{Draw}
use Rattle.sc_words.specs.declared.commands.bodies.Body.{Body}
use Rattle.sc_words.specs.declared.commands.bodies.Body.TheVariants as At
use Rattle.sc_words.specs.declared.commands.commands.Command.TheVariants.{Noop, Call, Join, Leave, Split, Begin, Prepared, RecordVote, GiveUp, Finish, Watched, RecordWatch}
use Rattle.sc_words.specs.declared.commands.cores.Base.{Base}
use Rattle.sc_words.specs.declared.commands.cores.Lock.{Lock}
use Rattle.sc_words.specs.declared.commands.cores.Lock.TheVariants.{Free, Coordinating, Promised, Watching}
use Rattle.sc_words.specs.declared.commands.effects.Effect.{Effect}
use Rattle.sc_words.specs.declared.commands.effects.Effect.TheVariants.{NoEffect}
use Rattle.sc_words.specs.declared.commands.links.Route.{Route}
use Rattle.sc_words.specs.declared.commands.orders.OrderRefusal.{OrderRefusal}
use Rattle.sc_words.specs.declared.commands.votes.Heard.{Heard}
use Rattle.sc_words.specs.declared.commands.votes.Outcome.TheVariants.{Merged, Divided}
use Rattle.sc_words.specs.declared.commands.votes.Past.{Past}
use Rattle.sc_words.specs.declared.commands.votes.Past.TheVariants as Cast
use Rattle.sc_words.specs.commands.CommandDefinitions.{is_changed, is_divided, is_alone}
use Rattle.sc_group_table.specs.machine.MachineDefinitions.{ordered_child, released_child, answered_child, watched_child, Group, split_group, refusal_of, ordered, can_split, may_merge, merged_group, merged_route, child_of, has_named, left_group, asks_watcher, committed, released, watch_answered, watch_recorded}
use Rattle.sc_meaning.specs.declared.entries.Division.{Division}
use Rattle.sc_meaning.specs.entries.EntryDefinitions.{division_in, division_by, BirthsAreChildren}

-- the child of a division
abbrev child_at : Group → Option Division → Option Base
child_at group = option_map (λ division. child_of group division.at division.child)

-- ---- a split at once

abbrev split_birth : Group → ℕ → Draw → Effect → Option Base
split_birth group at child effect = child_at group (if is_changed effect && is_alone group.core then Some (record { at = at; child = child }) else None)

by_alone : (alone : Bool) (group : Group) (at : ℕ) (child : Draw)
    → (if alone then Some (child_of group at child) else None) ≡ child_at group (if alone then Some (record { at = at; child = child }) else None)
by_alone true group at child = refl
by_alone false group at child = refl

by_refusal : (went : Option Route) (why : Option OrderRefusal) (group after : Group) (at : ℕ) (child : Draw)
    → ordered_child went why group at child ≡ split_birth group at child (ordered went why after group).1
by_refusal (Some into) why group after at child = refl
by_refusal None (Some why) group after at child = refl
by_refusal None None group after at child = by_alone (is_alone group.core) group at child

by_name : (named : Bool) (went : Option Route) (why : Option OrderRefusal) (group after : Group) (at : ℕ) (child : Draw)
    → (if named then None else ordered_child went why group at child) ≡ split_birth group at child (if named then (group, NoEffect child) else ordered went why after group).1
by_name true went why group after at child = refl
by_name false went why group after at child = by_refusal went why group after at child

-- ---- a split that its watcher lets go

abbrev watched_birth : Group → Option Division → Effect → Option Base
watched_birth group division effect = child_at group (if is_divided effect then division else None)

by_cut : (can : Bool) (group : Group) (at : ℕ) (child tx : Draw)
    → (if can then Some (child_of group at child) else None)
    ≡ watched_birth group (Some (record { at = at; child = child })) (committed (if can then Some (left_group group at child, Divided) else None) group tx).1
by_cut true group at child tx = refl
by_cut false group at child tx = refl

by_merge : (may : Bool) (after group : Group) (into : Route) (tx : Draw)
    → (let none : Option Base = None in none) ≡ watched_birth group None (committed (if may then Some (after, Merged into) else None) group tx).1
by_merge true after group into tx = refl
by_merge false after group into tx = refl

by_release : (body : Body) (heard : Option Heard) (group : Group) (tx : Draw)
    → released_child body group ≡ watched_birth group (division_by body) (released body heard group tx).1
by_release At.Merge None group tx = refl
by_release At.Merge (Some heard) group tx = by_merge (may_merge group heard.frozen) (merged_group group heard.frozen) group (merged_route group.core heard.frozen) tx
by_release (At.Repart at) heard group tx = refl
by_release (At.Migrate node) heard group tx = refl
by_release (At.Split at child) heard group tx = by_cut (can_split group.core at) group at child tx

by_vote : (vote : Past) (body : Body) (heard : Option Heard) (group : Group) (tx : Draw)
    → answered_child vote body group ≡ watched_birth group (division_by body) (watch_answered vote body heard group tx).1
by_vote Cast.Yes body heard group tx = by_release body heard group tx
by_vote (Cast.No why) body heard group tx = refl
by_vote Cast.Ended body heard group tx = refl

-- a body that is no split makes no child, whatever the vote
no_merge_child : (vote : Past) (group : Group) → (let none : Option Base = None in answered_child vote At.Merge group ≡ none)
no_merge_child Cast.Yes group = refl
no_merge_child (Cast.No why) group = refl
no_merge_child Cast.Ended group = refl

no_repart_child : (vote : Past) (at : ℕ) (group : Group) → (let none : Option Base = None in answered_child vote (At.Repart at) group ≡ none)
no_repart_child Cast.Yes at group = refl
no_repart_child (Cast.No why) at group = refl
no_repart_child Cast.Ended at group = refl

no_migrate_child : (vote : Past) (node : ℕ) (group : Group) → (let none : Option Base = None in answered_child vote (At.Migrate node) group ≡ none)
no_migrate_child Cast.Yes node group = refl
no_migrate_child (Cast.No why) node group = refl
no_migrate_child Cast.Ended node group = refl

by_asked : (vote : Past) (body : Body) (heard : Option Heard) (group : Group) (tx : Draw)
    → answered_child vote body group
    ≡ watched_birth group (division_by body) (if asks_watcher body heard then watch_answered vote body heard group tx else (group, NoEffect tx)).1
by_asked vote At.Merge None group tx = no_merge_child vote group
by_asked vote At.Merge (Some heard) group tx = by_vote vote At.Merge (Some heard) group tx
by_asked vote (At.Repart at) None group tx = no_repart_child vote at group
by_asked vote (At.Repart at) (Some heard) group tx = by_vote vote (At.Repart at) (Some heard) group tx
by_asked vote (At.Migrate node) None group tx = no_migrate_child vote node group
by_asked vote (At.Migrate node) (Some heard) group tx = by_vote vote (At.Migrate node) (Some heard) group tx
by_asked vote (At.Split at child) heard group tx = by_vote vote (At.Split at child) heard group tx

by_same : (same : Bool) (vote : Past) (body : Body) (heard : Option Heard) (group : Group) (tx : Draw)
    → (if same then answered_child vote body group else None)
    ≡ watched_birth group (division_by body) (if same then if asks_watcher body heard then watch_answered vote body heard group tx else (group, NoEffect tx) else (group, NoEffect tx)).1
by_same true vote body heard group tx = by_asked vote body heard group tx
by_same false vote body heard group tx = refl

by_lock : (lock : Lock) (group : Group) (tx : Draw) (vote : Past)
    → watched_child lock group tx vote ≡ watched_birth group (division_in lock) (watch_recorded lock group tx vote).1
by_lock Free group tx vote = refl
by_lock (Promised locked offer) group tx vote = refl
by_lock (Watching locked watch) group tx vote = refl
by_lock (Coordinating locked body order heard) group tx vote = by_same (same_draw locked tx) vote body heard group tx

-- each command
pub births_are_children : BirthsAreChildren
births_are_children group (Split at child order) =
    by_name (has_named group.core child) group.core.gone (refusal_of group.core (Split at child order)) group (split_group group at child order) at child
births_are_children group (RecordWatch tx vote by) = by_lock group.core.lock group tx vote
births_are_children group Noop = refl
births_are_children group (Call client seq op) = refl
births_are_children group (Join node order) = refl
births_are_children group (Leave node order) = refl
births_are_children group (Begin tx body order) = refl
births_are_children group (Prepared tx offer) = refl
births_are_children group (RecordVote tx vote by) = refl
births_are_children group (GiveUp tx) = refl
births_are_children group (Finish tx outcome) = refl
births_are_children group (Watched tx watch) = refl
