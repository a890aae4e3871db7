-- A split at nodes that are no members of the child, computed: of three members two stay, and the child has the third. Scenario and report are stored as `split_of_three`.
use Rattle.std.proofs.Common.{◌≡◌, ℕ, List, [], ◌∷◌, map, Some, refl}
use Rattle.std.specs.Option.{option_map}
use Rattle.sc_base.specs.declared.names.Draw.{Draw}
use Rattle.sc_words.specs.declared.commands.commands.Command.{Command}
use Rattle.sc_words.specs.declared.commands.commands.Command.TheVariants.{Split}
use Rattle.sc_words.specs.declared.commands.cores.Base.{Base}
use Rattle.sc_group_table.specs.machine.Children.{child_by}
use Rattle.sc_group_table.specs.machine.Group.{group_of}
use Rattle.sc_node_table.specs.Execute.{next_child}
use Rattle.sc_node_table.specs.Replica.{born_replica}
use Rattle.sc_scenario.specs.scenario.Groups.{lone_group}

-- the group on the whole circle
abbrev three : Base
three = lone_group 0 (1 ∷ 2 ∷ 3 ∷ [])

-- the child's name
abbrev child : Draw
child = record { node = 1; count = 1 }

-- in the middle of the circle
abbrev split_it : Command
split_it = Split 2147483648 child 1

-- the members of the records that a node keeps a replica of
members_at : ℕ → List (List ℕ)
members_at me = map (λ (base : Base). base.core.members) (next_child split_it (born_replica 4 me three))

-- the entry makes a child, of the third member
has_child : option_map (λ (base : Base). base.core.members) (child_by (group_of three) split_it) ≡ Some (3 ∷ [])
has_child = refl

-- nodes 1 and 2 keep no replica of it
none_at_first : members_at 1 ≡ []
unfolding members_at
none_at_first = refl

none_at_second : members_at 2 ≡ []
unfolding members_at
none_at_second = refl

-- node 3 does
one_at_third : members_at 3 ≡ (3 ∷ []) ∷ []
unfolding members_at
one_at_third = refl
