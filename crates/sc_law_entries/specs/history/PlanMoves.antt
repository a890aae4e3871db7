-- How the plans of the group machine move what groups hold: each is a move of two holdings.
use Rattle.std.specs.Prelude.{◌≡◌, ℕ, true, false}
use Rattle.sc_base.specs.Definitions.{holds}
use Rattle.sc_base.specs.declared.names.Draw.{Draw}
use Rattle.sc_base.specs.declared.ops.Op.{Op}
use Rattle.sc_words.specs.declared.commands.bodies.Offer.{Offer}
use Rattle.sc_words.specs.declared.commands.bodies.Watch.{Watch}
use Rattle.sc_words.specs.declared.commands.votes.Frozen.{Frozen}
use Rattle.sc_words.specs.declared.commands.votes.Outcome.{Outcome}
use Rattle.sc_group_table.specs.machine.MachineDefinitions.{gained_group, lost_group, party_freed, watcher_after, welcomed_group, Group, group_of, done, with_node, without_node, closing_group, frozen_of, giving_group, merged_group, migrated_group, part_gift, taking_group, child_of, left_group, decided_group}
use Rattle.sc_law_entries.specs.history.Moves.{holding_of, part_before, part_from, with_next, with_previous, with_request}

-- a split: the group keeps the part before the boundary, and its child gets the rest
pub record DividesHolding (group : Group) (at : ℕ) (child : Draw) : Type 0 where
  pub own : holding_of (left_group group at child) ≡ part_before at (holding_of group)
  pub rest : holding_of (group_of (child_of group at child)) ≡ part_from at (holding_of group)

-- a merge, of the whole ring or not: the coordinator gets both holdings
pub record JoinsHoldings (group next : Group) : Type 0 where
  pub merged : holding_of (merged_group group (frozen_of next)) ≡ with_next (holding_of group) (holding_of next)
  pub closing : holding_of (closing_group group (frozen_of next)) ≡ with_next (holding_of group) (holding_of next)

-- a boundary that moves into the coordinator's arc, which is the arc that was offered: the participant gets the part from the boundary on
pub record GivesHolding (group next : Group) (offer : Offer) (at : ℕ) : Type 0 where
  pub own : holding_of (giving_group group at (frozen_of next)) ≡ part_before at (holding_of group)
  pub gained : holding_of (gained_group next offer at (part_gift group at)) ≡ with_previous (holding_of next) (part_from at (holding_of group))

-- a boundary that moves into the participant's arc: the coordinator gets the part before the boundary
pub record TakesHolding (group next : Group) (at : ℕ) : Type 0 where
  pub own : holding_of (taking_group group at (frozen_of next)) ≡ with_next (holding_of group) (part_before at (holding_of next))
  pub lost : holding_of (lost_group next at) ≡ part_from at (holding_of next)

-- what leaves a holding as it was: a member that joins, leaves or is handed over, another neighbour, a released lock, and what is remembered of transactions
pub record KeepsHolding (group : Group) : Type 0 where
  pub joined : (node : ℕ) → holding_of (with_node group node) ≡ holding_of group
  pub left : (node : ℕ) → holding_of (without_node group node) ≡ holding_of group
  pub migrated : (node : ℕ) (frozen : Frozen) → holding_of (migrated_group group node frozen) ≡ holding_of group
  pub welcomed : (node : ℕ) → holding_of (welcomed_group group node) ≡ holding_of group
  pub watched : (outcome : Outcome) (watch : Watch) → holding_of (watcher_after outcome group watch) ≡ holding_of group
  pub decided : (tx : Draw) (outcome : Outcome) → holding_of (decided_group group tx outcome) ≡ holding_of group
  pub freed : (tx : Draw) → holding_of (party_freed group tx) ≡ holding_of group

-- each plan of the machine is a move of what its groups hold
pub record PlansAreMoves : Type 0 where
  pub served : (group : Group) (client seq : ℕ) (op : Op) → holding_of (done group client seq op).0 ≡ with_request client seq op (holding_of group)
  pub divides : (group : Group) (at : ℕ) (child : Draw) → DividesHolding group at child
  pub joins : (group next : Group) → JoinsHoldings group next
  pub gives : (group next : Group) (offer : Offer) (at : ℕ) → offer.arc ≡ group.core.arc → holds group.core.arc at ≡ true → GivesHolding group next offer at
  pub takes : (group next : Group) (at : ℕ) → holds group.core.arc at ≡ false → TakesHolding group next at
  pub keeps : (group : Group) → KeepsHolding group
