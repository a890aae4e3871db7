-- What an invariant of the group machine's table needs: a case for each way in which a command may change a group, with what is known there, and one for all commands that change nothing.
use Rattle.std.proofs.Common.{◌≡◌, ℕ, ◌&&◌, not, nat_le, true, false, [], ◌∷◌, ◌++◌, length, Option, Some, None, ◌⊎◌}
use Rattle.sc_base.specs.Definitions.{same_draw, holds, united}
use Rattle.sc_node_table.specs.Values.{Core, Draw, Op, Body, Offer, Watch, Command, Call, Join, Leave, Split, Begin, Prepared, RecordVote, GiveUp, Finish, Watched, RecordWatch, Lock, Coordinating, Promised, Watching, Effect, Route, Frozen, Gift, Heard, No, Outcome}
use Rattle.sc_words.specs.commands.CommandDefinitions.{is_alone}
use Rattle.sc_words.specs.declared.commands.bodies.Body.TheVariants as By
use Rattle.sc_words.specs.declared.commands.effects.Effect.TheVariants as Was
use Rattle.sc_words.specs.declared.commands.orders.OrderRefusal.TheVariants.{NotLeader}
use Rattle.sc_words.specs.declared.commands.votes.Outcome.TheVariants as Is
use Rattle.sc_words.specs.declared.commands.votes.Past.TheVariants as Cast
use Rattle.sc_words.specs.declared.commands.votes.Vote.TheVariants as Vows
use Rattle.sc_group_table.specs.machine.MachineDefinitions.{Group, done, locked_in, refusal_of, with_node, without_node, has_named, left_group, begun_group, decided, heard_group, has_voted, vote_of, watch_vote_of, past_of, bound_by, can_split, may_merge, merged_group, merged_route, closing_group, can_repart, giving_group, part_gift, taking_group, taken, has_key_of, can_migrate, migrated_group, can_gain, can_cut, gone_group, gained_group, lost_group, welcomed_group, watcher_after, party_freed}

-- a command that names a transaction or, as a split, its child
abbrev pub Names : Draw → Command → Type 0
Names tx (Split at child order) = child ≡ tx
Names tx (Begin t body order) = t ≡ tx
Names tx (Prepared t offer) = t ≡ tx
Names tx (RecordVote t vote by) = t ≡ tx
Names tx (GiveUp t) = t ≡ tx
Names tx (Finish t outcome) = t ≡ tx
Names tx (Watched t watch) = t ≡ tx
Names tx (RecordWatch t vote by) = t ≡ tx
Names tx _ = ⊥

-- a command that may decide a transaction
abbrev pub EndsIt : Draw → Command → Type 0
EndsIt tx (RecordVote t vote by) = t ≡ tx
EndsIt tx (RecordWatch t vote by) = t ≡ tx
EndsIt tx (GiveUp t) = t ≡ tx
EndsIt tx _ = ⊥

-- an effect with which a command changes nothing, and where what it says comes from
abbrev pub ChangesNothing : Group → Command → Effect → Type 0
ChangesNothing group c (Was.Again reply) = Unit {0}
ChangesNothing group c (Was.Stale last) = Unit {0}
ChangesNothing group c (Was.NotMine arc succ) = (group.core.arc ≡ arc) × (group.core.succ ≡ succ)
ChangesNothing group c (Was.Gone into) = group.core.gone ≡ Some into
ChangesNothing group c (Was.NoEffect tx) = (locked_in group.core.lock ≡ Some tx) ⊎ Names tx c
ChangesNothing group c Was.Idle = Unit {0}
ChangesNothing group c (Was.Refused why) = (why ≡ NotLeader None) ⊎ (refusal_of group.core c ≡ Some why)
ChangesNothing group c (Was.Done reply) = ⊥
ChangesNothing group c Was.Changed = ⊥
ChangesNothing group c (Was.Voted vote) = ⊥
ChangesNothing group c (Was.Decided outcome) = ⊥

-- a group that has voted on a transaction
abbrev pub voting_group : Group → Draw → Option No → Lock → Group
voting_group group tx why bond = record group { core = record group.core { lock = bound_by why bond group.core.lock; voted = group.core.voted ++ (tx, past_of why) ∷ [] } }

-- an order that is accepted
pub record IsAccepted (group : Group) (c : Command) : Type 0 where
  pub stands : group.core.gone ≡ None
  pub taken : refusal_of group.core c ≡ None

-- what holds where a group votes, for the first time, on what it is offered or on being a watcher
abbrev pub VotesOn : {X : Type 0} → (group : Group) → (Draw → X → Command) → (Core → X → Option No) → (Draw → X → Lock) → (Command → Group × Effect → Type 0) → Type 0
VotesOn {X} group command why bond P = (tx : Draw) (asked : X) → has_voted group.core tx ≡ false → P (command tx asked) (voting_group group tx (why group.core asked) (bond tx asked), Was.Voted (past_of (why group.core asked)))

-- what holds of all that may come of a command
pub record MachineWalk (group : Group) (P : Command → Group × Effect → Type 0) : Type 0 where
  pub same : (c : Command) (effect : Effect) → ChangesNothing group c effect → P c (group, effect)
  pub serves : (client seq : ℕ) (op : Op) → P (Call client seq op) (done group client seq op)
  -- orders
  pub joins : (node order : ℕ) → IsAccepted group (Join node order) → P (Join node order) (with_node group node, Was.Changed)
  pub leaves : (node order : ℕ) → IsAccepted group (Leave node order) → P (Leave node order) (without_node group node, Was.Changed)
  pub splits : (at : ℕ) (child : Draw) (order : ℕ) → IsAccepted group (Split at child order) → has_named group.core child ≡ false → is_alone group.core ≡ true → P (Split at child order) (left_group group at child, Was.Changed)
  pub begins_split : (at : ℕ) (child : Draw) (order : ℕ) → IsAccepted group (Split at child order) → has_named group.core child ≡ false → is_alone group.core ≡ false → P (Split at child order) (begun_group group child (By.Split at child) order, Was.Changed)
  pub begins : (tx : Draw) (body : Body) (order : ℕ) → IsAccepted group (Begin tx body order) → has_named group.core tx ≡ false → P (Begin tx body order) (begun_group group tx body order, Was.Changed)
  -- votes of the group
  pub offers : VotesOn group Prepared vote_of Promised P
  pub watches : VotesOn group Watched watch_vote_of Watching P
  -- a coordinator: it hears the participant of a merge, aborts, or carries out a plan
  pub hears : (tx : Draw) (order : ℕ) → group.core.lock ≡ Coordinating tx By.Merge order None → (frozen : Frozen) (by : ℕ) → same_draw frozen.succ.group group.core.id ≡ false
      → P (RecordVote tx (Vows.Yes frozen) by) (heard_group group tx By.Merge order (record { frozen = frozen; by = by }), Was.Changed)
  pub aborts : (c : Command) (tx : Draw) → EndsIt tx c → (body : Body) (order : ℕ) (got : Option Heard) → group.core.lock ≡ Coordinating tx body order got → P c (decided group tx Is.Abort)
  pub divides : (tx : Draw) (at : ℕ) (child : Draw) (order : ℕ) (got : Option Heard) → group.core.lock ≡ Coordinating tx (By.Split at child) order got → (by : ℕ) → can_split group.core at ≡ true
      → P (RecordWatch tx Cast.Yes by) (decided (left_group group at child) tx Is.Divided)
  pub merges : (tx : Draw) (order : ℕ) (heard : Heard) → group.core.lock ≡ Coordinating tx By.Merge order (Some heard) → (by : ℕ) → may_merge group heard.frozen ≡ true
      → P (RecordWatch tx Cast.Yes by) (decided (merged_group group heard.frozen) tx (Is.Merged (merged_route group.core heard.frozen)))
  pub closes : (tx : Draw) (order : ℕ) → group.core.lock ≡ Coordinating tx By.Merge order None → (frozen : Frozen) (by : ℕ) → same_draw frozen.succ.group group.core.id ≡ true → may_merge group frozen ≡ true
      → P (RecordVote tx (Vows.Yes frozen) by) (decided (closing_group group frozen) tx (Is.Merged (merged_route group.core frozen)))
  pub gives : (tx : Draw) (at order : ℕ) → group.core.lock ≡ Coordinating tx (By.Repart at) order None → (frozen : Frozen) (by : ℕ) → holds group.core.arc at ≡ true → can_repart group.core at frozen ≡ true
      → P (RecordVote tx (Vows.Yes frozen) by) (decided (giving_group group at frozen) tx (Is.Moved at (Some (part_gift group at))))
  pub takes : (tx : Draw) (at order : ℕ) → group.core.lock ≡ Coordinating tx (By.Repart at) order None → (frozen : Frozen) (by : ℕ) → holds group.core.arc at ≡ false
      → (can_repart group.core at frozen && not (has_key_of group.pairs (taken at frozen).pairs)) ≡ true → P (RecordVote tx (Vows.Yes frozen) by) (decided (taking_group group at frozen) tx (Is.Moved at None))
  pub migrates : (tx : Draw) (node order : ℕ) → group.core.lock ≡ Coordinating tx (By.Migrate node) order None → (frozen : Frozen) (by : ℕ) → can_migrate group.core node frozen ≡ true
      → P (RecordVote tx (Vows.Yes frozen) by) (decided (migrated_group group node frozen) tx (Is.Migrated node))
  -- a participant learns the outcome, or a watcher
  pub stays : (tx : Draw) (offer : Offer) → group.core.lock ≡ Promised tx offer → P (Finish tx Is.Abort) (party_freed group tx, Was.Decided Is.Abort)
  pub goes : (tx : Draw) (offer : Offer) → group.core.lock ≡ Promised tx offer → (into : Route) → P (Finish tx (Is.Merged into)) (party_freed (gone_group group into) tx, Was.Decided (Is.Merged into))
  pub gains : (tx : Draw) (offer : Offer) → group.core.lock ≡ Promised tx offer → (at : ℕ) (gift : Gift) → (can_gain group.core offer at && not (has_key_of group.pairs gift.pairs)) ≡ true
      → P (Finish tx (Is.Moved at (Some gift))) (party_freed (gained_group group offer at gift) tx, Was.Decided (Is.Moved at (Some gift)))
  pub loses : (tx : Draw) (offer : Offer) → group.core.lock ≡ Promised tx offer → (at : ℕ) → can_cut group.core.arc at ≡ true → P (Finish tx (Is.Moved at None)) (party_freed (lost_group group at) tx, Was.Decided (Is.Moved at None))
  pub welcomes : (tx : Draw) (offer : Offer) → group.core.lock ≡ Promised tx offer → (node : ℕ) → nat_le (length (united group.core.members (node ∷ []))) 9 ≡ true
      → P (Finish tx (Is.Migrated node)) (party_freed (welcomed_group group node) tx, Was.Decided (Is.Migrated node))
  pub sees_end : (tx : Draw) (watch : Watch) → group.core.lock ≡ Watching tx watch → (outcome : Outcome) → P (Finish tx outcome) (party_freed (watcher_after outcome group watch) tx, Was.Decided outcome)
