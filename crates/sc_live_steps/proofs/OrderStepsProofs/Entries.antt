-- What the entries of an order leave, by their kind.
use Rattle.std.proofs.Common.{◌≡◌, ℕ, Bool, true, false, cond, [], ◌∷◌, ◌++◌, Option, Some, None, refl, sym, ◌∙◌, ap, subst}
use Rattle.std.specs.Prelude.{is_none}
use Rattle.sc_node_table.specs.Values.{Draw, Body, Offer, Watch, Join, Leave, Split, Begin, Prepared, RecordVote, Watched, Core, Lock, Free, Coordinating, Promised, Watching, Effect, Route, OrderRefusal, Frozen, No, Outcome, Abort, TxPrepare, TxVote, TxOutcome, TxWatched}
use Rattle.sc_words.specs.commands.CommandDefinitions.{is_changed}
use Rattle.sc_words.specs.declared.commands.bodies.Body.TheVariants as At
use Rattle.sc_words.specs.declared.commands.effects.Effect.TheVariants as Was
use Rattle.sc_words.specs.declared.commands.votes.Past.TheVariants as Cast
use Rattle.sc_words.specs.declared.commands.votes.Vote.TheVariants as Says
use Rattle.sc_group_table.specs.machine.MachineDefinitions.{Group, split_group, refusal_of, ordered, with_node, without_node, frozen_of, has_named, left_group, begun_group, decided, heard_group, past_of, bound_by as lock_by, voted_on}
use Rattle.sc_base.specs.Definitions.{least_of}
use Rattle.sc_node_table.specs.NodeDefinitions.{offer_of, question, asked_first, before_of, went_on, sent}
use Rattle.sc_node_table.specs.declared.Before.{Before}
use Rattle.sc_live_steps.specs.orders.OrderDefinitions.{First, Lone, Next, Unbound, Asking, Question, Reply, Result, IsOnly, bound_by, results, bond_in, errands_for, Leaves, IsBegun, OrdersLeave, VotesLeave}
use Rattle.sc_live_steps.proofs.OrderStepsProofs.Errands.{one-errand}

-- nothing is sent
pub nothing : IsOnly [] [] (λ name. errands_for name [])
nothing = (tt, λ name none. refl)

-- ---- orders

-- a free group that stays, or goes where its lock stays, is free, and sends nothing by an order that begins nothing
free_in : (core : Core) (lock : Lock) → lock ≡ Free → bond_in lock core ≡ Unbound
free_in core lock e = ap (λ l. bond_in l core) e

module _ (P : Group × Effect → Type 0) (group after : Group) where
  ordered_either : (gone : Option Route) (why : Option OrderRefusal) → ((effect : Effect) → P (group, effect)) → P (after, Was.Changed) → P (ordered gone why after group)
  ordered_either (Some into) why g a = g _
  ordered_either None (Some why) g a = g _
  ordered_either None None g a = a

  -- a property of the group after a begin, by whether its name is used before
  changed_only : (draw : Draw) (b : Bool) (gone : Option Route) (why : Option OrderRefusal) → is_changed (cond {A = Group × Effect} b (group, Was.NoEffect draw) (ordered gone why after group)).1 ≡ true → P (after, Was.Changed)
      → P (cond b (group, Was.NoEffect draw) (ordered gone why after group))
  changed_only draw true went why e p = absurd cc
  changed_only draw false (Some into) why e p = absurd cc
  changed_only draw false None (Some why) e p = absurd cc
  changed_only draw false None None e p = p

  unchanged_only : (draw : Draw) (b : Bool) (gone : Option Route) (why : Option OrderRefusal) → is_changed (cond {A = Group × Effect} b (group, Was.NoEffect draw) (ordered gone why after group)).1 ≡ false
      → ((effect : Effect) → is_changed effect ≡ false → P (group, effect)) → P (cond b (group, Was.NoEffect draw) (ordered gone why after group))
  unchanged_only draw true went why e p = p _ refl
  unchanged_only draw false (Some into) why e p = p _ refl
  unchanged_only draw false None (Some why) e p = p _ refl
  unchanged_only draw false None None e p = absurd cc

  either_order : (draw : Draw) (b : Bool) (gone : Option Route) (why : Option OrderRefusal) → ((effect : Effect) → is_changed effect ≡ false → P (group, effect)) → P (after, Was.Changed)
      → P (cond b (group, Was.NoEffect draw) (ordered gone why after group))
  either_order draw true went why g a = g _ refl
  either_order draw false (Some into) why g a = g _ refl
  either_order draw false None (Some why) g a = g _ refl
  either_order draw false None None g a = a

module _ (me : ℕ) (before : Before) where
  join_leaves : (node order : ℕ) (made : Group × Effect) → made.0.core.lock ≡ Free → Leaves Unbound [] (Join node order) me before made
  unfolding went_on
  join_leaves node order made e = record { bond_is = free_in made.0.core made.0.core.lock e; sends = nothing }

  leave_leaves : (node order : ℕ) (made : Group × Effect) → made.0.core.lock ≡ Free → Leaves Unbound [] (Leave node order) me before made
  unfolding went_on
  leave_leaves node order made e = record { bond_is = free_in made.0.core made.0.core.lock e; sends = nothing }

  -- a split of a group whose lock is free after it asks nobody
  split_leaves : (at : ℕ) (child : Draw) (order : ℕ) (made : Group × Effect) → made.0.core.lock ≡ Free → Leaves Unbound [] (Split at child order) me before made
  unfolding went_on
  split_leaves at child order made e = record {
    bond_is = free_in made.0.core made.0.core.lock e;
    sends = subst (λ l. IsOnly [] [] (λ name. errands_for name (cond (is_changed made.1) (asked_first l me made.0.core []) []))) (sym e) (by (is_changed made.1));
  }
    where
      by : (b : Bool) → IsOnly [] [] (λ name. errands_for name (cond b [] []))
      by true = nothing
      by false = nothing

  begin_leaves : (tx : Draw) (body : Body) (order : ℕ) (group : Group) (effect : Effect) → group.core.lock ≡ Free → is_changed effect ≡ false → Leaves Unbound [] (Begin tx body order) me before (group, effect)
  unfolding went_on
  begin_leaves tx body order group effect e n = record {
    bond_is = free_in group.core group.core.lock e;
    sends = subst (λ b. IsOnly [] [] (λ name. errands_for name (cond b (sent me (least_of group.core.succ.members) (TxPrepare tx (offer_of me group.core body)) []) []))) (sym n) nothing;
  }

  split_asks : (at : ℕ) (child : Draw) (order : ℕ) (group : Group)
      → Leaves (Asking child group.core.succ.group Lone) ((group.core.succ.group, Question child group.core.id true me (least_of group.core.succ.members) ∷ []) ∷ []) (Split at child order) me before (begun_group group child (At.Split at child) order, Was.Changed)
  unfolding went_on
  split_asks at child order group = record {
    bond_is = refl;
    sends = one-errand me (least_of group.core.succ.members) (question me (begun_group group child (At.Split at child) order).core child (At.Split at child) None) group.core.succ.group (Question child group.core.id true me (least_of group.core.succ.members)) refl;
  }

  begun_bond : (tx : Draw) (body : Body) (order : ℕ) (core : Core) → IsBegun body → bond_in (Coordinating tx body order None) core ≡ Asking tx core.succ.group First
  begun_bond tx At.Merge order core b = refl
  begun_bond tx (At.Repart at) order core b = refl
  begun_bond tx (At.Migrate node) order core b = refl
  begun_bond tx (At.Split at child) order core b = absurd b

  begin_asks : (tx : Draw) (body : Body) (order : ℕ) (group : Group) → IsBegun body
      → Leaves (Asking tx group.core.succ.group First) ((group.core.succ.group, Question tx group.core.id false me (least_of group.core.succ.members) ∷ []) ∷ []) (Begin tx body order) me before (begun_group group tx body order, Was.Changed)
  unfolding went_on
  begin_asks tx body order group b = record {
    bond_is = begun_bond tx body order (begun_group group tx body order).core b;
    sends = one-errand me (least_of group.core.succ.members) (TxPrepare tx (offer_of me (begun_group group tx body order).core body)) group.core.succ.group (Question tx group.core.id false me (least_of group.core.succ.members)) refl;
  }

-- A group that is free sends no mail of a transaction by a join, a leave, a split of a group that is alone, or an order that is refused, and stays free; by another order that is begun it asks its successor, and is bound so.
pub orders-leave : OrdersLeave
orders-leave = record {
  join = λ node order me group e. ordered_either (Leaves Unbound [] (Join node order) me (before_of group.core)) group (with_node group node) group.core.gone (refusal_of group.core (Join node order))
      (λ effect. join_leaves me (before_of group.core) node order (group, effect) e) (join_leaves me (before_of group.core) node order (with_node group node, Was.Changed) e);
  leave = λ node order me group e. ordered_either (Leaves Unbound [] (Leave node order) me (before_of group.core)) group (without_node group node) group.core.gone (refusal_of group.core (Leave node order))
      (λ effect. leave_leaves me (before_of group.core) node order (group, effect) e) (leave_leaves me (before_of group.core) node order (without_node group node, Was.Changed) e);
  alone = λ at child order me group e fact. either_order (Leaves Unbound [] (Split at child order) me (before_of group.core)) group (split_group group at child order) child (has_named group.core child) group.core.gone (refusal_of group.core (Split at child order))
      (λ effect n. split_leaves me (before_of group.core) at child order (group, effect) e)
      (split_leaves me (before_of group.core) at child order (split_group group at child order, Was.Changed) (ap (λ b. (cond b (left_group group at child) (begun_group group child (At.Split at child) order)).core.lock) fact ∙ e));
  split_not = λ at child order me group e n. unchanged_only (Leaves Unbound [] (Split at child order) me (before_of group.core)) group (split_group group at child order) child (has_named group.core child) group.core.gone (refusal_of group.core (Split at child order)) n
      (λ effect m. split_leaves me (before_of group.core) at child order (group, effect) e);
  begin_not = λ tx body order me group e n. unchanged_only (Leaves Unbound [] (Begin tx body order) me (before_of group.core)) group (begun_group group tx body order) tx (has_named group.core tx) group.core.gone (refusal_of group.core (Begin tx body order)) n
      (λ effect m. begin_leaves me (before_of group.core) tx body order group effect e m);
  split = λ at child order me group fact c. changed_only (Leaves (Asking child group.core.succ.group Lone) ((group.core.succ.group, Question child group.core.id true me (least_of group.core.succ.members) ∷ []) ∷ []) (Split at child order) me (before_of group.core))
      group (split_group group at child order) child (has_named group.core child) group.core.gone (refusal_of group.core (Split at child order)) c
      (subst (λ b. Leaves (Asking child group.core.succ.group Lone) ((group.core.succ.group, Question child group.core.id true me (least_of group.core.succ.members) ∷ []) ∷ []) (Split at child order) me (before_of group.core)
      (cond b (left_group group at child) (begun_group group child (At.Split at child) order), Was.Changed)) (sym fact) (split_asks me (before_of group.core) at child order group));
  begin = λ tx body order me group b c. changed_only (Leaves (Asking tx group.core.succ.group First) ((group.core.succ.group, Question tx group.core.id false me (least_of group.core.succ.members) ∷ []) ∷ []) (Begin tx body order) me (before_of group.core))
      group (begun_group group tx body order) tx (has_named group.core tx) group.core.gone (refusal_of group.core (Begin tx body order)) c (begin_asks me (before_of group.core) tx body order group b);
}

-- ---- votes

module _ (me : ℕ) (before : Before) (group : Group) (tx : Draw) where
  abbrev voted_group : Option No → Lock → Group
  voted_group why bond = record group { core = record group.core { lock = lock_by why bond group.core.lock; voted = group.core.voted ++ (tx, past_of why) ∷ [] } }

  prepared_leaves : (offer : Offer) (why : Option No) → group.core.lock ≡ Free
      → Leaves (bound_by (is_none why) tx) ((offer.coord, Reply tx false (is_none why) me offer.by ∷ []) ∷ []) (Prepared tx offer) me before (voted_group why (Promised tx offer), Was.Voted (past_of why))
  unfolding went_on
  prepared_leaves offer None e = record { bond_is = refl; sends = one-errand me offer.by (TxVote tx offer.coord offer.part (Says.Yes (frozen_of (voted_group None (Promised tx offer))))) offer.coord (Reply tx false true me offer.by) refl }
  prepared_leaves offer (Some why) e = record {
    bond_is = free_in (voted_group (Some why) (Promised tx offer)).core group.core.lock e;
    sends = one-errand me offer.by (TxVote tx offer.coord offer.part (Says.No why)) offer.coord (Reply tx false false me offer.by) refl;
  }

  watched_leaves : (watch : Watch) → Leaves (bound_by true tx) ((watch.coord, Reply tx true true me watch.by ∷ []) ∷ []) (Watched tx watch) me before (voted_group None (Watching tx watch), Was.Voted Cast.Yes)
  unfolding went_on
  watched_leaves watch = record { bond_is = refl; sends = one-errand me watch.by (TxWatched tx watch.coord watch.part Cast.Yes) watch.coord (Reply tx true true me watch.by) refl }

-- A group that has not voted yet votes: it sends its vote to the node that asked, and is bound by a Yes alone.
pub votes-leave : VotesLeave
votes-leave = record {
  prepared = λ tx offer why me group e none fact. subst (λ w. Leaves (bound_by (is_none why) tx) ((offer.coord, Reply tx false (is_none why) me offer.by ∷ []) ∷ []) (Prepared tx offer) me (before_of group.core) (voted_on w (Promised tx offer) group tx)) (sym fact)
      (subst (λ b. Leaves (bound_by (is_none why) tx) ((offer.coord, Reply tx false (is_none why) me offer.by ∷ []) ∷ []) (Prepared tx offer) me (before_of group.core)
      (cond b (group, Was.NoEffect tx) (voted_group me (before_of group.core) group tx why (Promised tx offer), Was.Voted (past_of why)))) (sym none) (prepared_leaves me (before_of group.core) group tx offer why e));
  watched = λ tx watch me group none fact. subst (λ w. Leaves (bound_by true tx) ((watch.coord, Reply tx true true me watch.by ∷ []) ∷ []) (Watched tx watch) me (before_of group.core) (voted_on w (Watching tx watch) group tx)) (sym fact)
      (subst (λ b. Leaves (bound_by true tx) ((watch.coord, Reply tx true true me watch.by ∷ []) ∷ []) (Watched tx watch) me (before_of group.core)
      (cond b (group, Was.NoEffect tx) (voted_group me (before_of group.core) group tx None (Watching tx watch), Was.Voted Cast.Yes))) (sym none) (watched_leaves me (before_of group.core) group tx watch));
}

-- ---- what a coordinator records

module _ (me : ℕ) (before : Before) (tx : Draw) (by : ℕ) where
  -- a decision is sent to the party that brought the vote
  pub decided_leaves : (frozen : Frozen) (asked : Draw) (made : Group) (outcome : Outcome) → before.succ.group ≡ asked → Leaves Unbound (results tx asked First by) (RecordVote tx (Says.Yes frozen) by) me before (decided made tx outcome)
  unfolding went_on
  decided_leaves frozen asked made outcome e = record {
    bond_is = refl;
    sends = one-errand me by (TxOutcome tx before.succ.group outcome) asked (Result tx by) (ap (λ x. Some (x, Result tx by)) e);
  }

  pub aborted_leaves : (why : No) (group : Group) → Leaves Unbound [] (RecordVote tx (Says.No why) by) me before (decided group tx Abort)
  unfolding went_on
  aborted_leaves why group = record { bond_is = refl; sends = nothing }

  pub heard_leaves : (frozen : Frozen) (asked : Draw) (order : ℕ) (group : Group) → group.core.succ.group ≡ asked
      → Leaves (Asking tx frozen.succ.group (Next asked by)) ((frozen.succ.group, Question tx group.core.id true me (least_of frozen.succ.members) ∷ []) ∷ []) (RecordVote tx (Says.Yes frozen) by) me before
      (heard_group group tx At.Merge order (record { frozen = frozen; by = by }), Was.Changed)
  unfolding went_on
  heard_leaves frozen asked order group e = record {
    bond_is = ap (λ x. Asking tx frozen.succ.group (Next x by)) e;
    sends = one-errand me (least_of frozen.succ.members) (question me (heard_group group tx At.Merge order (record { frozen = frozen; by = by })).core tx At.Merge (Some (record { frozen = frozen; by = by })))
        frozen.succ.group (Question tx group.core.id true me (least_of frozen.succ.members)) refl;
  }
