-- What a policy orders is an order to its replica's group, at a position of the ring.
use Rattle.std.proofs.Common.{◌≡◌, ℕ, ◌+◌, ◌/◌, ◌<◌, ◌^◌, ◌&&◌, ◌||◌, not, nat_le, Bool, cond, List, [], ◌∷◌, ◌++◌, length, Option, Some, None, refl, sym, subst, arith}
use Rattle.std.specs.Prelude.{is_some, slice_index}
use Rattle.std.specs.FinMap.{entries}
use Rattle.std.specs.Option.{option_map}
use Rattle.std.proofs.lemmas.Bool.{cond_both}
use Rattle.std.proofs.lemmas.Nat.{mod_below}
use Rattle.sc_node_table.specs.Values.{Draw, GiveUp, Core, Lock, Free, Coordinating, Promised, Watching, OrderLine}
use Rattle.sc_group_table.specs.machine.MachineDefinitions.{Group}
use Rattle.sc_base.specs.Definitions.{is_member}
use Rattle.sc_group_table.specs.declared.policy.bodies.Body0.{Body0}
use Rattle.sc_group_table.specs.declared.policy.bodies.Body0.TheVariants.{Split, Merge, Repart}
use Rattle.sc_group_table.specs.policy.PolicyDefinitions.{has_neighbour, is_small, middle_of, positions_from, middle_key, wants_split, wants_repart, wished, wished_of_two, order_of, wished_order}
use Rattle.sc_node_table.specs.NodeDefinitions.{has_act, with_act, group_of_order, is_at_rest, policy_line, wished_line, patience, one_tick_more, waited_in, ReplicaState, name_of, members, settled}
use Rattle.sc_law_entries.specs.names.NameDefinitions.{IsAtPosition, WishesAreAtPositions, waited, wished_at}

-- ---- waiting leaves the group

pub waited_group : (lock : Lock) (r : ReplicaState) → (waited_in lock r).group ≡ r.group
waited_group Free r = refl
waited_group (Promised tx offer) r = refl
waited_group (Watching tx watch) r = refl
waited_group (Coordinating tx body order heard) r =
    let more : ReplicaState = record r { waits = one_tick_more r.waits } in
    cond_both (nat_le patience more.waits) (with_act (GiveUp tx) more) more (λ (x : ReplicaState). x.group ≡ r.group)
    (λ _. cond_both (has_act (GiveUp tx) more) more (record more { acts = more.acts ++ GiveUp tx ∷ [] }) (λ (x : ReplicaState). x.group ≡ r.group) (λ _. refl) (λ _. refl)) (λ _. refl)

-- ---- whatever holds of what is wished

module _ (P : Draw → OrderLine → Type 0) (core : Core) (pairs : List (List ℕ × List ℕ)) (each : (body : Body0) → wished core pairs ≡ Some body → P core.id (policy_line (order_of core.id body))) where
  of_body : (o : Option Body0) → wished core pairs ≡ o → (line : OrderLine) → option_map policy_line (option_map (order_of core.id) o) ≡ Some line → P core.id line
  of_body None e line fact = cc
  of_body (Some body) e line fact = (let same : policy_line (order_of core.id body) ≡ line = cc in subst (P core.id) same (each body e))

  of_line : (rests : Bool) (line : OrderLine) → cond rests (option_map policy_line (wished_order core pairs)) None ≡ Some line → P core.id line
  of_line rests line =
      cond_both rests (option_map policy_line (wished_order core pairs)) None (λ (o : Option OrderLine). o ≡ Some line → P core.id line) (λ _ fact. of_body (wished core pairs) refl line fact) (λ _ fact. cc)

-- so of what is ordered at a tick
of_tick : (P : Draw → OrderLine → Type 0) (on : Bool) (r : ReplicaState) (line : OrderLine)
    → ((body : Body0) → wished r.group.core (entries r.group.pairs) ≡ Some body → P r.group.core.id (policy_line (order_of r.group.core.id body))) → wished_at on r ≡ Some line → P (name_of r) line
of_tick P on r line each =
    let w = waited r in
    let same : w.group ≡ r.group = waited_group r.group.core.lock r in
    let here = subst (λ (g : Group). (body : Body0) → wished g.core (entries g.pairs) ≡ Some body → P g.core.id (policy_line (order_of g.core.id body))) (sym same) each in
    cond_both (is_some r.group.core.gone || not (is_member (members r) r.me)) None (cond (not (settled r)) None (wished_line on w)) (λ (o : Option OrderLine). o ≡ Some line → P (name_of r) line) (λ _ fact. cc)
    (λ _. cond_both (not (settled r)) None (wished_line on w) (λ (o : Option OrderLine). o ≡ Some line → P (name_of r) line) (λ _ fact. cc)
    (λ _ fact. subst (λ (g : Group). P g.core.id line) same (of_line P w.group.core (entries w.group.pairs) here (on && is_at_rest w) line fact)))

-- ---- the group

order_group : (group : Draw) (body : Body0) → group_of_order (order_of group body) ≡ group
order_group group (Split at) = refl
order_group group Merge = refl
order_group group (Repart at) = refl

-- what is ordered at a tick is for the replica's group
pub wished_of : (on : Bool) (r : ReplicaState) (line : OrderLine) → wished_at on r ≡ Some line → group_of_order line.order ≡ name_of r
wished_of on r line = of_tick (λ group l. group_of_order l.order ≡ group) on r line (λ body e. order_group r.group.core.id body)

-- ---- the position

middle_small : (lo : ℕ) (pairs : List (List ℕ × List ℕ)) → middle_key lo pairs < 2 ^ 32
middle_small lo pairs = mod_below (slice_index (positions_from lo pairs) (length pairs / 2)) (2 ^ 32) (omega arith)

-- of what a policy wishes
abbrev IsPlaced : Option Body0 → Type 0
IsPlaced o = (group : Draw) (body : Body0) → o ≡ Some body → IsAtPosition (order_of group body)

placed : (b : Body0) → ((group : Draw) → IsAtPosition (order_of group b)) → IsPlaced (Some b)
placed b at group body e = (let same : b ≡ body = cc in subst (λ (x : Body0). IsAtPosition (order_of group x)) same (at group))

unplaced : IsPlaced None
unplaced group body e = cc

wished_placed : (core : Core) (pairs : List (List ℕ × List ℕ)) → IsPlaced (wished core pairs)
wished_placed core pairs =
    cond_both (wants_split core) (Some (Split (middle_of core.arc))) _ IsPlaced (λ _. placed (Split (middle_of core.arc)) (λ group. mod_below (core.arc.lo + core.arc.len / 2) (2 ^ 32) (omega arith)))
    (λ _. cond_both (has_neighbour core) (wished_of_two core pairs) None IsPlaced
    (λ _. cond_both (is_small core) (Some Merge) _ IsPlaced (λ _. placed Merge (λ group. tt))
    (λ _. cond_both (wants_repart core pairs) (Some (Repart (middle_key core.arc.lo pairs))) None IsPlaced (λ _. placed (Repart (middle_key core.arc.lo pairs)) (λ group. middle_small core.arc.lo pairs)) (λ _. unplaced)))
    (λ _. unplaced))

pub wishes_at_positions : WishesAreAtPositions
wishes_at_positions on r line e = of_tick (λ group l. IsAtPosition l.order) on r line (λ body fact. wished_placed r.group.core (entries r.group.pairs) r.group.core.id body fact) e
