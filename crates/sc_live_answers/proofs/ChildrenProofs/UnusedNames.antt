-- A name that is in no use is that of no child, decision or lock of a group.
use Rattle.std.proofs.Common.{◌≡◌, ℕ, ◌||◌, false, eqb, List, [], ◌∷◌, Option, Some, None, refl, sym, ◌∙◌, ap, subst}
use Rattle.std.specs.List.{find, list_any}
use Rattle.sc_base.specs.Definitions.{Each, same_draw}
use Rattle.sc_node_table.specs.Values.{Draw, Command, Core, Lock, Free, Coordinating, Promised, Watching, Outcome, Node, Client, Seat}
use Rattle.sc_actor.specs.Definitions.{value}
use Rattle.sc_law_entries.specs.names.NameDefinitions.{AllNames, PlayerNames, ReplicaNames, CoreNames, LockNames, OutcomeNames, IsUsed}
use Rattle.sc_law_entries.proofs.NamesProofs.NameLemmas.{drawn_names_are_new_drawn}
use Rattle.sc_words.proofs.PaxosProofs.PaxosLemmas.{Each-among, Each-weaker, find_found}
use Rattle.sc_group_table.specs.machine.MachineDefinitions.{Group, locked_in, has_named, is_locked_in, state_after}
use Rattle.sc_scenario.specs.scenario.Definitions.{IsBounded}
use Rattle.sc_scenario.specs.declared.scenario.scenarios.Scenario.{Scenario}
use Rattle.sc_node_table.specs.NodeDefinitions.{ReplicaState, name_of, listed}
use Rattle.sc_meaning.specs.sound.SoundDefinitions.{Player, player_table, births, as_nodes, Lawful}
use Rattle.sc_live_steps.specs.calm.CalmDefinitions.{Rows}
use Rattle.sc_live_steps.specs.orders.OrderDefinitions.{Stage, Ordered, Opens}
use Rattle.sc_live_journals.specs.rows.RowDefinitions.{view_at, replicas_of, replica_in}
use Rattle.sc_live_answers.specs.AnswerDefinitions.{AreDeeds, HasDone, doer, doers_of, IsUnused, tx_of, IsTrueSince}
use Rattle.sc_live_answers.proofs.ChildrenProofs.DrawnNames.{begin_undrawn}
use Rattle.sc_live_answers.proofs.ReplicasProofs.Names.{not_it}

module _ (K : Draw → Type 0) (tx : Draw) (unused : K tx → ⊥) where
  none_is : {X : Type 0} (f : X → Draw) (xs : List X) → Each (λ x. K (f x)) xs → list_any (λ x. same_draw (f x) tx) xs ≡ false
  none_is f [] k = refl
  none_is f (x ∷ xs) k = ap (λ b. b || list_any (λ y. same_draw (f y) tx) xs) (not_it K tx unused (f x) k.0) ∙ none_is f xs k.1

  not_locked : (lock : Lock) → LockNames K lock → is_locked_in (locked_in lock) tx ≡ false
  not_locked Free k = refl
  not_locked (Coordinating t body order heard) k = not_it K tx unused t k.0
  not_locked (Promised t offer) k = not_it K tx unused t k.0
  not_locked (Watching t watch) k = not_it K tx unused t k.0

  not_named : (core : Core) → CoreNames K core → has_named core tx ≡ false
  not_named core k =
      ap (λ b. (b || list_any (λ decision. same_draw decision.0 tx) core.decided) || is_locked_in (locked_in core.lock) tx) (none_is (λ name. name) core.born k.born)
      ∙ (ap (λ b. b || is_locked_in (locked_in core.lock) tx) (none_is (λ (d : Draw × Outcome). d.0) core.decided (Each-weaker (λ (d : Draw × Outcome). K d.0 × OutcomeNames K d.1) (λ (d : Draw × Outcome). K d.0) (λ d q. q.0) core.decided k.decided))
      ∙ not_locked core.lock k.lock)

module _ (words : ℕ → ℕ → ℕ × ℕ) (scenario : Scenario) (quiet : Rows) (bounded : IsBounded scenario) (lawful : Lawful as_nodes words scenario quiet) (tx : Draw) (unused : IsUnused scenario quiet tx) where
  all_used : AllNames (IsUsed as_nodes scenario quiet) as_nodes scenario quiet
  all_used = (drawn_names_are_new_drawn as_nodes words scenario (begin_undrawn scenario bounded) quiet lawful).0

  in_player : (name : Draw) (r : ReplicaState) (player : Player) → PlayerNames (IsUsed as_nodes scenario quiet) player → find (λ (x : ReplicaState). same_draw (name_of x) name) (replicas_of player) ≡ Some r → has_named r.group.core tx ≡ false
  in_player name r (Node node) all e =
      not_named (IsUsed as_nodes scenario quiet) tx unused r.group.core
      (Each-among (ReplicaNames (IsUsed as_nodes scenario quiet)) node.replicas r all (find_found (λ (x : ReplicaState). same_draw (name_of x) name) node.replicas r e).0).core
  in_player name r (Client client) all e = cc

  -- no replica of a group knows it
  pub unnamed : (name : Draw) (who : ℕ) (r : ReplicaState) → view_at (births as_nodes scenario) quiet name who ≡ Some r → has_named r.group.core tx ≡ false
  unnamed name who r view = by (find (λ other. eqb other.who who) (births as_nodes scenario)) refl view
    where
      by : (o : Option (Seat Player)) → find (λ other. eqb other.who who) (births as_nodes scenario) ≡ o → replica_in name quiet o ≡ Some r → has_named r.group.core tx ≡ false
      by None e v = cc
      by (Some other) e v = in_player name r (value player_table other quiet) (all_used.players other (find_found (λ (s : Seat Player). eqb s.who who) (births as_nodes scenario) other e).0) v

-- the leader to which an order was given has executed nothing since
no_deeds : (entries : List Command) → AreDeeds [] entries → entries ≡ []
no_deeds [] a = refl
no_deeds (entry ∷ entries) a = absurd a

-- so the name that the order draws is in no use there
pub order_unnamed : (words : ℕ → ℕ → ℕ × ℕ) (scenario : Scenario) (quiet rows : Rows) (stage : Stage) → IsBounded scenario → Lawful as_nodes words scenario quiet → IsTrueSince scenario quiet rows stage
    → (group : Draw) (chief : ℕ) (tx : Draw) → stage ≡ Ordered group chief (Opens tx) → (r : ReplicaState) → view_at (births as_nodes scenario) rows group chief ≡ Some r → has_named r.group.core tx ≡ false
order_unnamed words scenario quiet rows stage bounded lawful t group chief tx e r fact =
    let d : HasDone (births as_nodes scenario) quiet rows (doer group chief []) = (subst (λ x. Each (HasDone (births as_nodes scenario) quiet rows) (doers_of x)) e t.done).0 in
    let unused : IsUnused scenario quiet tx = (subst (λ x. Each (IsUnused scenario quiet) (listed (tx_of x))) e t.new).0 in
    let same : d.now ≡ r = (let both : Some d.now ≡ Some r = sym d.fact ∙ fact in cc) in
    let first_is : r.group ≡ d.first.group = ap (λ (x : ReplicaState). x.group) (sym same) ∙ (d.group_is ∙ ap (state_after d.first.group) (no_deeds d.entries d.did)) in
    ap (λ (g : Group). has_named g.core tx) first_is ∙ unnamed words scenario quiet bounded lawful tx unused group chief d.first d.was
