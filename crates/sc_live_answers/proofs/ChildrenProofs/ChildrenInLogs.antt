-- What a replica's group knows for a child, in a calm journal, is one by the log: a group of the journal.
use Rattle.std.proofs.Common.{◌≡◌, ◌⊎◌, ℕ, zero, suc, ◌+◌, ◌-◌, ◌≤◌, ◌<◌, List, [], ◌∷◌, ◌++◌, take, drop, Some, inl, inr, refl, sym, subst, arith}
use Rattle.std.proofs.lemmas.List.{take-append-drop}
use Rattle.sc_base.specs.Definitions.{Among}
use Rattle.sc_node_table.specs.Values.{Draw, Command, Base, Route}
use Rattle.sc_group_table.specs.machine.MachineDefinitions.{child_by, Group, group_of, state_after, right_members}
use Rattle.sc_scenario.specs.scenario.Definitions.{ValidScenariosAreBounded}
use Rattle.sc_scenario.specs.declared.scenario.scenarios.Scenario.{Scenario}
use Rattle.sc_node_table.specs.NodeDefinitions.{ReplicaState, next}
use Rattle.sc_meaning.specs.sound.SoundDefinitions.{groups_at, children_of, decided_log, births, as_nodes, route_of}
use Rattle.sc_law_entries.specs.logs.LogDefinitions.{AreFound}
use Rattle.sc_law_entries.specs.ring.RingDefinitions.{Sources}
use Rattle.sc_law_entries.specs.names.NameDefinitions.{OtherNamesAreFree, TakenOrdersAreAllowed, TakenWishesAreAllowed, WishesAreAtPositions, owner_in}
use Rattle.sc_law_groups.specs.whole.WholeDefinitions.{BeginsWell, section_op, OrdersAreAllowed, ValidScenariosBeginWell}
use Rattle.sc_law_groups.proofs.WholeProofs.WholeLemmas.{orders_allowed}
use Rattle.sc_live_steps.specs.calm.CalmDefinitions.{Rows}
use Rattle.sc_live_journals.specs.rows.RowDefinitions.{view_at}
use Rattle.sc_live_journals.specs.logs.LogDefinitions.{ViewsAreReplicas}
use Rattle.sc_live_journals.proofs.LogsProofs.GroupLogLemmas.{found}
use Rattle.sc_live_answers.specs.AnswerDefinitions.{ReplicasRunLogs, IsCalmJournal, IsPrefixOf}
use Rattle.sc_live_answers.proofs.ChildrenProofs.KnownChildren.{HasCreated, stays_born, kid_members, new_born}
use Rattle.sc_live_answers.proofs.ChildrenProofs.Lineage.{log_gains, take_more, last_child}
use Rattle.sc_live_answers.proofs.LedGroupsProofs.JournalGroups.{calm_group}
use Rattle.sc_group_table.proofs.MachineProofs.Lemmas.{state_push}

-- the laws of journals that are used
pub record OfJournals : Type 0 where
  pub bounded : ValidScenariosAreBounded
  pub begin : ValidScenariosBeginWell
  pub allowed : TakenOrdersAreAllowed
  pub wishes : TakenWishesAreAllowed
  pub positions : WishesAreAtPositions
  pub free : OtherNamesAreFree
  pub views : ViewsAreReplicas
  pub runs : ReplicasRunLogs

module _ (laws : OfJournals) (words : ℕ → ℕ → ℕ × ℕ) (scenario : Scenario) (journal : Rows) (calm : IsCalmJournal words scenario journal) where
  abbrev sources : Sources
  sources = record { owner = owner_in as_nodes scenario journal; request = section_op scenario }

  abbrev route : Route
  route = route_of (laws.begin (owner_in as_nodes scenario journal) (laws.free as_nodes scenario journal) as_nodes refl scenario calm.valid).first

  well : BeginsWell sources as_nodes scenario route
  well = (laws.begin (owner_in as_nodes scenario journal) (laws.free as_nodes scenario journal) as_nodes refl scenario calm.valid).well

  orders : OrdersAreAllowed sources as_nodes scenario journal
  orders = orders_allowed as_nodes words scenario (laws.bounded scenario calm.valid) laws.allowed laws.wishes laws.positions journal calm.lawful

  pub all_found : AreFound as_nodes scenario.groups journal
  all_found = found sources as_nodes words scenario route well journal orders calm.lawful

  module _ (base : Base) (stands : Among base (groups_at as_nodes scenario.groups journal)) where
    abbrev log : List Command
    log = decided_log as_nodes base journal

    -- the group after k entries
    abbrev pub State : ℕ → Group
    State k = state_after (group_of base) (take k (decided_log as_nodes base journal))

    -- a replica of it has executed some of them
    pub state_of : (rows : Rows) → IsPrefixOf journal rows → (who : ℕ) (r : ReplicaState) → view_at (births as_nodes scenario) rows base.core.id who ≡ Some r → (k : ℕ) × (next r ≡ suc k) × (r.group ≡ State k)
    state_of rows prefix who r v =
        let here = laws.views as_nodes words scenario journal base (calm_group words scenario journal calm base stands) rows prefix.more prefix.fact who r v in
        let run = laws.runs as_nodes words scenario journal base (calm_group words scenario journal calm base stands) rows here.0 here.1 r here.2 in
        let some : 1 ≤ next r = run.0 in
        (next r - 1, omega (arith, some), run.1)

    -- what a state knows is known as it begins, or by an entry
    pub born_by : (name : Draw) (k : ℕ) → HasCreated name (State k).core.born → HasCreated name (group_of base).core.born ⊎ ((kid : Base) × Among kid (groups_at as_nodes scenario.groups journal) × (kid.core.id ≡ name))
    born_by name k has = elim (log_gains name (group_of base) (take k log) has) [
      | inl b ↦ inl b
      | inr (kid, a, e) ↦ inr (kid, all_found.prefixes base stands (take k log) (drop k log) (sym (take-append-drop k log)) kid a, e)
    ]

    -- later states know it too
    state_step : (name : Draw) (k : ℕ) → HasCreated name (State k).core.born → HasCreated name (State (suc k)).core.born
    state_step name k has = elim (take_more k log) [
      | inl e ↦ subst (λ l. HasCreated name (state_after (group_of base) l).core.born) (sym e) has
      | inr (command, e) ↦ subst (λ l. HasCreated name (state_after (group_of base) l).core.born) (sym e) (subst (λ (g : Group). HasCreated name g.core.born) (sym (state_push (group_of base) (take k log) command)) (stays_born (State k) command name has))
    ]

    steps_stay : (name : Draw) (more k later : ℕ) → later ≡ more + k → HasCreated name (State k).core.born → HasCreated name (State later).core.born
    steps_stay name zero k later e has = (let same : k ≡ later = omega (arith, e) in subst (λ n. HasCreated name (State n).core.born) same has)
    steps_stay name (suc more) k later e has =
        let same : suc (more + k) ≡ later = omega (arith, e) in
        subst (λ n. HasCreated name (State n).core.born) same (state_step name (more + k) (steps_stay name more k (more + k) refl has))

    pub state_stays : (name : Draw) (k later : ℕ) → k ≤ later → HasCreated name (State k).core.born → HasCreated name (State later).core.born
    state_stays name k later least has = steps_stay name (later - k) k later (omega (arith, least)) has

    -- an entry by which it comes to be known creates it: it is of the journal, and its members are those that go
    pub created_by : (name : Draw) (k : ℕ) → HasCreated name (State (suc k)).core.born → HasCreated name (State k).core.born ⊎ ((kid : Base) × Among kid (groups_at as_nodes scenario.groups journal) × (kid.core.id ≡ name) × (kid.core.members ≡ right_members (State k).core.members))
    created_by name k has = elim (take_more k log) [
      | inl e ↦ inl (subst (λ l. HasCreated name (state_after (group_of base) l).core.born) e has)
      | inr (command, e) ↦ by command e (new_born (State k) command name (subst (λ (g : Group). HasCreated name g.core.born) (state_push (group_of base) (take k log) command) (subst (λ l. HasCreated name (state_after (group_of base) l).core.born) e has)))
    ]
      where
        by : (command : Command) → take (suc k) log ≡ take k log ++ command ∷ [] → HasCreated name (State k).core.born ⊎ ((kid : Base) × (child_by (State k) command ≡ Some kid) × (kid.core.id ≡ name))
            → HasCreated name (State k).core.born ⊎ ((kid : Base) × Among kid (groups_at as_nodes scenario.groups journal) × (kid.core.id ≡ name) × (kid.core.members ≡ right_members (State k).core.members))
        by command e (inl h) = inl h
        by command e (inr (kid, fact, id)) =
            inr (
              kid,
              all_found.prefixes base stands (take (suc k) log) (drop (suc k) log) (sym (take-append-drop (suc k) log)) kid (subst (λ l. Among kid (children_of (group_of base) l)) (sym e) (last_child (group_of base) (take k log) command kid fact)),
              id,
              kid_members (State k) command kid fact,
            )

    -- so one that is known in a state and not as the group begins is created by an entry before
    pub first_known : (name : Draw) (k : ℕ) → HasCreated name (State k).core.born → (HasCreated name (State zero).core.born → ⊥)
        → (m : ℕ) × (m < k) × ((kid : Base) × Among kid (groups_at as_nodes scenario.groups journal) × (kid.core.id ≡ name) × (kid.core.members ≡ right_members (State m).core.members)) × HasCreated name (State (suc m)).core.born
    first_known name zero has not = absurd (not has)
    first_known name (suc k) has not = elim (created_by name k has) [
      | inl h ↦ (let f = first_known name k h not in let less = f.1 in (f.0, omega (arith, less), f.2, f.3))
      | inr b ↦ (k, omega arith, b, has)
    ]
