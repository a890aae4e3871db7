-- Which children a group knows to have created: it forgets none, and knows each that an entry creates.
use Rattle.std.specs.List.{list_any}
use Rattle.std.specs.Option.{option_map}
use Rattle.std.proofs.Common.{◌≡◌, ◌⊎◌, ◌||◌, Bool, true, false, cond, List, [], ◌∷◌, ◌++◌, Some, None, inl, inr, refl, sym, ◌∙◌, ap, subst}
use Rattle.std.proofs.lemmas.Option.{none-some, same_Some}
use Rattle.sc_base.specs.Definitions.{same_draw}
use Rattle.sc_base.proofs.Lemmas.{draw_is, same_name}
use Rattle.sc_node_table.specs.Values.{Draw, Command, Base, Effect}
use Rattle.sc_words.specs.declared.commands.effects.Effect.TheVariants as Was
use Rattle.sc_words.specs.declared.commands.votes.Outcome.TheVariants as Is
use Rattle.sc_group_table.specs.machine.MachineDefinitions.{Group, applied, child_by, child_of, right_members}
use Rattle.sc_meaning.specs.declared.entries.Division.{Division}
use Rattle.sc_meaning.specs.entries.EntryDefinitions.{division_in, division_of}
use Rattle.sc_meaning.proofs.EntriesProofs.EntryLemmas.{births_are_children}
use Rattle.sc_law_walks.proofs.WalkLemmas.{MachineWalk, machine_step}
use Rattle.sc_law_entries.proofs.RingProofs.RingLemmas.{any_keeps, any_new}
use Rattle.sc_live_answers.proofs.ChildrenProofs.ChildDivisions.{division_at, undivided, nothing_divided, child_divided}

module _ (group : Group) where
  -- a command that makes no division leaves what the group knows to have created, and one that makes one adds its child
  abbrev Knows : Command → Group × Effect → Type 0
  Knows c x =
      ((division_of group.core c x.1 ≡ None) × (x.0.core.born ≡ group.core.born))
      ⊎ ((d : Division) × (division_of group.core c x.1 ≡ Some d) × (x.0.core.born ≡ group.core.born ++ d.child ∷ []))

  known_walk : MachineWalk group Knows
  known_walk = record {
    same = λ c effect none. inl (nothing_divided group c effect none, refl);
    serves = λ client seq op. inl (refl, refl);
    joins = λ node order a. inl (refl, refl);
    leaves = λ node order a. inl (refl, refl);
    splits = λ at child order a new alone. inr (division_at at child, ap (λ b. cond b (Some (division_at at child)) None) alone, refl);
    begins_split = λ at child order a new other. inl (ap (λ b. cond b (Some (division_at at child)) None) other, refl);
    begins = λ tx body order a new. inl (refl, refl);
    offers = λ tx offer new. inl (refl, refl);
    watches = λ tx watch new. inl (refl, refl);
    hears = λ tx order lock frozen by other. inl (refl, refl);
    aborts = λ c tx ends body order got lock. inl (undivided group c (Was.Decided Is.Abort) refl refl, refl);
    divides = λ tx at child order got lock by can. inr (division_at at child, ap division_in lock, refl);
    merges = λ tx order heard lock by may. inl (refl, refl);
    closes = λ tx order lock frozen by two may. inl (refl, refl);
    gives = λ tx at order lock frozen by here can. inl (refl, refl);
    takes = λ tx at order lock frozen by there can. inl (refl, refl);
    migrates = λ tx node order lock frozen by can. inl (refl, refl);
    stays = λ tx offer lock. inl (refl, refl);
    goes = λ tx offer lock into. inl (refl, refl);
    gains = λ tx offer lock at gift can. inl (refl, refl);
    loses = λ tx offer lock at can. inl (refl, refl);
    welcomes = λ tx offer lock node few. inl (refl, refl);
    sees_end = λ tx watch lock outcome. inl (refl, refl);
  }

  -- so it is with each entry
  known : (command : Command) → Knows command (applied group command)
  known command = machine_step group Knows known_walk command

-- ---- whether a group knows a child

-- it does
abbrev pub HasCreated : Draw → List Draw → Type 0
HasCreated name born = list_any (λ other. same_draw other name) born ≡ true

or_nothing : (b : Bool) → b || false ≡ true → b ≡ true
or_nothing true e = refl
or_nothing false e = e

any_back_by : {X : Type 0} (b : Bool) (p : X → Bool) (xs : List X) (y : X) → (list_any p (xs ++ y ∷ []) ≡ true → (list_any p xs ≡ true) ⊎ (p y ≡ true)) → b || list_any p (xs ++ y ∷ []) ≡ true → (b || list_any p xs ≡ true) ⊎ (p y ≡ true)
any_back_by true p xs y more e = inl refl
any_back_by false p xs y more e = more e

any_back : {X : Type 0} (p : X → Bool) (xs : List X) (y : X) → list_any p (xs ++ y ∷ []) ≡ true → (list_any p xs ≡ true) ⊎ (p y ≡ true)
any_back p [] y e = inr (or_nothing (p y) e)
any_back p (x ∷ xs) y e = any_back_by (p x) p xs y (λ k. any_back p xs y k) e

module _ (group : Group) (command : Command) where
  -- it forgets none
  pub stays_born : (name : Draw) → HasCreated name group.core.born → HasCreated name (applied group command).0.core.born
  stays_born name has = elim (known group command) [
    | inl n ↦ subst (HasCreated name) (sym n.1) has
    | inr b ↦ subst (HasCreated name) (sym b.2) (any_keeps (λ other. same_draw other name) group.core.born (b.0.child ∷ []) has)
  ]

  -- it knows the child that an entry creates
  pub creates_child : (kid : Base) → child_by group command ≡ Some kid → HasCreated kid.core.id (applied group command).0.core.born
  creates_child kid e =
      let c = child_divided group command kid e in
      elim (known group command) [
        | inl n ↦ absurd (none-some c.0 (sym n.0 ∙ c.1))
        | inr b ↦ (let same : b.0 ≡ c.0 = same_Some b.0 c.0 (sym b.1 ∙ c.1) in
            subst (HasCreated kid.core.id) (sym b.2) (any_new (λ other. same_draw other kid.core.id) group.core.born b.0.child (same_name b.0.child kid.core.id (ap (λ (d : Division). d.child) same ∙ sym (ap (λ (x : Base). x.core.id) c.2)))))
      ]

  -- the members of the child are those that go
  pub kid_members : (kid : Base) → child_by group command ≡ Some kid → kid.core.members ≡ right_members group.core.members
  kid_members kid e = (let c = child_divided group command kid e in ap (λ (b : Base). b.core.members) c.2)

  -- and nothing else is new
  pub new_born : (name : Draw) → HasCreated name (applied group command).0.core.born → HasCreated name group.core.born ⊎ ((kid : Base) × (child_by group command ≡ Some kid) × (kid.core.id ≡ name))
  new_born name has = elim (known group command) [
    | inl n ↦ inl (subst (HasCreated name) n.1 has)
    | inr b ↦ elim (any_back (λ other. same_draw other name) group.core.born b.0.child (subst (HasCreated name) b.2 has)) [
      | inl k ↦ inl k
      | inr k ↦ inr (child_of group b.0.at b.0.child, births_are_children group command ∙ ap (option_map (λ (d : Division). child_of group d.at d.child)) b.1, draw_is b.0.child name k)
    ]
  ]
