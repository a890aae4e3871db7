-- What each kind of entry of an order does to a group's members, and that none but an outcome makes the group go.
use Rattle.std.proofs.Common.{◌≡◌, ℕ, true, false, true≢false, List, refl, sym, ◌∙◌, ap}
use Rattle.std.proofs.lemmas.Bool.{cond_both}
use Rattle.sc_base.specs.Definitions.{is_member, with_any, with_member}
use Rattle.sc_node_table.specs.Values.{Draw, Command, Join, Leave, Split, RecordVote, Finish, RecordWatch, Effect, Outcome, Vote}
use Rattle.sc_words.specs.commands.CommandDefinitions.{is_alone, is_changed}
use Rattle.sc_words.specs.declared.commands.votes.Past.TheVariants as Cast
use Rattle.sc_group_table.specs.machine.MachineDefinitions.{Group, applied}
use Rattle.sc_law_walks.proofs.WalkLemmas.{MachineWalk, machine_step}
use Rattle.sc_live_steps.proofs.FollowingProofs.FollowingLemmas.{with_kept}

-- of more members each is one
pub any_kept : (members : List ℕ) (node who : ℕ) → is_member members who ≡ true → is_member (with_any members node) who ≡ true
any_kept members node who m = cond_both (is_member members node) members (with_member members node) (λ l. is_member l who ≡ true) (λ t. m) (λ t. with_kept members node who m)

module _ (group : Group) where
  -- the group stands as it did
  abbrev pub StandsAs : Group × Effect → Type 0
  StandsAs made = made.0.core.gone ≡ group.core.gone

  -- the group has the same members after a command by which it only begins to wait
  abbrev pub WaitsAs : Group × Effect → Type 0
  WaitsAs made = (made.0.core.gone ≡ group.core.gone) × (is_changed made.1 ≡ true → made.0.core.members ≡ group.core.members)

  -- who was a member is one
  abbrev pub Keeps : ℕ → Group × Effect → Type 0
  Keeps me made = is_member group.core.members me ≡ true → is_member made.0.core.members me ≡ true

  abbrev IsOutcome : Command → Type 0
  IsOutcome (Finish tx outcome) = Unit {0}
  IsOutcome _ = ⊥

  abbrev IsVote : Command → Type 0
  IsVote (RecordVote tx vote by) = Unit {0}
  IsVote _ = ⊥

  -- a command by which nobody leaves
  abbrev KeepsAll : Command → Type 0
  KeepsAll (Join node order) = Unit {0}
  KeepsAll (Split at child order) = is_alone group.core ≡ false
  KeepsAll (Finish tx outcome) = Unit {0}
  KeepsAll _ = ⊥

  record Moves (c : Command) (made : Group × Effect) : Type 0 where
    pub stands : (IsOutcome c → ⊥) → StandsAs made
    pub waits : IsVote c → is_changed made.1 ≡ true → made.0.core.members ≡ group.core.members
    pub keeps : KeepsAll c → (me : ℕ) → Keeps me made

  -- where the members are as they were
  same_members : (c : Command) (made : Group × Effect) → StandsAs made → made.0.core.members ≡ group.core.members → Moves c made
  same_members c made s m = record { stands = λ _. s; waits = λ _ _. m; keeps = λ _ me fact. ap (λ l. is_member l me) m ∙ fact }

  -- where another group is decided
  decided_so : (c : Command) (made : Group × Effect) → StandsAs made → is_changed made.1 ≡ false → (KeepsAll c → ⊥) → Moves c made
  decided_so c made s quiet none = record { stands = λ _. s; waits = λ _ changed. absurd (true≢false (sym changed ∙ quiet)); keeps = λ k. absurd (none k) }

  moves_walk : MachineWalk group Moves
  moves_walk = record {
    same = λ c effect none. same_members c _ refl refl;
    serves = λ client seq op. same_members _ _ refl refl;
    joins = λ node order a. record { stands = λ _. refl; waits = λ v. absurd v; keeps = λ _ me fact. with_kept group.core.members node me fact };
    leaves = λ node order a. record { stands = λ _. refl; waits = λ v. absurd v; keeps = λ k. absurd k };
    splits = λ at child order a new alone. record { stands = λ _. refl; waits = λ v. absurd v; keeps = λ other. absurd (true≢false (sym alone ∙ other)) };
    begins_split = λ at child order a new other. same_members _ _ refl refl;
    begins = λ tx body order a new. same_members _ _ refl refl;
    offers = λ tx offer new. same_members _ _ refl refl;
    watches = λ tx watch new. same_members _ _ refl refl;
    hears = λ tx order lock frozen by other. same_members _ _ refl refl;
    aborts = λ c tx ends body order got lock. same_members c _ refl refl;
    divides = λ tx at child order got lock by can. decided_so _ _ refl refl (λ k. k);
    merges = λ tx order heard lock by may. decided_so _ _ refl refl (λ k. k);
    closes = λ tx order lock frozen by two may. decided_so _ _ refl refl (λ k. k);
    gives = λ tx at order lock frozen by here can. same_members _ _ refl refl;
    takes = λ tx at order lock frozen by there can. same_members _ _ refl refl;
    migrates = λ tx node order lock frozen by can. decided_so _ _ refl refl (λ k. k);
    stays = λ tx offer lock. same_members _ _ refl refl;
    goes = λ tx offer lock into. record { stands = λ none. absurd (none tt); waits = λ v. absurd v; keeps = λ _ me fact. fact };
    gains = λ tx offer lock at gift can. same_members _ _ refl refl;
    loses = λ tx offer lock at can. same_members _ _ refl refl;
    welcomes = λ tx offer lock node few. record { stands = λ _. refl; waits = λ v. absurd v; keeps = λ _ me fact. any_kept group.core.members node me fact };
    sees_end = λ tx watch lock outcome. same_members _ _ refl refl;
  }

  moves : (c : Command) → Moves c (applied group c)
  moves = machine_step group Moves moves_walk

  pub join-stands : (node order : ℕ) → StandsAs (applied group (Join node order))
  join-stands node order = (moves (Join node order)).stands (λ none. none)

  pub join-keeps : (node order me : ℕ) → Keeps me (applied group (Join node order))
  join-keeps node order me = (moves (Join node order)).keeps tt me

  pub leave-stands : (node order : ℕ) → StandsAs (applied group (Leave node order))
  leave-stands node order = (moves (Leave node order)).stands (λ none. none)

  pub split-stands : (at : ℕ) (child : Draw) (order : ℕ) → StandsAs (applied group (Split at child order))
  split-stands at child order = (moves (Split at child order)).stands (λ none. none)

  pub split-keeps : (at : ℕ) (child : Draw) (order me : ℕ) → is_alone group.core ≡ false → Keeps me (applied group (Split at child order))
  split-keeps at child order me e = (moves (Split at child order)).keeps e me

  pub vote-waits : (tx : Draw) (vote : Vote) (by : ℕ) → WaitsAs (applied group (RecordVote tx vote by))
  vote-waits tx vote by = (let m = moves (RecordVote tx vote by) in (m.stands (λ none. none), m.waits tt))

  pub watch-stands : (tx : Draw) (by : ℕ) → StandsAs (applied group (RecordWatch tx Cast.Yes by))
  watch-stands tx by = (moves (RecordWatch tx Cast.Yes by)).stands (λ none. none)

  pub finish-keeps : (tx : Draw) (outcome : Outcome) (me : ℕ) → Keeps me (applied group (Finish tx outcome))
  finish-keeps tx outcome me = (moves (Finish tx outcome)).keeps tt me
