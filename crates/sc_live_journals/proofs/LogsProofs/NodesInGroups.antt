-- The members of a group stay such nodes, whatever it executes that brings such nodes.
use Rattle.std.proofs.Common.{◌≡◌, ℕ, ◌-◌, ◌&&◌, nat_lt, nat_le, true, List, [], ◌∷◌, ◌++◌, filter, take, zero, suc, length, Option, Some, None, subst}
use Rattle.std.proofs.lemmas.Bool.{cond_both, and_parts}
use Rattle.sc_base.specs.Definitions.{Each, is_member, with_member, with_any, without_member, united}
use Rattle.sc_node_table.specs.Values.{Draw, Command, Noop, Call, Join, Leave, Split, Begin, Prepared, RecordVote, GiveUp, Finish, Watched, RecordWatch, Lock, Free, Coordinating, Promised, Watching, Effect, Frozen, Heard, No, Outcome, Abort, Merged, Moved, Migrated, Divided, Vote, Core, MailBody, TxVote, TxOutcome, Base}
use Rattle.sc_words.specs.declared.commands.effects.Effect.TheVariants as Was
use Rattle.sc_words.specs.declared.commands.votes.Vote.TheVariants as Says
use Rattle.sc_words.specs.commands.CommandDefinitions.{decided_in}
use Rattle.sc_law_walks.proofs.WalkLemmas.{ChangesNothing, MachineWalk, machine_step}
use Rattle.sc_group_table.specs.machine.MachineDefinitions.{left_members, left_core, merged_core, closing_core, giving_group, migrated_group, vote_of, watch_vote_of, state_after, Group, group_of, applied, staying, taking_group, can_migrate, bound_by}
use Rattle.sc_words.proofs.PaxosProofs.PaxosLemmas.{Each-among, Each-append, Each-filter}
use Rattle.sc_paxos_law.proofs.Lemmas.{member-among}
use Rattle.sc_meaning.specs.sound.SoundDefinitions.{decided_log, Ahead}
use Rattle.sc_law_entries.specs.logs.LogDefinitions.{Rows}
use Rattle.sc_live_journals.specs.logs.LogDefinitions.{logged_sets}

module _ (Home : ℕ → Type 0) where
  -- each of these is a node
  abbrev pub AreNodes : List ℕ → Type 0
  AreNodes = Each (λ node. Home node)

  -- a node that an outcome moves is one
  abbrev pub MovesNode : Outcome → Type 0
  MovesNode (Migrated node) = Home node
  MovesNode Abort = Unit {0}
  MovesNode (Merged into) = Unit {0}
  MovesNode (Moved at gift) = Unit {0}
  MovesNode Divided = Unit {0}

  -- the members that a vote hands over are nodes
  abbrev pub HandsNodes : Vote → Type 0
  HandsNodes (Says.Yes frozen) = AreNodes frozen.members
  HandsNodes (Says.No why) = Unit {0}

  -- the members that a command brings are nodes
  abbrev pub BringsNodes : Command → Type 0
  BringsNodes (Join node order) = Home node
  BringsNodes (RecordVote tx vote by) = HandsNodes vote
  BringsNodes (Finish tx outcome) = MovesNode outcome
  BringsNodes Noop = Unit {0}
  BringsNodes (Call client seq op) = Unit {0}
  BringsNodes (Leave node order) = Unit {0}
  BringsNodes (Split at child order) = Unit {0}
  BringsNodes (Begin tx body order) = Unit {0}
  BringsNodes (Prepared tx offer) = Unit {0}
  BringsNodes (GiveUp tx) = Unit {0}
  BringsNodes (Watched tx watch) = Unit {0}
  BringsNodes (RecordWatch tx vote by) = Unit {0}

  -- those that a coordinator heard of are nodes
  abbrev pub HeardNodes : Option Heard → Type 0
  HeardNodes None = Unit {0}
  HeardNodes (Some heard) = AreNodes heard.frozen.members

  -- those that a coordinator heard of, by its lock, are nodes
  abbrev pub LockNodes : Lock → Type 0
  LockNodes (Coordinating tx body order heard) = HeardNodes heard
  LockNodes Free = Unit {0}
  LockNodes (Promised tx offer) = Unit {0}
  LockNodes (Watching tx watch) = Unit {0}

  -- a group's members are nodes, and those that it heard of or has moved
  abbrev pub HasNodes : Core → Type 0
  HasNodes core = AreNodes core.members × LockNodes core.lock × Each (λ (decision : Draw × Outcome). MovesNode decision.1) core.decided

  -- what a mail of a transaction says of nodes is so
  abbrev pub SaysNodes : MailBody → Type 0
  SaysNodes (TxVote tx coord part vote) = HandsNodes vote
  SaysNodes (TxOutcome tx part outcome) = MovesNode outcome
  SaysNodes _ = Unit {0}

  -- ---- sets of nodes

  with_nodes : (members : List ℕ) (node : ℕ) → Home node → AreNodes members → AreNodes (with_member members node)
  with_nodes members node fact all = Each-append _ (filter (λ m. nat_lt m node) members) (node ∷ filter (λ m. nat_lt node m) members) (Each-filter _ (λ m. nat_lt m node) members all) (fact, Each-filter _ (λ m. nat_lt node m) members all)

  pub united_nodes : (members others : List ℕ) → AreNodes members → AreNodes others → AreNodes (united members others)
  united_nodes members [] all more = all
  united_nodes members (node ∷ others) all more =
      united_nodes (with_any members node) others (cond_both (is_member members node) members (with_member members node) AreNodes (λ _. all) (λ _. with_nodes members node more.0 all)) more.1

  taken_nodes : (count : ℕ) (members : List ℕ) → AreNodes members → AreNodes (take count members)
  taken_nodes zero members all = tt
  taken_nodes (suc count) [] all = tt
  taken_nodes (suc count) (node ∷ members) all = (all.0, taken_nodes count members all.1)

  -- ---- one command

  -- what is decided moves a node, if it moves anyone
  abbrev pub IfMoves : Option Outcome → Type 0
  IfMoves None = Unit {0}
  IfMoves (Some outcome) = MovesNode outcome

  module _ (group : Group) (has : HasNodes group.core) where
    abbrev P : Command → Group × Effect → Type 0
    P c x = BringsNodes c → HasNodes x.0.core × IfMoves (decided_in x.1)

    none_moves : (c : Command) (effect : Effect) → ChangesNothing group c effect → IfMoves (decided_in effect)
    none_moves c (Was.Decided outcome) none = absurd none
    none_moves c _ none = tt

    -- what is decided is noted
    decided_nodes : (after : Core) (tx : Draw) (outcome : Outcome) → HasNodes after → MovesNode outcome → HasNodes (record after { lock = Free; decided = after.decided ++ (tx, outcome) ∷ [] })
    decided_nodes after tx outcome k moves = (k.0, tt, Each-append (λ (decision : Draw × Outcome). MovesNode decision.1) after.decided ((tx, outcome) ∷ []) k.2 (moves, tt))

    bound_nodes : (why : Option No) (bond : Lock) → LockNodes bond → LockNodes (bound_by why bond group.core.lock)
    bound_nodes None bond l = l
    bound_nodes (Some why) bond l = has.1

    -- those that stay, that come, and that were heard of
    stay_nodes : AreNodes (left_members group.core.members)
    stay_nodes = taken_nodes (staying group.core.members) group.core.members has.0

    with_others : (others : List ℕ) → AreNodes others → AreNodes (united group.core.members others)
    with_others others more = united_nodes group.core.members others has.0 more

    fewer : (node : ℕ) → AreNodes (without_member group.core.members node)
    fewer node = Each-filter _ _ group.core.members has.0

    moved_one : (node : ℕ) (frozen : Frozen) → can_migrate group.core node frozen ≡ true → Home node
    moved_one node frozen can =
        let fact = (and_parts (is_member group.core.members node) _ (and_parts (is_member group.core.members node && nat_le 2 (length group.core.members)) _ can).0).0 in
        Each-among _ group.core.members node has.0 (member-among group.core.members node fact)

    nodes_walk : MachineWalk group P
    nodes_walk = record {
      same = λ c effect none b. (has, none_moves c effect none);
      serves = λ client seq op b. (has, tt);
      joins = λ node order a b. ((with_nodes group.core.members node b has.0, has.1, has.2), tt);
      leaves = λ node order a b. ((fewer node, has.1, has.2), tt);
      splits = λ at child order a new alone b. ((stay_nodes, has.1, has.2), tt);
      begins_split = λ at child order a new other b. ((has.0, tt, has.2), tt);
      begins = λ tx body order a new b. ((has.0, tt, has.2), tt);
      offers = λ tx offer new b. ((has.0, bound_nodes (vote_of group.core offer) (Promised tx offer) tt, has.2), tt);
      watches = λ tx watch new b. ((has.0, bound_nodes (watch_vote_of group.core watch) (Watching tx watch) tt, has.2), tt);
      hears = λ tx order lock frozen by other b. ((has.0, b, has.2), tt);
      aborts = λ c tx ends body order got lock b. (decided_nodes group.core tx Abort has tt, tt);
      divides = λ tx at child order got lock by can b. (decided_nodes (left_core group.core at child) tx Divided (stay_nodes, has.1, has.2) tt, tt);
      merges = λ tx order heard lock by may b. (decided_nodes (merged_core group.core heard.frozen) tx _ (with_others heard.frozen.members (subst LockNodes lock has.1), has.1, has.2) tt, tt);
      closes = λ tx order lock frozen by two may b. (decided_nodes (closing_core group.core frozen) tx _ (with_others frozen.members b, has.1, has.2) tt, tt);
      gives = λ tx at order lock frozen by here can b. (decided_nodes (giving_group group at frozen).core tx _ has tt, tt);
      takes = λ tx at order lock frozen by there can b. (decided_nodes (taking_group group at frozen).core tx _ has tt, tt);
      migrates = λ tx node order lock frozen by can b. (decided_nodes (migrated_group group node frozen).core tx _ (fewer node, has.1, has.2) (moved_one node frozen can), moved_one node frozen can);
      stays = λ tx offer lock b. ((has.0, tt, has.2), tt);
      goes = λ tx offer lock into b. ((has.0, tt, has.2), tt);
      gains = λ tx offer lock at gift can b. ((has.0, tt, has.2), tt);
      loses = λ tx offer lock at can b. ((has.0, tt, has.2), tt);
      welcomes = λ tx offer lock node few b. ((with_others (node ∷ []) (b, tt), tt, has.2), b);
      sees_end = λ tx watch lock outcome b. ((has.0, tt, has.2), b);
    }

  -- a command that brings nodes leaves nodes
  pub nodes_stay_nodes : (group : Group) (command : Command) → BringsNodes command → HasNodes group.core → HasNodes (applied group command).0.core
  nodes_stay_nodes group command b has = (machine_step group (P group has) (nodes_walk group has) command b).0

  -- and decides on a node, if on anyone
  pub decision_moves : (group : Group) (command : Command) → BringsNodes command → HasNodes group.core → IfMoves (decided_in (applied group command).1)
  decision_moves group command b has = (machine_step group (P group has) (nodes_walk group has) command b).1

  -- ---- a log

  pub log_nodes : (group : Group) (log : List Command) → HasNodes group.core → Each BringsNodes log → HasNodes (state_after group log).core
  log_nodes group [] has all = has
  log_nodes group (c ∷ log) has all = log_nodes (applied group c).0 log (nodes_stay_nodes group c all.0 has) all.1

  each_taken : (count : ℕ) (log : List Command) → Each BringsNodes log → Each BringsNodes (take count log)
  each_taken zero log all = tt
  each_taken (suc count) [] all = tt
  each_taken (suc count) (c ∷ log) all = (all.0, each_taken count log all.1)

  pub slots_have_nodes : (ahead : Ahead) (base : Base) (journal : Rows) → HasNodes base.core → Each BringsNodes (decided_log ahead base journal) → (slot node : ℕ) → is_member (logged_sets ahead base journal slot) node ≡ true → Home node
  slots_have_nodes ahead base journal begins all slot node m =
      let log = take (slot - ahead.slots) (decided_log ahead base journal) in
      let has = log_nodes (group_of base) log begins (each_taken (slot - ahead.slots) (decided_log ahead base journal) all) in
      Each-among (λ n. Home n) (state_after (group_of base) log).core.members node has.0 (member-among (state_after (group_of base) log).core.members node m)
