-- An order that splits, and any other, is such an affair.
use Rattle.std.proofs.Common.{◌≡◌, ℕ, ◌||◌, Bool, true, false, cond, List, take, Option, Some, None, inl, inr, refl, sym, ◌∙◌, ap, subst}
use Rattle.std.specs.List.{list_any}
use Rattle.sc_base.specs.Definitions.{same_draw, is_member}
use Rattle.sc_node_table.specs.Values.{Draw, Body, Watch, Command, Split, Base, Core, Lock, Free, Coordinating, Promised, Watching, Effect, Heard, No}
use Rattle.sc_words.specs.declared.commands.bodies.Body.TheVariants as At
use Rattle.sc_words.specs.declared.commands.effects.Effect.TheVariants as Was
use Rattle.sc_words.specs.declared.commands.votes.Outcome.TheVariants as Is
use Rattle.sc_group_table.specs.machine.MachineDefinitions.{child_by, Group, applied, locked_in, staying, left_group, has_named, is_locked_in, bound_by, vote_of, watch_vote_of}
use Rattle.sc_paxos_law.proofs.Lemmas.{among-member, member-among}
use Rattle.sc_meaning.specs.declared.entries.Division.{Division}
use Rattle.sc_meaning.specs.entries.EntryDefinitions.{division_in, division_of}
use Rattle.sc_law_walks.proofs.WalkLemmas.{MachineWalk, machine_step, unrefused_free}
use Rattle.sc_live_plain.proofs.PlainLemmas.{among_first}
use Rattle.sc_live_answers.specs.AnswerDefinitions.{DoesSplit, DoesOther, DoesBy, SplitsInto, LockSplits, LockOther, IsBy, CreatesBy}
use Rattle.sc_live_answers.proofs.WorkProofs.Affairs.{Affair, BeginsFree}
use Rattle.sc_live_answers.proofs.ChildrenProofs.ChildDivisions.{division_at, undivided, nothing_divided, child_divided}
use Rattle.sc_live_answers.proofs.ChildrenProofs.ChildrenUnderOrders.{none_some}
use Rattle.sc_live_answers.proofs.VotesProofs.OrderNumbers.{numbered, numbered_free}

-- of two that are off, the first is
pub first_off : (b c : Bool) → b || c ≡ false → b ≡ false
first_off true c e = cc
first_off false c e = refl

-- ---- an order that splits

module _ (told child name : Draw) where
  abbrev S : Core → Type 0
  S core = LockSplits told child name core.born core.lock

  pub lock_free : (core : Core) → core.lock ≡ Free → S core
  lock_free core e = subst (λ l. LockSplits told child name core.born l) (sym e) tt

  module _ (group : Group) where
    -- each member after it was one
    abbrev Were : Group → Type 0
    Were after = (node : ℕ) → is_member after.core.members node ≡ true → is_member group.core.members node ≡ true

    -- any division is the order's
    abbrev Divides : Command → Effect → Type 0
    Divides c effect = (d : Division) → division_of group.core c effect ≡ Some d → (name ≡ told) × (d.child ≡ child)

    -- a command of the order leaves such a lock, adds no member, and divides by the order alone
    abbrev Splits : Command → Group × Effect → Type 0
    Splits c x = DoesSplit told child name c → S x.0.core × Were x.0 × Divides c x.1

    left_were : (at : ℕ) (drawn : Draw) → Were (left_group group at drawn)
    left_were at drawn node fact =
        among-member group.core.members node (among_first (staying group.core.members) group.core.members node (member-among (take (staying group.core.members) group.core.members) node fact))

    drawn_child : (at : ℕ) (drawn : Draw) (d : Division) → Some (division_at at drawn) ≡ Some d → drawn ≡ child → d.child ≡ child
    drawn_child at drawn d e fact = (let same : division_at at drawn ≡ d = cc in sym (ap (λ (x : Division). x.child) same) ∙ fact)

    unborn : has_named group.core child ≡ false → list_any (λ other. same_draw other child) group.core.born ≡ false
    unborn new =
        first_off (list_any (λ other. same_draw other child) group.core.born) (list_any (λ decision. same_draw decision.0 child) group.core.decided)
        (first_off (list_any (λ other. same_draw other child) group.core.born || list_any (λ decision. same_draw decision.0 child) group.core.decided) (is_locked_in (locked_in group.core.lock) child) new)

    bound_so : (why : Option No) (tx : Draw) (watch : Watch) (lock : Lock) → LockSplits told child name group.core.born lock → LockSplits told child name group.core.born (bound_by why (Watching tx watch) lock)
    bound_so None tx watch lock l = tt
    bound_so (Some why) tx watch lock l = l

    module _ (s : S group.core) where
      -- what it is locked in
      in_lock : {lock : Lock} → group.core.lock ≡ lock → LockSplits told child name group.core.born lock
      in_lock e = subst (λ l. LockSplits told child name group.core.born l) e s

      split_walk : MachineWalk group Splits
      split_walk = record {
        same = λ c effect none d. (s, (λ node fact. fact), λ div e. none_some (sym (nothing_divided group c effect none) ∙ e));
        serves = λ client seq op d. absurd d;
        joins = λ node order a d. absurd d;
        leaves = λ node order a d. absurd d;
        splits = λ at drawn order a new alone d. (
          subst (λ l. LockSplits told child name (left_group group at drawn).core.born l) (sym (unrefused_free group.core (Split at drawn order) a.taken)) tt,
          left_were at drawn,
          λ div e. (d.0, drawn_child at drawn div (sym (ap (λ b. cond b (Some (division_at at drawn)) None) alone) ∙ e) d.1),
        );
        begins_split = λ at drawn order a new other d. (
          (d.0, d.1, unborn (subst (λ n. has_named group.core n ≡ false) d.1 new)),
          (λ node fact. fact),
          λ div e. none_some (sym (ap (λ b. cond b (Some (division_at at drawn)) None) other) ∙ e),
        );
        begins = λ tx body order a new d. absurd d;
        offers = λ tx offer new d. absurd d;
        watches = λ tx watch new d. (bound_so (watch_vote_of group.core watch) tx watch group.core.lock s, (λ node fact. fact), λ div e. none_some e);
        hears = λ tx order lock frozen by other d. absurd d;
        aborts = λ c tx ends body order got lock d. (tt, (λ node fact. fact), λ div e. none_some (sym (undivided group c (Was.Decided Is.Abort) refl refl) ∙ e));
        divides = λ tx at drawn order got lock by can d. (tt, left_were at drawn, λ div e. (let b = in_lock lock in (b.0, drawn_child at drawn div (sym (ap division_in lock) ∙ e) b.1)));
        merges = λ tx order heard lock by may d. absurd (in_lock lock);
        closes = λ tx order lock frozen by two may d. absurd d;
        gives = λ tx at order lock frozen by here can d. absurd d;
        takes = λ tx at order lock frozen by there can d. absurd d;
        migrates = λ tx node order lock frozen by can d. absurd d;
        stays = λ tx offer lock d. absurd (in_lock lock);
        goes = λ tx offer lock into d. absurd (in_lock lock);
        gains = λ tx offer lock at gift can d. absurd (in_lock lock);
        loses = λ tx offer lock at can d. absurd (in_lock lock);
        welcomes = λ tx offer lock node few d. absurd (in_lock lock);
        sees_end = λ tx watch lock outcome d. (tt, (λ node fact. fact), λ div e. none_some e);
      }

      pub split_done : (command : Command) → Splits command (applied group command)
      split_done command = machine_step group Splits split_walk command

      -- so its child is the order's
      pub split_creates : (command : Command) (kid : Base) → DoesSplit told child name command → child_by group command ≡ Some kid → CreatesBy true told child name kid
      split_creates command kid d e =
          let c = child_divided group command kid e in
          let of = (split_done command d).2 c.0 c.1 in
          subst (CreatesBy true told child name) (sym c.2) (of.0, of.1, refl)

-- what is asked then is asked of a watcher
pub split_asks : (told child name : Draw) (born : List Draw) (tx : Draw) (body : Body) (order : ℕ) (heard : Option Heard) (lock : Lock) → LockSplits told child name born lock → lock ≡ Coordinating tx body order heard → (at : ℕ) × (drawn : Draw) × (body ≡ At.Split at drawn)
split_asks told child name born tx body order heard lock l e = by body (subst (λ k. LockSplits told child name born k) e l)
  where
    by : (b : Body) → SplitsInto told child name born b → (at : ℕ) × (drawn : Draw) × (b ≡ At.Split at drawn)
    by (At.Split at drawn) k = (at, drawn, refl)
    by At.Merge k = absurd k
    by (At.Repart at) k = absurd k
    by (At.Migrate node) k = absurd k

-- ---- another order

module _ (group : Group) (s : LockOther group.core.lock) where
  -- a command of the order leaves no lock in a split, and divides nothing
  abbrev Other : Command → Group × Effect → Type 0
  Other c x = DoesOther c → LockOther x.0.core.lock × ((d : Division) → division_of group.core c x.1 ≡ Some d → ⊥)

  other_bound : (why : Option No) (bond lock : Lock) → LockOther bond → LockOther lock → LockOther (bound_by why bond lock)
  other_bound None bond lock b l = b
  other_bound (Some why) bond lock b l = l

  other_walk : MachineWalk group Other
  other_walk = record {
    same = λ c effect none d. (s, λ div e. none_some (sym (nothing_divided group c effect none) ∙ e));
    serves = λ client seq op d. absurd d;
    joins = λ node order a d. (s, λ div e. none_some e);
    leaves = λ node order a d. (s, λ div e. none_some e);
    splits = λ at child order a new alone d. absurd d;
    begins_split = λ at child order a new other d. absurd d;
    begins = λ tx body order a new d. (d, λ div e. none_some e);
    offers = λ tx offer new d. (other_bound (vote_of group.core offer) (Promised tx offer) group.core.lock tt s, λ div e. none_some e);
    watches = λ tx watch new d. (other_bound (watch_vote_of group.core watch) (Watching tx watch) group.core.lock tt s, λ div e. none_some e);
    hears = λ tx order lock frozen by other d. (tt, λ div e. none_some e);
    aborts = λ c tx ends body order got lock d. (tt, λ div e. none_some (sym (undivided group c (Was.Decided Is.Abort) refl refl) ∙ e));
    divides = λ tx at child order got lock by can d. absurd (subst LockOther lock s);
    merges = λ tx order heard lock by may d. (tt, λ div e. none_some e);
    closes = λ tx order lock frozen by two may d. (tt, λ div e. none_some e);
    gives = λ tx at order lock frozen by here can d. (tt, λ div e. none_some e);
    takes = λ tx at order lock frozen by there can d. (tt, λ div e. none_some e);
    migrates = λ tx node order lock frozen by can d. (tt, λ div e. none_some e);
    stays = λ tx offer lock d. (tt, λ div e. none_some e);
    goes = λ tx offer lock into d. (tt, λ div e. none_some e);
    gains = λ tx offer lock at gift can d. (tt, λ div e. none_some e);
    loses = λ tx offer lock at can d. (tt, λ div e. none_some e);
    welcomes = λ tx offer lock node few d. (tt, λ div e. none_some e);
    sees_end = λ tx watch lock outcome d. (tt, λ div e. none_some e);
  }

  pub other_done : (command : Command) → Other command (applied group command)
  other_done command = machine_step group Other other_walk command

  -- so it makes no child
  pub other_creates : (command : Command) (kid : Base) → DoesOther command → child_by group command ≡ Some kid → ⊥
  other_creates command kid d e = (let c = child_divided group command kid e in (other_done command d).1 c.0 c.1)

-- ---- both

abbrev pub affair_by : Bool → Draw → Draw → Affair
affair_by true told child = record {
  Parts = ⊥;
  Does = λ name command. DoesBy true told child name command;
  Is = λ name core. IsBy true told child name core;
  Creates = λ name base. CreatesBy true told child name base;
  backlog = λ name client seq op d. d;
  entered = λ name group command s d. (split_done told child name group s command d).0;
  creation = λ name group command kid s d e. split_creates told child name group s command kid d e;
  adds = λ name group command s d. inr (split_done told child name group s command d).1;
  asks = λ name core tx body order heard s e. inr (split_asks told child name core.born tx body order heard core.lock s e);
  renamed = λ name id core s. s;
  begins = λ name tx body order d. d;
  votes = λ name tx offer d. d;
  offer = λ name tx offer p. absurd p;
  vote = λ name tx vote by p. absurd p;
  finish = λ name tx outcome. tt;
  watched = λ name tx watch. tt;
  watch = λ name tx vote by. tt;
}
affair_by false told child = record {
  Parts = Unit {0};
  Does = λ name command. DoesBy false told child name command;
  Is = λ name core. IsBy false told child name core;
  Creates = λ name base. CreatesBy false told child name base;
  backlog = λ name client seq op d. d;
  entered = λ name group command s d. (other_done group s command d).0;
  creation = λ name group command kid s d e. other_creates group s command kid d e;
  adds = λ name group command s d. inl tt;
  asks = λ name core tx body order heard s e. inl tt;
  renamed = λ name id core s. s;
  begins = λ name tx body order d. tt;
  votes = λ name tx offer d. tt;
  offer = λ name tx offer p. tt;
  vote = λ name tx vote by p. tt;
  finish = λ name tx outcome. tt;
  watched = λ name tx watch. tt;
  watch = λ name tx vote by. tt;
}

by_free : (b : Bool) (told child : Draw) → BeginsFree (affair_by b told child)
by_free true told child = record { free = λ name core e. lock_free told child name core e; young = λ name base b. b.2 }
by_free false told child = record { free = λ name core e. subst LockOther (sym e) tt; young = λ name base b. absurd b }

-- an order with this number
abbrev pub affair_of : ℕ → Bool → Draw → Draw → Affair
affair_of number b told child = numbered number (affair_by b told child)

pub begins_free : (number : ℕ) (b : Bool) (told child : Draw) → BeginsFree (affair_of number b told child)
begins_free number b told child = numbered_free number (affair_by b told child) (by_free b told child)
