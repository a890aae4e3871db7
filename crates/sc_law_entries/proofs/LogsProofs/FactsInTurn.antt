-- What holds of the groups and the entries of rows that decide in turn, with each row.
use Rattle.std.proofs.Common.{◌≡◌, ℕ, zero, suc, ◌+◌, List, [], ◌∷◌, ◌++◌, map, length, drop, Option, Some, None, ◌⊎◌, inl, inr, refl, sym, ◌∙◌, ap, subst, append-nil, arith}
use Rattle.std.proofs.Math.Seq.{drop-length}
use Rattle.sc_base.specs.Definitions.{Among, Each}
use Rattle.sc_base.specs.declared.names.Draw.{Draw}
use Rattle.sc_words.specs.declared.commands.commands.Command.{Command}
use Rattle.sc_words.specs.declared.commands.commands.Command.TheVariants.{Call}
use Rattle.sc_words.specs.declared.commands.cores.Base.{Base}
use Rattle.sc_words.specs.declared.commands.orders.OrderLine.{OrderLine}
use Rattle.sc_mail.specs.declared.bodies.Mail.{Mail}
use Rattle.sc_actor.specs.declared.rows.Row.{Row}
use Rattle.sc_words.specs.declared.ideal.Entry.{Entry}
use Rattle.sc_group_table.specs.machine.MachineDefinitions.{Group, group_of, state_after, done_by}
use Rattle.sc_words.proofs.PaxosProofs.PaxosLemmas.{Each-among, Each-from, find_found}
use Rattle.sc_meaning.specs.sound.SoundDefinitions.{Ahead, children_of, birth_at, entries_from, entries_at, world_at, decided_log, decided_state}
use Rattle.sc_meaning.specs.declared.entries.Cut.{Cut}
use Rattle.sc_meaning.specs.declared.entries.LogEntry.{LogEntry}
use Rattle.sc_meaning.specs.entries.EntryDefinitions.{first_cut, StoreWorld, first_world, is_named, named_group, world_after, world_of}
use Rattle.sc_meaning.proofs.EntriesProofs.EntryLemmas.{world_append, found_name, draw_cases}
use Rattle.sc_law_entries.specs.history.HistoryDefinitions.{log_in}
use Rattle.sc_law_entries.proofs.HistoryProofs.HistoryLemmas.{logs_make_states, calls_of}
use Rattle.sc_paxos_law.proofs.Lemmas.{from_map}
use Rattle.sc_law_entries.proofs.RingProofs.RingLemmas.{store_after, Pairwise, map_among, some_none, at_start, KeptWorld, kept_after}
use Rattle.sc_law_entries.specs.ring.RingDefinitions.{Sources, IsAllowed, AreAllowed, StoryWorld, first_recorded, recorded_after, BeginInPlace}
use Rattle.sc_law_entries.specs.logs.LogDefinitions.{Rows, Descends, IsFound, added_by, newborn_by}
use Rattle.sc_law_entries.proofs.LogsProofs.BirthRecords.{HaveTwoNames}
use Rattle.sc_law_entries.proofs.LogsProofs.Generations.{FoundInTurn, AreOne, AreNear, IsNamedNow, known_by_name, birth_found}
use Rattle.sc_law_entries.proofs.LogsProofs.BirthsInLogs.{IsBornAmong, BornBy, born_by}
use Rattle.sc_law_entries.proofs.LogsProofs.AllowedOneByOne.{all_allowed}

-- a group is created among the entries, and its own entries come after
pub record IsBorn (bases : List Base) (entries : List LogEntry) (base : Base) (log : List Command) : Type 0 where
  pub first : List LogEntry
  pub rest : List LogEntry
  pub are : entries ≡ first ++ rest
  pub there : named_group base.core.id (world_of bases first).groups ≡ Some (group_of base)
  pub silent : log_in base.core.id first ≡ []
  pub log_is : log_in base.core.id rest ≡ log

-- what holds of a journal
pub record JournalFacts (sources : Sources) (ahead : Ahead) (bases : List Base) (rows : Rows) : Type 0 where
  -- the groups that are found are found soon, under names of their own
  pub near : AreNear ahead bases rows
  pub one : AreOne ahead bases rows
  -- the entries are allowed one after another
  pub allowed : AreAllowed sources (first_recorded bases) (entries_at ahead bases rows)
  -- each group is created among them
  pub born : (base : Base) → IsFound ahead bases rows base → IsBorn bases (entries_at ahead bases rows) base (decided_log ahead base rows)
  -- each entry is a group's, and no other group is there
  pub only : (entry : LogEntry) → Among entry (entries_at ahead bases rows) → (base : Base) × IsFound ahead bases rows base × (base.core.id ≡ entry.group)
  pub who : (name : Draw) (it : Group) → named_group name (world_at ahead bases rows).groups ≡ Some it → (base : Base) × IsFound ahead bases rows base × (base.core.id ≡ name)

pairwise_back : (bases : List Base) → Pairwise (λ (c o : Cut). c.group ≡ o.group → ⊥) (map first_cut bases) → Pairwise HaveTwoNames bases
pairwise_back [] k = tt
pairwise_back (base ∷ bases) k = (
  Each-from (HaveTwoNames base) bases (λ b a. Each-among (λ (o : Cut). base.core.id ≡ o.group → ⊥) (map first_cut bases) (first_cut b) k.0 (map_among first_cut bases b a)),
  pairwise_back bases k.1,
)

pairwise_one : (bases : List Base) → Pairwise HaveTwoNames bases → (one other : Base) → Among one bases → Among other bases → one.core.id ≡ other.core.id → one ≡ other
pairwise_one [] k one other a b same = absurd a
pairwise_one (x ∷ bases) k one other (inl e) (inl f) same = sym e ∙ f
pairwise_one (x ∷ bases) k one other (inl e) (inr b) same = absurd (Each-among (HaveTwoNames x) bases other k.0 b (ap (λ (z : Base). z.core.id) e ∙ same))
pairwise_one (x ∷ bases) k one other (inr a) (inl f) same = absurd (Each-among (HaveTwoNames x) bases one k.0 a (ap (λ (z : Base). z.core.id) f ∙ sym same))
pairwise_one (x ∷ bases) k one other (inr a) (inr b) same = pairwise_one bases k.1 one other a b same

module _ (sources : Sources) (ahead : Ahead) (bases : List Base) (start : BeginInPlace sources bases) where
  pub two_names : Pairwise HaveTwoNames bases
  two_names = pairwise_back bases (at_start sources bases start).apart

  -- ---- before any row

  first_found : (depth : ℕ) (base : Base) → Descends ahead bases [] depth base → Among base bases
  first_found zero base a = a
  first_found (suc depth) base (parent, d, child) = absurd child

  pub first_rows : JournalFacts sources ahead bases []
  first_rows = record {
    near = λ base (depth, d). (0, omega arith, first_found depth base d);
    one = λ one other (k, d) (l, e) same. pairwise_one bases two_names one other (first_found k one d) (first_found l other e) same;
    allowed = tt;
    born = λ base (depth, d). record {
      first = [];
      rest = [];
      are = refl;
      there = (at_start sources bases start).found (group_of base) (map_among group_of bases base (first_found depth base d));
      silent = refl;
      log_is = refl;
    };
    only = λ entry a. absurd a;
    who = λ name it e. (
        let (base, a, fact) = from_map group_of bases it (find_found (is_named name) (map group_of bases) it e).0 in
        (base, (0, a), ap (λ (x : Group). x.core.id) fact ∙ found_name name (map group_of bases) it e));
  }

  module _ (before : Rows) (k : JournalFacts sources ahead bases before) where
    abbrev pub old : List LogEntry
    old = entries_at ahead bases before

    abbrev pub world : StoreWorld
    world = world_at ahead bases before

    -- each group is as its own log makes it
    pub state_there : (base : Base) → IsFound ahead bases before base → named_group base.core.id world.groups ≡ Some (decided_state ahead base before)
    state_there base f =
        let b = k.born base f in
        ap (λ es. named_group base.core.id (world_of bases es).groups) b.are
        ∙ ap (λ (w : StoreWorld). named_group base.core.id w.groups) (world_append (first_world bases) b.first b.rest)
        ∙ logs_make_states (world_of bases b.first) base.core.id (group_of base) b.there b.rest
        ∙ ap (λ cs. Some (state_after (group_of base) cs)) b.log_is

    kept : KeptWorld sources.owner (recorded_after (first_recorded bases) old)
    kept = kept_after sources (first_recorded bases) old (at_start sources bases start) k.allowed

    store_is : (recorded_after (first_recorded bases) old).store ≡ world
    store_is = store_after (first_recorded bases) old

    -- ---- one more row

    module _ (row : Row Mail OrderLine) (turn : FoundInTurn sources ahead bases before row) where
      abbrev added : Base → List Command
      added base = added_by ahead before row base

      abbrev IsNew : Base → Type 0
      IsNew child = IsNamedNow sources ahead bases before row turn child

      -- what the row decides, and of whose log
      pub record Decides : Type 0 where
        pub slot : ℕ
        pub cs : List Command
        pub mine : (base : Base) → IsFound ahead bases before base → base.core.id ≡ turn.name → added base ≡ cs
        pub decider : (cs ≡ []) ⊎ ((base : Base) × IsFound ahead bases before base × (base.core.id ≡ turn.name) × (slot ≡ length (decided_log ahead base before) + 1))
        pub allowed : AreAllowed sources (recorded_after (first_recorded bases) old) (entries_from turn.name slot cs)
        pub unborn : (child : Base) → IsNew child → named_group child.core.id world.groups ≡ None
        pub one : (child other : Base) → IsNew child → IsNew other → child.core.id ≡ other.core.id → child ≡ other
        pub born : (child : Base) → IsNew child → IsBornAmong world (entries_from turn.name slot cs) child
        pub who : (name : Draw) (it : Group) → named_group name (world_after world (entries_from turn.name slot cs)).groups ≡ Some it
            → ((was : Group) × (named_group name world.groups ≡ Some was)) ⊎ ((child : Base) × IsNew child × (child.core.id ≡ name))
        pub news : List Entry
        pub history : (world_after world (entries_from turn.name slot cs)).history ≡ world.history ++ news
        pub backlog : (entry : Entry) → Among entry news → (base : Base) × IsFound ahead bases before base × Among (Call entry.client entry.seq entry.op) (added base)

      -- a group of another name gets nothing, and names no child
      pub others_idle : (base : Base) → IsFound ahead bases before base → (base.core.id ≡ turn.name → ⊥) → added base ≡ []
      others_idle base f ne = ap (drop (length (decided_log ahead base before))) (turn.others base f ne) ∙ drop-length (decided_log ahead base before)

      others_barren : (base : Base) → IsFound ahead bases before base → (base.core.id ≡ turn.name → ⊥) → newborn_by ahead before row base ≡ []
      others_barren base f ne = ap (children_of (decided_state ahead base before)) (others_idle base f ne)

      -- ---- for no group

      module _ (none : (base : Base) → IsFound ahead bases before base → base.core.id ≡ turn.name → ⊥) where
        no_new : (child : Base) → IsNew child → ⊥
        no_new child (parent, f, a) = subst (Among child) (others_barren parent f (none parent f)) a

        for_none : Decides
        for_none = record {
          slot = 0;
          cs = [];
          mine = λ base f e. absurd (none base f e);
          decider = inl refl;
          allowed = tt;
          unborn = λ child n. absurd (no_new child n);
          one = λ child other n m same. absurd (no_new child n);
          born = λ child n. absurd (no_new child n);
          who = λ name it e. inl (it, e);
          news = [];
          history = sym (append-nil world.history);
          backlog = λ entry a. absurd a;
        }

      -- ---- for one group

      module _ (group : Base) (found : IsFound ahead bases before group) (named : group.core.id ≡ turn.name) where
        abbrev at : ℕ
        at = length (decided_log ahead group before) + 1

        abbrev w : StoryWorld
        w = recorded_after (first_recorded bases) old

        may : AreAllowed sources w (entries_from turn.name at (added group))
        may = all_allowed sources bases start old k.allowed turn.name at (added group) (subst (λ n. Each (IsAllowed sources w.stories n) (added group)) named (turn.allowed group found))

        births : BornBy turn.name world at (decided_state ahead group before) (added group)
        births =
            subst (λ x. BornBy turn.name x at (decided_state ahead group before) (added group)) store_is
            (born_by sources turn.name w kept (decided_state ahead group before)
            (ap (λ (x : StoreWorld). named_group turn.name x.groups) store_is ∙ ap (λ n. named_group n world.groups) (sym named) ∙ state_there group found) at (added group) may)

        -- a new child is the group's
        its : (child : Base) → IsNew child → Among child (newborn_by ahead before row group)
        its child (parent, f, a) = elim (draw_cases parent.core.id turn.name) [
          | inl e ↦ subst (λ x. Among child (newborn_by ahead before row x)) (k.one parent group f found (e ∙ sym named)) a
          | inr ne ↦ absurd (subst (Among child) (others_barren parent f ne) a)
        ]

        for_one : Decides
        for_one = record {
          slot = at;
          cs = added group;
          mine = λ base f e. ap added (k.one base group f found (e ∙ sym named));
          decider = inr (group, found, named, refl);
          allowed = may;
          unborn = λ child n. births.unborn child (its child n);
          one = λ child other n m same. births.one child other (its child n) (its other m) same;
          born = λ child n. births.born child (its child n);
          who = λ name it e. elim (births.who name it e) [ inl was ↦ inl was | inr (child, a, same) ↦ inr (child, (group, found, a), same) ];
          news = done_by (decided_state ahead group before) (added group);
          history = births.history;
          backlog = λ entry a. (group, found, calls_of (decided_state ahead group before) (added group) entry a);
        }

      by_birth : (o : Option Base) → birth_at ahead bases before turn.name ≡ o → Decides
      by_birth None e = for_none (λ base f same. (
          let fact = (known_by_name ahead bases before k.one k.near base f).birth in
          some_none base (sym fact ∙ ap (birth_at ahead bases before) same ∙ e)))
      by_birth (Some group) e = let (f, same) = birth_found ahead bases before turn.name group e in for_one group f same

      pub decides : Decides
      decides = by_birth (birth_at ahead bases before turn.name) refl
