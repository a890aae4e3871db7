-- The entries of one log, one after another, in a world that allowed entries made: each child that they name is new, and is created as they say.
use Rattle.std.proofs.Common.{◌≡◌, ℕ, ◌+◌, List, [], ◌∷◌, ◌++◌, Option, Some, None, ◌⊎◌, inl, inr, refl, sym, ◌∙◌, ap, append-nil, append_assoc}
use Rattle.std.specs.Option.{option_map, option_to_list}
use Rattle.sc_base.specs.Definitions.{Among}
use Rattle.sc_base.specs.declared.names.Draw.{Draw}
use Rattle.sc_words.specs.declared.commands.commands.Command.{Command}
use Rattle.sc_words.specs.declared.commands.cores.Base.{Base}
use Rattle.sc_words.specs.declared.commands.effects.Effect.{Effect}
use Rattle.sc_paxos_law.proofs.Lemmas.{Among-right}
use Rattle.sc_group_table.specs.machine.MachineDefinitions.{Group, group_of, state_after, entry_of, done_by, applied, child_of}
use Rattle.sc_meaning.specs.entries.EntryDefinitions.{birth_of, division_of, StoreWorld, after_command, named_group, recorded, world_after}
use Rattle.sc_meaning.specs.declared.entries.Division.{Division}
use Rattle.sc_meaning.specs.declared.entries.LogEntry.{LogEntry}
use Rattle.sc_law_entries.proofs.HistoryProofs.HistoryLemmas.{logs_make_states, applied_same}
use Rattle.sc_law_entries.specs.ring.RingDefinitions.{Sources, IsAllowed, AreAllowed, StoryWorld, recorded_next, recorded_after, put, Groups}
use Rattle.sc_law_entries.proofs.RingProofs.RingLemmas.{at-same, at-other, arcs_in, groups_in, with_child, groups_are, KeptWorld, kept_on, fits, some_none}
use Rattle.sc_meaning.proofs.EntriesProofs.EntryLemmas.{draw_cases, found_name}
use Rattle.sc_meaning.specs.sound.SoundDefinitions.{children_of, entries_from}
use Rattle.sc_law_entries.proofs.LogsProofs.ChildrenInLogs.{log_of_own}
use Rattle.std.proofs.lemmas.Option.{none-some, same_Some}

-- more entries are applied to the world before them
pub recorded_append : (w : StoryWorld) (entries more : List LogEntry) → recorded_after w (entries ++ more) ≡ recorded_after (recorded_after w entries) more
recorded_append w [] more = refl
recorded_append w (e ∷ es) more = recorded_append (recorded_next w e) es more

-- a group that there is stays
pub stays_there : (world : StoreWorld) (name : Draw) (group : Group) → named_group name world.groups ≡ Some group → (entries : List LogEntry) → (later : Group) × (named_group name (world_after world entries).groups ≡ Some later)
stays_there world name group found entries = (_, logs_make_states world name group found entries)

born_as : (group : Group) (o : Option Division) (child : Base) → option_map (λ (d : Division). child_of group d.at d.child) o ≡ Some child → (d : Division) × (o ≡ Some d) × (d.child ≡ child.core.id)
born_as group None child e = absurd (none-some child e)
born_as group (Some d) child e = (d, refl, ap (λ (b : Base). b.core.id) (same_Some (child_of group d.at d.child) child e))

-- nothing is where nothing can be
pub none_there : (o : Option Group) → ((group : Group) → o ≡ Some group → ⊥) → o ≡ None
none_there None never = refl
none_there (Some group) never = absurd (never group refl)

-- a child before others
from_joined : (o : Option Base) (rest : List Base) (child : Base) → Among child (option_to_list o ++ rest) → (o ≡ Some child) ⊎ Among child rest
from_joined None rest child a = inr a
from_joined (Some first) rest child (inl same) = inl (ap Some same)
from_joined (Some first) rest child (inr a) = inr a

joined_first : (o : Option Base) (rest : List Base) (child : Base) → o ≡ Some child → Among child (option_to_list o ++ rest)
joined_first None rest child e = absurd (none-some child e)
joined_first (Some first) rest child e = inl (same_Some first child e)

-- where a child is created among entries
pub record IsBornAmong (world : StoreWorld) (entries : List LogEntry) (child : Base) : Type 0 where
  pub first : List LogEntry
  pub rest : List LogEntry
  pub are : entries ≡ first ++ rest
  pub there : named_group child.core.id (world_after world first).groups ≡ Some (group_of child)

-- who is there after entries: one who was there, or one of these children
abbrev pub IsOldOrOneOf : StoreWorld → List Base → Draw → Type 0
IsOldOrOneOf world children name = ((old : Group) × (named_group name world.groups ≡ Some old)) ⊎ ((child : Base) × Among child children × (child.core.id ≡ name))

-- what entries of a group make of the names
pub record BornBy (name : Draw) (world : StoreWorld) (slot : ℕ) (group : Group) (cs : List Command) : Type 0 where
  -- each child is new
  pub unborn : (child : Base) → Among child (children_of group cs) → named_group child.core.id world.groups ≡ None
  -- of two with one name there is one
  pub one : (child other : Base) → Among child (children_of group cs) → Among other (children_of group cs) → child.core.id ≡ other.core.id → child ≡ other
  -- the child is created
  pub born : (child : Base) → Among child (children_of group cs) → IsBornAmong world (entries_from name slot cs) child
  -- no others come
  pub who : (other : Draw) (it : Group) → named_group other (world_after world (entries_from name slot cs)).groups ≡ Some it → IsOldOrOneOf world (children_of group cs) other
  -- and the history gets the calls that took effect
  pub history : (world_after world (entries_from name slot cs)).history ≡ world.history ++ done_by group cs

module _ (sources : Sources) (name : Draw) where
  -- one entry of a group, and more after it
  module _ (w : StoryWorld) (kept : KeptWorld sources.owner w) (group : Group) (found : named_group name w.store.groups ≡ Some group) (slot : ℕ) (c : Command) (allowed : IsAllowed sources w.stories name c) where
    abbrev entry : LogEntry
    entry = record { group = name; slot = slot; command = c }

    abbrev gs : Groups
    gs = groups_in w.store.groups

    abbrev r : Group × Effect
    r = applied group c

    abbrev now : StoreWorld
    now = recorded w.store entry

    named : group.core.id ≡ name
    named = found_name name w.store.groups group found

    here : named_group group.core.id w.store.groups ≡ Some group
    here = ap gs named ∙ found

    abbrev birth : Option Base
    birth = birth_of group c r.1

    -- a child's name is new
    fresh : (child : Base) → birth ≡ Some child → named_group child.core.id w.store.groups ≡ None
    fresh child e =
        let (d, fact, same) = born_as group (division_of group.core c r.1) child e in
        ap gs (sym same) ∙ (fits sources (arcs_in w.store.ring) gs w.stories name group kept.kept found c allowed).births d fact

    other_than_own : (child : Base) → birth ≡ Some child → child.core.id ≡ group.core.id → ⊥
    other_than_own child e same = some_none group (sym here ∙ ap gs (sym same) ∙ fresh child e)

    names_after : (other : Draw) → named_group other now.groups ≡ with_child (put gs group.core.id (Some r.0)) birth other
    names_after other =
        ap (λ o. named_group other (after_command w.store o c).groups) found
        ∙ groups_are group r.0 birth w.store.groups (applied_same group c).0 here (λ child e. at-other gs group.core.id (Some r.0) child.core.id (other_than_own child e) ∙ fresh child e) other

    child_there : (child : Base) → birth ≡ Some child → named_group child.core.id now.groups ≡ Some (group_of child)
    child_there child e =
        names_after child.core.id ∙ ap (λ o. with_child (put gs group.core.id (Some r.0)) o child.core.id) e ∙ at-same (put gs group.core.id (Some r.0)) child.core.id (Some (group_of child))

    own_there : named_group name now.groups ≡ Some r.0
    own_there = logs_make_states w.store name group found (entry ∷ []) ∙ ap (λ cs. Some (state_after group cs)) (log_of_own name slot (c ∷ []))

    -- a group after the entry was there before, or is the child
    abbrev WasThere : Draw → Type 0
    WasThere other = (old : Group) × (named_group other w.store.groups ≡ Some old)

    old_there : (other : Draw) (it : Group) → put gs group.core.id (Some r.0) other ≡ Some it → WasThere other
    old_there other it e = elim (draw_cases other group.core.id) [
      | inl same ↦ (group, ap gs same ∙ here)
      | inr ne ↦ (it, sym (at-other gs group.core.id (Some r.0) other ne) ∙ e)
    ]

    who_is_there : (o : Option Base) → (other : Draw) (it : Group) → with_child (put gs group.core.id (Some r.0)) o other ≡ Some it → WasThere other ⊎ ((child : Base) × (o ≡ Some child) × (child.core.id ≡ other))
    who_is_there None other it e = inl (old_there other it e)
    who_is_there (Some child) other it e = elim (draw_cases other child.core.id) [
      | inl same ↦ inr (child, refl, sym same)
      | inr ne ↦ inl (old_there other it (sym (at-other (put gs group.core.id (Some r.0)) child.core.id (Some (group_of child)) other ne) ∙ e))
    ]

    old_or_child : (other : Draw) (it : Group) → named_group other now.groups ≡ Some it → WasThere other ⊎ ((child : Base) × (birth ≡ Some child) × (child.core.id ≡ other))
    old_or_child other it e = who_is_there birth other it (sym (names_after other) ∙ e)

    -- who is not there afterwards was not there
    not_there : (other : Draw) → named_group other now.groups ≡ None → named_group other w.store.groups ≡ None
    not_there other e = none_there (named_group other w.store.groups) (λ it fact. (
        let (later, there) = stays_there w.store other it fact (entry ∷ []) in
        some_none later (sym there ∙ e)))

    module _ (cs : List Command) (more : BornBy name now (slot + 1) r.0 cs) where
      abbrev rest : List Base
      rest = children_of r.0 cs

      -- the child is none of the others
      not_later : (child other : Base) → birth ≡ Some child → Among other rest → child.core.id ≡ other.core.id → ⊥
      not_later child other e a same = some_none (group_of child) (sym (child_there child e) ∙ ap (λ n. named_group n now.groups) same ∙ more.unborn other a)

      push_one : (child other : Base) → (birth ≡ Some child) ⊎ Among child rest → (birth ≡ Some other) ⊎ Among other rest → child.core.id ≡ other.core.id → child ≡ other
      push_one child other (inl e) (inl f) same = same_Some child other (sym e ∙ f)
      push_one child other (inl e) (inr b) same = absurd (not_later child other e b same)
      push_one child other (inr a) (inl f) same = absurd (not_later other child f a (sym same))
      push_one child other (inr a) (inr b) same = more.one child other a b same

      push_unborn : (child : Base) → (birth ≡ Some child) ⊎ Among child rest → named_group child.core.id w.store.groups ≡ None
      push_unborn child (inl e) = fresh child e
      push_unborn child (inr a) = not_there child.core.id (more.unborn child a)

      push_born : (child : Base) → (birth ≡ Some child) ⊎ Among child rest → IsBornAmong w.store (entries_from name slot (c ∷ cs)) child
      push_born child (inl e) = record { first = entry ∷ []; rest = entries_from name (slot + 1) cs; are = refl; there = child_there child e }
      push_born child (inr a) =
          let b = more.born child a in
          record { first = entry ∷ b.first; rest = b.rest; are = ap (λ es. entry ∷ es) b.are; there = b.there }

      push_who : (other : Draw) → IsOldOrOneOf now rest other → IsOldOrOneOf w.store (children_of group (c ∷ cs)) other
      push_who other (inl (old, e)) = elim (old_or_child other old e) [
        | inl was ↦ inl was
        | inr (child, fact, same) ↦ inr (child, joined_first birth rest child fact, same)
      ]
      push_who other (inr (child, a, same)) = inr (child, Among-right child (option_to_list birth) rest a, same)

      told_now : now.history ≡ w.store.history ++ entry_of c r.1
      told_now = ap (λ o. (after_command w.store o c).history) found

      push_born_by : BornBy name w.store slot group (c ∷ cs)
      push_born_by = record {
        unborn = λ child a. push_unborn child (from_joined birth rest child a);
        one = λ child other a b same. push_one child other (from_joined birth rest child a) (from_joined birth rest other b) same;
        born = λ child a. push_born child (from_joined birth rest child a);
        who = λ other it e. push_who other (more.who other it e);
        history = more.history ∙ ap (λ es. es ++ done_by r.0 cs) told_now ∙ append_assoc w.store.history (entry_of c r.1) (done_by r.0 cs);
      }

  -- all entries
  pub born_by : (w : StoryWorld) → KeptWorld sources.owner w → (group : Group) → named_group name w.store.groups ≡ Some group → (slot : ℕ) (cs : List Command) → AreAllowed sources w (entries_from name slot cs) → BornBy name w.store slot group cs
  born_by w kept group found slot [] allowed = record {
    unborn = λ child a. absurd a;
    one = λ child other a b same. absurd a;
    born = λ child a. absurd a;
    who = λ other it e. inl (it, e);
    history = sym (append-nil w.store.history);
  }
  born_by w kept group found slot (c ∷ cs) allowed =
      let e : LogEntry = record { group = name; slot = slot; command = c } in
      push_born_by w kept group found slot c allowed.0 cs
      (born_by (recorded_next w e) (kept_on sources w e kept allowed.0) (applied group c).0 (own_there w kept group found slot c allowed.0) (slot + 1) cs allowed.1)
