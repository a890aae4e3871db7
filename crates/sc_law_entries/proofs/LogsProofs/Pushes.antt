-- One more row that decides in turn: what it decides, group by group, and what holds afterwards.
use Rattle.std.proofs.Common.{◌≡◌, ℕ, suc, ◌+◌, List, [], ◌∷◌, ◌++◌, length, Some, ◌⊎◌, inl, inr, sym, ◌∙◌, ap, subst, append_assoc}
use Rattle.sc_base.specs.Definitions.{Among}
use Rattle.sc_base.specs.declared.names.Draw.{Draw}
use Rattle.sc_words.specs.declared.commands.commands.Command.{Command}
use Rattle.sc_words.specs.declared.commands.cores.Base.{Base}
use Rattle.sc_words.specs.declared.commands.orders.OrderLine.{OrderLine}
use Rattle.sc_mail.specs.declared.bodies.Mail.{Mail}
use Rattle.sc_actor.specs.declared.rows.Row.{Row}
use Rattle.sc_group_table.specs.machine.MachineDefinitions.{Group}
use Rattle.sc_paxos_law.proofs.Lemmas.{Among-left, Among-right, Among-either}
use Rattle.sc_meaning.specs.sound.SoundDefinitions.{Ahead, groups_at, log_at, entries_from, entries_after, entries_gained, entries_by_row, entries_at, world_at, decided_log, decided_state}
use Rattle.sc_meaning.specs.declared.entries.LogEntry.{LogEntry}
use Rattle.sc_meaning.specs.entries.EntryDefinitions.{StoreWorld, first_world, named_group, world_after}
use Rattle.sc_meaning.proofs.EntriesProofs.EntryLemmas.{world_append, draw_cases}
use Rattle.sc_law_entries.specs.history.HistoryDefinitions.{log_in}
use Rattle.sc_law_entries.specs.ring.RingDefinitions.{Sources, AreAllowed, first_recorded, BeginInPlace}
use Rattle.sc_law_entries.proofs.RingProofs.RingLemmas.{allowed_lists_append, some_none}
use Rattle.sc_meaning.proofs.SoundProofs.SoundLemmas.{entries-push, world-push}
use Rattle.sc_law_entries.specs.logs.LogDefinitions.{Rows, IsFound, added_by}
use Rattle.sc_law_entries.proofs.LogsProofs.BirthRecords.{flat_map_none, flat_map_one}
use Rattle.sc_law_entries.proofs.LogsProofs.ChildrenInLogs.{log_append, log_of_others, log_of_own, entries_of}
use Rattle.sc_law_entries.proofs.LogsProofs.Generations.{FoundInTurn, AreOne, AreNear, log_on, still_descends, IsNamedNow, now_descends, old_or_new, near_on, group_found, groups_apart, found_group, known_by_name, no_birth_at, no_log_at}
use Rattle.sc_law_entries.proofs.LogsProofs.FactsInTurn.{IsBorn, JournalFacts, two_names, state_there, Decides, others_idle, decides}

module _ (sources : Sources) (ahead : Ahead) (bases : List Base) (start : BeginInPlace sources bases) (before : Rows) (k : JournalFacts sources ahead bases before) (row : Row Mail OrderLine) (turn : FoundInTurn sources ahead bases before row) where
  abbrev next : Rows
  next = before ++ row ∷ []

  abbrev old : List LogEntry
  old = entries_at ahead bases before

  abbrev world : StoreWorld
  world = world_at ahead bases before

  abbrev added : Base → List Command
  added base = added_by ahead before row base

  abbrev IsNew : Base → Type 0
  IsNew child = IsNamedNow sources ahead bases before row turn child

  -- what the row decides
  pub d : Decides sources ahead bases start before k row turn
  d = decides sources ahead bases start before k row turn

  abbrev new : List LogEntry
  new = entries_from turn.name d.slot d.cs

  -- ---- groups

  still_found : (base : Base) → IsFound ahead bases before base → IsFound ahead bases next base
  still_found base (depth, there) = (depth, still_descends sources ahead bases before row turn depth base there)

  now_found : (child : Base) → IsNew child → IsFound ahead bases next child
  now_found child (parent, (depth, there), a) = (suc depth, now_descends sources ahead bases before row turn child depth parent there a)

  found_before : (base : Base) → IsFound ahead bases next base → IsFound ahead bases before base ⊎ IsNew base
  found_before base (depth, there) = elim (old_or_new sources ahead bases before row turn depth base there) [ inl was ↦ inl (depth, was) | inr now ↦ inr now ]

  -- a new child has no group's name
  pub new_name : (child : Base) → IsNew child → (base : Base) → IsFound ahead bases before base → base.core.id ≡ child.core.id → ⊥
  new_name child n base f same = some_none (decided_state ahead base before) (sym (state_there sources ahead bases start before k base f) ∙ ap (λ name. named_group name world.groups) same ∙ d.unborn child n)

  one_of : (one other : Base) → IsFound ahead bases before one ⊎ IsNew one → IsFound ahead bases before other ⊎ IsNew other → one.core.id ≡ other.core.id → one ≡ other
  one_of one other (inl f) (inl g) same = k.one one other f g same
  one_of one other (inl f) (inr m) same = absurd (new_name other m one f same)
  one_of one other (inr n) (inl g) same = absurd (new_name one n other g (sym same))
  one_of one other (inr n) (inr m) same = d.one one other n m same

  one_next : AreOne ahead bases next
  one_next one other f g same = one_of one other (found_before one f) (found_before other g) same

  near_next : AreNear ahead bases next
  near_next = near_on sources ahead bases before row turn k.near

  silent_child : (child : Base) → IsNew child → decided_log ahead child next ≡ []
  silent_child child (parent, f, a) = turn.unheard parent f child a

  -- ---- what the row decides for each group

  abbrev gained : Base → List LogEntry
  gained base = entries_gained ahead bases before next base.core.id

  abbrev at : Base → ℕ
  at base = length (decided_log ahead base before) + 1

  gained_old : (base : Base) → IsFound ahead bases before base → gained base ≡ entries_from base.core.id (at base) (added base)
  gained_old base f =
      ap (λ l. entries_after base.core.id l (log_at ahead bases next base.core.id)) (known_by_name ahead bases before k.one k.near base f).log
      ∙ ap (λ l. entries_after base.core.id (decided_log ahead base before) l) (known_by_name ahead bases next one_next near_next base (still_found base f)).log

  gained_new : (child : Base) → IsNew child → gained child ≡ []
  gained_new child n =
      let name = child.core.id in
      ap (λ l. entries_after name l (log_at ahead bases next name)) (no_log_at ahead bases before name (no_birth_at ahead bases before name (new_name child n)))
      ∙ ap (λ l. entries_after name [] l) ((known_by_name ahead bases next one_next near_next child (now_found child n)).log ∙ silent_child child n)

  nothing_for : (base : Base) → IsFound ahead bases before base ⊎ IsNew base → (IsFound ahead bases before base → added base ≡ []) → gained base ≡ []
  nothing_for base (inl f) none = gained_old base f ∙ ap (λ cs. entries_from base.core.id (at base) cs) (none f)
  nothing_for base (inr n) none = gained_new base n

  pub found_next : (base : Base) → Among base (groups_at ahead bases next) → IsFound ahead bases before base ⊎ IsNew base
  found_next base a = found_before base (group_found ahead bases next base a)

  idle : (base : Base) → IsFound ahead bases before base → d.cs ≡ [] → added base ≡ []
  idle base f none = elim (draw_cases base.core.id turn.name) [
    | inl e ↦ d.mine base f e ∙ none
    | inr ne ↦ others_idle sources ahead bases start before k row turn base f ne
  ]

  by_decider : (d.cs ≡ []) ⊎ ((base : Base) × IsFound ahead bases before base × (base.core.id ≡ turn.name) × (d.slot ≡ at base)) → entries_by_row ahead bases before row ≡ new
  by_decider (inl none) =
      flat_map_none gained (groups_at ahead bases next) (λ base a. nothing_for base (found_next base a) (λ f. idle base f none))
      ∙ sym (ap (λ cs. entries_from turn.name d.slot cs) none)
  by_decider (inr (group, f, named, slot)) =
      flat_map_one gained (groups_at ahead bases next) (groups_apart ahead bases next (two_names sources ahead bases start)) group (found_group ahead bases next one_next near_next group (still_found group f))
      (λ base a ne. nothing_for base (found_next base a) (λ g. others_idle sources ahead bases start before k row turn base g (λ e. ne (e ∙ sym named))))
      ∙ gained_old group f
      ∙ ap (λ n. entries_from n (at group) (added group)) named
      ∙ ap (λ n. entries_from turn.name n (added group)) (sym slot)
      ∙ ap (λ cs. entries_from turn.name d.slot cs) (d.mine group f named)

  pub row_decides : entries_by_row ahead bases before row ≡ new
  row_decides = by_decider d.decider

  pub entries_next : entries_at ahead bases next ≡ old ++ new
  entries_next = entries-push ahead bases before row ∙ ap (λ es. old ++ es) row_decides

  pub world_next : world_at ahead bases next ≡ world_after world new
  world_next = world-push ahead bases before row ∙ ap (world_after world) row_decides

  allowed_next : AreAllowed sources (first_recorded bases) (entries_at ahead bases next)
  allowed_next = subst (AreAllowed sources (first_recorded bases)) (sym entries_next) (allowed_lists_append sources (first_recorded bases) old new k.allowed d.allowed)

  -- ---- whose entries they are

  new_is : (entry : LogEntry) → Among entry new → (base : Base) × IsFound ahead bases before base × (base.core.id ≡ entry.group)
  new_is entry a = elim d.decider [
    | inl none ↦ absurd (subst (λ cs. Among entry (entries_from turn.name d.slot cs)) none a)
    | inr (group, f, named, slot) ↦ (group, f, named ∙ entries_of turn.name d.slot d.cs entry a)
  ]

  entry_is : (entry : LogEntry) → Among entry (old ++ new) → (base : Base) × IsFound ahead bases before base × (base.core.id ≡ entry.group)
  entry_is entry a = elim (Among-either entry old new a) [ inl b ↦ k.only entry b | inr b ↦ new_is entry b ]

  -- none of them is a new child's
  not_child : (child : Base) → IsNew child → (entry : LogEntry) → Among entry (old ++ new) → entry.group ≡ child.core.id → ⊥
  not_child child n entry a same = let (base, f, named) = entry_is entry a in new_name child n base f (named ∙ same)

  -- a group's own are what its log gets
  own_of : (base : Base) → IsFound ahead bases before base → log_in base.core.id new ≡ added base
  own_of base f = elim (draw_cases base.core.id turn.name) [
    | inl e ↦ ap (λ n. log_in n new) e ∙ log_of_own turn.name d.slot d.cs ∙ sym (d.mine base f e)
    | inr ne ↦ log_of_others base.core.id new (λ entry a same. ne (sym (entries_of turn.name d.slot d.cs entry a ∙ same))) ∙ sym (others_idle sources ahead bases start before k row turn base f ne)
  ]

  -- ---- births

  born_old : (base : Base) → IsFound ahead bases before base → IsBorn bases (old ++ new) base (decided_log ahead base next)
  born_old base f =
      let b = k.born base f in
      record {
        first = b.first;
        rest = b.rest ++ new;
        are = ap (λ es. es ++ new) b.are ∙ append_assoc b.first b.rest new;
        there = b.there;
        silent = b.silent;
        log_is = log_append base.core.id b.rest new ∙ ap (λ cs. cs ++ log_in base.core.id new) b.log_is ∙ ap (λ cs. decided_log ahead base before ++ cs) (own_of base f) ∙ sym (log_on sources ahead bases before row turn base f);
      }

  born_new : (child : Base) → IsNew child → IsBorn bases (old ++ new) child (decided_log ahead child next)
  born_new child n =
      let b = d.born child n in
      let parts : old ++ new ≡ (old ++ b.first) ++ b.rest = ap (λ es. old ++ es) b.are ∙ sym (append_assoc old b.first b.rest) in
      record {
        first = old ++ b.first;
        rest = b.rest;
        are = parts;
        there = ap (λ (w : StoreWorld). named_group child.core.id w.groups) (world_append (first_world bases) old b.first) ∙ b.there;
        silent = log_of_others child.core.id (old ++ b.first) (λ entry a. not_child child n entry (subst (Among entry) (sym parts) (Among-left entry (old ++ b.first) b.rest a)));
        log_is = log_of_others child.core.id b.rest (λ entry a. not_child child n entry (subst (Among entry) (sym parts) (Among-right entry (old ++ b.first) b.rest a))) ∙ sym (silent_child child n);
      }

  born_next : (base : Base) → IsFound ahead bases next base → IsBorn bases (entries_at ahead bases next) base (decided_log ahead base next)
  born_next base f =
      subst (λ es. IsBorn bases es base (decided_log ahead base next)) (sym entries_next)
      (elim (found_before base f) [ inl was ↦ born_old base was | inr now ↦ born_new base now ])

  only_next : (entry : LogEntry) → Among entry (entries_at ahead bases next) → (base : Base) × IsFound ahead bases next base × (base.core.id ≡ entry.group)
  only_next entry a = let (base, f, named) = entry_is entry (subst (Among entry) entries_next a) in (base, still_found base f, named)

  who_next : (name : Draw) (it : Group) → named_group name (world_at ahead bases next).groups ≡ Some it → (base : Base) × IsFound ahead bases next base × (base.core.id ≡ name)
  who_next name it e = elim (d.who name it (ap (λ (w : StoreWorld). named_group name w.groups) (sym world_next) ∙ e)) [
    | inl (was, there) ↦ (let (base, f, named) = k.who name was there in (base, still_found base f, named))
    | inr (child, n, same) ↦ (child, now_found child n, same)
  ]

  pub push_told : JournalFacts sources ahead bases next
  push_told = record { near = near_next; one = one_next; allowed = allowed_next; born = born_next; only = only_next; who = who_next }
