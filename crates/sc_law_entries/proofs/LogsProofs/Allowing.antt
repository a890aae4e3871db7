-- What was allowed stays allowed with more rows, and what an entry of a log makes allowed is allowed in the journal.
use Rattle.std.proofs.Common.{◌≡◌, List, [], ◌∷◌, ◌++◌, Some, inl, inr, refl, sym, ◌∙◌, ap, subst, append_assoc}
use Rattle.sc_base.specs.declared.names.Draw.{Draw}
use Rattle.sc_words.specs.declared.commands.commands.Command.{Command}
use Rattle.sc_words.specs.declared.commands.cores.Base.{Base}
use Rattle.sc_group_table.specs.machine.MachineDefinitions.{Group, group_of, state_after, applied}
use Rattle.sc_meaning.specs.declared.entries.LogEntry.{LogEntry}
use Rattle.sc_meaning.specs.entries.EntryDefinitions.{StoreWorld, first_world, named_group, world_of}
use Rattle.sc_meaning.proofs.EntriesProofs.EntryLemmas.{world_append, draw_cases}
use Rattle.sc_law_entries.specs.history.HistoryDefinitions.{log_in}
use Rattle.sc_law_entries.proofs.HistoryProofs.HistoryLemmas.{heads, logs_make_states, other_first, own_first, parts_at}
use Rattle.sc_law_entries.specs.ring.RingDefinitions.{Sources, IsAllowed, AreAllowed, StoryWorld, first_recorded, recorded_stories, recorded_next, recorded_after, BeginInPlace, stories_of, stories_after}
use Rattle.sc_law_entries.proofs.RingProofs.RingLemmas.{allowed_entries_stay_allowed, entries_keep_the_promises, store_after}
use Rattle.sc_meaning.specs.sound.SoundDefinitions.{entries_by_rows, entries_at}
use Rattle.sc_law_entries.specs.logs.LogDefinitions.{MakesAllowed, AllowedStaysAllowed, PrefixesAllow, StatesAllow}
use Rattle.sc_law_entries.proofs.LogsProofs.BirthsInLogs.{recorded_append}
use Rattle.sc_law_entries.proofs.LogsProofs.Generations.{group_found}
use Rattle.sc_law_entries.proofs.LogsProofs.RowsInTwoParts.{entries_parts}
use Rattle.sc_law_entries.proofs.LogsProofs.Findings.{deciding_rows}

-- entries that are allowed one after another, in two parts
pub allowed_parts : (sources : Sources) (w : StoryWorld) (entries more : List LogEntry) → AreAllowed sources w (entries ++ more) → AreAllowed sources w entries × AreAllowed sources (recorded_after w entries) more
allowed_parts sources w [] more a = (tt, a)
allowed_parts sources w (e ∷ entries) more a = let (first, rest) = allowed_parts sources (recorded_next w e) entries more a.1 in ((a.0, first), rest)

-- with more entries
stays : (sources : Sources) (bases : List Base) → BeginInPlace sources bases → (entries more : List LogEntry) → AreAllowed sources (first_recorded bases) (entries ++ more)
    → (name : Draw) (command : Command) → IsAllowed sources (stories_of bases entries) name command → IsAllowed sources (stories_of bases (entries ++ more)) name command
stays sources bases start entries more allowed name command a =
    let (first, rest) = allowed_parts sources (first_recorded bases) entries more allowed in
    subst (λ (w : StoryWorld). IsAllowed sources w.stories name command) (sym (recorded_append (first_recorded bases) entries more))
    (allowed_entries_stay_allowed sources bases entries more start first rest name command a)

pub allowed_stays_allowed : AllowedStaysAllowed
allowed_stays_allowed sources ahead bases start rows more h name command a =
    let whole = entries_parts ahead bases [] rows more in
    let allowed = subst (AreAllowed sources (first_recorded bases)) whole (deciding_rows sources ahead bases start (rows ++ more) h).allowed in
    subst (λ es. IsAllowed sources (stories_of bases es) name command) (sym whole) (stays sources bases start (entries_at ahead bases rows) (entries_by_rows ahead bases rows more) allowed name command a)

-- ---- an entry of a log among the entries

-- the entry of a group after a prefix of its log
record IsAt (name : Draw) (entries : List LogEntry) (prefix : List Command) (command : Command) : Type 0 where
  first : List LogEntry
  entry : LogEntry
  more : List LogEntry
  are : entries ≡ first ++ entry ∷ more
  log : log_in name first ≡ prefix
  its : entry.group ≡ name
  fact : entry.command ≡ command

none_left : (prefix : List Command) (command : Command) (later : List Command) → [] ≡ prefix ++ command ∷ later → ⊥
none_left [] command later e = cc
none_left (c ∷ prefix) command later e = cc

find_other : (name : Draw) (e : LogEntry) (entries : List LogEntry) (prefix : List Command) (command : Command) → (e.group ≡ name → ⊥) → IsAt name entries prefix command → IsAt name (e ∷ entries) prefix command
find_other name e entries prefix command ne at = record {
  first = e ∷ at.first;
  entry = at.entry;
  more = at.more;
  are = ap (λ es. e ∷ es) at.are;
  log = other_first name e at.first ne ∙ at.log;
  its = at.its;
  fact = at.fact;
}

find_entry : (name : Draw) (entries : List LogEntry) (prefix : List Command) (command : Command) (later : List Command) → log_in name entries ≡ prefix ++ command ∷ later → IsAt name entries prefix command
find_entry name [] prefix command later e = absurd (none_left prefix command later e)
find_entry name (x ∷ entries) [] command later e = elim (draw_cases x.group name) [
  | inl same ↦ record {
    first = [];
    entry = x;
    more = entries;
    are = refl;
    log = refl;
    its = same;
    fact = (heads x.command command (log_in name entries) later (sym (own_first name x entries same) ∙ e)).0;
  }
  | inr ne ↦ find_other name x entries [] command ne (find_entry name entries [] command later (sym (other_first name x entries ne) ∙ e))
]
find_entry name (x ∷ entries) (c ∷ prefix) command later e = elim (draw_cases x.group name) [
  | inl same ↦ (
      let both = heads x.command c (log_in name entries) (prefix ++ command ∷ later) (sym (own_first name x entries same) ∙ e) in
      let at = find_entry name entries prefix command later both.1 in
      record {
        first = x ∷ at.first;
        entry = at.entry;
        more = at.more;
        are = ap (λ es. x ∷ es) at.are;
        log = own_first name x at.first same ∙ ap (λ cs. x.command ∷ cs) at.log ∙ ap (λ d. d ∷ prefix) both.0;
        its = at.its;
        fact = at.fact;
      })
  | inr ne ↦ find_other name x entries (c ∷ prefix) command ne (find_entry name entries (c ∷ prefix) command later (sym (other_first name x entries ne) ∙ e))
]

-- ---- what it makes allowed

module _ (sources : Sources) (bases : List Base) (start : BeginInPlace sources bases) (before : List LogEntry) (entry : LogEntry) (group : Group)
    (there : named_group entry.group (world_of bases before).groups ≡ Some group) (name : Draw) (command : Command) (makes : MakesAllowed sources entry.group group entry.command name command) where
  abbrev w : StoryWorld
  w = recorded_after (first_recorded bases) before

  after_is : (recorded_next w entry).stories ≡ stories_after group entry.command (applied group entry.command).1 w.stories
  after_is = ap (λ o. recorded_stories w.stories o entry.command) (ap (λ (x : StoreWorld). named_group entry.group x.groups) (store_after (first_recorded bases) before) ∙ there)

  allowed_after : AreAllowed sources (first_recorded bases) before → IsAllowed sources w.stories entry.group entry.command → IsAllowed sources (stories_of bases (before ++ entry ∷ [])) name command
  allowed_after allowed may =
      subst (λ (x : StoryWorld). IsAllowed sources x.stories name command) (sym (recorded_append (first_recorded bases) before (entry ∷ [])))
      (subst (λ ys. IsAllowed sources ys name command) (sym after_is)
      (makes (λ n. named_group n (world_of bases before).groups) w.stories (entries_keep_the_promises sources bases before start allowed) there may))

  pub allows : (more : List LogEntry) → AreAllowed sources (first_recorded bases) (before ++ entry ∷ more) → IsAllowed sources (stories_of bases (before ++ entry ∷ more)) name command
  allows more allowed =
      let (first, rest) = allowed_parts sources (first_recorded bases) before (entry ∷ more) allowed in
      let again : (before ++ entry ∷ []) ++ more ≡ before ++ entry ∷ more = append_assoc before (entry ∷ []) more in
      subst (λ es. IsAllowed sources (stories_of bases es) name command) again
      (stays sources bases start (before ++ entry ∷ []) more (subst (AreAllowed sources (first_recorded bases)) (sym again) allowed) name command (allowed_after first rest.0))

pub prefixes_allow : PrefixesAllow
prefixes_allow sources ahead bases start rows h base a prefix entry later fact name command makes =
    let k = deciding_rows sources ahead bases start rows h in
    let b = k.born base (group_found ahead bases rows base a) in
    let at = find_entry base.core.id b.rest prefix entry later (b.log_is ∙ fact) in
    let before = b.first ++ at.first in
    let group : Group = state_after (group_of base) prefix in
    let whole : entries_at ahead bases rows ≡ before ++ at.entry ∷ at.more = b.are ∙ ap (λ es. b.first ++ es) at.are ∙ sym (append_assoc b.first at.first (at.entry ∷ at.more)) in
    let there : named_group base.core.id (world_of bases before).groups ≡ Some group =
    ap (λ (w : StoreWorld). named_group base.core.id w.groups) (world_append (first_world bases) b.first at.first)
    ∙ logs_make_states (world_of bases b.first) base.core.id (group_of base) b.there at.first ∙ ap (λ cs. Some (state_after (group_of base) cs)) at.log in
    subst (λ es. IsAllowed sources (stories_of bases es) name command) (sym whole)
    (allows sources bases start before at.entry group (ap (λ n. named_group n (world_of bases before).groups) at.its ∙ there) name command
    (subst (λ n. MakesAllowed sources n group at.entry.command name command) (sym at.its) (subst (λ c. MakesAllowed sources base.core.id group c name command) (sym at.fact) makes))
    at.more (subst (AreAllowed sources (first_recorded bases)) whole k.allowed))

-- ---- what a group makes allowed as it stands

pub states_allow : StatesAllow
states_allow sources ahead bases start rows h base a prefix later fact name command stands =
    let k = deciding_rows sources ahead bases start rows h in
    let b = k.born base (group_found ahead bases rows base a) in
    let at = parts_at base.core.id b.rest prefix later (b.log_is ∙ fact) in
    let before = b.first ++ at.first in
    let group : Group = state_after (group_of base) prefix in
    let whole : entries_at ahead bases rows ≡ before ++ at.rest = b.are ∙ ap (λ es. b.first ++ es) at.are ∙ sym (append_assoc b.first at.first at.rest) in
    let there : named_group base.core.id (world_of bases before).groups ≡ Some group =
    ap (λ (w : StoreWorld). named_group base.core.id w.groups) (world_append (first_world bases) b.first at.first)
    ∙ logs_make_states (world_of bases b.first) base.core.id (group_of base) b.there at.first ∙ ap (λ cs. Some (state_after (group_of base) cs)) at.log in
    let allowed = subst (AreAllowed sources (first_recorded bases)) whole k.allowed in
    let facts = entries_keep_the_promises sources bases before start (allowed_parts sources (first_recorded bases) before at.rest allowed).0 in
    subst (λ es. IsAllowed sources (stories_of bases es) name command) (sym whole)
    (stays sources bases start before at.rest allowed name command (stands (λ n. named_group n (world_of bases before).groups) (stories_of bases before) facts there))
