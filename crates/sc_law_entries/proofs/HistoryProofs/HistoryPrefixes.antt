-- A group after entries of all logs is as its own log makes it, and each prefix of the log comes with some prefix of the entries.
use Rattle.std.proofs.Common.{◌≡◌, List, [], ◌∷◌, ◌++◌, map, Option, Some, None, inl, inr, refl, sym, ap, ◌∙◌, append_assoc}
use Rattle.std.specs.List.{filter}
use Rattle.std.specs.Option.{option_to_list}
use Rattle.std.proofs.lemmas.Bool.{cond-true, cond-false}
use Rattle.sc_base.specs.Definitions.{same_draw}
use Rattle.sc_base.specs.declared.names.Draw.{Draw}
use Rattle.sc_base.proofs.Lemmas.{same_name}
use Rattle.sc_words.specs.declared.commands.commands.Command.{Command}
use Rattle.sc_group_table.specs.machine.MachineDefinitions.{Group, group_of, state_after, applied}
use Rattle.sc_meaning.specs.entries.EntryDefinitions.{birth_of, StoreWorld, after_command, first_world, named_group, recorded, with_group, world_of}
use Rattle.sc_meaning.specs.declared.entries.LogEntry.{LogEntry}
use Rattle.sc_meaning.proofs.EntriesProofs.EntryLemmas.{world_append, found_name, other_name, draw_cases}
use Rattle.sc_law_entries.specs.history.HistoryDefinitions.{PrefixesAnswerByHistory, LogsMakeStates, log_in}
use Rattle.sc_law_entries.proofs.HistoryProofs.Divisions.{found_left}
use Rattle.sc_law_entries.proofs.HistoryProofs.Found.{found_now, found_still}
use Rattle.sc_law_entries.proofs.HistoryProofs.Logs.{applied_same}

-- ---- one entry

-- the log with an entry of the group, and with another's
pub own_first : (name : Draw) (entry : LogEntry) (entries : List LogEntry) → entry.group ≡ name → log_in name (entry ∷ entries) ≡ entry.command ∷ log_in name entries
own_first name entry entries e =
    ap (map (λ (x : LogEntry). x.command)) (cond-true (same_draw entry.group name) (entry ∷ filter (λ (x : LogEntry). same_draw x.group name) entries) (filter (λ (x : LogEntry). same_draw x.group name) entries) (same_name entry.group name e))

pub other_first : (name : Draw) (entry : LogEntry) (entries : List LogEntry) → (entry.group ≡ name → ⊥) → log_in name (entry ∷ entries) ≡ log_in name entries
other_first name entry entries ne =
    ap (map (λ (x : LogEntry). x.command)) (cond-false (same_draw entry.group name) (entry ∷ filter (λ (x : LogEntry). same_draw x.group name) entries) (filter (λ (x : LogEntry). same_draw x.group name) entries) (other_name entry.group name ne))

-- the group that an entry is of, and any other
own_reported : (world : StoreWorld) (name : Draw) (group : Group) → named_group name world.groups ≡ Some group → (c : Command) → named_group name (after_command world (Some group) c).groups ≡ Some (applied group c).0
own_reported world name group found c =
    let id = found_name name world.groups group found in
    let same = (applied_same group c).0 in
    let now : named_group group.core.id (with_group group.core.id (applied group c).0 world.groups) ≡ Some (applied group c).0 =
    found_now group.core.id (applied group c).0 world.groups group same (ap (λ n. named_group n world.groups) id ∙ found) in
    found_left name (with_group group.core.id (applied group c).0 world.groups) (map group_of (option_to_list (birth_of group c (applied group c).1))) (applied group c).0
    (ap (λ n. named_group n (with_group group.core.id (applied group c).0 world.groups)) (sym id) ∙ now)

other_reported : (world : StoreWorld) (name : Draw) (group : Group) → named_group name world.groups ≡ Some group → (other : Draw) → (other ≡ name → ⊥) → (o : Option Group) → named_group other world.groups ≡ o → (c : Command)
    → named_group name (after_command world o c).groups ≡ Some group
other_reported world name group found other ne None e c = found
other_reported world name group found other ne (Some it) e c =
    let id = found_name other world.groups it e in
    found_left name (with_group it.core.id (applied it c).0 world.groups) (map group_of (option_to_list (birth_of it c (applied it c).1))) group
    (found_still it.core.id name (applied it c).0 world.groups (applied_same it c).0 (λ same. ne (sym id ∙ sym same)) ∙ found)

-- ---- all entries

pub logs_make_states : LogsMakeStates
logs_make_states world name group found [] = found
logs_make_states world name group found (entry ∷ entries) = elim (draw_cases entry.group name) [
  | inl e ↦ (
      let now : named_group name (recorded world entry).groups ≡ Some (applied group entry.command).0 =
      ap (λ o. named_group name (after_command world o entry.command).groups) (ap (λ n. named_group n world.groups) e ∙ found) ∙ own_reported world name group found entry.command in
      logs_make_states (recorded world entry) name (applied group entry.command).0 now entries ∙ ap (λ log. Some (state_after group log)) (sym (own_first name entry entries e)))
  | inr ne ↦ (
      let still = other_reported world name group found entry.group ne (named_group entry.group world.groups) refl entry.command in
      logs_make_states (recorded world entry) name group still entries ∙ ap (λ log. Some (state_after group log)) (sym (other_first name entry entries ne)))
]

-- entries in two parts, the first of which has this log of the group
pub record PartsAt (name : Draw) (entries : List LogEntry) (prefix : List Command) : Type 0 where
  pub first : List LogEntry
  pub rest : List LogEntry
  pub are : entries ≡ first ++ rest
  pub log : log_in name first ≡ prefix

pub heads : (c d : Command) (cs ds : List Command) → c ∷ cs ≡ d ∷ ds → (c ≡ d) × (cs ≡ ds)
heads c d cs ds e = (cc, cc)

pub parts_at : (name : Draw) (entries : List LogEntry) (prefix later : List Command) → log_in name entries ≡ prefix ++ later → PartsAt name entries prefix
parts_at name entries [] later e = record { first = []; rest = entries; are = refl; log = refl }
parts_at name [] (c ∷ prefix) later e = cc
parts_at name (entry ∷ entries) (c ∷ prefix) later e = elim (draw_cases entry.group name) [
  | inl same ↦ (
      let both = heads entry.command c (log_in name entries) (prefix ++ later) (sym (own_first name entry entries same) ∙ e) in
      let parts = parts_at name entries prefix later both.1 in
      record {
        first = entry ∷ parts.first;
        rest = parts.rest;
        are = ap (λ es. entry ∷ es) parts.are;
        log = own_first name entry parts.first same ∙ ap (λ cs. entry.command ∷ cs) parts.log ∙ ap (λ x. x ∷ prefix) both.0;
      })
  | inr ne ↦ (
      let parts = parts_at name entries (c ∷ prefix) later (sym (other_first name entry entries ne) ∙ e) in
      record {
        first = entry ∷ parts.first;
        rest = parts.rest;
        are = ap (λ es. entry ∷ es) parts.are;
        log = other_first name entry parts.first ne ∙ parts.log;
      })
]

pub prefixes_answer : PrefixesAnswerByHistory
prefixes_answer bases entries notes born rest fact name group found prefix later log =
    let parts = parts_at name rest prefix later log in
    let whole : entries ≡ (born ++ parts.first) ++ parts.rest = fact ∙ ap (λ es. born ++ es) parts.are ∙ sym (append_assoc born parts.first parts.rest) in
    let there : named_group name (world_of bases (born ++ parts.first)).groups ≡ Some (state_after group prefix) =
    ap (λ (w : StoreWorld). named_group name w.groups) (world_append (first_world bases) born parts.first)
    ∙ logs_make_states (world_of bases born) name group found parts.first
    ∙ ap (λ cs. Some (state_after group cs)) parts.log in
    notes (born ++ parts.first) parts.rest whole name (state_after group prefix) there
