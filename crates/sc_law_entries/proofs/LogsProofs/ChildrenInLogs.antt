-- The children that a log names, and what the entries of one group's log are of another's.
use Rattle.std.proofs.Common.{◌≡◌, ℕ, ◌+◌, List, [], ◌∷◌, ◌++◌, inl, inr, refl, sym, ◌∙◌, ap, append_assoc}
use Rattle.std.specs.Option.{option_to_list}
use Rattle.sc_base.specs.Definitions.{Among}
use Rattle.sc_base.specs.declared.names.Draw.{Draw}
use Rattle.sc_words.specs.declared.commands.commands.Command.{Command}
use Rattle.sc_group_table.specs.machine.MachineDefinitions.{Group, state_after, applied}
use Rattle.sc_meaning.specs.entries.EntryDefinitions.{birth_of}
use Rattle.sc_meaning.specs.declared.entries.LogEntry.{LogEntry}
use Rattle.sc_law_entries.specs.history.HistoryDefinitions.{log_in}
use Rattle.sc_law_entries.proofs.HistoryProofs.HistoryLemmas.{other_first, own_first}
use Rattle.sc_meaning.specs.sound.SoundDefinitions.{children_of, entries_from}
use Rattle.sc_meaning.proofs.EntriesProofs.EntryLemmas.{draw_cases}

-- the children of two parts of a log
pub children_append : (group : Group) (log more : List Command) → children_of group (log ++ more) ≡ children_of group log ++ children_of (state_after group log) more
children_append group [] more = refl
children_append group (c ∷ log) more =
    let here = option_to_list (birth_of group c (applied group c).1) in
    let next = (applied group c).0 in
    ap (λ bs. here ++ bs) (children_append next log more) ∙ sym (append_assoc here (children_of next log) (children_of (state_after next log) more))

-- a group after two parts of a log
pub state_append : (group : Group) (log more : List Command) → state_after group (log ++ more) ≡ state_after (state_after group log) more
state_append group [] more = refl
state_append group (c ∷ log) more = state_append (applied group c).0 log more

-- ---- logs among entries

-- the log of a group in two lists of entries
pub log_append : (name : Draw) (entries more : List LogEntry) → log_in name (entries ++ more) ≡ log_in name entries ++ log_in name more
log_append name [] more = refl
log_append name (entry ∷ entries) more = elim (draw_cases entry.group name) [
  | inl e ↦ own_first name entry (entries ++ more) e ∙ ap (λ cs. entry.command ∷ cs) (log_append name entries more) ∙ sym (ap (λ cs. cs ++ log_in name more) (own_first name entry entries e))
  | inr ne ↦ other_first name entry (entries ++ more) ne ∙ log_append name entries more ∙ sym (ap (λ cs. cs ++ log_in name more) (other_first name entry entries ne))
]

-- entries of other groups have nothing of its log
pub log_of_others : (name : Draw) (entries : List LogEntry) → ((entry : LogEntry) → Among entry entries → entry.group ≡ name → ⊥) → log_in name entries ≡ []
log_of_others name [] others = refl
log_of_others name (entry ∷ entries) others = other_first name entry entries (others entry (inl refl)) ∙ log_of_others name entries (λ e a. others e (inr a))

-- the entries of one group are of that group
pub entries_of : (name : Draw) (slot : ℕ) (cs : List Command) (entry : LogEntry) → Among entry (entries_from name slot cs) → name ≡ entry.group
entries_of name slot [] entry a = absurd a
entries_of name slot (c ∷ cs) entry (inl fact) = ap (λ (x : LogEntry). x.group) fact
entries_of name slot (c ∷ cs) entry (inr a) = entries_of name (slot + 1) cs entry a

-- and they are its log
pub log_of_own : (name : Draw) (slot : ℕ) (cs : List Command) → log_in name (entries_from name slot cs) ≡ cs
log_of_own name slot [] = refl
log_of_own name slot (c ∷ cs) = own_first name (record { group = name; slot = slot; command = c }) (entries_from name (slot + 1) cs) refl ∙ ap (λ ds. c ∷ ds) (log_of_own name (slot + 1) cs)
