-- What one more command adds to the entries and the state of a log.
use Rattle.std.proofs.Common.{◌≡◌, List, [], ◌∷◌, ◌++◌, refl, sym, ◌∙◌, ap, append-nil, append_assoc}
use Rattle.sc_words.specs.declared.commands.commands.Command.{Command}
use Rattle.sc_group_table.specs.machine.MachineDefinitions.{Group, applied, state_after, entry_of, done_by}

-- one command more adds its entry to those of the log
pub done_push : (group : Group) (log : List Command) (c : Command) → done_by group (log ++ c ∷ []) ≡ done_by group log ++ entry_of c (applied (state_after group log) c).1
done_push group [] c = append-nil (entry_of c (applied group c).1)
done_push group (d ∷ log) c =
    ap (λ es. entry_of d (applied group d).1 ++ es) (done_push (applied group d).0 log c)
    ∙ sym (append_assoc (entry_of d (applied group d).1) (done_by (applied group d).0 log) (entry_of c (applied (state_after group (d ∷ log)) c).1))

-- one command more is applied to the state after the log
pub state_push : (group : Group) (log : List Command) (c : Command) → state_after group (log ++ c ∷ []) ≡ (applied (state_after group log) c).0
state_push group [] c = refl
state_push group (d ∷ log) c = state_push (applied group d).0 log c
