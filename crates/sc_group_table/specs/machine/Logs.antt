-- What a log makes of a group: its state, its effects, and its entries of a history.
use Rattle.std.specs.Prelude.{ℕ, List, [], ◌∷◌, ◌++◌, fold}
use Rattle.sc_base.specs.declared.ops.Op.{Op}
use Rattle.sc_words.specs.declared.commands.commands.Command.{Command}
use Rattle.sc_words.specs.declared.commands.commands.Command.TheVariants.{Call}
use Rattle.sc_words.specs.declared.commands.effects.Effect.{Effect}
use Rattle.sc_words.specs.declared.commands.effects.Effect.TheVariants.{Done}
use Rattle.sc_words.specs.declared.ideal.Entry.{Entry}
use Rattle.sc_group_table.specs.machine.Group.{Group}
use Rattle.sc_group_table.specs.machine.Machine.{applied}

-- the group after some entries of its log
abbrev pub state_after : Group → List Command → Group
state_after = fold (λ group command. (applied group command).0)

-- the effects of the entries of a log
abbrev pub effects_of : Group → List Command → List Effect
effects_of group [] = []
effects_of group (command ∷ commands) = (applied group command).1 ∷ effects_of (applied group command).0 commands

-- the entry of a history that a request makes by this effect: only a request that was applied makes one
abbrev pub entry_by : ℕ → ℕ → Op → Effect → List Entry
entry_by client seq op (Done reply) = record { client = client; seq = seq; op = op; reply = reply } ∷ []
entry_by client seq op _ = []

-- the entry of a history that a command makes by its effect, if it makes one
abbrev pub entry_of : Command → Effect → List Entry
entry_of (Call client seq op) effect = entry_by client seq op effect
entry_of _ effect = []

-- the entries of a history that a group's log makes, in order
abbrev pub done_by : Group → List Command → List Entry
done_by group [] = []
done_by group (command ∷ commands) = entry_of command (applied group command).1 ++ done_by (applied group command).0 commands
