-- The groups of a journal by descent: those of the scenario, and generation by generation the children that their logs create.
use Rattle.std.specs.Prelude.{ℕ, zero, suc, List, [], ◌∷◌, ◌++◌, length, drop}
use Rattle.sc_base.specs.Definitions.{Among}
use Rattle.sc_words.specs.declared.commands.commands.Command.{Command}
use Rattle.sc_words.specs.declared.commands.cores.Base.{Base}
use Rattle.sc_words.specs.declared.commands.orders.OrderLine.{OrderLine}
use Rattle.sc_mail.specs.declared.bodies.Mail.{Mail}
use Rattle.sc_actor.specs.declared.rows.Row.{Row}
use Rattle.sc_meaning.specs.sound.SoundDefinitions.{Ahead, children_of, children_by, decided_log, decided_state}

-- rows of a journal
abbrev pub Rows : Type 0
Rows = List (Row Mail OrderLine)

-- a group of the scenario, or the child, `depth` generations later, that the log of such a group creates
abbrev pub Descends : Ahead → List Base → Rows → ℕ → Base → Type 0
Descends ahead bases rows zero base = Among base bases
Descends ahead bases rows (suc depth) base = (parent : Base) × Descends ahead bases rows depth parent × Among base (children_by ahead rows parent)

-- a group descends from the scenario's groups, in whatever generation
abbrev pub IsFound : Ahead → List Base → Rows → Base → Type 0
IsFound ahead bases rows base = (depth : ℕ) × Descends ahead bases rows depth base

-- the commands that a row adds to the log of a group
abbrev pub added_by : Ahead → Rows → Row Mail OrderLine → Base → List Command
added_by ahead before row base = drop (length (decided_log ahead base before)) (decided_log ahead base (before ++ row ∷ []))

-- the children that the commands create which a row adds to the log of a group
abbrev pub newborn_by : Ahead → Rows → Row Mail OrderLine → Base → List Base
newborn_by ahead before row base = children_of (decided_state ahead base before) (added_by ahead before row base)
