-- What is asked of the decided logs of a journal, row by row: of the groups that there are before the row, and of the children that the row's own entries create.
use Rattle.std.specs.Prelude.{◌≡◌, List, [], ◌∷◌, ◌++◌}
use Rattle.sc_base.specs.Definitions.{Among, Each}
use Rattle.sc_base.specs.declared.names.Draw.{Draw}
use Rattle.sc_words.specs.declared.commands.cores.Base.{Base}
use Rattle.sc_words.specs.declared.commands.orders.OrderLine.{OrderLine}
use Rattle.sc_mail.specs.declared.bodies.Mail.{Mail}
use Rattle.sc_actor.specs.declared.rows.Row.{Row}
use Rattle.sc_meaning.specs.sound.SoundDefinitions.{Ahead, groups_at, entries_at, decided_log, Continues}
use Rattle.sc_law_entries.specs.ring.RingDefinitions.{Sources, IsAllowed, stories_of}
use Rattle.sc_law_entries.specs.logs.Descent.{Rows, added_by, newborn_by}

-- A row after these decides what was allowed before it, and nothing yet for a group that it creates.
pub record DecidesInTurn (sources : Sources) (ahead : Ahead) (bases : List Base) (before : Rows) (row : Row Mail OrderLine) : Type 0 where
  -- each log goes on
  pub goes_on : (base : Base) → Among base (groups_at ahead bases before) → Continues (decided_log ahead base before) (decided_log ahead base (before ++ row ∷ []))
  -- each command that the row decides is allowed by the stories that the entries before the row leave
  pub allowed : (base : Base) → Among base (groups_at ahead bases before) → Each (IsAllowed sources (stories_of bases (entries_at ahead bases before)) base.core.id) (added_by ahead before row base)
  -- nothing is decided yet for a child that the row's entries create
  pub unheard : (base : Base) → Among base (groups_at ahead bases before) → (child : Base) → Among child (newborn_by ahead before row base) → decided_log ahead child (before ++ row ∷ []) ≡ []

-- each of these rows decides in turn, after those before it
abbrev pub DecideInTurn : Sources → Ahead → List Base → Rows → Rows → Type 0
DecideInTurn sources ahead bases before [] = Unit {0}
DecideInTurn sources ahead bases before (row ∷ rows) = DecidesInTurn sources ahead bases before row × DecideInTurn sources ahead bases (before ++ row ∷ []) rows

-- A row decides for one group at most: a group of another name keeps its log.
pub record DecidesForOne (ahead : Ahead) (before : Rows) (row : Row Mail OrderLine) : Type 0 where
  pub name : Draw
  pub others : (base : Base) → (base.core.id ≡ name → ⊥) → decided_log ahead base (before ++ row ∷ []) ≡ decided_log ahead base before
