-- Which bytes are the file of a scenario and rows, and for all other bytes which line is bad and why.
use Rattle.std.specs.Prelude.{◌≡◌, ◌⊎◌, ⊤, ℕ, ◌+◌, ◌<◌, ◌≤◌, false, List, ◌∷◌, ◌++◌, length, map, None, Ok, Err}
use Rattle.std.specs.List.{concat}
use Rattle.sc_base.specs.Among.{Each}
use Rattle.sc_actor.specs.declared.rows.Row.{Row}
use Rattle.sc_words.specs.declared.commands.orders.OrderLine.{OrderLine}
use Rattle.sc_texts.specs.lines.Lines.{lines_in}
use Rattle.sc_mail.specs.declared.bodies.Mail.{Mail}
use Rattle.sc_json_text.specs.rows.RowText.{text_of, IsHeld}
use Rattle.sc_scenario.specs.scenario.Grammar.{verdict_of}
use Rattle.sc_scenario.specs.declared.scenario.reading.ScenarioError.{ScenarioError}
use Rattle.sc_scenario.specs.declared.scenario.reading.ScenarioError.TheVariants.{Bad, OutOfMemory}
use Rattle.sc_scenario.specs.declared.scenario.scenarios.Scenario.{Scenario}
use Rattle.sc_json_journal.specs.file.Files.{divider, fed, whole, divider_at, IsCut}
use Rattle.sc_texts.specs.declared.lines.reasons.Reason.{Reason}
use Rattle.sc_texts.specs.declared.lines.reasons.Reason.TheVariants.{MissingJournal, BadRow, FileTooLarge}

-- The most bytes of a file.
abbrev pub most_file_bytes : ℕ
most_file_bytes = 268435456

-- ---- files

-- The lines of the file of a scenario's bytes and rows, each with its line feed: those of the scenario, the line `journal`, and the text of each row.
abbrev pub file_lines : List ℕ → List (Row Mail OrderLine) → List (List ℕ)
file_lines bytes rows = map fed (lines_in false bytes ++ divider ∷ map text_of rows)

-- The bytes of the file of a scenario's bytes and rows.
abbrev pub file_text : List ℕ → List (Row Mail OrderLine) → List ℕ
file_text bytes rows = concat (file_lines bytes rows)

-- The bytes of the texts of the rows, each with its line feed.
abbrev pub rows_whole : List (Row Mail OrderLine) → List ℕ
rows_whole rows = whole (map text_of rows)

-- The file is within the limit, the part before the line `journal` is this scenario, and the part behind it is the lines of these rows.
pub record IsFile (file : List ℕ) (scenario : Scenario) (rows : List (Row Mail OrderLine)) : Type 0 where
  pub within : length file ≤ most_file_bytes
  pub text : List ℕ
  pub lines : ℕ
  pub behind : List ℕ
  pub cut : IsCut file text lines behind
  pub read : verdict_of text ≡ Ok scenario
  pub held : Each IsHeld rows
  pub rows_are : behind ≡ rows_whole rows

-- ---- bad files

-- The bytes are not empty, and their first line has no line feed or is no row's text.
abbrev pub BeginsBadly : List ℕ → Type 0
BeginsBadly bytes = (0 < length bytes) × ((row : Row Mail OrderLine) (more : List ℕ) → IsHeld row → bytes ≡ fed (text_of row) ++ more → ⊥)

-- The bytes are the lines of `count` rows, and behind them is a line that has no line feed or is no row's text.
pub record HasBadRow (bytes : List ℕ) (count : ℕ) : Type 0 where
  pub before : List (Row Mail OrderLine)
  pub held : Each IsHeld before
  pub rest : List ℕ
  pub bytes_are : bytes ≡ rows_whole before ++ rest
  pub count_is : count ≡ length before
  pub bad : BeginsBadly rest

-- The file has more bytes than it may have: line 0, `FileTooLarge`.
pub record IsTooLarge (file : List ℕ) (line : ℕ) (why : Reason) : Type 0 where
  pub over : most_file_bytes < length file
  pub line_is : line ≡ 0
  pub why_is : why ≡ FileTooLarge

-- No line of the file that a line feed ends is `journal`: the line after the last, `MissingJournal`.
pub record LacksJournal (file : List ℕ) (line : ℕ) (why : Reason) : Type 0 where
  pub within : length file ≤ most_file_bytes
  pub nowhere : divider_at file ≡ None
  pub line_is : line ≡ length (lines_in false file) + 1
  pub why_is : why ≡ MissingJournal

-- The part before the line `journal` is no scenario: the line and the reason for which it is none.
pub record LacksScenario (file : List ℕ) (line : ℕ) (why : Reason) : Type 0 where
  pub within : length file ≤ most_file_bytes
  pub text : List ℕ
  pub lines : ℕ
  pub behind : List ℕ
  pub cut : IsCut file text lines behind
  pub read : verdict_of text ≡ Err (Bad line why)

-- The part before the line `journal` is a scenario, and the part behind it has a line that has no line feed or is no row's text: the first such line, `BadRow`.
pub record LacksRow (file : List ℕ) (line : ℕ) (why : Reason) : Type 0 where
  pub within : length file ≤ most_file_bytes
  pub text : List ℕ
  pub lines : ℕ
  pub behind : List ℕ
  pub cut : IsCut file text lines behind
  pub scenario : Scenario
  pub read : verdict_of text ≡ Ok scenario
  pub count : ℕ
  pub bad : HasBadRow behind count
  pub line_is : line ≡ lines + 2 + count
  pub why_is : why ≡ BadRow

-- The file is bad at this line, counted from 1, for this reason, the first cause that applies.
abbrev pub IsBadFile : List ℕ → ℕ → Reason → Type 0
IsBadFile file line why = IsTooLarge file line why ⊎ LacksJournal file line why ⊎ LacksScenario file line why ⊎ LacksRow file line why

-- What an error says of a file: it is bad at this line for this reason. `OutOfMemory` says nothing.
abbrev pub IsFileError : List ℕ → ScenarioError → Type 0
IsFileError file (Bad line why) = IsBadFile file line why
IsFileError file OutOfMemory = ⊤

-- ---- row by row

-- No other row that the program's types can hold has the text of this row.
abbrev pub IsSole : Row Mail OrderLine → Type 0
IsSole row = (other : Row Mail OrderLine) → IsHeld other → text_of other ≡ text_of row → other ≡ row

-- The bytes begin with the line of this row, the only row with its text, and `more` is behind it.
pub record GoesOn (bytes : List ℕ) (row : Row Mail OrderLine) (more : List ℕ) : Type 0 where
  pub held : IsHeld row
  pub sole : IsSole row
  pub bytes_are : bytes ≡ fed (text_of row) ++ more

-- The bytes are the lines of these rows, each the only one with its text.
pub record AreRows (bytes : List ℕ) (rows : List (Row Mail OrderLine)) : Type 0 where
  pub held : Each IsHeld rows
  pub sole : Each IsSole rows
  pub bytes_are : bytes ≡ rows_whole rows

-- What an error says of the lines of rows, of which the first has the number `first`: this line is the first that is bad. `OutOfMemory` says nothing.
abbrev pub IsRowError : List ℕ → ℕ → ScenarioError → Type 0
IsRowError bytes first (Bad line why) = (count : ℕ) × HasBadRow bytes count × (line ≡ first + count) × (why ≡ BadRow)
IsRowError bytes first OutOfMemory = ⊤
