-- Laws of stored journals.
use Rattle.std.specs.Prelude.{◌≡◌, ◌↔◌, ◌≤◌, ℕ, ◌+◌, List, length, take, map, Ok}
use Rattle.sc_base.specs.Among.{Each}
use Rattle.sc_actor.specs.declared.rows.Row.{Row}
use Rattle.sc_words.specs.declared.commands.orders.OrderLine.{OrderLine}
use Rattle.sc_mail.specs.declared.bodies.Mail.{Mail}
use Rattle.sc_texts.specs.lines.Lines.{most_bytes}
use Rattle.sc_json_text.specs.rows.RowText.{text_of, IsHeld}
use Rattle.sc_scenario.specs.scenario.Grammar.{verdict_of}
use Rattle.sc_scenario.specs.declared.scenario.scenarios.Scenario.{Scenario}
use Rattle.sc_json_journal.specs.file.Stored.{most_file_bytes, file_text, IsFile, IsBadFile}
use Rattle.sc_texts.specs.declared.lines.reasons.Reason.{Reason}

-- The file is that of this scenario and these rows, and of no other scenario and rows.
abbrev pub IsFileOfOne : List ℕ → Scenario → List (Row Mail OrderLine) → Type 0
IsFileOfOne file scenario rows = (other : Scenario) (others : List (Row Mail OrderLine)) → IsFile file other others → (other ≡ scenario) × (others ≡ rows)

-- The file that is printed of a scenario's bytes and valid rows is a file of the scenario and the rows, if it is within the limit.
abbrev pub PrintedFilesAreFiles : Type 0
PrintedFilesAreFiles = (bytes : List ℕ) (scenario : Scenario) (rows : List (Row Mail OrderLine)) → verdict_of bytes ≡ Ok scenario → Each IsHeld rows → length (file_text bytes rows) ≤ most_file_bytes
    → IsFile (file_text bytes rows) scenario rows

-- The bytes that are read of an input: one more than the most that a file may have.
abbrev pub first_bytes : List ℕ → List ℕ
first_bytes input = take (most_file_bytes + 1) input

-- An input is a file of this scenario and these rows exactly where the bytes that are read of it are.
abbrev pub FirstBytesDecideFiles : Type 0
FirstBytesDecideFiles = (input : List ℕ) (scenario : Scenario) (rows : List (Row Mail OrderLine)) → IsFile (first_bytes input) scenario rows ↔ IsFile input scenario rows

-- An input is bad at this line for this reason exactly where the bytes that are read of it are.
abbrev pub FirstBytesDecideErrors : Type 0
FirstBytesDecideErrors = (input : List ℕ) (line : ℕ) (why : Reason) → IsBadFile (first_bytes input) line why ↔ IsBadFile input line why

-- No two rows that the program's types can hold have the same text.
abbrev pub TextsAreApart : Type 0
TextsAreApart = (row other : Row Mail OrderLine) → IsHeld row → IsHeld other → text_of row ≡ text_of other → row ≡ other

-- A file has one scenario and one list of texts of rows, and one list of rows where no two rows have the same text. A file is not bad too, and a bad file has one bad line and one reason.
pub record FilesHaveOneVerdict : Type 0 where
  pub scenarios : (file : List ℕ) (one other : Scenario) (rows others : List (Row Mail OrderLine)) → IsFile file one rows → IsFile file other others → one ≡ other
  pub texts : (file : List ℕ) (one other : Scenario) (rows others : List (Row Mail OrderLine)) → IsFile file one rows → IsFile file other others → map text_of rows ≡ map text_of others
  pub rows : TextsAreApart → (file : List ℕ) (one other : Scenario) (rows others : List (Row Mail OrderLine)) → IsFile file one rows → IsFile file other others → rows ≡ others
  pub not_both : (file : List ℕ) (scenario : Scenario) (rows : List (Row Mail OrderLine)) (line : ℕ) (why : Reason) → IsFile file scenario rows → IsBadFile file line why → ⊥
  pub lines : (file : List ℕ) (line line' : ℕ) (why why' : Reason) → IsBadFile file line why → IsBadFile file line' why' → (line ≡ line') × (why ≡ why')

-- A text that is a scenario has at most as many bytes as a text may have.
abbrev pub ScenariosAreShort : Type 0
ScenariosAreShort = (text : List ℕ) (scenario : Scenario) → verdict_of text ≡ Ok scenario → length text ≤ most_bytes
