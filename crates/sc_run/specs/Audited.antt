-- What an audit answers of files that store lawful journals.
use Rattle.std.specs.Prelude.{◌≡◌, ◌⊎◌, ◌≤◌, ℕ, List, length, Some, Ok}
use Rattle.std.specs.List.{concat}
use Rattle.sc_words.specs.declared.commands.orders.OrderLine.{OrderLine}
use Rattle.sc_mail.specs.declared.bodies.Mail.{Mail}
use Rattle.sc_actor.specs.declared.rows.Row.{Row}
use Rattle.sc_texts.specs.chance.KeyStream.{two_words}
use Rattle.sc_texts.specs.edges.Uses.{SourceUse}
use Rattle.sc_scenario.specs.scenario.Grammar.{verdict_of}
use Rattle.sc_scenario.specs.declared.scenario.scenarios.Scenario.{Scenario}
use Rattle.sc_json_journal.specs.file.Stored.{most_file_bytes, IsFile}
use Rattle.sc_meaning.specs.sound.Players.{Lawful, as_nodes}
use Rattle.sc_cli.specs.declared.said.Said.{Said}
use Rattle.sc_cli.specs.declared.said.Said.TheVariants as said
use Rattle.sc_run.specs.declared.done.Text.{Text}
use Rattle.sc_run.specs.Run.{Audits, ReportsJournal, ShowsFile}

-- an audit says yes, or a read error came
abbrev pub SaysYes : Said → Type 0
SaysYes what = (what ≡ said.Lawful) ⊎ (what ≡ said.ReadError)

-- an audit of a file whose rows are a lawful journal of its scenario says yes
abbrev pub LawfulFilesAreConfirmed : Type 0
LawfulFilesAreConfirmed = (file : List ℕ) (scenario : Scenario) (rows : List (Row Mail OrderLine)) → IsFile file scenario rows → Lawful as_nodes two_words scenario rows
    → (source : SourceUse) → source.left ≡ Some file → (what : Said) (text : Text) → Audits source what text → SaysYes what

-- an audit of what was printed behind a scenario's text, if it is no longer than a file may be, says yes
abbrev pub PrintedJournalsAreConfirmed : Type 0
PrintedJournalsAreConfirmed = (bytes : List ℕ) (scenario : Scenario) (rows : List (Row Mail OrderLine)) (printed : Text) → verdict_of bytes ≡ Ok scenario → ReportsJournal (ShowsFile bytes) scenario rows printed → length (concat printed.lines) ≤ most_file_bytes
    → (source : SourceUse) → source.left ≡ Some (concat printed.lines) → (what : Said) (text : Text) → Audits source what text → SaysYes what
