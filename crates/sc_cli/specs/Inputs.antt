-- What an input is.
use Rattle.std.specs.Prelude.{◌≡◌, ℕ, ◌+◌, ◌<◌, ◌^◌, ◌||◌, List, length, Option, IfSome, Ok, if◌then◌else◌}
use Rattle.sc_actor.specs.Mail.{mails}
use Rattle.sc_actor.specs.declared.rows.Row.{Row}
use Rattle.sc_words.specs.declared.commands.orders.OrderLine.{OrderLine}
use Rattle.sc_json_journal.specs.file.Laws.{IsFileOfOne}
use Rattle.sc_json_journal.specs.file.Stored.{most_file_bytes, IsFile}
use Rattle.sc_texts.specs.lines.Lines.{most_bytes}
use Rattle.sc_mail.specs.declared.bodies.Mail.{Mail}
use Rattle.sc_scenario.specs.scenario.Grammar.{verdict_of}
use Rattle.sc_scenario.specs.scenario.Valid.{IsValid}
use Rattle.sc_scenario.specs.declared.scenario.scenarios.Scenario.{Scenario}
use Rattle.sc_cli.specs.Subcommands.{is_audit, is_explain}

-- the most calls of the source: one for each byte of the longest input, which is a stored journal's or a scenario's, one for a byte too many, and one at the end
abbrev pub most_takes : List (List ℕ) → ℕ
most_takes words = if is_audit words || is_explain words then most_file_bytes + 2 else most_bytes + 2

-- these bytes are all of the input, where the source's bytes are known
abbrev pub AreAll : Option (List ℕ) → List ℕ → Type 0
AreAll left bytes = IfSome left (λ input. bytes ≡ input)

-- All of the input, where the source's bytes are known, is the text of this scenario, which is valid either way.
pub record ReadsScenario (left : Option (List ℕ)) (scenario : Scenario) : Type 0 where
  pub valid : IsValid scenario
  pub read : IfSome left (λ input. verdict_of input ≡ Ok scenario)

-- The input is the text of this scenario, and it is these bytes.
pub record ReadsText (left : Option (List ℕ)) (scenario : Scenario) (bytes : List ℕ) : Type 0 where
  pub valid : IsValid scenario
  pub read : verdict_of bytes ≡ Ok scenario
  pub all : AreAll left bytes

-- These bytes are the file of this scenario and these rows, and of no other; there are few of them, as a file is not long.
pub record Stores (file : List ℕ) (scenario : Scenario) (rows : List (Row Mail OrderLine)) : Type 0 where
  pub valid : IsValid scenario
  pub is_file : IsFile file scenario rows
  pub one : IsFileOfOne file scenario rows
  pub few_rows : length rows < 2 ^ 31
  pub few_mails : length (mails rows) < 2 ^ 31

-- The input is the file of this scenario and these rows.
pub record ReadsFile (left : Option (List ℕ)) (scenario : Scenario) (rows : List (Row Mail OrderLine)) : Type 0 where
  pub file : List ℕ
  pub stores : Stores file scenario rows
  pub all : AreAll left file
