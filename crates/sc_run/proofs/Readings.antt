-- What comes of what an input is, said of the source that it was read from.
use Rattle.std.proofs.Common.{ℕ, List, inl, inr}
use Rattle.sc_actor.specs.declared.rows.Row.{Row}
use Rattle.sc_words.specs.declared.commands.orders.OrderLine.{OrderLine}
use Rattle.sc_texts.specs.edges.Uses.{SourceUse}
use Rattle.sc_json_journal.specs.file.Stored.{IsBadFile}
use Rattle.sc_texts.specs.declared.lines.reasons.Reason.{Reason}
use Rattle.sc_mail.specs.declared.bodies.Mail.{Mail}
use Rattle.sc_scenario.specs.declared.scenario.scenarios.Scenario.{Scenario}
use Rattle.sc_cli.specs.declared.said.Said.{Said}
use Rattle.sc_cli.specs.Errors.{HasError, IsBadText}
use Rattle.sc_cli.specs.Inputs.{ReadsFile, ReadsScenario, ReadsText}
use Rattle.sc_cli.specs.declared.errors.InputError.{InputError}
use Rattle.sc_cli.specs.declared.errors.InputError.TheVariants.{Failed, Bad, OutOfMemory}
use Rattle.sc_run.specs.declared.done.Text.{Text}
use Rattle.sc_run.specs.Refusals.{IsErrorText}
use Rattle.sc_run.specs.Run.{AuditsAs, Audits, Comes, Explains, ExplainsAs, Keeps, Reads, Refuses, Scans, ShowsFile, ShowsReport}
use Rattle.sc_run.specs.Shown.{ShowsScan}
use Rattle.sc_cli.specs.declared.subcommands.Sight.{Sight}

-- a text about the fault that an input has refuses the input
refuses : (IsBad : List ℕ → ℕ → Reason → Type 0) (source : SourceUse) (error : InputError) (said : Said) (text : Text) → HasError IsBad source error → IsErrorText error said text → Refuses IsBad source said text
refuses IsBad source Failed said text rose line_text = inl (record { rose = rose; line_text = line_text.1; said_is = line_text.0 })
refuses IsBad source (Bad line why) said text bad line_text = inr (record { line = line; why = why; bad = bad; line_text = line_text.1; said_is = line_text.0 })
refuses IsBad source OutOfMemory said text bad line_text = absurd line_text

module _ (source : SourceUse) (said : Said) (text : Text) where
  pub refused_scenario : (error : InputError) → HasError IsBadText source error → IsErrorText error said text → Reads source said text
  refused_scenario error has line_text = inl (refuses IsBadText source error said text has line_text)

  pub refused_text : (error : InputError) → HasError IsBadText source error → IsErrorText error said text → Keeps source said text
  refused_text error has line_text = inl (refuses IsBadText source error said text has line_text)

  pub refused_file : (error : InputError) → HasError IsBadFile source error → IsErrorText error said text → Audits source said text
  refused_file error has line_text = inl (refuses IsBadFile source error said text has line_text)

  pub refused_explained : (error : InputError) → HasError IsBadFile source error → IsErrorText error said text → Explains source said text
  refused_explained error has line_text = inl (refuses IsBadFile source error said text has line_text)

  pub refused_scan : (sight : Sight) (error : InputError) → HasError IsBadText source error → IsErrorText error said text → Scans sight source said text
  refused_scan sight error has line_text = inl (refuses IsBadText source error said text has line_text)

  pub scanned : (sight : Sight) (scenario : Scenario) → ReadsScenario source.left scenario → Comes (ShowsScan scenario sight) scenario said text → Scans sight source said text
  scanned sight scenario read comes = inr (record { scenario = scenario; read = read; comes = comes })

  pub reported : (scenario : Scenario) → ReadsScenario source.left scenario → Comes (ShowsReport scenario) scenario said text → Reads source said text
  reported scenario read comes = inr (record { scenario = scenario; read = read; comes = comes })

  pub stored : (scenario : Scenario) (bytes : List ℕ) → ReadsText source.left scenario bytes → Comes (ShowsFile bytes) scenario said text → Keeps source said text
  stored scenario bytes read comes = inr (record { scenario = scenario; bytes = bytes; read = read; comes = comes })

  pub audited : (scenario : Scenario) (rows : List (Row Mail OrderLine)) → ReadsFile source.left scenario rows → AuditsAs scenario rows said text → Audits source said text
  audited scenario rows read audits = inr (record { scenario = scenario; rows = rows; read = read; audits = audits })

  pub explained : (scenario : Scenario) (rows : List (Row Mail OrderLine)) → ReadsFile source.left scenario rows → ExplainsAs scenario rows said text → Explains source said text
  explained scenario rows read explains = inr (record { scenario = scenario; rows = rows; read = read; explains = explains })
