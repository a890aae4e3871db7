-- What a run says and prints, and why.
use Rattle.std.specs.Prelude.{◌≡◌, ◌⊎◌, ◌≤◌, ◌+◌, ◌^◌, ℕ, List, [], ◌∷◌, ◌++◌, length, Option, None, Some, IfSome, codes}
use Rattle.std.specs.Fmt.{decimal}
use Rattle.sc_base.specs.Among.{Each}
use Rattle.sc_texts.specs.edges.Causes.{Rose}
use Rattle.sc_texts.specs.edges.Uses.{SourceUse, SinkUse}
use Rattle.sc_words.specs.declared.commands.orders.OrderLine.{OrderLine}
use Rattle.sc_mail.specs.declared.bodies.Mail.{Mail}
use Rattle.sc_actor.specs.declared.rows.Row.{Row}
use Rattle.sc_actor.specs.Walk.{unsettled}
use Rattle.sc_scenario.specs.scenario.Made.{made_scenario}
use Rattle.sc_scenario.specs.scenario.Valid.{IsValid}
use Rattle.sc_actor.specs.Counted.{journal_bytes}
use Rattle.sc_scenario.specs.declared.scenario.scenarios.Scenario.{Scenario}
use Rattle.sc_explain.specs.rows.Explained.{explained}
use Rattle.sc_scenario.specs.report.Report.{report_lines}
use Rattle.sc_json_text.specs.rows.RowText.{IsHeld}
use Rattle.sc_json_journal.specs.file.Stored.{file_lines, IsBadFile}
use Rattle.sc_meaning.specs.sound.Soundness.{IsSoundThroughout}
use Rattle.sc_law_refusal.specs.refusal.Journals.{RefusesWithCause}
use Rattle.sc_run.specs.ReportedOrders.{LinesHaveHappened}
use Rattle.sc_meaning.specs.sound.Players.{system_of, schedule, Lawful, Whole, parties, as_nodes}
use Rattle.sc_world.specs.ReplayErrors.{IsBadRow}
use Rattle.sc_world.specs.Summary.{summary_of}
use Rattle.sc_live_plain.specs.Budget.{IsAtBudget, AreAnswered}
use Rattle.sc_live_plain.specs.CalmBudget.{IsCalm}
use Rattle.sc_live_plain.specs.LastLine.{EndsAtBudget}
use Rattle.sc_live_answers.specs.ReportedOrders.{AreOrdersReported}
use Rattle.sc_live_healed.specs.HealedSchedules.{IsHealed, HasLivingMajorities}
use Rattle.sc_live_healed.specs.HealedStores.{Heals}
use Rattle.sc_run.specs.Budgets.{IsWithinBudget}
use Rattle.sc_run.specs.Played.{mail_weight, HasFilled}
use Rattle.sc_run.specs.Shown.{ShowsScan}
use Rattle.sc_run.specs.declared.done.Text.{Text}
use Rattle.sc_run.specs.declared.done.Done.{Done}
use Rattle.sc_cli.specs.Causes.{Prints, said_of}
use Rattle.sc_cli.specs.Subcommands.{subcommand_by}
use Rattle.sc_cli.specs.declared.subcommands.Sight.{Sight}
use Rattle.sc_cli.specs.declared.subcommands.Subcommand.{Subcommand}
use Rattle.sc_cli.specs.declared.subcommands.Subcommand.TheVariants as ask
use Rattle.sc_cli.specs.Errors.{error_text, IsBadText}
use Rattle.sc_cli.specs.Inputs.{ReadsFile, ReadsScenario, ReadsText}
use Rattle.sc_cli.specs.declared.said.Said.{Said}
use Rattle.sc_cli.specs.declared.said.Said.TheVariants.{Ended, Filled, Usage, BadScenario, ReadError, Lawful as Yes, Unlawful as No}
use Rattle.sc_texts.specs.chance.KeyStream.{two_words}
use Rattle.sc_texts.specs.declared.lines.reasons.Reason.{Reason}

-- the usage line, the text for arguments outside their grammar
abbrev pub usage : List ℕ
usage = codes "usage: scatter run | scatter make N S | scatter journal | scatter audit | scatter scan LO LEN R MOST | scatter pool | scatter explain"

-- the one line of a text that is about no journal
pub record IsLineText (message : List ℕ) (text : Text) : Type 0 where
  pub lines : text.lines ≡ (message ++ 10 ∷ []) ∷ []
  pub journal : text.journal ≡ None
  pub parties : text.parties ≡ []

-- `journal full after R rows`
abbrev pub full_line : ℕ → List ℕ
full_line rows = (codes "journal full after " ++ decimal rows ++ codes " rows") ++ 10 ∷ []

-- the one line of a text about a journal that is full
pub record IsFullText (journal : List (Row Mail OrderLine)) (text : Text) : Type 0 where
  pub lines : text.lines ≡ full_line (length journal) ∷ []
  pub journal_is : text.journal ≡ Some journal
  pub parties : text.parties ≡ []

-- the most counted bytes of a run's journal
abbrev pub journal_limit : ℕ
journal_limit = 2 ^ 30

-- what is shown of a scenario and a journal of it: the lines of its report
abbrev pub ShowsReport : Scenario → List (Row Mail OrderLine) → List (List ℕ) → Type 0
ShowsReport scenario journal lines = lines ≡ report_lines (summary_of scenario journal)

-- what is shown of a scenario's text and a journal of it: the lines of the file that stores it, in which each row has its text
abbrev pub ShowsFile : List ℕ → List (Row Mail OrderLine) → List (List ℕ) → Type 0
ShowsFile text journal lines = (lines ≡ file_lines text journal) × Each IsHeld journal

-- The text shows a journal of a scenario that is lawful, whole and within the limit, of which each prefix is sound, each refusal has its cause, and each result that a report of it gives of an order has happened, and the parties are the replays of their rows.
pub record ReportsJournal (Shows : List (Row Mail OrderLine) → List (List ℕ) → Type 0) (scenario : Scenario) (journal : List (Row Mail OrderLine)) (text : Text) : Type 0 where
  pub lawful : Lawful as_nodes two_words scenario journal
  pub whole : Whole as_nodes two_words scenario journal
  pub within : journal_bytes mail_weight journal ≤ journal_limit
  pub sound : IsSoundThroughout as_nodes scenario journal
  pub refuses : RefusesWithCause as_nodes scenario journal
  pub results : LinesHaveHappened scenario journal
  pub lines : Shows journal text.lines
  pub journal_is : text.journal ≡ Some journal
  pub parties_are : text.parties ≡ parties as_nodes scenario journal

-- The text shows some journal of the scenario, and says whether a line was cut off with mail pending. Within the scenario's budget none was. Where the scenario is calm and none was, every request of a client whose `go` line is followed by a line of deliveries is answered, and the result of each order is reported; where it is plain and its last line is at the budget such requests are answered, whatever lines before it were cut off. Where its lines heal, more than half of each group lives and none was cut off, the store heals.
pub record Plays (Shows : List (Row Mail OrderLine) → List (List ℕ) → Type 0) (scenario : Scenario) (said : Said) (text : Text) : Type 0 where
  pub journal : List (Row Mail OrderLine)
  pub reports : ReportsJournal Shows scenario journal text
  pub said_is : said ≡ said_of (unsettled (system_of as_nodes two_words scenario) (schedule scenario) journal)
  pub settled : IsWithinBudget scenario → said ≡ Ended
  pub answered : IsCalm scenario → said ≡ Ended → AreAnswered scenario journal
  pub last : EndsAtBudget scenario → AreAnswered scenario journal
  pub reported : IsCalm scenario → said ≡ Ended → AreOrdersReported scenario journal
  pub healed : (healed : IsHealed scenario) → HasLivingMajorities scenario → said ≡ Ended → Heals two_words scenario healed journal

-- The text reports of some journal of the scenario that it is full: a row that may come next passes the limit. No journal of a plain scenario at its budget is.
pub record PlaysUntilFull (scenario : Scenario) (said : Said) (text : Text) : Type 0 where
  pub journal : List (Row Mail OrderLine)
  pub filled : HasFilled scenario journal_limit journal
  pub line_text : IsFullText journal text
  pub said_is : said ≡ Filled
  pub not_plain : IsAtBudget scenario → ⊥

-- what comes of a scenario, of whose journal this is shown
abbrev pub Comes : (List (Row Mail OrderLine) → List (List ℕ) → Type 0) → Scenario → Said → Text → Type 0
Comes Shows scenario said text = Plays Shows scenario said text ⊎ PlaysUntilFull scenario said text

-- a read error came, and the text says so
pub record FailsToRead (source : SourceUse) (said : Said) (text : Text) : Type 0 where
  pub rose : Rose source.errors_before source.errors_after
  pub line_text : IsLineText (codes "read fault") text
  pub said_is : said ≡ ReadError

-- the text names the first bad line of the input, and its reason
pub record NamesBadLine (IsBad : List ℕ → ℕ → Reason → Type 0) (source : SourceUse) (said : Said) (text : Text) : Type 0 where
  pub line : ℕ
  pub why : Reason
  pub bad : IfSome source.left (λ input. IsBad input line why)
  pub line_text : IsLineText (error_text line why) text
  pub said_is : said ≡ BadScenario

-- the input is not what was asked for
abbrev pub Refuses : (List ℕ → ℕ → Reason → Type 0) → SourceUse → Said → Text → Type 0
Refuses IsBad source said text = FailsToRead source said text ⊎ NamesBadLine IsBad source said text

-- the input is a scenario, and its report is shown
pub record ReadsAndPlays (source : SourceUse) (said : Said) (text : Text) : Type 0 where
  pub scenario : Scenario
  pub read : ReadsScenario source.left scenario
  pub comes : Comes (ShowsReport scenario) scenario said text

-- the input is a scenario, and its journal is shown behind its text
pub record ReadsAndStores (source : SourceUse) (said : Said) (text : Text) : Type 0 where
  pub scenario : Scenario
  pub bytes : List ℕ
  pub read : ReadsText source.left scenario bytes
  pub comes : Comes (ShowsFile bytes) scenario said text

-- the input is a scenario, and a scan of its journal is shown
pub record ReadsAndScans (sight : Sight) (source : SourceUse) (said : Said) (text : Text) : Type 0 where
  pub scenario : Scenario
  pub read : ReadsScenario source.left scenario
  pub comes : Comes (ShowsScan scenario sight) scenario said text

-- `lawful rows R`
abbrev pub lawful_line : ℕ → List ℕ
lawful_line rows = (codes "lawful rows " ++ decimal rows) ++ 10 ∷ []

-- `unlawful row A`, counted from 1
abbrev pub unlawful_line : ℕ → List ℕ
unlawful_line row = (codes "unlawful row " ++ decimal row) ++ 10 ∷ []

-- the one line of a text about the rows of a stored journal
pub record IsRowsText (line : List ℕ) (rows : List (Row Mail OrderLine)) (text : Text) : Type 0 where
  pub lines : text.lines ≡ line ∷ []
  pub journal : text.journal ≡ Some rows
  pub parties : text.parties ≡ []

-- Rows are a lawful journal of a scenario, of which each prefix is sound and each refusal has its cause, and the text says how many they are.
pub record HoldsLawful (scenario : Scenario) (rows : List (Row Mail OrderLine)) (said : Said) (text : Text) : Type 0 where
  pub lawful : Lawful as_nodes two_words scenario rows
  pub sound : IsSoundThroughout as_nodes scenario rows
  pub refuses : RefusesWithCause as_nodes scenario rows
  pub line_text : IsRowsText (lawful_line (length rows)) rows text
  pub said_is : said ≡ Yes

-- Rows are no lawful journal of a scenario, and the text names the first that is not lawful.
pub record HoldsUnlawful (scenario : Scenario) (rows : List (Row Mail OrderLine)) (said : Said) (text : Text) : Type 0 where
  pub at : ℕ
  pub unlawful : IsBadRow scenario rows at
  pub line_text : IsRowsText (unlawful_line at) rows text
  pub said_is : said ≡ No

-- what a text says of a scenario and rows that are stored
abbrev pub AuditsAs : Scenario → List (Row Mail OrderLine) → Said → Text → Type 0
AuditsAs scenario rows said text = HoldsLawful scenario rows said text ⊎ HoldsUnlawful scenario rows said text

-- the input stores a journal, and the text says whether it is lawful
pub record ReadsAndAudits (source : SourceUse) (said : Said) (text : Text) : Type 0 where
  pub scenario : Scenario
  pub rows : List (Row Mail OrderLine)
  pub read : ReadsFile source.left scenario rows
  pub audits : AuditsAs scenario rows said text

-- Rows are a lawful journal of a scenario, of which each prefix is sound and each refusal has its cause, and the lines of the text are what each row decided.
pub record ExplainsLawful (scenario : Scenario) (rows : List (Row Mail OrderLine)) (said : Said) (text : Text) : Type 0 where
  pub lawful : Lawful as_nodes two_words scenario rows
  pub sound : IsSoundThroughout as_nodes scenario rows
  pub refuses : RefusesWithCause as_nodes scenario rows
  pub lines : text.lines ≡ explained as_nodes scenario.groups rows
  pub journal_is : text.journal ≡ Some rows
  pub parties : text.parties ≡ []
  pub said_is : said ≡ Yes

-- what a text explains of a scenario and rows that are stored: where they are not lawful, it is what an audit prints
abbrev pub ExplainsAs : Scenario → List (Row Mail OrderLine) → Said → Text → Type 0
ExplainsAs scenario rows said text = ExplainsLawful scenario rows said text ⊎ HoldsUnlawful scenario rows said text

-- the input stores a journal, and the text is what its rows decided, or names the first that is not lawful
pub record ReadsAndExplains (source : SourceUse) (said : Said) (text : Text) : Type 0 where
  pub scenario : Scenario
  pub rows : List (Row Mail OrderLine)
  pub read : ReadsFile source.left scenario rows
  pub explains : ExplainsAs scenario rows said text

-- What a text says that was begun after `run` or `pool`, and its cause.
abbrev pub Reads : SourceUse → Said → Text → Type 0
Reads source said text = Refuses IsBadText source said text ⊎ ReadsAndPlays source said text

-- What a text says that was begun after `journal`, and its cause.
abbrev pub Keeps : SourceUse → Said → Text → Type 0
Keeps source said text = Refuses IsBadText source said text ⊎ ReadsAndStores source said text

-- What a text says that was begun after `scan` with its four numbers, and its cause.
abbrev pub Scans : Sight → SourceUse → Said → Text → Type 0
Scans sight source said text = Refuses IsBadText source said text ⊎ ReadsAndScans sight source said text

-- What a text says that was begun after `audit`, and its cause.
abbrev pub Audits : SourceUse → Said → Text → Type 0
Audits source said text = Refuses IsBadFile source said text ⊎ ReadsAndAudits source said text

-- What a text says that was begun after `explain`, and its cause.
abbrev pub Explains : SourceUse → Said → Text → Type 0
Explains source said text = Refuses IsBadFile source said text ⊎ ReadsAndExplains source said text

-- what a text says of a made scenario, which is plain and at its budget
pub record PlaysMade (scenario : Scenario) (said : Said) (text : Text) : Type 0 where
  pub valid : IsValid scenario
  pub at_budget : IsAtBudget scenario
  pub comes : Comes (ShowsReport scenario) scenario said text

-- What a text says that was begun where the arguments ask for this: the usage line, what the input is, or what comes of a made scenario.
abbrev pub SaysFor : Option Subcommand → SourceUse → Said → Text → Type 0
SaysFor None source said text = (said ≡ Usage) × IsLineText usage text
SaysFor (Some ask.Run) source said text = Reads source said text
SaysFor (Some ask.Journal) source said text = Keeps source said text
SaysFor (Some ask.Audit) source said text = Audits source said text
SaysFor (Some ask.Pool) source said text = Reads source said text
SaysFor (Some ask.Explain) source said text = Explains source said text
SaysFor (Some (ask.Scan sight)) source said text = Scans sight source said text
SaysFor (Some (ask.Make n seed)) source said text = PlaysMade (made_scenario n seed) said text

-- what a text says that was begun for these arguments
abbrev pub Says : List (List ℕ) → SourceUse → Said → Text → Type 0
Says words source said text = SaysFor (subcommand_by words) source said text

-- A text was begun and printed, each line by one call of the sink, and the run hands back what it was about.
pub record Printed (words : List (List ℕ)) (source : SourceUse) (sink : SinkUse) (done : Done) : Type 0 where
  pub said : Said
  pub text : Text
  pub says : Says words source said text
  pub prints : Prints sink said text.lines done.status
  pub calls : sink.calls_after ≤ sink.calls_before + length text.lines
  pub journal : done.journal ≡ text.journal
  pub parties : done.parties ≡ text.parties

-- nothing is handed back after it ran out of memory
pub record RanOut (done : Done) : Type 0 where
  pub status : done.status ≡ 8
  pub journal : done.journal ≡ None
  pub parties : done.parties ≡ []

-- a run printed a text, or it ran out of memory
abbrev pub Ends : List (List ℕ) → SourceUse → SinkUse → Done → Type 0
Ends words source sink done = Printed words source sink done ⊎ RanOut done
