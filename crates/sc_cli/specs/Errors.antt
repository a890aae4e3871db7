-- Why an input is not what was asked for, and the text about it.
use Rattle.std.specs.Prelude.{◌≡◌, ⊤, ℕ, ◌==◌, List, ◌++◌, Option, IfSome, Err, codes, if◌then◌else◌}
use Rattle.std.specs.Fmt.{decimal}
use Rattle.sc_texts.specs.edges.Causes.{Rose}
use Rattle.sc_texts.specs.edges.Uses.{SourceUse}
use Rattle.sc_texts.specs.declared.edges.reading.ReadError.{ReadError}
use Rattle.sc_texts.specs.declared.edges.reading.ReadError.TheVariants as read
use Rattle.sc_texts.specs.lines.Reasons.{reason_text}
use Rattle.sc_scenario.specs.scenario.Grammar.{verdict_of}
use Rattle.sc_scenario.specs.declared.scenario.reading.ScenarioError.{ScenarioError}
use Rattle.sc_scenario.specs.declared.scenario.reading.ScenarioError.TheVariants as scenario
use Rattle.sc_cli.specs.declared.errors.InputError.{InputError}
use Rattle.sc_cli.specs.declared.errors.InputError.TheVariants.{Failed, Bad, OutOfMemory}
use Rattle.sc_texts.specs.declared.lines.reasons.Reason.{Reason}

-- the text about a bad line: `line L: REASON`
abbrev pub error_text : ℕ → Reason → List ℕ
error_text line why = (codes "line " ++ decimal line ++ codes ": ") ++ reason_text why

-- why an input is not what was asked for, where reading it failed like this
abbrev pub of_read : ReadError → InputError
of_read read.Failed = Failed
of_read read.OutOfMemory = OutOfMemory

-- why an input is not what was asked for, where its text is no scenario for this reason
abbrev pub of_scenario : ScenarioError → InputError
of_scenario (scenario.Bad line why) = Bad line why
of_scenario scenario.OutOfMemory = OutOfMemory

-- bytes are no scenario, and this is their first bad line and the reason
abbrev pub IsBadText : List ℕ → ℕ → Reason → Type 0
IsBadText bytes line why = verdict_of bytes ≡ Err (scenario.Bad line why)

-- Why an input is not what was asked for: the source's count of read errors rose, or all of the input, where the source's bytes are known, has this bad line. Out of memory says nothing.
abbrev pub HasError : (List ℕ → ℕ → Reason → Type 0) → SourceUse → InputError → Type 0
HasError IsBad source Failed = Rose source.errors_before source.errors_after
HasError IsBad source (Bad line why) = IfSome source.left (λ input. IsBad input line why)
HasError IsBad source OutOfMemory = ⊤
