-- What was read of a source is the whole of it, or too long either way.
use Rattle.std.proofs.Common.{◌≡◌, ◌⊎◌, ℕ, ◌+◌, ◌≤◌, List, length, take, Option, None, Some, sym, ◌∙◌, ap, inl, inr, subst, arith}
use Rattle.std.proofs.lemmas.List.{length-take, take_all}
use Rattle.std.specs.Prelude.{IfSome, MatchResult, Result, Ok, Err}
use Rattle.std.specs.Result.{result_ok, IsErrAnd}
use Rattle.sc_actor.specs.declared.rows.Row.{Row}
use Rattle.sc_words.specs.declared.commands.orders.OrderLine.{OrderLine}
use Rattle.sc_texts.specs.edges.Uses.{SourceUse}
use Rattle.sc_json_journal.specs.file.Laws.{FirstBytesDecideErrors, ScenariosAreShort}
use Rattle.sc_json_journal.specs.file.Stored.{most_file_bytes, IsBadFile, IsFileError}
use Rattle.sc_texts.specs.lines.Lines.{most_bytes}
use Rattle.sc_mail.specs.declared.bodies.Mail.{Mail}
use Rattle.sc_scenario.specs.scenario.Grammar.{verdict_of}
use Rattle.sc_scenario.specs.scenario.Valid.{FirstBytesDecide}
use Rattle.sc_scenario.specs.declared.scenario.reading.ScenarioError.{ScenarioError}
use Rattle.sc_scenario.specs.declared.scenario.reading.ScenarioError.TheVariants.{Bad, OutOfMemory}
use Rattle.sc_scenario.specs.declared.scenario.scenarios.Scenario.{Scenario}
use Rattle.sc_cli.specs.Errors.{of_scenario, HasError, IsBadText}
use Rattle.sc_cli.specs.declared.errors.InputError.{InputError}
use Rattle.sc_cli.specs.Inputs.{AreAll, ReadsFile, ReadsScenario, ReadsText, Stores}
use Rattle.sc_texts.specs.declared.lines.reasons.Reason.{Reason}

-- what was read of a source comes out as the whole
read_whole : FirstBytesDecide → (left : Option (List ℕ)) (bytes : List ℕ) (verdict : Result Scenario ScenarioError) → IfSome left (λ input. bytes ≡ take (most_bytes + 1) input) → verdict_of bytes ≡ verdict → IfSome left (λ input. verdict_of input ≡ verdict)
read_whole decide None bytes verdict taken is = tt
read_whole decide (Some input) bytes verdict taken is = sym (decide input) ∙ ap verdict_of (sym taken) ∙ is

-- bytes that are not too many are all that there were
whole_by : (most : ℕ) (bytes input : List ℕ) → bytes ≡ take (most + 1) input → length bytes ≤ most → bytes ≡ input
whole_by most bytes input taken few = taken ∙ take_all (most + 1) input (omega (arith, few, ap length taken, length-take (most + 1) input))

all_of : (most : ℕ) (left : Option (List ℕ)) (bytes : List ℕ) → IfSome left (λ input. bytes ≡ take (most + 1) input) → length bytes ≤ most → AreAll left bytes
all_of most None bytes taken few = tt
all_of most (Some input) bytes taken few = whole_by most bytes input taken few

-- the bytes that were read of a source are a scenario, and so is the whole of it
pub reads_scenario : FirstBytesDecide → (left : Option (List ℕ)) (bytes : List ℕ) (scenario : Scenario) → IfSome left (λ input. bytes ≡ take (most_bytes + 1) input) → verdict_of bytes ≡ Ok scenario → ReadsScenario left scenario
reads_scenario decide left bytes scenario taken is =
    record { valid = inl (record { text = bytes; read = ap result_ok is }); read = read_whole decide left bytes (Ok scenario) taken is }

-- the bytes that were read of a source, with the scenario that they are, are the whole of it
pub reads_text : ScenariosAreShort → (left : Option (List ℕ)) (bytes : List ℕ) (scenario : Scenario) → IfSome left (λ input. bytes ≡ take (most_bytes + 1) input) → verdict_of bytes ≡ Ok scenario → ReadsText left scenario bytes
reads_text are_short left bytes scenario taken is =
    record { valid = inl (record { text = bytes; read = ap result_ok is }); read = is; all = all_of most_bytes left bytes taken (are_short bytes scenario is) }

-- the bytes that were read of a source are a stored journal, and the whole of it
pub reads_file : (left : Option (List ℕ)) (bytes : List ℕ) (scenario : Scenario) (rows : List (Row Mail OrderLine)) → IfSome left (λ input. bytes ≡ take (most_file_bytes + 1) input) → Stores bytes scenario rows → ReadsFile left scenario rows
reads_file left bytes scenario rows taken stores = record { file = bytes; stores = stores; all = all_of most_file_bytes left bytes taken stores.is_file.within }

-- the bytes that were read of a source are no scenario, and neither is the whole of it
pub bad_text : FirstBytesDecide → (source : SourceUse) (bytes : List ℕ) (error : ScenarioError) → IfSome source.left (λ input. bytes ≡ take (most_bytes + 1) input) → (error ≡ OutOfMemory) ⊎ (verdict_of bytes ≡ Err error) → HasError IsBadText source (of_scenario error)
bad_text decide source bytes (Bad line why) taken (inl short) = absurd (let same : Bad line why ≡ OutOfMemory = short in cc)
bad_text decide source bytes (Bad line why) taken (inr is) = read_whole decide source.left bytes (Err (Bad line why)) taken is
bad_text decide source bytes OutOfMemory taken is = tt

bad_whole : FirstBytesDecideErrors → (left : Option (List ℕ)) (bytes : List ℕ) (line : ℕ) (why : Reason) → IfSome left (λ input. bytes ≡ take (most_file_bytes + 1) input) → IsBadFile bytes line why → IfSome left (λ input. IsBadFile input line why)
bad_whole decide None bytes line why taken bad = tt
bad_whole decide (Some input) bytes line why taken bad = (decide input line why).0 (subst (λ file. IsBadFile file line why) taken bad)

-- the bytes that were read of a source are no stored journal, and neither is the whole of it
pub bad_file : FirstBytesDecideErrors → (source : SourceUse) (bytes : List ℕ) (error : ScenarioError) → IfSome source.left (λ input. bytes ≡ take (most_file_bytes + 1) input) → IsFileError bytes error → HasError IsBadFile source (of_scenario error)
bad_file decide source bytes (Bad line why) taken bad = bad_whole decide source.left bytes line why taken bad
bad_file decide source bytes OutOfMemory taken bad = tt

-- an error that went on is the answer
pub answers_error : {T : Type 0} (answer : Result T InputError) (P : T → Type 0) (Q : InputError → Type 0) (error : InputError) → IsErrAnd answer (λ e. e ≡ error) → Q error → MatchResult answer P Q
answers_error (Ok x) P Q error is holds = absurd is
answers_error (Err e) P Q error is holds = subst Q (sym is) holds
