-- What a parser of files answers.
use Rattle.std.proofs.Common.{◌≡◌, ℕ, ◌+◌, ◌<◌, ◌≤◌, ◌^◌, List, length, take, sym, ap, ◌∙◌, inl, inr, arith}
use Rattle.std.specs.Prelude.{Result, Ok, Err, ◌⊎◌}
use Rattle.std.specs.Result.{result_ok, result_unwrap_or}
use Rattle.std.proofs.lemmas.List.{length-drop}
use Rattle.std.proofs.lemmas.Option.{same_Some}
use Rattle.sc_actor.specs.Mail.{mails}
use Rattle.sc_actor.specs.declared.rows.Row.{Row}
use Rattle.sc_words.specs.declared.commands.orders.OrderLine.{OrderLine}
use Rattle.sc_mail.specs.declared.bodies.Mail.{Mail}
use Rattle.sc_scenario.specs.scenario.Grammar.{verdict_of}
use Rattle.sc_scenario.specs.scenario.Valid.{IsValid}
use Rattle.sc_scenario.specs.declared.scenario.reading.ScenarioError.{ScenarioError}
use Rattle.sc_scenario.specs.declared.scenario.reading.ScenarioError.TheVariants.{Bad, OutOfMemory}
use Rattle.sc_scenario.specs.declared.scenario.scenarios.Scenario.{Scenario}
use Rattle.sc_json_journal.specs.file.Files.{scenario_text, rows_text, IsCut}
use Rattle.sc_json_journal.specs.file.Stored.{most_file_bytes, rows_whole, IsFile, IsFileError, IsRowError, AreRows}
use Rattle.sc_json_journal.specs.file.Laws.{IsFileOfOne}
use Rattle.sc_json_journal.proofs.FileProofs.Rows.{AreLines, AreLong, few_rows, few_mails, same_rows}

-- a verdict that a text is a scenario
abbrev pub ok : Scenario → Result Scenario ScenarioError
ok scenario = Ok scenario

-- equal values
pub same_Ok : (scenario other : Scenario) → ok scenario ≡ ok other → scenario ≡ other
same_Ok scenario other e = ap (λ r. result_unwrap_or r scenario) e

-- two cuts of a file are the same
pub record AreOneCut (text text' : List ℕ) (lines lines' : ℕ) (behind behind' : List ℕ) : Type 0 where
  pub texts : text ≡ text'
  pub counts : lines ≡ lines'
  pub ends : behind ≡ behind'

pub same_cut : (file text text' : List ℕ) (lines lines' : ℕ) (behind behind' : List ℕ) → IsCut file text lines behind → IsCut file text' lines' behind' → AreOneCut text text' lines lines' behind behind'
same_cut file text text' lines lines' behind behind' c d =
    let prefix : (c.0, lines) ≡ (d.0, lines') = same_Some (c.0, lines) (d.0, lines') (sym c.1 ∙ d.1) in
    let bytes : c.0 ≡ d.0 = ap (λ (p : ℕ × ℕ). p.0) prefix in
    record {
      texts = c.2 ∙ ap (λ n. scenario_text (take n file)) bytes ∙ sym d.2;
      counts = ap (λ (p : ℕ × ℕ). p.1) prefix;
      ends = c.3 ∙ ap (λ n. rows_text n file) bytes ∙ sym d.3;
    }

-- a file of rows that are the only ones with their texts
pub one_file : AreLines → (file text : List ℕ) (lines : ℕ) (behind : List ℕ) (scenario : Scenario) (rows : List (Row Mail OrderLine))
    → IsCut file text lines behind → verdict_of text ≡ Ok scenario → AreRows behind rows → IsFileOfOne file scenario rows
one_file are file text lines behind scenario rows cut read good other others is =
    let same = same_cut file text is.text lines is.lines behind is.behind cut is.cut in (
      same_Ok other scenario (sym is.read ∙ ap verdict_of (sym same.texts) ∙ read),
      same_rows are rows others good.held good.sole is.held (sym good.bytes_are ∙ same.ends ∙ is.rows_are),
    )

-- a scenario that some text is may be run
pub valid_read : (text : List ℕ) (scenario : Scenario) → verdict_of text ≡ Ok scenario → IsValid scenario
valid_read text scenario read = inl (record { text = text; read = ap result_ok read })

-- the part behind the line `journal` is no longer than the file
behind_within : (file : List ℕ) (scenario : Scenario) (rows : List (Row Mail OrderLine)) → IsFile file scenario rows → length (rows_whole rows) ≤ most_file_bytes
behind_within file scenario rows is =
    omega (arith, is.within, ap length is.rows_are, ap length is.cut.3, length-drop (is.cut.0 + 8) file)

-- so there are few rows
pub rows_few : (file : List ℕ) (scenario : Scenario) (rows : List (Row Mail OrderLine)) → IsFile file scenario rows → length rows < 2 ^ 31
rows_few file scenario rows is = omega (arith, behind_within file scenario rows is, few_rows rows)

-- so there are few mails
pub mails_few : AreLong → (file : List ℕ) (scenario : Scenario) (rows : List (Row Mail OrderLine)) → IsFile file scenario rows → length (mails rows) < 2 ^ 31
mails_few long file scenario rows is = omega (arith, behind_within file scenario rows is, few_mails long rows is.held)

-- ---- errors

-- an error of the scenario is one of the file
pub scenario_error : (file text : List ℕ) (lines : ℕ) (behind : List ℕ) (error : ScenarioError) → length file ≤ most_file_bytes → IsCut file text lines behind
    → (error ≡ OutOfMemory) ⊎ (verdict_of text ≡ Err error) → IsFileError file error
scenario_error file text lines behind OutOfMemory within cut h = tt
scenario_error file text lines behind (Bad line why) within cut (inl e) = cc
scenario_error file text lines behind (Bad line why) within cut (inr e) = inr (inr (inl (record { within = within; text = text; lines = lines; behind = behind; cut = cut; read = e })))

-- so is a bad row behind a scenario
pub row_error : (file text : List ℕ) (lines : ℕ) (behind : List ℕ) (scenario : Scenario) (error : ScenarioError) → length file ≤ most_file_bytes → IsCut file text lines behind
    → verdict_of text ≡ Ok scenario → IsRowError behind (lines + 2) error → IsFileError file error
row_error file text lines behind scenario OutOfMemory within cut read h = tt
row_error file text lines behind scenario (Bad line why) within cut read h =
    inr (inr (inr (record { within = within; text = text; lines = lines; behind = behind; cut = cut; scenario = scenario; read = read; count = h.0; bad = h.1; line_is = h.2; why_is = h.3 })))

-- ---- a file

-- what was cut, and came out as a scenario and rows
pub file_of : (file text : List ℕ) (lines : ℕ) (behind : List ℕ) (scenario : Scenario) (rows : List (Row Mail OrderLine)) → length file ≤ most_file_bytes → IsCut file text lines behind
    → verdict_of text ≡ Ok scenario → AreRows behind rows → IsFile file scenario rows
file_of file text lines behind scenario rows within cut read good =
    record { within = within; text = text; lines = lines; behind = behind; cut = cut; read = read; held = good.held; rows_are = good.bytes_are }
