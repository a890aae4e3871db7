-- A file has one verdict.
use Rattle.std.proofs.Common.{◌≡◌, ℕ, ◌<◌, ◌≤◌, List, [], ◌∷◌, ◌++◌, length, map, None, refl, sym, ap, ◌∙◌, inl, inr, arith, append_assoc}
use Rattle.std.specs.Prelude.{Result, Ok, Err}
use Rattle.std.proofs.lemmas.Option.{none-some}
use Rattle.sc_base.specs.Among.{Each}
use Rattle.sc_actor.specs.declared.rows.Row.{Row}
use Rattle.sc_words.specs.declared.commands.orders.OrderLine.{OrderLine}
use Rattle.sc_mail.specs.declared.bodies.Mail.{Mail}
use Rattle.sc_json_text.specs.rows.RowText.{text_of, IsHeld}
use Rattle.sc_scenario.specs.scenario.Grammar.{verdict_of}
use Rattle.sc_scenario.specs.declared.scenario.reading.ScenarioError.{ScenarioError}
use Rattle.sc_scenario.specs.declared.scenario.reading.ScenarioError.TheVariants.{Bad}
use Rattle.sc_scenario.specs.declared.scenario.scenarios.Scenario.{Scenario}
use Rattle.sc_json_journal.specs.file.Files.{fed, divider_at, IsCut}
use Rattle.sc_json_journal.specs.file.Stored.{most_file_bytes, rows_whole, IsFile, BeginsBadly, LacksScenario, LacksRow, IsBadFile}
use Rattle.sc_json_journal.specs.file.Laws.{TextsAreApart, FilesHaveOneVerdict}
use Rattle.sc_json_journal.proofs.FileProofs.Plain.{fed_apart}
use Rattle.sc_json_journal.proofs.FileProofs.Rows.{AreLines, some_bytes}
use Rattle.sc_json_journal.proofs.FileProofs.OneFile.{same_cut, same_Ok}
use Rattle.sc_texts.specs.declared.lines.reasons.Reason.{Reason}

-- ---- rows

-- rows with the same lines have the same texts
same_texts : AreLines → (rows others : List (Row Mail OrderLine)) → Each IsHeld rows → Each IsHeld others → rows_whole rows ≡ rows_whole others → map text_of rows ≡ map text_of others
same_texts are [] [] held helds e = refl
same_texts are [] (other ∷ others) held helds e = absurd (some_bytes (text_of other) (rows_whole others) e)
same_texts are (row ∷ rows) [] held helds e = absurd (some_bytes (text_of row) (rows_whole rows) (sym e))
same_texts are (row ∷ rows) (other ∷ others) held helds e =
    let apart = fed_apart (text_of row) (text_of other) (rows_whole rows) (rows_whole others) (are row held.0) (are other helds.0) e in
    ap (λ text. text ∷ map text_of rows) apart.0 ∙ ap (λ texts. text_of other ∷ texts) (same_texts are rows others held.1 helds.1 apart.1)

-- rows with the same lines are the same, where no two rows have one text
same_rows : AreLines → TextsAreApart → (rows others : List (Row Mail OrderLine)) → Each IsHeld rows → Each IsHeld others → rows_whole rows ≡ rows_whole others → rows ≡ others
same_rows are differ [] [] held helds e = refl
same_rows are differ [] (other ∷ others) held helds e = absurd (some_bytes (text_of other) (rows_whole others) e)
same_rows are differ (row ∷ rows) [] held helds e = absurd (some_bytes (text_of row) (rows_whole rows) (sym e))
same_rows are differ (row ∷ rows) (other ∷ others) held helds e =
    let apart = fed_apart (text_of row) (text_of other) (rows_whole rows) (rows_whole others) (are row held.0) (are other helds.0) e in
    ap (λ first. first ∷ rows) (differ row other held.0 helds.0 apart.0) ∙ ap (λ more. other ∷ more) (same_rows are differ rows others held.1 helds.1 apart.1)

-- lines of rows have no bad one among them
no_bad : AreLines → (rows before : List (Row Mail OrderLine)) (rest : List ℕ) → Each IsHeld rows → Each IsHeld before → BeginsBadly rest → rows_whole rows ≡ rows_whole before ++ rest → ⊥
no_bad are [] [] rest held helds bad e = absurd (omega (arith, bad.0, ap length e))
no_bad are [] (other ∷ before) rest held helds bad e = some_bytes (text_of other) (rows_whole before ++ rest) (e ∙ append_assoc (fed (text_of other)) (rows_whole before) rest)
no_bad are (row ∷ rows) [] rest held helds bad e = bad.1 row (rows_whole rows) held.0 (sym e)
no_bad are (row ∷ rows) (other ∷ before) rest held helds bad e =
    let apart = fed_apart (text_of row) (text_of other) (rows_whole rows) (rows_whole before ++ rest) (are row held.0) (are other helds.0) (e ∙ append_assoc (fed (text_of other)) (rows_whole before) rest) in
    no_bad are rows before rest held.1 helds.1 bad apart.1

-- the first bad line stands behind as many rows
same_count : AreLines → (rows others : List (Row Mail OrderLine)) (rest end : List ℕ) → Each IsHeld rows → Each IsHeld others → BeginsBadly rest → BeginsBadly end → rows_whole rows ++ rest ≡ rows_whole others ++ end → length rows ≡ length others
same_count are [] [] rest end held helds bad bads e = refl
same_count are [] (other ∷ others) rest end held helds bad bads e =
    absurd (bad.1 other (rows_whole others ++ end) helds.0 (e ∙ append_assoc (fed (text_of other)) (rows_whole others) end))
same_count are (row ∷ rows) [] rest end held helds bad bads e =
    absurd (bads.1 row (rows_whole rows ++ rest) held.0 (sym e ∙ append_assoc (fed (text_of row)) (rows_whole rows) rest))
same_count are (row ∷ rows) (other ∷ others) rest end held helds bad bads e =
    let apart = fed_apart (text_of row) (text_of other) (rows_whole rows ++ rest) (rows_whole others ++ end) (are row held.0) (are other helds.0)
    (sym (append_assoc (fed (text_of row)) (rows_whole rows) rest) ∙ e ∙ append_assoc (fed (text_of other)) (rows_whole others) end) in
    let more = same_count are rows others rest end held.1 helds.1 bad bads apart.1 in
    omega (arith, more)

-- ---- verdicts

clash : (scenario : Scenario) (error : ScenarioError) (r : Result Scenario ScenarioError) → r ≡ Ok scenario → r ≡ Err error → ⊥
clash scenario error r e f = cc

-- a scenario is no error
not_ok : (scenario : Scenario) (error : ScenarioError) (text text' : List ℕ) → text ≡ text' → verdict_of text ≡ Ok scenario → verdict_of text' ≡ Err error → ⊥
not_ok scenario error text text' e read bad = clash scenario error (verdict_of text) read (ap verdict_of e ∙ bad)

same_error : (line line' : ℕ) (why why' : Reason) (r : Result Scenario ScenarioError) → r ≡ Err (Bad line why) → r ≡ Err (Bad line' why') → (line ≡ line') × (why ≡ why')
same_error line line' why why' r e f = (cc, cc)

-- a file with a line `journal` does not lack it
no_cut : (file text : List ℕ) (lines : ℕ) (behind : List ℕ) → IsCut file text lines behind → divider_at file ≡ None → ⊥
no_cut file text lines behind cut none = none-some (cut.0, lines) (sym none ∙ cut.1)

within_over : (file : List ℕ) → length file ≤ most_file_bytes → most_file_bytes < length file → ⊥
within_over file within over = absurd (omega (arith, within, over))

rows_bad : AreLines → (file : List ℕ) (scenario : Scenario) (rows : List (Row Mail OrderLine)) (line : ℕ) (why : Reason) → IsFile file scenario rows → LacksRow file line why → ⊥
rows_bad are file scenario rows line why is bad =
    let same = same_cut file is.text bad.text is.lines bad.lines is.behind bad.behind is.cut bad.cut in
    no_bad are rows bad.bad.before bad.bad.rest is.held bad.bad.held bad.bad.bad (sym is.rows_are ∙ same.ends ∙ bad.bad.bytes_are)

-- a file is not bad
not_bad : AreLines → (file : List ℕ) (scenario : Scenario) (rows : List (Row Mail OrderLine)) (line : ℕ) (why : Reason) → IsFile file scenario rows → IsBadFile file line why → ⊥
not_bad are file scenario rows line why is (inl bad) = within_over file is.within bad.over
not_bad are file scenario rows line why is (inr (inl bad)) = no_cut file is.text is.lines is.behind is.cut bad.nowhere
not_bad are file scenario rows line why is (inr (inr (inl bad))) =
    not_ok scenario (Bad line why) is.text bad.text (same_cut file is.text bad.text is.lines bad.lines is.behind bad.behind is.cut bad.cut).texts is.read bad.read
not_bad are file scenario rows line why is (inr (inr (inr bad))) = rows_bad are file scenario rows line why is bad

-- ---- one bad line

not_both_ways : (file : List ℕ) (line line' : ℕ) (why why' : Reason) → LacksScenario file line why → LacksRow file line' why' → ⊥
not_both_ways file line line' why why' a b =
    not_ok b.scenario (Bad line why) b.text a.text (same_cut file b.text a.text b.lines a.lines b.behind a.behind b.cut a.cut).texts b.read a.read

one_scenario : (file : List ℕ) (line line' : ℕ) (why why' : Reason) → LacksScenario file line why → LacksScenario file line' why' → (line ≡ line') × (why ≡ why')
one_scenario file line line' why why' a b =
    same_error line line' why why' (verdict_of a.text) a.read (ap verdict_of (same_cut file a.text b.text a.lines b.lines a.behind b.behind a.cut b.cut).texts ∙ b.read)

one_row : AreLines → (file : List ℕ) (line line' : ℕ) (why why' : Reason) → LacksRow file line why → LacksRow file line' why' → (line ≡ line') × (why ≡ why')
one_row are file line line' why why' a b =
    let same = same_cut file a.text b.text a.lines b.lines a.behind b.behind a.cut b.cut in
    let counts = same_count are a.bad.before b.bad.before a.bad.rest b.bad.rest a.bad.held b.bad.held a.bad.bad b.bad.bad (sym a.bad.bytes_are ∙ same.ends ∙ b.bad.bytes_are) in
    (omega (arith, a.line_is, b.line_is, same.counts, a.bad.count_is, b.bad.count_is, counts), a.why_is ∙ sym b.why_is)

-- a bad file has one bad line, and one reason
one_bad : AreLines → (file : List ℕ) (line line' : ℕ) (why why' : Reason) → IsBadFile file line why → IsBadFile file line' why' → (line ≡ line') × (why ≡ why')
one_bad are file line line' why why' (inl a) (inl b) = (a.line_is ∙ sym b.line_is, a.why_is ∙ sym b.why_is)
one_bad are file line line' why why' (inl a) (inr (inl b)) = absurd (within_over file b.within a.over)
one_bad are file line line' why why' (inl a) (inr (inr (inl b))) = absurd (within_over file b.within a.over)
one_bad are file line line' why why' (inl a) (inr (inr (inr b))) = absurd (within_over file b.within a.over)
one_bad are file line line' why why' (inr (inl a)) (inl b) = absurd (within_over file a.within b.over)
one_bad are file line line' why why' (inr (inl a)) (inr (inl b)) = (a.line_is ∙ sym b.line_is, a.why_is ∙ sym b.why_is)
one_bad are file line line' why why' (inr (inl a)) (inr (inr (inl b))) = absurd (no_cut file b.text b.lines b.behind b.cut a.nowhere)
one_bad are file line line' why why' (inr (inl a)) (inr (inr (inr b))) = absurd (no_cut file b.text b.lines b.behind b.cut a.nowhere)
one_bad are file line line' why why' (inr (inr (inl a))) (inl b) = absurd (within_over file a.within b.over)
one_bad are file line line' why why' (inr (inr (inl a))) (inr (inl b)) = absurd (no_cut file a.text a.lines a.behind a.cut b.nowhere)
one_bad are file line line' why why' (inr (inr (inl a))) (inr (inr (inl b))) = one_scenario file line line' why why' a b
one_bad are file line line' why why' (inr (inr (inl a))) (inr (inr (inr b))) = absurd (not_both_ways file line line' why why' a b)
one_bad are file line line' why why' (inr (inr (inr a))) (inl b) = absurd (within_over file a.within b.over)
one_bad are file line line' why why' (inr (inr (inr a))) (inr (inl b)) = absurd (no_cut file a.text a.lines a.behind a.cut b.nowhere)
one_bad are file line line' why why' (inr (inr (inr a))) (inr (inr (inl b))) = absurd (not_both_ways file line' line why' why b a)
one_bad are file line line' why why' (inr (inr (inr a))) (inr (inr (inr b))) = one_row are file line line' why why' a b

-- ---- the law

-- what stands behind the line `journal` of one file
same_ends : (file : List ℕ) (one other : Scenario) (rows others : List (Row Mail OrderLine)) → IsFile file one rows → IsFile file other others → rows_whole rows ≡ rows_whole others
same_ends file one other rows others a b = sym a.rows_are ∙ (same_cut file a.text b.text a.lines b.lines a.behind b.behind a.cut b.cut).ends ∙ b.rows_are

-- a file has one verdict
pub one_verdict : AreLines → FilesHaveOneVerdict
one_verdict are = record {
  scenarios = λ file one other rows others a b.
      same_Ok one other (sym a.read ∙ ap verdict_of (same_cut file a.text b.text a.lines b.lines a.behind b.behind a.cut b.cut).texts ∙ b.read);
  texts = λ file one other rows others a b. same_texts are rows others a.held b.held (same_ends file one other rows others a b);
  rows = λ differ file one other rows others a b. same_rows are differ rows others a.held b.held (same_ends file one other rows others a b);
  not_both = λ file scenario rows line why is bad. not_bad are file scenario rows line why is bad;
  lines = λ file line line' why why' a b. one_bad are file line line' why why' a b;
}
