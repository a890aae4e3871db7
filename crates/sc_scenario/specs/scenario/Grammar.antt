-- The grammar: which texts are a scenario, and which one; of any other text, the first bad line and the reason.
use Rattle.std.specs.Prelude.{ℕ, ◌+◌, ◌==◌, ◌&&◌, ◌||◌, not, nat_lt, Bool, true, false, List, [], ◌∷◌, length, codes, Option, Result, Ok, Err, if◌then◌else◌, ◌≡◌, ◌⊎◌, MatchResult}
use Rattle.std.specs.Result.{result_ok}
use Rattle.sc_texts.specs.lines.Definitions.{or_reason, then_on, same, nth, words_of, most_lines, is_too_long, lines_of, trimmed, is_skipped, has_bad_byte, kind_of, has_count}
use Rattle.sc_scenario.specs.scenario.Groups.{bases_of}
use Rattle.sc_scenario.specs.scenario.Statements.{statement_in}
use Rattle.sc_scenario.specs.scenario.Places.{is_in_place}
use Rattle.sc_scenario.specs.scenario.Taking.{taken_outside, taken_within}
use Rattle.sc_texts.specs.declared.lines.reasons.Reason.{Reason}
use Rattle.sc_texts.specs.declared.lines.reasons.Reason.TheVariants.{MissingHeader, BadByte, UnknownWord, OutOfPlace, WrongCount, UnendedClient, MissingPart, TooLarge}
use Rattle.sc_texts.specs.declared.lines.kinds.Kind.{Kind}
use Rattle.sc_scenario.specs.declared.scenario.statements.Statement.{Statement}
use Rattle.sc_scenario.specs.declared.scenario.drafts.Draft.{Draft}
use Rattle.sc_scenario.specs.declared.scenario.drafts.Reading.{Reading}
use Rattle.sc_scenario.specs.declared.scenario.drafts.Reading.TheVariants.{Fresh, Outside, Within}
use Rattle.sc_scenario.specs.declared.scenario.scenarios.Scenario.{Scenario}
use Rattle.sc_scenario.specs.declared.scenario.reading.ScenarioError.{ScenarioError}
use Rattle.sc_scenario.specs.declared.scenario.reading.ScenarioError.TheVariants.{Bad, OutOfMemory}

-- ---- one line

-- the state of the parser after the header of this version
abbrev pub begun : ℕ → Reading
begun version = Outside (record { version = version; nodes = 0; groups = []; policy = false; clients = []; lines = []; orders = 0 })

-- whether a line has exactly these two words
abbrev pub are_two : List (List ℕ) → List ℕ → List ℕ → Bool
are_two words one other = (length words == 2) && same (nth words 0) one && same (nth words 1) other

-- the state of the parser after line 1, which must be `scatter 1` or `scatter 2`
abbrev pub header_read : List (List ℕ) → Result Reading Reason
header_read words =
    if are_two words (codes "scatter") (codes "1") then Ok (begun 1)
    else if are_two words (codes "scatter") (codes "2") then Ok (begun 2)
    else Err MissingHeader

-- what a line of a kind says, where it may stand here and has its number of words
abbrev pub said : Bool → Kind → List (List ℕ) → Result Statement Reason
said in_place kind words =
    if not in_place then Err OutOfPlace
    else if not (has_count kind (length words)) then Err WrongCount
    else statement_in kind words

-- the state of the parser after a line with these words
abbrev pub words_read : Reading → List (List ℕ) → Result Reading Reason
words_read Fresh words = header_read words
words_read (Outside draft) words =
    or_reason (kind_of draft.version words) UnknownWord (λ kind. then_on (said (is_in_place (Outside draft) kind) kind words) (taken_outside draft))
words_read (Within draft asks) words =
    or_reason (kind_of draft.version words) UnknownWord (λ kind. then_on (said (is_in_place (Within draft asks) kind) kind words) (taken_within draft asks))

-- whether nothing was read yet
abbrev pub is_fresh : Reading → Bool
is_fresh Fresh = true
is_fresh (Outside draft) = false
is_fresh (Within draft asks) = false

-- the state of the parser after one more line, or the reason why the line is bad; from line 2 on, comments and lines without words are skipped
abbrev pub line_read : Reading → List ℕ → Result Reading Reason
line_read reading line =
    if not (is_fresh reading) && is_skipped line then Ok reading
    else if not (is_fresh reading) && has_bad_byte line then Err BadByte
    else words_read reading (words_of line)

-- ---- all lines

-- the error of a bad line with this number
abbrev pub bad : ℕ → Reason → Result Scenario ScenarioError
bad number reason = Err (Bad number reason)

-- the scenario of what was read
abbrev pub scenario_by : Draft → Scenario
scenario_by draft = record {
  nodes = draft.nodes;
  groups = bases_of draft.groups;
  policy = draft.policy;
  clients = draft.clients;
  lines = draft.lines;
  brief = false;
  version = draft.version;
}

-- the result after the last line, where `number` is that of the line that would follow: there must be a header, nodes, a group, and no open section
abbrev pub reading_ended : ℕ → Reading → Result Scenario ScenarioError
reading_ended number Fresh = bad number MissingHeader
reading_ended number (Within draft asks) = bad number UnendedClient
reading_ended number (Outside draft) =
    if (draft.nodes == 0) || (length draft.groups == 0) then bad number MissingPart else Ok (scenario_by draft)

-- the result at the end of a text; of one with too many bytes, the next line is bad
abbrev pub text_ended : Bool → ℕ → Reading → Result Scenario ScenarioError
text_ended true number reading = bad number TooLarge
text_ended false number reading = reading_ended number reading

-- the parser goes on with the state after a good line; a bad line ends it
abbrev pub going_on : ℕ → (Reading → Result Scenario ScenarioError) → Result Reading Reason → Result Scenario ScenarioError
going_on number onward (Ok more) = onward more
going_on number onward (Err reason) = bad number reason

-- the result of these lines, of which the first has this number: the first bad line counts
abbrev pub lines_read : Bool → ℕ → Reading → List (List ℕ) → Result Scenario ScenarioError
lines_read is_long number reading [] = text_ended is_long number reading
lines_read is_long number reading (line ∷ lines) =
    if nat_lt most_lines number then bad number TooLarge
    else going_on number (λ more. lines_read is_long (number + 1) more lines) (line_read reading (trimmed line))

-- the parser's result for a text: its scenario, or the first bad line and the reason
abbrev pub verdict_of : List ℕ → Result Scenario ScenarioError
verdict_of text = lines_read (is_too_long text) 1 Fresh (lines_of text)

-- a call returns the parser's result for a text, or that it is out of memory
abbrev pub HasVerdict : Result Scenario ScenarioError → Result Scenario ScenarioError → Type 0
HasVerdict verdict result = MatchResult result (λ scenario. verdict ≡ Ok scenario) (λ error. (error ≡ OutOfMemory) ⊎ (verdict ≡ Err error))

-- the scenario of a text, if the text is one
abbrev pub scenario_of : List ℕ → Option Scenario
scenario_of text = result_ok (verdict_of text)
