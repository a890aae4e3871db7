-- No line of a scenario is `journal`.
use Rattle.std.proofs.Common.{◌≡◌, ℕ, ◌+◌, ◌&&◌, Bool, true, false, eqb, nat_lt, if◌then◌else◌, List, [], ◌∷◌, Option, Some, None, refl, sym, ap, ◌∙◌, subst}
use Rattle.std.specs.Prelude.{Result, Ok, Err}
use Rattle.std.specs.Option.{option_map, option_or}
use Rattle.std.specs.Cmp.Lexicographic.{same_text}
use Rattle.std.proofs.lemmas.Bool.{false_from_ne_true}
use Rattle.sc_base.specs.Among.{Each}
use Rattle.sc_texts.specs.lines.Lines.{most_lines, is_too_long, lines_in, lines_of, trimmed}
use Rattle.sc_texts.specs.lines.Kinds.{request_kind, kind_of}
use Rattle.sc_texts.specs.lines.Reasons.{or_reason, then_on}
use Rattle.sc_texts.specs.lines.Words.{same}
use Rattle.sc_texts.specs.declared.lines.kinds.Kind.{Kind}
use Rattle.sc_texts.specs.declared.lines.kinds.Kind.TheVariants.{Asking}
use Rattle.sc_texts.specs.declared.lines.kinds.RequestKind.{RequestKind}
use Rattle.sc_texts.specs.declared.lines.kinds.RequestKind.TheVariants as ask
use Rattle.sc_texts.specs.declared.lines.reasons.Reason.{Reason}
use Rattle.sc_texts.specs.declared.lines.reasons.Reason.TheVariants.{MissingHeader, UnknownWord, TooLarge}
use Rattle.sc_scenario.specs.scenario.Grammar.{said, line_read, going_on, lines_read, verdict_of}
use Rattle.sc_scenario.specs.scenario.Places.{is_in_place}
use Rattle.sc_scenario.specs.scenario.Taking.{taken_outside, taken_within}
use Rattle.sc_scenario.specs.declared.scenario.drafts.Reading.{Reading}
use Rattle.sc_scenario.specs.declared.scenario.drafts.Reading.TheVariants.{Fresh, Outside, Within}
use Rattle.sc_scenario.specs.declared.scenario.reading.ScenarioError.{ScenarioError}
use Rattle.sc_scenario.specs.declared.scenario.reading.ScenarioError.TheVariants.{Bad}
use Rattle.sc_scenario.specs.declared.scenario.scenarios.Scenario.{Scenario}
use Rattle.sc_scenario.proofs.ScenarioProofs.Texts.{going_ok}
use Rattle.sc_scenario.proofs.ScenarioProofs.Verdicts.{verdict_all}
use Rattle.sc_json_journal.specs.file.Files.{divider}

-- a line other than `journal`
abbrev pub IsOther : List ℕ → Type 0
IsOther line = same line divider ≡ false

-- ---- one line

-- whether requests of version 2 are known makes no difference
by_version : (b : Bool) → (if b && false then Some ask.Add else if b && false then Some ask.Cas else None) ≡ None
by_version true = refl
by_version false = refl

no_request : (version : ℕ) → request_kind version divider ≡ None
no_request version = by_version (eqb version 2)

-- the word is of no kind
no_kind : (version : ℕ) → kind_of version (divider ∷ []) ≡ None
no_kind version = ap (λ (kind : Option RequestKind). option_or (option_map Asking kind) None) (no_request version)

no_reading : (reason : Reason) (more : Reading) (r : Result Reading Reason) → r ≡ Err reason → r ≡ Ok more → ⊥
no_reading reason more r e f = cc

-- no reading goes on with the line `journal`
no_divider : (reading more : Reading) → line_read reading (trimmed divider) ≡ Ok more → ⊥
no_divider Fresh more e = no_reading MissingHeader more (line_read Fresh (trimmed divider)) refl e
no_divider (Outside draft) more e =
    no_reading UnknownWord more (line_read (Outside draft) (trimmed divider))
    (ap (λ (o : Option Kind). or_reason o UnknownWord (λ kind. then_on (said (is_in_place (Outside draft) kind) kind (divider ∷ [])) (taken_outside draft))) (no_kind draft.version)) e
no_divider (Within draft asks) more e =
    no_reading UnknownWord more (line_read (Within draft asks) (trimmed divider))
    (ap (λ (o : Option Kind). or_reason o UnknownWord (λ kind. then_on (said (is_in_place (Within draft asks) kind) kind (divider ∷ [])) (taken_within draft asks))) (no_kind draft.version)) e

line_other : (reading more : Reading) (line : List ℕ) → line_read reading (trimmed line) ≡ Ok more → IsOther line
line_other reading more line e =
    false_from_ne_true (same line divider) (λ is. no_divider reading more (subst (λ text. line_read reading (trimmed text) ≡ Ok more) (same_text line divider (sym is)) e))

-- ---- all lines

no_scenario : (error : ScenarioError) (scenario : Scenario) (r : Result Scenario ScenarioError) → r ≡ Err error → r ≡ Ok scenario → ⊥
no_scenario error scenario r e f = cc

passed : (b : Bool) (error : ScenarioError) (r : Result Scenario ScenarioError) (scenario : Scenario) → (if b then Err error else r) ≡ Ok scenario → r ≡ Ok scenario
passed true error r scenario e = absurd (no_scenario error scenario (Err error) refl e)
passed false error r scenario e = e

-- what a line and those behind it gave
pub first_read : (is_long : Bool) (number : ℕ) (reading : Reading) (line : List ℕ) (lines : List (List ℕ)) (scenario : Scenario) → lines_read is_long number reading (line ∷ lines) ≡ Ok scenario
    → (more : Reading) × (line_read reading (trimmed line) ≡ Ok more) × (lines_read is_long (number + 1) more lines ≡ Ok scenario)
first_read is_long number reading line lines scenario e =
    going_ok number (λ more. lines_read is_long (number + 1) more lines) (line_read reading (trimmed line)) scenario
    (passed (nat_lt most_lines number) (Bad number TooLarge) (going_on number (λ more. lines_read is_long (number + 1) more lines) (line_read reading (trimmed line))) scenario e)

lines_other : (lines : List (List ℕ)) (number : ℕ) (reading : Reading) (scenario : Scenario) → lines_read false number reading lines ≡ Ok scenario → Each IsOther lines
lines_other [] number reading scenario e = tt
lines_other (line ∷ lines) number reading scenario e =
    let first = first_read false number reading line lines scenario e in
    (line_other reading first.0 line first.1, lines_other lines (number + 1) first.0 scenario first.2)

never_long : (lines : List (List ℕ)) (number : ℕ) (reading : Reading) (scenario : Scenario) → lines_read true number reading lines ≡ Ok scenario → ⊥
never_long [] number reading scenario e = no_scenario (Bad number TooLarge) scenario (Err (Bad number TooLarge)) refl e
never_long (line ∷ lines) number reading scenario e =
    let first = first_read true number reading line lines scenario e in never_long lines (number + 1) first.0 scenario first.2

-- a text that is a scenario is not too long
pub not_long : (text : List ℕ) (scenario : Scenario) → verdict_of text ≡ Ok scenario → is_too_long text ≡ false
not_long text scenario e =
    false_from_ne_true (is_too_long text) (λ long. never_long (lines_of text) 1 Fresh scenario (subst (λ b. lines_read b 1 Fresh (lines_of text) ≡ Ok scenario) long e))

-- no line of a scenario is `journal`
pub all_other : (text : List ℕ) (scenario : Scenario) → verdict_of text ≡ Ok scenario → Each IsOther (lines_in false text)
all_other text scenario e = lines_other (lines_in false text) 1 Fresh scenario (sym (verdict_all text (not_long text scenario e)) ∙ e)
