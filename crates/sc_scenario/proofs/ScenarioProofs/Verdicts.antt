-- The verdict on a text, by its length.
use Rattle.std.proofs.Common.{◌≡◌, ℕ, ◌+◌, ◌<◌, Bool, true, false, List, [], ◌∷◌, length, take, refl, sym, ap, subst, inr, ◌∙◌, arith, rules, nat_le, nat_lt}
use Rattle.std.specs.Prelude.{Result}
use Rattle.std.proofs.lemmas.Bool.{cond-true, lt-ltb}
use Rattle.std.proofs.lemmas.List.{take_all, take-take, length-take-le}
use Rattle.sc_texts.specs.lines.Definitions.{most_bytes, most_lines, is_too_long, lines_in, lines_of, trimmed}
use Rattle.sc_scenario.specs.scenario.Definitions.{HasVerdict, bad, going_on, line_read, lines_read, verdict_of, FirstBytesDecide}
use Rattle.sc_texts.specs.declared.lines.reasons.Reason.{Reason}
use Rattle.sc_texts.specs.declared.lines.reasons.Reason.TheVariants.{TooLarge}
use Rattle.sc_scenario.specs.declared.scenario.reading.ScenarioError.{ScenarioError}
use Rattle.sc_scenario.specs.declared.scenario.scenarios.Scenario.{Scenario}
use Rattle.sc_scenario.specs.declared.scenario.drafts.Reading.{Reading}
use Rattle.sc_scenario.specs.declared.scenario.drafts.Reading.TheVariants.{Fresh}
use Rattle.sc_texts.proofs.LinesProofs.Lemmas.{lines_all, lines_cut, lines_some}

-- of a text that is not too long all lines are read
pub verdict_all : (text : List ℕ) → is_too_long text ≡ false → verdict_of text ≡ lines_read false 1 Fresh (lines_in false text)
verdict_all text e = ap (λ b. lines_read b 1 Fresh (lines_of text)) e ∙ ap (lines_read false 1 Fresh) (lines_all text e)

-- of a text that is too long those of its first bytes
pub verdict_cut : (text : List ℕ) → is_too_long text ≡ true → verdict_of text ≡ lines_read true 1 Fresh (lines_in true (take most_bytes text))
verdict_cut text e = ap (λ b. lines_read b 1 Fresh (lines_of text)) e ∙ ap (lines_read true 1 Fresh) (lines_cut text e)

-- ---- too many bytes

first_by : (text : List ℕ) (b : Bool) → nat_le (length text) (most_bytes + 1) ≡ b → verdict_of (take (most_bytes + 1) text) ≡ verdict_of text
first_by text true e = ap verdict_of (take_all (most_bytes + 1) text (search (rules, e)))
first_by text false e =
    let long : most_bytes + 1 < length text = search (rules, e) in
    let taken : length (take (most_bytes + 1) text) ≡ most_bytes + 1 = length-take-le (most_bytes + 1) text (omega (arith, long)) in
    let lt : most_bytes < length (take (most_bytes + 1) text) = omega (arith, taken) in
    let lt' : most_bytes < length text = omega (arith, long) in
    let over : is_too_long (take (most_bytes + 1) text) ≡ true = lt-ltb most_bytes (length (take (most_bytes + 1) text)) lt in
    let over' : is_too_long text ≡ true = lt-ltb most_bytes (length text) lt' in
    verdict_cut (take (most_bytes + 1) text) over
    ∙ ap (λ bytes. lines_read true 1 Fresh (lines_in true bytes)) (take-take most_bytes (most_bytes + 1) text (omega arith))
    ∙ sym (verdict_cut text over')

-- one byte more than the most is enough to know a verdict
pub first_bytes : FirstBytesDecide
first_bytes text = first_by text (nat_le (length text) (most_bytes + 1)) refl

-- ---- too many lines

many_cons : (is_long : Bool) (number : ℕ) (reading : Reading) (line : List ℕ) (lines : List (List ℕ)) → most_lines < number → lines_read is_long number reading (line ∷ lines) ≡ bad number TooLarge
many_cons is_long number reading line lines lt =
    let over : nat_lt most_lines number ≡ true = search (rules, lt) in
    cond-true (nat_lt most_lines number) (bad number TooLarge) (going_on number (λ more. lines_read is_long (number + 1) more lines) (line_read reading (trimmed line))) over

many_long : (number : ℕ) (reading : Reading) (lines : List (List ℕ)) → most_lines < number → lines_read true number reading lines ≡ bad number TooLarge
many_long number reading [] lt = refl
many_long number reading (line ∷ lines) lt = many_cons true number reading line lines lt

-- behind the last line that a text may have nothing may stand
pub many : (is_long : Bool) (number : ℕ) (reading : Reading) (text : List ℕ) → 0 < length text → most_lines < number → lines_read is_long number reading (lines_in is_long text) ≡ bad number TooLarge
many true number reading text some lt = many_long number reading (lines_in true text) lt
many false number reading text some lt =
    let l = lines_some text some in ap (lines_read false number reading) l.2 ∙ many_cons false number reading l.0 l.1 lt

-- a fault that is the verdict
pub refused : (verdict result : Result Scenario ScenarioError) (number : ℕ) (reason : Reason) → verdict ≡ bad number reason → result ≡ bad number reason → HasVerdict verdict result
refused verdict result number reason v e = subst (HasVerdict verdict) (sym e) (inr v)
