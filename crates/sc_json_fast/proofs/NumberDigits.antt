-- The digits of numbers.
use Rattle.std.proofs.Common.{◌≡◌, ℕ, ◌^◌, ◌<◌, ◌≤◌, ◌==◌, ◌&&◌, not, true, nat_le, List, [], ◌∷◌, length, get_or, Some, decimal, ap, ◌∙◌, sym, arith, rules}
use Rattle.std.specs.Char.{is_ascii_digit}
use Rattle.std.specs.List.{list_all}
use Rattle.std.proofs.lemmas.Fmt.{decimal-digits_value}
use Rattle.std.proofs.lemmas.Option.{cond_some}
use Rattle.std.proofs.lemmas.Bool.{and_parts}
use Rattle.std.proofs.lemmas.Bool.Decides.{nat_tests}
use Rattle.std.proofs.lemmas.Str.Parse.{IsNumeralModel, numerals_by_fold}
use Rattle.sc_base.specs.Number.{value_from, is_numeral, number_of}

own : IsNumeralModel (λ ds. list_all is_ascii_digit ds ≡ true) (value_from 0)
own = numerals_by_fold _ (search rules) value_from (search rules)

numeral_digits : (text : List ℕ) → is_numeral text ≡ true → list_all is_ascii_digit text ≡ true
numeral_digits [] numeral = cc
numeral_digits (d ∷ []) numeral = ap (λ b. b && true) numeral
numeral_digits (d ∷ e ∷ ds) numeral = (and_parts _ _ numeral).1

numeral_some : (text : List ℕ) → is_numeral text ≡ true → 0 < length text
numeral_some [] numeral = absurd (cc)
numeral_some (d ∷ ds) numeral = omega arith

no_zero : (d : ℕ) → not (d == 48) ≡ true → d ≡ 48 → ⊥
no_zero d other same = grind (arith, nat_tests)

numeral_first : (text : List ℕ) → is_numeral text ≡ true → get_or text 0 0 ≡ 48 → length text ≡ 1
numeral_first [] numeral first = absurd (cc)
numeral_first (d ∷ []) numeral first = omega arith
numeral_first (d ∷ e ∷ ds) numeral first = absurd (no_zero d (and_parts _ _ numeral).0 first)

below_most : (n most : ℕ) → nat_le n most ≡ true → n ≤ most
below_most n most least = grind (arith, nat_tests)

-- a text that spells a number is what is written for it
pub spelled : (text : List ℕ) (most n : ℕ) → most < 2 ^ 64 → number_of text most ≡ Some n → (text ≡ decimal n) × (n ≤ most)
spelled text most n small found =
    let parts = cond_some (is_numeral text && nat_le (value_from 0 text) most) (value_from 0 text) n found in
    let tests = and_parts (is_numeral text) (nat_le (value_from 0 text) most) parts.0 in
    let within = below_most (value_from 0 text) most tests.1 in
    let written = decimal-digits_value own text (numeral_digits text tests.0) (numeral_some text tests.0) (numeral_first text tests.0) (omega arith) in
    (sym written ∙ ap decimal parts.1, omega (arith, parts.1))
