-- The result for a text, by its length.
use Rattle.std.proofs.Common.{◌≡◌, ℕ, ◌+◌, ◌<◌, Bool, true, false, List, length, take, refl, sym, ap, ◌∙◌, arith, rules, nat_le, nat_lt}
use Rattle.std.proofs.lemmas.Bool.{cond-true, lt-ltb}
use Rattle.std.proofs.lemmas.List.{take_all, length-take-le}
use Rattle.sc_texts.specs.lines.Definitions.{lines_in}
use Rattle.sc_history.specs.Grammar.{bad, text_read, history_of, most_history_bytes, FirstBytesDecide}
use Rattle.sc_history.specs.declared.reasons.HistoryReason.TheVariants.{TooLarge}

too_long : (text : List ℕ) → most_history_bytes < length text → history_of text ≡ bad 0 TooLarge
too_long text lt = cond-true (nat_lt most_history_bytes (length text)) (bad 0 TooLarge) (text_read (lines_in false text)) (lt-ltb most_history_bytes (length text) lt)

first_by : (text : List ℕ) (b : Bool) → nat_le (length text) (most_history_bytes + 1) ≡ b → history_of (take (most_history_bytes + 1) text) ≡ history_of text
first_by text true e = ap history_of (take_all (most_history_bytes + 1) text (search (rules, e)))
first_by text false e =
    let long : most_history_bytes + 1 < length text = search (rules, e) in
    let taken : length (take (most_history_bytes + 1) text) ≡ most_history_bytes + 1 = length-take-le (most_history_bytes + 1) text (omega (arith, long)) in
    too_long (take (most_history_bytes + 1) text) (omega (arith, taken)) ∙ sym (too_long text (omega (arith, long)))

-- one byte more than the most is enough to know the result
pub first_bytes : FirstBytesDecide
first_bytes text = first_by text (nat_le (length text) (most_history_bytes + 1)) refl
