-- The digits of numbers.
use Rattle.std.proofs.Common.{◌≡◌, ℕ, suc, ◌+◌, ◌*◌, ◌-◌, ◌%◌, ◌^◌, ◌<◌, ◌≤◌, ◌==◌, ◌&&◌, not, Bool, true, false, cond, leb, nat_lt, List, [], ◌∷◌, ◌++◌, length, take, drop, get_or, position, Option, Some, None, Result, Ok, Err, codes, refl, ap, ap₂, sym, ◌∙◌, arith, rules, inl, inr, append_assoc, length-append}
use Rattle.std.specs.Fmt.{decimal}
use Rattle.std.specs.Char.{is_ascii_digit}
use Rattle.std.specs.List.{list_all, prefix_len}
use Rattle.std.proofs.lemmas.Fmt.{decimal_by_steps, decimal_nonempty, decimal_digit, first_decimal, decimal-digits_value}
use Rattle.std.proofs.lemmas.Nat.{mod_below}
use Rattle.std.proofs.lemmas.Bool.{le-leb, leb-true, eqb-true, ne_eqb, and_parts, cases_lt}
use Rattle.std.proofs.lemmas.List.{take_all, take_rest, take-append-drop, drop_more}
use Rattle.std.proofs.lemmas.List.Quantifiers.{position-Some}
use Rattle.std.proofs.lemmas.Str.Parse.{IsNumeralModel, numerals_by_fold}
use Rattle.std.proofs.lemmas.List.Folds.{list_all-append}
use Rattle.sc_base.specs.Number.{value_from, is_numeral, number_of}
use Rattle.sc_base.specs.declared.names.Draw.{Draw}
use Rattle.sc_json_text.specs.rows.Names.{draw_json, FitsDraw}
use Rattle.serde_json.specs.Data.{string}
use Rattle.std.specs.Result.{OkIff, result_ok}
use Rattle.std.proofs.lemmas.Bool.Decides.{nat_tests}

is_digit : (d : ℕ) → d < 10 → is_ascii_digit (48 + d) ≡ true
is_digit d few = ap₂ (λ a b. a && b) (le-leb 48 (48 + d) (omega arith)) (le-leb (48 + d) 57 (omega arith))

all_digits : (n : ℕ) → n < 2 ^ 64 → list_all is_ascii_digit (decimal n) ≡ true
all_digits = decimal_by_steps (λ n ds. list_all is_ascii_digit ds ≡ true)
    (λ n few. ap (λ b. b && true) (is_digit n few))
    (λ n ds many rest. list_all-append is_ascii_digit ds ((48 + n % 10) ∷ [])
    ∙ ap₂ (λ a b. a && b) rest (ap (λ b. b && true) (is_digit (n % 10) (mod_below n 10 (omega arith)))))

value_push : (m : ℕ) (ds : List ℕ) (d : ℕ) → value_from m (ds ++ d ∷ []) ≡ value_from m ds * 10 + (d - 48)
value_push m [] d = refl
value_push m (x ∷ xs) d = value_push (m * 10 + (x - 48)) xs d

value_of : (n : ℕ) → n < 2 ^ 64 → value_from 0 (decimal n) ≡ n
value_of = decimal_by_steps (λ n ds. value_from 0 ds ≡ n)
    (λ n few. omega arith)
    (λ n ds many rest. omega (arith, value_push 0 ds (48 + n % 10), rest))

numeral_from : (ds : List ℕ) → 0 < length ds → list_all is_ascii_digit ds ≡ true → 48 < get_or ds 0 0 → is_numeral ds ≡ true
numeral_from [] some all first = absurd (omega arith)
numeral_from (d ∷ []) some all first = (and_parts (is_ascii_digit d) true all).0
numeral_from (d ∷ e ∷ ds) some all first = ap₂ (λ a b. not a && b) (ne_eqb d 48 (λ e. omega arith)) all

numeral_of : (n : ℕ) → n < 2 ^ 64 → is_numeral (decimal n) ≡ true
numeral_of n small = elim (cases_lt n 10) [
  | inl few ↦ ap is_numeral (decimal_digit n few) ∙ is_digit n few
  | inr many ↦ numeral_from (decimal n) (decimal_nonempty n small) (all_digits n small) (first_decimal n (omega arith) small)
]

-- digits are read as their number
pub number_found : (n most : ℕ) → n ≤ most → n < 2 ^ 64 → number_of (decimal n) most ≡ Some n
number_found n most few small =
    let value = value_of n small in
    let test : (is_numeral (decimal n) && leb (value_from 0 (decimal n)) most) ≡ true = ap₂ (λ a b. a && b) (numeral_of n small) (ap (λ v. leb v most) value ∙ le-leb n most few) in
    ap (λ b. cond b (Some (value_from 0 (decimal n))) None) test ∙ ap Some value

no_dot : (d : ℕ) → is_ascii_digit d ≡ true → (d == 46) ≡ false
no_dot d digit = grind (arith, nat_tests)

reach : (ds rest : List ℕ) → list_all is_ascii_digit ds ≡ true → prefix_len (λ byte. not (byte == 46)) (ds ++ 46 ∷ rest) ≡ length ds
reach [] rest all = refl
reach (d ∷ ds) rest all =
    let parts = and_parts (is_ascii_digit d) (list_all is_ascii_digit ds) all in
    let more = reach ds rest parts.1 in
    ap (λ b. cond (not b) (1 + prefix_len (λ byte. not (byte == 46)) (ds ++ 46 ∷ rest)) 0) (no_dot d parts.0) ∙ (omega (arith, more))

dot_after : (ds rest : List ℕ) → list_all is_ascii_digit ds ≡ true → position (λ byte. byte == 46) (ds ++ 46 ∷ rest) ≡ Some (length ds)
dot_after ds rest all =
    let within : nat_lt (length ds) (length (ds ++ 46 ∷ rest)) ≡ true = le-leb (suc (length ds)) (length (ds ++ 46 ∷ rest)) (omega (arith, length-append ds (46 ∷ rest))) in
    ap (λ n. cond (nat_lt n (length (ds ++ 46 ∷ rest))) (Some n) None) (reach ds rest all) ∙ ap (λ b. cond b (Some (length ds)) None) within

take_prefix : (p r : List ℕ) → take (length p) (p ++ r) ≡ p
take_prefix [] r = refl
take_prefix (x ∷ xs) r = ap (λ l. x ∷ l) (take_prefix xs r)

drop_front : (p : List ℕ) (x : ℕ) (r : List ℕ) → drop (suc (length p)) (p ++ x ∷ r) ≡ r
drop_front [] x r = refl
drop_front (y ∷ ys) x r = drop_front ys x r

back : (p r : List ℕ) (x : ℕ) → take (length (p ++ x ∷ r) - (length p + 1)) (drop (length p + 1) (p ++ x ∷ r)) ≡ r
back p r x =
    let next : length p + 1 ≡ suc (length p) = omega arith in
    ap (λ n. take (length (p ++ x ∷ r) - n) (drop n (p ++ x ∷ r))) next ∙ (ap (take (length (p ++ x ∷ r) - suc (length p))) (drop_front p x r) ∙ take_all (length (p ++ x ∷ r) - suc (length p)) r (omega (arith, length-append p (x ∷ r))))

spelled : (text : List ℕ) (draw : Draw) → string text ≡ draw_json draw → text ≡ decimal draw.node ++ 46 ∷ decimal draw.count
unfolding draw_json
spelled text draw same =
    let whole : text ≡ (decimal draw.node ++ codes ".") ++ decimal draw.count = cc in
    whole ∙ append_assoc (decimal draw.node) (codes ".") (decimal draw.count)

-- where the dot of a name stands
pub draw_dot : (text : List ℕ) (draw : Draw) → FitsDraw draw → string text ≡ draw_json draw → position (λ byte. byte == 46) text ≡ Some (length (decimal draw.node))
unfolding FitsDraw
draw_dot text draw fits same = ap (position (λ byte. byte == 46)) (spelled text draw same) ∙ dot_after (decimal draw.node) (decimal draw.count) (all_digits draw.node (omega (arith, fits.0)))

dot_is : (text : List ℕ) (draw : Draw) (dot : ℕ) → FitsDraw draw → string text ≡ draw_json draw → Some dot ≡ position (λ byte. byte == 46) text → dot ≡ length (decimal draw.node)
dot_is text draw dot fits same found = let both : Some dot ≡ Some (length (decimal draw.node)) = found ∙ draw_dot text draw fits same in cc

-- the node before the dot
pub draw_node : (text : List ℕ) (draw : Draw) (dot : ℕ) → FitsDraw draw → string text ≡ draw_json draw → Some dot ≡ position (λ byte. byte == 46) text → number_of (take dot text) 65535 ≡ Some draw.node
unfolding FitsDraw
draw_node text draw dot fits same found =
    ap₂ (λ n l. number_of (take n l) 65535) (dot_is text draw dot fits same found) (spelled text draw same)
    ∙ (ap (λ l. number_of l 65535) (take_prefix (decimal draw.node) (46 ∷ decimal draw.count)) ∙ number_found draw.node 65535 (omega (arith, fits.0)) (omega (arith, fits.0)))

-- the count after the dot
pub draw_count : (text : List ℕ) (draw : Draw) (dot : ℕ) → FitsDraw draw → string text ≡ draw_json draw → Some dot ≡ position (λ byte. byte == 46) text → number_of (take (length text - (dot + 1)) (drop (dot + 1) text)) 4294967295 ≡ Some draw.count
unfolding FitsDraw
draw_count text draw dot fits same found =
    ap₂ (λ n l. number_of (take (length l - (n + 1)) (drop (n + 1) l)) 4294967295) (dot_is text draw dot fits same found) (spelled text draw same)
    ∙ (ap (λ l. number_of l 4294967295) (back (decimal draw.node) (decimal draw.count) 46) ∙ number_found draw.count 4294967295 (omega (arith, fits.1)) (omega (arith, fits.1)))

-- what is read is not none
pub not_none : {X : Type 0} (read : Option X) (x : X) → None ≡ read → read ≡ Some x → ⊥
not_none read x none some = let clash : None ≡ Some x = none ∙ some in cc

-- a number that fits is kept
pub kept : {E : Type 0} (P : Type 0) (result : Result ℕ E) (n found : ℕ) → OkIff result P n → Some found ≡ result_ok result → found ≡ n
kept P (Ok m) n found iff is = cc iff.1
kept P (Err e) n found iff is = absurd (cc)

-- ---- from a text to its number, and back

own : IsNumeralModel (λ ds. list_all is_ascii_digit ds ≡ true) (value_from 0)
own = numerals_by_fold _ (search rules) value_from (search rules)

-- a numeral is what is written of its value
numeral_back : (ds : List ℕ) → is_numeral ds ≡ true → value_from 0 ds < 2 ^ 64 → decimal (value_from 0 ds) ≡ ds
numeral_back [] is small = absurd (cc)
numeral_back (d ∷ []) is small = decimal-digits_value own (d ∷ []) (ap (λ b. b && true) is) (omega arith) (λ z. refl) small
numeral_back (d ∷ e ∷ ds) is small =
    let parts = and_parts (not (d == 48)) (list_all is_ascii_digit (d ∷ e ∷ ds)) is in
    let first : d ≡ 48 → length (d ∷ e ∷ ds) ≡ 1 = λ z. let clash : not (d == 48) ≡ false = ap (λ n. not (n == 48)) z in absurd (cc) in
    decimal-digits_value own (d ∷ e ∷ ds) parts.1 (omega arith) first small

guarded : (b : Bool) (v n : ℕ) → Some n ≡ cond b (Some v) None → (b ≡ true) × (n ≡ v)
guarded true v n is = (refl, cc)
guarded false v n is = absurd (cc)

-- what is read as a number is what is written of it
pub number_back : (text : List ℕ) (most n : ℕ) → most < 2 ^ 64 → Some n ≡ number_of text most → decimal n ≡ text
number_back text most n small is =
    let both = guarded (is_numeral text && leb (value_from 0 text) most) (value_from 0 text) n is in
    let tests = and_parts (is_numeral text) (leb (value_from 0 text) most) both.0 in
    ap decimal both.1 ∙ numeral_back text tests.0 (omega (arith, leb-true (value_from 0 text) most tests.1))

-- a text is what stands before its dot, the dot, and what stands behind
split_at : (text : List ℕ) (dot : ℕ) → Some dot ≡ position (λ byte. byte == 46) text → text ≡ take dot text ++ 46 ∷ drop (dot + 1) text
split_at text dot place =
    let at = position-Some (λ byte. byte == 46) text dot 0 (sym place) in
    sym (take-append-drop dot text) ∙ ap (λ l. take dot text ++ l) (drop_more text dot 0 at.0 ∙ ap (λ x. x ∷ drop (dot + 1) text) (eqb-true (get_or text dot 0) 46 at.1))

-- a text that is read as a name is its JSON
pub draw_back : (text : List ℕ) (draw : Draw) (dot node count : ℕ) → Some dot ≡ position (λ byte. byte == 46) text → Some node ≡ number_of (take dot text) 65535 → Some count ≡ number_of (take (length text - (dot + 1)) (drop (dot + 1) text)) 4294967295 → draw.node ≡ node → draw.count ≡ count → string text ≡ draw_json draw
unfolding draw_json
draw_back text draw dot node count place before behind first second =
    let prefix : decimal draw.node ≡ take dot text = ap decimal first ∙ number_back (take dot text) 65535 node (omega arith) before in
    let rest : decimal draw.count ≡ drop (dot + 1) text = ap decimal second ∙ (number_back (take (length text - (dot + 1)) (drop (dot + 1) text)) 4294967295 count (omega arith) behind ∙ take_rest text (dot + 1)) in
    ap string (split_at text dot place ∙ (sym (append_assoc (take dot text) (codes ".") (drop (dot + 1) text)) ∙ ap₂ (λ a b. (a ++ codes ".") ++ b) (sym prefix) (sym rest)))
