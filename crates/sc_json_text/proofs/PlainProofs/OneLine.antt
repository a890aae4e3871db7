-- The text of plain data is ASCII, on one line.
use Rattle.std.proofs.Common.{◌≡◌, ℕ, zero, suc, ◌+◌, ◌%◌, ◌^◌, ◌<◌, List, [], ◌∷◌, ◌++◌, Bool, true, false, not, nat_lt, ◌&&◌, ◌==◌, decimal, IsUtf8, inl, inr, refl, ap, ◌∙◌, arith, lt-ltb, ne_eqb, ltb-true}
use Rattle.std.specs.List.{list_all}
use Rattle.std.proofs.lemmas.Bool.{and_parts, and_from, cases_eq}
use Rattle.std.proofs.lemmas.Fmt.{decimal_by_steps}
use Rattle.std.proofs.lemmas.List.Folds.{list_all-append}
use Rattle.json.specs.Print.{escape_byte, escape, quoted}
use Rattle.json.proofs.Printed.Utf8.{are_ascii, IsUtf8-are_ascii}
use Rattle.serde_json.specs.Data.{unsigned, negative, float, Data, null, boolean, number, string, array, object, Items, no_items, item, Members, no_members, member}
use Rattle.serde_json.specs.Written.{comma_if, compact_text, items_text, members_text}
use Rattle.sc_json_text.specs.plain.Plain.{is_seven_bit, is_one_line, IsPlain, ItemsArePlain, MembersArePlain}

-- a byte of ASCII that is no control
abbrev is_printable : ℕ → Bool
is_printable byte = nat_lt 31 byte && nat_lt byte 128

-- ---- strings

printable_append : (xs ys : List ℕ) → list_all is_printable xs ≡ true → list_all is_printable ys ≡ true → list_all is_printable (xs ++ ys) ≡ true
printable_append xs ys first second = list_all-append is_printable xs ys ∙ and_from _ _ first second

-- what stands in a string for the bytes below n is printable
abbrev are_escapes_printable : ℕ → Bool
are_escapes_printable zero = true
are_escapes_printable (suc n) = list_all is_printable (escape_byte n) && are_escapes_printable n

escape_below : (n : ℕ) → are_escapes_printable n ≡ true → (byte : ℕ) → byte < n → list_all is_printable (escape_byte byte) ≡ true
escape_below zero all byte below = absurd (omega arith)
escape_below (suc n) all byte below =
    let parts = and_parts _ _ all in
    elim (cases_eq byte n) [ inl same ↦ rw same parts.0 | inr other ↦ escape_below n parts.1 byte (omega arith) ]

ascii_escapes : are_escapes_printable 128 ≡ true
unfolding escape_byte
ascii_escapes = refl

escape_printable : (text : List ℕ) → is_seven_bit text ≡ true → list_all is_printable (escape text) ≡ true
escape_printable [] ascii = refl
escape_printable (byte ∷ text) ascii =
    let parts = and_parts _ _ ascii in
    printable_append (escape_byte byte) (escape text) (escape_below 128 ascii_escapes byte (ltb-true _ _ parts.0)) (escape_printable text parts.1)

quoted_printable : (text : List ℕ) → is_seven_bit text ≡ true → list_all is_printable (quoted text) ≡ true
quoted_printable text ascii = printable_append (escape text) (34 ∷ []) (escape_printable text ascii) refl

-- ---- numbers

digit_printable : (n : ℕ) → n < 10 → list_all is_printable ((48 + n) ∷ []) ≡ true
digit_printable n small =
    let over : 31 < 48 + n = omega arith in
    let under : 48 + n < 128 = omega arith in
    and_from _ _ (and_from _ _ (lt-ltb _ _ over) (lt-ltb _ _ under)) refl

decimal_printable : (n : ℕ) → n < 2 ^ 64 → list_all is_printable (decimal n) ≡ true
decimal_printable = decimal_by_steps (λ n digits. list_all is_printable digits ≡ true) digit_printable
    (λ n digits large before. printable_append digits _ before (digit_printable (n % 10) (omega arith)))

-- ---- values

comma_printable : (later : Bool) → list_all is_printable (comma_if later) ≡ true
comma_printable true = refl
comma_printable false = refl

mutual
  text_printable : (n : ℕ) (d : Data) → IsPlain n d → list_all is_printable (compact_text d) ≡ true
  text_printable n null plain = refl
  text_printable n (boolean true) plain = refl
  text_printable n (boolean false) plain = refl
  text_printable n (number (unsigned k)) plain = decimal_printable k plain
  text_printable n (number (negative z)) plain = absurd plain
  text_printable n (number (float x)) plain = absurd plain
  text_printable n (string text) plain = quoted_printable text plain
  text_printable zero (array elements) plain = absurd plain
  text_printable (suc n) (array elements) plain = items_printable n false elements plain
  text_printable zero (object entries) plain = absurd plain
  text_printable (suc n) (object entries) plain = members_printable n false entries plain

  items_printable : (n : ℕ) (later : Bool) (ds : Items) → ItemsArePlain n ds → list_all is_printable (items_text later ds) ≡ true
  items_printable n later no_items plain = refl
  items_printable n later (item value more) plain =
      printable_append (comma_if later) _ (comma_printable later)
      (printable_append (compact_text value) _ (text_printable n value plain.0) (items_printable n true more plain.1))

  members_printable : (n : ℕ) (later : Bool) (ms : Members) → MembersArePlain n ms → list_all is_printable (members_text later ms) ≡ true
  members_printable n later no_members plain = refl
  members_printable n later (member name value more) plain =
      printable_append (comma_if later) _ (comma_printable later)
      (printable_append (quoted name) _ (quoted_printable name plain.0)
      (printable_append (compact_text value) _ (text_printable n value plain.1) (members_printable n true more plain.3)))

-- ---- what follows for the text

printable_ascii : (text : List ℕ) → list_all is_printable text ≡ true → are_ascii text ≡ true
printable_ascii [] all = refl
printable_ascii (byte ∷ text) all =
    let parts = and_parts _ _ all in
    and_from _ _ (and_parts _ _ parts.0).1 (printable_ascii text parts.1)

no_line_feed : (byte : ℕ) → 31 < byte → not (byte == 10) ≡ true
no_line_feed byte over = ap not (ne_eqb byte 10 (λ same. omega arith))

printable_one_line : (text : List ℕ) → list_all is_printable text ≡ true → is_one_line text ≡ true
printable_one_line [] all = refl
printable_one_line (byte ∷ text) all =
    let parts = and_parts _ _ all in
    and_from _ _ (no_line_feed byte (ltb-true _ _ (and_parts _ _ parts.0).0)) (printable_one_line text parts.1)

pub plain_text_utf8 : (n : ℕ) (d : Data) → IsPlain n d → IsUtf8 (compact_text d)
plain_text_utf8 n d plain = IsUtf8-are_ascii (compact_text d) (printable_ascii (compact_text d) (text_printable n d plain))

pub plain_text_on_one_line : (n : ℕ) (d : Data) → IsPlain n d → is_one_line (compact_text d) ≡ true
plain_text_on_one_line n d plain = printable_one_line (compact_text d) (text_printable n d plain)
