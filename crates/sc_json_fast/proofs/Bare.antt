-- Strings that have each of their bytes as it is.
use Rattle.std.proofs.Common.{◌≡◌, ℕ, ◌≤◌, ◌==◌, ◌&&◌, not, true, false, nat_lt, nat_le, List, [], ◌∷◌, ◌++◌, refl, ap, ap₂, ◌∙◌, sym, arith, append_assoc}
use Rattle.std.specs.List.{list_all}
use Rattle.std.proofs.lemmas.Bool.{and_parts, ne_eqb}
use Rattle.std.proofs.lemmas.Bool.Decides.{nat_tests}
use Rattle.json.specs.Print.{escape_byte, escape}
use Rattle.serde_json.specs.Data.{string}
use Rattle.serde_json.specs.Written.{compact_text}
use Rattle.sc_json_fast.specs.Prefixes.{is_bare}

bare_apart : (byte : ℕ) → is_bare byte ≡ true → (not (byte == 34) ≡ true) × (not (byte == 92) ≡ true)
bare_apart byte bare = and_parts (not (byte == 34)) (not (byte == 92)) (and_parts (nat_le 32 byte) (not (byte == 34) && not (byte == 92)) bare).1

bare_least : (byte : ℕ) → is_bare byte ≡ true → 32 ≤ byte
bare_least byte bare = let least = (and_parts (nat_le 32 byte) (not (byte == 34) && not (byte == 92)) bare).0 in grind (arith, nat_tests)

no_quote : (byte : ℕ) → is_bare byte ≡ true → (byte == 34) ≡ false
no_quote byte bare = let other = (bare_apart byte bare).0 in grind (arith, nat_tests)

no_slash : (byte : ℕ) → is_bare byte ≡ true → (byte == 92) ≡ false
no_slash byte bare = let other = (bare_apart byte bare).1 in grind (arith, nat_tests)

not_below : (m n : ℕ) → n ≤ m → nat_lt m n ≡ false
not_below m n most = grind (arith, nat_tests)

bare_byte : (byte : ℕ) → is_bare byte ≡ true → escape_byte byte ≡ byte ∷ []
unfolding escape_byte
bare_byte byte bare =
    let least = bare_least byte bare in
    let quote = no_quote byte bare in
    let slash = no_slash byte bare in
    let e8 : (byte == 8) ≡ false = ne_eqb byte 8 (λ e. omega arith) in
    let e9 : (byte == 9) ≡ false = ne_eqb byte 9 (λ e. omega arith) in
    let e10 : (byte == 10) ≡ false = ne_eqb byte 10 (λ e. omega arith) in
    let e12 : (byte == 12) ≡ false = ne_eqb byte 12 (λ e. omega arith) in
    let e13 : (byte == 13) ≡ false = ne_eqb byte 13 (λ e. omega arith) in
    let low = not_below byte 32 least in
    simp (quote, slash, e8, e9, e10, e12, e13, low)

-- such bytes are written as they are
pub bare_escape : (text : List ℕ) → list_all is_bare text ≡ true → escape text ≡ text
bare_escape [] all = refl
bare_escape (byte ∷ text) all =
    let parts = and_parts (is_bare byte) (list_all is_bare text) all in
    ap₂ (λ a b. a ++ b) (bare_byte byte parts.0) (bare_escape text parts.1)

-- between two quotes they are a string
pub bare_string : (bytes text inner quoted rest : List ℕ) → list_all is_bare text ≡ true → bytes ≡ (34 ∷ []) ++ inner → inner ≡ text ++ quoted → quoted ≡ (34 ∷ []) ++ rest → bytes ≡ compact_text (string text) ++ rest
bare_string bytes text inner quoted rest bare first inside last =
    let whole : bytes ≡ 34 ∷ (text ++ 34 ∷ rest) = cc in
    let written : compact_text (string text) ++ rest ≡ 34 ∷ (text ++ 34 ∷ rest) = ap (λ t. 34 ∷ (t ++ 34 ∷ [] ++ rest)) (bare_escape text bare) ∙ ap (λ t. 34 ∷ t) (append_assoc text (34 ∷ []) rest) in
    whole ∙ sym written
