-- The keys and values of made scenarios are texts.
use Rattle.std.proofs.Common.{◌≡◌, ℕ, ◌+◌, ◌%◌, ◌^◌, ◌<◌, ◌≤◌, ◌&&◌, true, List, [], ◌∷◌, length, None, ap, ap₂, ◌∙◌, arith}
use Rattle.std.specs.Fmt.{decimal}
use Rattle.std.specs.List.{list_all}
use Rattle.std.proofs.lemmas.Fmt.{decimal_by_steps, length-decimal-le}
use Rattle.std.proofs.lemmas.Nat.{mod_below}
use Rattle.std.proofs.lemmas.Bool.{le-leb}
use Rattle.std.proofs.lemmas.List.Folds.{list_all-append}
use Rattle.sc_base.specs.Limits.{longest_key, longest_value}
use Rattle.sc_base.specs.Text.{is_visible}
use Rattle.sc_base.specs.TextErrors.{text_error}
use Rattle.sc_base.proofs.TextLemmas.{no_error}
use Rattle.sc_scenario.specs.scenario.Made.{made_key, made_value}

-- ---- visible bytes

is_seen : (byte : ℕ) → 33 ≤ byte → byte ≤ 126 → is_visible byte ≡ true
is_seen byte low high = ap₂ (λ a b. a && b) (le-leb 33 byte low) (le-leb byte 126 high)

one_seen : (byte : ℕ) → 33 ≤ byte → byte ≤ 126 → list_all is_visible (byte ∷ []) ≡ true
one_seen byte low high = ap (λ b. b && true) (is_seen byte low high)

more_seen : (byte : ℕ) (bytes : List ℕ) → 33 ≤ byte → byte ≤ 126 → list_all is_visible bytes ≡ true → list_all is_visible (byte ∷ bytes) ≡ true
more_seen byte bytes low high rest = ap₂ (λ a b. a && b) (is_seen byte low high) rest

digits_seen : (n : ℕ) → n < 2 ^ 64 → list_all is_visible (decimal n) ≡ true
digits_seen = decimal_by_steps (λ n ds. list_all is_visible ds ≡ true)
    (λ n few. one_seen (48 + n) (omega arith) (omega (arith, few)))
    (λ n ds many rest. list_all-append is_visible ds ((48 + n % 10) ∷ [])
    ∙ ap₂ (λ a b. a && b) rest (let below = mod_below n 10 (omega arith) in one_seen (48 + n % 10) (omega arith) (omega (arith, below))))

-- bytes that are visible, neither none nor too many, have no fault
visible_pass : (most : ℕ) (bytes : List ℕ) → 1 ≤ length bytes → length bytes ≤ most → list_all is_visible bytes ≡ true → text_error most bytes ≡ None
visible_pass most bytes some few all = no_error most bytes (record { some = some; short = few; visible = all })

-- a made key is a key
pub key_passes : (word client : ℕ) → client < 2 ^ 16 → text_error longest_key (made_key word client) ≡ None
key_passes word client small =
    let below = mod_below word 94 (omega arith) in
    let short = length-decimal-le 5 client (omega arith) (omega (arith, small)) (omega (arith, small)) in
    visible_pass longest_key (made_key word client) (omega arith) (omega (arith, short)) (more_seen (33 + word % 94) (decimal client) (omega arith) (omega (arith, below)) (digits_seen client (omega (arith, small))))

-- a made value is a value
pub value_passes : (number : ℕ) → number < 2 ^ 16 → text_error longest_value (made_value number) ≡ None
value_passes number small =
    let short = length-decimal-le 5 number (omega arith) (omega (arith, small)) (omega (arith, small)) in
    visible_pass longest_value (made_value number) (omega arith) (omega (arith, short)) (more_seen 118 (decimal number) (omega arith) (omega arith) (digits_seen number (omega (arith, small))))
