-- Requests are short: those that a text spells, and those that are made.
use Rattle.std.proofs.Common.{◌≡◌, ℕ, ◌+◌, ◌%◌, ◌<◌, ◌≤◌, eqb, ltb, Bool, true, false, cond, List, [], ◌∷◌, ◌++◌, length, Some, None, refl, ◌∙◌, ap, subst, arith}
use Rattle.std.specs.Prelude.{Ok, is_none}
use Rattle.std.specs.Fmt.{decimal}
use Rattle.std.proofs.lemmas.Bool.{cond_both, ltb-false}
use Rattle.std.proofs.lemmas.Fmt.{length-decimal-le}
use Rattle.sc_base.specs.Definitions.{Each, longest_key, longest_value, text_error}
use Rattle.sc_base.specs.declared.ops.Op.{Op}
use Rattle.sc_base.specs.declared.ops.Op.TheVariants.{Get, Put, Del, Add, Cas}
use Rattle.sc_base.specs.declared.texts.KeyError.TheVariants.{Empty, TooLong}
use Rattle.sc_texts.specs.lines.Definitions.{with_value, request_in, nth, key_in, value_in}
use Rattle.sc_texts.specs.declared.lines.kinds.RequestKind.{RequestKind}
use Rattle.sc_texts.specs.declared.lines.kinds.RequestKind.TheVariants as kind
use Rattle.sc_texts.specs.declared.lines.reasons.Reason.TheVariants.{BadKey, BadValue}
use Rattle.sc_scenario.specs.scenario.Definitions.{made_key, made_value, made_op, IsShortOp}
use Rattle.sc_scenario.proofs.ScenarioProofs.Results.{same_Ok, or_reason_ok}

pub Each-push : {X : Type 0} (P : X → Type 0) (xs : List X) (x : X) → Each P xs → P x → Each P (xs ++ x ∷ [])
Each-push P [] x e p = (p, tt)
Each-push P (y ∷ xs) x e p = (e.0, Each-push P xs x e.1 p)

-- ---- what words spell

-- a text without a fault is no longer than it may be
text_short : (most : ℕ) (word : List ℕ) → is_none (text_error most word) ≡ true → length word ≤ most
text_short most word e =
    cond_both (eqb (length word) 0) (Some Empty) _ (λ o. is_none o ≡ true → length word ≤ most) (λ t k. cc)
    (λ f. cond_both (ltb most (length word)) (Some (TooLong (length word))) _ (λ o. is_none o ≡ true → length word ≤ most) (λ t k. cc) (λ g k. ltb-false most (length word) g)) e

word_short : (b : Bool) (word spelled : List ℕ) → cond b (Some word) None ≡ Some spelled → (b ≡ true) × (word ≡ spelled)
word_short true word spelled e = (refl, cc)
word_short false word spelled e = cc

key_short : (word key : List ℕ) → key_in word ≡ Some key → length key ≤ longest_key
key_short word key e = (let w = word_short (is_none (text_error longest_key word)) word key e in let low = text_short longest_key word w.0 in let same = ap length w.1 in omega (arith, low, same))

value_short : (word value : List ℕ) → value_in word ≡ Some value → length value ≤ longest_value
value_short word value e = (let w = word_short (is_none (text_error longest_value word)) word value e in let low = text_short longest_value word w.0 in let same = ap length w.1 in omega (arith, low, same))

-- a request that words spell is short
pub request_short : (k : RequestKind) (words : List (List ℕ)) (op : Op) → request_in k words ≡ Ok op → IsShortOp op
request_short kind.Get words op e =
    let key = or_reason_ok (key_in (nth words 1)) BadKey (λ key. Ok (Get key)) op e in
    subst IsShortOp (same_Ok (Get key.0) op key.2) (key_short (nth words 1) key.0 key.1)
request_short kind.Del words op e =
    let key = or_reason_ok (key_in (nth words 1)) BadKey (λ key. Ok (Del key)) op e in
    subst IsShortOp (same_Ok (Del key.0) op key.2) (key_short (nth words 1) key.0 key.1)
request_short kind.Put words op e =
    let key = or_reason_ok (key_in (nth words 1)) BadKey (λ key. with_value words 2 (λ value. Ok (Put key value))) op e in
    let value = or_reason_ok (value_in (nth words 2)) BadValue (λ value. Ok (Put key.0 value)) op key.2 in
    subst IsShortOp (same_Ok (Put key.0 value.0) op value.2) (key_short (nth words 1) key.0 key.1, value_short (nth words 2) value.0 value.1)
request_short kind.Add words op e =
    let key = or_reason_ok (key_in (nth words 1)) BadKey (λ key. with_value words 2 (λ value. Ok (Add key value))) op e in
    let value = or_reason_ok (value_in (nth words 2)) BadValue (λ value. Ok (Add key.0 value)) op key.2 in
    subst IsShortOp (same_Ok (Add key.0 value.0) op value.2) (key_short (nth words 1) key.0 key.1, value_short (nth words 2) value.0 value.1)
request_short kind.Cas words op e =
    let key = or_reason_ok (key_in (nth words 1)) BadKey (λ key. with_value words 2 (λ expect. with_value words 3 (λ value. Ok (Cas key expect value)))) op e in
    let expect = or_reason_ok (value_in (nth words 2)) BadValue (λ expect. with_value words 3 (λ value. Ok (Cas key.0 expect value))) op key.2 in
    let value = or_reason_ok (value_in (nth words 3)) BadValue (λ value. Ok (Cas key.0 expect.0 value)) op expect.2 in
    subst IsShortOp (same_Ok (Cas key.0 expect.0 value.0) op value.2) (key_short (nth words 1) key.0 key.1, value_short (nth words 2) expect.0 expect.1, value_short (nth words 3) value.0 value.1)

-- ---- what is made

made_key_short : (word client : ℕ) → client ≤ 16 → length (made_key word client) ≤ longest_key
made_key_short word client few = (let digits = length-decimal-le 2 client (omega arith) (omega (arith, few)) (omega (arith, few)) in omega (arith, digits))

made_value_short : (number : ℕ) → number ≤ 1001 → length (made_value number) ≤ longest_value
made_value_short number few = (let digits = length-decimal-le 4 number (omega arith) (omega (arith, few)) (omega (arith, few)) in omega (arith, digits))

-- a made request is short
pub op_short : (words : ℕ × ℕ) (client number : ℕ) → client ≤ 16 → number ≤ 1001 → IsShortOp (made_op words client number)
op_short words client number few low =
    let key = made_key_short words.1 client few in
    cond_both (eqb (words.0 % 3) 0) (Get (made_key words.1 client)) _ IsShortOp (λ _. key)
    (λ _. cond_both (eqb (words.0 % 3) 1) (Put (made_key words.1 client) (made_value number)) (Del (made_key words.1 client)) IsShortOp (λ _. (key, made_value_short number low)) (λ _. key))
