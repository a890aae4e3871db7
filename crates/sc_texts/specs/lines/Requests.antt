-- A client's requests.
use Rattle.std.specs.Prelude.{ℕ, List, Result, Ok}
use Rattle.sc_base.specs.declared.ops.Op.{Op}
use Rattle.sc_base.specs.declared.ops.Op.TheVariants.{Get, Put, Del, Add, Cas}
use Rattle.sc_texts.specs.lines.Reasons.{or_reason}
use Rattle.sc_texts.specs.lines.Words.{nth, key_in, value_in}
use Rattle.sc_texts.specs.declared.lines.reasons.Reason.{Reason}
use Rattle.sc_texts.specs.declared.lines.reasons.Reason.TheVariants.{BadKey, BadValue}
use Rattle.sc_texts.specs.declared.lines.kinds.RequestKind.{RequestKind}
use Rattle.sc_texts.specs.declared.lines.kinds.RequestKind.TheVariants as kind

-- the parser goes on with the key that the second word spells; else the key is bad
abbrev pub with_key : List (List ℕ) → (List ℕ → Result Op Reason) → Result Op Reason
with_key words onward = or_reason (key_in (nth words 1)) BadKey onward

-- the parser goes on with the value that the word at this place spells; else the value is bad
abbrev pub with_value : List (List ℕ) → ℕ → (List ℕ → Result Op Reason) → Result Op Reason
with_value words place onward = or_reason (value_in (nth words place)) BadValue onward

-- the request of this kind that a line spells, `get K`, `put K V`, `del K`, `add K V` or `cas K E V`; of several bad words the first counts
abbrev pub request_in : RequestKind → List (List ℕ) → Result Op Reason
request_in kind.Get words = with_key words (λ key. Ok (Get key))
request_in kind.Put words = with_key words (λ key. with_value words 2 (λ value. Ok (Put key value)))
request_in kind.Del words = with_key words (λ key. Ok (Del key))
request_in kind.Add words = with_key words (λ key. with_value words 2 (λ value. Ok (Add key value)))
request_in kind.Cas words = with_key words (λ key. with_value words 2 (λ expected. with_value words 3 (λ value. Ok (Cas key expected value))))
